use Rattle.std.proofs.Common.{◌≡◌, drop, is_some, Bor, Bool, List, ℕ}
use Rattle.std.specs.List.{list_all}
use Rattle.setup_values.specs.Names.{names_view}
use Rattle.setup_report.specs.Meant.{object_meant}
use Rattle.setup_report.proofs.meanings.meant.each_is_meant.Given as goal

abbrev pub invariant-loop-word : goal.invariant-loop-word
invariant-loop-word g l =
    let meant : Bor (List ℕ) → Bool = λ w. is_some (object_meant l.kind g.P.Profile.profile (names_view l.names) l.setup.plan l.kernel w.now) in
    list_all meant (drop l.word-index l.words) ≡ list_all meant l.words
