use Rattle.std.proofs.Common.{◌≡◌, take, Bor, List, ℕ}
use Rattle.std.specs.List.{filter_map}
use Rattle.setup_values.specs.Names.{names_view}
use Rattle.setup_report.specs.Meant.{object_meant}
use Rattle.setup_report.proofs.meanings.meant.each_meant.Given as goal

abbrev pub invariant-loop-word : goal.invariant-loop-word
invariant-loop-word g l =
    l.objects.items ≡ filter_map (λ (w : Bor (List ℕ)). object_meant l.kind g.P.Profile.profile (names_view l.names) l.setup.plan l.kernel w.now) (take l.word-index l.words)
