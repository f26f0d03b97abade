-- The proof of `are_meant`: the goals that a search leaves open.
use Rattle.std.proofs.Common.{sym, ◌∙◌, is_some, List, ℕ, Bor}
use Rattle.std.proofs.lemmas.List.Folds.{list_all-map}
use Rattle.setup_values.specs.Names.{names_view}
use Rattle.setup_report.specs.Meant.{object_meant}
use Rattle.setup_report.proofs.meanings.meant.are_meant.Goals as goal

pub returns : goal.returns
returns g c =
    c.each_is_meant.ensures
    ∙ sym (list_all-map (λ (text : List ℕ). is_some (object_meant c.args.kind g.P.Profile.profile (names_view c.args.names.now) c.args.setup.now.plan c.args.kernel.now text)) (λ (w : Bor (List ℕ)). w.now) c.args.words.now)
