-- The proof of `objects_meant`: the goals that a search leaves open.
use Rattle.std.proofs.Common.{◌∙◌, sym, List, ℕ, Bor}
use Rattle.setup_values.specs.Names.{names_view}
use Rattle.setup_report.specs.Meant.{object_meant}
use Rattle.setup_report.proofs.Seen.{filter_map_seen, where_ok}
use Rattle.setup_report.proofs.meanings.meant.objects_meant.Goals as goal

pub returns : goal.returns
returns g c =
    let seen = filter_map_seen (object_meant c.args.kind g.P.Profile.profile (names_view c.args.names.now) c.args.setup.now.plan c.args.kernel.now) (λ (w : Bor (List ℕ)). w.now) c.args.words.now in
    where_ok _ _ (λ v is. is ∙ sym seen) c.each_meant.result c.each_meant.ensures
