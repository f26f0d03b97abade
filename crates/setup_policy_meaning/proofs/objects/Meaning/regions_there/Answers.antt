use Rattle.std.proofs.Common.{◌∙◌, List, ap}
use Rattle.std.specs.List.{filter_map}
use Rattle.setup_report.specs.State.{Derived}
use Rattle.setup_policy_meaning.specs.Regions.{region_at}
use Rattle.setup_policy_meaning.proofs.Rows.{filter_map_rows}
use Rattle.setup_policy_meaning.proofs.objects.Meaning.regions_there.Goals as goal

pub returns : goal.returns
returns g c =
    c.in_ok-regions.ensures
    ∙ (filter_map_rows g.P.Profile.profile (region_at c.args.base) c.args.rows.now
    ∙ ap (λ (ds : List Derived). filter_map (λ (d : Derived). region_at c.args.base d.0.cap) ds) c.requires)
