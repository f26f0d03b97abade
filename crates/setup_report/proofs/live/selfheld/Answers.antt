use Rattle.std.proofs.Common.{map, ◌≡◌, ◌∙◌, nat_cmp}
use Rattle.std.specs.BTreeSet.{difference}
use Rattle.slot_core.specs.Calls.{derivation_view}
use Rattle.setup_report.specs.State.{rising, holding_themselves}
use Rattle.setup_report.proofs.Addresses.Named.{rising_selfheld, where_ok}
use Rattle.setup_report.proofs.live.selfheld.Goals as goal

pub returns : goal.returns
returns g c =
    let p = g.P.Profile.profile in
    let list = map (derivation_view p) c.args.list.now in
    where_ok (λ v. v.items ≡ difference nat_cmp c.in_ok-own.own c.in_ok-others.others) (λ v. v.items ≡ rising (holding_themselves p list))
    (λ v is. is ∙ rising_selfheld p list c.in_ok-own.own c.in_ok-others.others c.in_ok-own.ensures c.in_ok-others.ensures)
    c.only_in.result c.only_in.ensures
