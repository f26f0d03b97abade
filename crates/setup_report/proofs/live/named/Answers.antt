use Rattle.std.proofs.Common.{◌∙◌, sym, ap, filter_map, nat_cmp, rules, tests}
use Rattle.std.specs.BTreeSet.{IsFromIterResult}
use Rattle.std.proofs.lemmas.Iterator.{YieldsList-from_slice}
use Rattle.std.proofs.lemmas.Iterator.Adapters.{fact_from_collect}
use Rattle.std.proofs.lemmas.Iterator.Consumers.{YieldsList-from_filter_map}
use Rattle.slot_core.specs.declared.derivations.Derivation.{Derivation}
use Rattle.slot_core.specs.Calls.{derivation_view}
use Rattle.setup_report.specs.State.{named_by, rising}
use Rattle.setup_report.proofs.Addresses.Named.{filter_map_viewed, where_ok}
use Rattle.setup_report.proofs.Addresses.Rising.{rising_made}
use Rattle.setup_report.proofs.live.named.Goals as goal

pub returns : goal.returns
returns g c =
    let p = g.P.Profile.profile in
    let list = c.args.list.now in
    let base = λ (d : Derivation). named_by p c.args.naming (derivation_view p d) in
    let bases = filter_map base list in
    where_ok (IsFromIterResult nat_cmp bases) _
    (λ made is. rising_made bases made is ∙ ap rising (sym (filter_map_viewed (named_by p c.args.naming) (derivation_view p) list)))
    _
    (fact_from_collect (IsFromIterResult nat_cmp) _ c.collect.ensures.ran
    (YieldsList-from_filter_map _ base (YieldsList-from_slice list cc) c.filter_map.ensures.closure (λ x r q k. search (rules, tests))))
