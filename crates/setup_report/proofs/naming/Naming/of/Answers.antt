-- What is looked up gives the texts of the state.
use Rattle.std.proofs.Common.{◌≡◌, Bool, ap, sym, ◌∙◌}
use Rattle.std.specs.List.{filter_map}
use Rattle.slot_core.specs.declared.derivations.Derivation.{Derivation}
use Rattle.setup_values.specs.Names.{names_view}
use Rattle.setup_report.specs.Naming.{node_of, texts_of}
use Rattle.setup_report.proofs.ByNames.{known_texts}
use Rattle.setup_report.proofs.naming.Naming.of.Goals as goal

pub returns-then-not-by_name : goal.returns-then-not-by_name
returns-then-not-by_name g c =
    ap (λ (b : Bool). texts_of b g.P.Profile.profile (names_view c.args.names.now) c.args.plan.now c.args.kernel.now) (sym c.if-not-by_name.true)

pub returns : goal.returns
returns g c =
    let p = g.P.Profile.profile in
    let plan = c.args.plan.now in
    let v = c.args.kernel.now in
    let known = c.new-known.result in
    let boots = c.in_ok-boot.boot.items in
    let rows = c.in_ok-rows.rows.items in
    let nodes : known.nodes.items ≡ filter_map (λ (d : Derivation). node_of d.cap) rows =
    c.new-known.ensures.nodes ∙ (c.in_ok-nodes.ensures ∙ ap (filter_map (λ (d : Derivation). node_of d.cap)) c.as_slice.ensures.value) in
    known_texts p plan v known boots rows c.new-known.ensures.slots c.new-known.ensures.slot_bits c.new-known.ensures.boot c.in_ok-boot.ensures nodes c.in_ok-rows.ensures.list
    ∙ (λ i. texts_of (sym c.if-not-by_name.false i) p (names_view (c.new-known.ensures.names i)) plan v)
