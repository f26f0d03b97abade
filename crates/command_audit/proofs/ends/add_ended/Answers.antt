use Rattle.std.proofs.Common.{◌≡◌, ◌++◌, true, map, ap, sym, ◌∙◌}
use Rattle.kernel_forest.specs.Derivation.{names_same}
use Rattle.kernel_forest.specs.Entries.{derivations_of}
use Rattle.slot_core.specs.Calls.{derivation_view}
use Rattle.command_audit.specs.Ends.{is_object_named}
use Rattle.command_audit.proofs.Ended.{ends, named_seen, slot_names, stays}
use Rattle.command_audit.proofs.ends.add_ended.Goals as goal

pub returns-then-names_same : goal.returns-then-names_same
returns-then-names_same g c =
    let p = g.P.Profile.profile in
    let cap = c.args.derivation.now.cap in
    let new = map (derivation_view p) c.args.left.now in
    let same : names_same c.cap_at.result cap ≡ true = sym c.names_same.ensures ∙ c.if-names_same.true in
    let named : is_object_named cap (derivations_of c.args.new.now.derivations) ≡ true =
    slot_names c.args.new.now.derivations c.address.result cap (ap (λ x. names_same x cap) (sym c.cap_at.ensures.cap) ∙ same) in
    stays cap new c.args.caps.now.items (ap (is_object_named cap) c.requires ∙ named)

pub returns-then-contains : goal.returns-then-contains
returns-then-contains g c =
    let p = g.P.Profile.profile in
    let cap = c.args.derivation.now.cap in
    stays cap (map (derivation_view p) c.args.left.now) c.args.caps.now.items (named_seen p cap c.args.left.now ∙ (sym c.contains.ensures ∙ c.if-contains.true))

pub returns : goal.returns
returns g c =
    let p = g.P.Profile.profile in
    let cap = c.args.derivation.now.cap in
    c.in_ok-push.ensures.items
    ∙ ap (λ l. c.args.caps.now.items ++ l) (ends cap (map (derivation_view p) c.args.left.now) (named_seen p cap c.args.left.now ∙ (sym c.contains.ensures ∙ c.if-contains.false)))
