use Rattle.std.proofs.Common.{not, length, filter, List, ◌==◌, ap, ◌∙◌}
use Rattle.std.specs.List.{list_any}
use Rattle.kernel_forest.specs.Derivation.{names_same}
use Rattle.slot_core.specs.declared.derivations.Derivation.{Derivation}
use Rattle.query_revoke.specs.Keyed.{is_keyed_by}
use Rattle.query_revoke.proofs.Named.{null_unnamed, not_null, named_by_number}
use Rattle.query_revoke.proofs.index.NamedObjects.contains.Goals as goal

pub returns-in-Null : goal.returns-in-Null
returns-in-Null c = null_unnamed c.args.cap c.args.self.now c.in-Null.is

pub returns : goal.returns
returns c =
    ap not (c.is_empty.ensures ∙ ap (λ l. length l == 0) c.at_key.ensures)
    ∙ ((λ i. not (length (filter (is_keyed_by (c.object_number.ensures.number i)) (c.as_slice.ensures.value i)) == 0))
    ∙ (named_by_number c.self.inside.list.items c.self.inside.objects.items c.args.cap c.self.invariant.numbers c.self.invariant.small (not_null c.args.cap c.in_default.not-Null) c.object_number.ensures.small
    ∙ ap (λ (l : List Derivation). list_any (λ (d : Derivation). names_same d.cap c.args.cap) l) c.self.view_is))
