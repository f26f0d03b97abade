use Rattle.std.proofs.Common.{◌≡◌, ◌&&◌, true, Bool, refl, get_or, sym, ◌∙◌}
use Rattle.cap_core.specs.declared.capability.Cap.{Cap}
use Rattle.query_revoke.specs.Private.{is_node_or_thread, is_within_alone, ends_slots}
use Rattle.query_revoke.proofs.Named.{any_here}
use Rattle.query_revoke.proofs.revoked.ends_slots.Goals as goal

both : (a b : Bool) → a ≡ true → b ≡ true → (a && b) ≡ true
both a b h k = rw (h, k) refl

pub returns-then-is_named_within : goal.returns-then-is_named_within
returns-then-is_named_within c =
    let cap : Cap = (get_or c.args.list.now c.loop-place.place c.index-list-place.result).cap in
    any_here (ends_slots c.args.objects.now c.args.start c.args.end) c.args.list.now c.args.start c.args.end c.loop-place.place c.index-list-place.result cap
    c.loop-place.invariant.low c.loop-place-test.true c.requires.end refl
    (both (is_node_or_thread cap) (is_within_alone c.args.objects.now c.args.start c.args.end cap) (sym c.has_slots.ensures ∙ c.if-has_slots.true) (sym c.is_named_within.ensures ∙ c.if-is_named_within.true))
