use Rattle.std.proofs.Common.{◌≡◌, ◌*◌, true, sym, ◌∙◌, ap, arith}
use Rattle.cap_core.specs.Numbers.{slot_size}
use Rattle.kernel_forest.specs.Entries.{cap_at}
use Rattle.test_parts.specs.TestForests.{leaves_room}
use Rattle.test_parts.proofs.KeptForests.{each_next, room_all}
use Rattle.test_parts.proofs.slots.calls.has_room.Goals.{else-i-parent-via-then-i-parent+else-not-leaves_room, else-i-parent-via-else-i-parent}
use Rattle.std.proofs.Common.{◌≢◌}
use Rattle.test_parts.proofs.slots.calls.has_room.Goals as goal

pub loop-i-preserved : goal.loop-i-preserved
loop-i-preserved g c =
    let p = g.P.Profile.profile in
    let f = g.S.CapStore.forest c.args.store.now in
    each_next (λ k. k ≢ c.args.parent → leaves_room p c.args.region c.args.cap (cap_at f (k * slot_size p)) ≡ true) c.loop-i.i c.loop-i.invariant
    (elim c.else-i-parent.branch [
      | else-i-parent-via-then-i-parent+else-not-leaves_room w ↦ λ n.
          ap (leaves_room p c.args.region c.args.cap) (sym (w.get.ensures.cap ∙ ap (cap_at f) w.slot.ensures)) ∙ sym w.leaves_room.ensures ∙ w.if-not-leaves_room.false
      | else-i-parent-via-else-i-parent w ↦ λ n. absurd (n w.if-i-parent.false)
    ])

pub returns : goal.returns
returns g c e = room_all g.P.Profile.profile c.args.parent c.args.region c.args.cap (g.S.CapStore.forest c.args.store.now) c.requires.forest (λ k h. c.loop-i.invariant k (omega arith))
