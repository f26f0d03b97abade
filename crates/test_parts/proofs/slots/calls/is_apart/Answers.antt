use Rattle.std.proofs.Common.{◌≡◌, ◌*◌, true, sym, ◌∙◌, ap, arith}
use Rattle.cap_core.specs.Numbers.{slot_size}
use Rattle.kernel_forest.specs.Entries.{cap_at}
use Rattle.test_parts.specs.TestForests.{is_clear}
use Rattle.test_parts.proofs.KeptForests.{each_next, apart_all}
use Rattle.test_parts.proofs.slots.calls.is_apart.Goals as goal

pub loop-i-preserved : goal.loop-i-preserved
loop-i-preserved g c =
    let p = g.P.Profile.profile in
    let f = g.S.CapStore.forest c.args.store.now in
    let at : c.get.result ≡ cap_at f (c.loop-i.i * slot_size p) = c.get.ensures.cap ∙ ap (cap_at f) c.slot.ensures in
    each_next (λ k. is_clear p c.args.cap (cap_at f (k * slot_size p)) ≡ true) c.loop-i.i c.loop-i.invariant (ap (is_clear p c.args.cap) (sym at) ∙ sym c.is_clear.ensures ∙ c.if-not-is_clear.false)

pub returns : goal.returns
returns g c e = apart_all g.P.Profile.profile c.args.cap (g.S.CapStore.forest c.args.store.now) c.requires.forest (λ k h. c.loop-i.invariant k (omega arith))
