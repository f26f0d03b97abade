-- The proof of `make_objects`: what holds at each turn of its loop.
use Rattle.std.proofs.Common.{◌≡◌, ◌*◌}
use Rattle.cap_core.specs.Numbers.{slot_size}
use Rattle.kernel_abstract.specs.Retyping.{with_new, with_objects}
use Rattle.kernel_abstract.proofs.Retype.PutInOrder.{CanMake}
use Rattle.kernel_abstract.proofs.Capabilities.PutObjects.{puts_from}
use Rattle.kernel_core.proofs.objects.make_objects.Given as goal

-- the capabilities from object i on are still to be put, which gives what the retype gives
abbrev pub invariant-loop-i : goal.invariant-loop-i
invariant-loop-i g l =
    record {
      memory : g.S.CapStore.memory_bits l.store ≡ g.S.CapStore.memory_bits l.fn.store;
      parent : l.untyped.place * slot_size g.P.Profile.profile ≡ l.new.untyped;
      can : CanMake g.P.Profile.profile (g.S.CapStore.memory_bits l.fn.store) l.new.untyped (puts_from g.P.Profile.profile l.new l.i) (g.S.CapStore.forest l.store);
      gives : with_new l.new.untyped (puts_from g.P.Profile.profile l.new l.i) (g.S.CapStore.forest l.store) ≡ with_objects g.P.Profile.profile l.new (g.S.CapStore.forest l.fn.store);
    }
