-- The proof of `add_untypeds`: what holds at each turn of its loop.
use Rattle.std.proofs.Common.{◌≡◌, ◌++◌, ℕ, map, take}
use Rattle.cap_core.specs.declared.capability.Cap.TheVariants.{Untyped}
use Rattle.kernel_boot.proofs.store.add_untypeds.Given as goal

abbrev pub invariant-loop-untyped : goal.invariant-loop-untyped
invariant-loop-untyped l = l.caps.items ≡ l.initial.caps.items ++ map (λ (u : ℕ × ℕ). Untyped u.0 u.1 0) (take l.untyped-index l.plan.untypeds)
