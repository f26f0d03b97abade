-- The proof of `finalise`: the goals that a search leaves open.
use Rattle.std.proofs.Common.{◌≡◌, ℕ, false, refl, ap, ◌∙◌, inl, inr}
use Rattle.cap_core.specs.declared.capability.Cap.{Cap}
use Rattle.cap_core.specs.declared.capability.Cap.TheVariants.{Null, Untyped, Endpoint, CNode, Tcb}
use Rattle.cap_core.specs.declared.capability.Guard.{Guard}
use Rattle.cap_core.specs.Objects.{same_object}
use Rattle.cap_core.specs.Rights.{all_rights}
use Rattle.kernel_core.proofs.Endings.EndedObjects.{endpoint_ended, thread_ended, other_ended}
use Rattle.kernel_core.proofs.ending.ThreadsFinalise.finalise.Goals as goal

pub returns-in-Endpoint : goal.returns-in-Endpoint
returns-in-Endpoint g c = endpoint_ended g.P.Profile.profile c.args.self.now.memory_bits c.end_endpoint.new.self.memory_bits c.args.self.now.rows c.end_endpoint.new.self.rows (g.W.Waiters.waits c.args.self.now.waiters) (g.W.Waiters.waits c.end_endpoint.new.self.waiters) c.args.cap c.in-Endpoint.base c.in-Endpoint.badge c.in-Endpoint.rights c.in-Endpoint.is c.end_endpoint.ensures

pub returns-in-Tcb : goal.returns-in-Tcb
returns-in-Tcb g c = thread_ended g.P.Profile.profile c.args.self.now.memory_bits c.end_thread.new.self.memory_bits c.args.self.now.rows c.end_thread.new.self.rows (g.W.Waiters.waits c.args.self.now.waiters) (g.W.Waiters.waits c.end_thread.new.self.waiters) c.args.cap c.in-Tcb.base c.in-Tcb.is c.end_thread.ensures

pub returns-in-Null : goal.returns-in-Null
returns-in-Null g c =
    other_ended g.P.Profile.profile c.args.self.now.memory_bits c.args.self.now.rows (g.W.Waiters.waits c.args.self.now.waiters) (same_object c.args.cap)
    (λ e. unlike (Endpoint e (record { 0 = 0 }) all_rights) refl (λ base bits free. refl) (λ base radix guard. refl)) (λ t. unlike (Tcb t) refl (λ base bits free. refl) (λ base radix guard. refl))
  where
    unlike : (other : Cap) → same_object Null other ≡ false → ((base bits free : ℕ) → same_object (Untyped base bits free) other ≡ false) → ((base radix : ℕ) (guard : Guard) → same_object (CNode base radix guard) other ≡ false) →
        same_object c.args.cap other ≡ false
    unlike other null untyped node = elim c.in-Null.is [
      | inl is ↦ ap (λ (cap : Cap). same_object cap other) is ∙ null
      | inr (inl (base, bits, free, is)) ↦ ap (λ (cap : Cap). same_object cap other) is ∙ untyped base bits free
      | inr (inr (base, radix, guard, is)) ↦ ap (λ (cap : Cap). same_object cap other) is ∙ node base radix guard
    ]
