-- The proof of `slot_by_word`: the goals that a search leaves open.
use Rattle.std.proofs.Common.{◌≡◌, ℕ, ◌+◌, ◌*◌, ◌^◌, ◌%◌, ◌<◌, ◌≤◌, Ok, sym, ap, subst, ◌∙◌, arith}
use Rattle.std.proofs.Math.Nat.{pow-le-pow_right}
use Rattle.cap_core.specs.declared.limits.TheConstants.{MAX_MEMORY_BITS}
use Rattle.cap_core.specs.declared.profile.ProfileName.{ProfileName}
use Rattle.cap_core.specs.declared.profile.ProfileName.TheVariants.{Wide, Narrow}
use Rattle.cap_core.specs.Numbers.{tcb_size, slot_size, word_bits}
use Rattle.ipc_core.specs.Waits.{IsThreadAddress}
use Rattle.kernel_abstract.specs.Memory.{IsSlotAddress}
use Rattle.cap_core.specs.declared.capability.Cap.{Cap}
use Rattle.kernel_forest.specs.Entries.{cap_at}
use Rattle.slot_core.specs.Places.{address_of}
use Rattle.cspace_core.specs.Bits.{low_bits}
use Rattle.cspace_core.specs.Resolution.{resolution, found}
use Rattle.kernel_abstract.specs.Reasons.{answering}
use Rattle.kernel_abstract.specs.Lookups.{slot_found, slot_named, slot_by_word}
use Rattle.kernel_abstract.proofs.Checks.Walked.{word_found}
use Rattle.kernel_checks.proofs.lookup.slot_by_word.Goals as goal

-- a thread's address is that of a slot, its root slot
slot_aligned : (p : ProfileName) (t : ℕ) → t % tcb_size p ≡ 0 → t % slot_size p ≡ 0
slot_aligned Wide t h = omega arith
slot_aligned Narrow t h = omega arith

thread_slot : (p : ProfileName) (memory most t : ℕ) → memory ≤ most → IsThreadAddress p memory t → IsSlotAddress p most t
thread_slot p memory most t le h =
    let more : 2 ^ memory ≤ 2 ^ most = pow-le-pow_right (omega arith) le in
    record { aligned = slot_aligned p t h.aligned; within = let lt = h.within in omega arith }

-- it ends within the words of the profile
ends : (p : ProfileName) (t : ℕ) → t < 2 ^ MAX_MEMORY_BITS → t + (0 + 1) * slot_size p ≤ 2 ^ word_bits p
ends Wide t h = omega (arith, h)
ends Narrow t h = omega (arith, h)

pub of_node-root-requires-clause-aligned : goal.of_node-root-requires-clause-aligned
of_node-root-requires-clause-aligned g c =
    (thread_slot g.P.Profile.profile (g.S.CapStore.memory_bits c.args.store.now) MAX_MEMORY_BITS c.args.thread c.requires.memory c.requires.thread).aligned

pub of_node-root-requires-clause-end : goal.of_node-root-requires-clause-end
of_node-root-requires-clause-end g c =
    ends g.P.Profile.profile c.args.thread
    (thread_slot g.P.Profile.profile (g.S.CapStore.memory_bits c.args.store.now) MAX_MEMORY_BITS c.args.thread c.requires.memory c.requires.thread).within

pub returns-in-Ok : goal.returns-in-Ok
returns-in-Ok g c =
    let p = g.P.Profile.profile in
    let f = g.S.CapStore.forest c.args.store.now in
    let root = address_of p c.of_node-root.result in
    let at : root ≡ c.args.thread = (let e = c.of_node-root.ensures in omega (arith, e)) in
    let bits : c.WORD_BITS.result ≡ word_bits p = c.WORD_BITS.ensures ∙ g.met.P.Profile.word_bits_is in
    let led : slot_named p f (cap_at f root) c.args.number ≡ Ok (address_of p c.in-Ok.slot) =
    ap slot_found (ap (λ (cap : Cap). resolution p (cap_at f) cap (low_bits (word_bits p) c.args.number)) (sym c.get.ensures.cap)
    ∙ ap (λ (n : ℕ). resolution p (cap_at f) c.get.result (low_bits n c.args.number)) (sym bits)
    ∙ sym c.resolve.ensures.value ∙ ap (found p) c.in-Ok.is) in
    subst (λ t. Ok (address_of p c.in-Ok.slot) ≡ answering g.F.Failure.of (slot_by_word p f c.args.word t c.args.number)) at
    (sym (ap (answering g.F.Failure.of) (word_found p f c.args.word root c.args.number (address_of p c.in-Ok.slot) led)))
