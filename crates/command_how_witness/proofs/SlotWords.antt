-- Each slot of a thread's CNode has a word, where the guard and the radix have all bits of a word together.
use Rattle.std.proofs.Common.{◌≡◌, ℕ, ◌+◌, ◌-◌, ◌*◌, ◌/◌, ◌%◌, ◌^◌, ◌<◌, ◌≤◌, ◌⊎◌, sym, ap, ◌∙◌, subst, arith, Bool, cond, List, [], length, All, Result, Ok}
use Rattle.std.proofs.Math.Bool.{and-false}
use Rattle.std.proofs.Math.Nat.{mod-eq_of_lt}
use Rattle.std.proofs.lemmas.Nat.{div-mul-add, mod-mul-add}
use Rattle.cap_core.specs.declared.profile.ProfileName.{ProfileName}
use Rattle.cap_core.specs.declared.capability.Cap.{Cap}
use Rattle.cap_core.specs.declared.capability.Cap.TheVariants.{Null, CNode}
use Rattle.cap_core.specs.declared.capability.Guard.{Guard}
use Rattle.cap_core.specs.declared.refusal.LookupFault.{LookupFault}
use Rattle.cap_core.specs.Numbers.{word_bits}
use Rattle.cap_core.specs.Objects.{IsLawful}
use Rattle.kernel_forest.specs.Forest.{Forest}
use Rattle.kernel_forest.specs.Entries.{Entry, cap_at, caps}
use Rattle.cspace_core.specs.Bits.{low_bits}
use Rattle.cspace_core.specs.Inside.{IsSlotOf}
use Rattle.cspace_core.specs.Resolution.{Choice, Found, is_cnode, slot_of, choice, found_or, resolution_within, resolution}
use Rattle.cspace_core.proofs.Nodes.{lawful_node, slot_chosen}
use Rattle.cspace_core.proofs.Steps.{choice_is}
use Rattle.kernel_abstract.specs.Lookups.{slot_found, slot_named}
use Rattle.kernel_abstract.specs.Shown.{Shown}
use Rattle.kernel_abstract.proofs.Checks.FoundSlots.{lawful_at}
use Rattle.command_never.specs.Still.{IsReadyToPass}

-- the bits of the guard and of an index lead to the slot with this index
chosen : (p : ProfileName) (base radix index : ℕ) (guard : Guard) → guard.size + radix ≡ word_bits p → guard.value < 2 ^ guard.size → index < 2 ^ radix →
    choice p (CNode base radix guard) (low_bits (word_bits p) (guard.value * 2 ^ radix + index)) ≡ Ok (record { slot = slot_of p base index; left = [] })
unfolding low_bits
chosen p base radix index guard whole cut small =
    let word : ℕ = guard.value * 2 ^ radix + index in
    let long : guard.size ≤ word_bits p = omega (arith, whole) in
    let enough : radix ≤ word_bits p - guard.size = omega (arith, whole) in
    let rest : word_bits p - guard.size ≡ radix = omega (arith, whole) in
    let none : word_bits p - guard.size - radix ≡ 0 = omega (arith, whole) in
    let begins : word / 2 ^ (word_bits p - guard.size) % 2 ^ guard.size ≡ guard.value =
    ap (λ (m : ℕ). word / 2 ^ m % 2 ^ guard.size) rest
    ∙ (ap (λ (x : ℕ). x % 2 ^ guard.size) (div-mul-add guard.value (2 ^ radix) index small) ∙ mod-eq_of_lt cut) in
    let all : word / 1 ≡ word = omega arith in
    let low : word / 2 ^ 0 % 2 ^ radix ≡ index = ap (λ (x : ℕ). x % 2 ^ radix) all ∙ mod-mul-add guard.value (2 ^ radix) index small in
    let made : ℕ → Result Choice LookupFault = λ m. Ok (record { slot = slot_of p base (word / 2 ^ m % 2 ^ radix); left = low_bits m word }) in
    let ends : ℕ → Result Choice LookupFault = λ i. Ok (record { slot = slot_of p base i; left = [] }) in
    choice_is p _ _ _ (slot_chosen p base radix guard (word_bits p) word long begins enough) ∙ (ap made none ∙ ap ends low)

leads : (p : ProfileName) (f : Forest Entry) (thread base radix index : ℕ) (guard : Guard) → cap_at f thread ≡ CNode base radix guard →
    guard.size + radix ≡ word_bits p → guard.value < 2 ^ guard.size → index < 2 ^ radix →
    slot_named p f (cap_at f thread) (guard.value * 2 ^ radix + index) ≡ Ok (slot_of p base index)
unfolding resolution resolution_within
leads p f thread base radix index guard root whole cut small =
    let bits : List ℕ = low_bits (word_bits p) (guard.value * 2 ^ radix + index) in
    let slot : ℕ = slot_of p base index in
    let on : Cap → List ℕ → Result Found LookupFault = resolution_within p (cap_at f) (length bits) in
    let here : choice p (cap_at f thread) bits ≡ Ok (record { slot = slot; left = [] }) =
    ap (λ (cap : Cap). choice p cap bits) root ∙ chosen p base radix index guard whole cut small in
    ap (λ (r : Result Choice LookupFault). slot_found (found_or (cap_at f) on r)) here
    ∙ ap (λ (b : Bool). slot_found (cond b (on (cap_at f slot) []) (Ok (record { slot = slot; left = 0 })))) (and-false (is_cnode (cap_at f slot)))

-- a word of a thread that leads to a slot
abbrev pub HasWord : ProfileName → Forest Entry → ℕ → ℕ → Type 0
HasWord p f thread slot = (word : ℕ) × (slot_named p f (cap_at f thread) word ≡ Ok slot)

module _ (p : ProfileName) (memory : ℕ) (v : Shown) (lawful : All (IsLawful p memory) (caps v.derivations)) (thread : ℕ) (ready : IsReadyToPass p v thread) where
  -- each slot of its CNode has one
  pub has_word : (slot : ℕ) → IsSlotOf p (cap_at v.derivations thread) slot → HasWord p v.derivations thread slot
  has_word slot inside =
      let node = lawful_node p memory ready.base ready.radix ready.guard (subst (λ (cap : Cap). (cap ≡ Null) ⊎ IsLawful p memory cap) ready.root (lawful_at p memory v.derivations lawful thread)) in
      let place : IsSlotOf p (CNode ready.base ready.radix ready.guard) slot = subst (λ (cap : Cap). IsSlotOf p cap slot) ready.root inside in
      (ready.guard.value * 2 ^ ready.radix + place.0, leads p v.derivations thread ready.base ready.radix place.0 ready.guard ready.root ready.whole node.holds.cut place.1.0 ∙ ap Ok (sym place.1.1))
