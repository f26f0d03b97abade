-- The loop that puts the capabilities of new objects.
use Rattle.std.proofs.Common.{◌≡◌, ℕ, suc, ◌+◌, ◌-◌, ◌*◌, ◌%◌, ◌^◌, ◌≤◌, ◌<◌, List, ◌∷◌, map, All, sym, ◌∙◌, ap, subst, arith}
use Rattle.std.specs.List.{Contains, range_with_len}
use Rattle.std.proofs.Math.Nat.{pow-le-pow_right}
use Rattle.std.proofs.lemmas.Nat.{pow_pos}
use Rattle.cap_core.specs.declared.limits.TheConstants.{MAX_MEMORY_BITS}
use Rattle.cap_core.specs.declared.profile.ProfileName.{ProfileName}
use Rattle.cap_core.specs.declared.profile.ProfileName.TheVariants.{Wide, Narrow}
use Rattle.cap_core.specs.declared.capability.Cap.{Cap}
use Rattle.cap_core.specs.Numbers.{slot_size, word_bits}
use Rattle.cap_core.specs.Kinds.{new_cap}
use Rattle.cap_core.specs.Objects.{IsLawful}
use Rattle.mem_core.specs.Plans.{object_at}
use Rattle.kernel_forest.specs.Forest.{Forest, preorder}
use Rattle.kernel_forest.specs.Entries.{Entry, cap_at, caps, slots}
use Rattle.kernel_forest.specs.Derivation.{retyped}
use Rattle.kernel_forest.proofs.Trees.Forests.{each-contained}
use Rattle.kernel_forest.proofs.Slots.Edits.{entry_at}
use Rattle.cspace_core.specs.Resolution.{slot_of}
use Rattle.kernel_abstract.specs.declared.invocation.NewObjects.{NewObjects}
use Rattle.kernel_abstract.specs.Memory.{IsSlotAddress}
use Rattle.kernel_abstract.specs.Retyping.{with_new, new_caps}
use Rattle.kernel_abstract.specs.Private.Invocations.{IsRetype}
use Rattle.kernel_abstract.proofs.Retype.LiveRetyped.{untyped_full}
use Rattle.kernel_abstract.proofs.Retype.PutInOrder.{IsPutNew, CanMake, first_new, other_new}
use Rattle.kernel_abstract.proofs.Retype.RetypedForest.{each_slot, lies, untyped_lawful}

-- a slot's address, and the slot behind it, are words
slot_end : (p : ProfileName) (memory address : ℕ) → memory ≤ MAX_MEMORY_BITS → IsSlotAddress p memory address → address + slot_size p ≤ 2 ^ word_bits p
slot_end p memory address most h =
    let more : 2 ^ memory ≤ 2 ^ MAX_MEMORY_BITS = pow-le-pow_right {n = 2} (omega arith) most in
    let w = h.within in
    wide p (omega arith)
  where
    wide : (p : ProfileName) → address < 2 ^ MAX_MEMORY_BITS → address + slot_size p ≤ 2 ^ word_bits p
    wide Wide h = omega arith
    wide Narrow h = omega arith

module _ (p : ProfileName) (memory : ℕ) (f : Forest Entry) (new : NewObjects) (is : IsRetype p f new) (most : memory ≤ MAX_MEMORY_BITS) where
  -- the untyped's slot
  pub untyped_placed : All (IsSlotAddress p memory) (slots f) → IsSlotAddress p memory new.untyped
  untyped_placed placed =
      let s : (s : Entry) × Contains (preorder f) s × (s.slot ≡ new.untyped) × (s.cap ≡ cap_at f new.untyped) = entry_at new.untyped f (untyped_full new.untyped f is.untyped) in
      subst (IsSlotAddress p memory) s.2 (each-contained (λ (e : Entry). IsSlotAddress p memory e.slot) (preorder f) s.0 (each_slot (IsSlotAddress p memory) f placed) s.1)

  pub untyped_end : All (IsSlotAddress p memory) (slots f) → new.untyped + (0 + 1) * slot_size p ≤ 2 ^ word_bits p
  untyped_end placed = let e = slot_end p memory new.untyped most (untyped_placed placed) in let z : (0 + 1) * slot_size p ≡ slot_size p = grind arith in omega arith

  -- the slots of the new objects
  pub first_aligned : All (IsLawful p memory) (caps f) → new.first_slot % slot_size p ≡ 0
  first_aligned lawful =
      let some = is.some in
      let z : slot_of p new.first_slot 0 ≡ new.first_slot = omega arith in
      ap (λ n. n % slot_size p) (sym z) ∙ (is.slots memory lawful 0 (omega arith)).aligned

  pub slot_within_word : All (IsLawful p memory) (caps f) → (i : ℕ) → i < new.count → new.first_slot + (i + 1) * slot_size p ≤ 2 ^ word_bits p
  slot_within_word lawful i lt =
      let e = slot_end p memory (slot_of p new.first_slot i) most (is.slots memory lawful i lt) in
      let z : (i + 1) * slot_size p ≡ i * slot_size p + slot_size p = grind arith in
      omega arith

  -- the addresses of the new objects are words
  pub object_below : All (IsLawful p memory) (caps f) → (i : ℕ) → i < new.count → object_at new.placed i < 2 ^ memory
  object_below lawful i lt =
      let u = (lies p f new is).used i lt in
      let w = (lies p f new is).within in
      let m = (untyped_lawful p f new is memory lawful).placed.within in
      let pos = pow_pos new.shape.bits in
      omega arith

  pub object_word : All (IsLawful p memory) (caps f) → (i : ℕ) → i < new.count → object_at new.placed i < 2 ^ 64
  object_word lawful i lt =
      let more : 2 ^ memory ≤ 2 ^ MAX_MEMORY_BITS = pow-le-pow_right {n = 2} (omega arith) most in
      let b = object_below lawful i lt in
      omega arith

-- slot 0 stands at the base
pub first_slot_at : (n base size : ℕ) → n ≡ base + 0 * size → n ≡ base
first_slot_at n base size h = omega arith

-- the capabilities from object i on
abbrev pub puts_from : ProfileName → NewObjects → ℕ → List (ℕ × Cap)
puts_from p new i = map (λ k. (slot_of p new.first_slot k, new_cap new.shape.kind (object_at new.placed k) new.shape.size_bits)) (range_with_len i (new.count - i))

pub puts_start : (p : ProfileName) (new : NewObjects) → puts_from p new 0 ≡ new_caps p new
puts_start p new = ap (λ n. map (λ k. (slot_of p new.first_slot k, new_cap new.shape.kind (object_at new.placed k) new.shape.size_bits)) (range_with_len 0 n)) (let e : new.count - 0 ≡ new.count = omega arith in e)

-- one step of the loop
pub put_new_next : (p : ProfileName) (memory parent slot i : ℕ) (cap : Cap) (new : NewObjects) (f : Forest Entry) → i < new.count → parent ≡ new.untyped → slot ≡ slot_of p new.first_slot i
    → cap ≡ new_cap new.shape.kind (object_at new.placed i) new.shape.size_bits → CanMake p memory new.untyped (puts_from p new i) f
    → IsPutNew p memory parent slot cap f × CanMake p memory new.untyped (puts_from p new (i + 1)) (retyped parent slot cap f)
    × (with_new new.untyped (puts_from p new (i + 1)) (retyped parent slot cap f) ≡ with_new new.untyped (puts_from p new i) f)
put_new_next p memory parent slot i cap new f lt parent_is slot_is cap_is can = (first, others, gives)
  where
    put_of : ℕ → ℕ × Cap
    put_of k = (slot_of p new.first_slot k, new_cap new.shape.kind (object_at new.placed k) new.shape.size_bits)

    whole : puts_from p new i ≡ put_of i ∷ puts_from p new (i + 1)
    whole = ap (λ n. map put_of (range_with_len i n)) (let e : new.count - i ≡ suc (new.count - (i + 1)) = omega arith in e)

    can' : CanMake p memory new.untyped (put_of i ∷ puts_from p new (i + 1)) f
    can' = let Q : List (ℕ × Cap) → Type 0 = λ l. CanMake p memory new.untyped l f in subst Q whole can

    first : IsPutNew p memory parent slot cap f
    first = rw (parent_is, slot_is, cap_is) (first_new p memory new.untyped (put_of i) (puts_from p new (i + 1)) f can')

    others : CanMake p memory new.untyped (puts_from p new (i + 1)) (retyped parent slot cap f)
    others = rw (parent_is, slot_is, cap_is) (other_new p memory new.untyped (put_of i) (puts_from p new (i + 1)) f can')

    gives : with_new new.untyped (puts_from p new (i + 1)) (retyped parent slot cap f) ≡ with_new new.untyped (puts_from p new i) f
    gives = rw (parent_is, slot_is, cap_is) (ap (λ (l : List (ℕ × Cap)). with_new new.untyped l f) (sym whole))
