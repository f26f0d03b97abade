-- What the calls of a store receive, of the slots and the capability of a derivation and of a move.
use Rattle.std.proofs.Common.{◌≡◌, ◌≤◌, ◌<◌, ◌+◌, ◌*◌, ◌^◌, ◌%◌, ℕ, Bool, true, false, cond, All, inl, inr, refl, sym, ◌∙◌, ap, subst, arith}
use Rattle.std.proofs.Math.Pow.{pow-lt}
use Rattle.cap_core.specs.declared.profile.ProfileName.{ProfileName}
use Rattle.cap_core.specs.declared.profile.ProfileName.TheVariants.{Wide, Narrow}
use Rattle.cap_core.specs.declared.capability.Cap.{Cap}
use Rattle.cap_core.specs.declared.capability.Cap.TheVariants.{Null, Untyped, Endpoint, CNode, Tcb}
use Rattle.cap_core.specs.Numbers.{slot_size, word_bits, max_object_bits}
use Rattle.cap_core.specs.Objects.{is_null, is_untyped, bits_of, IsLawful}
use Rattle.kernel_forest.specs.Forest.{Forest, preorder}
use Rattle.kernel_forest.specs.Entries.{Entry, caps, cap_at, is_full}
use Rattle.kernel_forest.specs.Derivation.{derived, moved, freed, with_free}
use Rattle.kernel_forest.specs.Disjoint.{IsDisjoint}
use Rattle.std.specs.List.{Contains}
use Rattle.std.proofs.lemmas.Bool.{false≢true}
use Rattle.kernel_forest.proofs.Slots.Edits.{entry_at}
use Rattle.cspace_core.specs.Resolution.{is_cnode}
use Rattle.kernel_delete.proofs.Members.{tells, each_in}
use Rattle.kernel_delete.proofs.Clearable.{contains_in, each_mapped}
use Rattle.kernel_delete.proofs.Steps.{full_here}
use Rattle.kernel_forest.proofs.Disjoint.Alike.{alike_named}
use Rattle.kernel_abstract.specs.declared.invocation.CapPlacement.{CapPlacement}
use Rattle.kernel_abstract.specs.Private.Stores.{IsKernelStore}
use Rattle.kernel_abstract.specs.Private.Invocations.{IsPlacement, IsDerivation, IsMove}
use Rattle.kernel_abstract.specs.CNodes.{with_derived}
use Rattle.kernel_abstract.proofs.Capabilities.StoresKept.{slot_ends, source_placed, slot_placed, put_disjoint, moved_disjoint, source_held, lawful-freed, source_lawful}

-- slot 0 of a node stands where the node does
pub first_slot : (p : ProfileName) (a slot : ℕ) → a ≡ slot + 0 * slot_size p → a ≡ slot
first_slot p a slot h = omega arith

bits_fit : (p : ProfileName) (memory base bits free : ℕ) → IsLawful p memory (Untyped base bits free) → bits < 64
bits_fit p memory base bits free h = let m : bits ≤ max_object_bits p = h.holds.most in fit p m
  where
    fit : (q : ProfileName) → bits ≤ max_object_bits q → bits < 64
    fit Wide m = omega arith
    fit Narrow m = omega arith

pub pow_fits : (bits : ℕ) → bits < 64 → 1 * 2 ^ bits % 2 ^ 64 ≡ 2 ^ bits
pow_fits bits h = let lt : 2 ^ bits < 2 ^ 64 = pow-lt {i = bits} {j = 64} h in small (2 ^ bits) lt
  where
    small : (n : ℕ) → n < 2 ^ 64 → 1 * n % 2 ^ 64 ≡ n
    small n h = omega arith

module _ (p : ProfileName) (memory : ℕ) (f : Forest Entry) (store : IsKernelStore p memory f) (placement : CapPlacement) where
  module _ (ends : IsPlacement p f placement) where
    pub source_aligned : placement.source % slot_size p ≡ 0
    source_aligned = (source_placed p memory f store placement ends).aligned

    pub source_end : placement.source + 1 * slot_size p ≤ 2 ^ word_bits p
    source_end = slot_ends p memory placement.source store.memory_most (source_placed p memory f store placement ends)

    pub slot_aligned : placement.slot % slot_size p ≡ 0
    slot_aligned = (slot_placed p memory f store placement ends).aligned

    pub slot_end : placement.slot + 1 * slot_size p ≤ 2 ^ word_bits p
    slot_end = slot_ends p memory placement.slot store.memory_most (slot_placed p memory f store placement ends)

  module _ (a b : ℕ) (source_is : a ≡ placement.source + 0 * slot_size p) (slot_is : b ≡ placement.slot + 0 * slot_size p) where
    there : (P : ℕ → ℕ → Type 0) → P placement.source placement.slot → P a b
    there P h = subst (P a) (sym (first_slot p b placement.slot slot_is)) (subst (λ (i : ℕ). P i placement.slot) (sym (first_slot p a placement.source source_is)) h)

    pub move_disjoint : IsMove p f placement → IsDisjoint p (moved a b placement.cap f)
    move_disjoint invocation = there (λ (i j : ℕ). IsDisjoint p (moved i j placement.cap f)) (moved_disjoint p memory f store placement invocation)

    module _ (invocation : IsDerivation p f placement) where
      pub derive_disjoint : IsDisjoint p (derived a b placement.cap f)
      derive_disjoint = there (λ (i j : ℕ). IsDisjoint p (derived i j placement.cap f)) (put_disjoint p memory f store placement invocation)

      -- an untyped region is used up
      module _ (base bits free : ℕ) (is : placement.cap ≡ Untyped base bits free) (g : Forest Entry) (after : g ≡ derived a b placement.cap f) where
        pub few_bits : bits < 64
        few_bits = bits_fit p memory base bits free (subst (IsLawful p memory) is (invocation.ends.lawful memory store.lawful))

        source_after : cap_at g a ≡ cap_at f placement.source
        source_after =
            ap (λ (h : Forest Entry). cap_at h a) after
            ∙ there (λ (i j : ℕ). cap_at (derived i j placement.cap f) i ≡ cap_at f placement.source) (source_held p memory f store placement invocation)

        pub free_untyped : is_untyped (cap_at g a) ≡ true
        free_untyped = ap is_untyped source_after ∙ (alike_named p (cap_at f placement.source) placement.cap invocation.ends.same).untyped ∙ ap is_untyped is

        size_is : bits ≡ bits_of p (cap_at g a)
        size_is = sym (ap (bits_of p) source_after ∙ (alike_named p (cap_at f placement.source) placement.cap invocation.ends.same).bits ∙ ap (bits_of p) is)

        pub free_lawful : (memory' : ℕ) → memory' ≡ memory → IsLawful p memory' (with_free (1 * 2 ^ bits % 2 ^ 64) (cap_at g a))
        free_lawful memory' same =
            subst (λ (n : ℕ). IsLawful p n (with_free (1 * 2 ^ bits % 2 ^ 64) (cap_at g a))) (sym same)
            (subst (λ (n : ℕ). IsLawful p memory (with_free n (cap_at g a))) (sym (pow_fits bits few_bits))
            (lawful-freed p memory bits (cap_at g a) size_is (subst (IsLawful p memory) (sym source_after) (source_lawful p memory f store placement invocation.ends))))

        pub used_up : (g' : Forest Entry) → g' ≡ freed a (1 * 2 ^ bits % 2 ^ 64) g → g' ≡ with_derived p placement f
        used_up g' last =
            last ∙ ap (λ (n : ℕ). freed a n g) (pow_fits bits few_bits ∙ ap (λ (c : Cap). 2 ^ bits_of p c) (sym is))
            ∙ ap (freed a (2 ^ bits_of p placement.cap)) after
            ∙ there (λ (i j : ℕ). freed i (2 ^ bits_of p placement.cap) (derived i j placement.cap f) ≡ freed placement.source (2 ^ bits_of p placement.cap) (derived placement.source placement.slot placement.cap f)) refl
            ∙ sym (ap (λ (b : Bool). cond b (freed placement.source (2 ^ bits_of p placement.cap) (derived placement.source placement.slot placement.cap f)) (derived placement.source placement.slot placement.cap f)) (ap is_untyped is))

-- a CNode's capability is derived as it is
pub node_derived : (p : ProfileName) (placement : CapPlacement) (f : Forest Entry) → is_cnode placement.cap ≡ true → with_derived p placement f ≡ derived placement.source placement.slot placement.cap f
node_derived p placement f node =
    ap (λ (b : Bool). cond b (freed placement.source (2 ^ bits_of p placement.cap) (derived placement.source placement.slot placement.cap f)) (derived placement.source placement.slot placement.cap f)) (typed placement.cap node)
  where
    typed : (cap : Cap) → is_cnode cap ≡ true → is_untyped cap ≡ false
    typed Null h = refl
    typed (Untyped base bits free) h = absurd (false≢true h)
    typed (Endpoint base badge rights) h = refl
    typed (CNode base radix guard) h = refl
    typed (Tcb base) h = refl

-- whether a slot is full, by what it holds
pub empty_slot : (p : ProfileName) (memory slot : ℕ) (f : Forest Entry) (cap : Cap) → All (IsLawful p memory) (caps f) → cap ≡ cap_at f slot → cap ≡ Null → is_full slot f ≡ false
empty_slot p memory slot f cap lawful is null = elim (tells (is_full slot f)) [
  | inl full ↦
      let e : (e : Entry) × Contains (preorder f) e × (e.slot ≡ slot) × (e.cap ≡ cap_at f slot) = entry_at slot f full in
      let law : IsLawful p memory e.0.cap = each_in (λ (x : Entry). IsLawful p memory x.cap) (preorder f) e.0 (each_mapped (IsLawful p memory) (λ (x : Entry). x.cap) (preorder f) lawful) (contains_in (preorder f) e.0 e.1) in
      absurd (false≢true (sym law.full ∙ ap is_null (e.3 ∙ sym is ∙ null)))
  | inr none ↦ none
]

pub full_slot : (slot : ℕ) (f : Forest Entry) (cap : Cap) → cap ≡ cap_at f slot → (cap ≡ Null → ⊥) → is_full slot f ≡ true
full_slot slot f cap is some = full_here (preorder f) slot cap is some
