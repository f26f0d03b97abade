-- Copies of a CNode's capability that are derived one after another into empty slots.
use Rattle.std.proofs.Common.{◌≡◌, ◌≢◌, ℕ, suc, ◌+◌, ◌<◌, ◌^◌, length, drop, get_or, true, false, ◌&&◌, ◌||◌, ◌==◌, List, [], ◌∷◌, sym, ◌∙◌, ap, subst, arith, inl, ◌⊎◌, None}
use Rattle.std.specs.List.{AllByRecursion as Each}
use Rattle.std.proofs.lemmas.Bool.Decides.{nat_tests}
use Rattle.cap_core.specs.declared.profile.ProfileName.{ProfileName}
use Rattle.cap_core.specs.declared.capability.Cap.{Cap}
use Rattle.cap_core.specs.declared.capability.Cap.TheVariants.{CNode}
use Rattle.cap_core.specs.declared.capability.Guard.{Guard}
use Rattle.cap_core.specs.Objects.{IsLawful, is_untyped, badge_of, contains, same_object}
use Rattle.kernel_forest.specs.Forest.{Forest, preorder}
use Rattle.kernel_forest.specs.Entries.{Entry, is_full, cap_at, first_child}
use Rattle.kernel_forest.specs.Derivation.{derived, names_same}
use Rattle.kernel_forest.specs.Disjoint.{IsDisjoint}
use Rattle.kernel_forest.proofs.Trees.Forests.{each-weaker, each-contained}
use Rattle.kernel_forest.proofs.Slots.Edits.{each-derived, full-derived, cap-derived_other}
use Rattle.kernel_forest.proofs.Disjoint.Disjointness.{disjoint-derived}
use Rattle.cap_core.specs.Numbers.{slot_size}
use Rattle.std.proofs.Math.Seq.{drop-cons}
use Rattle.kernel_abstract.specs.Boot.{with_spaces}
use Rattle.kernel_abstract.proofs.Boot.Puts.{not_at}

abbrev pub AreDifferent : List ℕ → Type 0
AreDifferent [] = Unit {0}
AreDifferent (slot ∷ slots) = Each (λ (other : ℕ). (slot == other) ≡ false) slots × AreDifferent slots

-- the CNode's capability in the source slot can be derived into each slot of the list
pub record CanDerive (p : ProfileName) (memory source base radix : ℕ) (guard : Guard) (slots : List ℕ) (f : Forest Entry) : Type 0 where
  pub full : is_full source f ≡ true
  pub holds : cap_at f source ≡ CNode base radix guard
  pub lawful : IsLawful p memory (CNode base radix guard)
  pub outside : Each (λ (e : Entry). is_untyped e.cap ≡ true → contains p e.cap (CNode base radix guard) ≡ false) (preorder f)
  pub empty : Each (λ (e : Entry). Each (λ (slot : ℕ). (e.slot == slot) ≡ false) slots) (preorder f)
  pub different : AreDifferent slots
  pub within : Each (λ (slot : ℕ). slot < 2 ^ memory) slots
  pub disjoint : IsDisjoint p f

-- what `derive` receives
pub record IsDerive (p : ProfileName) (memory source slot : ℕ) (cap : Cap) (f : Forest Entry) : Type 0 where
  pub full : is_full source f ≡ true
  pub within : slot < 2 ^ memory
  pub empty : is_full slot f ≡ false
  pub lawful : IsLawful p memory cap
  pub same : names_same (cap_at f source) cap ≡ true
  pub badge : (badge_of cap ≡ badge_of (cap_at f source)) ⊎ (badge_of (cap_at f source) ≡ 0)
  pub childless : is_untyped cap ≡ true → first_child source f ≡ None
  pub disjoint : IsDisjoint p (derived source slot cap f)

node_same : (base radix : ℕ) → ((base == base) && (radix == radix)) ≡ true
node_same base radix = grind (arith, nat_tests)

pub first_derive : (p : ProfileName) (memory source base radix : ℕ) (guard : Guard) (slot : ℕ) (slots : List ℕ) (f : Forest Entry)
    → CanDerive p memory source base radix guard (slot ∷ slots) f → IsDerive p memory source slot (CNode base radix guard) f
first_derive p memory source base radix guard slot slots f h =
    record {
      full = h.full;
      within = h.within.0;
      empty = empty;
      lawful = h.lawful;
      same = ap (λ (c : Cap). names_same c (CNode base radix guard)) h.holds ∙ node_same base radix;
      badge = inl (sym (ap badge_of h.holds));
      childless = λ t. absurd (let n : false ≡ true = t in cc);
      disjoint = disjoint-derived p source slot (CNode base radix guard) f h.disjoint h.full empty
          (ap (λ (c : Cap). same_object c (CNode base radix guard)) h.holds ∙ node_same base radix)
          (λ u m t. each-contained (λ (e : Entry). is_untyped e.cap ≡ true → contains p e.cap (CNode base radix guard) ≡ false) (preorder f) u h.outside m t);
    }
  where
    empty : is_full slot f ≡ false
    empty = not_at slot (preorder f) (each-weaker (λ (e : Entry). Each (λ (s : ℕ). (e.slot == s) ≡ false) (slot ∷ slots)) (λ (e : Entry). (e.slot == slot) ≡ false) (λ e d. d.0) (preorder f) h.empty)

pub other_derives : (p : ProfileName) (memory source base radix : ℕ) (guard : Guard) (slot : ℕ) (slots : List ℕ) (f : Forest Entry)
    → CanDerive p memory source base radix guard (slot ∷ slots) f → CanDerive p memory source base radix guard slots (derived source slot (CNode base radix guard) f)
other_derives p memory source base radix guard slot slots f h =
    record {
      full = full-derived source source slot cap f h.full ∙ ap (λ b. b || (slot == source)) h.full;
      holds = cap-derived_other source source slot cap f apart ∙ h.holds;
      lawful = h.lawful;
      outside = each-derived (λ (e : Entry). is_untyped e.cap ≡ true → contains p e.cap cap ≡ false) source slot cap f h.outside (λ t. absurd (let n : false ≡ true = t in cc));
      empty = each-derived (λ (e : Entry). Each (λ (s : ℕ). (e.slot == s) ≡ false) slots) source slot cap f
          (each-weaker (λ (e : Entry). Each (λ (s : ℕ). (e.slot == s) ≡ false) (slot ∷ slots)) (λ (e : Entry). Each (λ (s : ℕ). (e.slot == s) ≡ false) slots) (λ e d. d.1) (preorder f) h.empty)
          h.different.0;
      different = h.different.1;
      within = h.within.1;
      disjoint = (first_derive p memory source base radix guard slot slots f h).disjoint;
    }
  where
    cap : Cap
    cap = CNode base radix guard

    apart : source ≢ slot
    apart e = let none : is_full slot f ≡ false = (first_derive p memory source base radix guard slot slots f h).empty in
        let some : is_full slot f ≡ true = (let Q : ℕ → Type 0 = λ n. is_full n f ≡ true in subst Q e h.full) in cc

-- one step of a loop over a list of slots
pub derive_next : (p : ProfileName) (memory source base radix : ℕ) (guard : Guard) (k slot d : ℕ) (slots : List ℕ) (f : Forest Entry) → k < length slots → slot ≡ get_or slots k d → source ≡ slot_size p
    → CanDerive p memory (slot_size p) base radix guard (drop k slots) f
    → IsDerive p memory source slot (CNode base radix guard) f
    × CanDerive p memory (slot_size p) base radix guard (drop (k + 1) slots) (derived source slot (CNode base radix guard) f)
    × (with_spaces p (CNode base radix guard) (drop (k + 1) slots) (derived source slot (CNode base radix guard) f) ≡ with_spaces p (CNode base radix guard) (drop k slots) f)
derive_next p memory source base radix guard k slot d slots f below is at h = (first, others, gives)
  where
    whole : drop k slots ≡ slot ∷ drop (k + 1) slots
    whole = drop-cons slots k d below ∙ ap (λ n. n ∷ drop (suc k) slots) (sym is) ∙ ap (λ n. slot ∷ drop n slots) (let e : suc k ≡ k + 1 = omega arith in e)

    can : CanDerive p memory (slot_size p) base radix guard (slot ∷ drop (k + 1) slots) f
    can = let Q : List ℕ → Type 0 = λ l. CanDerive p memory (slot_size p) base radix guard l f in subst Q whole h

    first : IsDerive p memory source slot (CNode base radix guard) f
    first = let Q : ℕ → Type 0 = λ n. IsDerive p memory n slot (CNode base radix guard) f in subst Q (sym at) (first_derive p memory (slot_size p) base radix guard slot (drop (k + 1) slots) f can)

    others : CanDerive p memory (slot_size p) base radix guard (drop (k + 1) slots) (derived source slot (CNode base radix guard) f)
    others = let Q : ℕ → Type 0 = λ n. CanDerive p memory (slot_size p) base radix guard (drop (k + 1) slots) (derived n slot (CNode base radix guard) f) in subst Q (sym at) (other_derives p memory (slot_size p) base radix guard slot (drop (k + 1) slots) f can)

    gives : with_spaces p (CNode base radix guard) (drop (k + 1) slots) (derived source slot (CNode base radix guard) f) ≡ with_spaces p (CNode base radix guard) (drop k slots) f
    gives = ap (λ n. with_spaces p (CNode base radix guard) (drop (k + 1) slots) (derived n slot (CNode base radix guard) f)) at ∙ ap (λ l. with_spaces p (CNode base radix guard) l f) (sym whole)
