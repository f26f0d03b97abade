-- Capabilities of disjoint objects that are put one after another into the slots of the root CNode.
use Rattle.std.proofs.Common.{◌≡◌, ℕ, suc, ◌+◌, ◌*◌, ◌^◌, ◌<◌, ◌≤◌, true, false, ◌||◌, ◌==◌, List, [], ◌∷◌, ◌++◌, length, map, drop, get_or, append_assoc, refl, sym, ◌∙◌, ap, subst, arith, nat_le}
use Rattle.std.specs.List.{AllByRecursion as Each, list_any, range_with_len}
use Rattle.std.proofs.lemmas.List.FromFn.{map-range_with_len_more}
use Rattle.std.proofs.lemmas.Bool.Decides.{nat_tests}
use Rattle.std.proofs.Math.Nat.{one-le-pow}
use Rattle.std.proofs.Math.Seq.{drop-cons}
use Rattle.cap_core.specs.declared.profile.ProfileName.{ProfileName}
use Rattle.cap_core.specs.declared.profile.ProfileName.TheVariants.{Wide, Narrow}
use Rattle.cap_core.specs.declared.capability.Cap.{Cap}
use Rattle.cap_core.specs.Numbers.{slot_size}
use Rattle.cap_core.specs.Objects.{IsLawful, base_of, bits_of, same_object, are_apart}
use Rattle.kernel_forest.specs.Forest.{Forest, preorder}
use Rattle.kernel_forest.specs.Entries.{Entry, entry, is_at, is_full, cap_at}
use Rattle.kernel_forest.specs.Derivation.{rooted, is_named}
use Rattle.kernel_forest.specs.Disjoint.{IsDisjoint}
use Rattle.kernel_forest.proofs.Trees.Forests.{each-weaker, each-contained}
use Rattle.kernel_forest.proofs.Slots.Edits.{each-rooted, full-rooted, cap-rooted_other}
use Rattle.kernel_forest.proofs.Disjoint.Disjointness.{AreSame, are_same, disjoint-rooted}
use Rattle.kernel_abstract.specs.Boot.{with_roots}

-- the objects of a list are apart from one another
abbrev pub AreApart : ProfileName → List Cap → Type 0
AreApart p [] = Unit {0}
AreApart p (cap ∷ caps) = Each (λ (c : Cap). are_apart p cap c ≡ true) caps × AreApart p caps

-- the list can be put from slot i on: its objects are apart from one another and from those that are there
pub record CanPut (p : ProfileName) (memory i : ℕ) (caps : List Cap) (f : Forest Entry) : Type 0 where
  pub apart : AreApart p caps
  pub old : Each (λ (e : Entry). Each (λ (c : Cap). are_apart p e.cap c ≡ true) caps) (preorder f)
  pub lawful : Each (IsLawful p memory) caps
  pub below : Each (λ (e : Entry). e.slot < i * slot_size p) (preorder f)
  pub room : (i + length caps) * slot_size p ≤ 2 ^ memory
  pub disjoint : IsDisjoint p f

-- what `put_root` receives
pub record IsPut (p : ProfileName) (memory slot : ℕ) (cap : Cap) (f : Forest Entry) : Type 0 where
  pub within : slot < 2 ^ memory
  pub empty : is_full slot f ≡ false
  pub lawful : IsLawful p memory cap
  pub unnamed : is_named cap f ≡ false
  pub disjoint : IsDisjoint p (rooted slot cap f)

pub not_at : (slot : ℕ) (l : List Entry) → Each (λ (e : Entry). (e.slot == slot) ≡ false) l → list_any (is_at slot) l ≡ false
not_at slot [] h = refl
not_at slot (e ∷ l) h = rw h.0 (not_at slot l h.1)

below_differs : (a b : ℕ) → a < b → (a == b) ≡ false
below_differs a b h = grind (arith, nat_tests)

-- apart objects are not one
pub apart-same : (p : ProfileName) (a b : Cap) → are_apart p a b ≡ true → same_object a b ≡ false
apart-same p a b h =
    (elim (same_object a b) as (λ s. same_object a b ≡ s → s ≡ false) [
      | false ↦ λ e. refl
      | true ↦ λ e. let s : AreSame p a b = are_same p a b e in absurd (overlap (base_of a) (base_of b) (2 ^ bits_of p a) (2 ^ bits_of p b) (one-le-pow (bits_of p a) 2 (omega arith)) (one-le-pow (bits_of p b) 2 (omega arith)) s.base (ap (λ n. 2 ^ n) s.bits) h)
    ]) refl
  where
    overlap : (i j m n : ℕ) → 1 ≤ m → 1 ≤ n → i ≡ j → m ≡ n → (nat_le (i + m) j || nat_le (j + n) i) ≡ true → ⊥
    overlap i j m n u v e e' h = grind (arith, nat_tests)

-- the first capability of the list can be put, and then the others

within : (p : ProfileName) (i n memory : ℕ) → (i + suc n) * slot_size p ≤ 2 ^ memory → i * slot_size p < 2 ^ memory
within Wide i n memory h = omega arith
within Narrow i n memory h = omega arith

next_slot : (p : ProfileName) (i : ℕ) → i * slot_size p < (i + 1) * slot_size p
next_slot Wide i = omega arith
next_slot Narrow i = omega arith

pub first_put : (p : ProfileName) (memory i : ℕ) (cap : Cap) (caps : List Cap) (f : Forest Entry) → CanPut p memory i (cap ∷ caps) f → IsPut p memory (i * slot_size p) cap f
first_put p memory i cap caps f h =
    record {
      within = within p i (length caps) memory h.room;
      empty = not_at (i * slot_size p) (preorder f) (each-weaker (λ (e : Entry). e.slot < i * slot_size p) (λ (e : Entry). (e.slot == (i * slot_size p)) ≡ false) (λ e b. below_differs e.slot (i * slot_size p) b) (preorder f) h.below);
      lawful = h.lawful.0;
      unnamed = unnamed (preorder f) h.old;
      disjoint = disjoint-rooted p (i * slot_size p) cap f h.disjoint h.lawful.0.full (λ e m. (each-contained (λ (e : Entry). Each (λ (c : Cap). are_apart p e.cap c ≡ true) (cap ∷ caps)) (preorder f) e h.old m).0);
    }
  where
    unnamed : (l : List Entry) → Each (λ (e : Entry). Each (λ (c : Cap). are_apart p e.cap c ≡ true) (cap ∷ caps)) l → list_any (λ (e : Entry). same_object e.cap cap) l ≡ false
    unnamed [] h = refl
    unnamed (e ∷ l) h = rw (apart-same p e.cap cap h.0.0) (unnamed l h.1)

pub other_puts : (p : ProfileName) (memory i : ℕ) (cap : Cap) (caps : List Cap) (f : Forest Entry) → CanPut p memory i (cap ∷ caps) f → CanPut p memory (i + 1) caps (rooted (i * slot_size p) cap f)
other_puts p memory i cap caps f h =
    record {
      apart = h.apart.1;
      old = each-rooted (λ (e : Entry). Each (λ (c : Cap). are_apart p e.cap c ≡ true) caps) (i * slot_size p) cap f
          (each-weaker (λ (e : Entry). Each (λ (c : Cap). are_apart p e.cap c ≡ true) (cap ∷ caps)) (λ (e : Entry). Each (λ (c : Cap). are_apart p e.cap c ≡ true) caps) (λ e a. a.1) (preorder f) h.old)
          h.apart.0;
      lawful = h.lawful.1;
      below = each-rooted (λ (e : Entry). e.slot < (i + 1) * slot_size p) (i * slot_size p) cap f
          (each-weaker (λ (e : Entry). e.slot < i * slot_size p) (λ (e : Entry). e.slot < (i + 1) * slot_size p) (λ e b. let n = next_slot p i in omega arith) (preorder f) h.below)
          (next_slot p i);
      room = let e : i + 1 + length caps ≡ i + suc (length caps) = omega arith in let Q : ℕ → Type 0 = λ n. n * slot_size p ≤ 2 ^ memory in subst Q (sym e) h.room;
      disjoint = (first_put p memory i cap caps f h).disjoint;
    }

-- what holds of the entries before, and of each that is put, holds of all
pub each-with_roots : (P : Entry → Type 0) (p : ProfileName) (i : ℕ) (caps : List Cap) (f : Forest Entry) → Each P (preorder f)
    → Each (λ (c : Cap). (k : ℕ) → i ≤ k → k < i + length caps → P (entry (k * slot_size p) c true)) caps → Each P (preorder (with_roots p i caps f))
each-with_roots P p i [] f h new = h
each-with_roots P p i (cap ∷ caps) f h new =
    each-with_roots P p (i + 1) caps (rooted (i * slot_size p) cap f)
    (each-rooted P (i * slot_size p) cap f h (new.0 i (omega arith) (omega arith)))
    (each-weaker (λ (c : Cap). (k : ℕ) → i ≤ k → k < i + suc (length caps) → P (entry (k * slot_size p) c true)) (λ (c : Cap). (k : ℕ) → i + 1 ≤ k → k < i + 1 + length caps → P (entry (k * slot_size p) c true))
    (λ c q k low high. q k (omega arith) (omega arith)) caps new.1)

pub disjoint-with_roots : (p : ProfileName) (memory i : ℕ) (caps : List Cap) (f : Forest Entry) → CanPut p memory i caps f → IsDisjoint p (with_roots p i caps f)
disjoint-with_roots p memory i [] f h = h.disjoint
disjoint-with_roots p memory i (cap ∷ caps) f h = disjoint-with_roots p memory (i + 1) caps (rooted (i * slot_size p) cap f) (other_puts p memory i cap caps f h)

-- a slot that is full stays full and holds what it held
pub full-with_roots : (p : ProfileName) (a i : ℕ) (caps : List Cap) (f : Forest Entry) → is_full a f ≡ true → is_full a (with_roots p i caps f) ≡ true
full-with_roots p a i [] f h = h
full-with_roots p a i (cap ∷ caps) f h =
    full-with_roots p a (i + 1) caps (rooted (i * slot_size p) cap f) (full-rooted a (i * slot_size p) cap f ∙ ap (λ b. b || ((i * slot_size p) == a)) h)

pub cap-with_roots : (p : ProfileName) (a i : ℕ) (caps : List Cap) (f : Forest Entry) → a < i * slot_size p → cap_at (with_roots p i caps f) a ≡ cap_at f a
cap-with_roots p a i [] f h = refl
cap-with_roots p a i (cap ∷ caps) f h =
    cap-with_roots p a (i + 1) caps (rooted (i * slot_size p) cap f) (let n = next_slot p i in omega arith)
    ∙ cap-rooted_other a (i * slot_size p) cap f (λ e. omega arith)

-- one step of a loop over a list of capabilities
pub put_next : (p : ProfileName) (memory k slot : ℕ) (caps : List Cap) (cap d : Cap) (f : Forest Entry) → k < length caps → cap ≡ get_or caps k d → slot ≡ (k + 1) * slot_size p
    → CanPut p memory (k + 1) (drop k caps) f
    → IsPut p memory slot cap f × CanPut p memory (k + 1 + 1) (drop (k + 1) caps) (rooted slot cap f) × (with_roots p (k + 1 + 1) (drop (k + 1) caps) (rooted slot cap f) ≡ with_roots p (k + 1) (drop k caps) f)
put_next p memory k slot caps cap d f below is at h = (first, others, gives)
  where
    whole : drop k caps ≡ cap ∷ drop (k + 1) caps
    whole = drop-cons caps k d below ∙ ap (λ (c : Cap). c ∷ drop (suc k) caps) (sym is) ∙ ap (λ n. cap ∷ drop n caps) (let e : suc k ≡ k + 1 = omega arith in e)

    can : CanPut p memory (k + 1) (cap ∷ drop (k + 1) caps) f
    can = let Q : List Cap → Type 0 = λ l. CanPut p memory (k + 1) l f in subst Q whole h

    first : IsPut p memory slot cap f
    first = let Q : ℕ → Type 0 = λ n. IsPut p memory n cap f in subst Q (sym at) (first_put p memory (k + 1) cap (drop (k + 1) caps) f can)

    others : CanPut p memory (k + 1 + 1) (drop (k + 1) caps) (rooted slot cap f)
    others = let Q : ℕ → Type 0 = λ n. CanPut p memory (k + 1 + 1) (drop (k + 1) caps) (rooted n cap f) in subst Q (sym at) (other_puts p memory (k + 1) cap (drop (k + 1) caps) f can)

    gives : with_roots p (k + 1 + 1) (drop (k + 1) caps) (rooted slot cap f) ≡ with_roots p (k + 1) (drop k caps) f
    gives = ap (λ n. with_roots p (k + 1 + 1) (drop (k + 1) caps) (rooted n cap f)) at ∙ ap (λ (l : List Cap). with_roots p (k + 1) l f) (sym whole)

-- one more of a list that a loop over numbers adds
pub range_added : (f : ℕ → Cap) (old before after : List Cap) (n : ℕ) (cap : Cap) → before ≡ old ++ map f (range_with_len 0 n) → after ≡ before ++ cap ∷ [] → cap ≡ f n
    → after ≡ old ++ map f (range_with_len 0 (n + 1))
range_added f old before after n cap h e is =
    e ∙ ap (λ (l : List Cap). l ++ cap ∷ []) h ∙ append_assoc old (map f (range_with_len 0 n)) (cap ∷ [])
    ∙ ap (λ (l : List Cap). old ++ l) (ap (λ (c : Cap). map f (range_with_len 0 n) ++ c ∷ []) is ∙ sym (map-range_with_len_more f 0 n n (omega arith)))
