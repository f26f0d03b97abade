-- What the store's methods read: a capability, the next slot for a child, and the two neighbours for the last of an object.
use Rattle.std.proofs.Common.{◌≡◌, ℕ, ◌+◌, ◌*◌, ◌^◌, ◌<◌, ◌≤◌, Bool, true, false, cond, not, ◌||◌, List, [], ◌∷◌, map, length, Option, Some, None, ◌⊎◌, inl, inr, refl, sym, ◌∙◌, ap, arith}
use Rattle.std.specs.Prelude.{option_map}
use Rattle.std.proofs.Math.Nat.{mul-le-mul_right}
use Rattle.cap_core.specs.declared.profile.ProfileName.{ProfileName}
use Rattle.cap_core.specs.declared.capability.Cap.TheVariants.{Null}
use Rattle.cap_core.specs.Numbers.{slot_size}
use Rattle.cap_core.specs.Objects.{is_untyped, same_object, IsLawful}
use Rattle.slot_core.specs.declared.linked.table.Link.{Link}
use Rattle.kernel_forest.specs.Entries.{is_full, cap_at, first_child}
use Rattle.kernel_forest.specs.Derivation.{is_last}
use Rattle.kernel_forest.proofs.Marked.MarkedReads.{last_told}
use Rattle.kernel_forest.specs.Marked.{is_named_before, is_named_behind, Marked, is_parent, forest_of, stands_at}
use Rattle.slot_core.specs.Links.{next_of, previous_of, row_of, head_or, last_or, Lacks, IsFree, order_of, rows_of, memory_of, IsLinkedStore}
use Rattle.kernel_forest.proofs.Trees.Built.{Absent, next_passing}
use Rattle.kernel_forest.proofs.Marked.MarkedKept.{each-back}
use Rattle.kernel_forest.proofs.Marked.MarkedSteps.{cap_nowhere, child_standing, child_nowhere}
use Rattle.slot_core.proofs.LinkedStores.LinkedSteps.{size_positive, Splits, splits, cap_split, empty_lacks, absent_rows}

-- a slot is full, and stands in the list, or empty, with an empty row
pub full_or_free : (p : ProfileName) (links : List Link) (first last : Option ℕ) (n : ℕ) → IsLinkedStore p links first last
    → Splits p links first last n ⊎ (Absent (stands_at p n) (rows_of links first) × IsFree links n)
full_or_free p links first last n inv =
    (elim (is_full (n * slot_size p) (forest_of p (rows_of links first))) as (λ c. is_full (n * slot_size p) (forest_of p (rows_of links first)) ≡ c → Splits p links first last n ⊎ (Absent (stands_at p n) (rows_of links first) × IsFree links n)) [
      | true ↦ λ e. inl (splits p links first last n inv e)
      | false ↦ λ e. let k : Lacks n (order_of links first) = empty_lacks p links first n e in inr (absent_rows p links n (order_of links first) k, inv.linked.free n k)
    ]) refl

pub cap_read : (p : ProfileName) (links : List Link) (first last : Option ℕ) (n : ℕ) → IsLinkedStore p links first last
    → (row_of links n).cap ≡ cap_at (forest_of p (rows_of links first)) (n * slot_size p)
cap_read p links first last n inv =
    elim (full_or_free p links first last n inv) [
      | inl s ↦ sym (cap_split p links first last n s)
      | inr k ↦ ap (λ (r : Marked). r.cap) k.1.row ∙ sym (cap_nowhere p n (rows_of links first) k.0)
    ]

pub lawful_read : (p : ProfileName) (links : List Link) (first last : Option ℕ) (n : ℕ) → IsLinkedStore p links first last
    → ((row_of links n).cap ≡ Null) ⊎ IsLawful p (memory_of p links) (row_of links n).cap
lawful_read p links first last n inv =
    elim (full_or_free p links first last n inv) [
      | inl s ↦ inr (each-back (λ (r : Marked). IsLawful p (memory_of p links) r.cap) (map (row_of links) s.pre) (row_of links n ∷ map (row_of links) s.post) s.kept.lawful).0
      | inr k ↦ inl (ap (λ (r : Marked). r.cap) k.1.row)
    ]

pub past_read : (p : ProfileName) (links : List Link) (first last : Option ℕ) (n : ℕ) → IsLinkedStore p links first last
    → 2 ^ memory_of p links ≤ n * slot_size p → (row_of links n).cap ≡ Null
past_read p links first last n inv h =
    elim (full_or_free p links first last n inv) [
      | inl s ↦ absurd (beyond n (length links) (slot_size p) (2 ^ memory_of p links) inv.size s.within h (one-size p))
      | inr k ↦ ap (λ (r : Marked). r.cap) k.1.row
    ]
  where
    one-size : (p : ProfileName) → 1 ≤ slot_size p
    one-size p = size_positive p

    beyond : (i c n s : ℕ) → s ≡ c * n → i < c → s ≤ i * n → 1 ≤ n → ⊥
    beyond i c n s e lt h one =
        let d : (i + 1) * n ≤ c * n = mul-le-mul_right n (omega arith) in
        let f : (i + 1) * n ≡ i * n + n = grind arith in
        omega arith

-- the first child is the next slot, where that passes the test

none_or : (i : ℕ) → Some i ≡ None → ⊥
none_or i e = cc

same_some : (i j : ℕ) → Some i ≡ Some j → i ≡ j
same_some i j e = cc

child_split : (p : ProfileName) (links : List Link) (first last : Option ℕ) (n : ℕ) (s : Splits p links first last n)
    → first_child (n * slot_size p) (forest_of p (rows_of links first)) ≡ option_map (λ (r : Marked). r.place * slot_size p) (next_passing (is_parent p (row_of links n)) (map (row_of links) s.post))
child_split p links first last n s =
    ap (λ (l : List Marked). first_child (n * slot_size p) (forest_of p l)) s.rows
    ∙ child_standing p (map (row_of links) s.pre) (row_of links n) (map (row_of links) s.post) s.stands.front s.stands.back

pub child_none : (p : ProfileName) (links : List Link) (first last : Option ℕ) (n : ℕ) → IsLinkedStore p links first last → next_of links n ≡ None
    → first_child (n * slot_size p) (forest_of p (rows_of links first)) ≡ None
child_none p links first last n inv e =
    elim (full_or_free p links first last n inv) [
      | inl s ↦ child_split p links first last n s ∙ go s.post (sym s.between.next ∙ e)
      | inr k ↦ child_nowhere p n (rows_of links first) k.0
    ]
  where
    go : (l : List ℕ) → head_or l None ≡ None → option_map (λ (r : Marked). r.place * slot_size p) (next_passing (is_parent p (row_of links n)) (map (row_of links) l)) ≡ None
    go [] d = refl
    go (i ∷ l) d = absurd (none_or i d)

pub child_next : (p : ProfileName) (links : List Link) (first last : Option ℕ) (n x : ℕ) (b : Bool) → IsLinkedStore p links first last → next_of links n ≡ Some x
    → is_parent p (row_of links n) (row_of links x) ≡ b → first_child (n * slot_size p) (forest_of p (rows_of links first)) ≡ cond b (Some (x * slot_size p)) None
child_next p links first last n x b inv e passes =
    elim (full_or_free p links first last n inv) [
      | inl s ↦ child_split p links first last n s ∙ go s.post (sym s.between.next ∙ e)
      | inr k ↦ absurd (none_or x (sym e ∙ k.1.next))
    ]
  where
    go : (l : List ℕ) → head_or l None ≡ Some x → option_map (λ (r : Marked). r.place * slot_size p) (next_passing (is_parent p (row_of links n)) (map (row_of links) l)) ≡ cond b (Some (x * slot_size p)) None
    go [] d = absurd (none_or x (sym d))
    go (i ∷ l) d =
        let j : i ≡ x = same_some i x d in
        let t : is_parent p (row_of links n) (row_of links i) ≡ b = ap (λ k. is_parent p (row_of links n) (row_of links k)) j ∙ passes in
        rw t ((elim b as (λ c. option_map (λ (r : Marked). r.place * slot_size p) (cond c (Some (row_of links i)) None) ≡ cond c (Some (x * slot_size p)) None) [ true ↦ ap (λ k. Some (k * slot_size p)) j | false ↦ refl ]))

-- the last of its object is told by the two neighbours

named_before : (links : List Link) (pre : List ℕ) (s : Marked) (a : Bool) → ((d : ℕ) → last_or None pre ≡ Some d → a ≡ same_object (row_of links d).cap s.cap) → (last_or None pre ≡ None → a ≡ false)
    → is_named_before s (map (row_of links) pre) ≡ a
named_before links [] s a some none = sym (none refl)
named_before links (i ∷ []) s a some none = sym (some i refl)
named_before links (i ∷ (j ∷ l)) s a some none = named_before links (j ∷ l) s a some none

named_behind : (links : List Link) (post : List ℕ) (s : Marked) (b : Bool) → ((d : ℕ) → head_or post None ≡ Some d → b ≡ same_object (row_of links d).cap s.cap) → (head_or post None ≡ None → b ≡ false)
    → is_named_behind s (map (row_of links) post) ≡ b
named_behind links [] s b some none = sym (none refl)
named_behind links (i ∷ l) s b some none = sym (some i refl)

pub last_read : (p : ProfileName) (links : List Link) (first last : Option ℕ) (n : ℕ) (a b : Bool) → Splits p links first last n → is_untyped (row_of links n).cap ≡ false
    → ((d : ℕ) → previous_of links n ≡ Some d → a ≡ same_object (row_of links d).cap (row_of links n).cap) → (previous_of links n ≡ None → a ≡ false)
    → ((d : ℕ) → next_of links n ≡ Some d → b ≡ same_object (row_of links d).cap (row_of links n).cap) → (next_of links n ≡ None → b ≡ false)
    → is_last (n * slot_size p) (forest_of p (rows_of links first)) ≡ not (a || b)
last_read p links first last n a b s u a_some a_none b_some b_none =
    let r : Marked = row_of links n in
    let before : is_named_before r (map (row_of links) s.pre) ≡ a = named_before links s.pre r a (λ d e. a_some d (s.between.previous ∙ e)) (λ e. a_none (s.between.previous ∙ e)) in
    let behind : is_named_behind r (map (row_of links) s.post) ≡ b = named_behind links s.post r b (λ d e. b_some d (s.between.next ∙ e)) (λ e. b_none (s.between.next ∙ e)) in
    ap (λ (l : List Marked). is_last (n * slot_size p) (forest_of p l)) s.rows
    ∙ last_told p (map (row_of links) s.pre) r (map (row_of links) s.post) s.kept.gathered s.stands
    ∙ ap (λ t. t || not (is_named_before r (map (row_of links) s.pre) || is_named_behind r (map (row_of links) s.post))) u
    ∙ ap (λ t. not (t || is_named_behind r (map (row_of links) s.post))) before
    ∙ ap (λ t. not (a || t)) behind

pub last_untyped : (p : ProfileName) (links : List Link) (first last : Option ℕ) (n : ℕ) → IsLinkedStore p links first last → is_untyped (row_of links n).cap ≡ true
    → is_last (n * slot_size p) (forest_of p (rows_of links first)) ≡ true
last_untyped p links first last n inv u = let c : cap_at (forest_of p (rows_of links first)) (n * slot_size p) ≡ (row_of links n).cap = sym (cap_read p links first last n inv) in rw (c, u)

-- where the one in front names the object, s is not the last
pub last_before : (p : ProfileName) (links : List Link) (first last : Option ℕ) (n : ℕ) (a : Bool) → Splits p links first last n → is_untyped (row_of links n).cap ≡ false
    → ((d : ℕ) → previous_of links n ≡ Some d → a ≡ same_object (row_of links d).cap (row_of links n).cap) → (previous_of links n ≡ None → a ≡ false) → a ≡ true
    → is_last (n * slot_size p) (forest_of p (rows_of links first)) ≡ false
last_before p links first last n a s u a_some a_none t = next (next_of links n) refl
  where
    next : (o : Option ℕ) → next_of links n ≡ o → is_last (n * slot_size p) (forest_of p (rows_of links first)) ≡ false
    next None e = last_read p links first last n a false s u a_some a_none (λ d f. absurd (none_or d (sym f ∙ e))) (λ f. refl) ∙ ap (λ c. not (c || false)) t
    next (Some x) e =
        let b : Bool = same_object (row_of links x).cap (row_of links n).cap in
        last_read p links first last n a b s u a_some a_none
        (λ d f. ap (λ k. same_object (row_of links k).cap (row_of links n).cap) (same_some x d (sym e ∙ f))) (λ f. absurd (none_or x (sym e ∙ f)))
        ∙ ap (λ c. not (c || b)) t
