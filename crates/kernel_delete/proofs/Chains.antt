-- Links that lead along a chain: a slot put in front, and the first one taken out.
use Rattle.std.proofs.Common.{◌≡◌, inl, inr, ℕ, zero, suc, ◌*◌, ◌≤◌, ◌<◌, eqb, true, false, nat_lt, List, [], ◌∷◌, map, length, get_or, Option, Some, None, refl, sym, ◌∙◌, ap, subst, arith}
use Rattle.std.specs.List.{IsDistinct}
use Rattle.std.proofs.Math.ListN.{set, length-set}
use Rattle.std.proofs.Math.Nat.{mul-le-mul_right}
use Rattle.std.proofs.lemmas.Bool.{eqb-true, ne_eqb}
use Rattle.std.proofs.lemmas.Bool.Decides.{nat_tests}
use Rattle.std.proofs.lemmas.List.{get_or-set_same, get_or-set_other}
use Rattle.std.proofs.lemmas.Map.Steps.{length-le_from_distinct_below}
use Rattle.cap_core.specs.declared.profile.ProfileName.{ProfileName}
use Rattle.cap_core.specs.Numbers.{slot_size}
use Rattle.slot_core.specs.declared.slot.Slot.{Slot}
use Rattle.slot_core.specs.Places.{address_of}
use Rattle.kernel_delete.specs.Members.{In, AreDistinct, AreBelow}
use Rattle.kernel_delete.specs.Chain.{place_in, next_of, IsChain, walk, chained, chain_seen, IsChained}
use Rattle.kernel_delete.proofs.Members.{any_of, each_in, each_of, tells}

std_distinct : (l : List ℕ) → AreDistinct l → IsDistinct eqb l
unfolding IsDistinct
std_distinct [] h = tt
std_distinct (n ∷ l) h = (each_of (λ m. eqb n m ≡ false) l (λ m i. ne_eqb n m (λ e. h.0 (let P : ℕ → Type 0 = λ k. In k l in subst P (sym e) i))), std_distinct l h.1)

-- distinct numbers below a bound are no more than it
pub length_room : (l : List ℕ) (size : ℕ) → AreDistinct l → AreBelow size l → length l ≤ size
length_room l size d b = length-le_from_distinct_below l size (std_distinct l d) (λ q h.
    let w = any_of (eqb q) l h in
    let e : q ≡ w.0 = eqb-true q w.0 w.1.1 in
    let x : w.0 < size = each_in (λ n. n < size) l w.0 b w.1.0 in
    omega arith)

-- a chain no longer than the walk is what is walked
walk_is : (next : ℕ → Option ℕ) (k : ℕ) (here : Option ℕ) (l : List ℕ) → IsChain next here l → length l ≤ k → walk next k here ≡ l
walk_is next zero here [] h b = refl
walk_is next zero here (n ∷ l) h b = absurd (omega arith)
walk_is next (suc k) here [] h b = ap (walk next (suc k)) h
walk_is next (suc k) here (n ∷ l) h b = ap (walk next (suc k)) h.0 ∙ ap (λ m. n ∷ m) (walk_is next k (next n) l h.1 (omega arith))

-- other links do not matter
chain_same : (f g : ℕ → Option ℕ) (here : Option ℕ) (l : List ℕ) → ((n : ℕ) → In n l → f n ≡ g n) → IsChain f here l → IsChain g here l
chain_same f g here [] e h = h
chain_same f g here (n ∷ l) e h = (h.0, let P : Option ℕ → Type 0 = λ o. IsChain g o l in subst P (e n (inl refl)) (chain_same f g (f n) l (λ m i. e m (inr i)) h.1))

chained_is : (links : List (Option Slot)) (here : Option ℕ) (l : List ℕ) → IsChain (next_of links) here l → AreDistinct l → AreBelow (length links) l → (chained links here ≡ l) × IsChained links here
chained_is links here l h d b =
    let e : chained links here ≡ l = walk_is (next_of links) (length links) here l h (length_room l (length links) d b) in (
      e,
      record {
        chain = let P : List ℕ → Type 0 = λ q. IsChain (next_of links) here q in subst P (sym e) h;
        distinct = let P : List ℕ → Type 0 = λ q. AreDistinct q in subst P (sym e) d;
        below = let P : List ℕ → Type 0 = λ q. AreBelow (length links) q in subst P (sym e) b;
      },
    )

pub after_push : (links : List (Option Slot)) (first : Option Slot) (n : ℕ) → IsChained links (place_in first) → (In n (chained links (place_in first)) → ⊥) → n < length links →
    (chained (set links n first) (Some n) ≡ n ∷ chained links (place_in first)) × IsChained (set links n first) (Some n)
after_push links first n c a w =
    let l = chained links (place_in first) in
    let size : length (set links n first) ≡ length links = length-set links n first in
    let at : next_of (set links n first) n ≡ place_in first = ap place_in (get_or-set_same links n first None w) in
    chained_is (set links n first) (Some n) (n ∷ l) (
      refl,
      let P : Option ℕ → Type 0 = λ o. IsChain (next_of (set links n first)) o l in subst P (sym at)
          (chain_same (next_of links) (next_of (set links n first)) (place_in first) l
          (λ m i. sym (ap place_in (get_or-set_other links n m first None (λ e. a (let Q : ℕ → Type 0 = λ k. In k l in subst Q e i))))) c.chain),
    )
    (a, c.distinct)
    (let P : ℕ → Type 0 = λ k. AreBelow k (n ∷ l) in subst P (sym size) (w, c.below))

pub after_pop : (links : List (Option Slot)) (here : Option ℕ) (n : ℕ) → IsChained links here → here ≡ Some n →
    (chained links here ≡ n ∷ chained links (next_of links n)) × IsChained links (next_of links n) × (n < length links)
after_pop links here n c e = pop_step links here n (chained links here) c.chain c.distinct c.below e
  where
    pop_step : (links : List (Option Slot)) (here : Option ℕ) (n : ℕ) (l : List ℕ) → IsChain (next_of links) here l → AreDistinct l → AreBelow (length links) l → here ≡ Some n →
        (l ≡ n ∷ chained links (next_of links n)) × IsChained links (next_of links n) × (n < length links)
    pop_step links here n [] h d b e = let z : Some n ≡ None = sym e ∙ h in cc
    pop_step links here n (m ∷ l) h d b e =
        let s : Some m ≡ Some n = sym h.0 ∙ e in
        let q : m ≡ n = cc in
        let t = chained_is links (next_of links m) l h.1 d.1 b.1 in
        let P : ℕ → Type 0 = λ k. (m ∷ l ≡ k ∷ chained links (next_of links k)) × IsChained links (next_of links k) × (k < length links) in
        subst P q (ap (λ r. m ∷ r) (sym t.0), t.1, b.0)

-- numbers that a multiplier scales

pub in_scaled : (size n : ℕ) (l : List ℕ) → In n l → In (n * size) (map (λ m. m * size) l)
in_scaled size n [] i = absurd i
in_scaled size n (m ∷ l) i = elim i [ inl e ↦ inl (ap (λ k. k * size) e) | inr j ↦ inr (in_scaled size n l j) ]

place_below : (size i n : ℕ) → i * size < n * size → i < n
place_below size i n h = elim (tells (nat_lt i n)) [
  | inl t ↦ less i n t
  | inr t ↦ absurd (let x : n * size ≤ i * size = mul-le-mul_right size (most i n t) in omega arith)
]
  where
    less : (i n : ℕ) → nat_lt i n ≡ true → i < n
    less i n t = grind (arith, nat_tests)

    most : (i n : ℕ) → nat_lt i n ≡ false → n ≤ i
    most i n t = grind (arith, nat_tests)

-- what is seen of a chain with a slot more in front

pub pushed : (p : ProfileName) (links : List (Option Slot)) (first : Option Slot) (slot : Slot) (i : ℕ) (V : List ℕ × ℕ) → i ≡ slot.place → chain_seen p links first ≡ V → IsChained links (place_in first)
    → (In (address_of p slot) V.0 → ⊥) → address_of p slot < V.1
    → IsChained (set links i first) (Some slot.place) × (chain_seen p (set links i first) (Some slot) ≡ (address_of p slot ∷ V.0, V.1))
pushed p links first slot i V e v c a w =
    let P : ℕ → Type 0 = λ k. IsChained (set links k first) (Some slot.place) × (chain_seen p (set links k first) (Some slot) ≡ (address_of p slot ∷ V.0, V.1)) in
    let Q : List ℕ × ℕ → Type 0 = λ x. In (address_of p slot) x.0 in
    let absent : In slot.place (chained links (place_in first)) → ⊥ = λ j. a (subst Q v (in_scaled (slot_size p) slot.place (chained links (place_in first)) j)) in
    let bytes : length links * slot_size p ≡ V.1 = ap (λ x. x.1) v in
    let within : slot.place < length links = place_below (slot_size p) slot.place (length links) (omega (arith, w, bytes)) in
    let t = after_push links first slot.place c absent within in
    let size : length (set links slot.place first) * slot_size p ≡ V.1 = ap (λ k. k * slot_size p) (length-set links slot.place first) ∙ bytes in
    let seen : map (λ n. n * slot_size p) (chained (set links slot.place first) (Some slot.place)) ≡ address_of p slot ∷ V.0 =
    ap (map (λ n. n * slot_size p)) t.0 ∙ ap (λ l. address_of p slot ∷ l) (ap (λ x. x.0) v) in
    subst P (sym e) (t.1, λ j. (seen j, size j))

-- and with its first slot taken out

pub popped : (p : ProfileName) (links : List (Option Slot)) (first rest : Option Slot) (slot : Slot) (i : ℕ) (V : List ℕ × ℕ) → i ≡ slot.place → rest ≡ get_or links i None → first ≡ Some slot → chain_seen p links first ≡ V
    → IsChained links (place_in first) → IsChained links (place_in rest) × (V.0 ≡ address_of p slot ∷ map (λ n. n * slot_size p) (chained links (place_in rest)))
popped p links first rest slot i V e r h v c =
    let t = after_pop links (place_in first) slot.place c (ap place_in h) in
    let g : place_in rest ≡ next_of links slot.place = ap place_in (r ∙ ap (λ k. get_or links k None) e) in
    let P : Option ℕ → Type 0 = λ o. IsChained links o in (
      subst P (sym g) t.1,
      sym (ap (λ x. x.0) v) ∙ ap (map (λ n. n * slot_size p)) t.0 ∙ ap (λ o. address_of p slot ∷ map (λ n. n * slot_size p) (chained links o)) (sym g),
    )

pub pop_within : (links : List (Option Slot)) (first : Option Slot) (slot : Slot) → IsChained links (place_in first) → first ≡ Some slot → slot.place < length links
pop_within links first slot c h = (after_pop links (place_in first) slot.place c (ap place_in h)).2
