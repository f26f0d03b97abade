-- Parts with the numbers from 1 on, by their first addresses.
use Rattle.std.proofs.Common.{◌≡◌, ℕ, ◌+◌, ◌≤◌, ◌<◌, ◌⊎◌, inl, inr, Bool, true, false, cond, ◌==◌, ◌||◌, nat_lt, List, [], ◌∷◌, ◌++◌, map, length, append_assoc, Some, None, refl, sym, ap, subst, ◌∙◌, arith, length-append}
use Rattle.std.specs.Prelude.{not}
use Rattle.std.specs.List.{list_any, list_all, position_or_len}
use Rattle.std.proofs.lemmas.Bool.{false≢true, eqb-true, eq-eqb}
use Rattle.std.proofs.lemmas.Bool.Decides.{nat_tests}
use Rattle.std.proofs.lemmas.List.{append-nil}
use Rattle.kernel_delete.specs.Members.{In}
use Rattle.kernel_delete.proofs.Members.{in_append, true_left, true_right, any_of, any_in, all_of, eqb_self}
use Rattle.query_parts.specs.declared.listed.PartMemory.{PartMemory}
use Rattle.query_parts.specs.Order.{lies_behind, comes_after, is_numbered}
use Rattle.query_parts.specs.Private.Search.{memory_in}
use Rattle.query_parts.specs.Private.Arranging.{labels_from, number_in, number_of}
use Rattle.query_parts.proofs.Lists.{in_mapped, from_mapped, and_true}
use Rattle.query_parts.proofs.Joined.{LieBehind, IsChain, rest_chain}

-- each of some stretches begins behind an address
abbrev AreBehind : ℕ → List PartMemory → Type 0
AreBehind low ms = (m : PartMemory) → In m ms → low < m.first

-- of the stretches that lie behind one, each begins behind its last address
pub behind_last : (m : PartMemory) (ms : List PartMemory) → ((n : PartMemory) → In n (m ∷ ms) → n.first ≤ n.last) → LieBehind m ms → AreBehind m.first ms
behind_last m [] stretches behind n i = absurd i
behind_last m (k ∷ ks) stretches behind n i = by (next k behind.0) i (behind_last k ks (λ n j. stretches n (inr j)) behind.1)
  where
    next : (k : PartMemory) → lies_behind m k ≡ true → m.first < k.first
    next k h = let had = stretches m (inl refl) in grind (arith, nat_tests)

    by : m.first < k.first → In n (k ∷ ks) → AreBehind k.first ks → m.first < n.first
    by low (inl same) rest = subst (λ (x : PartMemory). m.first < x.first) (sym same) low
    by low (inr more) rest = let far = rest n more in omega (arith, low, far)

-- ---- the place of a label

neither : (b c : Bool) → (b || c) ≡ false → c ≡ false
neither true c h = absurd (false≢true (sym h))
neither false c h = h

-- a label that comes behind some others, and is none of them
place_behind : (seen more : List ℕ) (k : ℕ) → list_any (λ label. label == k) seen ≡ false →
    (position_or_len (λ label. label == k) (seen ++ k ∷ more) ≡ length seen)
place_behind [] more k none = ap (λ b. cond (not b) (1 + position_or_len (λ label. label == k) more) 0) (eqb_self k)
place_behind (s ∷ seen) more k none = by (s == k) refl none (place_behind seen more k)
  where
    by : (b : Bool) → s == k ≡ b → list_any (λ label. label == k) (s ∷ seen) ≡ false →
        (list_any (λ label. label == k) seen ≡ false → position_or_len (λ label. label == k) (seen ++ k ∷ more) ≡ length seen) →
        cond (not b) (1 + position_or_len (λ label. label == k) (seen ++ k ∷ more)) 0 ≡ length (s ∷ seen)
    by true is none rest = absurd (false≢true (sym none ∙ true_left _ _ is))
    by false is none rest = let at = rest (neither (s == k) (list_any (λ label. label == k) seen) none) in omega (arith, at)

number_behind : (seen more : List ℕ) (k : ℕ) → list_any (λ label. label == k) seen ≡ false → number_of (seen ++ k ∷ more) k ≡ length seen + 1
number_behind seen more k none =
    let at = place_behind seen more k none in
    let long = length-append seen (k ∷ more) in
    let low : nat_lt (position_or_len (λ label. label == k) (seen ++ k ∷ more)) (length (seen ++ k ∷ more)) ≡ true = grind (arith, nat_tests, at, long) in
    ap (λ b. number_in (cond b (Some (position_or_len (λ label. label == k) (seen ++ k ∷ more))) None)) low ∙ ap (λ n. n + 1) at

-- the labels that were seen stay in front
labels_front : (ms : List PartMemory) (seen : List ℕ) → (more : List ℕ) × (labels_from seen ms ≡ seen ++ more)
labels_front [] seen = ([], sym (append-nil seen))
labels_front (m ∷ ms) seen = by (list_any (λ label. label == m.part) seen) (labels_front ms seen) (labels_front ms (seen ++ m.part ∷ []))
  where
    by : (b : Bool) → (more : List ℕ) × (labels_from seen ms ≡ seen ++ more) →
        (more : List ℕ) × (labels_from (seen ++ m.part ∷ []) ms ≡ (seen ++ m.part ∷ []) ++ more) →
        (more : List ℕ) × (labels_from (cond b seen (seen ++ m.part ∷ [])) ms ≡ seen ++ more)
    by true one two = one
    by false one two = (m.part ∷ two.0, two.1 ∙ append_assoc seen (m.part ∷ []) two.0)

-- ---- numbers

module _ (all : List PartMemory) (labels : List ℕ) where
  -- the part is the first one, or the part before it begins in front of an address
  abbrev pub IsAfter : ℕ → ℕ → Type 0
  IsAfter part address =
      (number_of labels part ≡ 1) ⊎ ((n : PartMemory) × (In n all × ((number_of labels part ≡ number_of labels n.part + 1) × (n.first < address))))

  -- so it is of an address behind
  later : (part low high : ℕ) → low ≤ high → IsAfter part low → IsAfter part high
  later part low high h (inl first) = inl first
  later part low high h (inr w) = inr (w.0, (w.1.0, (w.1.1.0, omega (arith, h, w.1.1.1))))

  -- the last of the labels that were seen has so many before it, itself counted, and begins in front of these stretches
  abbrev IsLast : ℕ → List PartMemory → Type 0
  IsLast count ms = (count ≡ 0) ⊎ ((n : PartMemory) × (In n all × ((number_of labels n.part ≡ count) × AreBehind n.first ms)))

  pub all_after : (ms : List PartMemory) (seen : List ℕ) → ((m : PartMemory) → In m ms → In m all) → ((m : PartMemory) → In m ms → m.first ≤ m.last) →
      IsChain ms → labels_from seen ms ≡ labels →
      ((k : ℕ) → In k seen → (m : PartMemory) → In m ms → IsAfter k m.first) → IsLast (length seen) ms →
      (m : PartMemory) → In m ms → IsAfter m.part m.first
  all_after [] seen known stretches behind is had last m i = absurd i
  all_after (x ∷ xs) seen known stretches behind is had last m i =
      by (list_any (λ label. label == x.part) seen) refl is
      (λ s. all_after xs s (λ n j. known n (inr j)) (λ n j. stretches n (inr j)) (rest_chain x xs behind)) i
    where
      far : AreBehind x.first xs
      far = behind_last x xs stretches behind

      down : IsLast (length seen) (x ∷ xs) → IsLast (length seen) xs
      down (inl none) = inl none
      down (inr w) = inr (w.0, (w.1.0, (w.1.1.0, λ n j. w.1.1.1 n (inr j))))

      seen_one : list_any (λ label. label == x.part) seen ≡ true → IsAfter x.part x.first
      seen_one h =
          let g = any_of (λ label. label == x.part) seen h in
          subst (λ k. IsAfter k x.first) (eqb-true g.0 x.part g.1.1) (had g.0 g.1.0 x (inl refl))

      Rest : List ℕ → Type 0
      Rest s = labels_from s xs ≡ labels → ((k : ℕ) → In k s → (n : PartMemory) → In n xs → IsAfter k n.first) → IsLast (length s) xs →
          (n : PartMemory) → In n xs → IsAfter n.part n.first

      new_number : list_any (λ label. label == x.part) seen ≡ false → labels_from (seen ++ x.part ∷ []) xs ≡ labels → number_of labels x.part ≡ length seen + 1
      new_number none is =
          let front = labels_front xs (seen ++ x.part ∷ []) in
          ap (λ (l : List ℕ). number_of l x.part) (sym is ∙ front.1 ∙ append_assoc seen (x.part ∷ []) front.0) ∙ number_behind seen front.0 x.part none

      new_after : number_of labels x.part ≡ length seen + 1 → IsLast (length seen) (x ∷ xs) → IsAfter x.part x.first
      new_after number (inl none) = inl (number ∙ ap (λ n. n + 1) none)
      new_after number (inr w) = inr (w.0, (w.1.0, (number ∙ ap (λ n. n + 1) (sym w.1.1.0), w.1.1.1 x (inl refl))))

      new_had : IsAfter x.part x.first → (k : ℕ) → In k (seen ++ x.part ∷ []) → (n : PartMemory) → In n xs → IsAfter k n.first
      new_had now k j n at = elim (in_append k seen (x.part ∷ []) j) [
        | inl old ↦ had k old n (inr at)
        | inr one ↦ elim one [
          | inl same ↦ subst (λ p. IsAfter p n.first) (sym same) (later x.part x.first n.first (let low = far n at in omega (arith, low)) now)
          | inr none ↦ absurd none
        ]
      ]

      by : (b : Bool) → list_any (λ label. label == x.part) seen ≡ b → labels_from (cond b seen (seen ++ x.part ∷ [])) xs ≡ labels →
          ((s : List ℕ) → Rest s) → In m (x ∷ xs) → IsAfter m.part m.first
      by true h is rest (inl same) = subst (λ (y : PartMemory). IsAfter y.part y.first) (sym same) (seen_one h)
      by true h is rest (inr more) = rest seen is (λ k j n at. had k j n (inr at)) (down last) m more
      by false h is rest (inl same) = subst (λ (y : PartMemory). IsAfter y.part y.first) (sym same) (new_after (new_number h is) last)
      by false h is rest (inr more) =
          rest (seen ++ x.part ∷ []) is (new_had (new_after (new_number h is) last))
          (inr (x, (known x (inl refl), (new_number h is ∙ sym (length-append seen (x.part ∷ [])), far)))) m more

-- parts that have the numbers of their labels
pub are_numbered : (ms : List PartMemory) → ((n : PartMemory) → In n ms → n.first ≤ n.last) → IsChain ms → (labels : List ℕ) →
    labels ≡ labels_from [] ms → list_all (is_numbered (map (memory_in (number_of labels)) ms)) (map (memory_in (number_of labels)) ms) ≡ true
are_numbered ms stretches chain labels is = all_of (is_numbered memory) memory (λ n i. each n i)
  where
    memory : List PartMemory
    memory = map (memory_in (number_of labels)) ms

    after : (n : PartMemory) → In n ms → IsAfter ms labels n.part n.first
    after = all_after ms labels ms [] (λ n i. i) stretches chain (sym is) (λ k i. absurd i) (inl refl)

    each : (n : PartMemory) → In n memory → is_numbered memory n ≡ true
    each n i =
        let w = from_mapped (memory_in (number_of labels)) ms n i in
        subst (λ (x : PartMemory). is_numbered memory x ≡ true) (sym w.1.1) (numbered w.0 (after w.0 w.1.0))
      where
        numbered : (x : PartMemory) → IsAfter ms labels x.part x.first → is_numbered memory (memory_in (number_of labels) x) ≡ true
        numbered x (inl first) = true_left _ _ (eq-eqb (number_of labels x.part) 1 first)
        numbered x (inr w) =
            true_right _ _ (any_in (comes_after (memory_in (number_of labels) x)) memory (memory_in (number_of labels) w.0)
            (in_mapped (memory_in (number_of labels)) w.0 ms w.1.0)
            (and_true _ _ (eq-eqb (number_of labels x.part) (number_of labels w.0.part + 1) w.1.1.0) (front w.0.first x.first w.1.1.1)))
          where
            front : (low high : ℕ) → low < high → nat_lt low high ≡ true
            front low high h = grind (arith, nat_tests)
