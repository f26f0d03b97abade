-- Addresses in rising order.
use Rattle.std.proofs.Common.{◌≡◌, ℕ, Bool, true, false, cond, ◌&&◌, ◌||◌, ◌==◌, List, [], ◌∷◌, ◌++◌, refl, sym, ap, ◌∙◌, ◌⊎◌, inl, inr, append_assoc}
use Rattle.std.specs.List.{AllByRecursion, filter, flat_map, list_any}
use Rattle.std.specs.List.Sorted.{IsStrictlySortedBy}
use Rattle.std.specs.Ordering.{nat_cmp, match_ordering, ordering_reverse}
use Rattle.std.specs.Cmp.{nat_cmp_total, unsigned_tied}
use Rattle.std.specs.declared.cmp.Ordering.TheVariants.{Less, Equal, Greater}
use Rattle.std.specs.BTreeSet.{BTreeSet, IsFromIterResult, contains, insert_key}
use Rattle.std.specs.FinMap.{nat_cmp-IsAntisymmetric}
use Rattle.std.proofs.lemmas.Bool.Decides.{eqb_tells}
use Rattle.std.proofs.lemmas.List.Folds.{list_any-append}
use Rattle.std.proofs.lemmas.List.Kept.{IsStrictlySortedBy-filter}
use Rattle.std.proofs.lemmas.Map.Lookups.{btree_set_from_contains, exact_unsigned}
use Rattle.setup_report.specs.State.{is_in, rising}

-- ---- tests

or_twice : (a b : Bool) → (a || b) ≡ (a || (a || b))
or_twice true b = refl
or_twice false b = refl

or_swap : (a b c : Bool) → (a || (b || c)) ≡ (b || (a || c))
or_swap true true c = refl
or_swap true false c = refl
or_swap false b c = refl

or_last : (a b : Bool) → (a || (b || false)) ≡ (b || a)
or_last true true = refl
or_last true false = refl
or_last false true = refl
or_last false false = refl

-- ---- what is in a list that a number was put into

any_insert : (f : ℕ → Bool) (k : ℕ) (xs : List ℕ) → list_any f (insert_key nat_cmp xs k) ≡ (f k || list_any f xs)
any_insert f k [] = refl
any_insert f k (x ∷ xs) =
    elim (nat_cmp k x) as (λ o. nat_cmp k x ≡ o → list_any f (match_ordering o (k ∷ x ∷ xs) (x ∷ xs) (x ∷ insert_key nat_cmp xs k)) ≡ (f k || (f x || list_any f xs))) [
      | Less ↦ λ e. refl
      | Equal ↦ λ e. or_twice (f x) (list_any f xs) ∙ ap (λ n. f n || (f x || list_any f xs)) (sym (nat_cmp-IsAntisymmetric k x e))
      | Greater ↦ λ e. ap (λ b. f x || b) (any_insert f k xs) ∙ or_swap (f x) (f k) (list_any f xs)
    ] refl

pub any_rising : (f : ℕ → Bool) (xs : List ℕ) → list_any f (rising xs) ≡ list_any f xs
any_rising f [] = refl
any_rising f (x ∷ xs) = any_insert f x (rising xs) ∙ ap (λ b. f x || b) (any_rising f xs)

-- ---- rising lists

all_insert : (P : ℕ → Type 0) (k : ℕ) (xs : List ℕ) → P k → AllByRecursion P xs → AllByRecursion P (insert_key nat_cmp xs k)
all_insert P k [] p h = (p, tt)
all_insert P k (x ∷ xs) p h =
    elim (nat_cmp k x) as (λ o. AllByRecursion P (match_ordering o (k ∷ x ∷ xs) (x ∷ xs) (x ∷ insert_key nat_cmp xs k))) [
      | Less ↦ (p, h)
      | Equal ↦ h
      | Greater ↦ (h.0, all_insert P k xs p h.1)
    ]

-- what holds of each of some addresses holds of each of them in rising order
pub all_rising : (P : ℕ → Type 0) (xs : List ℕ) → AllByRecursion P xs → AllByRecursion P (rising xs)
all_rising P [] h = tt
all_rising P (x ∷ xs) h = all_insert P x (rising xs) h.0 (all_rising P xs h.1)

below_all : (k x : ℕ) (xs : List ℕ) → nat_cmp k x ≡ Less → AllByRecursion (λ y. nat_cmp x y ≡ Less) xs → AllByRecursion (λ y. nat_cmp k y ≡ Less) xs
below_all k x [] e h = tt
below_all k x (y ∷ ys) e h = (nat_cmp_total.trans k x y e h.0, below_all k x ys e h.1)

sorted_insert : (k : ℕ) (xs : List ℕ) → IsStrictlySortedBy nat_cmp xs → IsStrictlySortedBy nat_cmp (insert_key nat_cmp xs k)
unfolding IsStrictlySortedBy
sorted_insert k [] h = (tt, tt)
sorted_insert k (x ∷ xs) h =
    elim (nat_cmp k x) as (λ o. nat_cmp k x ≡ o → IsStrictlySortedBy nat_cmp (match_ordering o (k ∷ x ∷ xs) (x ∷ xs) (x ∷ insert_key nat_cmp xs k))) [
      | Less ↦ λ e. ((e, below_all k x xs e h.0), h)
      | Equal ↦ λ e. h
      | Greater ↦ λ e. (all_insert (λ y. nat_cmp x y ≡ Less) k xs (nat_cmp_total.antisymm x k ∙ ap ordering_reverse e) h.0, sorted_insert k xs h.1)
    ] refl

pub sorted_rising : (xs : List ℕ) → IsStrictlySortedBy nat_cmp (rising xs)
unfolding IsStrictlySortedBy
sorted_rising [] = tt
sorted_rising (x ∷ xs) = sorted_insert x (rising xs) (sorted_rising xs)

abbrev set_of : List ℕ → BTreeSet ℕ
set_of keys = record { keys = keys }

pub tied_in : (q : ℕ) (xs : List ℕ) → contains nat_cmp (set_of xs) q ≡ is_in q xs
tied_in q [] = refl
tied_in q (x ∷ xs) = λ i. unsigned_tied q x i || tied_in q xs i

-- a rising list is told by what is in it
pub same_rising : (xs ys : List ℕ) → IsStrictlySortedBy nat_cmp xs → IsStrictlySortedBy nat_cmp ys → ((q : ℕ) → is_in q xs ≡ is_in q ys) → xs ≡ ys
same_rising xs ys a b h =
    btree_set_from_contains nat_cmp_total (set_of xs) (set_of ys) a b (λ q. tied_in q xs ∙ h q ∙ sym (tied_in q ys)) exact_unsigned

pub rising_same : (xs ys : List ℕ) → ((q : ℕ) → is_in q xs ≡ is_in q ys) → rising xs ≡ rising ys
rising_same xs ys h =
    same_rising (rising xs) (rising ys) (sorted_rising xs) (sorted_rising ys)
    (λ q. any_rising (λ a. q == a) xs ∙ h q ∙ sym (any_rising (λ a. q == a) ys))

-- the addresses of a set that `collect` made of a list
pub rising_made : (xs : List ℕ) (made : BTreeSet ℕ) → IsFromIterResult nat_cmp xs made → made.keys ≡ rising xs
rising_made xs made h =
    same_rising made.keys (rising xs) h.1 (sorted_rising xs)
    (λ q. sym (tied_in q made.keys) ∙ h.0 q ∙ tied_in q xs ∙ sym (any_rising (λ a. q == a) xs))

-- one address more
pub rising_push : (xs : List ℕ) (x : ℕ) → rising (xs ++ x ∷ []) ≡ insert_key nat_cmp (rising xs) x
rising_push xs x = rising_same (xs ++ x ∷ []) (x ∷ xs) (λ q. list_any-append (λ a. q == a) xs (x ∷ []) ∙ last (is_in q xs) (q == x))
  where
    last : (a b : Bool) → (a || (b || false)) ≡ (b || a)
    last = or_last

-- ---- parts of a rising list

in_cond : (q x : ℕ) (b : Bool) (xs : List ℕ) → is_in q (cond b (x ∷ xs) xs) ≡ ((b && (q == x)) || is_in q xs)
in_cond q x true xs = refl
in_cond q x false xs = refl

joined : (here there e s : Bool) → (e ≡ true → here ≡ there) → ((here && e) || (there && s)) ≡ (there && (e || s))
joined true true true s h = refl
joined true true false s h = refl
joined true false true s h = absurd (let w = h refl in cc)
joined true false false s h = refl
joined false true true s h = absurd (let w = h refl in cc)
joined false true false s h = refl
joined false false true s h = refl
joined false false false s h = refl

pub in_filter : (test : ℕ → Bool) (q : ℕ) (xs : List ℕ) → is_in q (filter test xs) ≡ (test q && is_in q xs)
in_filter test q [] = elim (test q) as (λ b. false ≡ (b && false)) [ true ↦ refl | false ↦ refl ]
in_filter test q (x ∷ xs) =
    in_cond q x (test x) (filter test xs)
    ∙ ap (λ b. (test x && (q == x)) || b) (in_filter test q xs)
    ∙ joined (test x) (test q) (q == x) (is_in q xs) (same (eqb_tells q x))
  where
    same : (((q == x) ≡ true) × (q ≡ x)) ⊎ (((q == x) ≡ false) × (q ≡ x → ⊥)) → (q == x) ≡ true → test x ≡ test q
    same (inl w) e = ap test (sym w.1)
    same (inr w) e = absurd (let v : false ≡ true = sym w.0 ∙ e in cc)

pub filter_rising : (test : ℕ → Bool) (xs : List ℕ) → filter test (rising xs) ≡ rising (filter test xs)
filter_rising test xs =
    same_rising (filter test (rising xs)) (rising (filter test xs)) (IsStrictlySortedBy-filter nat_cmp test (rising xs) (sorted_rising xs)) (sorted_rising (filter test xs))
    (λ q. in_filter test q (rising xs) ∙ ap (λ b. test q && b) (any_rising (λ a. q == a) xs) ∙ sym (in_filter test q xs) ∙ sym (any_rising (λ a. q == a) (filter test xs)))

pub filter_alike : (f g : ℕ → Bool) (xs : List ℕ) → ((q : ℕ) → f q ≡ g q) → filter f xs ≡ filter g xs
filter_alike f g [] h = refl
filter_alike f g (x ∷ xs) h = λ i. cond (h x i) (x ∷ filter_alike f g xs h i) (filter_alike f g xs h i)

-- lines of what is told in another way
pub added_lines : {X : Type 0} (line : X → List ℕ) (before after : List ℕ) (keys addresses : List X) → after ≡ before ++ flat_map line keys → keys ≡ addresses → after ≡ before ++ flat_map line addresses
added_lines line before after keys addresses h e = h ∙ ap (λ l. before ++ flat_map line l) e

-- four texts that are added in turn
pub four_parts : (o first second third last a b c d : List ℕ) → first ≡ o ++ a → second ≡ first ++ b → third ≡ second ++ c → last ≡ third ++ d → last ≡ o ++ (a ++ (b ++ (c ++ d)))
four_parts o first second third last a b c d e f h k =
    k ∙ ap (λ l. l ++ d) (h ∙ ap (λ l. l ++ c) (f ∙ ap (λ l. l ++ b) e))
    ∙ append_assoc ((o ++ a) ++ b) c d ∙ append_assoc (o ++ a) b (c ++ d) ∙ append_assoc o a (b ++ (c ++ d))
