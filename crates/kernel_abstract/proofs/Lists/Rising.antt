-- Lists of records that rise by number, and those of them past a place that a test names.
use Rattle.std.proofs.Common.{◌≡◌, ℕ, zero, suc, ◌<◌, ◌≤◌, Bool, true, false, not, cond, ◌==◌, ◌&&◌, ◌||◌, List, [], ◌∷◌, ◌++◌, filter, length, drop, refl, sym, ap, ◌∙◌, arith, eq-eqb}
use Rattle.std.specs.List.{list_any, AllByRecursion}
use Rattle.std.proofs.lemmas.Bool.{ne_eqb, false≢true}
use Rattle.ipc_core.specs.Cancelled.{standing_less}

-- tests

pub or_true : (b : Bool) → (b || true) ≡ true
or_true true = refl
or_true false = refl

pub or_false : (b : Bool) → (b || false) ≡ b
or_false true = refl
or_false false = refl

pub and_false : (b : Bool) → (b && false) ≡ false
and_false true = refl
and_false false = refl

-- a test that would pass where another fails does not pass
pub passes_not : (b : Bool) → (b ≡ true → ⊥) → b ≡ false
passes_not true h = absurd (h refl)
passes_not false h = refl

-- facts on each element

module _ {X : Type 0} where
  pub all_of : (P : X → Type 0) → ((x : X) → P x) → (xs : List X) → AllByRecursion P xs
  all_of P f [] = tt
  all_of P f (x ∷ xs) = (f x, all_of P f xs)

  pub all_weaker : (P Q : X → Type 0) → ((x : X) → P x → Q x) → (xs : List X) → AllByRecursion P xs → AllByRecursion Q xs
  all_weaker P Q f [] h = tt
  all_weaker P Q f (x ∷ xs) h = (f x h.0, all_weaker P Q f xs h.1)

  pub all_joined : (P Q R : X → Type 0) → ((x : X) → P x → Q x → R x) → (xs : List X) → AllByRecursion P xs → AllByRecursion Q xs → AllByRecursion R xs
  all_joined P Q R f [] h k = tt
  all_joined P Q R f (x ∷ xs) h k = (f x h.0 k.0, all_joined P Q R f xs h.1 k.1)

  pub all_dropped : (P : X → Type 0) (n : ℕ) (xs : List X) → AllByRecursion P xs → AllByRecursion P (drop n xs)
  all_dropped P zero [] h = tt
  all_dropped P (suc n) [] h = tt
  all_dropped P zero (x ∷ xs) h = h
  all_dropped P (suc n) (x ∷ xs) h = all_dropped P n xs h.1

  pub all_dropped_more : (P : X → Type 0) (n m : ℕ) (xs : List X) → n ≤ m → AllByRecursion P (drop n xs) → AllByRecursion P (drop m xs)
  all_dropped_more P n zero [] le h = tt
  all_dropped_more P n (suc m) [] le h = tt
  all_dropped_more P zero m (x ∷ xs) le h = all_dropped P m (x ∷ xs) h
  all_dropped_more P (suc n) zero (x ∷ xs) le h = absurd (omega (arith, le))
  all_dropped_more P (suc n) (suc m) (x ∷ xs) le h = all_dropped_more P n m xs (omega (arith, le)) h

  pub all_dropped_push : (P : X → Type 0) (n : ℕ) (xs : List X) (x : X) → AllByRecursion P (drop n xs) → P x → AllByRecursion P (drop n (xs ++ x ∷ []))
  all_dropped_push P zero [] x h new = (new, tt)
  all_dropped_push P (suc n) [] x h new = all_dropped P n [] tt
  all_dropped_push P zero (y ∷ xs) x h new = (h.0, all_dropped_push P zero xs x h.1 new)
  all_dropped_push P (suc n) (y ∷ xs) x h new = all_dropped_push P n xs x h new

  -- what a filter keeps passes its test
  pub all_passing : (P : X → Type 0) (f : X → Bool) (xs : List X) → AllByRecursion P xs → AllByRecursion (λ (x : X). P x × (f x ≡ true)) (filter f xs)
  all_passing P f [] h = tt
  all_passing P f (x ∷ xs) h = elim (f x) as (λ b. f x ≡ b → AllByRecursion (λ (x : X). P x × (f x ≡ true)) (cond b (x ∷ filter f xs) (filter f xs))) [
    | true ↦ λ e. ((h.0, e), all_passing P f xs h.1)
    | false ↦ λ e. all_passing P f xs h.1
  ] refl

  -- tests that agree on each element
  pub filter_same : (p q : X → Bool) (xs : List X) → AllByRecursion (λ (x : X). p x ≡ q x) xs → filter p xs ≡ filter q xs
  filter_same p q [] h = refl
  filter_same p q (x ∷ xs) h = ap (λ (b : Bool). cond b (x ∷ filter p xs) (filter p xs)) h.0 ∙ ap (λ (rest : List X). cond (q x) (x ∷ rest) rest) (filter_same p q xs h.1)

  pub filter_both : (p q : X → Bool) (xs : List X) → filter (λ x. p x && q x) xs ≡ filter q (filter p xs)
  filter_both p q [] = refl
  filter_both p q (x ∷ xs) = elim (p x) as (λ b. cond (b && q x) (x ∷ filter (λ y. p y && q y) xs) (filter (λ y. p y && q y) xs) ≡ filter q (cond b (x ∷ filter p xs) (filter p xs))) [
    | true ↦ ap (λ (rest : List X). cond (q x) (x ∷ rest) rest) (filter_both p q xs)
    | false ↦ filter_both p q xs
  ]

  pub filter_all : (p : X → Bool) (xs : List X) → AllByRecursion (λ (x : X). p x ≡ true) xs → filter p xs ≡ xs
  filter_all p [] h = refl
  filter_all p (x ∷ xs) h = ap (λ (b : Bool). cond b (x ∷ filter p xs) (filter p xs)) h.0 ∙ ap (λ (rest : List X). x ∷ rest) (filter_all p xs h.1)

  pub any_same : (p q : X → Bool) (xs : List X) → AllByRecursion (λ (x : X). p x ≡ q x) xs → list_any p xs ≡ list_any q xs
  any_same p q [] h = refl
  any_same p q (x ∷ xs) h = ap (λ (b : Bool). b || list_any p xs) h.0 ∙ ap (λ (b : Bool). q x || b) (any_same p q xs h.1)

  pub any_none : (p : X → Bool) (xs : List X) → AllByRecursion (λ (x : X). p x ≡ false) xs → list_any p xs ≡ false
  any_none p [] h = refl
  any_none p (x ∷ xs) h = ap (λ (b : Bool). b || list_any p xs) h.0 ∙ any_none p xs h.1

  -- where those that pass one test are named all or not at all
  pub any_left : (p named : X → Bool) (c : Bool) (xs : List X) → AllByRecursion (λ (x : X). p x ≡ true → named x ≡ c) xs → list_any p (filter (λ x. not (named x)) xs) ≡ cond c false (list_any p xs)
  any_left p named true [] h = refl
  any_left p named false [] h = refl
  any_left p named c (x ∷ xs) h = elim (p x) as (λ b. p x ≡ b → list_any p (cond (not (named x)) (x ∷ filter (λ y. not (named y)) xs) (filter (λ y. not (named y)) xs)) ≡ cond c false (b || list_any p xs)) [
    | true ↦ λ e.
        ap (λ (b : Bool). list_any p (cond (not b) (x ∷ filter (λ y. not (named y)) xs) (filter (λ y. not (named y)) xs))) (h.0 e) ∙ passing c e (any_left p named c xs h.1)
    | false ↦ λ e. failing (named x) e ∙ any_left p named c xs h.1
  ] refl
    where
      rest : List X
      rest = filter (λ y. not (named y)) xs

      passing : (c : Bool) → p x ≡ true → list_any p rest ≡ cond c false (list_any p xs) → list_any p (cond (not c) (x ∷ rest) rest) ≡ cond c false (true || list_any p xs)
      passing true e ih = ih
      passing false e ih = ap (λ (b : Bool). b || list_any p rest) e

      failing : (b : Bool) → p x ≡ false → list_any p (cond (not b) (x ∷ rest) rest) ≡ list_any p rest
      failing true e = refl
      failing false e = ap (λ (b : Bool). b || list_any p rest) e

module _ {X : Type 0} (number : X → ℕ) where
  -- each has a lower number than those after it
  abbrev pub Rises : List X → Type 0
  Rises [] = Unit {0}
  Rises (x ∷ xs) = AllByRecursion (λ (y : X). number x < number y) xs × Rises xs

  abbrev pub has_number : List X → ℕ → Bool
  has_number xs n = list_any (λ (x : X). number x == n) xs

  pub numbers_above : (n : ℕ) (xs : List X) → AllByRecursion (λ (y : X). n < number y) xs → has_number xs n ≡ false
  numbers_above n xs h = any_none (λ (x : X). number x == n) xs (all_weaker (λ (y : X). n < number y) (λ (y : X). (number y == n) ≡ false) (λ y lt. ne_eqb (number y) n (λ d. absurd (omega (arith, d, lt)))) xs h)

  pub numbers_below : (n : ℕ) (xs : List X) → AllByRecursion (λ (y : X). number y < n) xs → has_number xs n ≡ false
  numbers_below n xs h = any_none (λ (x : X). number x == n) xs (all_weaker (λ (y : X). number y < n) (λ (y : X). (number y == n) ≡ false) (λ y lt. ne_eqb (number y) n (λ d. absurd (omega (arith, d, lt)))) xs h)

  pub has_number_push : (xs : List X) (x : X) (n : ℕ) → has_number (xs ++ x ∷ []) n ≡ (has_number xs n || number x == n)
  has_number_push [] x n = or_false (number x == n)
  has_number_push (y ∷ xs) x n = ap (λ (b : Bool). number y == n || b) (has_number_push xs x n) ∙ assoc (number y == n)
    where
      assoc : (b : Bool) → (b || (has_number xs n || number x == n)) ≡ ((b || has_number xs n) || number x == n)
      assoc true = refl
      assoc false = refl

  all_filtered : (P : X → Type 0) (f : X → Bool) (xs : List X) → AllByRecursion P xs → AllByRecursion P (filter f xs)
  all_filtered P f xs h = all_weaker (λ (x : X). P x × (f x ≡ true)) P (λ x w. w.0) (filter f xs) (all_passing P f xs h)

  pub rises_filter : (f : X → Bool) (xs : List X) → Rises xs → Rises (filter f xs)
  rises_filter f [] h = tt
  rises_filter f (x ∷ xs) h = elim (f x) as (λ b. Rises (cond b (x ∷ filter f xs) (filter f xs))) [
    | true ↦ (all_filtered (λ (y : X). number x < number y) f xs h.0, rises_filter f xs h.1)
    | false ↦ rises_filter f xs h.1
  ]

  pub rises_push : (n : ℕ) (xs : List X) (x : X) → Rises xs → AllByRecursion (λ (y : X). number y ≤ n) xs → n < number x → Rises (xs ++ x ∷ [])
  rises_push n [] x h up lt = (tt, tt)
  rises_push n (y ∷ xs) x h up lt = let le = up.0 in (pushed xs (omega (arith, le, lt)) h.0, rises_push n xs x h.1 up.1 lt)
    where
      pushed : (zs : List X) → number y < number x → AllByRecursion (λ (z : X). number y < number z) zs → AllByRecursion (λ (z : X). number y < number z) (zs ++ x ∷ [])
      pushed [] lt' all = (lt', tt)
      pushed (z ∷ zs) lt' all = (all.0, pushed zs lt' all.1)

  -- each record has its number there
  pub each_there : (xs ys : List X) → ((n : ℕ) → has_number xs n ≡ true → has_number ys n ≡ true) → AllByRecursion (λ (x : X). has_number ys (number x) ≡ true) xs
  each_there [] ys f = tt
  each_there (x ∷ xs) ys f = (
    f (number x) (ap (λ (b : Bool). b || has_number xs (number x)) (eq-eqb (number x) (number x) refl)),
    each_there xs ys (λ n h. f n (ap (λ (b : Bool). (number x == n) || b) h ∙ or_true (number x == n))),
  )

  -- a number is that of one record
  pub by_number : (f : X → Bool) (xs : List X) → Rises xs → AllByRecursion (λ (x : X). list_any (λ r. number r == number x && f r) xs ≡ f x) xs
  by_number f [] h = tt
  by_number f (x ∷ xs) h = (
    ap (λ (b : Bool). (b && f x) || list_any (λ r. number r == number x && f r) xs) (eq-eqb (number x) (number x) refl)
        ∙ ap (λ (b : Bool). f x || b) (any_none (λ r. number r == number x && f r) xs
        (all_weaker (λ (y : X). number x < number y) (λ (y : X). (number y == number x && f y) ≡ false)
        (λ y lt. ap (λ (b : Bool). b && f y) (ne_eqb (number y) (number x) (λ d. absurd (omega (arith, d, lt))))) xs h.0))
        ∙ or_false (f x),
    all_joined (λ (y : X). number x < number y) (λ (y : X). list_any (λ r. number r == number y && f r) xs ≡ f y)
        (λ (y : X). ((number x == number y && f x) || list_any (λ r. number r == number y && f r) xs) ≡ f y)
        (λ y lt is. ap (λ (b : Bool). (b && f x) || list_any (λ r. number r == number y && f r) xs) (ne_eqb (number x) (number y) (λ d. absurd (omega (arith, d, lt)))) ∙ is)
        xs h.0 (by_number f xs h.1),
  )

  -- a number that no record has
  pub no_number : (f : X → Bool) (xs : List X) (n : ℕ) → has_number xs n ≡ false → list_any (λ r. number r == n && f r) xs ≡ false
  no_number f [] n h = refl
  no_number f (x ∷ xs) n h = elim (number x == n) as (λ b. (b || has_number xs n) ≡ false → ((b && f x) || list_any (λ r. number r == n && f r) xs) ≡ false) [
    | true ↦ λ e. absurd (false≢true (sym e))
    | false ↦ λ e. no_number f xs n e
  ] h

  -- of records that rise, those past a place that a test names are left out
  pub filter_open : (named : X → Bool) (k : ℕ) (xs : List X) → Rises xs → filter (λ x. not (has_number (drop k xs) (number x) && named x)) xs ≡ standing_less named k xs
  filter_open named zero [] h = refl
  filter_open named (suc k) [] h = refl
  filter_open named zero (x ∷ xs) h = filter_same (λ y. not (has_number (x ∷ xs) (number y) && named y)) (λ y. not (named y)) (x ∷ xs)
      (all_weaker (λ (y : X). has_number (x ∷ xs) (number y) ≡ true) (λ (y : X). not (has_number (x ∷ xs) (number y) && named y) ≡ not (named y))
      (λ y there. ap (λ (b : Bool). not (b && named y)) there) (x ∷ xs) (each_there (x ∷ xs) (x ∷ xs) (λ n there. there)))
  filter_open named (suc k) (x ∷ xs) h =
      ap (λ (b : Bool). cond (not (b && named x)) (x ∷ filter (λ y. not (has_number (drop k xs) (number y) && named y)) xs) (filter (λ y. not (has_number (drop k xs) (number y) && named y)) xs))
      (numbers_above (number x) (drop k xs) (all_dropped (λ (y : X). number x < number y) k xs h.0))
      ∙ ap (λ (rest : List X). x ∷ rest) (filter_open named k xs h.1)

  -- of records that rise, those whose number is past a place are those past it
  pub filter_past : (k : ℕ) (xs : List X) → Rises xs → filter (λ x. has_number (drop k xs) (number x)) xs ≡ drop k xs
  filter_past zero [] h = refl
  filter_past (suc k) [] h = refl
  filter_past zero (x ∷ xs) h = filter_all (λ y. has_number (x ∷ xs) (number y)) (x ∷ xs) (each_there (x ∷ xs) (x ∷ xs) (λ n there. there))
  filter_past (suc k) (x ∷ xs) h =
      ap (λ (b : Bool). cond b (x ∷ filter (λ y. has_number (drop k xs) (number y)) xs) (filter (λ y. has_number (drop k xs) (number y)) xs))
      (numbers_above (number x) (drop k xs) (all_dropped (λ (y : X). number x < number y) k xs h.0))
      ∙ filter_past k xs h.1

module _ {X Y : Type 0} (named : X → Bool) (others : Y → Bool) where
  less_none : (n : ℕ) → standing_less named n [] ≡ []
  less_none zero = refl
  less_none (suc n) = refl

  -- of those past the length of the other list, the others stay, in order
  pub drop_less : (xs : List X) (ys : List Y) → drop (length (standing_less others (length xs) ys)) (standing_less named (length ys) xs) ≡ filter (λ x. not (named x)) (drop (length ys) xs)
  drop_less [] ys =
      ap (drop (length (standing_less others zero ys))) (less_none (length ys))
      ∙ drop_empty (length (standing_less others zero ys))
      ∙ sym (ap (filter (λ x. not (named x))) (drop_empty (length ys)))
    where
      drop_empty : (n : ℕ) → drop {A = X} n [] ≡ []
      drop_empty zero = refl
      drop_empty (suc n) = refl
  drop_less (x ∷ xs) [] = refl
  drop_less (x ∷ xs) (y ∷ ys) = drop_less xs ys

-- each element is there, by what a test tells alike of it and itself
pub each_named : {X Y : Type 0} (f : X → Y) (same : Y → Y → Bool) → ((y : Y) → same y y ≡ true) → (xs ys : List X) → ((y : Y) → list_any (λ r. same (f r) y) xs ≡ true → list_any (λ r. same (f r) y) ys ≡ true) →
    AllByRecursion (λ (x : X). list_any (λ r. same (f r) (f x)) ys ≡ true) xs
each_named f same itself [] ys h = tt
each_named f same itself (x ∷ xs) ys h = (
  h (f x) (ap (λ (b : Bool). b || list_any (λ r. same (f r) (f x)) xs) (itself (f x))),
  each_named f same itself xs ys (λ y there. h y (ap (λ (b : Bool). same (f x) y || b) there ∙ or_true (same (f x) y))),
)
