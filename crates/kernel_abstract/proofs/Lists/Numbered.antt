-- Receives by their numbers.
use Rattle.std.proofs.Common.{◌≡◌, ℕ, suc, zero, ◌+◌, ◌<◌, Bool, true, false, cond, ◌==◌, ◌||◌, List, [], ◌∷◌, ◌++◌, filter, find, length, Option, None, Some, slice_get, refl, sym, ap, subst, ◌∙◌, arith, inl, inr, ◌⊎◌, eq-eqb}
use Rattle.std.specs.List.{list_any, zip, AllByRecursion}
use Rattle.std.proofs.lemmas.Bool.{ne_eqb}
use Rattle.ipc_core.specs.Records.{ReceiveRecord, SendRecord}
use Rattle.kernel_abstract.proofs.Lists.Rising.{Rises}

abbrev pub send_number : SendRecord → ℕ
send_number s = s.number

abbrev pub receive_number : ReceiveRecord → ℕ
receive_number a = a.number

-- each receive has a lower number than those after it
abbrev pub Rising : List ReceiveRecord → Type 0
Rising receives = Rises receive_number receives

abbrev pub Member : ReceiveRecord → List ReceiveRecord → Type 0
Member a [] = ⊥
Member a (x ∷ xs) = (x ≡ a) ⊎ Member a xs

pub member_get : (xs : List ReceiveRecord) (i : ℕ) (a : ReceiveRecord) → slice_get xs i ≡ Some a → Member a xs
member_get [] i a h = cc
member_get (x ∷ xs) zero a h = inl cc
member_get (x ∷ xs) (suc i) a h = inr (member_get xs i a h)

pub all_at : (P : ReceiveRecord → Type 0) (xs : List ReceiveRecord) (a : ReceiveRecord) → AllByRecursion P xs → Member a xs → P a
all_at P [] a all m = absurd m
all_at P (x ∷ xs) a all (inl e) = subst P e all.0
all_at P (x ∷ xs) a all (inr m) = all_at P xs a all.1 m

-- a member of what a filter keeps is one of the list, and passes
pub member_filter : (f : ReceiveRecord → Bool) (xs : List ReceiveRecord) (a : ReceiveRecord) → Member a (filter f xs) → Member a xs × (f a ≡ true)
member_filter f [] a m = absurd m
member_filter f (x ∷ xs) a m = elim (f x) as (λ b. f x ≡ b → Member a (cond b (x ∷ filter f xs) (filter f xs)) → Member a (x ∷ xs) × (f a ≡ true)) [
  | true ↦ λ e k. elim k [
    | inl d ↦ (inl d, ap f (sym d) ∙ e)
    | inr n ↦ let w = member_filter f xs a n in (inr w.0, w.1)
  ]
  | false ↦ λ e k. let w = member_filter f xs a k in (inr w.0, w.1)
] refl m

pub all_filter : (P : ReceiveRecord → Type 0) (f : ReceiveRecord → Bool) (xs : List ReceiveRecord) → AllByRecursion P xs → AllByRecursion P (filter f xs)
all_filter P f [] h = tt
all_filter P f (x ∷ xs) h = elim (f x) as (λ b. AllByRecursion P (cond b (x ∷ filter f xs) (filter f xs))) [ true ↦ (h.0, all_filter P f xs h.1) | false ↦ all_filter P f xs h.1 ]

pub all_map : (P Q : ReceiveRecord → Type 0) → ((x : ReceiveRecord) → P x → Q x) → (xs : List ReceiveRecord) → AllByRecursion P xs → AllByRecursion Q xs
all_map P Q f [] h = tt
all_map P Q f (x ∷ xs) h = (f x h.0, all_map P Q f xs h.1)

pub rising_filter : (f : ReceiveRecord → Bool) (xs : List ReceiveRecord) → Rising xs → Rising (filter f xs)
rising_filter f [] h = tt
rising_filter f (x ∷ xs) h = elim (f x) as (λ b. Rising (cond b (x ∷ filter f xs) (filter f xs))) [
  | true ↦ (all_filter (λ (b : ReceiveRecord). x.number < b.number) f xs h.0, rising_filter f xs h.1)
  | false ↦ rising_filter f xs h.1
]

-- a receive is known by its number
pub only_one : (xs : List ReceiveRecord) (a : ReceiveRecord) → Rising xs → Member a xs → AllByRecursion (λ (x : ReceiveRecord). x.number ≡ a.number → x ≡ a) xs
only_one [] a h m = tt
only_one (x ∷ xs) a h (inl e) =
    let same : x.number ≡ a.number = ap (λ (y : ReceiveRecord). y.number) e in
    (λ _. e, all_map (λ (b : ReceiveRecord). x.number < b.number) (λ (y : ReceiveRecord). y.number ≡ a.number → y ≡ a) (λ y lt d. absurd (omega arith)) xs h.0)
only_one (x ∷ xs) a h (inr m) =
    let lt : x.number < a.number = all_at (λ (b : ReceiveRecord). x.number < b.number) xs a h.0 m in
    (λ d. absurd (omega arith), only_one xs a h.1 m)

-- the receive that is next to be paired is in no pair yet
pub next_unpaired : (ss : List SendRecord) (qs : List ReceiveRecord) (a : ReceiveRecord) → Rising qs → slice_get qs (length ss) ≡ Some a → find (λ (p : SendRecord × ReceiveRecord). p.1.number == a.number) (zip ss qs) ≡ None
next_unpaired [] qs a h met = refl
next_unpaired (s ∷ ss) [] a h met = cc
next_unpaired (s ∷ ss) (q ∷ qs) a h met =
    let lt : q.number < a.number = all_at (λ (b : ReceiveRecord). q.number < b.number) qs a h.0 (member_get qs (length ss) a met) in
    ap (λ (b : Bool). cond b (Some (s, q)) (find (λ (p : SendRecord × ReceiveRecord). p.1.number == a.number) (zip ss qs))) (ne_eqb q.number a.number (λ e. absurd (omega arith)))
    ∙ next_unpaired ss qs a h.1 met

module _ {X : Type 0} (p : X → Bool) where
  pub find_push_no : (xs : List X) (y : X) → p y ≡ false → find p (xs ++ y ∷ []) ≡ find p xs
  find_push_no [] y h = ap (λ (b : Bool). cond b (Some y) None) h
  find_push_no (x ∷ xs) y h = ap (λ (o : Option X). cond (p x) (Some x) o) (find_push_no xs y h)

  pub find_push_yes : (xs : List X) (y : X) → find p xs ≡ None → p y ≡ true → find p (xs ++ y ∷ []) ≡ Some y
  find_push_yes [] y none h = ap (λ (b : Bool). cond b (Some y) None) h
  find_push_yes (x ∷ xs) y none h = elim (p x) as (λ b. cond b (Some x) (find p xs) ≡ None → cond b (Some x) (find p (xs ++ y ∷ [])) ≡ Some y) [
    | true ↦ λ e. cc
    | false ↦ λ e. find_push_yes xs y e h
  ] none

  -- how many pass
  abbrev pub tally : List X → ℕ
  tally [] = 0
  tally (x ∷ xs) = cond (p x) 1 0 + tally xs

  pub zero_none : (xs : List X) → tally xs ≡ 0 → list_any p xs ≡ false
  zero_none [] h = refl
  zero_none (x ∷ xs) h = elim (p x) as (λ b. cond b 1 0 + tally xs ≡ 0 → (b || list_any p xs) ≡ false) [
    | true ↦ λ e. absurd (omega arith)
    | false ↦ λ e. zero_none xs (omega arith)
  ] h

  pub none_zero : (xs : List X) → list_any p xs ≡ false → tally xs ≡ 0
  none_zero [] h = refl
  none_zero (x ∷ xs) h = elim (p x) as (λ b. (b || list_any p xs) ≡ false → cond b 1 0 + tally xs ≡ 0) [
    | true ↦ λ e. cc
    | false ↦ λ e. let z : tally xs ≡ 0 = none_zero xs e in omega arith
  ] h

-- nothing is found where each key fails
pub find_nothing : (p : ℕ → Bool) (keys : List ℕ) → ((k : ℕ) → list_any (λ x. k == x) keys ≡ true → p k ≡ false) → find p keys ≡ None
find_nothing p [] h = refl
find_nothing p (k ∷ ks) h =
    ap (λ (b : Bool). cond b (Some k) (find p ks)) (h k (ap (λ (b : Bool). b || list_any (λ x. k == x) ks) (eq-eqb k k refl)))
    ∙ find_nothing p ks (λ q there. h q (one_more (q == k) (list_any (λ x. q == x) ks) there))
  where
    one_more : (b c : Bool) → c ≡ true → (b || c) ≡ true
    one_more true c e = refl
    one_more false c e = e

pub any_kept : (f : ReceiveRecord → Bool) (xs : List ReceiveRecord) (a : ReceiveRecord) → Member a xs → f a ≡ true → list_any (λ (x : ReceiveRecord). x.number == a.number) (filter f xs) ≡ true
any_kept f [] a m h = absurd m
any_kept f (x ∷ xs) a (inl e) h =
    ap (λ (b : Bool). list_any (λ (y : ReceiveRecord). y.number == a.number) (cond b (x ∷ filter f xs) (filter f xs))) (ap f e ∙ h)
    ∙ ap (λ (b : Bool). b || list_any (λ (y : ReceiveRecord). y.number == a.number) (filter f xs)) (eq-eqb x.number a.number (ap (λ (y : ReceiveRecord). y.number) e))
any_kept f (x ∷ xs) a (inr m) h =
    elim (f x) as (λ b. list_any (λ (y : ReceiveRecord). y.number == a.number) (cond b (x ∷ filter f xs) (filter f xs)) ≡ true) [
      | true ↦ either (x.number == a.number) _ (any_kept f xs a m h)
      | false ↦ any_kept f xs a m h
    ]
  where
    either : (b c : Bool) → c ≡ true → (b || c) ≡ true
    either true c e = refl
    either false c e = e

pub none_kept : (f : ReceiveRecord → Bool) (xs : List ReceiveRecord) (n : ℕ) → AllByRecursion (λ (x : ReceiveRecord). x.number ≡ n → f x ≡ false) xs → list_any (λ (x : ReceiveRecord). x.number == n) (filter f xs) ≡ false
none_kept f [] n h = refl
none_kept f (x ∷ xs) n h =
    elim (f x) as (λ b. f x ≡ b → list_any (λ (y : ReceiveRecord). y.number == n) (cond b (x ∷ filter f xs) (filter f xs)) ≡ false) [
      | true ↦ λ e. ap (λ (b : Bool). b || list_any (λ (y : ReceiveRecord). y.number == n) (filter f xs)) (ne_eqb x.number n (λ d. let no : true ≡ false = sym e ∙ h.0 d in cc)) ∙ none_kept f xs n h.1
      | false ↦ λ e. none_kept f xs n h.1
    ] refl
