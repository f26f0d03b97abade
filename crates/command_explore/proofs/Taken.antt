-- The numbers of calls that clients make in turn, one by one.
use Rattle.std.proofs.Common.{◌≡◌, ℕ, zero, suc, ◌+◌, ◌<◌, ◌≤◌, ◌==◌, ◌⊎◌, inl, inr, true, false, List, [], ◌∷◌, ◌++◌, length, take, drop, get_or, replicate, Option, None, Some, IfSome, option_and_then, slice_get, unwrap_or, refl, ap, sym, subst, ◌∙◌, append_assoc, arith}
use Rattle.std.specs.Prelude.{slice_set}
use Rattle.std.specs.List.{count_by}
use Rattle.std.proofs.lemmas.Bool.{eqb-true, eqb-false}
use Rattle.std.proofs.lemmas.List.{append-nil, drop_all, drop_more, length-take, take_more}
use Rattle.std.proofs.lemmas.List.Sums.{count_by_more_yes, count_by_more_no, count_by-le-length}
use Rattle.std.proofs.lemmas.Option.{slice_get_past}
use Rattle.query_orders.specs.World.{next_place, one_more}
use Rattle.command_explore.specs.Numbers.{call_number_at, order_numbers}
use Rattle.command_explore.proofs.CallAnswers.{set_same, set_other}

-- how often a client is in an order
abbrev times : List ℕ → ℕ → ℕ
times order client = count_by (λ c. c == client) order

-- behind the first calls of an order: how many calls each client has made, of those that have calls, and the numbers so far
pub record IsTaken (numbers : List (List ℕ)) (order made own : List ℕ) (i : ℕ) : Type 0 where
  pub each : (client : ℕ) → client < length numbers → slice_get made client ≡ Some (times (take i order) client)
  pub none : (client : ℕ) → length numbers ≤ client → slice_get made client ≡ None
  pub told : own ++ order_numbers numbers (take i order) (drop i order) ≡ order_numbers numbers [] order

within_or : (a b : ℕ) → (a < b) ⊎ (b ≤ a)
within_or a zero = inr (omega arith)
within_or zero (suc b) = inl (omega arith)
within_or (suc a) (suc b) = elim (within_or a b) as (λ _. (suc a < suc b) ⊎ (suc b ≤ suc a)) [ inl h ↦ inl (omega (arith, h)) | inr h ↦ inr (omega (arith, h)) ]

get_replicate : (n client : ℕ) → client < n → slice_get {X = ℕ} (replicate n 0) client ≡ Some 0
get_replicate zero client lt = absurd (omega arith)
get_replicate (suc n) zero lt = refl
get_replicate (suc n) (suc client) lt = get_replicate n client (omega (arith, lt))

past_replicate : (n client : ℕ) → n ≤ client → ◌≡◌ {A = Option ℕ} (slice_get (replicate n 0) client) None
past_replicate zero client le = refl
past_replicate (suc n) zero le = absurd (omega arith)
past_replicate (suc n) (suc client) le = past_replicate n client (omega (arith, le))

pub taken_none : (numbers : List (List ℕ)) (order made : List ℕ) (count : ℕ) → made ≡ replicate count 0 → count ≡ length numbers → IsTaken numbers order made [] 0
taken_none numbers order made count zeros long = record {
  each = λ client lt. ap (λ (l : List ℕ). slice_get l client) zeros ∙ get_replicate count client (omega (arith, lt, long));
  none = λ client le. ap (λ (l : List ℕ). slice_get l client) zeros ∙ past_replicate count client (omega (arith, le, long));
  told = refl;
}

if_some_is : {X : Type 0} (o : Option X) (x : X) (P : X → Type 0) → o ≡ Some x → P x → IfSome o P
if_some_is o x P is h = subst (λ o. IfSome o P) (sym is) h

if_none_is : {X : Type 0} (o : Option X) (P : X → Type 0) → o ≡ None → IfSome o P
if_none_is o P is = subst (λ o. IfSome o P) (sym is) tt

module _ (numbers : List (List ℕ)) (order made own : List ℕ) (i : ℕ) (so_far : IsTaken numbers order made own i) (lt : i < length order) where
  -- a client has made fewer calls than the order has
  pub taken_fits : (client most : ℕ) → length order ≤ most → IfSome (slice_get made client) (λ (n : ℕ). n + 1 ≤ most)
  taken_fits client most le = elim (within_or client (length numbers)) [
    | inl within ↦
        (let few = count_by-le-length (λ c. c == client) (take i order) in
        let short = length-take i order in
        if_some_is (slice_get made client) (times (take i order) client) (λ (n : ℕ). n + 1 ≤ most) (so_far.each client within) (omega (arith, few, short)))
    | inr past ↦ if_none_is (slice_get made client) (λ (n : ℕ). n + 1 ≤ most) (so_far.none client past)
  ]

  abbrev client : ℕ
  client = get_or order i 0

  number_is : call_number_at numbers client (next_place made client) ≡ call_number_at numbers client (times (take i order) client)
  number_is = elim (within_or client (length numbers)) [
    | inl within ↦ ap (call_number_at numbers client) (ap (λ (o : Option ℕ). unwrap_or o 0) (so_far.each client within))
    | inr past ↦
        (let none : slice_get numbers client ≡ None = slice_get_past numbers client past in
        let missing = λ (place : ℕ). ap (λ (o : Option (List ℕ)). unwrap_or (option_and_then (λ (l : List ℕ). slice_get l place) o) 0) none in
        missing (next_place made client) ∙ sym (missing (times (take i order) client)))
  ]

  -- another client's calls stay
  kept : (o : Option ℕ) (c : ℕ) → (client ≡ c → ⊥) → slice_get (one_more client o made) c ≡ slice_get made c
  kept None c other = refl
  kept (Some n) c other = set_other made client c (n + 1) other

  module _ (made' : List ℕ) (counted : made' ≡ one_more client (slice_get made client) made) where
    each_more : (c : ℕ) → c < length numbers → slice_get made' c ≡ Some (times (take (i + 1) order) c)
    each_more c within = elim (client == c) as (λ b. (client == c) ≡ b → slice_get made' c ≡ Some (times (take (i + 1) order) c)) [
      | true ↦ λ h.
          (let same : client ≡ c = eqb-true client c h in
          let n : ℕ = times (take i order) c in
          let before : slice_get made client ≡ Some n = ap (slice_get made) same ∙ so_far.each c within in
          ap (λ (l : List ℕ). slice_get l c) (counted ∙ ap (λ (o : Option ℕ). one_more client o made) before)
          ∙ ap (slice_get (slice_set made client (n + 1))) (sym same)
          ∙ set_same made client n (n + 1) before
          ∙ ap (λ (k : ℕ). Some k) (sym (count_by_more_yes (λ k. k == c) order i 0 lt h)))
      | false ↦ λ h.
          (ap (λ (l : List ℕ). slice_get l c) counted
          ∙ kept (slice_get made client) c (eqb-false client c h)
          ∙ so_far.each c within
          ∙ ap (λ (k : ℕ). Some k) (sym (count_by_more_no (λ k. k == c) order i 0 lt h)))
    ] refl

    none_more : (c : ℕ) → length numbers ≤ c → slice_get made' c ≡ None
    none_more c past = elim (client == c) as (λ b. (client == c) ≡ b → slice_get made' c ≡ None) [
      | true ↦ λ h.
          (let before : slice_get made client ≡ None = ap (slice_get made) (eqb-true client c h) ∙ so_far.none c past in
          ap (λ (l : List ℕ). slice_get l c) (counted ∙ ap (λ (o : Option ℕ). one_more client o made) before) ∙ so_far.none c past)
      | false ↦ λ h. ap (λ (l : List ℕ). slice_get l c) counted ∙ kept (slice_get made client) c (eqb-false client c h) ∙ so_far.none c past
    ] refl

    pub taken_more : (own' : List ℕ) → own' ≡ own ++ call_number_at numbers client (next_place made client) ∷ [] → IsTaken numbers order made' own' (i + 1)
    taken_more own' pushed = record {
      each = each_more;
      none = none_more;
      told =
          let number = call_number_at numbers client (times (take i order) client) in
          ap (λ l. l ++ order_numbers numbers (take (i + 1) order) (drop (i + 1) order)) (pushed ∙ ap (λ n. own ++ n ∷ []) number_is)
          ∙ append_assoc own (number ∷ []) (order_numbers numbers (take (i + 1) order) (drop (i + 1) order))
          ∙ ap (λ l. own ++ (number ∷ order_numbers numbers l (drop (i + 1) order))) (take_more order i 0 lt)
          ∙ ap (λ l. own ++ order_numbers numbers (take i order) l) (sym (drop_more order i 0 lt))
          ∙ so_far.told;
    }

-- behind all of an order
pub taken_all : (numbers : List (List ℕ)) (order made own : List ℕ) (i : ℕ) → IsTaken numbers order made own i → length order ≤ i → own ≡ order_numbers numbers [] order
taken_all numbers order made own i all le =
    sym (append-nil own) ∙ sym (ap (λ l. own ++ order_numbers numbers (take i order) l) (drop_all i order le)) ∙ all.told
