-- The first calls tell the same where of the other clients no more calls are kept than these.
use Rattle.std.proofs.Common.{◌≡◌, ◌+◌, ◌≤◌, ℕ, zero, suc, Bool, true, false, cond, List, [], ◌∷◌, ◌++◌, take, replicate, Option, None, Some, option_and_then, slice_get, unwrap_or, refl, ap, sym, ◌∙◌, inl, inr, arith}
use Rattle.std.proofs.lemmas.Bool.Decides.{eqb_tells}
use Rattle.cap_core.specs.declared.profile.ProfileName.{ProfileName}
use Rattle.kernel_abstract.specs.declared.call.Call.{Call}
use Rattle.kernel_abstract.specs.State.{State}
use Rattle.query_orders.specs.World.{World, start, call_of_client_at, next_client_call, one_more, next_place, with_call, after_call, world_after}
use Rattle.query_orders.specs.Answers.{Answered, call_answers, first_answers}
use Rattle.query_orders.specs.Groups.{alone}
use Rattle.query_orders.specs.Apart.{FirstTellTheSame}
use Rattle.query_orders.proofs.NoLonger.{get-set_same}
use Rattle.query_orders.proofs.Apart.Agreement.{more_apart}
use Rattle.query_orders.proofs.Apart.Alone.{lone_long}
use Rattle.query_orders.proofs.AllOrders.Others.{calls_in, call_in, kept_calls}

-- a list's front has what the list has at a place, if it has nothing behind the front there
of_front : {X : Type 0} (k : ℕ) (xs : List X) (n : ℕ) → (k ≤ n → slice_get xs n ≡ None) → slice_get (take k xs) n ≡ slice_get xs n
of_front zero xs n h = sym (h (omega arith))
of_front (suc k) [] n h = refl
of_front (suc k) (x ∷ xs) zero h = refl
of_front (suc k) (x ∷ xs) (suc n) h = of_front k xs n (λ le. h (omega (arith, le)))

-- ---- no client has made fewer calls than before

place_set : (made : List ℕ) (client n : ℕ) → slice_get made client ≡ Some n → next_place (one_more client (slice_get made client) made) client ≡ n + 1
place_set made client n is =
    ap (λ (o : Option ℕ). next_place (one_more client o made) client) is ∙ ap (λ (o : Option ℕ). unwrap_or o 0) (get-set_same made client (n + 1) n is)

place_kept : (made : List ℕ) (client other : ℕ) → next_place made other ≤ next_place (one_more client (slice_get made client) made) other
place_kept made client other = elim (eqb_tells other client) as (λ _. next_place made other ≤ next_place (one_more client (slice_get made client) made) other) [
  | inl same ↦ by (slice_get made client) refl same.1
  | inr apart ↦ (let is = ap (λ (o : Option ℕ). unwrap_or o 0) (more_apart made client other (slice_get made client) apart.1) in omega (arith, is))
]
  where
    by : (o : Option ℕ) → slice_get made client ≡ o → other ≡ client → next_place made other ≤ next_place (one_more client (slice_get made client) made) other
    by None e is =
        let at = ap (λ (o : Option ℕ). next_place (one_more client o made) other) e in
        omega (arith, at)
    by (Some n) e is =
        let before = ap (next_place made) is ∙ ap (λ (o : Option ℕ). unwrap_or o 0) e in
        let after = ap (next_place (one_more client (slice_get made client) made)) is ∙ place_set made client n e in
        omega (arith, before, after)

place_with : (p : ProfileName) (v : World) (client other : ℕ) (c : Option Call) → next_place v.made other ≤ next_place (with_call p v client c).made other
place_with p v client other None = omega arith
place_with p v client other (Some call) = place_kept v.made client other

places_grow : (p : ProfileName) (own : List (List Call)) (v : World) (order : List ℕ) (other : ℕ) → next_place v.made other ≤ next_place (world_after p own v order).made other
places_grow p own v [] other = omega arith
places_grow p own v (client ∷ order) other =
    let one = place_with p v client other (next_client_call own v.made client) in
    let rest = places_grow p own (after_call p own v client) order other in
    omega (arith, one, rest)

-- ---- the calls are the same, and what they tell

module _ (p : ProfileName) (own : List (List Call)) (made : List ℕ) (has : ℕ → Bool) where
  abbrev lone : List (List Call)
  lone = alone own made has

  call_kept : (client n : ℕ) → (next_place made client ≤ n → call_of_client_at own client n ≡ None) → call_of_client_at lone client n ≡ call_of_client_at own client n
  call_kept client n none =
      let all = calls_in own made has own client in
      call_in own made has lone client n
      ∙ ap (λ (l : List Call). slice_get l n) (kept_calls own made has client)
      ∙ (elim (has client) as (λ b. slice_get (cond b all (take (next_place made client) all)) n ≡ slice_get all n) [
        | true ↦ refl
        | false ↦ of_front (next_place made client) all n (λ le. sym (call_in own made has own client n) ∙ none le)
      ])
      ∙ sym (call_in own made has own client n)

  next_same : (v : World) (client : ℕ) → next_place (after_call p own v client).made client ≤ next_place made client → next_client_call lone v.made client ≡ next_client_call own v.made client
  next_same v client le = by (slice_get v.made client) refl
    where
      by : (o : Option ℕ) → slice_get v.made client ≡ o → option_and_then (call_of_client_at lone client) o ≡ option_and_then (call_of_client_at own client) o
      by None e = refl
      by (Some n) e = call_kept client n (λ past. none past (call_of_client_at own client n) refl)
        where
          none : next_place made client ≤ n → (c : Option Call) → call_of_client_at own client n ≡ c → c ≡ None
          none past None is = refl
          none past (Some call) is =
              let next : next_client_call own v.made client ≡ Some call = ap (λ (o : Option ℕ). option_and_then (call_of_client_at own client) o) e ∙ is in
              let after = ap (λ (c : Option Call). next_place (with_call p v client c).made client) next ∙ place_set v.made client n e in
              absurd (omega (arith, after, le, past))

  tell_same : (order : List ℕ) (v : World) (before : List ℕ) → ((client : ℕ) → next_place (world_after p own v order).made client ≤ next_place made client) →
      first_answers p lone v before order ≡ first_answers p own v before order
  tell_same [] v before most = refl
  tell_same (client ∷ order) v before most =
      let grow = places_grow p own (after_call p own v client) order client in
      let le = most client in
      ap (λ (c : Option Call). call_answers p v before client c ++ first_answers p lone (with_call p v client c) (before ++ client ∷ []) order) (next_same v client (omega (arith, grow, le)))
      ∙ ap (λ (l : List Answered). call_answers p v before client (next_client_call own v.made client) ++ l) (tell_same order (after_call p own v client) (before ++ client ∷ []) most)

pub first_tell_the_same : (p : ProfileName) (own : List (List Call)) (A : State) (first : List ℕ) (has : ℕ → Bool) → FirstTellTheSame p own A first has
first_tell_the_same p own A first has =
    let made = (world_after p own (start own A) first).made in
    ap (λ n. first_answers p (alone own made has) (record { made = replicate n 0; waits = []; kernel = A }) [] first) (lone_long own made has)
    ∙ tell_same p own made has first (start own A) [] (λ client. omega arith)
