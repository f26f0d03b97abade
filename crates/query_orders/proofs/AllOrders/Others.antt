-- Where a group's clients call by themselves, no other client has a call left.
use Rattle.std.proofs.Common.{◌≡◌, ◌≢◌, ℕ, zero, suc, Bool, true, false, cond, List, [], ◌∷◌, length, take, Option, None, Some, option_and_then, slice_get, unwrap_or, refl, ap, sym, subst, ◌∙◌, inl, inr, arith}
use Rattle.std.specs.List.{AllByRecursion as Each}
use Rattle.std.proofs.lemmas.Bool.{false≢true}
use Rattle.std.proofs.lemmas.Bool.Decides.{leb_tells}
use Rattle.std.proofs.lemmas.List.{length-take}
use Rattle.std.proofs.lemmas.Option.{slice_get_past}
use Rattle.cap_core.specs.declared.profile.ProfileName.{ProfileName}
use Rattle.kernel_abstract.specs.declared.call.Call.{Call}
use Rattle.kernel_abstract.specs.Shown.{Shown}
use Rattle.kernel_abstract.specs.State.{shown}
use Rattle.query_orders.specs.declared.left.LeftCall.{LeftCall}
use Rattle.query_orders.specs.World.{World, call_of_client_at, next_client_call, next_place, can_be_made, may_call, with_call, after_call, world_after}
use Rattle.query_orders.specs.Orders.{clients}
use Rattle.query_orders.specs.Ends.{left_call, left_calls}
use Rattle.query_orders.specs.Groups.{calls_left_in, alone}
use Rattle.query_orders.specs.Laws.{EachCanBeMade}
use Rattle.query_orders.proofs.Contained.{each-flat_map}
use Rattle.query_orders.proofs.Grouped.Lists.{mapped_below}
use Rattle.query_orders.proofs.Apart.Lists.{each_of}
use Rattle.query_orders.proofs.Apart.Alone.{lone_long}
use Rattle.query_orders.proofs.Apart.Agreement.{more_apart}

module _ (own : List (List Call)) (made : List ℕ) (has : ℕ → Bool) where
  abbrev lone : List (List Call)
  lone = alone own made has

  abbrev pub calls_in : List (List Call) → ℕ → List Call
  calls_in l client = unwrap_or (slice_get l client) []

  pub call_in : (l : List (List Call)) (client place : ℕ) → call_of_client_at l client place ≡ slice_get (calls_in l client) place
  call_in l client place = by (slice_get l client)
    where
      by : (o : Option (List Call)) → option_and_then (λ (calls : List Call). slice_get calls place) o ≡ slice_get (unwrap_or o []) place
      by None = refl
      by (Some calls) = refl

  -- the calls of a client, where the group's clients are by themselves
  pub kept_calls : (client : ℕ) → calls_in lone client ≡ calls_left_in made has client (calls_in own client)
  kept_calls client = elim (leb_tells (suc client) (length own)) as (λ _. calls_in lone client ≡ calls_left_in made has client (calls_in own client)) [
    | inl low ↦ mapped_below (λ c. calls_left_in made has c (calls_in own c)) (length own) client [] low.1
    | inr high ↦ (
        let lt = high.1 in
        let long = lone_long own made has in
        ap (λ (o : Option (List Call)). unwrap_or o []) (slice_get_past lone client (omega (arith, lt, long)))
        ∙ none (has client) (next_place made client)
        ∙ sym (ap (λ (o : Option (List Call)). cond (has client) (unwrap_or o []) (take (next_place made client) (unwrap_or o []))) (slice_get_past own client (omega (arith, lt)))))
  ]
    where
      none : (b : Bool) (n : ℕ) → ◌≡◌ {A = List Call} [] (cond b [] (take n []))
      none true n = refl
      none false zero = refl
      none false (suc n) = refl

  none_left : (client place : ℕ) → has client ≡ false → next_place made client ≡ place → call_of_client_at lone client place ≡ None
  none_left client place other is =
      let all = calls_in own client in
      let short = length-take (next_place made client) all in
      call_in lone client place
      ∙ ap (λ (l : List Call). slice_get l place) (kept_calls client ∙ ap (λ b. cond b all (take (next_place made client) all)) other)
      ∙ slice_get_past (take (next_place made client) all) place (omega (arith, short, is))

  -- no other client has a call left
  abbrev pub AreDone : World → Type 0
  AreDone v = (client : ℕ) → has client ≡ false → next_client_call lone v.made client ≡ None

  pub done_first : (w : World) → w.made ≡ made → AreDone w
  done_first w is client other = ap (λ (l : List ℕ). next_client_call lone l client) is ∙ by (slice_get made client) refl
    where
      by : (o : Option ℕ) → slice_get made client ≡ o → option_and_then (call_of_client_at lone client) o ≡ None
      by None e = refl
      by (Some n) e = none_left client n other (ap (λ (o : Option ℕ). unwrap_or o 0) e)

  pub caller_ours : (v : World) → AreDone v → (client : ℕ) → may_call lone v client ≡ true → has client ≡ true
  caller_ours v done client may = by (has client) refl
    where
      by : (b : Bool) → has client ≡ b → b ≡ true
      by true is = refl
      by false is = absurd (false≢true (sym (ap (can_be_made (shown v.kernel)) (done client is)) ∙ may))

  module _ (p : ProfileName) where
    unmoved : (v : World) (client other : ℕ) (c : Option Call) → other ≢ client → slice_get (with_call p v client c).made other ≡ slice_get v.made other
    unmoved v client other None apart = refl
    unmoved v client other (Some call) apart = more_apart v.made client other (slice_get v.made client) apart

    done_after : (v : World) → AreDone v → (client : ℕ) → has client ≡ true → AreDone (after_call p lone v client)
    done_after v done client is other not_ours =
        ap (λ (o : Option ℕ). option_and_then (call_of_client_at lone other) o)
        (unmoved v client other (next_client_call lone v.made client) (λ same. false≢true (sym not_ours ∙ ap has same ∙ is)))
        ∙ done other not_ours

    -- and so only the group's clients call
    pub order_ours : (order : List ℕ) (v : World) → AreDone v → EachCanBeMade p lone v order → Each (λ client. has client ≡ true) order × AreDone (world_after p lone v order)
    order_ours [] v done can = (tt, done)
    order_ours (client ∷ order) v done can =
        let is = caller_ours v done client (can [] client order refl) in
        let rest = order_ours order (after_call p lone v client) (done_after v done client is) (λ front c later e. can (client ∷ front) c later (ap (λ (l : List ℕ). client ∷ l) e)) in
        ((is, rest.0), rest.1)

  -- what is left is the group's
  pub left_ours : (v : World) → AreDone v → (x : Shown) → Each (λ (c : LeftCall). has c.client ≡ true) (left_calls lone v.made x)
  left_ours v done x =
      each-flat_map (λ client. Unit {0}) (λ (c : LeftCall). has c.client ≡ true) (λ client. left_call x v.made client (next_client_call lone v.made client))
      (λ client _. by client (has client) refl) (clients lone) (each_of (λ client. Unit {0}) (λ client. tt) (clients lone))
    where
      its_own : (client : ℕ) → has client ≡ true → (c : Option Call) → Each (λ (c : LeftCall). has c.client ≡ true) (left_call x v.made client c)
      its_own client is None = tt
      its_own client is (Some call) = (is, tt)

      by : (client : ℕ) (b : Bool) → has client ≡ b → Each (λ (c : LeftCall). has c.client ≡ true) (left_call x v.made client (next_client_call lone v.made client))
      by client true is = its_own client is (next_client_call lone v.made client)
      by client false is = subst (λ (c : Option Call). Each (λ (c : LeftCall). has c.client ≡ true) (left_call x v.made client c)) (sym (done client is)) tt
