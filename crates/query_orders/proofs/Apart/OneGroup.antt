-- Where all clients are in one group, an order's part is the whole order, or nothing.
use Rattle.std.proofs.Common.{◌≡◌, ℕ, suc, ◌<◌, ◌≤◌, Bool, true, false, List, [], ◌∷◌, map, filter, length, Option, None, Some, get_or, refl, ap, sym, ◌∙◌, inl, inr, arith}
use Rattle.std.proofs.lemmas.List.{same_lists}
use Rattle.std.proofs.lemmas.Bool.{false≢true}
use Rattle.std.proofs.lemmas.Bool.Decides.{leb_tells}
use Rattle.std.proofs.lemmas.Option.{slice_get_past, get_or_from_slice_get, slice_get-get_or, unwrap_or-slice_get}
use Rattle.std.specs.List.{flat_map, AllByRecursion as Each}
use Rattle.cap_core.specs.declared.profile.ProfileName.{ProfileName}
use Rattle.kernel_abstract.specs.declared.call.Call.{Call}
use Rattle.kernel_abstract.specs.Shown.{Shown}
use Rattle.kernel_abstract.specs.State.{shown}
use Rattle.query_orders.specs.declared.answer.Answer.TheVariants.{Waits, NotMade}
use Rattle.query_orders.specs.declared.answer.WaitingCall.{WaitingCall}
use Rattle.query_orders.specs.declared.left.LeftCall.{LeftCall}
use Rattle.query_orders.specs.World.{World, next_client_call, can_be_made}
use Rattle.query_orders.specs.Orders.{clients}
use Rattle.query_orders.specs.Answers.{Answered, answered, call_answers, places_left, end_answers}
use Rattle.query_orders.specs.Ends.{left_call, left_calls}
use Rattle.query_orders.specs.Groups.{alone}
use Rattle.query_orders.specs.Laws.{EachCanBeMade}
use Rattle.query_orders.specs.Apart.{IsSeenAlike}
use Rattle.query_orders.proofs.Contained.{each_append, each-flat_map}
use Rattle.query_orders.proofs.Possible.{caller_is_client}
use Rattle.query_orders.proofs.Apart.Lists.{each_map, each_of, each_weaker, filter_nothing, filter_whole}
use Rattle.query_orders.proofs.Apart.Contents.{each_below}
use Rattle.query_orders.proofs.Apart.Alone.{lone_long, list_same}
use Rattle.query_orders.proofs.Apart.Clients.{no_next, IsOfClient}

module _ (own : List (List Call)) (made : List ℕ) (has : ℕ → Bool) where
  -- ---- all clients are in the group

  module _ (all : (client : ℕ) → client < length own → has client ≡ true) where
    pub alone_is_all : alone own made has ≡ own
    alone_is_all = same_lists (alone own made has) own (lone_long own made has) at
      where
        at : (k : ℕ) (d : List Call) → k < length (alone own made has) → get_or (alone own made has) k d ≡ get_or own k d
        at k d lt =
            let long = lone_long own made has in
            let below : k < length own = omega (arith, lt, long) in
            let one = get_or_from_slice_get (alone own made has) k (get_or (alone own made has) k []) d (slice_get-get_or (alone own made has) k [] lt) in
            let other = get_or_from_slice_get own k (get_or own k []) d (slice_get-get_or own k [] below) in
            one ∙ sym (unwrap_or-slice_get (alone own made has) k []) ∙ list_same own made has k (all k below) ∙ unwrap_or-slice_get own k [] ∙ sym other

    pub part_is_all : (order : List ℕ) → Each (λ client. client < length own) order → filter has order ≡ order
    part_is_all order below = filter_whole has order (each_weaker (λ client. client < length own) (λ client. has client ≡ true) all order below)

  -- ---- none of them is

  module _ (none : (client : ℕ) → client < length own → has client ≡ false) where
    pub part_is_none : (order : List ℕ) → Each (λ client. client < length own) order → filter has order ≡ []
    part_is_none order below = filter_nothing has order (each_weaker (λ client. client < length own) (λ client. has client ≡ false) none order below)

    -- a number that is in the group is no client's
    beyond : (client : ℕ) → has client ≡ true → length own ≤ client
    beyond client is = elim (leb_tells (suc client) (length own)) as (λ _. length own ≤ client) [
      | inl low ↦ absurd (false≢true (sym (none client low.1) ∙ is))
      | inr high ↦ (let lt = high.1 in omega (arith, lt))
    ]

    no_call : (made' : List ℕ) (client : ℕ) → has client ≡ true → next_client_call own made' client ≡ None
    no_call made' client is = no_next own made' client (slice_get_past own client (beyond client is))

    no_call_alone : (made' : List ℕ) (client : ℕ) → has client ≡ true → next_client_call (alone own made has) made' client ≡ None
    no_call_alone made' client is =
        let long = lone_long own made has in
        let past = beyond client is in
        no_next (alone own made has) made' client (slice_get_past (alone own made has) client (omega (arith, long, past)))

    clients_apart : (l : List (List Call)) → length l ≡ length own → Each (λ client. has client ≡ false) (clients l)
    clients_apart l long = each_weaker (λ client. client < length l) (λ client. has client ≡ false) (λ client lt. none client (omega (arith, lt, long))) (clients l) (each_below (length l))

    no_ends : (l : List (List Call)) → length l ≡ length own → (x : World) → Each (IsOfClient own) x.waits → (order : List ℕ) → filter (λ (a : Answered). has a.client) (end_answers l x order) ≡ []
    no_ends l long x waits order =
        let P = λ (a : Answered). has a.client ≡ false in
        let waiting = λ (call : WaitingCall). answered order call.client call.place Waits in
        let left = λ (client : ℕ). map (λ place. answered order client place NotMade) (places_left l x.made client) in
        filter_nothing (λ (a : Answered). has a.client) (end_answers l x order)
        (each_append P (map waiting x.waits) (flat_map left (clients l))
        (each_map P waiting x.waits (each_weaker (IsOfClient own) (λ (call : WaitingCall). has call.client ≡ false) (λ call lt. none call.client lt) x.waits waits))
        (each-flat_map (λ client. has client ≡ false) P left
        (λ client is. each_map P (λ place. answered order client place NotMade) (places_left l x.made client) (each_of (λ place. has client ≡ false) (λ place. is) (places_left l x.made client)))
        (clients l) (clients_apart l long)))

    no_left : (l : List (List Call)) → length l ≡ length own → (made' : List ℕ) (x : Shown) → filter (λ (c : LeftCall). has c.client) (left_calls l made' x) ≡ []
    no_left l long made' x =
        filter_nothing (λ (c : LeftCall). has c.client) (left_calls l made' x)
        (each-flat_map (λ client. has client ≡ false) (λ (c : LeftCall). has c.client ≡ false) (λ client. left_call x made' client (next_client_call l made' client))
        (λ client is. by client is (next_client_call l made' client)) (clients l) (clients_apart l long))
      where
        by : (client : ℕ) → has client ≡ false → (c : Option Call) → Each (λ (c : LeftCall). has c.client ≡ false) (left_call x made' client c)
        by client is None = tt
        by client is (Some call) = (is, tt)

    pub nothing_seen : (p : ProfileName) (v u : World) → Each (IsOfClient own) v.waits → Each (IsOfClient own) u.waits → IsSeenAlike p own (alone own made has) has v u
    nothing_seen p v u v_waits u_waits = record {
      may = λ client is. ap (can_be_made (shown v.kernel)) (no_call v.made client is) ∙ sym (ap (can_be_made (shown u.kernel)) (no_call_alone u.made client is));
      told = λ order client is.
          ap (call_answers p v order client) (no_call v.made client is) ∙ sym (ap (call_answers p u order client) (no_call_alone u.made client is));
      ends = λ order. no_ends own refl v v_waits order ∙ sym (no_ends (alone own made has) (lone_long own made has) u u_waits order);
      left = no_left own refl v.made (shown v.kernel) ∙ sym (no_left (alone own made has) (lone_long own made has) u.made (shown u.kernel));
    }

    -- and no order of the group has a call
    pub no_order : (p : ProfileName) (w : World) (more : List ℕ) → EachCanBeMade p (alone own made has) w more → Each (λ client. has client ≡ true) more → more ≡ []
    no_order p w [] h ours = refl
    no_order p w (client ∷ more) h ours =
        let lt = caller_is_client (alone own made has) w client (h [] client more refl) in
        let long = lone_long own made has in
        absurd (false≢true (sym (none client (omega (arith, lt, long))) ∙ ours.0))
