-- What is told behind an order, but for the order itself.
use Rattle.std.proofs.Common.{◌≡◌, ◌⊎◌, ℕ, Bool, true, false, cond, not, List, [], ◌∷◌, ◌++◌, map, filter, length, Option, None, Some, refl, ap, sym, subst, ◌∙◌, inl, inr}
use Rattle.std.specs.List.{Contains, flat_map}
use Rattle.std.proofs.lemmas.List.{map-append}
use Rattle.std.proofs.lemmas.List.Elements.{Contains-append_left, Contains-append_right, Contains-append_cases}
use Rattle.cap_core.specs.declared.profile.ProfileName.{ProfileName}
use Rattle.kernel_abstract.specs.declared.call.Call.{Call}
use Rattle.kernel_abstract.specs.declared.call.Reply.{Reply}
use Rattle.kernel_abstract.specs.Shown.{Shown}
use Rattle.kernel_abstract.specs.State.{State, shown}
use Rattle.kernel_abstract.specs.Step.{step}
use Rattle.query_orders.specs.declared.answer.Answer.{Answer}
use Rattle.query_orders.specs.declared.answer.Answer.TheVariants.{Replied, Waits, NotMade}
use Rattle.query_orders.specs.declared.answer.WaitingCall.{WaitingCall}
use Rattle.query_orders.specs.World.{World, start, next_client_call, next_place, is_wait, still_waits, may_call, world_after}
use Rattle.query_orders.specs.Orders.{clients, is_end}
use Rattle.query_orders.specs.Answers.{Answered, answered, replied, wait_ended, waits_ended, call_answers, places_left, end_answers}
use Rattle.query_orders.specs.Laws.{EachCanBeMade}
use Rattle.query_orders.specs.Apart.{IsTold}
use Rattle.query_orders.proofs.Contained.{contains-nil, contains-map, contains-filter, contains-flat_map, contains-below}
use Rattle.query_orders.proofs.Possible.{caller_is_client}
use Rattle.query_orders.proofs.Behind.{orders_go_on}
use Rattle.query_orders.proofs.Exploration.Steps.{world_after-append}
use Rattle.query_orders.proofs.AllOrders.Listed.{passed, given, map-again, map-flat_map}

-- ---- the same answers, told with another order

abbrev with_order : List ℕ → Answered → Answered
with_order order a = answered order a.client a.place a.answer

reply_moved : (order to : List ℕ) (client place : ℕ) (reply : Reply) → map (with_order to) (replied order client place reply) ≡ replied to client place reply
reply_moved order to client place reply =
    elim (is_wait reply) as (λ b. map (with_order to) (cond b [] (answered order client place (Replied reply) ∷ [])) ≡ cond b [] (answered to client place (Replied reply) ∷ [])) [ true ↦ refl | false ↦ refl ]

waits_moved : (order to : List ℕ) (v : Shown) (waits : List WaitingCall) (reply : Reply) → map (with_order to) (waits_ended order v waits reply) ≡ waits_ended to v waits reply
waits_moved order to v waits reply =
    map-again (with_order to) (λ (call : WaitingCall). answered order call.client call.place (wait_ended reply call.thread)) (filter (λ call. not (still_waits v call)) waits)

call_moved : (p : ProfileName) (v : World) (order to : List ℕ) (client : ℕ) (c : Option Call) → map (with_order (to ++ client ∷ [])) (call_answers p v order client c) ≡ call_answers p v to client c
call_moved p v order to client None = refl
call_moved p v order to client (Some call) =
    let o = step p v.kernel call in
    let longer = order ++ client ∷ [] in
    let longer_to = to ++ client ∷ [] in
    let place = next_place v.made client in
    map-append (with_order longer_to) (replied longer client place o.reply) (waits_ended longer (shown o.state) v.waits o.reply)
    ∙ ap (λ (l : List Answered). l ++ map (with_order longer_to) (waits_ended longer (shown o.state) v.waits o.reply)) (reply_moved longer longer_to client place o.reply)
    ∙ ap (λ (l : List Answered). replied longer_to client place o.reply ++ l) (waits_moved longer longer_to (shown o.state) v.waits o.reply)

ends_moved : (own : List (List Call)) (v : World) (order to : List ℕ) → map (with_order to) (end_answers own v order) ≡ end_answers own v to
ends_moved own v order to =
    let waiting = λ (o : List ℕ) (call : WaitingCall). answered o call.client call.place Waits in
    let left = λ (o : List ℕ) (client : ℕ). map (λ place. answered o client place NotMade) (places_left own v.made client) in
    map-append (with_order to) (map (waiting order) v.waits) (flat_map (left order) (clients own))
    ∙ ap (λ (l : List Answered). l ++ map (with_order to) (flat_map (left order) (clients own))) (map-again (with_order to) (waiting order) v.waits)
    ∙ ap (λ (l : List Answered). map (waiting to) v.waits ++ l)
    (map-flat_map (with_order to) (left order) (left to) (λ client. map-again (with_order to) (λ place. answered order client place NotMade) (places_left own v.made client)) (clients own))

pub call_elsewhere : (p : ProfileName) (v : World) (order to : List ℕ) (client : ℕ) (c : Option Call) (a : Answered) → Contains (call_answers p v order client c) a →
    Contains (call_answers p v to client c) (answered (to ++ client ∷ []) a.client a.place a.answer)
call_elsewhere p v order to client c a h =
    subst (λ (l : List Answered). Contains l (with_order (to ++ client ∷ []) a)) (call_moved p v order to client c) (contains-map (with_order (to ++ client ∷ [])) (call_answers p v order client c) a h)

pub end_elsewhere : (own : List (List Call)) (v : World) (order to : List ℕ) (a : Answered) → Contains (end_answers own v order) a → Contains (end_answers own v to) (answered to a.client a.place a.answer)
end_elsewhere own v order to a h =
    subst (λ (l : List Answered). Contains l (with_order to a)) (ends_moved own v order to) (contains-map (with_order to) (end_answers own v order) a h)

-- ---- what stands behind an order, by the world that it leads to

abbrev pub told_at : ProfileName → List (List Call) → World → List ℕ → List Answered
told_at p own v order =
    flat_map (λ client. call_answers p v order client (next_client_call own v.made client)) (filter (may_call own v) (clients own))
    ++ cond (is_end own v) (end_answers own v order) []

module _ (p : ProfileName) (own : List (List Call)) (v : World) (order : List ℕ) (a : Answered) where
  abbrev next_told : ℕ → List Answered
  next_told client = call_answers p v order client (next_client_call own v.made client)

  pub by_call : (client : ℕ) → may_call own v client ≡ true → Contains (next_told client) a → Contains (told_at p own v order) a
  by_call client may h =
      Contains-append_left (flat_map next_told (filter (may_call own v) (clients own))) (cond (is_end own v) (end_answers own v order) []) a
      (contains-flat_map next_told (filter (may_call own v) (clients own)) client a
      (contains-filter (may_call own v) (clients own) client (contains-below (length own) client (caller_is_client own v client may)) may) h)

  pub by_end : is_end own v ≡ true → Contains (end_answers own v order) a → Contains (told_at p own v order) a
  by_end ends h =
      Contains-append_right (flat_map next_told (filter (may_call own v) (clients own))) (cond (is_end own v) (end_answers own v order) []) a
      (subst (λ b. Contains (cond b (end_answers own v order) []) a) (sym ends) h)

  abbrev pub IsByCall : Type 0
  IsByCall = (client : ℕ) × (may_call own v client ≡ true) × Contains (next_told client) a

  abbrev pub IsByEnd : Type 0
  IsByEnd = (is_end own v ≡ true) × Contains (end_answers own v order) a

  pub told_by : Contains (told_at p own v order) a → IsByCall ⊎ IsByEnd
  told_by h = elim (Contains-append_cases (flat_map next_told (filter (may_call own v) (clients own))) (cond (is_end own v) (end_answers own v order) []) a h) as (λ _. IsByCall ⊎ IsByEnd) [
    | inl calls ↦ (
        let r = given next_told (filter (may_call own v) (clients own)) a calls in
        inl (r.0, (passed (may_call own v) (clients own) r.0 r.1).1, r.2))
    | inr end ↦ inr (at_end (is_end own v) refl end)
  ]
    where
      at_end : (b : Bool) → is_end own v ≡ b → Contains (cond b (end_answers own v order) []) a → IsByEnd
      at_end true e h = (e, h)
      at_end false e h = absurd (contains-nil a h)

-- ---- from a world on

module _ (p : ProfileName) (own : List (List Call)) (A : State) (first : List ℕ) (w : World) (begin : world_after p own (start own A) first ≡ w) (client place : ℕ) (answer : Answer) where
  -- behind calls that can be made from there on, the answer is told
  pub record IsToldFrom : Type 0 where
    pub more : List ℕ
    pub can : EachCanBeMade p own w more
    pub order : List ℕ
    pub told_with : List ℕ
    pub told : Contains (told_at p own (world_after p own w more) order) (answered told_with client place answer)

  pub told_from : IsTold p own A first client place answer → IsToldFrom
  told_from t =
      let b = (orders_go_on p own (start own A) first t.count t.order).0 t.begins in
      let world : world_after p own (start own A) t.order ≡ world_after p own w b.0 =
      ap (world_after p own (start own A)) b.1 ∙ world_after-append p own (start own A) first b.0 ∙ ap (λ (v : World). world_after p own v b.0) begin in
      record {
        more = b.0;
        can = subst (λ (v : World). EachCanBeMade p own v b.0) begin b.3;
        order = t.order;
        told_with = t.told_with;
        told = subst (λ (v : World). Contains (told_at p own v t.order) (answered t.told_with client place answer)) world t.told;
      }

  pub told_to : (more : List ℕ) → EachCanBeMade p own w more → (told_with : List ℕ) → Contains (told_at p own (world_after p own w more) (first ++ more)) (answered told_with client place answer) → IsTold p own A first client place answer
  told_to more can told_with h =
      let world : world_after p own (start own A) (first ++ more) ≡ world_after p own w more =
      world_after-append p own (start own A) first more ∙ ap (λ (v : World). world_after p own v more) begin in
      record {
        count = length more;
        order = first ++ more;
        begins = (orders_go_on p own (start own A) first (length more) (first ++ more)).1 (more, refl, refl, subst (λ (v : World). EachCanBeMade p own v more) (sym begin) can);
        told_with = told_with;
        told = subst (λ (v : World). Contains (told_at p own v (first ++ more)) (answered told_with client place answer)) (sym world) h;
      }
