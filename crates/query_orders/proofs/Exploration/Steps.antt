-- Orders that lead to the same state lead on alike.
use Rattle.std.proofs.Common.{◌≡◌, ℕ, suc, Bool, true, ◌&&◌, ◌||◌, not, List, [], ◌∷◌, ◌++◌, map, filter, Option, Some, None, is_some, slice_get, refl, ap, sym, subst, ◌∙◌}
use Rattle.std.specs.List.{flat_map, list_any, AllByRecursion as Each}
use Rattle.std.proofs.lemmas.List.Elements.{filter_agree}
use Rattle.cap_core.specs.declared.profile.ProfileName.{ProfileName}
use Rattle.kernel_abstract.specs.declared.call.Call.{Call}
use Rattle.kernel_abstract.specs.declared.call.Reply.{Reply}
use Rattle.kernel_abstract.specs.Shown.{Shown}
use Rattle.kernel_abstract.specs.State.{State, shown}
use Rattle.kernel_abstract.specs.Step.{step}
use Rattle.kernel_abstract.specs.Reached.{IsReached}
use Rattle.kernel_abstract.specs.Private.Effects.{effect_of}
use Rattle.kernel_abstract.proofs.Reached.Simulation.{simulates, reached_is}
use Rattle.kernel_abstract.proofs.Reached.Runs.{reached_after, state_after-nil, state_after-cons}
use Rattle.kernel_lists.specs.Firsts.{HasKinds, IsKindTest, firsts, with_firsts}
use Rattle.kernel_lists.proofs.Merging.{has_kinds-map, firsts_follow}
use Rattle.query_orders.specs.declared.answer.WaitingCall.{WaitingCall}
use Rattle.query_orders.specs.World.{World, next_client_call, one_more, next_place, can_be_made, may_call, waiting_call, waits_after, with_call, after_call, world_after}
use Rattle.query_orders.specs.Orders.{clients, longer, orders, is_end, has_calls_left, is_stuck}
use Rattle.query_orders.specs.Nodes.{lead_alike, layer}
use Rattle.query_orders.proofs.Exploration.WorldWords.{Alike, words_same, same_words}

-- one step keeps a state reached
pub reached_step : (p : ProfileName) (A : State) (call : Call) → IsReached p A → IsReached p (step p A call).state
reached_step p A call r = subst (IsReached p) (state_after-cons p A call [] ∙ state_after-nil p (step p A call).state) (reached_after p A (call ∷ []) r)

pub world_after-append : (p : ProfileName) (own : List (List Call)) (w : World) (order more : List ℕ) → world_after p own w (order ++ more) ≡ world_after p own (world_after p own w order) more
world_after-append p own w [] more = refl
world_after-append p own w (client ∷ order) more = world_after-append p own (after_call p own w client) order more

pub reached_with : (p : ProfileName) (w : World) (client : ℕ) (call : Option Call) → IsReached p w.kernel → IsReached p (with_call p w client call).kernel
reached_with p w client None r = r
reached_with p w client (Some call) r = reached_step p w.kernel call r

pub world_reached : (p : ProfileName) (own : List (List Call)) (w : World) (order : List ℕ) → IsReached p w.kernel → IsReached p (world_after p own w order).kernel
world_reached p own w [] r = r
world_reached p own w (client ∷ order) r = world_reached p own (after_call p own w client) order (reached_with p w client (next_client_call own w.made client) r)

-- ---- a step is determined by what is shown before it

pub step_alike : (p : ProfileName) (A B : State) (call : Call) → IsReached p A → IsReached p B → shown A ≡ shown B → shown (step p A call).state ≡ shown (step p B call).state
step_alike p A B call r s e =
    sym (simulates p r.plan.memory_bits A (reached_is p A r) call).1
    ∙ ap (λ (v : Shown). (effect_of p v call).after) e
    ∙ (simulates p s.plan.memory_bits B (reached_is p B s) call).1

pub reply_alike : (p : ProfileName) (A B : State) (call : Call) → IsReached p A → IsReached p B → shown A ≡ shown B → (step p A call).reply ≡ (step p B call).reply
reply_alike p A B call r s e =
    sym (simulates p r.plan.memory_bits A (reached_is p A r) call).0
    ∙ ap (λ (v : Shown). (effect_of p v call).reply) e
    ∙ (simulates p s.plan.memory_bits B (reached_is p B s) call).0

with_alike : (p : ProfileName) (v w : World) (client : ℕ) (c : Option Call) → IsReached p v.kernel → IsReached p w.kernel → Alike v w → Alike (with_call p v client c) (with_call p w client c)
with_alike p v w client None r s a = a
with_alike p v w client (Some c) r s a =
    let shows = step_alike p v.kernel w.kernel c r s a.shows in
    record {
      made = ap (λ (l : List ℕ). one_more client (slice_get l client) l) a.made;
      waits =
          ap (λ (x : Shown). waits_after x v.waits (waiting_call c.thread client (next_place v.made client)) (step p v.kernel c).reply) shows
          ∙ ap (λ (r : Reply). waits_after (shown (step p w.kernel c).state) v.waits (waiting_call c.thread client (next_place v.made client)) r) (reply_alike p v.kernel w.kernel c r s a.shows)
          ∙ ap (λ (l : List WaitingCall). waits_after (shown (step p w.kernel c).state) l (waiting_call c.thread client (next_place v.made client)) (step p w.kernel c).reply) a.waits
          ∙ ap (λ (l : List ℕ). waits_after (shown (step p w.kernel c).state) w.waits (waiting_call c.thread client (next_place l client)) (step p w.kernel c).reply) a.made;
      shows = shows;
    }

pub next_alike : (own : List (List Call)) (v w : World) (client : ℕ) → Alike v w → next_client_call own v.made client ≡ next_client_call own w.made client
next_alike own v w client a = ap (λ (l : List ℕ). next_client_call own l client) a.made

pub after_alike : (p : ProfileName) (own : List (List Call)) (v w : World) (client : ℕ) → IsReached p v.kernel → IsReached p w.kernel → Alike v w → Alike (after_call p own v client) (after_call p own w client)
after_alike p own v w client r s a = subst (λ (c : Option Call). Alike (after_call p own v client) (with_call p w client c)) (next_alike own v w client a) (with_alike p v w client (next_client_call own v.made client) r s a)

pub may_alike : (own : List (List Call)) (v w : World) (client : ℕ) → Alike v w → may_call own v client ≡ may_call own w client
may_alike own v w client a = ap (λ (x : Shown). can_be_made x (next_client_call own v.made client)) a.shows ∙ ap (λ (c : Option Call). can_be_made (shown w.kernel) c) (next_alike own v w client a)

pub any_agree : (f g : ℕ → Bool) (xs : List ℕ) → ((x : ℕ) → f x ≡ g x) → list_any f xs ≡ list_any g xs
any_agree f g [] h = refl
any_agree f g (x ∷ xs) h = ap (λ b. b || list_any f xs) (h x) ∙ ap (λ b. g x || b) (any_agree f g xs h)

pub end_alike : (own : List (List Call)) (v w : World) → Alike v w → is_end own v ≡ is_end own w
end_alike own v w a = ap not (any_agree (may_call own v) (may_call own w) (clients own) (λ client. may_alike own v w client a))

pub stuck_alike : (own : List (List Call)) (v w : World) → Alike v w → is_stuck own v ≡ is_stuck own w
stuck_alike own v w a =
    ap (λ b. b && has_calls_left own v) (end_alike own v w a)
    ∙ ap (λ b. is_end own w && b) (any_agree (λ client. is_some (next_client_call own v.made client)) (λ client. is_some (next_client_call own w.made client)) (clients own) (λ client. ap (λ (c : Option Call). is_some c) (next_alike own v w client a)))

-- ---- orders

module _ (p : ProfileName) (own : List (List Call)) (w : World) (reached : IsReached p w.kernel) where
  pub alike_from : (order order' : List ℕ) → lead_alike p own w order order' ≡ true → Alike (world_after p own w order) (world_after p own w order')
  alike_from order order' h = words_same p (world_after p own w order) (world_after p own w order') (world_reached p own w order reached) (world_reached p own w order' reached) h

  pub alike_to : (order order' : List ℕ) → Alike (world_after p own w order) (world_after p own w order') → lead_alike p own w order order' ≡ true
  alike_to order order' a = same_words (world_after p own w order) (world_after p own w order') a

  pub is_kind_test : IsKindTest (lead_alike p own w)
  is_kind_test = record {
    itself = λ x. alike_to x x (record { made = refl; waits = refl; shows = refl });
    along = λ x y z h k. (let a = alike_from x y h in let b = alike_from y z k in alike_to x z (record { made = a.made ∙ b.made; waits = a.waits ∙ b.waits; shows = a.shows ∙ b.shows }));
  }

  pub longer_alike : (x y : List ℕ) (client : ℕ) → Alike (world_after p own w x) (world_after p own w y) → Alike (world_after p own w (x ++ client ∷ [])) (world_after p own w (y ++ client ∷ []))
  longer_alike x y client a =
      let b = after_alike p own (world_after p own w x) (world_after p own w y) client (world_reached p own w x reached) (world_reached p own w y reached) a in
      subst (λ (v : World). Alike v (world_after p own w (y ++ client ∷ []))) (sym (world_after-append p own w x (client ∷ [])))
      (subst (λ (v : World). Alike (after_call p own (world_after p own w x) client) v) (sym (world_after-append p own w y (client ∷ []))) b)

  longer_kinds : (x y : List ℕ) → Alike (world_after p own w x) (world_after p own w y) → HasKinds (lead_alike p own w) (longer p own w x) (longer p own w y)
  longer_kinds x y a =
      subst (λ (l : List ℕ). HasKinds (lead_alike p own w) (map (λ client. x ++ client ∷ []) l) (longer p own w y))
      (filter_agree (may_call own (world_after p own w y)) (may_call own (world_after p own w x)) (λ client. sym (may_alike own (world_after p own w x) (world_after p own w y) client a)) (clients own))
      (has_kinds-map (lead_alike p own w) (λ client. x ++ client ∷ []) (λ client. y ++ client ∷ []) (λ client. alike_to (x ++ client ∷ []) (y ++ client ∷ []) (longer_alike x y client a)) (filter (may_call own (world_after p own w y)) (clients own)))

  each_unit : (xs : List (List ℕ)) → Each (λ _. Unit {0}) xs
  each_unit [] = tt
  each_unit (x ∷ xs) = (tt, each_unit xs)

  -- what stands behind orders that lead to the same state is of the same kinds: then it is found behind the orders of a layer
  pub layer_finds : {X : Type 0} (same : X → X → Bool) (behind : List ℕ → List X) → IsKindTest same →
      ((x y : List ℕ) → Alike (world_after p own w x) (world_after p own w y) → HasKinds same (behind x) (behind y)) → (found : List X) (first : List ℕ) (n : ℕ) →
      with_firsts same found (flat_map behind (layer p own w first n)) ≡ with_firsts same found (flat_map behind (orders p own w first n))
  layer_finds same behind laws kinds found first n =
      firsts_follow (lead_alike p own w) same laws (λ _. Unit {0}) behind (record { each = λ x y _ _ h. kinds x y (alike_from x y h) }) found (orders p own w first n) (each_unit (orders p own w first n))

  -- the next layer comes of a layer alone
  pub layer_next : (first : List ℕ) (n : ℕ) → firsts (lead_alike p own w) (flat_map (longer p own w) (layer p own w first n)) ≡ layer p own w first (suc n)
  layer_next first n = layer_finds (lead_alike p own w) (longer p own w) is_kind_test longer_kinds [] first n
