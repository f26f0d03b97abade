-- As long as one client alone can make a call there is one order, and none has ended.
use Rattle.std.proofs.Common.{◌≡◌, ℕ, zero, suc, ◌+◌, ◌-◌, ◌^◌, ◌<◌, ◌&&◌, ◌||◌, min, not, Bool, true, false, cond, List, [], ◌∷◌, ◌++◌, map, filter, length, refl, ap, sym, subst, ◌∙◌, add-one, arith}
use Rattle.std.specs.Prelude.{nat_lt}
use Rattle.std.proofs.lemmas.Bool.Decides.{nat_tests}
use Rattle.std.proofs.lemmas.List.{append-nil}
use Rattle.std.proofs.lemmas.List.Concat.{flat_map-cons}
use Rattle.std.proofs.lemmas.List.Elements.{filter-append}
use Rattle.std.proofs.lemmas.List.Sums.{sum_by-cons}
use Rattle.std.specs.List.{list_any, flat_map, count_by}
use Rattle.cap_core.specs.declared.profile.ProfileName.{ProfileName}
use Rattle.kernel_abstract.specs.declared.call.Call.{Call}
use Rattle.kernel_abstract.specs.Shown.{Shown}
use Rattle.kernel_abstract.specs.State.{State, shown}
use Rattle.kernel_lists.specs.Firsts.{firsts, with_firsts, with_counts, each_times}
use Rattle.query_orders.specs.declared.answer.Answer.{Answer}
use Rattle.query_orders.specs.contracts.answer.AnswerPartialEq.TheImpl as answer_eq
use Rattle.query_orders.specs.World.{World, start, next_client_call, can_be_made, may_call, world_after}
use Rattle.query_orders.specs.Orders.{numbers_below, clients, longer, orders, is_end, is_stuck, has_calls_left}
use Rattle.query_orders.specs.Answers.{Answered, same_answer, call_answers, end_answers, first_answers, answers_behind, answers_before}
use Rattle.query_orders.specs.Ends.{stuck_end, left_calls, same_stuck, stuck_behind, stuck_before, orders_before}
use Rattle.query_orders.specs.declared.exploring.node.Node.{Node}
use Rattle.query_orders.specs.declared.exploring.found.FoundAnswer.{FoundAnswer}
use Rattle.query_orders.specs.declared.exploring.exploration.Explored.{Explored}
use Rattle.query_orders.specs.Nodes.{lead_alike, layer, IsWay, IsNode, AreNodes, node_orders}
use Rattle.query_orders.specs.Counts.{saturated, counted, states_before, ends_before}
use Rattle.query_orders.specs.Found.{answers_of, stuck_of, same_left, IsMade}
use Rattle.query_orders.specs.Explorations.{ends_exploration, is_last_layer, layers_from, depth, IsBegun}
use Rattle.query_orders.specs.Private.Kernels.{IsKernelOf}
use Rattle.query_orders.specs.Private.Tables.{with_node}
use Rattle.query_orders.specs.declared.exploring.exploration.Callers.{Callers}
use Rattle.query_orders.specs.declared.exploring.exploration.Callers.TheVariants.{Nobody, One, Several}
use Rattle.query_orders.specs.Private.Progress.{AreCallers, IsProgress, IsOneOrder, callers_with, only_callers}

-- ---- the only client that can make a call

callers_next : (f : ℕ → Bool) (k : ℕ) → filter f (numbers_below (k + 1)) ≡ filter f (numbers_below k) ++ cond (f k) (k ∷ []) []
callers_next f k = ap (λ n. filter f (numbers_below n)) (add-one k) ∙ filter-append f (numbers_below k) (k ∷ [])

one_caller_more : (callers : Callers) (client : ℕ) (may : Bool) (clients : List ℕ) → AreCallers callers clients →
    AreCallers (callers_with callers client may) (clients ++ cond may (client ∷ []) [])
one_caller_more callers client false clients are = subst (AreCallers callers) (sym (append-nil clients)) are
one_caller_more Nobody client true clients are = ap (λ l. l ++ client ∷ []) are
one_caller_more (One other) client true clients are = tt
one_caller_more Several client true clients are = tt

pub callers_more : (f : ℕ → Bool) (callers new : Callers) (k : ℕ) (may : Bool) → new ≡ callers_with callers k may → may ≡ f k →
    AreCallers callers (filter f (numbers_below k)) → AreCallers new (filter f (numbers_below (k + 1)))
callers_more f callers new k may is tells are =
    let next : filter f (numbers_below k) ++ cond may (k ∷ []) [] ≡ filter f (numbers_below (k + 1)) = ap (λ b. filter f (numbers_below k) ++ cond b (k ∷ []) []) tells ∙ sym (callers_next f k) in
    subst (λ (s : Callers). AreCallers s (filter f (numbers_below (k + 1)))) (sym is)
    (subst (AreCallers (callers_with callers k may)) next (one_caller_more callers k may (filter f (numbers_below k)) are))

-- ---- lists of one

flat_one : {X Y : Type 0} (f : X → List Y) (x : X) → flat_map f (x ∷ []) ≡ f x
flat_one f x = flat_map-cons f x [] ∙ append-nil (f x)

any_of : {X : Type 0} (f : X → Bool) (xs : List X) (y : X) (ys : List X) → filter f xs ≡ y ∷ ys → list_any f xs ≡ true
any_of f [] y ys h = cc
any_of f (x ∷ xs) y ys h =
    elim (f x) as (λ b. cond b (x ∷ filter f xs) (filter f xs) ≡ y ∷ ys → (b || list_any f xs) ≡ true) [ true ↦ (λ k. refl) | false ↦ (λ k. any_of f xs y ys k) ] h

count_none : {X : Type 0} (t : X → Bool) (x : X) → t x ≡ false → count_by t (x ∷ []) ≡ 0
count_none t x fails =
    let one = sum_by-cons (λ y. cond (t y) 1 0) x [] in
    let none : cond {A = ℕ} (t x) 1 0 ≡ 0 = ap (λ b. cond b 1 0) fails in
    omega arith

both : (s t : Bool) → (s && not t) ≡ true → (s ≡ true) × (t ≡ false)
both true true h = cc
both true false h = (refl, refl)
both false t h = cc

abbrev most : ℕ
most = 2 ^ 64 - 1

sum_more : (a b c d : ℕ) → a ≡ min b most → d ≡ 1 → c ≡ min (a + 1) most → c ≡ min (b + d) most
sum_more a b c d h one k = omega arith

one_less : (calls count : ℕ) → nat_lt calls count ≡ true → count - calls ≡ suc (count - (calls + 1))
one_less calls count h = let lt : calls < count = grind (arith, nat_tests) in omega arith

pub goes_less : (limit count calls calls' : ℕ) (states : ℕ) → (nat_lt calls count && not (ends_exploration limit states 1)) ≡ true → calls' ≡ calls + 1 → count - calls' < count - calls
goes_less limit count calls calls' states h more =
    let r = both (nat_lt calls count) (ends_exploration limit states 1) h in
    let k = one_less calls count r.0 in
    omega arith

-- ---- one call more

module _ (p : ProfileName) (own : List (List Call)) (A : State) (first : List ℕ) (limit count : ℕ) where
  abbrev w : World
  w = start own A

  abbrev Is : Node → List FoundAnswer → ℕ → ℕ → Type 0
  Is n found states calls = IsOneOrder p own A first answer_eq.ghosts.eq limit count n found states calls

  abbrev told : List Answered
  told = firsts (same_answer answer_eq.ghosts.eq) (first_answers p own w [] first)

  pub one_order_none : (n : Node) (none found : List FoundAnswer) (states : ℕ) → IsBegun p own A first n answer_eq.ghosts.eq none found → none ≡ [] → states ≡ saturated (length first) → Is n found states 0
  one_order_none n none found states b empty is =
      record {
        is = b.is;
        weight_is = b.weight_is;
        orders_are = ap (λ (o : List ℕ). o ∷ []) (sym b.order_is);
        counted_are = ap (λ (o : List ℕ). (o, 1) ∷ []) (sym b.order_is);
        answers_are = b.told_are ∙ ap (λ (l : List FoundAnswer). with_firsts (same_answer answer_eq.ghosts.eq) (answers_of l) (first_answers p own w [] first)) empty;
        stuck_are = refl;
        states_are = is;
        ends_are = refl;
        ended_are = refl;
        stuck_orders_are = refl;
        goes_on = ap (λ (k : ℕ). layers_from p own w first limit k 0) (let whole : count - 0 ≡ count = omega arith in whole);
      }

  module _ (n m : Node) (client : ℕ) (v : Shown) (found found' : List FoundAnswer) (states calls : ℕ) (so_far : Is n found states calls)
      (at : IsKernelOf p own w n v) (only : only_callers own n v (length own) ≡ client ∷ []) (made : IsMade p own w n m client answer_eq.ghosts.eq found found') where
    abbrev x : World
    x = world_after p own w n.order

    callers : filter (may_call own x) (clients own) ≡ client ∷ []
    callers =
        sym (ap (λ (u : Shown). filter (λ c. can_be_made u (next_client_call own n.made.items c)) (clients own)) at
        ∙ ap (λ (l : List ℕ). filter (λ c. can_be_made (shown x.kernel) (next_client_call own l c)) (clients own)) (so_far.is).made_is)
        ∙ only

    goes : is_end own x ≡ false
    goes = ap not (any_of (may_call own x) (clients own) client [] callers)

    not_stuck : is_stuck own x ≡ false
    not_stuck = ap (λ b. b && has_calls_left own x) goes

    longer_is : longer p own w n.order ≡ m.order ∷ []
    longer_is = ap (map (λ c. n.order ++ c ∷ [])) callers ∙ ap (λ (o : List ℕ). o ∷ []) (sym made.order_is)

    layer_is : layer p own w first calls ≡ n.order ∷ []
    layer_is = ap (firsts (lead_alike p own w)) so_far.orders_are

    behind : {Y : Type 0} (f : List ℕ → List Y) → flat_map f (orders p own w first calls) ≡ f n.order
    behind f = ap (flat_map f) so_far.orders_are ∙ flat_one f n.order

    told_here : answers_behind p own w n.order ≡ call_answers p x n.order client (next_client_call own x.made client)
    told_here =
        let one = λ (c : ℕ). call_answers p x n.order c (next_client_call own x.made c) in
        ap (λ b. flat_map one (filter (may_call own x) (clients own)) ++ cond b (end_answers own x n.order) []) goes
        ∙ append-nil (flat_map one (filter (may_call own x) (clients own)))
        ∙ ap (flat_map one) callers
        ∙ flat_one one client

    abbrev followers : List ℕ × ℕ → List (List ℕ × ℕ)
    followers e = each_times e.1 (longer p own w e.0)

    ends_none : (test : World → Bool) → test x ≡ false → count_by (λ (o : List ℕ). test (world_after p own w o)) (n.order ∷ []) ≡ 0
    ends_none test fails = count_none (λ (o : List ℕ). test (world_after p own w o)) n.order fails

    none_more : (a b : ℕ) → a ≡ 0 → b ≡ 0 → a + b ≡ 0
    none_more a b h k = omega arith

    last_is : is_last_layer p own w first limit calls ≡ ends_exploration limit states 1
    last_is =
        ap (λ (k : ℕ). ends_exploration limit k (length (layer p own w first calls))) (sym so_far.states_are)
        ∙ ap (λ (l : List (List ℕ)). ends_exploration limit states (length l)) layer_is

    pub one_order_more : (states' calls' : ℕ) → m.weight ≡ n.weight → (nat_lt calls count && not (ends_exploration limit states 1)) ≡ true →
        states' ≡ saturated (states + 1) → calls' ≡ calls + 1 → Is m found' states' calls'
    one_order_more states' calls' weighs more is_states is_calls =
        let r = both (nat_lt calls count) (ends_exploration limit states 1) more in
        let next : suc calls ≡ calls' = sym (is_calls ∙ add-one calls) in
        subst (λ k. Is m found' states' k) next (record {
          is = made.is;
          weight_is = weighs ∙ so_far.weight_is;
          orders_are = behind (longer p own w) ∙ longer_is;
          counted_are =
              ap (λ l. with_counts (lead_alike p own w) [] (flat_map followers l)) so_far.counted_are
              ∙ ap (with_counts (lead_alike p own w) []) (flat_one followers (n.order, 1) ∙ ap (each_times 1) longer_is);
          answers_are =
              made.told_are
              ∙ ap (λ (l : List Answered). with_firsts (same_answer answer_eq.ghosts.eq) l (call_answers p x n.order client (next_client_call own x.made client))) so_far.answers_are
              ∙ ap (with_firsts (same_answer answer_eq.ghosts.eq) (answers_before answer_eq.ghosts.eq told p own w first calls)) (sym (behind (answers_behind p own w) ∙ told_here));
          stuck_are =
              ap (with_firsts (same_stuck same_left) (stuck_before same_left p own w first calls))
              (behind (stuck_behind p own w) ∙ ap (λ b. cond b (stuck_end n.order (left_calls own x.made (shown x.kernel)) ∷ []) []) not_stuck)
              ∙ so_far.stuck_are;
          states_are = sum_more states (states_before p own w first calls) states' (length (layer p own w first calls)) so_far.states_are (ap (λ (l : List (List ℕ)). length l) layer_is) is_states;
          ends_are =
              none_more (ends_before p own w first calls) (count_by (λ (o : List ℕ). is_end own (world_after p own w o)) (layer p own w first calls)) so_far.ends_are
              (ap (count_by (λ (o : List ℕ). is_end own (world_after p own w o))) layer_is ∙ ends_none (is_end own) goes);
          ended_are =
              none_more (orders_before (is_end own) p own w first calls) (count_by (λ (o : List ℕ). is_end own (world_after p own w o)) (orders p own w first calls)) so_far.ended_are
              (ap (count_by (λ (o : List ℕ). is_end own (world_after p own w o))) so_far.orders_are ∙ ends_none (is_end own) goes);
          stuck_orders_are =
              none_more (orders_before (is_stuck own) p own w first calls) (count_by (λ (o : List ℕ). is_stuck own (world_after p own w o)) (orders p own w first calls)) so_far.stuck_orders_are
              (ap (count_by (λ (o : List ℕ). is_stuck own (world_after p own w o))) so_far.orders_are ∙ ends_none (is_stuck own) not_stuck);
          goes_on =
              ap (λ (k : ℕ). layers_from p own w first limit (count - k) (suc calls)) (sym (add-one calls))
              ∙ sym (ap (λ (k : ℕ). layers_from p own w first limit k calls) (one_less calls count r.0)
              ∙ ap (λ b. cond b calls (layers_from p own w first limit (count - (calls + 1)) (suc calls))) (last_is ∙ r.1))
              ∙ so_far.goes_on;
        })

  -- ---- where it is not the only one any more

  pub one_order_progress : (e : Explored) (way n : Node) (states calls : ℕ) → Is way e.found.answers states calls → IsNode p own w n → n.order ≡ way.order → n.weight ≡ way.weight → e.layer ≡ with_node [] n →
      e.found.stuck.items ≡ [] → e.found.ends ≡ 0 → e.found.orders ≡ 0 → e.found.stuck_orders ≡ 0 → e.states ≡ states → e.calls ≡ calls →
      IsProgress p own A first answer_eq.ghosts.eq e
  one_order_progress e way n states calls one is order weighs nodes stuck ends orders_none stuck_none is_states is_calls =
      record {
        are = subst (AreNodes p own w) (sym nodes) (is, tt);
        entries_are =
            ap node_orders nodes ∙ ap (λ (o : List ℕ). (o, n.weight) ∷ []) order ∙ ap (λ k. (way.order, k) ∷ []) (weighs ∙ one.weight_is)
            ∙ sym (ap (map (λ (c : List ℕ × ℕ). (c.0, saturated c.1))) (ap (counted p own w first) is_calls ∙ one.counted_are));
        to = record {
          layer_is = ap (map (λ (m : Node). m.order)) nodes ∙ ap (λ (o : List ℕ). o ∷ []) order ∙ sym (ap (layer p own w first) is_calls ∙ ap (firsts (lead_alike p own w)) one.orders_are);
          answers_are = one.answers_are ∙ ap (answers_before answer_eq.ghosts.eq told p own w first) (sym is_calls);
          stuck_are = ap stuck_of stuck ∙ sym (ap (stuck_before same_left p own w first) is_calls ∙ one.stuck_are);
          states_are = is_states ∙ one.states_are ∙ ap (λ k. saturated (states_before p own w first k)) (sym is_calls);
          ends_are = ends ∙ sym (ap (λ k. saturated (ends_before p own w first k)) is_calls ∙ ap saturated one.ends_are);
          orders_are = orders_none ∙ sym (ap (λ k. saturated (orders_before (is_end own) p own w first k)) is_calls ∙ ap saturated one.ended_are);
          stuck_orders_are = stuck_none ∙ sym (ap (λ k. saturated (orders_before (is_stuck own) p own w first k)) is_calls ∙ ap saturated one.stuck_orders_are);
        };
      }
