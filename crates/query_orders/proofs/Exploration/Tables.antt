-- What a layer has after one more state, and what is told by the call that leads to it.
use Rattle.std.proofs.Common.{◌≡◌, ◌&&◌, ◌||◌, ◌==◌, not, ℕ, suc, ◌+◌, ◌-◌, ◌^◌, ◌<◌, ◌≤◌, min, Bool, true, false, cond, List, [], ◌∷◌, ◌++◌, map, filter, length, take, get_or, Option, Some, None, is_some, slice_get, refl, ap, sym, subst, ◌∙◌, arith}
use Rattle.std.specs.Prelude.{nat_eq, nat_lt, position, Result, Ok, Err, IfOk}
use Rattle.std.specs.Cmp.Lexicographic.{pointwise}
use Rattle.std.proofs.lemmas.Bool.Decides.{nat_tests}
use Rattle.std.proofs.lemmas.List.{map-append, append-nil, take_more}
use Rattle.std.proofs.lemmas.Grind.{flat_map-append}
use Rattle.std.proofs.lemmas.List.Concat.{flat_map-cons}
use Rattle.std.specs.List.{list_any, flat_map, position_or_len}
use Rattle.cap_core.specs.declared.profile.ProfileName.{ProfileName}
use Rattle.kernel_abstract.specs.declared.call.Call.{Call}
use Rattle.kernel_abstract.specs.declared.call.Reply.{Reply}
use Rattle.kernel_abstract.specs.Shown.{Shown}
use Rattle.kernel_abstract.specs.State.{shown}
use Rattle.kernel_abstract.specs.Step.{step}
use Rattle.kernel_abstract.specs.Reached.{StepsTo}
use Rattle.kernel_lists.specs.Firsts.{has_kind_of, with_first, with_firsts, with_count_up_to, with_counts_up_to, each_times}
use Rattle.kernel_lists.proofs.Merging.{with_firsts-append}
use Rattle.kernel_lists.proofs.Weights.{counts_up_to-append}
use Rattle.query_orders.specs.declared.answer.Answer.{Answer}
use Rattle.query_orders.specs.declared.answer.Answer.TheVariants.{Waits}
use Rattle.query_orders.specs.declared.answer.WaitingCall.{WaitingCall}
use Rattle.query_orders.specs.declared.left.LeftCall.{LeftCall}
use Rattle.query_orders.specs.World.{World, next_client_call, one_more, next_place, can_be_made, may_call, waiting_call, waits_after, with_call, world_after}
use Rattle.query_orders.specs.Orders.{numbers_below, clients, longer, is_end, is_stuck}
use Rattle.query_orders.specs.Answers.{Answered, answered, replied, waits_ended, call_answers, end_answers, answers_behind, same_answer}
use Rattle.query_orders.specs.contracts.left.LeftCallPartialEq.TheImpl as left_eq
use Rattle.query_orders.specs.Ends.{StuckEnd, stuck_end, stuck_behind, same_stuck, left_call, left_calls}
use Rattle.query_orders.specs.declared.exploring.node.Node.{Node}
use Rattle.query_orders.specs.declared.exploring.found.FoundAnswer.{FoundAnswer}
use Rattle.query_orders.specs.declared.exploring.stuck.Findings.{Findings}
use Rattle.query_orders.specs.declared.exploring.stuck.FoundStuck.{FoundStuck}
use Rattle.query_orders.specs.Nodes.{state_words, world_words, lead_alike, one_longer, IsWay, IsNode, AreNodes, node_order, node_orders}
use Rattle.query_orders.specs.Counts.{saturated, saturated_sum}
use Rattle.query_orders.specs.Found.{answer_of, answers_of, one_told, calls_told, not_made_told, end_told, stuck_of, stuck_told, same_left, IsMade, IsVisited, IsFound, IsExpanded}
use Rattle.query_orders.specs.Private.Kernels.{IsKernelOf}
use Rattle.query_orders.specs.Private.Tables.{by_words, heavier, heavier_in, heavier_at, with_node}
use Rattle.query_orders.proofs.Exploration.Steps.{world_after-append, any_agree}
use Rattle.query_orders.proofs.Exploration.Loops.{client_counted, number_more}

-- ---- a table of answers

module _ (same : Answer → Answer → Bool) where
  any_answer : (found : List FoundAnswer) (order : List ℕ) (client place : ℕ) (answer : Answer) →
      list_any (λ (a : FoundAnswer). (a.client == client) && (a.place == place) && same a.answer answer) found ≡ has_kind_of (same_answer same) (answers_of found) (answered order client place answer)
  any_answer [] order client place answer = refl
  any_answer (a ∷ found) order client place answer = ap (λ b. ((a.client == client) && (a.place == place) && same a.answer answer) || b) (any_answer found order client place answer)

  pub answer_pushed : (r : Bool) (list old new : List FoundAnswer) (a : FoundAnswer) (order : List ℕ) (client place : ℕ) (answer : Answer) → list ≡ old →
      r ≡ list_any (λ (a : FoundAnswer). (a.client == client) && (a.place == place) && same a.answer answer) list → r ≡ false → answer_of a ≡ answered order client place answer → new ≡ old ++ a ∷ [] →
      answers_of new ≡ with_first (same_answer same) (answers_of old) (answered order client place answer)
  answer_pushed r list old new a order client place answer is any not is_answer pushed =
      ap answers_of pushed ∙ map-append answer_of old (a ∷ []) ∙ ap (λ (x : Answered). answers_of old ++ x ∷ []) is_answer
      ∙ ap (λ b. cond b (answers_of old) (answers_of old ++ answered order client place answer ∷ []))
      (sym not ∙ any ∙ ap (λ (l : List FoundAnswer). list_any (λ (a : FoundAnswer). (a.client == client) && (a.place == place) && same a.answer answer) l) is ∙ any_answer old order client place answer)

  pub answer_kept : (r : Bool) (list old : List FoundAnswer) (order : List ℕ) (client place : ℕ) (answer : Answer) → list ≡ old →
      r ≡ list_any (λ (a : FoundAnswer). (a.client == client) && (a.place == place) && same a.answer answer) list → r ≡ true →
      answers_of old ≡ with_first (same_answer same) (answers_of old) (answered order client place answer)
  answer_kept r list old order client place answer is any known =
      ap (λ b. cond b (answers_of old) (answers_of old ++ answered order client place answer ∷ []))
      (sym known ∙ any ∙ ap (λ (l : List FoundAnswer). list_any (λ (a : FoundAnswer). (a.client == client) && (a.place == place) && same a.answer answer) l) is ∙ any_answer old order client place answer)

  -- what the calls come to that wait, or are left, at an end
  pub ended_told : (own : List (List Call)) (count : ℕ) (made order order' : List ℕ) (waits list : List WaitingCall) (ends : Bool) (found found' found'' : List FoundAnswer) → ends ≡ true → list ≡ waits → order' ≡ order →
      answers_of found' ≡ with_firsts (same_answer same) (answers_of found) (map (λ (call : WaitingCall). answered order' call.client call.place Waits) list) →
      answers_of found'' ≡ with_firsts (same_answer same) (answers_of found') (flat_map (not_made_told own made order) (numbers_below count)) →
      answers_of found'' ≡ with_firsts (same_answer same) (answers_of found) (cond ends (end_told own count made waits order) [])
  ended_told own count made order order' waits list ends found found' found'' is_end is_list is_order first second =
      let waiting = λ (o : List ℕ) (l : List WaitingCall). map (λ (call : WaitingCall). answered o call.client call.place Waits) l in
      second
      ∙ ap (λ (l : List Answered). with_firsts (same_answer same) l (flat_map (not_made_told own made order) (numbers_below count)))
      (first ∙ ap (λ (l : List WaitingCall). with_firsts (same_answer same) (answers_of found) (waiting order' l)) is_list ∙ ap (λ (o : List ℕ). with_firsts (same_answer same) (answers_of found) (waiting o waits)) is_order)
      ∙ sym (with_firsts-append (same_answer same) (waiting order waits) (flat_map (not_made_told own made order) (numbers_below count)) (answers_of found))
      ∙ ap (λ b. with_firsts (same_answer same) (answers_of found) (cond b (end_told own count made waits order) [])) (sym is_end)

-- ---- a table of ways to end stuck

any_stuck : (found : List FoundStuck) (order : List ℕ) (left : List LeftCall) → list_any (λ (s : FoundStuck). pointwise left_eq.ghosts.eq s.left.items left) found ≡ has_kind_of (same_stuck same_left) (stuck_of found) (stuck_end order left)
any_stuck [] order left = refl
any_stuck (s ∷ found) order left = ap (λ b. pointwise left_eq.ghosts.eq s.left.items left || b) (any_stuck found order left)

pub stuck_pushed : (r : Bool) (list old new : List FoundStuck) (s : FoundStuck) (order : List ℕ) (left left' : List LeftCall) → list ≡ old → left' ≡ left → r ≡ list_any (λ (s : FoundStuck). pointwise left_eq.ghosts.eq s.left.items left') list → r ≡ false →
    stuck_end s.order s.left.items ≡ stuck_end order left → new ≡ old ++ s ∷ [] → stuck_of new ≡ with_first (same_stuck same_left) (stuck_of old) (stuck_end order left)
stuck_pushed r list old new s order left left' is is_left any not is_end pushed =
    ap stuck_of pushed ∙ map-append (λ (s : FoundStuck). stuck_end s.order s.left.items) old (s ∷ []) ∙ ap (λ (x : StuckEnd). stuck_of old ++ x ∷ []) is_end
    ∙ ap (λ b. cond b (stuck_of old) (stuck_of old ++ stuck_end order left ∷ []))
    (sym not ∙ any ∙ ap (λ (l : List FoundStuck). list_any (λ (s : FoundStuck). pointwise left_eq.ghosts.eq s.left.items left') l) is ∙ ap (λ (k : List LeftCall). list_any (λ (s : FoundStuck). pointwise left_eq.ghosts.eq s.left.items k) old) is_left ∙ any_stuck old order left)

pub stuck_kept : (r : Bool) (list old : List FoundStuck) (order : List ℕ) (left left' : List LeftCall) → list ≡ old → left' ≡ left → r ≡ list_any (λ (s : FoundStuck). pointwise left_eq.ghosts.eq s.left.items left') list → r ≡ true →
    stuck_of old ≡ with_first (same_stuck same_left) (stuck_of old) (stuck_end order left)
stuck_kept r list old order left left' is is_left any known =
    ap (λ b. cond b (stuck_of old) (stuck_of old ++ stuck_end order left ∷ []))
    (sym known ∙ any ∙ ap (λ (l : List FoundStuck). list_any (λ (s : FoundStuck). pointwise left_eq.ghosts.eq s.left.items left') l) is ∙ ap (λ (k : List LeftCall). list_any (λ (s : FoundStuck). pointwise left_eq.ghosts.eq s.left.items k) old) is_left ∙ any_stuck old order left)

-- ---- a table of nodes

-- where a node of the state stands, or none does
cond_some : (b : Bool) (x i : ℕ) → cond b (Some x) None ≡ Some i → (b ≡ true) × (x ≡ i)
cond_some true x i h = (refl, cc)
cond_some false x i h = cc

cond_none : (b : Bool) (x : ℕ) → cond b (Some x) None ≡ None → b ≡ false
cond_none true x h = cc
cond_none false x h = refl

node_at : (nodes : List Node) (n : Node) (i : ℕ) → i ≡ position_or_len (λ m. by_words m n) nodes → i < length nodes → with_node nodes n ≡ heavier_at i n.weight nodes
node_at [] n i is lt = absurd (let e : i < 0 = lt in omega arith)
node_at (m ∷ ms) n i is lt =
    elim (by_words m n) as (λ b. i ≡ cond (not b) (1 + position_or_len (λ m. by_words m n) ms) 0 → cond b (heavier n.weight m ∷ ms) (m ∷ with_node ms n) ≡ heavier_at i n.weight (m ∷ ms)) [
      | true ↦ λ e. ap (λ k. heavier_at k n.weight (m ∷ ms)) (sym e)
      | false ↦ λ e.
          (let j = position_or_len (λ m. by_words m n) ms in
          let within : j < length ms = (let l : i < suc (length ms) = lt in omega arith) in
          ap (λ l. m ∷ l) (node_at ms n j refl within) ∙ later m ms j n.weight ∙ ap (λ k. heavier_at k n.weight (m ∷ ms)) (let s : suc j ≡ i = omega arith in s))
    ] is
  where
    later : (m : Node) (ms : List Node) (j more : ℕ) → m ∷ heavier_at j more ms ≡ heavier_at (suc j) more (m ∷ ms)
    later m ms j more = elim (slice_get ms j) as (λ (o : Option Node). m ∷ heavier_in j more o ms ≡ heavier_in (suc j) more o (m ∷ ms)) [ None ↦ refl | Some x ↦ refl ]

node_new : (nodes : List Node) (n : Node) → length nodes ≤ position_or_len (λ m. by_words m n) nodes → with_node nodes n ≡ nodes ++ n ∷ []
node_new [] n le = refl
node_new (m ∷ ms) n le =
    elim (by_words m n) as (λ b. suc (length ms) ≤ cond (not b) (1 + position_or_len (λ m. by_words m n) ms) 0 → cond b (heavier n.weight m ∷ ms) (m ∷ with_node ms n) ≡ m ∷ (ms ++ n ∷ [])) [
      | true ↦ λ e. absurd (let f : suc (length ms) ≤ 0 = e in omega arith)
      | false ↦ λ e. ap (λ l. m ∷ l) (node_new ms n (let f : suc (length ms) ≤ 1 + position_or_len (λ m. by_words m n) ms = e in omega arith))
    ] le

pub noted_at : (nodes : List Node) (n : Node) (i : ℕ) → Some i ≡ position (λ m. by_words m n) nodes → heavier_at i n.weight nodes ≡ with_node nodes n
noted_at nodes n i h =
    let r = cond_some (nat_lt (position_or_len (λ m. by_words m n) nodes) (length nodes)) (position_or_len (λ m. by_words m n) nodes) i (sym h) in
    let at = r.1 in
    let lt : position_or_len (λ m. by_words m n) nodes < length nodes = (let t = r.0 in grind (arith, nat_tests)) in
    sym (node_at nodes n i (sym at) (omega arith))

pub noted_new : (nodes : List Node) (n : Node) → None ≡ position (λ m. by_words m n) nodes → nodes ++ n ∷ [] ≡ with_node nodes n
noted_new nodes n h =
    let t = cond_none (nat_lt (position_or_len (λ m. by_words m n) nodes) (length nodes)) (position_or_len (λ m. by_words m n) nodes) (sym h) in
    sym (node_new nodes n (grind (arith, nat_tests)))

-- what a call ensures where it was answered
pub if_ok : {A E : Type 0} (r : Result A E) {P Q : A → Type 0} → IfOk r P → ((x : A) → P x → Q x) → IfOk r Q
if_ok (Ok x) h f = f x h
if_ok (Err e) h f = tt

module _ (p : ProfileName) (own : List (List Call)) (w : World) where
  words_alike : (n m : Node) → IsNode p own w n → IsNode p own w m → by_words n m ≡ lead_alike p own w n.order m.order
  words_alike n m x y =
      ap (λ (l : List ℕ). pointwise nat_eq l m.words.items) x.words_are
      ∙ ap (λ (l : List ℕ). pointwise nat_eq (world_words (world_after p own w n.order)) l) y.words_are

  heavier_is : (more : ℕ) (n : Node) → IsNode p own w n → IsNode p own w (heavier more n)
  heavier_is more n is = record { made_is = is.made_is; waits_are = is.waits_are; words_are = is.words_are }

  pub noted_is : (nodes : List Node) (n : Node) → AreNodes p own w nodes → IsNode p own w n →
      AreNodes p own w (with_node nodes n) × (node_orders (with_node nodes n) ≡ with_count_up_to (2 ^ 64 - 1) (lead_alike p own w) (node_orders nodes) (node_order n))
  noted_is [] n all one = ((one, tt), refl)
  noted_is (m ∷ ms) n all one =
      elim (by_words m n) as (λ b. by_words m n ≡ b → AreNodes p own w (cond b (heavier n.weight m ∷ ms) (m ∷ with_node ms n)) × (node_orders (cond b (heavier n.weight m ∷ ms) (m ∷ with_node ms n)) ≡ with_count_up_to (2 ^ 64 - 1) (lead_alike p own w) (node_orders (m ∷ ms)) (node_order n))) [
        | true ↦ λ h. (
          (heavier_is n.weight m all.0, all.1),
          ap (λ b. cond b ((m.order, min (m.weight + n.weight) (2 ^ 64 - 1)) ∷ node_orders ms) (node_order m ∷ with_count_up_to (2 ^ 64 - 1) (lead_alike p own w) (node_orders ms) (node_order n))) (sym h ∙ words_alike m n all.0 one),
        )
        | false ↦ λ h.
            (let r = noted_is ms n all.1 one in (
              (all.0, r.0),
              ap (λ l. node_order m ∷ l) r.1
                  ∙ ap (λ b. cond b ((m.order, min (m.weight + n.weight) (2 ^ 64 - 1)) ∷ node_orders ms) (node_order m ∷ with_count_up_to (2 ^ 64 - 1) (lead_alike p own w) (node_orders ms) (node_order n))) (sym h ∙ words_alike m n all.0 one),
            ))
      ] refl

  pub node_way : (n : Node) → IsNode p own w n → IsWay p own w n
  node_way n is = record { made_is = is.made_is; waits_are = is.waits_are }

  -- a node by its calls and by its words, which are those of a kernel that shows the state
  pub way_node : (n m : Node) (v : Shown) → IsWay p own w n → IsKernelOf p own w n v → m.order ≡ n.order → m.made.items ≡ n.made.items → m.waits.items ≡ n.waits.items →
      m.words.items ≡ state_words n.made.items n.waits.items v → IsNode p own w m
  way_node n m v way at order made waits words =
      let back = λ (o : List ℕ). world_after p own w o in
      record {
        made_is = made ∙ way.made_is ∙ ap (λ (o : List ℕ). (back o).made) (sym order);
        waits_are = waits ∙ way.waits_are ∙ ap (λ (o : List ℕ). (back o).waits) (sym order);
        words_are =
            words ∙ ap (λ (l : List ℕ). state_words l n.waits.items v) way.made_is ∙ ap (λ (l : List WaitingCall). state_words (back n.order).made l v) way.waits_are
            ∙ ap (λ (x : Shown). state_words (back n.order).made (back n.order).waits x) at ∙ ap (λ (o : List ℕ). world_words (back o)) (sym order);
      }

  -- ---- one call more

  pub may_is : (n : Node) (v : Shown) (client : ℕ) → IsNode p own w n → v ≡ shown (world_after p own w n.order).kernel → can_be_made v (next_client_call own n.made.items client) ≡ may_call own (world_after p own w n.order) client
  may_is n v client node at =
      ap (λ (x : Shown). can_be_made x (next_client_call own n.made.items client)) at
      ∙ ap (λ (l : List ℕ). can_be_made (shown (world_after p own w n.order).kernel) (next_client_call own l client)) node.made_is

  -- where it cannot be made, nothing stands behind
  pub none_longer : (n : Node) (client : ℕ) → may_call own (world_after p own w n.order) client ≡ false → one_longer p own w n.order client ≡ []
  none_longer n client h = ap (λ b. map (λ c. n.order ++ c ∷ []) (cond b (client ∷ []) [])) h

  pub none_told : (n : Node) (client : ℕ) → may_call own (world_after p own w n.order) client ≡ false → one_told p own w n.order client ≡ []
  none_told n client h = ap (λ b. flat_map (λ c. call_answers p (world_after p own w n.order) n.order c (next_client_call own (world_after p own w n.order).made c)) (cond b (client ∷ []) [])) h

  one_told_is : (n : Node) (client : ℕ) → may_call own (world_after p own w n.order) client ≡ true →
      one_told p own w n.order client ≡ call_answers p (world_after p own w n.order) n.order client (next_client_call own (world_after p own w n.order).made client)
  one_told_is n client h =
      let f = λ (c : ℕ). call_answers p (world_after p own w n.order) n.order c (next_client_call own (world_after p own w n.order).made c) in
      ap (λ b. flat_map f (cond b (client ∷ []) [])) h ∙ flat_map-cons f client [] ∙ append-nil (f client)

  pub one_is : (n : Node) (client : ℕ) → may_call own (world_after p own w n.order) client ≡ true → one_longer p own w n.order client ≡ (n.order ++ client ∷ []) ∷ []
  one_is n client h = ap (λ b. map (λ c. n.order ++ c ∷ []) (cond b (client ∷ []) [])) h

  module _ (n : Node) (node : IsWay p own w n) (client : ℕ) (call : Call) (next : next_client_call own n.made.items client ≡ Some call) (reply : Reply) (v : Shown)
      (steps : StepsTo p (world_after p own w n.order).kernel call reply v) where
    abbrev before : World
    before = world_after p own w n.order

    next_is : next_client_call own before.made client ≡ Some call
    next_is = ap (λ (l : List ℕ). next_client_call own l client) (sym node.made_is) ∙ next

    -- what is told is that of the call
    pub told_is :
        replied (n.order ++ client ∷ []) client (next_place n.made.items client) reply ++ waits_ended (n.order ++ client ∷ []) v n.waits.items reply ≡ call_answers p before n.order client (next_client_call own before.made client)
    told_is =
        let longer = n.order ++ client ∷ [] in
        let whole = λ (place : ℕ) (r : Reply) (x : Shown) (l : List WaitingCall). replied longer client place r ++ waits_ended longer x l r in
        ap (λ (l : List ℕ). whole (next_place l client) reply v n.waits.items) node.made_is
        ∙ ap (λ (r : Reply). whole (next_place before.made client) r v n.waits.items) steps.reply_is
        ∙ ap (λ (x : Shown). whole (next_place before.made client) (step p before.kernel call).reply x n.waits.items) steps.shows
        ∙ ap (λ (l : List WaitingCall). whole (next_place before.made client) (step p before.kernel call).reply (shown (step p before.kernel call).state) l) node.waits_are
        ∙ ap (λ (c : Option Call). call_answers p before n.order client c) (sym next_is)

    after_is : (m : Node) → m.order ≡ n.order ++ client ∷ [] → world_after p own w m.order ≡ with_call p before client (Some call)
    after_is m order = ap (world_after p own w) order ∙ world_after-append p own w n.order (client ∷ []) ∙ ap (with_call p before client) next_is

    pub kernel_is : (m : Node) → m.order ≡ n.order ++ client ∷ [] → IsKernelOf p own w m v
    kernel_is m order = steps.shows ∙ sym (ap (λ (y : World). shown y.kernel) (after_is m order))

    pub followed_is : (m : Node) → m.order ≡ n.order ++ client ∷ [] → m.made.items ≡ one_more client (slice_get n.made.items client) n.made.items →
        m.waits.items ≡ waits_after v n.waits.items (waiting_call call.thread client (next_place n.made.items client)) reply → IsWay p own w m
    followed_is m order made waits =
        let after = after_is m order in
        let made_is : m.made.items ≡ (world_after p own w m.order).made =
        made ∙ ap (λ (l : List ℕ). one_more client (slice_get l client) l) node.made_is ∙ sym (ap (λ (y : World). y.made) after) in
        let by = λ (x : Shown) (l : List WaitingCall) (made : List ℕ) (r : Reply). waits_after x l (waiting_call call.thread client (next_place made client)) r in
        let waits_are : m.waits.items ≡ (world_after p own w m.order).waits =
        waits
        ∙ ap (λ (x : Shown). by x n.waits.items n.made.items reply) steps.shows
        ∙ ap (λ (l : List WaitingCall). by (shown (step p before.kernel call).state) l n.made.items reply) node.waits_are
        ∙ ap (λ (l : List ℕ). by (shown (step p before.kernel call).state) before.waits l reply) node.made_is
        ∙ ap (λ (r : Reply). by (shown (step p before.kernel call).state) before.waits before.made r) steps.reply_is
        ∙ sym (ap (λ (y : World). y.waits) after) in
        record {
          made_is = made_is;
          waits_are = waits_are;
        }

  -- ---- what the loops have done so far

  abbrev calls_of_node : List ℕ → ℕ → List Answered
  calls_of_node order client = call_answers p (world_after p own w order) order client (next_client_call own (world_after p own w order).made client)

  pub visited_none : (same : Answer → Answer → Bool) (nodes : List Node) (found : List FoundAnswer) → AreNodes p own w nodes → IsVisited p own w nodes nodes [] same found found []
  visited_none same nodes found all = record { are = all; entries_are = refl; told_are = refl }

  pub visited_more : (same : Answer → Answer → Bool) (weight : ℕ) (order : List ℕ) (k : ℕ) (nodes nodes' nodes'' : List Node) (found found' found'' : List FoundAnswer) →
      IsVisited p own w nodes nodes' (each_times weight (map (λ c. order ++ c ∷ []) (filter (may_call own (world_after p own w order)) (numbers_below k)))) same found found' (flat_map (calls_of_node order) (filter (may_call own (world_after p own w order)) (numbers_below k))) →
      IsVisited p own w nodes' nodes'' (each_times weight (one_longer p own w order k)) same found' found'' (one_told p own w order k) →
      IsVisited p own w nodes nodes'' (each_times weight (map (λ c. order ++ c ∷ []) (filter (may_call own (world_after p own w order)) (numbers_below (k + 1))))) same found found'' (flat_map (calls_of_node order) (filter (may_call own (world_after p own w order)) (numbers_below (k + 1))))
  visited_more same weight order k nodes nodes' nodes'' found found' found'' so_far now = record {
    are = now.are;
    entries_are = client_counted (lead_alike p own w) (2 ^ 64 - 1) weight (λ c. order ++ c ∷ []) (may_call own (world_after p own w order)) (node_orders nodes) (node_orders nodes') (node_orders nodes'') k so_far.entries_are now.entries_are;
    told_are = number_more (same_answer same) (calls_of_node order) (may_call own (world_after p own w order)) (answers_of found) (answers_of found') (answers_of found'') k so_far.told_are now.told_are;
  }

  -- ---- where an order ends

  ended_is : (n : Node) (v : Shown) (count : ℕ) (ends : Bool) → IsNode p own w n → v ≡ shown (world_after p own w n.order).kernel → count ≡ length own →
      ends ≡ not (list_any (λ client. can_be_made v (next_client_call own n.made.items client)) (numbers_below count)) → ends ≡ is_end own (world_after p own w n.order)
  ended_is n v count ends node at is_count is_ends =
      is_ends ∙ ap (λ k. not (list_any (λ client. can_be_made v (next_client_call own n.made.items client)) (numbers_below k))) is_count
      ∙ ap not (any_agree (λ client. can_be_made v (next_client_call own n.made.items client)) (may_call own (world_after p own w n.order)) (clients own) (λ client. may_is n v client node at))

  -- the answers behind its order
  behind_is : (same : Answer → Answer → Bool) (n : Node) (count : ℕ) (ends : Bool) → IsNode p own w n → count ≡ length own → ends ≡ is_end own (world_after p own w n.order) →
      (found found' found'' : List FoundAnswer) → answers_of found' ≡ with_firsts (same_answer same) (answers_of found) (calls_told p own w n.order) →
      answers_of found'' ≡ with_firsts (same_answer same) (answers_of found') (cond ends (end_told own count n.made.items n.waits.items n.order) []) →
      answers_of found'' ≡ with_firsts (same_answer same) (answers_of found) (answers_behind p own w n.order)
  behind_is same n count ends node is_count ended found found' found'' visited told =
      let x = world_after p own w n.order in
      let all : end_told own count n.made.items n.waits.items n.order ≡ end_answers own x n.order =
      ap (λ k. end_told own k n.made.items n.waits.items n.order) is_count
      ∙ ap (λ (l : List ℕ). end_told own (length own) l n.waits.items n.order) node.made_is
      ∙ ap (λ (l : List WaitingCall). end_told own (length own) x.made l n.order) node.waits_are in
      told
      ∙ ap (λ b. with_firsts (same_answer same) (answers_of found') (cond b (end_told own count n.made.items n.waits.items n.order) [])) ended
      ∙ ap (λ (l : List Answered). with_firsts (same_answer same) (answers_of found') (cond (is_end own x) l [])) all
      ∙ ap (λ (l : List Answered). with_firsts (same_answer same) l (cond (is_end own x) (end_answers own x n.order) [])) visited
      ∙ sym (with_firsts-append (same_answer same) (calls_told p own w n.order) (cond (is_end own x) (end_answers own x n.order) []) (answers_of found))

  -- ---- how it ends

  left_is : (n : Node) (v : Shown) → IsNode p own w n → v ≡ shown (world_after p own w n.order).kernel →
      left_calls own n.made.items v ≡ left_calls own (world_after p own w n.order).made (shown (world_after p own w n.order).kernel)
  left_is n v node at = ap (λ (l : List ℕ). left_calls own l v) node.made_is ∙ ap (λ (x : Shown). left_calls own (world_after p own w n.order).made x) at

  some_more : (n : ℕ) → nat_lt 0 (suc n) ≡ true
  some_more n = grind (arith, nat_tests)

  one_left : (v : Shown) (made : List ℕ) (client : ℕ) (c : Option Call) (rest : List LeftCall) → nat_lt 0 (length (left_call v made client c ++ rest)) ≡ (is_some c || nat_lt 0 (length rest))
  one_left v made client None rest = refl
  one_left v made client (Some call) rest = some_more (length rest)

  some_left : (v : Shown) (made : List ℕ) (ns : List ℕ) → nat_lt 0 (length (flat_map (λ client. left_call v made client (next_client_call own made client)) ns)) ≡ list_any (λ client. is_some (next_client_call own made client)) ns
  some_left v made [] = refl
  some_left v made (k ∷ ns) =
      let f : ℕ → List LeftCall = λ client. left_call v made client (next_client_call own made client) in
      ap (λ (l : List LeftCall). nat_lt 0 (length l)) (flat_map-cons f k ns) ∙ one_left v made k (next_client_call own made k) (flat_map f ns) ∙ ap (λ b. is_some (next_client_call own made k) || b) (some_left v made ns)

  stuck_is : (n : Node) (v : Shown) (ends : Bool) → IsNode p own w n → v ≡ shown (world_after p own w n.order).kernel → ends ≡ is_end own (world_after p own w n.order) →
      (ends && nat_lt 0 (length (left_calls own n.made.items v))) ≡ is_stuck own (world_after p own w n.order)
  stuck_is n v ends node at ended =
      let x = world_after p own w n.order in
      ap (λ b. b && nat_lt 0 (length (left_calls own n.made.items v))) ended
      ∙ ap (λ (l : List LeftCall). is_end own x && nat_lt 0 (length l)) (left_is n v node at)
      ∙ ap (λ b. is_end own x && b) (some_left (shown x.kernel) x.made (clients own))

  stuck_told_is : (n : Node) (v : Shown) (ends : Bool) → IsNode p own w n → v ≡ shown (world_after p own w n.order).kernel → ends ≡ is_end own (world_after p own w n.order) →
      stuck_told ends n.order (left_calls own n.made.items v) ≡ stuck_behind p own w n.order
  stuck_told_is n v ends node at ended =
      let x = world_after p own w n.order in
      ap (λ b. cond b (stuck_end n.order (left_calls own n.made.items v) ∷ []) []) (stuck_is n v ends node at ended)
      ∙ ap (λ (l : List LeftCall). cond (is_stuck own x) (stuck_end n.order l ∷ []) []) (left_is n v node at)

  -- one node of a layer
  pub expanded_is : (same : Answer → Answer → Bool) (n : Node) (v : Shown) (count : ℕ) (ends : Bool) → IsNode p own w n → v ≡ shown (world_after p own w n.order).kernel → count ≡ length own →
      ends ≡ not (list_any (λ client. can_be_made v (next_client_call own n.made.items client)) (numbers_below count)) → (nodes nodes' : List Node) (found found' : Findings) (answers answers' : List FoundAnswer) →
      IsVisited p own w nodes nodes' (each_times n.weight (longer p own w n.order)) same found.answers answers (calls_told p own w n.order) →
      answers_of answers' ≡ with_firsts (same_answer same) (answers_of answers) (cond ends (end_told own count n.made.items n.waits.items n.order) []) →
      found'.answers ≡ answers' →
      stuck_of found'.stuck.items ≡ with_firsts (same_stuck same_left) (stuck_of found.stuck.items) (stuck_told ends n.order (left_calls own n.made.items v)) →
      found'.ends ≡ saturated (found.ends + cond ends 1 0) →
      found'.orders ≡ saturated (found.orders + cond ends n.weight 0) →
      found'.stuck_orders ≡ saturated (found.stuck_orders + cond (ends && nat_lt 0 (length (left_calls own n.made.items v))) n.weight 0) →
      IsExpanded p own w nodes nodes' same found found' (node_order n ∷ [])
  expanded_is same n v count ends node at is_count is_ends nodes nodes' found found' answers answers' visited told answers_same stuck ends_are orders_are stuck_orders_are =
      let x = world_after p own w n.order in
      let ended = ended_is n v count ends node at is_count is_ends in
      let followers = λ (e : List ℕ × ℕ). each_times e.1 (longer p own w e.0) in
      let behind = λ (e : List ℕ × ℕ). answers_behind p own w e.0 in
      let stuck_after = λ (e : List ℕ × ℕ). stuck_behind p own w e.0 in
      record {
        are = visited.are;
        entries_are = visited.entries_are ∙ ap (with_counts_up_to (2 ^ 64 - 1) (lead_alike p own w) (node_orders nodes)) (sym (flat_map-cons followers (node_order n) [] ∙ append-nil (followers (node_order n))));
        found_are = record {
          answers_are =
              ap answers_of answers_same ∙ behind_is same n count ends node is_count ended found.answers answers answers' visited.told_are told
              ∙ ap (with_firsts (same_answer same) (answers_of found.answers)) (sym (flat_map-cons behind (node_order n) [] ∙ append-nil (behind (node_order n))));
          stuck_are =
              stuck ∙ ap (with_firsts (same_stuck same_left) (stuck_of found.stuck.items)) (stuck_told_is n v ends node at ended ∙ sym (flat_map-cons stuck_after (node_order n) [] ∙ append-nil (stuck_after (node_order n))));
          ends_are = ends_are ∙ ap (λ b. saturated (found.ends + cond b 1 0)) ended;
          orders_are = orders_are ∙ ap (λ b. saturated (found.orders + cond b n.weight 0)) ended;
          stuck_orders_are = stuck_orders_are ∙ ap (λ b. saturated (found.stuck_orders + cond b n.weight 0)) (stuck_is n v ends node at ended);
        };
      }

  -- nothing of a layer, and one node more
  pub expanded_none : (same : Answer → Answer → Bool) (nodes : List Node) (found : Findings) → AreNodes p own w nodes → IsExpanded p own w nodes nodes same found found []
  expanded_none same nodes found all = record { are = all; entries_are = refl; found_are = record { answers_are = refl; stuck_are = refl; ends_are = refl; orders_are = refl; stuck_orders_are = refl } }

  sum_append : (count : ℕ) (ms ns : List ℕ) → saturated_sum count (ms ++ ns) ≡ saturated_sum (saturated_sum count ms) ns
  sum_append count [] ns = refl
  sum_append count (m ∷ ms) ns = sum_append (saturated (count + m)) ms ns

  found_more : (same : Answer → Answer → Bool) (found found' found'' : Findings) (es fs : List (List ℕ × ℕ)) → IsFound p own w same found found' es → IsFound p own w same found' found'' fs → IsFound p own w same found found'' (es ++ fs)
  found_more same found found' found'' es fs so_far now =
      let behind = λ (e : List ℕ × ℕ). answers_behind p own w e.0 in
      let stuck_after = λ (e : List ℕ × ℕ). stuck_behind p own w e.0 in
      let ends = λ (e : List ℕ × ℕ). cond (is_end own (world_after p own w e.0)) 1 0 in
      let counts = λ (test : World → Bool) (e : List ℕ × ℕ). cond (test (world_after p own w e.0)) e.1 0 in
      record {
        answers_are =
            now.answers_are ∙ ap (λ l. with_firsts (same_answer same) l (flat_map behind fs)) so_far.answers_are
            ∙ sym (with_firsts-append (same_answer same) (flat_map behind es) (flat_map behind fs) (answers_of found.answers))
            ∙ ap (with_firsts (same_answer same) (answers_of found.answers)) (sym (flat_map-append behind es fs));
        stuck_are =
            now.stuck_are ∙ ap (λ l. with_firsts (same_stuck same_left) l (flat_map stuck_after fs)) so_far.stuck_are
            ∙ sym (with_firsts-append (same_stuck same_left) (flat_map stuck_after es) (flat_map stuck_after fs) (stuck_of found.stuck.items))
            ∙ ap (with_firsts (same_stuck same_left) (stuck_of found.stuck.items)) (sym (flat_map-append stuck_after es fs));
        ends_are = now.ends_are ∙ ap (λ k. saturated_sum k (map ends fs)) so_far.ends_are ∙ sym (sum_append found.ends (map ends es) (map ends fs)) ∙ ap (saturated_sum found.ends) (sym (map-append ends es fs));
        orders_are = now.orders_are ∙ ap (λ k. saturated_sum k (map (counts (is_end own)) fs)) so_far.orders_are ∙ sym (sum_append found.orders (map (counts (is_end own)) es) (map (counts (is_end own)) fs)) ∙ ap (saturated_sum found.orders) (sym (map-append (counts (is_end own)) es fs));
        stuck_orders_are =
            now.stuck_orders_are ∙ ap (λ k. saturated_sum k (map (counts (is_stuck own)) fs)) so_far.stuck_orders_are ∙ sym (sum_append found.stuck_orders (map (counts (is_stuck own)) es) (map (counts (is_stuck own)) fs))
            ∙ ap (saturated_sum found.stuck_orders) (sym (map-append (counts (is_stuck own)) es fs));
      }

  pub layer_more : (same : Answer → Answer → Bool) (layer : List Node) (i : ℕ) (n : Node) (next next' : List Node) (found found' found'' : Findings) → i < length layer → n ≡ get_or layer i n →
      IsExpanded p own w [] next same found found' (node_orders (take i layer)) → IsExpanded p own w next next' same found' found'' (node_order n ∷ []) →
      IsExpanded p own w [] next' same found found'' (node_orders (take (i + 1) layer))
  layer_more same layer i n next next' found found' found'' lt is so_far now =
      let es = node_orders (take i layer) in
      let followers = λ (e : List ℕ × ℕ). each_times e.1 (longer p own w e.0) in
      let took : node_orders (take (i + 1) layer) ≡ es ++ node_order n ∷ [] = ap node_orders (take_more layer i n lt ∙ ap (λ y. take i layer ++ y ∷ []) (sym is)) ∙ map-append node_order (take i layer) (n ∷ []) in
      subst (λ l. IsExpanded p own w [] next' same found found'' l) (sym took)
      (record {
        are = now.are;
        entries_are =
            now.entries_are ∙ ap (λ l. with_counts_up_to (2 ^ 64 - 1) (lead_alike p own w) l (flat_map followers (node_order n ∷ []))) so_far.entries_are
            ∙ sym (counts_up_to-append (2 ^ 64 - 1) (lead_alike p own w) (flat_map followers es) (flat_map followers (node_order n ∷ [])) [])
            ∙ ap (with_counts_up_to (2 ^ 64 - 1) (lead_alike p own w) []) (sym (flat_map-append followers es (node_order n ∷ [])));
        found_are = found_more same found found' found'' es (node_order n ∷ []) so_far.found_are now.found_are;
      })

  -- ---- a client's next call, where it can make one and where it cannot

  pub made_is : (same : Answer → Answer → Bool) (n : Node) (client : ℕ) (call : Call) (found found' : List FoundAnswer) (reply : Reply) (next : Shown) (order : List ℕ) (place : ℕ) (m : Node) →
      IsWay p own w n → StepsTo p (world_after p own w n.order).kernel call reply next → next_client_call own n.made.items client ≡ Some call →
      order ≡ n.order ++ client ∷ [] → place ≡ next_place n.made.items client →
      answers_of found' ≡ with_firsts (same_answer same) (answers_of found) (replied order client place reply ++ waits_ended order next n.waits.items reply) →
      m.order ≡ order → m.made.items ≡ one_more client (slice_get n.made.items client) n.made.items →
      m.waits.items ≡ waits_after next n.waits.items (waiting_call call.thread client (next_place n.made.items client)) reply →
      IsMade p own w n m client same found found' × IsKernelOf p own w m next
  made_is same n client call found found' reply next order place m node step_is is order_is place_is told o k t = (
    record {
      is = followed_is n node client call is reply next step_is m (o ∙ order_is) k t;
      order_is = o ∙ order_is;
      told_are =
          told
          ∙ ap (λ (l : List ℕ). with_firsts (same_answer same) (answers_of found) (replied l client place reply ++ waits_ended l next n.waits.items reply)) order_is
          ∙ ap (λ (i : ℕ). with_firsts (same_answer same) (answers_of found) (replied (n.order ++ client ∷ []) client i reply ++ waits_ended (n.order ++ client ∷ []) next n.waits.items reply)) place_is
          ∙ ap (with_firsts (same_answer same) (answers_of found)) (told_is n node client call is reply next step_is);
    },
    kernel_is n node client call is reply next step_is m (o ∙ order_is),
  )

  pub visited_not : (same : Answer → Answer → Bool) (n : Node) (v : Shown) (client : ℕ) (got : Option Call) (nodes : List Node) (found : List FoundAnswer) → IsNode p own w n → v ≡ shown (world_after p own w n.order).kernel → AreNodes p own w nodes →
      got ≡ None → is_some got ≡ can_be_made v (next_client_call own n.made.items client) →
      IsVisited p own w nodes nodes (each_times n.weight (one_longer p own w n.order client)) same found found (one_told p own w n.order client)
  visited_not same n v client got nodes found node at all none may =
      let cannot : may_call own (world_after p own w n.order) client ≡ false = sym (ap (λ (o : Option Call). is_some o) (sym none) ∙ may ∙ may_is n v client node at) in
      record {
        are = all;
        entries_are = ap (λ l. with_counts_up_to (2 ^ 64 - 1) (lead_alike p own w) (node_orders nodes) (each_times n.weight l)) (sym (none_longer n client cannot));
        told_are = ap (with_firsts (same_answer same) (answers_of found)) (sym (none_told n client cannot));
      }

  pub visited_call : (same : Answer → Answer → Bool) (n : Node) (v : Shown) (client : ℕ) (got : Option Call) (call : Call) (nodes nodes' : List Node) (found found' : List FoundAnswer) (way m : Node) →
      IsNode p own w n → v ≡ shown (world_after p own w n.order).kernel → AreNodes p own w nodes →
      got ≡ Some call → is_some got ≡ can_be_made v (next_client_call own n.made.items client) →
      IsMade p own w n way client same found found' → IsNode p own w m → m.order ≡ way.order → m.weight ≡ n.weight → nodes' ≡ with_node nodes m →
      IsVisited p own w nodes nodes' (each_times n.weight (one_longer p own w n.order client)) same found found' (one_told p own w n.order client)
  visited_call same n v client got call nodes nodes' found found' way m node at all some may made is order weighs noted =
      let can : may_call own (world_after p own w n.order) client ≡ true = sym (ap (λ (o : Option Call). is_some o) (sym some) ∙ may ∙ may_is n v client node at) in
      let r = noted_is nodes m all is in
      let one = λ (o : List ℕ) (k : ℕ). with_count_up_to (2 ^ 64 - 1) (lead_alike p own w) (node_orders nodes) (o, k) in
      record {
        are = subst (AreNodes p own w) (sym noted) r.0;
        entries_are =
            ap node_orders noted ∙ r.1 ∙ ap (λ (o : List ℕ). one o m.weight) (order ∙ made.order_is) ∙ ap (one (n.order ++ client ∷ [])) weighs
            ∙ ap (λ l. with_counts_up_to (2 ^ 64 - 1) (lead_alike p own w) (node_orders nodes) (each_times n.weight l)) (sym (one_is n client can));
        told_are = made.told_are ∙ ap (with_firsts (same_answer same) (answers_of found)) (sym (one_told_is n client can));
      }
