-- One round more of an exploration.
use Rattle.std.proofs.Common.{◌≡◌, ℕ, zero, suc, ◌+◌, ◌-◌, ◌*◌, ◌^◌, ◌<◌, ◌≤◌, ◌&&◌, min, not, Bool, true, false, cond, List, [], ◌∷◌, ◌++◌, map, filter, length, take, get_or, replicate, Option, None, refl, ap, sym, ◌∙◌, append_assoc, add-one, arith}
use Rattle.std.specs.Prelude.{nat_lt}
use Rattle.std.specs.Cmp.Lexicographic.{pointwise}
use Rattle.std.proofs.lemmas.Bool.Decides.{nat_tests}
use Rattle.std.proofs.lemmas.List.{append-nil, length-map, take_more}
use Rattle.std.proofs.lemmas.List.Elements.{filter_agree}
use Rattle.std.proofs.lemmas.List.Sums.{sum_by-cons}
use Rattle.std.specs.List.{list_any, flat_map, sum_by, count_by}
use Rattle.cap_core.specs.declared.profile.ProfileName.{ProfileName}
use Rattle.kernel_abstract.specs.declared.call.Call.{Call}
use Rattle.kernel_abstract.specs.Shown.{Shown}
use Rattle.kernel_abstract.specs.State.{State, shown}
use Rattle.kernel_abstract.specs.Reached.{IsReached}
use Rattle.kernel_lists.specs.Firsts.{IsKindTest, firsts, with_firsts, with_counts_up_to, each_times, weight}
use Rattle.kernel_lists.proofs.Merging.{with_firsts-append}
use Rattle.kernel_lists.proofs.Weights.{up_to, key_of, all_up_to, keys_all, keys_followers, followers_up_to, flat_map_keys, weight-counted_followers, sum_by-followers}
use Rattle.query_orders.specs.declared.answer.Answer.{Answer}
use Rattle.query_orders.specs.declared.answer.WaitingCall.{WaitingCall}
use Rattle.query_orders.specs.contracts.answer.AnswerPartialEq.TheImpl as answer_eq
use Rattle.query_orders.specs.contracts.answer.AnswerEq.TheImpl.Laws as answer_laws
use Rattle.query_orders.specs.contracts.left.LeftCallPartialEq.TheImpl as left_eq
use Rattle.query_orders.specs.contracts.left.LeftCallEq.TheImpl.Laws as left_laws
use Rattle.query_orders.specs.World.{World, start, next_client_call, after_call, with_call, may_call, world_after}
use Rattle.query_orders.specs.Orders.{clients, longer, orders, is_end, is_stuck}
use Rattle.query_orders.specs.Answers.{Answered, same_answer, call_answers, first_answers, answers_behind, answers_before}
use Rattle.query_orders.specs.Ends.{StuckEnd, same_stuck, stuck_behind, stuck_before, orders_before}
use Rattle.query_orders.specs.declared.exploring.node.Node.{Node}
use Rattle.query_orders.specs.declared.exploring.found.FoundAnswer.{FoundAnswer}
use Rattle.query_orders.specs.declared.exploring.exploration.Explored.{Explored}
use Rattle.query_orders.specs.Nodes.{lead_alike, layer, IsWay, node_orders}
use Rattle.query_orders.specs.Counts.{saturated, saturated_sum, counted, states_before, ends_before}
use Rattle.query_orders.specs.Found.{answers_of, stuck_of, same_left, counts_of, IsMade, IsExpanded}
use Rattle.query_orders.specs.Explorations.{ends_exploration, is_last_layer, layers_from, depth, IsBegun, IsExploredTo, IsExplored}
use Rattle.query_orders.specs.Private.Kernels.{IsKernelOf}
use Rattle.query_orders.specs.Private.Progress.{IsProgress}
use Rattle.query_orders.proofs.Exploration.Steps.{world_after-append, alike_from, alike_to, may_alike, longer_alike, end_alike, stuck_alike, layer_next}
use Rattle.query_orders.proofs.Exploration.Told.{layer_answers, layer_stuck}

pub same_answers : IsKindTest answer_eq.ghosts.eq
same_answers = record { itself = answer_laws.laws-law.refl; along = λ x y z h k. answer_laws.laws-law.congr x y z h ∙ k }

-- ---- lists that are the same, element by element

module _ {X : Type 0} (same : X → X → Bool) (laws : IsKindTest same) where
  points_itself : (xs : List X) → pointwise same xs xs ≡ true
  points_itself [] = refl
  points_itself (x ∷ xs) = ap (λ b. b && pointwise same xs xs) (laws.itself x) ∙ points_itself xs

  both : (s t : Bool) → (s && t) ≡ true → (s ≡ true) × (t ≡ true)
  both true t h = (refl, h)
  both false t h = cc

  points_along : (xs ys zs : List X) → pointwise same xs ys ≡ true → pointwise same ys zs ≡ true → pointwise same xs zs ≡ true
  points_along [] [] zs h k = k
  points_along [] (y ∷ ys) zs h k = cc
  points_along (x ∷ xs) [] zs h k = cc
  points_along (x ∷ xs) (y ∷ ys) [] h k = cc
  points_along (x ∷ xs) (y ∷ ys) (z ∷ zs) h k =
      let a = both (same x y) (pointwise same xs ys) h in
      let b = both (same y z) (pointwise same ys zs) k in
      ap (λ t. t && pointwise same xs zs) (laws.along x y z a.0 b.0) ∙ points_along xs ys zs a.1 b.1

pub same_lefts : IsKindTest same_left
same_lefts =
    let one : IsKindTest left_eq.ghosts.eq = record { itself = left_laws.laws-law.refl; along = λ x y z h k. left_laws.laws-law.congr x y z h ∙ k } in
    record { itself = points_itself left_eq.ghosts.eq one; along = points_along left_eq.ghosts.eq one }

-- ---- how many orders lead to a state

sum_map : {X : Type 0} (f : X → ℕ) (g : ℕ → X) (h : ℕ → X) → ((n : ℕ) → f (g n) ≡ f (h n)) → (ns : List ℕ) → sum_by f (map g ns) ≡ sum_by f (map h ns)
sum_map f g h e [] = refl
sum_map f g h e (n ∷ ns) = let a = sum_by-cons f (g n) (map g ns) in let b = sum_by-cons f (h n) (map h ns) in let i = sum_map f g h e ns in let k = e n in omega arith

keys_up_to : {X : Type 0} (most : ℕ) (es : List (X × ℕ)) → map key_of (map (up_to most) es) ≡ map key_of es
keys_up_to most [] = refl
keys_up_to most (e ∷ es) = ap (λ l. e.0 ∷ l) (keys_up_to most es)

module _ (p : ProfileName) (own : List (List Call)) (w : World) (reached : IsReached p w.kernel) where
  abbrev Respecting : (List ℕ → ℕ) → Type 0
  Respecting f = (x y : List ℕ) → lead_alike p own w x y ≡ true → f x ≡ f y

  longer_respects : (f : List ℕ → ℕ) → Respecting f → Respecting (λ x. sum_by f (longer p own w x))
  longer_respects f r x y h =
      let a = alike_from p own w reached x y h in
      let v = world_after p own w x in
      let v' = world_after p own w y in
      ap (λ (l : List ℕ). sum_by f (map (λ client. x ++ client ∷ []) l)) (filter_agree (may_call own v) (may_call own v') (λ client. may_alike own v v' client a) (clients own))
      ∙ sum_map f (λ client. x ++ client ∷ []) (λ client. y ++ client ∷ []) (λ client. r (x ++ client ∷ []) (y ++ client ∷ []) (alike_to p own w reached (x ++ client ∷ []) (y ++ client ∷ []) (longer_alike p own w reached x y client a))) (filter (may_call own v') (clients own))

  -- a weight that orders to one state share weighs as much in a layer with its counts as in all orders
  layer_weighs : (first : List ℕ) (n : ℕ) (f : List ℕ → ℕ) → Respecting f → weight f (counted p own w first n) ≡ sum_by f (orders p own w first n)
  layer_weighs first zero f r = let a = sum_by-cons (λ (y : List ℕ × ℕ). y.1 * f y.0) (first, 1) [] in let b = sum_by-cons f first [] in omega arith
  layer_weighs first (suc n) f r =
      let es = counted p own w first n in
      let a = weight-counted_followers (lead_alike p own w) f (longer p own w) es r in
      let i = layer_weighs first n (λ x. sum_by f (longer p own w x)) (longer_respects f r) in
      let d = sum_by-followers f (longer p own w) (orders p own w first n) in
      omega arith

  -- without the counts it is the layer
  layer_keys : (first : List ℕ) (n : ℕ) → map key_of (counted p own w first n) ≡ layer p own w first n
  layer_keys first zero = refl
  layer_keys first (suc n) =
      keys_all (lead_alike p own w) (flat_map (λ (e : List ℕ × ℕ). each_times e.1 (longer p own w e.0)) (counted p own w first n)) []
      ∙ ap (firsts (lead_alike p own w)) (keys_followers (longer p own w) (counted p own w first n) ∙ ap (flat_map (longer p own w)) (layer_keys first n))
      ∙ layer_next p own w reached first n

-- ---- how orders begin

module _ (p : ProfileName) (own : List (List Call)) where
  pub begins : (n : Node) (A : State) (count : ℕ) → length own ≡ count → n.order ≡ [] → n.made.items ≡ replicate count 0 → n.waits.items ≡ [] → IsWay p own (start own A) n
  begins n A count is_count order made waits =
      let w = start own A in
      let after : world_after p own w n.order ≡ w = ap (world_after p own w) order in
      let made_is : n.made.items ≡ w.made = made ∙ ap (λ k. replicate k 0) (sym is_count) in
      record {
        made_is = made_is ∙ sym (ap (λ (x : World). x.made) after);
        waits_are = waits ∙ sym (ap (λ (x : World). x.waits) after);
      }

  -- a client without a call left makes none
  pub none_made : (w : World) (same : Answer → Answer → Bool) (n m : Node) (client : ℕ) (c : Option Call) (found : List FoundAnswer) (v : Shown) → IsWay p own w n → c ≡ next_client_call own n.made.items client → c ≡ None →
      m.order ≡ n.order ++ client ∷ [] → m.made.items ≡ n.made.items → m.waits.items ≡ n.waits.items → IsKernelOf p own w n v →
      IsMade p own w n m client same found found × IsKernelOf p own w m v
  none_made w same n m client c found v node is none order made waits at =
      let x = world_after p own w n.order in
      let no_call : next_client_call own x.made client ≡ None = ap (λ (l : List ℕ). next_client_call own l client) (sym node.made_is) ∙ sym is ∙ none in
      let after : world_after p own w m.order ≡ x = ap (world_after p own w) order ∙ world_after-append p own w n.order (client ∷ []) ∙ ap (with_call p x client) no_call in (
        record {
          is = record {
            made_is = made ∙ node.made_is ∙ sym (ap (λ (y : World). y.made) after);
            waits_are = waits ∙ node.waits_are ∙ sym (ap (λ (y : World). y.waits) after);
          };
          order_is = order;
          told_are = sym (ap (λ (o : Option Call). with_firsts (same_answer same) (answers_of found) (call_answers p x n.order client o)) no_call);
        },
        at ∙ sym (ap (λ (y : World). shown y.kernel) after),
      )

  first_more : (w : World) (made order : List ℕ) (client : ℕ) →
      first_answers p own w made (order ++ client ∷ []) ≡ first_answers p own w made order ++ call_answers p (world_after p own w order) (made ++ order) client (next_client_call own (world_after p own w order).made client)
  first_more w made [] client =
      append-nil (call_answers p w made client (next_client_call own w.made client)) ∙ ap (λ (l : List ℕ). call_answers p w l client (next_client_call own w.made client)) (sym (append-nil made))
  first_more w made (c ∷ order) client =
      let v = after_call p own w c in
      let u = world_after p own v order in
      let now = call_answers p w made c (next_client_call own w.made c) in
      ap (λ l. now ++ l) (first_more v (made ++ c ∷ []) order client)
      ∙ ap (λ (l : List ℕ). now ++ (first_answers p own v (made ++ c ∷ []) order ++ call_answers p u l client (next_client_call own u.made client))) (append_assoc made (c ∷ []) order)
      ∙ sym (append_assoc now (first_answers p own v (made ++ c ∷ []) order) (call_answers p u (made ++ c ∷ order) client (next_client_call own u.made client)))

  module _ (A : State) (first : List ℕ) (same : Answer → Answer → Bool) where
    pub begun_none : (n : Node) (found : List FoundAnswer) → IsWay p own (start own A) n → n.order ≡ [] → n.weight ≡ 1 → IsBegun p own A [] n same found found
    begun_none n found is order weighs = record { is = is; order_is = order; weight_is = weighs; told_are = refl }

    pub begun_more : (i client : ℕ) (n m : Node) (found found' found'' : List FoundAnswer) → i < length first → client ≡ get_or first i 0 →
        IsBegun p own A (take i first) n same found found' → IsMade p own (start own A) n m client same found' found'' → m.weight ≡ n.weight → IsBegun p own A (take (i + 1) first) m same found found''
    begun_more i client n m found found' found'' lt is so_far made weighs =
        let w = start own A in
        let took : take (i + 1) first ≡ take i first ++ client ∷ [] = take_more first i 0 lt ∙ ap (λ y. take i first ++ y ∷ []) (sym is) in
        let told = λ (o : List ℕ). call_answers p (world_after p own w o) o client (next_client_call own (world_after p own w o).made client) in
        record {
          is = made.is;
          order_is = made.order_is ∙ ap (λ (o : List ℕ). o ++ client ∷ []) so_far.order_is ∙ sym took;
          weight_is = weighs ∙ so_far.weight_is;
          told_are =
              made.told_are
              ∙ ap (λ (o : List ℕ). with_firsts (same_answer same) (answers_of found') (told o)) so_far.order_is
              ∙ ap (λ (l : List Answered). with_firsts (same_answer same) l (told (take i first))) so_far.told_are
              ∙ sym (with_firsts-append (same_answer same) (first_answers p own w [] (take i first)) (told (take i first)) (answers_of found))
              ∙ ap (with_firsts (same_answer same) (answers_of found)) (sym (ap (first_answers p own w []) took ∙ first_more w [] (take i first) client));
        }

-- ---- rounds

split : (s t : Bool) → (s && not t) ≡ true → (s ≡ true) × (t ≡ false)
split true true h = cc
split true false h = (refl, refl)
split false t h = cc

pub goes_less : (limit count : ℕ) (e : Explored) (went : Bool) (n : ℕ) → went ≡ (nat_lt e.calls count && not (ends_exploration limit e.states (length e.layer))) → went ≡ true → n ≡ e.calls + 1 → count - n < count - e.calls
goes_less limit count e went n is goes more =
    let r = split (nat_lt e.calls count) (ends_exploration limit e.states (length e.layer)) (sym is ∙ goes) in
    let lt : e.calls < count = (let t = r.0 in grind (arith, nat_tests)) in
    omega arith

abbrev most : ℕ
most = 2 ^ 64 - 1

module _ (p : ProfileName) (own : List (List Call)) (A : State) (first : List ℕ) where
  abbrev w : World
  w = start own A

  module _ (reached : IsReached p A) where
    sum_twice : (a b : ℕ) → min (min a most + b) most ≡ min (a + b) most
    sum_twice a b = omega arith

    passing_sum : (t : List ℕ → Bool) (C : List (List ℕ × ℕ)) (a b : ℕ) → a ≡ saturated b →
        saturated_sum a (map (λ (e : List ℕ × ℕ). cond (t e.0) e.1 0) (map (up_to most) C)) ≡ saturated (b + weight (λ x. cond (t x) 1 0) C)
    passing_sum t [] a b h = h ∙ ap saturated (let z : b ≡ b + 0 = omega arith in z)
    passing_sum t (e ∷ C) a b h =
        let one : saturated (a + cond (t e.0) (min e.1 most) 0) ≡ saturated (b + e.1 * cond (t e.0) 1 0) =
        elim (t e.0) as (λ c. saturated (a + cond c (min e.1 most) 0) ≡ saturated (b + e.1 * cond c 1 0)) [ true ↦ (omega arith) | false ↦ (omega arith) ] in
        let q = sum_by-cons (λ (y : List ℕ × ℕ). y.1 * cond (t y.0) 1 0) e C in
        passing_sum t C (saturated (a + cond (t e.0) (min e.1 most) 0)) (b + e.1 * cond (t e.0) 1 0) one
        ∙ ap saturated (let z : (b + e.1 * cond (t e.0) 1 0) + weight (λ x. cond (t x) 1 0) C ≡ b + weight (λ x. cond (t x) 1 0) (e ∷ C) = omega arith in z)

    ends_sum : (t : List ℕ → Bool) (E : List (List ℕ × ℕ)) (a b : ℕ) → a ≡ saturated b →
        saturated_sum a (map (λ (e : List ℕ × ℕ). cond (t e.0) 1 0) E) ≡ saturated (b + count_by t (map key_of E))
    ends_sum t [] a b h = h ∙ ap saturated (let z : b ≡ b + 0 = omega arith in z)
    ends_sum t (e ∷ E) a b h =
        let n = cond (t e.0) 1 0 in
        let one : saturated (a + n) ≡ saturated (b + n) = ap (λ k. min (k + n) most) h ∙ sum_twice b n in
        let q = sum_by-cons (λ (x : List ℕ). cond (t x) 1 0) e.0 (map key_of E) in
        ends_sum t E (saturated (a + n)) (b + n) one ∙ ap saturated (let z : (b + n) + count_by t (map key_of E) ≡ b + count_by t (map key_of (e ∷ E)) = omega arith in z)

    -- how many orders pass a test that orders to one state pass alike
    passing : (test : World → Bool) → ((x y : List ℕ) → lead_alike p own w x y ≡ true → test (world_after p own w x) ≡ test (world_after p own w y)) → (n was : ℕ) → was ≡ saturated (orders_before test p own w first n) →
        saturated_sum was (counts_of test p own w (map (up_to most) (counted p own w first n))) ≡ saturated (orders_before test p own w first (suc n))
    passing test respects n was is =
        let t = λ (o : List ℕ). test (world_after p own w o) in
        let before = orders_before test p own w first n in
        passing_sum t (counted p own w first n) was before is
        ∙ ap (λ k. min (before + k) most) (layer_weighs p own w reached first n (λ o. cond (t o) 1 0) (λ x y h. ap (λ b. cond b 1 0) (respects x y h)))

    pub progress_more : (e e' : Explored) → IsProgress p own A first answer_eq.ghosts.eq e → IsExpanded p own w [] e'.layer answer_eq.ghosts.eq e.found e'.found (node_orders e.layer) →
        e'.states ≡ min (e.states + length e.layer) most → e'.calls ≡ e.calls + 1 → IsProgress p own A first answer_eq.ghosts.eq e'
    progress_more e e' so_far now states calls =
        let n = e.calls in
        let C = counted p own w first n in
        let next : suc n ≡ e'.calls = sym (calls ∙ add-one n) in
        let keys : map key_of (node_orders e.layer) ≡ layer p own w first n = ap (map key_of) so_far.entries_are ∙ keys_up_to most C ∙ layer_keys p own w reached first n in
        let followers = λ (c : List ℕ × ℕ). each_times c.1 (longer p own w c.0) in
        let entries : node_orders e'.layer ≡ map (up_to most) (counted p own w first (suc n)) =
        now.entries_are ∙ ap (λ l. with_counts_up_to most (lead_alike p own w) [] (flat_map followers l)) so_far.entries_are
        ∙ ap (with_counts_up_to most (lead_alike p own w) []) (sym (followers_up_to (longer p own w) most C))
        ∙ sym (all_up_to most (lead_alike p own w) (flat_map followers C) []) in
        let same_order : (l : List Node) → map (λ (m : Node). m.order) l ≡ map key_of (node_orders l) = orders_keys in
        let f = now.found_are in
        let before = so_far.to in
        record {
          are = now.are;
          entries_are = entries ∙ ap (λ k. map (up_to most) (counted p own w first k)) next;
          to = record {
            layer_is =
                same_order e'.layer ∙ ap (map key_of) entries ∙ keys_up_to most (counted p own w first (suc n)) ∙ layer_keys p own w reached first (suc n)
                ∙ ap (layer p own w first) next;
            answers_are =
                f.answers_are
                ∙ ap (with_firsts (same_answer answer_eq.ghosts.eq) (answers_of e.found.answers)) (flat_map_keys (answers_behind p own w) (node_orders e.layer) ∙ ap (flat_map (answers_behind p own w)) keys)
                ∙ ap (λ (l : List Answered). with_firsts (same_answer answer_eq.ghosts.eq) l (flat_map (answers_behind p own w) (layer p own w first n))) before.answers_are
                ∙ layer_answers answer_eq.ghosts.eq same_answers p own w reached (answers_before answer_eq.ghosts.eq (firsts (same_answer answer_eq.ghosts.eq) (first_answers p own w [] first)) p own w first n) first n
                ∙ ap (answers_before answer_eq.ghosts.eq (firsts (same_answer answer_eq.ghosts.eq) (first_answers p own w [] first)) p own w first) next;
            stuck_are =
                f.stuck_are
                ∙ ap (with_firsts (same_stuck same_left) (stuck_of e.found.stuck.items)) (flat_map_keys (stuck_behind p own w) (node_orders e.layer) ∙ ap (flat_map (stuck_behind p own w)) keys)
                ∙ ap (λ (l : List StuckEnd). with_firsts (same_stuck same_left) l (flat_map (stuck_behind p own w) (layer p own w first n))) before.stuck_are
                ∙ layer_stuck same_left same_lefts p own w reached (stuck_before same_left p own w first n) first n
                ∙ ap (stuck_before same_left p own w first) next;
            states_are =
                states ∙ ap (λ k. min (k + length e.layer) most) before.states_are ∙ sum_twice (states_before p own w first n) (length e.layer)
                ∙ ap (λ k. min (states_before p own w first n + k) most) (sym (length-map e.layer (λ (m : Node). m.order)) ∙ ap (λ (l : List (List ℕ)). length l) before.layer_is)
                ∙ ap (λ k. saturated (states_before p own w first k)) next;
            ends_are =
                f.ends_are ∙ ends_sum (λ (o : List ℕ). is_end own (world_after p own w o)) (node_orders e.layer) e.found.ends (ends_before p own w first n) before.ends_are
                ∙ ap (λ (l : List (List ℕ)). saturated (ends_before p own w first n + count_by (λ (o : List ℕ). is_end own (world_after p own w o)) l)) keys
                ∙ ap (λ k. saturated (ends_before p own w first k)) next;
            orders_are =
                f.orders_are ∙ ap (λ l. saturated_sum e.found.orders (counts_of (is_end own) p own w l)) so_far.entries_are
                ∙ passing (is_end own) (λ x y h. end_alike own (world_after p own w x) (world_after p own w y) (alike_from p own w reached x y h)) n e.found.orders before.orders_are
                ∙ ap (λ k. saturated (orders_before (is_end own) p own w first k)) next;
            stuck_orders_are =
                f.stuck_orders_are ∙ ap (λ l. saturated_sum e.found.stuck_orders (counts_of (is_stuck own) p own w l)) so_far.entries_are
                ∙ passing (is_stuck own) (λ x y h. stuck_alike own (world_after p own w x) (world_after p own w y) (alike_from p own w reached x y h)) n e.found.stuck_orders before.stuck_orders_are
                ∙ ap (λ k. saturated (orders_before (is_stuck own) p own w first k)) next;
          };
        }
      where
        orders_keys : (l : List Node) → map (λ (m : Node). m.order) l ≡ map key_of (node_orders l)
        orders_keys [] = refl
        orders_keys (m ∷ l) = ap (λ k. m.order ∷ k) (orders_keys l)

  -- ---- how far it goes

  last_is : (limit : ℕ) (e : Explored) → IsExploredTo p own w first answer_eq.ghosts.eq e → ends_exploration limit e.states (length e.layer) ≡ is_last_layer p own w first limit e.calls
  last_is limit e to =
      ap (λ k. ends_exploration limit k (length e.layer)) to.states_are
      ∙ ap (λ k. ends_exploration limit (saturated (states_before p own w first e.calls)) k) (sym (length-map e.layer (λ (m : Node). m.order)) ∙ ap (λ (l : List (List ℕ)). length l) to.layer_is)

  depth_last : (limit further n : ℕ) → is_last_layer p own w first limit n ≡ true → layers_from p own w first limit further n ≡ n
  depth_last limit zero n h = refl
  depth_last limit (suc further) n h = ap (λ b. cond b n (layers_from p own w first limit further (suc n))) h

  pub depth_goes_on : (limit count : ℕ) (e : Explored) (went : Bool) → IsExploredTo p own w first answer_eq.ghosts.eq e → went ≡ (nat_lt e.calls count && not (ends_exploration limit e.states (length e.layer))) → went ≡ true →
      layers_from p own w first limit (count - e.calls) e.calls ≡ layers_from p own w first limit (count - (e.calls + 1)) (e.calls + 1)
  depth_goes_on limit count e went to is goes =
      let r = split (nat_lt e.calls count) (ends_exploration limit e.states (length e.layer)) (sym is ∙ goes) in
      let lt : e.calls < count = (let t = r.0 in grind (arith, nat_tests)) in
      let one_less : count - e.calls ≡ suc (count - (e.calls + 1)) = omega arith in
      ap (λ k. layers_from p own w first limit k e.calls) one_less
      ∙ ap (λ b. cond b e.calls (layers_from p own w first limit (count - (e.calls + 1)) (suc e.calls))) (sym (last_is limit e to) ∙ r.1)
      ∙ ap (layers_from p own w first limit (count - (e.calls + 1))) (sym (add-one e.calls))

  pub depth_ends : (limit count : ℕ) (e : Explored) (went : Bool) → IsExploredTo p own w first answer_eq.ghosts.eq e → went ≡ (nat_lt e.calls count && not (ends_exploration limit e.states (length e.layer))) → went ≡ false →
      layers_from p own w first limit (count - e.calls) e.calls ≡ depth p own w first limit count → IsExplored p own A first answer_eq.ghosts.eq limit count e
  depth_ends limit count e went to is ends so_far =
      record { to = to; calls_are = sym (at (nat_lt e.calls count) (ends_exploration limit e.states (length e.layer)) refl refl (sym is ∙ ends)) ∙ so_far }
    where
      at : (s t : Bool) → nat_lt e.calls count ≡ s → ends_exploration limit e.states (length e.layer) ≡ t → (s && not t) ≡ false → layers_from p own w first limit (count - e.calls) e.calls ≡ e.calls
      at true true h k f = depth_last limit (count - e.calls) e.calls (sym (last_is limit e to) ∙ k)
      at true false h k f = cc
      at false t h k f = (let none : count - e.calls ≡ 0 = (let le : count ≤ e.calls = grind (arith, nat_tests) in omega arith) in ap (λ k. layers_from p own w first limit k e.calls) none)

-- ---- an empty layer

not_empty : {X : Type 0} (same : X → X → Bool) (xs : List X) (y : X) (ys : List X) → with_firsts same (y ∷ ys) xs ≡ [] → ⊥
not_empty same [] y ys h = cc
not_empty same (x ∷ xs) y ys h =
    elim (list_any (λ z. same z x) (y ∷ ys)) as (λ b. with_firsts same (cond b (y ∷ ys) ((y ∷ ys) ++ x ∷ [])) xs ≡ [] → ⊥) [ true ↦ (λ k. not_empty same xs y ys k) | false ↦ (λ k. not_empty same xs y (ys ++ x ∷ []) k) ] h

firsts_empty : {X : Type 0} (same : X → X → Bool) (xs : List X) → firsts same xs ≡ [] → xs ≡ []
firsts_empty same [] h = refl
firsts_empty same (x ∷ xs) h = absurd (not_empty same xs x [] h)

pub no_orders_behind : (p : ProfileName) (own : List (List Call)) (w : World) (first : List ℕ) (n more : ℕ) → layer p own w first n ≡ [] → orders p own w first (n + more) ≡ []
no_orders_behind p own w first n zero h = ap (orders p own w first) (let e : n + 0 ≡ n = omega arith in e) ∙ firsts_empty (lead_alike p own w) (orders p own w first n) h
no_orders_behind p own w first n (suc more) h =
    ap (orders p own w first) (let e : n + suc more ≡ suc (n + more) = omega arith in e) ∙ ap (flat_map (longer p own w)) (no_orders_behind p own w first n more h)
