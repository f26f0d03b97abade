-- What is told behind orders that lead to the same state is of the same kinds.
use Rattle.std.proofs.Common.{◌≡◌, ℕ, Bool, true, false, ◌==◌, ◌&&◌, not, cond, List, [], ◌∷◌, ◌++◌, map, filter, Option, Some, None, refl, ap, sym, subst, ◌∙◌, arith}
use Rattle.std.specs.Cmp.Derive.{both_true}
use Rattle.std.specs.List.{flat_map}
use Rattle.std.proofs.lemmas.Bool.Decides.{nat_tests}
use Rattle.std.proofs.lemmas.List.Elements.{filter_agree}
use Rattle.std.proofs.lemmas.List.Concat.{flat_map-cons}
use Rattle.cap_core.specs.declared.profile.ProfileName.{ProfileName}
use Rattle.kernel_abstract.specs.declared.call.Call.{Call}
use Rattle.kernel_abstract.specs.declared.call.Reply.{Reply}
use Rattle.kernel_abstract.specs.Shown.{Shown}
use Rattle.kernel_abstract.specs.State.{shown}
use Rattle.kernel_abstract.specs.Step.{step}
use Rattle.kernel_abstract.specs.Reached.{IsReached}
use Rattle.kernel_lists.specs.Firsts.{HasKinds, IsKindTest, has_kind_of, with_firsts}
use Rattle.kernel_lists.proofs.Merging.{has_kinds-map, each_append, has_kind_of-front, has_kind_of-back}
use Rattle.query_orders.specs.declared.answer.Answer.{Answer}
use Rattle.query_orders.specs.declared.answer.Answer.TheVariants.{Replied, Waits, NotMade}
use Rattle.query_orders.specs.declared.answer.WaitingCall.{WaitingCall}
use Rattle.query_orders.specs.declared.left.LeftCall.{LeftCall}
use Rattle.query_orders.specs.World.{World, next_client_call, may_call, next_place, is_wait, still_waits, world_after}
use Rattle.query_orders.specs.Orders.{clients, orders, is_end, is_stuck}
use Rattle.query_orders.specs.Answers.{Answered, answered, replied, wait_ended, waits_ended, call_answers, places_left, end_answers, answers_behind, same_answer}
use Rattle.query_orders.specs.Ends.{StuckEnd, stuck_end, stuck_behind, same_stuck, left_calls}
use Rattle.query_orders.specs.Nodes.{layer}
use Rattle.query_orders.proofs.Exploration.WorldWords.{Alike}
use Rattle.query_orders.proofs.Exploration.Steps.{step_alike, reply_alike, next_alike, may_alike, end_alike, stuck_alike, world_reached, layer_finds}

number_itself : (n : ℕ) → (n == n) ≡ true
number_itself n = grind (arith, nat_tests)

parts : (s t : Bool) → (s && t) ≡ true → (s ≡ true) × (t ≡ true)
parts true t h = (refl, h)
parts false t h = cc

number_along : (a b c : ℕ) → (a == b) ≡ true → (b == c) ≡ true → (a == c) ≡ true
number_along a b c h k = let e : a ≡ b = grind (arith, nat_tests) in let f : b ≡ c = grind (arith, nat_tests) in subst (λ n. (a == n) ≡ true) f h

flat_map-agree : {X : Type 0} (f g : ℕ → List X) → ((n : ℕ) → f n ≡ g n) → (ns : List ℕ) → flat_map f ns ≡ flat_map g ns
flat_map-agree f g h [] = refl
flat_map-agree {X} f g h (n ∷ ns) =
    flat_map-cons f n ns ∙ ap (λ (l : List X). l ++ flat_map f ns) (h n) ∙ ap (λ (l : List X). g n ++ l) (flat_map-agree f g h ns) ∙ sym (flat_map-cons g n ns)

module _ (same : Answer → Answer → Bool) (laws : IsKindTest same) where
  pub answers_test : IsKindTest (same_answer same)
  answers_test = record {
    itself = λ a. both_true (both_true (number_itself a.client) (number_itself a.place)) (laws.itself a.answer);
    along = λ a b c h k.
        (let x = parts ((a.client == b.client) && (a.place == b.place)) (same a.answer b.answer) h in
        let y = parts ((b.client == c.client) && (b.place == c.place)) (same b.answer c.answer) k in
        let u = parts (a.client == b.client) (a.place == b.place) x.0 in
        let v = parts (b.client == c.client) (b.place == c.place) y.0 in
        both_true (both_true (number_along a.client b.client c.client u.0 v.0) (number_along a.place b.place c.place u.1 v.1)) (laws.along a.answer b.answer c.answer x.1 y.1));
  }

  -- ---- the order by which an answer is told does not matter

  kinds-append : (us vs us' vs' : List Answered) → HasKinds (same_answer same) us us' → HasKinds (same_answer same) vs vs' → HasKinds (same_answer same) (us ++ vs) (us' ++ vs')
  kinds-append us vs us' vs' h k = each_append (λ u. has_kind_of (same_answer same) (us ++ vs) u ≡ true) us' vs' (front us' h) (back vs' k)
    where
      front : (zs : List Answered) → HasKinds (same_answer same) us zs → HasKinds (same_answer same) (us ++ vs) zs
      front [] h = tt
      front (z ∷ zs) h = (has_kind_of-front (same_answer same) us vs z h.0, front zs h.1)

      back : (zs : List Answered) → HasKinds (same_answer same) vs zs → HasKinds (same_answer same) (us ++ vs) zs
      back [] h = tt
      back (z ∷ zs) h = (has_kind_of-back (same_answer same) us vs z h.0, back zs h.1)

  kinds-flat_map : (f g : ℕ → List Answered) → ((n : ℕ) → HasKinds (same_answer same) (f n) (g n)) → (ns : List ℕ) → HasKinds (same_answer same) (flat_map f ns) (flat_map g ns)
  kinds-flat_map f g h [] = tt
  kinds-flat_map f g h (n ∷ ns) =
      subst (λ l. HasKinds (same_answer same) (flat_map f (n ∷ ns)) l) (sym (flat_map-cons g n ns))
      (subst (λ l. HasKinds (same_answer same) l (g n ++ flat_map g ns)) (sym (flat_map-cons f n ns)) (kinds-append (f n) (flat_map f ns) (g n) (flat_map g ns) (h n) (kinds-flat_map f g h ns)))

  one_kind : (x y : List ℕ) (client place : ℕ) (a : Answer) → same_answer same (answered x client place a) (answered y client place a) ≡ true
  one_kind x y client place a = both_true (both_true (number_itself client) (number_itself place)) (laws.itself a)

  replied_kinds : (x y : List ℕ) (client place : ℕ) (reply : Reply) → HasKinds (same_answer same) (replied x client place reply) (replied y client place reply)
  replied_kinds x y client place reply =
      elim (is_wait reply) as (λ b. HasKinds (same_answer same) (cond b [] (answered x client place (Replied reply) ∷ [])) (cond b [] (answered y client place (Replied reply) ∷ []))) [
        | true ↦ tt
        | false ↦ has_kinds-map (same_answer same) (λ n. answered x client n (Replied reply)) (λ n. answered y client n (Replied reply)) (λ n. one_kind x y client n (Replied reply)) (place ∷ [])
      ]

  call_kinds : (p : ProfileName) (v : World) (x y : List ℕ) (client : ℕ) (c : Option Call) → HasKinds (same_answer same) (call_answers p v x client c) (call_answers p v y client c)
  call_kinds p v x y client None = tt
  call_kinds p v x y client (Some c) =
      let o = step p v.kernel c in
      let x' = x ++ client ∷ [] in
      let y' = y ++ client ∷ [] in
      let n = next_place v.made client in
      kinds-append (replied x' client n o.reply) (waits_ended x' (shown o.state) v.waits o.reply) (replied y' client n o.reply) (waits_ended y' (shown o.state) v.waits o.reply)
      (replied_kinds x' y' client n o.reply)
      (has_kinds-map (same_answer same) (λ (call : WaitingCall). answered x' call.client call.place (wait_ended o.reply call.thread)) (λ (call : WaitingCall). answered y' call.client call.place (wait_ended o.reply call.thread))
      (λ call. one_kind x' y' call.client call.place (wait_ended o.reply call.thread)) (filter (λ call. not (still_waits (shown o.state) call)) v.waits))

  end_kinds : (own : List (List Call)) (v : World) (x y : List ℕ) → HasKinds (same_answer same) (end_answers own v x) (end_answers own v y)
  end_kinds own v x y =
      let left = λ (order : List ℕ) (client : ℕ). map (λ place. answered order client place NotMade) (places_left own v.made client) in
      kinds-append (map (λ (call : WaitingCall). answered x call.client call.place Waits) v.waits) (flat_map (left x) (clients own))
      (map (λ (call : WaitingCall). answered y call.client call.place Waits) v.waits) (flat_map (left y) (clients own))
      (has_kinds-map (same_answer same) (λ (call : WaitingCall). answered x call.client call.place Waits) (λ (call : WaitingCall). answered y call.client call.place Waits) (λ call. one_kind x y call.client call.place Waits) v.waits)
      (kinds-flat_map (left x) (left y) (λ client. has_kinds-map (same_answer same) (λ place. answered x client place NotMade) (λ place. answered y client place NotMade) (λ place. one_kind x y client place NotMade) (places_left own v.made client)) (clients own))

  -- what stands behind an order, by the world after it
  abbrev told : ProfileName → List (List Call) → World → List ℕ → List Answered
  told p own v order = flat_map (λ client. call_answers p v order client (next_client_call own v.made client)) (filter (may_call own v) (clients own)) ++ cond (is_end own v) (end_answers own v order) []

  told_kinds : (p : ProfileName) (own : List (List Call)) (v : World) (x y : List ℕ) → HasKinds (same_answer same) (told p own v x) (told p own v y)
  told_kinds p own v x y =
      let f = λ (order : List ℕ) (client : ℕ). call_answers p v order client (next_client_call own v.made client) in
      let callers = filter (may_call own v) (clients own) in
      kinds-append (flat_map (f x) callers) (cond (is_end own v) (end_answers own v x) []) (flat_map (f y) callers) (cond (is_end own v) (end_answers own v y) [])
      (kinds-flat_map (f x) (f y) (λ client. call_kinds p v x y client (next_client_call own v.made client)) callers)
      (elim (is_end own v) as (λ b. HasKinds (same_answer same) (cond b (end_answers own v x) []) (cond b (end_answers own v y) [])) [ true ↦ end_kinds own v x y | false ↦ tt ])

  call_alike : (p : ProfileName) (v w : World) (order : List ℕ) (client : ℕ) (c : Option Call) → IsReached p v.kernel → IsReached p w.kernel → Alike v w → call_answers p v order client c ≡ call_answers p w order client c
  call_alike p v w order client None r s a = refl
  call_alike p v w order client (Some c) r s a =
      let longer = order ++ client ∷ [] in
      let whole = λ (n : ℕ) (reply : Reply) (x : Shown) (l : List WaitingCall). replied longer client n reply ++ waits_ended longer x l reply in
      ap (λ (l : List ℕ). whole (next_place l client) (step p v.kernel c).reply (shown (step p v.kernel c).state) v.waits) a.made
      ∙ ap (λ (q : Reply). whole (next_place w.made client) q (shown (step p v.kernel c).state) v.waits) (reply_alike p v.kernel w.kernel c r s a.shows)
      ∙ ap (λ (x : Shown). whole (next_place w.made client) (step p w.kernel c).reply x v.waits) (step_alike p v.kernel w.kernel c r s a.shows)
      ∙ ap (λ (l : List WaitingCall). whole (next_place w.made client) (step p w.kernel c).reply (shown (step p w.kernel c).state) l) a.waits

  ends_alike : (own : List (List Call)) (v w : World) (order : List ℕ) → Alike v w → end_answers own v order ≡ end_answers own w order
  ends_alike own v w order a =
      let whole = λ (l : List WaitingCall) (made : List ℕ). map (λ (call : WaitingCall). answered order call.client call.place Waits) l ++ flat_map (λ client. map (λ place. answered order client place NotMade) (places_left own made client)) (clients own) in
      ap (λ (l : List WaitingCall). whole l v.made) a.waits ∙ ap (λ (made : List ℕ). whole w.waits made) a.made

  told_alike : (p : ProfileName) (own : List (List Call)) (v w : World) (order : List ℕ) → IsReached p v.kernel → IsReached p w.kernel → Alike v w → told p own v order ≡ told p own w order
  told_alike p own v w order r s a =
      let f = λ (x : World) (client : ℕ). call_answers p x order client (next_client_call own x.made client) in
      ap (λ (l : List Answered). l ++ cond (is_end own v) (end_answers own v order) [])
      (flat_map-agree (f v) (f w) (λ client. call_alike p v w order client (next_client_call own v.made client) r s a ∙ ap (call_answers p w order client) (next_alike own v w client a)) (filter (may_call own v) (clients own))
      ∙ ap (flat_map (f w)) (filter_agree (may_call own v) (may_call own w) (λ client. may_alike own v w client a) (clients own)))
      ∙ ap (λ (l : List Answered). flat_map (f w) (filter (may_call own w) (clients own)) ++ cond (is_end own v) l []) (ends_alike own v w order a)
      ∙ ap (λ b. flat_map (f w) (filter (may_call own w) (clients own)) ++ cond b (end_answers own w order) []) (end_alike own v w a)

  -- behind the orders of a layer stand the first of each kind of all
  pub layer_answers : (p : ProfileName) (own : List (List Call)) (w : World) → IsReached p w.kernel → (found : List Answered) (first : List ℕ) (n : ℕ) →
      with_firsts (same_answer same) found (flat_map (answers_behind p own w) (layer p own w first n)) ≡ with_firsts (same_answer same) found (flat_map (answers_behind p own w) (orders p own w first n))
  layer_answers p own w reached found first n =
      layer_finds p own w reached (same_answer same) (answers_behind p own w) answers_test
      (λ x y a. subst (λ l. HasKinds (same_answer same) (answers_behind p own w x) l)
      (told_alike p own (world_after p own w x) (world_after p own w y) y (world_reached p own w x reached) (world_reached p own w y reached) a)
      (told_kinds p own (world_after p own w x) x y)) found first n

-- ---- how orders end

module _ (same : List LeftCall → List LeftCall → Bool) (laws : IsKindTest same) where
  stuck_test : IsKindTest (same_stuck same)
  stuck_test = record { itself = λ a. laws.itself a.left; along = λ a b c h k. laws.along a.left b.left c.left h k }

  stuck_kinds : (p : ProfileName) (own : List (List Call)) (w : World) (x y : List ℕ) → Alike (world_after p own w x) (world_after p own w y) → HasKinds (same_stuck same) (stuck_behind p own w x) (stuck_behind p own w y)
  stuck_kinds p own w x y a =
      let v = world_after p own w x in
      let v' = world_after p own w y in
      let left : left_calls own v.made (shown v.kernel) ≡ left_calls own v'.made (shown v'.kernel) =
      ap (λ (l : List ℕ). left_calls own l (shown v.kernel)) a.made ∙ ap (λ (s : Shown). left_calls own v'.made s) a.shows in
      subst (λ b. HasKinds (same_stuck same) (stuck_behind p own w x) (cond b (stuck_end y (left_calls own v'.made (shown v'.kernel)) ∷ []) [])) (stuck_alike own v v' a)
      (subst (λ l. HasKinds (same_stuck same) (stuck_behind p own w x) (cond (is_stuck own v) (stuck_end y l ∷ []) [])) left
      (elim (is_stuck own v) as (λ b. HasKinds (same_stuck same) (cond b (stuck_end x (left_calls own v.made (shown v.kernel)) ∷ []) []) (cond b (stuck_end y (left_calls own v.made (shown v.kernel)) ∷ []) [])) [
        | true ↦ has_kinds-map (same_stuck same) (λ l. stuck_end x l) (λ l. stuck_end y l) (λ l. laws.itself l) (left_calls own v.made (shown v.kernel) ∷ [])
        | false ↦ tt
      ]))

  pub layer_stuck : (p : ProfileName) (own : List (List Call)) (w : World) → IsReached p w.kernel → (found : List StuckEnd) (first : List ℕ) (n : ℕ) →
      with_firsts (same_stuck same) found (flat_map (stuck_behind p own w) (layer p own w first n)) ≡ with_firsts (same_stuck same) found (flat_map (stuck_behind p own w) (orders p own w first n))
  layer_stuck p own w reached found first n = layer_finds p own w reached (same_stuck same) (stuck_behind p own w) stuck_test (stuck_kinds p own w) found first n
