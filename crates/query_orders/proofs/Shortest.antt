-- What is found first is found behind the shortest orders.
use Rattle.std.proofs.Common.{◌≡◌, ◌⊎◌, ◌==◌, ◌||◌, ℕ, zero, suc, ◌+◌, ◌≤◌, Bool, true, false, cond, List, [], ◌∷◌, ◌++◌, map, filter, length, not, ◌&&◌, Option, None, Some, refl, ap, sym, subst, ◌∙◌, inl, inr, length-append, arith}
use Rattle.std.specs.List.{Contains, flat_map, AllByRecursion as Each}
use Rattle.std.proofs.lemmas.List.Elements.{Contains-push_cases}
use Rattle.std.proofs.lemmas.Bool.Decides.{nat_tests}
use Rattle.kernel_lists.specs.Firsts.{has_kind_of, with_first, with_firsts, HasKinds, IsKindTest}
use Rattle.kernel_lists.proofs.Merging.{with_first-keeps, with_firsts-keeps, with_firsts-has, through}
use Rattle.query_orders.proofs.Contained.{each_append, contains-nil, contains-head, contains-tail, each-contained, contains-flat_map, each-flat_map, each-filter_map}
use Rattle.cap_core.specs.declared.profile.ProfileName.{ProfileName}
use Rattle.kernel_abstract.specs.declared.call.Call.{Call}
use Rattle.kernel_abstract.specs.declared.call.Reply.{Reply}
use Rattle.kernel_abstract.specs.declared.call.Reply.TheVariants.{Done, Delivered, Waiting, Dropped, Empty, Refused}
use Rattle.kernel_abstract.specs.State.{shown}
use Rattle.kernel_abstract.specs.Step.{step}
use Rattle.kernel_abstract.specs.Shown.{Shown}
use Rattle.query_orders.specs.declared.answer.Answer.{Answer}
use Rattle.query_orders.specs.declared.answer.Answer.TheVariants.{Replied, Served, Cancelled, Waits, NotMade}
use Rattle.query_orders.specs.declared.answer.WaitingCall.{WaitingCall}
use Rattle.query_orders.specs.declared.left.LeftCall.{LeftCall}
use Rattle.query_orders.specs.World.{World, next_client_call, may_call, is_wait, still_waits, next_place, world_after}
use Rattle.query_orders.specs.Orders.{clients, longer, orders, is_end, is_stuck, found_before}
use Rattle.query_orders.specs.Answers.{Answered, answered, replied, wait_ended, waits_ended, call_answers, places_left, end_answers, answers_behind, same_answer}
use Rattle.query_orders.specs.Ends.{StuckEnd, stuck_end, left_calls, stuck_behind, same_stuck}
use Rattle.query_orders.specs.Laws.{AreShortest, AreShortestStuck}

module _ {X : Type 0} (same : X → X → Bool) where
  -- what the first of each kind contain was known, or is new
  new-or-known : (xs ys : List X) (x : X) → Contains (with_firsts same ys xs) x → Contains ys x ⊎ (Contains xs x × (has_kind_of same ys x ≡ false))
  new-or-known [] ys x h = inl h
  new-or-known (z ∷ xs) ys x h = elim (new-or-known xs (with_first same ys z) x h) as (λ _. Contains ys x ⊎ (Contains (z ∷ xs) x × (has_kind_of same ys x ≡ false))) [
    | inl known ↦ one (has_kind_of same ys z) refl known
    | inr new ↦ inr (contains-tail z xs x new.0, unknown (has_kind_of same ys x) refl new.1)
  ]
    where
      one : (b : Bool) → has_kind_of same ys z ≡ b → Contains (cond b ys (ys ++ z ∷ [])) x → Contains ys x ⊎ (Contains (z ∷ xs) x × (has_kind_of same ys x ≡ false))
      one true e m = inl m
      one false e m = elim (Contains-push_cases ys z x m) as (λ _. Contains ys x ⊎ (Contains (z ∷ xs) x × (has_kind_of same ys x ≡ false))) [
        | inl old ↦ inl old
        | inr is ↦ inr (contains-head z xs x is, subst (λ (u : X). has_kind_of same ys u ≡ false) is e)
      ]

      unknown : (b : Bool) → has_kind_of same ys x ≡ b → has_kind_of same (with_first same ys z) x ≡ false → has_kind_of same ys x ≡ false
      unknown false e not_there = e
      unknown true e not_there = absurd (let yes = with_first-keeps same ys z x e in let k : true ≡ false = sym yes ∙ not_there in cc)

module _ {X : Type 0} (same : X → X → Bool) (laws : IsKindTest same) (behind : List ℕ → List X) (level : X → ℕ) (p : ProfileName) (own : List (List Call)) (w : World) (first : List ℕ) (found : List X) where
  abbrev before : ℕ → List X
  before n = found_before same behind found p own w first n

  -- how long the orders are
  orders_long : (n : ℕ) → Each (λ order. length order ≡ length first + n) (orders p own w first n)
  orders_long zero = (omega arith, tt)
  orders_long (suc n) =
      each-flat_map (λ order. length order ≡ length first + n) (λ order. length order ≡ length first + suc n) (longer p own w)
      (λ order h. each-filter_map (may_call own (world_after p own w order)) (λ order. length order ≡ length first + suc n) (λ c. order ++ c ∷ [])
      (λ c may. let more = length-append order (c ∷ []) in omega (arith, h, more)) (clients own))
      (orders p own w first n) (orders_long n)

  has : (zs : List X) (ys : List X) (y : X) → HasKinds same ys zs → Contains zs y → has_kind_of same ys y ≡ true
  has zs ys y h m = each-contained (λ u. has_kind_of same ys u ≡ true) zs y h m

  -- what stands behind shorter orders is known
  known : (more m : ℕ) (y : X) → Contains (flat_map behind (orders p own w first m)) y → has_kind_of same (before (m + suc more)) y ≡ true
  known zero m y h =
      let e : suc m ≡ m + suc zero = omega arith in
      subst (λ (n : ℕ). has_kind_of same (before n) y ≡ true) e
      (has (flat_map behind (orders p own w first m)) (before (suc m)) y (with_firsts-has same laws (flat_map behind (orders p own w first m)) (before m)) h)
  known (suc more) m y h =
      let e : suc (m + suc more) ≡ m + suc (suc more) = omega arith in
      subst (λ (n : ℕ). has_kind_of same (before n) y ≡ true) e
      (with_firsts-keeps same (flat_map behind (orders p own w first (m + suc more))) (before (m + suc more)) y (known more m y h))

  module _ (is_level : (order : List ℕ) (x : X) → Contains (behind order) x → level x ≡ suc (length order)) (low : (x : X) → Contains found x → level x ≤ suc (length first)) where
    abbrev Levels : ℕ → X → Type 0
    Levels n x = level x ≡ suc (length first + n)

    behind_level : (n : ℕ) (x : X) → Contains (flat_map behind (orders p own w first n)) x → level x ≡ suc (length first + n)
    behind_level n x h =
        each-contained (Levels n) (flat_map behind (orders p own w first n)) x
        (each-flat_map (λ order. length order ≡ length first + n) (Levels n) behind (λ order long. each-from (behind order) (λ y m. is_level order y m ∙ ap suc long)) (orders p own w first n) (orders_long n)) h
      where
        each-from : (l : List X) → ((y : X) → Contains l y → Levels n y) → Each (Levels n) l
        each-from [] h = tt
        each-from (y ∷ l) h = (h y (contains-head y l y refl), each-from l (λ z m. h z (contains-tail y l z m)))

    pub lowest : (n : ℕ) (x : X) → Contains (before n) x → (m : ℕ) (y : X) → Contains (flat_map behind (orders p own w first m)) y → same y x ≡ true → level x ≤ level y
    lowest zero x h m y k s = let a = low x h in let b = behind_level m y k in omega (arith, a, b)
    lowest (suc n) x h m y k s = elim (new-or-known same (flat_map behind (orders p own w first n)) (before n) x h) as (λ _. level x ≤ level y) [
      | inl old ↦ lowest n x old m y k s
      | inr new ↦ (
          let a = behind_level n x new.0 in
          let b = behind_level m y k in
          elim (less_or m n) as (λ _. level x ≤ level y) [
            | inl less ↦ absurd (
                let yes = through same laws (before n) y x (subst (λ (j : ℕ). has_kind_of same (before j) y ≡ true) (sym less.1) (known less.0 m y k)) s in
                let no : true ≡ false = sym yes ∙ new.1 in
                cc)
            | inr le ↦ omega (arith, a, b, le)
          ])
    ]
      where
        less_or : (m n : ℕ) → ((more : ℕ) × (n ≡ m + suc more)) ⊎ (n ≤ m)
        less_or m zero = inr (omega arith)
        less_or zero (suc n) = inl (n, omega arith)
        less_or (suc m) (suc n) = elim (less_or m n) as (λ _. ((more : ℕ) × (suc n ≡ suc m + suc more)) ⊎ (suc n ≤ suc m)) [
          | inl less ↦ inl (less.0, let e = less.1 in omega (arith, e))
          | inr le ↦ inr (omega (arith, le))
        ]

-- ---- answers

-- a call's own answer stands behind the order without that call
abbrev level_of : Answer → ℕ → ℕ
level_of (Replied reply) n = n
level_of (Served reply) n = n
level_of Cancelled n = n
level_of Waits n = suc n
level_of NotMade n = suc n

abbrev level : Answered → ℕ
level a = level_of a.answer (length a.order)

ended_level : (reply : Reply) (thread n : ℕ) → level_of (wait_ended reply thread) n ≡ n
ended_level Done thread n = refl
ended_level (Delivered endpoint from to badge message) thread n =
    elim (from == thread || to == thread) as (λ b. level_of (cond b (Served (Delivered endpoint from to badge message)) Cancelled) n ≡ n) [ true ↦ refl | false ↦ refl ]
ended_level Waiting thread n = refl
ended_level Dropped thread n = refl
ended_level Empty thread n = refl
ended_level (Refused refusal) thread n = refl

each-map : {X Y : Type 0} (Q : Y → Type 0) (f : X → Y) → ((x : X) → Q (f x)) → (xs : List X) → Each Q (map f xs)
each-map Q f h [] = tt
each-map Q f h (x ∷ xs) = (h x, each-map Q f h xs)

each-all : {X : Type 0} (P : X → Type 0) (xs : List X) → ((x : X) → P x) → Each P xs
each-all P [] h = tt
each-all P (x ∷ xs) h = (h x, each-all P xs h)

module _ (order : List ℕ) where
  abbrev IsLevel : Answered → Type 0
  IsLevel a = level a ≡ suc (length order)

  one_longer : (client : ℕ) → length (order ++ client ∷ []) ≡ suc (length order)
  one_longer client = let a = length-append order (client ∷ []) in omega (arith, a)

  replied_level : (client place : ℕ) (reply : Reply) → Each IsLevel (replied (order ++ client ∷ []) client place reply)
  replied_level client place reply = elim (is_wait reply) as (λ b. Each IsLevel (cond b [] (answered (order ++ client ∷ []) client place (Replied reply) ∷ []))) [ true ↦ tt | false ↦ (one_longer client, tt) ]

  ended_levels : (client : ℕ) (v : Shown) (waits : List WaitingCall) (reply : Reply) → Each IsLevel (waits_ended (order ++ client ∷ []) v waits reply)
  ended_levels client v waits reply =
      each-map IsLevel (λ (call : WaitingCall). answered (order ++ client ∷ []) call.client call.place (wait_ended reply call.thread))
      (λ call. ended_level reply call.thread (length (order ++ client ∷ [])) ∙ one_longer client) (filter (λ call. not (still_waits v call)) waits)

  call_level : (p : ProfileName) (w : World) (client : ℕ) (c : Option Call) → Each IsLevel (call_answers p w order client c)
  call_level p w client None = tt
  call_level p w client (Some call) =
      let o = step p w.kernel call in
      each_append IsLevel (replied (order ++ client ∷ []) client (next_place w.made client) o.reply) (waits_ended (order ++ client ∷ []) (shown o.state) w.waits o.reply)
      (replied_level client (next_place w.made client) o.reply) (ended_levels client (shown o.state) w.waits o.reply)

  end_level : (own : List (List Call)) (w : World) → Each IsLevel (end_answers own w order)
  end_level own w =
      each_append IsLevel (map (λ (call : WaitingCall). answered order call.client call.place Waits) w.waits) (flat_map (λ client. map (λ place. answered order client place NotMade) (places_left own w.made client)) (clients own))
      (each-map IsLevel (λ (call : WaitingCall). answered order call.client call.place Waits) (λ call. refl) w.waits)
      (each-flat_map (λ client. Unit {0}) IsLevel (λ client. map (λ place. answered order client place NotMade) (places_left own w.made client))
      (λ client _. each-map IsLevel (λ place. answered order client place NotMade) (λ place. refl) (places_left own w.made client)) (clients own) (each-all (λ _. Unit {0}) (clients own) (λ _. tt)))

  behind_levels : (p : ProfileName) (own : List (List Call)) (w : World) → Each IsLevel (answers_behind p own w order)
  behind_levels p own w =
      let v = world_after p own w order in
      let able = filter (may_call own v) (clients own) in
      each_append IsLevel (flat_map (λ client. call_answers p v order client (next_client_call own v.made client)) able) (cond (is_end own v) (end_answers own v order) [])
      (each-flat_map (λ _. Unit {0}) IsLevel (λ client. call_answers p v order client (next_client_call own v.made client)) (λ client _. call_level p v client (next_client_call own v.made client)) able (each-all (λ _. Unit {0}) able (λ _. tt)))
      (elim (is_end own v) as (λ b. Each IsLevel (cond b (end_answers own v order) [])) [ true ↦ end_level own v | false ↦ tt ])

level-le : (n : Answer) (k l : ℕ) → level_of n k ≤ level_of n l → k ≤ l
level-le (Replied reply) k l h = h
level-le (Served reply) k l h = h
level-le Cancelled k l h = h
level-le Waits k l h = omega (arith, h)
level-le NotMade k l h = omega (arith, h)

and_true : (s t : Bool) → s ≡ true → t ≡ true → (s && t) ≡ true
and_true true t h k = k
and_true false t h k = cc

and_parts : (s t : Bool) → (s && t) ≡ true → (s ≡ true) × (t ≡ true)
and_parts true t h = (refl, h)
and_parts false t h = cc

eq_true : (m n : ℕ) → m ≡ n → (m == n) ≡ true
eq_true m n h = grind (arith, nat_tests)

eq_is : (m n : ℕ) → (m == n) ≡ true → m ≡ n
eq_is m n h = grind (arith, nat_tests)

module _ (same : Answer → Answer → Bool) (laws : IsKindTest same) where
  test_true : (a b : Answered) → a.client ≡ b.client → a.place ≡ b.place → same a.answer b.answer ≡ true → same_answer same a b ≡ true
  test_true a b c q e =
      and_true ((a.client == b.client) && (a.place == b.place)) (same a.answer b.answer)
      (and_true (a.client == b.client) (a.place == b.place) (eq_true a.client b.client c) (eq_true a.place b.place q)) e

  test_parts : (a b : Answered) → same_answer same a b ≡ true → (a.client ≡ b.client) × ((a.place ≡ b.place) × (same a.answer b.answer ≡ true))
  test_parts a b h =
      let r = and_parts ((a.client == b.client) && (a.place == b.place)) (same a.answer b.answer) h in
      let s = and_parts (a.client == b.client) (a.place == b.place) r.0 in
      (eq_is a.client b.client s.0, (eq_is a.place b.place s.1, r.1))

  answer_laws : IsKindTest (same_answer same)
  answer_laws = record {
    itself = λ a. test_true a a refl refl (laws.itself a.answer);
    along = λ a b c h k. (let r = test_parts a b h in let s = test_parts b c k in test_true a c (r.0 ∙ s.0) (r.1.0 ∙ s.1.0) (laws.along a.answer b.answer c.answer r.1.1 s.1.1));
  }

pub shortest : (p : ProfileName) (own : List (List Call)) (w : World) (first : List ℕ) (n : ℕ) → AreShortest p own w first n
shortest p own w first n same laws a b m order told is behind c q e =
    let test : same_answer same b a ≡ true = test_true same laws b a c q (subst (λ (x : Answer). same x a.answer ≡ true) (sym e) (laws.itself a.answer)) in
    let le = lowest (same_answer same) (answer_laws same laws) (answers_behind p own w) level p own w first []
    (λ order x m. each-contained (IsLevel order) (answers_behind p own w order) x (behind_levels order p own w) m) (λ x m. absurd (contains-nil x m))
    n a told m b (contains-flat_map (answers_behind p own w) (orders p own w first m) order b is behind) test in
    level-le a.answer (length a.order) (length b.order) (subst (λ (x : Answer). level_of a.answer (length a.order) ≤ level_of x (length b.order)) e le)

-- ---- ways to end stuck

abbrev IsStuckBehind : List ℕ → StuckEnd → Type 0
IsStuckBehind order s = suc (length s.order) ≡ suc (length order)

stuck_levels : (p : ProfileName) (own : List (List Call)) (w : World) (order : List ℕ) → Each (IsStuckBehind order) (stuck_behind p own w order)
stuck_levels p own w order =
    let v = world_after p own w order in
    elim (is_stuck own v) as (λ b. Each (IsStuckBehind order) (cond b (stuck_end order (left_calls own v.made (shown v.kernel)) ∷ []) [])) [ true ↦ (refl, tt) | false ↦ tt ]

pub shortest_stuck : (p : ProfileName) (own : List (List Call)) (w : World) (first : List ℕ) (n : ℕ) → AreShortestStuck p own w first n
shortest_stuck p own w first n same laws s t m order told is behind e =
    let stuck_laws : IsKindTest (same_stuck same) = record { itself = λ a. laws.itself a.left; along = λ a b c h k. laws.along a.left b.left c.left h k } in
    let test : same_stuck same t s ≡ true = subst (λ (x : List LeftCall). same x s.left ≡ true) (sym e) (laws.itself s.left) in
    let le = lowest (same_stuck same) stuck_laws (stuck_behind p own w) (λ (x : StuckEnd). suc (length x.order)) p own w first []
    (λ order x m. each-contained (IsStuckBehind order) (stuck_behind p own w order) x (stuck_levels p own w order) m) (λ x m. absurd (contains-nil x m))
    n s told m t (contains-flat_map (stuck_behind p own w) (orders p own w first m) order t is behind) test in
    omega (arith, le)
