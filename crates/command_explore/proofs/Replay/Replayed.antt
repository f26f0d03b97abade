-- A run of a set-up that makes the calls of the order that is told comes to what is told.
use Rattle.std.proofs.Common.{◌≡◌, ◌==◌, ◌+◌, ◌<◌, ◌≤◌, ◌⊎◌, ℕ, zero, suc, true, false, cond, List, [], ◌∷◌, map, filter, length, Some, option_map, slice_get, refl, ap, sym, subst, ◌∙◌, inl, inr, arith}
use Rattle.std.proofs.lemmas.List.{map-append}
use Rattle.std.proofs.lemmas.Option.{slice_get-map, none-some, same_Some}
use Rattle.std.specs.List.{AllByRecursion as Each}
use Rattle.cap_core.specs.declared.profile.ProfileName.{ProfileName}
use Rattle.kernel_abstract.specs.declared.call.Call.{Call}
use Rattle.kernel_abstract.specs.declared.call.Reply.{Reply}
use Rattle.kernel_abstract.specs.Boot.{boot}
use Rattle.kernel_abstract.specs.Plan.{IsPlan}
use Rattle.kernel_abstract.specs.Reached.{IsReached}
use Rattle.kernel_abstract.specs.State.{State, shown}
use Rattle.kernel_abstract.specs.Step.{replies_of, state_after}
use Rattle.setup_format.specs.Views.{CallView, SetupView}
use Rattle.query_orders.specs.declared.answer.Answer.{Answer}
use Rattle.query_orders.specs.declared.answer.Answer.TheVariants.{Replied, Served, Cancelled, Waits, NotMade}
use Rattle.query_orders.specs.declared.left.LeftCall.{LeftCall}
use Rattle.query_orders.specs.contracts.answer.AnswerPartialEq.TheImpl as answer_eq
use Rattle.query_orders.specs.World.{World, start, call_of_client_at}
use Rattle.query_orders.specs.Orders.{is_end, is_stuck}
use Rattle.query_orders.specs.Answers.{Answered}
use Rattle.query_orders.specs.Ends.{StuckEnd, left_calls}
use Rattle.query_orders.specs.Laws.{calls_of_orders}
use Rattle.query_orders.specs.Explorations.{depth}
use Rattle.query_orders.specs.Found.{same_left}
use Rattle.command_explore.specs.declared.report.witness.Witness.{Witness}
use Rattle.command_explore.specs.declared.report.witness.Witness.TheVariants as witnesses
use Rattle.command_explore.specs.Clients.{calls_of_client, calls_of_each, first_clients}
use Rattle.command_explore.specs.Laws.{begins}
use Rattle.command_explore.specs.Numbers.{client_numbers_of}
use Rattle.command_explore.specs.Report.{exploration, exploration_from}
use Rattle.command_explore.specs.Text.{is_answer_of}
use Rattle.command_explore.specs.Witnesses.{answer_numbered, stuck_numbered}
use Rattle.command_explore.specs.Replays.{called, replayed_calls, run_replies, run_end, run_world, client_replies, reply_at, EndsWith, is_shown_waiting, waits_at_end, ComesToAnswer, EndsStuck, MakesOrder, explored, IsWitnessReplayed}
use Rattle.command_explore.proofs.Replay.Runs.{of_client, replies_run, state_run, same_clients, behind, answers, made_of, made_past}
use Rattle.command_explore.proofs.Replay.Accepted.{some_of}
use Rattle.command_explore.proofs.Replay.Told.{LastAnswer, Tells, Told, ToldStuck, answers_told, stuck_told}
use Rattle.command_explore.proofs.Replay.Numbers.{get-mapped, get-mapped_past, length-mapped}

-- ---- lists

-- lists with the same element at each place
same_places : {X : Type 0} (xs ys : List X) → ((i : ℕ) → slice_get xs i ≡ slice_get ys i) → xs ≡ ys
same_places [] [] h = refl
same_places [] (y ∷ ys) h = absurd (none-some y (h 0))
same_places (x ∷ xs) [] h = absurd (none-some x (sym (h 0)))
same_places (x ∷ xs) (y ∷ ys) h = ap (λ z. z ∷ xs) (same_Some x y (h 0)) ∙ ap (λ l. y ∷ l) (same_places xs ys (λ i. h (suc i)))

heads : {X : Type 0} (x y : X) (xs ys : List X) → x ∷ xs ≡ y ∷ ys → (x ≡ y) × (xs ≡ ys)
heads x y xs ys h = (cc, cc)

no_cons : {X Y : Type 0} (x : X) (xs : List X) → ◌≡◌ {A = List X} [] (x ∷ xs) → Y
no_cons x xs h = absurd (cc)

no_nil : {X Y : Type 0} (x : X) (xs : List X) → ◌≡◌ {A = List X} (x ∷ xs) [] → Y
no_nil x xs h = absurd (cc)

-- as many of one client where the clients are the same
as_many : {X Y : Type 0} (client : ℕ) (xs : List (ℕ × X)) (ys : List (ℕ × Y)) → map (λ (x : ℕ × X). x.0) xs ≡ map (λ (y : ℕ × Y). y.0) ys → length (of_client client xs) ≡ length (of_client client ys)
as_many client [] [] h = refl
as_many client [] (y ∷ ys) h = no_cons _ _ h
as_many client (x ∷ xs) [] h = no_nil _ _ h
as_many {X} {Y} client (x ∷ xs) (y ∷ ys) h =
    let (same, rest) = heads _ _ _ _ h in
    let i = as_many client xs ys rest in
    ap (λ c. length (map (λ (x : ℕ × X). x.1) (cond (c == client) (x ∷ filter (λ (x : ℕ × X). x.0 == client) xs) (filter (λ (x : ℕ × X). x.0 == client) xs)))) same
    ∙ elim (y.0 == client) as (λ b. length (map (λ (x : ℕ × X). x.1) (cond b (x ∷ filter (λ (x : ℕ × X). x.0 == client) xs) (filter (λ (x : ℕ × X). x.0 == client) xs)))
    ≡ length (map (λ (y : ℕ × Y). y.1) (cond b (y ∷ filter (λ (y : ℕ × Y). y.0 == client) ys) (filter (λ (y : ℕ × Y). y.0 == client) ys)))) [ true ↦ ap suc i | false ↦ i ]

less_or : (i n : ℕ) → (i < n) ⊎ (n ≤ i)
less_or i zero = inr (omega arith)
less_or zero (suc n) = inl (omega arith)
less_or (suc i) (suc n) = elim (less_or i n) as (λ _. (suc i < suc n) ⊎ (suc n ≤ suc i)) [ inl lt ↦ inl (omega (arith, lt)) | inr le ↦ inr (omega (arith, le)) ]

-- ---- calls with their clients

client_called : (client : ℕ) (calls : List CallView) → calls_of_client calls client ≡ of_client client (called calls)
client_called client [] = refl
client_called client (call ∷ calls) =
    let own = filter (λ (c : CallView). c.client == client) calls in
    elim (call.client == client) as (λ b. map (λ (c : CallView). c.call) (cond b (call ∷ own) own)
    ≡ map (λ (c : ℕ × Call). c.1) (cond b ((call.client, call.call) ∷ filter (λ (c : ℕ × Call). c.0 == client) (called calls)) (filter (λ (c : ℕ × Call). c.0 == client) (called calls)))) [
      | true ↦ ap (λ l. call.call ∷ l) (client_called client calls)
      | false ↦ client_called client calls
    ]

calls_called : (calls : List CallView) → map (λ (c : CallView). c.call) calls ≡ map (λ (c : ℕ × Call). c.1) (called calls)
calls_called [] = refl
calls_called (call ∷ calls) = ap (λ l. call.call ∷ l) (calls_called calls)

-- the replies to a client's calls
replies_of_client : (client : ℕ) (calls : List CallView) (rs : List (ℕ × Reply)) → map (λ (c : ℕ × Call). c.0) (called calls) ≡ map (λ (r : ℕ × Reply). r.0) rs
    → client_replies client calls (map (λ (r : ℕ × Reply). r.1) rs) ≡ of_client client rs
replies_of_client client [] [] h = refl
replies_of_client client [] (r ∷ rs) h = no_cons _ _ h
replies_of_client client (call ∷ calls) [] h = no_nil _ _ h
replies_of_client client (call ∷ calls) (r ∷ rs) h =
    let (same, rest) = heads _ _ _ _ h in
    let own = filter (λ (r : ℕ × Reply). r.0 == client) rs in
    let i = replies_of_client client calls rs rest in
    ap (λ c. cond (c == client) (r.1 ∷ client_replies client calls (map (λ (r : ℕ × Reply). r.1) rs)) (client_replies client calls (map (λ (r : ℕ × Reply). r.1) rs))) same
    ∙ elim (r.0 == client) as (λ b. cond b (r.1 ∷ client_replies client calls (map (λ (r : ℕ × Reply). r.1) rs)) (client_replies client calls (map (λ (r : ℕ × Reply). r.1) rs))
    ≡ map (λ (r : ℕ × Reply). r.1) (cond b (r ∷ own) own)) [
      | true ↦ ap (λ l. r.1 ∷ l) i
      | false ↦ i
    ]

-- ---- the run

module _ (setup : SetupView) (order : List ℕ) (kept : ℕ) (made : SetupView) (m : MakesOrder setup order kept made) where
  abbrev p : ProfileName
  p = setup.profile

  abbrev own : List (List Call)
  own = calls_of_each setup

  abbrev A : State
  A = boot p setup.plan

  abbrev rs : List (ℕ × Reply)
  rs = answers p own A order

  abbrev v : World
  v = behind p own A order

  boot_same : boot made.profile made.plan ≡ A
  boot_same = ap (λ q. boot q made.plan) m.profile ∙ ap (boot p) m.plan

  calls_same : replayed_calls made ≡ map (λ (c : ℕ × Call). c.1) (calls_of_orders p own (start own A) order)
  calls_same = calls_called made.calls ∙ ap (map (λ (c : ℕ × Call). c.1)) m.calls

  replies_are : run_replies made ≡ map (λ (r : ℕ × Reply). r.1) rs
  replies_are =
      ap (λ q. replies_of q (boot made.profile made.plan) (replayed_calls made)) m.profile
      ∙ (ap (λ B. replies_of p B (replayed_calls made)) boot_same ∙ (ap (replies_of p A) calls_same ∙ replies_run p own (start own A) order))

  end_is : run_end made ≡ v.kernel
  end_is =
      ap (λ q. state_after q (boot made.profile made.plan) (replayed_calls made)) m.profile
      ∙ (ap (λ B. state_after p B (replayed_calls made)) boot_same ∙ (ap (state_after p A) calls_same ∙ state_run p own (start own A) order))

  clients_same : map (λ (c : ℕ × Call). c.0) (called made.calls) ≡ map (λ (r : ℕ × Reply). r.0) rs
  clients_same = ap (map (λ (c : ℕ × Call). c.0)) m.calls ∙ same_clients p own (start own A) order

  reply_is : (client place : ℕ) → reply_at made client place ≡ slice_get (of_client client rs) place
  reply_is client place =
      ap (λ l. slice_get (client_replies client made.calls l) place) replies_are ∙ ap (λ l. slice_get l place) (replies_of_client client made.calls rs clients_same)

  last_is : (reply : Reply) → LastAnswer p own A order reply → EndsWith made reply
  last_is reply h = (
    map (λ (r : ℕ × Reply). r.1) h.0,
    replies_are ∙ (ap (map (λ (r : ℕ × Reply). r.1)) h.2 ∙ map-append (λ (r : ℕ × Reply). r.1) h.0 ((h.1, reply) ∷ [])),
  )

  waits_are : (client place : ℕ) → waits_at_end setup made client place ≡ is_shown_waiting (shown v.kernel) (call_of_client_at own client place)
  waits_are client place = ap (λ B. is_shown_waiting (shown B) (call_of_client_at own client place)) end_is

  own_length : length own ≡ setup.clients
  own_length = length-mapped (calls_of_client setup.calls) setup.clients

  -- how many calls a client has made
  made_at : (i : ℕ) → slice_get (map length (calls_of_each made)) i ≡ slice_get v.made i
  made_at i =
      let long = own_length in
      let clients = m.clients in
      slice_get-map length (calls_of_each made) i ∙ elim (less_or i setup.clients) as (λ _. option_map length (slice_get (calls_of_each made) i) ≡ slice_get v.made i) [
        | inl lt ↦
            ap (option_map length) (get-mapped (calls_of_client made.calls) made.clients i (omega (arith, lt, clients)))
            ∙ (ap (λ l. Some (length l)) (client_called i made.calls)
            ∙ (ap (λ n. Some n) (as_many i (called made.calls) rs clients_same) ∙ sym (made_of p own A order i (omega (arith, lt, long)))))
        | inr le ↦
            ap (option_map length) (get-mapped_past (calls_of_client made.calls) made.clients i (omega (arith, le, clients)))
            ∙ sym (made_past p own A order i (omega (arith, le, long)))
      ]

  made_same : map length (calls_of_each made) ≡ v.made
  made_same = same_places (map length (calls_of_each made)) v.made made_at

  ends_same : is_end own (run_world made) ≡ is_end own v
  ends_same = ap (λ l. is_end own (record { made = l; waits = []; kernel = run_end made })) made_same ∙ ap (λ B. is_end own (record { made = v.made; waits = []; kernel = B })) end_is

  stuck_same : is_stuck own (run_world made) ≡ is_stuck own v
  stuck_same = ap (λ l. is_stuck own (record { made = l; waits = []; kernel = run_end made })) made_same ∙ ap (λ B. is_stuck own (record { made = v.made; waits = []; kernel = B })) end_is

  comes : (client place : ℕ) (answer : Answer) → Tells p own A order client place answer → ComesToAnswer setup made client place answer
  comes client place (Replied reply) h = (reply_is client place ∙ h.0, last_is reply h.1)
  comes client place (Served reply) h = (reply_is client place ∙ h.0, last_is reply h.1, waits_are client place ∙ h.2)
  comes client place Cancelled h = (reply_is client place ∙ h.0, waits_are client place ∙ h.1)
  comes client place Waits h = (reply_is client place ∙ h.0, waits_are client place ∙ h.1, ends_same ∙ h.2)
  comes client place NotMade h = (reply_is client place ∙ h.0, ends_same ∙ h.1)

  ends_stuck : (left : List LeftCall) → is_stuck own v ≡ true → left ≡ left_calls own v.made (shown v.kernel) → EndsStuck setup made left
  ends_stuck left h e = (
    stuck_same ∙ h,
    e
        ∙ (ap (λ l. left_calls own l (shown v.kernel)) (sym made_same) ∙ ap (λ B. left_calls own (map length (calls_of_each made)) (shown B)) (sym end_is)),
  )

-- ---- what is told

each-answer : (P : Answered → Type 0) (numbers : List (List ℕ)) (number wanted place : ℕ) (answers : List Answered) (a : Answered) → Each P answers → answer_numbered numbers number wanted place answers ≡ Some a → P a
each-answer P numbers number wanted place [] a h e = absurd (none-some a e)
each-answer P numbers number wanted place (x ∷ xs) a h e =
    elim (is_answer_of numbers number x) as (λ b. cond b (cond (place == wanted) (Some x) (answer_numbered numbers number wanted (place + 1) xs)) (answer_numbered numbers number wanted place xs) ≡ Some a → P a) [
      | true ↦ elim (place == wanted) as (λ b. cond b (Some x) (answer_numbered numbers number wanted (place + 1) xs) ≡ Some a → P a) [
        | true ↦ λ e. subst P (same_Some x a e) h.0
        | false ↦ λ e. each-answer P numbers number wanted (place + 1) xs a h.1 e
      ]
      | false ↦ λ e. each-answer P numbers number wanted place xs a h.1 e
    ] e

each-stuck : (P : StuckEnd → Type 0) (wanted place : ℕ) (stuck : List StuckEnd) (s : StuckEnd) → Each P stuck → stuck_numbered wanted place stuck ≡ Some s → P s
each-stuck P wanted place [] s h e = absurd (none-some s e)
each-stuck P wanted place (x ∷ xs) s h e =
    elim (place == wanted) as (λ b. cond b (Some x) (stuck_numbered wanted (place + 1) xs) ≡ Some s → P s) [
      | true ↦ λ e. subst P (same_Some x s e) h.0
      | false ↦ λ e. each-stuck P wanted (place + 1) xs s h.1 e
    ] e

-- the kernel behind each order is one that runs reach
reached : (setup : SetupView) → IsPlan setup.profile setup.plan → (order : List ℕ) → IsReached setup.profile (behind setup.profile (calls_of_each setup) (boot setup.profile setup.plan) order).kernel
reached setup lawful order =
    let A = boot setup.profile setup.plan in
    record {
      plan = setup.plan;
      lawful = lawful;
      calls = map (λ (c : ℕ × Call). c.1) (calls_of_orders setup.profile (calls_of_each setup) (start (calls_of_each setup) A) order);
      is = sym (state_run setup.profile (calls_of_each setup) (start (calls_of_each setup) A) order);
    }

explored_told : (setup : SetupView) (first limit : ℕ) → IsPlan setup.profile setup.plan → Each (Told setup.profile (calls_of_each setup) (boot setup.profile setup.plan)) (explored setup first limit).answers
unfolding exploration exploration_from
explored_told setup first limit lawful =
    answers_told setup.profile (calls_of_each setup) (boot setup.profile setup.plan) (reached setup lawful) answer_eq.ghosts.eq (first_clients setup first)
    (depth setup.profile (calls_of_each setup) (begins setup.profile setup) (first_clients setup first) limit (length setup.calls + 1))

explored_stuck : (setup : SetupView) (first limit : ℕ) → Each (ToldStuck setup.profile (calls_of_each setup) (boot setup.profile setup.plan)) (explored setup first limit).stuck
unfolding exploration exploration_from
explored_stuck setup first limit =
    stuck_told setup.profile (calls_of_each setup) (boot setup.profile setup.plan) same_left (first_clients setup first)
    (depth setup.profile (calls_of_each setup) (begins setup.profile setup) (first_clients setup first) limit (length setup.calls + 1))

pub witness_replayed : (setup : SetupView) (first limit : ℕ) (witness : Witness) (order : List ℕ) (made : SetupView) → IsWitnessReplayed setup first limit witness order made
witness_replayed setup first limit (witnesses.Answer call place) order made lawful told makes =
    let p = setup.profile in
    let own = calls_of_each setup in
    let A = boot p setup.plan in
    let e = explored setup first limit in
    let (a, named, is) = some_of (λ (a : Answered). a.order) (answer_numbered (client_numbers_of setup) call place 1 e.answers) order told in
    let tells = each-answer (Told p own A) (client_numbers_of setup) call place 1 e.answers a (explored_told setup first limit lawful) named in
    (a, named, comes setup order call made makes a.client a.place a.answer (subst (λ l. Tells p own A l a.client a.place a.answer) is tells))
witness_replayed setup first limit (witnesses.Stuck place) order made lawful told makes =
    let p = setup.profile in
    let own = calls_of_each setup in
    let A = boot p setup.plan in
    let e = explored setup first limit in
    let (s, named, is) = some_of (λ (s : StuckEnd). s.order) (stuck_numbered place 1 e.stuck) order told in
    let tells = each-stuck (ToldStuck p own A) place 1 e.stuck s (explored_stuck setup first limit) named in
    let at = subst (λ l. (is_stuck own (behind p own A l) ≡ true) × (s.left ≡ left_calls own (behind p own A l).made (shown (behind p own A l).kernel))) is tells in
    (s, named, ends_stuck setup order 0 made makes s.left at.0 at.1)
