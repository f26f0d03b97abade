-- Objects are made where none was live: what is shown after.
use Rattle.std.proofs.Common.{◌≡◌, ◌≢◌, ℕ, ◌+◌, ◌≤◌, Bool, true, false, not, cond, ◌==◌, ◌&&◌, ◌||◌, List, [], ◌∷◌, filter, find, drop, length, Option, None, Some, refl, sym, ap, ◌∙◌, arith, unwrap_or, eq-eqb}
use Rattle.std.specs.List.{list_any, filter_map, AllByRecursion}
use Rattle.std.specs.FinMap.{FinMap, get, insert}
use Rattle.std.specs.Ordering.{nat_cmp}
use Rattle.std.proofs.lemmas.Bool.{false≢true, ne_eqb}
use Rattle.cap_core.specs.declared.profile.ProfileName.{ProfileName}
use Rattle.kernel_forest.specs.Entries.{is_full}
use Rattle.ipc_core.specs.Records.{Instance, SendRecord, ReceiveRecord, same_instance, waiting_list}
use Rattle.ipc_core.specs.declared.waiter.Waiter.{Waiter}
use Rattle.kernel_abstract.specs.declared.call.ThreadState.TheVariants.{Ready, Inactive}
use Rattle.kernel_abstract.specs.declared.invocation.NewObjects.{NewObjects}
use Rattle.kernel_abstract.specs.Shown.{ThreadView, threads_of, endpoints_of, endpoint_base, tcb_base, waiting_at, table}
use Rattle.kernel_abstract.specs.State.{State, endpoint_at, thread_at, sends_to, receives_of, first_of, is_sending, is_receiving, state_of, inbox_of, inbox_with, pair_of, last_completed, thread_view, shown, waiters, waiting_sends, waiting_receives}
use Rattle.kernel_abstract.specs.Retyping.{with_objects, new_bases}
use Rattle.kernel_abstract.specs.Step.{objects_made, born_at}
use Rattle.kernel_abstract.specs.Private.Effects.{done, objects_shown, new_thread, with_threads}
use Rattle.kernel_abstract.proofs.Messages.DeliveredSend.{pending}
use Rattle.kernel_abstract.proofs.Lists.Numbered.{tally, find_nothing}
use Rattle.kernel_abstract.proofs.Lists.Paired.{all_kept}
use Rattle.kernel_abstract.proofs.Lists.Tables.{get_table, get_after, same_nat_map}
use Rattle.kernel_abstract.proofs.Lists.Searches.{find_agrees, table_agrees}
use Rattle.kernel_abstract.proofs.Capabilities.Rearranged.{sends_once, receives_once}
use Rattle.kernel_abstract.proofs.Retype.LiveRetyped.{live-objects, endpoint_base-freed, tcb_base-freed}
use Rattle.kernel_abstract.proofs.Lists.Rising.{or_false, or_true, and_false, any_none, all_dropped, all_weaker}
use Rattle.kernel_abstract.proofs.Reached.Invariant.{Invariant, IsOpen, SendIsOpen, ReceiveIsOpen, IsShown, list_shown, receives_later, sends_later, receives_born_later, sends_born_later}

-- an object that was made before is not one of a later number
born_before : (m e : Instance) (n : ℕ) → m.birth ≤ n → e.birth ≡ n + 1 → same_instance m e ≡ false
born_before m e n le at = ap (λ (b : Bool). (m.base == e.base) && b) (ne_eqb m.birth e.birth (λ d. absurd (omega (arith, le, at, d)))) ∙ and_false (m.base == e.base)

-- lists in which nothing passes

filter_none : {X : Type 0} (p : X → Bool) (xs : List X) → AllByRecursion (λ (x : X). p x ≡ false) xs → filter p xs ≡ []
filter_none p [] h = refl
filter_none p (x ∷ xs) h = ap (λ (b : Bool). cond b (x ∷ filter p xs) (filter p xs)) h.0 ∙ filter_none p xs h.1

-- new threads in the map of threads
pub get_threads : (bases : List ℕ) (threads : FinMap nat_cmp ThreadView) (q : ℕ) → get (with_threads bases threads) q ≡ cond (list_any (λ k. q == k) bases) (Some new_thread) (get threads q)
get_threads [] threads q = refl
get_threads (base ∷ bases) threads q =
    get_threads bases (insert threads base new_thread) q
    ∙ ap (cond (list_any (λ k. q == k) bases) (Some new_thread)) (get_after threads base new_thread q)
    ∙ either (list_any (λ k. q == k) bases) (q == base)
  where
    either : (b c : Bool) → cond b (Some new_thread) (cond c (Some new_thread) (get threads q)) ≡ cond (c || b) (Some new_thread) (get threads q)
    either true true = refl
    either true false = refl
    either false true = refl
    either false false = refl

-- what is shown of a thread, by its instance
abbrev view_as : State → Instance → ThreadView
view_as A m = record { state = state_of A m; inbox = inbox_of A m }

module _ (p : ProfileName) (A : State) (new : NewObjects) (inv : Invariant A) (full : is_full new.untyped A.derivations ≡ true)
    (endpoints_new : (b : ℕ) → list_any (λ k. b == k) (new_bases endpoint_base p new) ≡ true → list_any (λ k. b == k) (endpoints_of A.derivations) ≡ false)
    (threads_new : (b : ℕ) → list_any (λ k. b == k) (new_bases tcb_base p new) ≡ true → list_any (λ k. b == k) (threads_of A.derivations) ≡ false) where
  abbrev after_made : State
  after_made = (objects_made p A new).state

  endpoints_live : (q : ℕ) → list_any (λ k. q == k) (endpoints_of (with_objects p new A.derivations)) ≡ (list_any (λ k. q == k) (new_bases endpoint_base p new) || list_any (λ k. q == k) (endpoints_of A.derivations))
  endpoints_live q = live-objects endpoint_base endpoint_base-freed p new A.derivations full q

  threads_live : (q : ℕ) → list_any (λ k. q == k) (threads_of (with_objects p new A.derivations)) ≡ (list_any (λ k. q == k) (new_bases tcb_base p new) || list_any (λ k. q == k) (threads_of A.derivations))
  threads_live q = live-objects tcb_base tcb_base-freed p new A.derivations full q

  -- what was live is not made
  old_endpoint : (b : ℕ) → list_any (λ k. b == k) (endpoints_of A.derivations) ≡ true → list_any (λ k. b == k) (new_bases endpoint_base p new) ≡ false
  old_endpoint b live = elim (list_any (λ k. b == k) (new_bases endpoint_base p new)) as (λ c. list_any (λ k. b == k) (new_bases endpoint_base p new) ≡ c → c ≡ false) [
    | true ↦ λ e. absurd (false≢true (sym (endpoints_new b e) ∙ live))
    | false ↦ λ e. refl
  ] refl

  old_thread : (b : ℕ) → list_any (λ k. b == k) (threads_of A.derivations) ≡ true → list_any (λ k. b == k) (new_bases tcb_base p new) ≡ false
  old_thread b live = elim (list_any (λ k. b == k) (new_bases tcb_base p new)) as (λ c. list_any (λ k. b == k) (new_bases tcb_base p new) ≡ c → c ≡ false) [
    | true ↦ λ e. absurd (false≢true (sym (threads_new b e) ∙ live))
    | false ↦ λ e. refl
  ] refl

  -- what is live after and was not made was live
  was_endpoint : (b : ℕ) → list_any (λ k. b == k) (new_bases endpoint_base p new) ≡ false → list_any (λ k. b == k) (endpoints_of (with_objects p new A.derivations)) ≡ true → list_any (λ k. b == k) (endpoints_of A.derivations) ≡ true
  was_endpoint b none live = sym (endpoints_live b ∙ ap (λ (c : Bool). c || list_any (λ k. b == k) (endpoints_of A.derivations)) none) ∙ live

  still_endpoint : (b : ℕ) → list_any (λ k. b == k) (endpoints_of A.derivations) ≡ true → list_any (λ k. b == k) (endpoints_of (with_objects p new A.derivations)) ≡ true
  still_endpoint b live = endpoints_live b ∙ ap (λ (c : Bool). list_any (λ k. b == k) (new_bases endpoint_base p new) || c) live ∙ or_true (list_any (λ k. b == k) (new_bases endpoint_base p new))

  still_thread : (b : ℕ) → list_any (λ k. b == k) (threads_of A.derivations) ≡ true → list_any (λ k. b == k) (threads_of (with_objects p new A.derivations)) ≡ true
  still_thread b live = threads_live b ∙ ap (λ (c : Bool). list_any (λ k. b == k) (new_bases tcb_base p new) || c) live ∙ or_true (list_any (λ k. b == k) (new_bases tcb_base p new))

  -- births
  same_endpoint : (b : ℕ) → list_any (λ k. b == k) (new_bases endpoint_base p new) ≡ false → endpoint_at after_made b ≡ endpoint_at A b
  same_endpoint b none = ap (λ (c : Bool). record { base = b; birth = cond c (A.count + 1) (A.endpoint_birth b) }) none

  same_thread : (b : ℕ) → list_any (λ k. b == k) (new_bases tcb_base p new) ≡ false → thread_at after_made b ≡ thread_at A b
  same_thread b none = ap (λ (c : Bool). record { base = b; birth = cond c (A.count + 1) (A.thread_birth b) }) none

  endpoint_born : (b : ℕ) → list_any (λ k. b == k) (new_bases endpoint_base p new) ≡ true → (endpoint_at after_made b).birth ≡ A.count + 1
  endpoint_born b made = ap (λ (c : Bool). cond c (A.count + 1) (A.endpoint_birth b)) made

  thread_born : (b : ℕ) → list_any (λ k. b == k) (new_bases tcb_base p new) ≡ true → (thread_at after_made b).birth ≡ A.count + 1
  thread_born b made = ap (λ (c : Bool). cond c (A.count + 1) (A.thread_birth b)) made

  born_by : (birth : ℕ → ℕ) (bases : List ℕ) (b : ℕ) → birth b ≤ A.count → born_at A bases birth b ≤ A.count + 1
  born_by birth bases b le = elim (list_any (λ k. b == k) bases) as (λ c. cond c (A.count + 1) (birth b) ≤ A.count + 1) [ true ↦ omega arith | false ↦ omega arith ]

  -- no record meets what was just made
  sends_none : (e : Instance) → e.birth ≡ A.count + 1 → sends_to A e ≡ []
  sends_none e at = filter_none _ A.sends (all_weaker _ _ (λ (s : SendRecord) w. ap (λ (b : Bool). b && not (A.is_cancelled s.number)) (born_before s.endpoint e A.count w.0 at)) A.sends inv.sends_born)

  receives_none : (e : Instance) → e.birth ≡ A.count + 1 → receives_of A e ≡ []
  receives_none e at = filter_none _ A.receives (all_weaker _ _ (λ (a : ReceiveRecord) w. ap (λ (b : Bool). b && not (A.is_cancelled a.number)) (born_before a.endpoint e A.count w.0 at)) A.receives inv.born)

  sends_nowhere : (m : Instance) → m.birth ≡ A.count + 1 → (b : ℕ) → is_sending after_made m b ≡ false
  sends_nowhere m at b = any_none _ (waiting_sends after_made (endpoint_at after_made b)) (all_dropped _ (length (receives_of A (endpoint_at after_made b))) (sends_to A (endpoint_at after_made b))
      (all_kept _ _ A.sends (all_weaker _ _ (λ (s : SendRecord) w. born_before s.thread m A.count w.1 at) A.sends inv.sends_born)))

  receives_nowhere : (m : Instance) → m.birth ≡ A.count + 1 → (b : ℕ) → is_receiving after_made m b ≡ false
  receives_nowhere m at b = any_none _ (waiting_receives after_made (endpoint_at after_made b)) (all_dropped _ (length (sends_to A (endpoint_at after_made b))) (receives_of A (endpoint_at after_made b))
      (all_kept _ _ A.receives (all_weaker _ _ (λ (a : ReceiveRecord) w. born_before a.thread m A.count w.1 at) A.receives inv.born)))

  inbox_none : (m : Instance) → m.birth ≡ A.count + 1 → inbox_of after_made m ≡ None
  inbox_none m at = ap (λ (qs : List ReceiveRecord). inbox_with (last_completed (filter_map (pair_of A) qs)))
      (filter_none _ A.receives (all_weaker _ _ (λ (a : ReceiveRecord) w. born_before a.thread m A.count w.1 at) A.receives inv.born))

  -- an endpoint that was made has no queue, and others keep theirs
  nobody_sends : (m : Instance) (b : ℕ) → list_any (λ k. b == k) (new_bases endpoint_base p new) ≡ true → is_sending after_made m b ≡ false
  nobody_sends m b made =
      let ss = sends_none (endpoint_at after_made b) (endpoint_born b made) in
      let qs = receives_none (endpoint_at after_made b) (endpoint_born b made) in
      λ i. list_any (λ (s : SendRecord). same_instance s.thread m) (drop (length (qs i)) (ss i))

  nobody_receives : (m : Instance) (b : ℕ) → list_any (λ k. b == k) (new_bases endpoint_base p new) ≡ true → is_receiving after_made m b ≡ false
  nobody_receives m b made =
      let ss = sends_none (endpoint_at after_made b) (endpoint_born b made) in
      let qs = receives_none (endpoint_at after_made b) (endpoint_born b made) in
      λ i. list_any (λ (a : ReceiveRecord). same_instance a.thread m) (drop (length (ss i)) (qs i))

  nobody_waits : (b : ℕ) → list_any (λ k. b == k) (new_bases endpoint_base p new) ≡ true → waiters after_made (endpoint_at after_made b) ≡ []
  nobody_waits b made =
      let ss = sends_none (endpoint_at after_made b) (endpoint_born b made) in
      let qs = receives_none (endpoint_at after_made b) (endpoint_born b made) in
      λ i. waiting_list (ss i) (qs i)

  none_pending : (m : Instance) (b : ℕ) → list_any (λ k. b == k) (new_bases endpoint_base p new) ≡ true → pending after_made m b ≡ 0
  none_pending m b made =
      let ss = sends_none (endpoint_at after_made b) (endpoint_born b made) in
      let qs = receives_none (endpoint_at after_made b) (endpoint_born b made) in
      λ i. tally (λ (s : SendRecord). same_instance s.thread m) (drop (length (qs i)) (ss i)) + tally (λ (a : ReceiveRecord). same_instance a.thread m) (drop (length (ss i)) (qs i))

  same_pending : (m : Instance) (b : ℕ) → list_any (λ k. b == k) (new_bases endpoint_base p new) ≡ false → pending after_made m b ≡ pending A m b
  same_pending m b none = ap (λ (e : Instance). tally (λ (s : SendRecord). same_instance s.thread m) (waiting_sends A e) + tally (λ (a : ReceiveRecord). same_instance a.thread m) (waiting_receives A e)) (same_endpoint b none)

  same_sending : (m : Instance) (b : ℕ) → list_any (λ k. b == k) (new_bases endpoint_base p new) ≡ false → is_sending after_made m b ≡ is_sending A m b
  same_sending m b none = ap (λ (e : Instance). list_any (λ (s : SendRecord). same_instance s.thread m) (waiting_sends A e)) (same_endpoint b none)

  same_receiving : (m : Instance) (b : ℕ) → list_any (λ k. b == k) (new_bases endpoint_base p new) ≡ false → is_receiving after_made m b ≡ is_receiving A m b
  same_receiving m b none = ap (λ (e : Instance). list_any (λ (a : ReceiveRecord). same_instance a.thread m) (waiting_receives A e)) (same_endpoint b none)

  by_new : (P : ℕ → Type 0) (b : ℕ) → (list_any (λ k. b == k) (new_bases endpoint_base p new) ≡ true → P b) → (list_any (λ k. b == k) (new_bases endpoint_base p new) ≡ false → P b) → P b
  by_new P b made none = elim (list_any (λ k. b == k) (new_bases endpoint_base p new)) as (λ c. list_any (λ k. b == k) (new_bases endpoint_base p new) ≡ c → P b) [ true ↦ made | false ↦ none ] refl

  -- a thread that was live shows what it did
  sending_found : (m : Instance) → find (is_sending after_made m) (endpoints_of (with_objects p new A.derivations)) ≡ find (is_sending A m) (endpoints_of A.derivations)
  sending_found m = find_agrees (is_sending A m) (is_sending after_made m) (endpoints_of A.derivations) (endpoints_of (with_objects p new A.derivations))
      (λ k live h. (still_endpoint k live, same_sending m k (old_endpoint k live) ∙ h))
      (λ k live h. by_new (λ b. (list_any (λ x. b == x) (endpoints_of A.derivations) ≡ true) × (is_sending A m b ≡ true)) k
      (λ made. absurd (false≢true (sym (nobody_sends m k made) ∙ h)))
      (λ none. (was_endpoint k none live, sym (same_sending m k none) ∙ h)))
      (sends_once A inv m)

  receiving_found : (m : Instance) → find (is_receiving after_made m) (endpoints_of (with_objects p new A.derivations)) ≡ find (is_receiving A m) (endpoints_of A.derivations)
  receiving_found m = find_agrees (is_receiving A m) (is_receiving after_made m) (endpoints_of A.derivations) (endpoints_of (with_objects p new A.derivations))
      (λ k live h. (still_endpoint k live, same_receiving m k (old_endpoint k live) ∙ h))
      (λ k live h. by_new (λ b. (list_any (λ x. b == x) (endpoints_of A.derivations) ≡ true) × (is_receiving A m b ≡ true)) k
      (λ made. absurd (false≢true (sym (nobody_receives m k made) ∙ h)))
      (λ none. (was_endpoint k none live, sym (same_receiving m k none) ∙ h)))
      (receives_once A inv m)

  inactive_kept : (m : Instance) → list_any (λ k. m.base == k) (new_bases tcb_base p new) ≡ false → after_made.is_inactive m ≡ A.is_inactive m
  inactive_kept m none = ap (λ (b : Bool). A.is_inactive m || (b && (m.birth == A.count + 1))) none ∙ or_false (A.is_inactive m)

  inactive_made : (m : Instance) → list_any (λ k. m.base == k) (new_bases tcb_base p new) ≡ true → m.birth ≡ A.count + 1 → after_made.is_inactive m ≡ true
  inactive_made m made at =
      ap (λ (b : Bool). A.is_inactive m || (b && (m.birth == A.count + 1))) made
      ∙ ap (λ (b : Bool). A.is_inactive m || b) (eq-eqb m.birth (A.count + 1) at)
      ∙ or_true (A.is_inactive m)

  view_kept : (q : ℕ) → list_any (λ k. q == k) (new_bases tcb_base p new) ≡ false → thread_view after_made q ≡ thread_view A q
  view_kept q none =
      ap (view_as after_made) (same_thread q none)
      ∙ (λ i. record {
        state = first_of (sending_found (thread_at A q) i) (receiving_found (thread_at A q) i) (cond (inactive_kept (thread_at A q) none i) Inactive Ready);
        inbox = inbox_of A (thread_at A q);
      })

  view_made : (q : ℕ) → list_any (λ k. q == k) (new_bases tcb_base p new) ≡ true → thread_view after_made q ≡ new_thread
  view_made q made =
      let m : Instance = thread_at after_made q in
      let at = thread_born q made in
      let sending : find (is_sending after_made m) (endpoints_of (with_objects p new A.derivations)) ≡ None = find_nothing (is_sending after_made m) (endpoints_of (with_objects p new A.derivations)) (λ k live. sends_nowhere m at k) in
      let receiving : find (is_receiving after_made m) (endpoints_of (with_objects p new A.derivations)) ≡ None = find_nothing (is_receiving after_made m) (endpoints_of (with_objects p new A.derivations)) (λ k live. receives_nowhere m at k) in
      let inactive : after_made.is_inactive m ≡ true = inactive_made m made at in
      let inbox = inbox_none m at in
      λ i. record { state = first_of (sending i) (receiving i) (cond (inactive i) Inactive Ready); inbox = inbox i }

  threads_shown : (q : ℕ) → get (table (threads_of (with_objects p new A.derivations)) (thread_view after_made)) q ≡ get (with_threads (new_bases tcb_base p new) (table (threads_of A.derivations) (thread_view A))) q
  threads_shown q =
      get_table (threads_of (with_objects p new A.derivations)) (thread_view after_made) q
      ∙ ap (λ (b : Bool). cond b (Some (thread_view after_made q)) None) (threads_live q)
      ∙ (elim (list_any (λ k. q == k) (new_bases tcb_base p new)) as (λ c. list_any (λ k. q == k) (new_bases tcb_base p new) ≡ c →
      cond (c || list_any (λ k. q == k) (threads_of A.derivations)) (Some (thread_view after_made q)) None ≡ cond c (Some new_thread) (get (table (threads_of A.derivations) (thread_view A)) q)) [
        | true ↦ λ made. ap Some (view_made q made)
        | false ↦ λ none. ap (λ (v : ThreadView). cond (list_any (λ k. q == k) (threads_of A.derivations)) (Some v) None) (view_kept q none) ∙ sym (get_table (threads_of A.derivations) (thread_view A) q)
      ]) refl
      ∙ sym (get_threads (new_bases tcb_base p new) (table (threads_of A.derivations) (thread_view A)) q)

  -- an endpoint that was not live shows no queue
  no_list : (q : ℕ) → list_any (λ k. q == k) (endpoints_of A.derivations) ≡ false → waiting_at (shown A) q ≡ []
  unfolding shown
  no_list q dead = ap (λ (o : Option (List Waiter)). unwrap_or o []) (get_table (endpoints_of A.derivations) (λ base. waiters A (endpoint_at A base)) q ∙ ap (λ (b : Bool). cond b (Some (waiters A (endpoint_at A q))) None) dead)

  lists_shown : (q : ℕ) → list_any (λ k. q == k) (endpoints_of (with_objects p new A.derivations)) ≡ true → waiters after_made (endpoint_at after_made q) ≡ waiting_at (shown A) q
  lists_shown q live = by_new (λ b. list_any (λ k. b == k) (endpoints_of (with_objects p new A.derivations)) ≡ true → waiters after_made (endpoint_at after_made b) ≡ waiting_at (shown A) b) q
      (λ made there. nobody_waits q made ∙ sym (no_list q (endpoints_new q made)))
      (λ none there. ap (waiters A) (same_endpoint q none) ∙ sym (list_shown A q (was_endpoint q none there)))
      live

  pub made_steps : IsShown (done (objects_shown p (shown A) new)) (objects_made p A new)
  unfolding shown
  made_steps =
      let rows = same_nat_map (table (threads_of (with_objects p new A.derivations)) (thread_view after_made)) (with_threads (new_bases tcb_base p new) (table (threads_of A.derivations) (thread_view A))) threads_shown in
      let lists = table_agrees (endpoints_of (with_objects p new A.derivations)) (endpoints_of (with_objects p new A.derivations)) (waiting_at (shown A)) (λ base. waiters after_made (endpoint_at after_made base)) (λ q. refl) lists_shown in
      (refl, λ i. record { derivations = with_objects p new A.derivations; threads = sym rows i; endpoints = sym lists i })

  at_most_one : (m : Instance) (b : ℕ) → list_any (λ k. b == k) (endpoints_of (with_objects p new A.derivations)) ≡ true → pending after_made m b ≤ 1
  at_most_one m b live = by_new (λ q. list_any (λ k. q == k) (endpoints_of (with_objects p new A.derivations)) ≡ true → pending after_made m q ≤ 1) b
      (λ made there. let z = none_pending m b made in omega (arith, z))
      (λ none there. let same = same_pending m b none in let le = inv.once m b (was_endpoint b none there) in omega (arith, same, le))
      live

  -- of two endpoints one at most
  one_of_two : (m : Instance) (b c : ℕ) → list_any (λ k. b == k) (endpoints_of (with_objects p new A.derivations)) ≡ true → list_any (λ k. c == k) (endpoints_of (with_objects p new A.derivations)) ≡ true → b ≢ c → pending after_made m b + pending after_made m c ≤ 1
  one_of_two m b c live live' ne = by_new (λ q. q ≡ b → pending after_made m b + pending after_made m c ≤ 1) b
      (λ made _. let z = none_pending m b made in let le = at_most_one m c live' in omega (arith, z, le))
      (λ none _. by_new (λ q. q ≡ c → pending after_made m b + pending after_made m c ≤ 1) c
      (λ made _. let z = none_pending m c made in let le = at_most_one m b live in omega (arith, z, le))
      (λ none' _. let same = same_pending m b none in let same' = same_pending m c none' in let le = inv.alone m b c (was_endpoint b none live) (was_endpoint c none' live') ne in omega (arith, same, same', le))
      refl)
      refl

  pub inv_made : Invariant after_made
  inv_made = record {
    fresh = λ n lt. inv.fresh n (omega arith);
    numbered = receives_later A.count A.receives inv.numbered;
    sends_numbered = sends_later A.count A.sends inv.sends_numbered;
    rising = inv.rising;
    endpoint_births = λ b. born_by A.endpoint_birth (new_bases endpoint_base p new) b (inv.endpoint_births b);
    thread_births = λ b. born_by A.thread_birth (new_bases tcb_base p new) b (inv.thread_births b);
    born = receives_born_later A.count A.receives inv.born;
    sends_born = sends_born_later A.count A.sends inv.sends_born;
    younger = inv.younger;
    sends_younger = inv.sends_younger;
    sends_rising = inv.sends_rising;
    unshared = inv.unshared;
    receives_open = λ e. all_weaker (ReceiveIsOpen A) (ReceiveIsOpen after_made) (λ a o. still_open a.endpoint a.thread o) (waiting_receives A e) (inv.receives_open e);
    sends_open = λ e. all_weaker (SendIsOpen A) (SendIsOpen after_made) (λ s o. still_open s.endpoint s.thread o) (waiting_sends A e) (inv.sends_open e);
    once = at_most_one;
    alone = one_of_two;
  }
    where
      still_open : (e m : Instance) → IsOpen A e m → IsOpen after_made e m
      still_open e m o = record {
        endpoint_is = o.endpoint_is ∙ sym (same_endpoint e.base (old_endpoint e.base o.endpoint_live));
        endpoint_live = still_endpoint e.base o.endpoint_live;
        thread_is = o.thread_is ∙ sym (same_thread m.base (old_thread m.base o.thread_live));
        thread_live = still_thread m.base o.thread_live;
        awake = inactive_kept m (old_thread m.base o.thread_live) ∙ o.awake;
      }
