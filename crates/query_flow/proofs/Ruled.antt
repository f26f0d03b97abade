-- What is excluded where the tests say so, whatever calls are made.
use Rattle.std.proofs.Common.{◌≡◌, ℕ, ◌⊎◌, inl, inr, Bool, true, false, cond, not, ◌==◌, ◌&&◌, ◌||◌, List, Option, Some, None, option_map, Ok, refl, sym, ap, subst, ◌∙◌}
use Rattle.std.specs.List.{list_any, filter_map, Contains, AllByRecursion as Each}
use Rattle.std.proofs.lemmas.Bool.{false≢true, eqb-true}
use Rattle.cap_core.specs.declared.profile.ProfileName.{ProfileName}
use Rattle.cap_core.specs.declared.capability.Cap.{Cap}
use Rattle.cap_core.specs.declared.capability.Cap.TheVariants.{Null, Untyped, Endpoint, CNode, Tcb}
use Rattle.cap_core.specs.Rights.{write_bit, read_bit}
use Rattle.kernel_forest.specs.Forest.{Forest}
use Rattle.kernel_forest.specs.Entries.{Entry, cap_at}
use Rattle.kernel_forest.proofs.Trees.Forests.{each-contained, each-weaker}
use Rattle.kernel_delete.proofs.Members.{both_true, either_true, any_of, all_in}
use Rattle.cspace_core.specs.Resolution.{is_cnode}
use Rattle.ipc_core.specs.Records.{Instance, SendRecord, ReceiveRecord}
use Rattle.kernel_abstract.specs.declared.call.Call.{Call}
use Rattle.kernel_abstract.specs.declared.call.ThreadState.{ThreadState}
use Rattle.kernel_abstract.specs.declared.call.ThreadState.TheVariants.{Sending, Receiving}
use Rattle.kernel_abstract.specs.declared.call.Reply.{Reply}
use Rattle.kernel_abstract.specs.declared.call.Reply.TheVariants.{Done, Delivered, Waiting, Dropped, Empty, Refused}
use Rattle.kernel_abstract.specs.Lookups.{slot_named}
use Rattle.kernel_abstract.specs.Shown.{Shown, ThreadView, threads_of, state_at}
use Rattle.kernel_abstract.specs.State.{State, shown, state_of, thread_at, thread_view, waiting_sends, waiting_receives}
use Rattle.kernel_abstract.specs.Step.{state_after, replies_of}
use Rattle.kernel_abstract.specs.Reached.{IsReached}
use Rattle.kernel_abstract.proofs.Lists.Tables.{get_table}
use Rattle.kernel_abstract.proofs.Cancelling.Waiting.{senders_told, receivers_told}
use Rattle.kernel_abstract.proofs.Checks.Walked.{word_passed}
use Rattle.kernel_abstract.proofs.Reached.Invariant.{SendIsOpen, ReceiveIsOpen}
use Rattle.kernel_abstract.proofs.Reached.Simulation.{reached_inv}
use Rattle.query_parts.proofs.Going.{Tells}
use Rattle.query_parts.proofs.Joining.{find_some}
use Rattle.query_flow.specs.declared.listed.MayStand.{MayStand}
use Rattle.query_flow.specs.declared.listed.Caller.{Caller}
use Rattle.query_flow.specs.declared.listed.Flows.{Flows}
use Rattle.query_flow.specs.declared.excluded.Spot.{Spot}
use Rattle.query_flow.specs.declared.excluded.Bound.{Bound}
use Rattle.query_flow.specs.Flow.{Flow, HoldsWhatMayStand, IsSettled, IsSettledFor}
use Rattle.query_flow.specs.Laws.{MayUseByFlow}
use Rattle.query_flow.specs.Listed.{is_among, set_at, stands_for_cap, caller_of, caller_names, may_have_slots, is_set_settled, flow_of_lists, IsFlow}
use Rattle.query_flow.specs.Excluded.{is_number_listed, IsOfOthers, TellsNone, PassesNoneEver, NamesNone, NamesNoneEver, ChangesNone, ChangesNoneEver}
use Rattle.query_flow.specs.Apart.{sets_named, nodes_in, one_at, spot_in, send_spot, receive_spot, send_spots, receive_spots, are_free, are_kept, names_no_thread, names_no_node, is_inactive, none_names, stays_idle, stay_idle, either_idle, are_silent, is_trusted_or_idle, trusts_none_else, IsTested}
use Rattle.query_flow.proofs.Found.{word_lies, node_lies}
use Rattle.query_flow.proofs.Idle.{NoneWakes, IsKept, IsAllowed, idle_shown, kept_after, no_change}
use Rattle.query_flow.proofs.Told.{MaySend, MayReceive, all_told}
use Rattle.query_flow.proofs.Settled.{stands_by, with_slots, caller_settled, settled_by_test, held_of_told}
use Rattle.query_flow.proofs.Apart.{listed_among, lies_at, none_both, spot_among, spot_last, named_in, noded_in, used_spot}
use Rattle.query_flow.proofs.Quiet.{quiet_step}

not_cond : (b : Bool) (x : Spot) → b ≡ false → cond b None (Some x) ≡ Some x
not_cond false x h = refl
not_cond true x h = absurd (false≢true (sym h))

not_both : (a b : Bool) → not (a && b) ≡ true → a ≡ true → b ≡ true → ⊥
not_both true true h k l = false≢true h
not_both true false h k l = false≢true l
not_both false b h k l = false≢true k

neither : (a b : Bool) → not (a || b) ≡ true → (a ≡ false) × (b ≡ false)
neither true b h = absurd (false≢true h)
neither false true h = absurd (false≢true h)
neither false false h = (refl, refl)

-- what is shown of a live thread
state_told : (A : State) (t : Instance) → t ≡ thread_at A t.base → list_any (λ k. t.base == k) (threads_of A.derivations) ≡ true →
    state_at (shown A) t.base ≡ Some (state_of A t)
unfolding shown
state_told A t same live =
    ap (option_map (λ (x : ThreadView). x.state))
    (get_table (threads_of A.derivations) (thread_view A) t.base ∙ ap (λ b. cond b (Some (thread_view A t.base)) None) live)
    ∙ ap (λ (x : Instance). Some (state_of A x)) (sym same)

pub is_tested : (p : ProfileName) (trusted : List ℕ) (v : Shown) (bound : Bound) → trusts_none_else trusted bound ≡ true →
    stay_idle p bound.flows v bound.idle.items ≡ true → IsFlow p bound.flows v → IsTested p trusted v bound
is_tested p trusted v bound known idle is = record { known = known; idle = idle; flow = is }

-- one that is among those known, and is not of these, is of the others
other_known : (trusted idle : List ℕ) (thread : ℕ) → is_trusted_or_idle trusted idle thread ≡ true → is_among trusted thread ≡ false → is_among idle thread ≡ true
other_known trusted idle thread h free = elim (either_true (is_among trusted thread) (is_among idle thread) h) [
  | inl among ↦ absurd (false≢true (sym free ∙ among))
  | inr rest ↦ rest
]

module _ (p : ProfileName) (trusted : List ℕ) (v : Shown) (bound : Bound) (tested : IsTested p trusted v bound) where
  abbrev flows : Flows
  flows = bound.flows

  abbrev idle : ℕ → Bool
  idle = is_among bound.idle.items

  abbrev flow : Flow
  flow = flow_of_lists p flows

  settles : IsSettled p flow
  settles = settled_by_test p flows.memory.items flows.standing.items flows.callers.items flows.trusted.items tested.flow.settled

  -- a thread that is not trusted, by the flow it is trusted, is idle
  idle_of : (thread : ℕ) → is_number_listed trusted thread ≡ false → flow.trusted thread ≡ true → idle thread ≡ true
  idle_of thread h among =
      let there = any_of (λ k. k == thread) flows.trusted.items among in
      let same = eqb-true there.0 thread there.1.1 in
      other_known trusted bound.idle.items thread
      (subst (λ k. is_trusted_or_idle trusted bound.idle.items k ≡ true) same (all_in (is_trusted_or_idle trusted bound.idle.items) flows.trusted.items there.0 tested.known there.1.0))
      (sym (listed_among trusted thread) ∙ h)

  is_idle : (thread : ℕ) → idle thread ≡ true → stays_idle p flows v thread ≡ true
  is_idle thread is =
      let there = any_of (λ k. k == thread) bound.idle.items is in
      subst (λ k. stays_idle p flows v k ≡ true) (eqb-true there.0 thread there.1.1) (all_in (stays_idle p flows v) bound.idle.items there.0 tested.idle there.1.0)

  inactive_of : (thread : ℕ) → idle thread ≡ true → is_inactive (state_at v thread) ≡ true
  inactive_of thread is = (both_true (is_inactive (state_at v thread)) (none_names p flows thread) (is_idle thread is)).0

  not_named : (names : List ℕ) (set thread : ℕ) → is_among names set ≡ true → flow.may set (Tcb thread) ≡ true → names_no_thread p names flows.standing.items thread ≡ true → ⊥
  not_named names set thread named may none =
      let s = stands_by p flows.memory.items flows.standing.items flows.callers.items flows.trusted.items set (Tcb thread) refl may in
      not_both (is_among names s.0.set) (stands_for_cap p s.0.what (Tcb thread))
      (all_in (λ (x : MayStand). not (is_among names x.set && stands_for_cap p x.what (Tcb thread))) flows.standing.items s.0 none s.1.0)
      (subst (λ n. is_among names n ≡ true) (sym s.1.1.0) named) s.1.1.1

  none_wakes_by : (c set thread : ℕ) (o : Option Caller) → caller_of flows.callers.items c ≡ o → caller_names o set ≡ true → flow.may set (Tcb thread) ≡ true → idle thread ≡ true → ⊥
  none_wakes_by c set thread None at named may is = false≢true named
  none_wakes_by c set thread (Some k) at named may is =
      let there = find_some (λ (x : Caller). x.set == c) flows.callers.items k at in
      not_named k.names.items set thread named may
      (all_in (λ (x : Caller). names_no_thread p x.names.items flows.standing.items thread) flows.callers.items k
      (both_true (is_inactive (state_at v thread)) (none_names p flows thread) (is_idle thread is)).1 there.0)

  none_wakes : NoneWakes flow idle
  none_wakes c set thread named may is = none_wakes_by c set thread (caller_of flows.callers.items c) refl named may is

  -- one that is neither trusted nor idle
  free_awake : (thread : ℕ) → is_among trusted thread ≡ false → idle thread ≡ false → flow.trusted thread ≡ false
  free_awake thread free awake = by (flow.trusted thread) refl
    where
      by : (t : Bool) → flow.trusted thread ≡ t → flow.trusted thread ≡ false
      by false e = e
      by true e = absurd (false≢true (sym awake ∙ idle_of thread (listed_among trusted thread ∙ free) e))

  abbrev IsDone : Call → Type 0
  IsDone = IsAllowed p flow settles idle none_wakes

  allowed_of : (calls : List Call) → Each (IsOfOthers trusted) calls → Each IsDone calls
  allowed_of calls of = each-weaker (IsOfOthers trusted) IsDone (λ call is. by call is) calls of
    where
      by_trust : (call : Call) (t : Bool) → flow.trusted call.thread ≡ t → is_number_listed trusted call.thread ≡ false → IsDone call
      by_trust call true among free = inl (idle_of call.thread free among)
      by_trust call false other free = inr (inl other)

      by : (call : Call) → IsOfOthers trusted call → IsDone call
      by call (inl free) = by_trust call (flow.trusted call.thread) refl free
      by call (inr passes) = inr (inr passes)

  module _ (A : State) (reached : IsReached p A) (shows : v ≡ shown A) where
    held : HoldsWhatMayStand flow A.derivations
    held = held_of_told p flows v tested.flow.told A shows

    kept : IsKept p flow settles idle none_wakes A
    kept = record {
      held = held;
      inactive = λ thread is. idle_shown A thread (subst (λ (w : Shown). is_inactive (state_at w thread) ≡ true) shows (inactive_of thread is));
    }

    kept_then : (calls : List Call) → Each (IsOfOthers trusted) calls → IsKept p flow settles idle none_wakes (state_after p A calls)
    kept_then calls of = kept_after p flow settles idle none_wakes A calls reached kept (allowed_of calls of)

    held_after : (calls : List Call) → Each (IsOfOthers trusted) calls → HoldsWhatMayStand flow (state_after p A calls).derivations
    held_after calls of = (kept_then calls of).held

    -- ---- a message

    sends_at : (s : SendRecord) → Contains (waiting_sends A s.endpoint) s → state_at v s.thread.base ≡ Some (Sending s.endpoint.base)
    sends_at s there =
        let inv = reached_inv p A reached in
        let stands = each-contained (SendIsOpen A) (waiting_sends A s.endpoint) s (inv.sends_open s.endpoint) there in
        let does = each-contained (λ (x : SendRecord). state_of A x.thread ≡ Sending s.endpoint.base) (waiting_sends A s.endpoint) s (senders_told A inv s.endpoint) there in
        ap (λ (w : Shown). state_at w s.thread.base) shows ∙ state_told A s.thread stands.thread_is stands.thread_live ∙ ap (λ (x : ThreadState). Some x) does

    receives_at : (a : ReceiveRecord) → Contains (waiting_receives A a.endpoint) a → state_at v a.thread.base ≡ Some (Receiving a.endpoint.base)
    receives_at a there =
        let inv = reached_inv p A reached in
        let stands = each-contained (ReceiveIsOpen A) (waiting_receives A a.endpoint) a (inv.receives_open a.endpoint) there in
        let does = each-contained (λ (x : ReceiveRecord). state_of A x.thread ≡ Receiving a.endpoint.base) (waiting_receives A a.endpoint) a (receivers_told A inv a.endpoint) there in
        ap (λ (w : Shown). state_at w a.thread.base) shows ∙ state_told A a.thread stands.thread_is stands.thread_live ∙ ap (λ (x : ThreadState). Some x) does

    module _ (by : List ℕ) (from to : ℕ) (silent : are_silent trusted bound v by from to ≡ true) where
      abbrev sends : List Spot
      sends = send_spots (sets_named flows from) flows.standing.items v by from

      abbrev receives : List Spot
      receives = receive_spots (sets_named flows to) flows.standing.items v by to

      -- a thread that is idle neither sends nor receives
      never_sends : idle from ≡ true → (s : SendRecord) → Contains (waiting_sends A s.endpoint) s ⊎ MaySend p flow settles idle none_wakes A s.endpoint.base s.thread.base s.badge → s.thread.base ≡ from → ⊥
      never_sends is s (inl waits) own = false≢true (ap is_inactive (sym (sends_at s waits)) ∙ inactive_of s.thread.base (ap idle own ∙ is))
      never_sends is s (inr may) own = false≢true (sym may.0 ∙ ap idle own ∙ is)

      never_hears : idle to ≡ true → (a : ReceiveRecord) → Contains (waiting_receives A a.endpoint) a ⊎ MayReceive p flow settles idle none_wakes A a.endpoint.base a.thread.base → a.thread.base ≡ to → ⊥
      never_hears is a (inl waits) own = false≢true (ap is_inactive (sym (receives_at a waits)) ∙ inactive_of a.thread.base (ap idle own ∙ is))
      never_hears is a (inr may) own = false≢true (sym may.0 ∙ ap idle own ∙ is)

      sent : is_among trusted from ≡ false → (s : SendRecord) → Contains (waiting_sends A s.endpoint) s ⊎ MaySend p flow settles idle none_wakes A s.endpoint.base s.thread.base s.badge → s.thread.base ≡ from →
          is_among by s.endpoint.base ≡ false → list_any (lies_at s.endpoint.base) sends ≡ true
      sent free s (inl waits) own other =
          let state = ap (state_at v) (sym own) ∙ sends_at s waits in
          spot_last s.endpoint.base (filter_map (spot_in write_bit by (sets_named flows from)) flows.standing.items) (send_spot by (state_at v from))
          (ap (send_spot by) state ∙ not_cond (is_among by s.endpoint.base) (one_at s.endpoint.base) other)
      sent free s (inr may) own other =
          spot_among s.endpoint.base (filter_map (spot_in write_bit by (sets_named flows from)) flows.standing.items) (send_spot by (state_at v from))
          (used_spot p flows write_bit by from s.endpoint.base s.badge other
          (subst (λ t. MayUseByFlow flow write_bit (flow.set_of t) s.endpoint.base s.badge) own
          (may.1 (free_awake s.thread.base (ap (is_among trusted) own ∙ free) may.0))))

      received : is_among trusted to ≡ false → (a : ReceiveRecord) → Contains (waiting_receives A a.endpoint) a ⊎ MayReceive p flow settles idle none_wakes A a.endpoint.base a.thread.base → a.thread.base ≡ to →
          is_among by a.endpoint.base ≡ false → list_any (lies_at a.endpoint.base) receives ≡ true
      received free a (inl waits) own other =
          let state = ap (state_at v) (sym own) ∙ receives_at a waits in
          spot_last a.endpoint.base (filter_map (spot_in read_bit by (sets_named flows to)) flows.standing.items) (receive_spot by (state_at v to))
          (ap (receive_spot by) state ∙ not_cond (is_among by a.endpoint.base) (one_at a.endpoint.base) other)
      received free a (inr may) own other =
          let may_hear = may.1 (free_awake a.thread.base (ap (is_among trusted) own ∙ free) may.0) in
          spot_among a.endpoint.base (filter_map (spot_in read_bit by (sets_named flows to)) flows.standing.items) (receive_spot by (state_at v to))
          (used_spot p flows read_bit by to a.endpoint.base may_hear.0 other
          (subst (λ t. MayUseByFlow flow read_bit (flow.set_of t) a.endpoint.base may_hear.0) own may_hear.1))

      module _ (s : SendRecord) (a : ReceiveRecord) (same : a.endpoint ≡ s.endpoint)
          (is_sent : Contains (waiting_sends A s.endpoint) s ⊎ MaySend p flow settles idle none_wakes A s.endpoint.base s.thread.base s.badge)
          (is_received : Contains (waiting_receives A a.endpoint) a ⊎ MayReceive p flow settles idle none_wakes A a.endpoint.base a.thread.base)
          (own : s.thread.base ≡ from) (other : a.thread.base ≡ to) (else : is_among by s.endpoint.base ≡ false) where
        none_kept : are_free trusted from to ≡ true → are_kept flows v by from to ≡ true → ⊥
        none_kept free apart =
            let both = neither (is_among trusted from) (is_among trusted to) free in
            let at : a.endpoint.base ≡ s.endpoint.base = ap (λ (e : Instance). e.base) same in
            none_both s.endpoint.base sends receives apart (sent both.0 s is_sent own else)
            (subst (λ n. list_any (lies_at n) receives ≡ true) at (received both.1 a is_received other (ap (is_among by) at ∙ else)))

        none_silent : ⊥
        none_silent = elim (either_true (either_idle bound.idle.items from to) (are_free trusted from to && are_kept flows v by from to) silent) [
          | inl one ↦ elim (either_true (idle from) (idle to) one) [
            | inl first ↦ never_sends first s is_sent own
            | inr second ↦ never_hears second a is_received other
          ]
          | inr kept ↦ let both = both_true (are_free trusted from to) (are_kept flows v by from to) kept in none_kept both.0 both.1
        ]

      -- an endpoint of both is named
      of_both : (s : SendRecord) (a : ReceiveRecord) → a.endpoint ≡ s.endpoint →
          Contains (waiting_sends A s.endpoint) s ⊎ MaySend p flow settles idle none_wakes A s.endpoint.base s.thread.base s.badge →
          Contains (waiting_receives A a.endpoint) a ⊎ MayReceive p flow settles idle none_wakes A a.endpoint.base a.thread.base →
          s.thread.base ≡ from → a.thread.base ≡ to → (b : Bool) → is_among by s.endpoint.base ≡ b → is_number_listed by s.endpoint.base ≡ true
      of_both s a same is_sent is_received own other true named = listed_among by s.endpoint.base ∙ named
      of_both s a same is_sent is_received own other false else = absurd (none_silent s a same is_sent is_received own other else)

      told : (reply : Reply) → Tells p A (MaySend p flow settles idle none_wakes A) (MayReceive p flow settles idle none_wakes A) reply → TellsNone by from to reply
      told Done d = tt
      told Waiting d = tt
      told Dropped d = tt
      told Empty d = tt
      told (Refused refusal) d = tt
      told (Delivered endpoint sender receiver badge message) d =
          subst (TellsNone by from to) (sym d.told)
          (λ own other. of_both d.send d.receive d.same_endpoint d.sent d.received own other (is_among by d.send.endpoint.base) refl)

      all_kept : (calls : List Call) → Each (IsOfOthers trusted) calls → Each (TellsNone by from to) (replies_of p A calls)
      all_kept calls of =
          each-weaker (Tells p A (MaySend p flow settles idle none_wakes A) (MayReceive p flow settles idle none_wakes A)) (TellsNone by from to) told (replies_of p A calls)
          (all_told p flow settles idle none_wakes A calls reached kept (allowed_of calls of))

  pub none_passed : (by : List ℕ) (from to : ℕ) → are_silent trusted bound v by from to ≡ true → PassesNoneEver p trusted v by from to
  none_passed by from to silent A reached shows calls of = all_kept A reached shows by from to silent calls of

  -- ---- what words lead to

  module _ (from : ℕ) (is : is_set_settled p flows.memory.items flows.standing.items (caller_of flows.callers.items (set_at flows.memory.items from)) ≡ true) where
    caller : IsSettledFor p flow (flow.set_of from)
    caller =
        caller_settled p flows.memory.items flows.standing.items flows.callers.items flows.trusted.items (flow.set_of from)
        (caller_of flows.callers.items (flow.set_of from)) refl is

    named_at : (f : Forest Entry) → HoldsWhatMayStand flow f → (word slot : ℕ) → slot_named p f (cap_at f from) word ≡ Ok slot → is_among (sets_named flows from) (flow.set_of slot) ≡ true
    named_at f held word slot h = named_in p flows from (flow.set_of slot) (word_lies p flow (flow.set_of from) caller f held from word slot refl h)

    no_thread : (to : ℕ) → names_no_thread p (sets_named flows from) flows.standing.items to ≡ true → (f : Forest Entry) → HoldsWhatMayStand flow f → NamesNone p f from to
    no_thread to none f held word slot h cap =
        let may : flow.may (flow.set_of slot) (Tcb to) ≡ true = subst (λ (it : Cap). flow.may (flow.set_of slot) it ≡ true) cap (held slot) in
        not_named (sets_named flows from) (flow.set_of slot) to (named_at f held word slot h) may none

    node_at : (f : Forest Entry) → HoldsWhatMayStand flow f → (word slot : ℕ) → slot_named p f (cap_at f from) word ≡ Ok slot → is_cnode (cap_at f slot) ≡ true →
        is_among (nodes_in flows from) (flow.set_of slot) ≡ true
    node_at f held word slot h node = noded_in p flows from (flow.set_of slot) (node_lies p flow (flow.set_of from) caller f held from word slot refl h node)

    no_node_at : (set : ℕ) (cap : Cap) → names_no_node (nodes_in flows from) flows.standing.items ≡ true → is_among (nodes_in flows from) set ≡ true → flow.may set cap ≡ true → is_cnode cap ≡ true → ⊥
    no_node_at set (CNode base radix guard) none named may node =
        let s = stands_by p flows.memory.items flows.standing.items flows.callers.items flows.trusted.items set (CNode base radix guard) refl may in
        not_both (is_among (nodes_in flows from) s.0.set) (may_have_slots s.0.what)
        (all_in (λ (x : MayStand). not (is_among (nodes_in flows from) x.set && may_have_slots x.what)) flows.standing.items s.0 none s.1.0)
        (subst (λ n. is_among (nodes_in flows from) n ≡ true) (sym s.1.1.0) named) (with_slots p s.0.what base radix guard s.1.1.1)
    no_node_at set Null none named may node = false≢true node
    no_node_at set (Untyped base bits free) none named may node = false≢true node
    no_node_at set (Endpoint base badge rights) none named may node = false≢true node
    no_node_at set (Tcb base) none named may node = false≢true node

    no_node : names_no_node (nodes_in flows from) flows.standing.items ≡ true → (f : Forest Entry) → HoldsWhatMayStand flow f → (word slot : ℕ) → slot_named p f (cap_at f from) word ≡ Ok slot →
        is_cnode (cap_at f slot) ≡ true → ⊥
    no_node none f held word slot h node = no_node_at (flow.set_of slot) (cap_at f slot) none (node_at f held word slot h node) (held slot) node

    still_by : names_no_node (nodes_in flows from) flows.standing.items ≡ true → (B : State) → HoldsWhatMayStand flow B.derivations → ChangesNone p B from
    still_by none B held call own =
        quiet_step p B call
        (λ word n slot h node. no_node none B.derivations held n slot
        (subst (λ t. slot_named p B.derivations (cap_at B.derivations t) n ≡ Ok slot) own (word_passed p B.derivations word call.thread n slot h)) node)

  pub none_named : (from to : ℕ) →
      is_set_settled p flows.memory.items flows.standing.items (caller_of flows.callers.items (set_at flows.memory.items from)) ≡ true →
      names_no_thread p (sets_named flows from) flows.standing.items to ≡ true → NamesNoneEver p trusted v from to
  none_named from to is none A reached shows calls of = no_thread from is to none (state_after p A calls).derivations (held_after A reached shows calls of)

  pub none_changed : (from : ℕ) →
      is_set_settled p flows.memory.items flows.standing.items (caller_of flows.callers.items (set_at flows.memory.items from)) ≡ true →
      names_no_node (nodes_in flows from) flows.standing.items ≡ true → ChangesNoneEver p trusted v from
  none_changed from is none A reached shows calls of = still_by from is none (state_after p A calls) (held_after A reached shows calls of)

  -- an idle thread makes no call
  pub idle_changes : (from : ℕ) → is_among bound.idle.items from ≡ true → ChangesNoneEver p trusted v from
  idle_changes from is A reached shows calls of call own =
      no_change p (state_after p A calls) call ((kept_then A reached shows calls of).inactive call.thread (ap idle own ∙ is))
