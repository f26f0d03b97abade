-- What holds of each state that runs reach.
use Rattle.std.proofs.Common.{◌≡◌, ◌≢◌, ℕ, ◌+◌, ◌<◌, ◌≤◌, Bool, true, false, cond, ◌==◌, List, [], ◌∷◌, ◌++◌, Option, None, Some, Result, Ok, refl, sym, ap, ◌∙◌, arith, unwrap_or, option_and_then}
use Rattle.std.specs.List.{list_any, AllByRecursion}
use Rattle.kernel_abstract.proofs.Messages.WaitingReceive.{ReceivesUpTo}
use Rattle.kernel_abstract.proofs.Checks.LiveEndpoints.{HasLiveEndpoint, found_live}
use Rattle.kernel_abstract.proofs.Lists.Tables.{get_table}
use Rattle.kernel_abstract.proofs.Messages.DeliveredSend.{SendsUpTo, pending}
use Rattle.kernel_abstract.proofs.Lists.Numbered.{Rising, send_number, receive_number}
use Rattle.kernel_abstract.proofs.Lists.Rising.{Rises, has_number, all_weaker}
use Rattle.kernel_abstract.specs.declared.call.Call.{Call}
use Rattle.kernel_abstract.specs.declared.invocation.Invocation.{Invocation}
use Rattle.kernel_abstract.specs.declared.call.ThreadState.TheVariants.{Ready, Inactive, Sending, Receiving}
use Rattle.kernel_abstract.specs.declared.call.ThreadState.{ThreadState}
use Rattle.ipc_core.specs.Records.{ReceiveRecord, Instance, SendRecord}
use Rattle.cap_core.specs.declared.profile.ProfileName.{ProfileName}
use Rattle.kernel_abstract.specs.Private.Effects.{Effect}
use Rattle.kernel_abstract.specs.Plan.{Plan}
use Rattle.kernel_abstract.specs.Shown.{ThreadView, endpoints_of, inbox_at, threads_of, waiting_at}
use Rattle.kernel_abstract.specs.State.{State, endpoint_at, inbox_of, shown, state_of, thread_at, thread_view, waiters, waiting_receives, waiting_sends}
use Rattle.ipc_core.specs.declared.waiter.Waiter.{Waiter}
use Rattle.kernel_abstract.specs.Step.{Outcome, next_call}
use Rattle.kernel_abstract.specs.Boot.{boot}
use Rattle.kernel_abstract.specs.Decode.{service_word}
use Rattle.kernel_abstract.specs.declared.reason.Word.TheVariants.{Invoked}
use Rattle.kernel_abstract.specs.declared.reason.Reason.{Reason}
use Rattle.kernel_abstract.specs.Lookups.{slot_by_word}
use Rattle.kernel_abstract.specs.Decode.{decoded_call, checked_op, checked_call, ensure_live, ensure_ready}
use Rattle.kernel_abstract.proofs.Checks.Walked.{unrefused}

-- no send and no receive have a number in common
abbrev pub Unshared : State → Type 0
Unshared A = (n : ℕ) → has_number send_number A.sends n ≡ true → has_number receive_number A.receives n ≡ false

-- a record that is open: its endpoint and its thread are live and were not made anew, and its thread is not inactive
pub record IsOpen (A : State) (endpoint thread : Instance) : Type 0 where
  pub endpoint_is : endpoint ≡ endpoint_at A endpoint.base
  pub endpoint_live : list_any (λ k. endpoint.base == k) (endpoints_of A.derivations) ≡ true
  pub thread_is : thread ≡ thread_at A thread.base
  pub thread_live : list_any (λ k. thread.base == k) (threads_of A.derivations) ≡ true
  pub awake : A.is_inactive thread ≡ false

abbrev pub SendIsOpen : State → SendRecord → Type 0
SendIsOpen A s = IsOpen A s.endpoint s.thread

abbrev pub ReceiveIsOpen : State → ReceiveRecord → Type 0
ReceiveIsOpen A a = IsOpen A a.endpoint a.thread

-- what holds of each reached state
pub record Invariant (A : State) : Type 0 where
  pub fresh : (n : ℕ) → A.count < n → A.is_cancelled n ≡ false
  pub numbered : ReceivesUpTo A.count A.receives
  pub sends_numbered : SendsUpTo A.count A.sends
  pub rising : Rising A.receives
  pub sends_rising : Rises send_number A.sends
  pub unshared : Unshared A
  pub endpoint_births : (b : ℕ) → A.endpoint_birth b ≤ A.count
  pub thread_births : (b : ℕ) → A.thread_birth b ≤ A.count
  pub born : AllByRecursion (λ (a : ReceiveRecord). (a.endpoint.birth ≤ A.count) × (a.thread.birth ≤ A.count)) A.receives
  pub sends_born : AllByRecursion (λ (s : SendRecord). (s.endpoint.birth ≤ A.count) × (s.thread.birth ≤ A.count)) A.sends
  pub younger : AllByRecursion (λ (a : ReceiveRecord). a.endpoint.birth < a.number) A.receives
  pub sends_younger : AllByRecursion (λ (s : SendRecord). s.endpoint.birth < s.number) A.sends
  pub receives_open : (e : Instance) → AllByRecursion (ReceiveIsOpen A) (waiting_receives A e)
  pub sends_open : (e : Instance) → AllByRecursion (SendIsOpen A) (waiting_sends A e)
  pub once : (m : Instance) (b : ℕ) → list_any (λ k. b == k) (endpoints_of A.derivations) ≡ true → pending A m b ≤ 1
  pub alone : (m : Instance) (b c : ℕ) → list_any (λ k. b == k) (endpoints_of A.derivations) ≡ true → list_any (λ k. c == k) (endpoints_of A.derivations) ≡ true → b ≢ c → pending A m b + pending A m c ≤ 1

-- what the checks show of a call that passes
pub record Passes (A : State) (thread : ℕ) (invocation : Invocation) : Type 0 where
  pub ready : state_of A (thread_at A thread) ≡ Ready
  pub thread_live : list_any (λ k. thread == k) (threads_of A.derivations) ≡ true
  pub endpoint_live : HasLiveEndpoint A.derivations invocation

allowed : (s : ThreadState) (found : Result Invocation Reason) (invocation : Invocation) → ensure_ready s found ≡ Ok invocation → (s ≡ Ready) × (found ≡ Ok invocation)
allowed Ready found invocation h = (refl, h)
allowed Inactive found invocation h = cc
allowed (Sending e) found invocation h = cc
allowed (Receiving e) found invocation h = cc

ready_passes : (b : Bool) (row : ThreadView) (found : Result Invocation Reason) (invocation : Invocation) → ensure_live (cond b (Some row) None) found ≡ Ok invocation → (b ≡ true) × (row.state ≡ Ready) × (found ≡ Ok invocation)
ready_passes true row found invocation h = let w = allowed row.state found invocation h in (refl, w.0, w.1)
ready_passes false row found invocation h = cc

pub passes : (p : ProfileName) (A : State) (call : Call) (invocation : Invocation) → decoded_call p (shown A) call ≡ Ok invocation → Passes A call.thread invocation
unfolding shown
passes p A call invocation h =
    let found : Result Invocation Reason = checked_op p A.derivations call.thread call.op in
    let w = ready_passes (list_any (λ k. call.thread == k) (threads_of A.derivations)) (thread_view A call.thread) found invocation
    (sym (ap (λ (o : Option ThreadView). ensure_live o found) (get_table (threads_of A.derivations) (thread_view A) call.thread)) ∙ unrefused (checked_call p (shown A) call) invocation h) in
    record {
      ready = w.1;
      thread_live = w.0;
      endpoint_live = found_live p A.derivations call.thread call.op (slot_by_word p A.derivations Invoked call.thread (service_word call.op)) invocation w.2;
    }

pub list_shown : (A : State) (e : ℕ) → list_any (λ k. e == k) (endpoints_of A.derivations) ≡ true → waiting_at (shown A) e ≡ waiters A (endpoint_at A e)
unfolding shown
list_shown A e live = ap (λ (o : Option (List Waiter)). unwrap_or o []) (get_table (endpoints_of A.derivations) (λ base. waiters A (endpoint_at A base)) e ∙ ap (λ (b : Bool). cond b (Some (waiters A (endpoint_at A e))) None) live)

pub inbox_shown : (A : State) (t : ℕ) → list_any (λ k. t == k) (threads_of A.derivations) ≡ true → inbox_at (shown A) t ≡ inbox_of A (thread_at A t)
unfolding shown
inbox_shown A t live = ap (λ (o : Option ThreadView). option_and_then (λ (row : ThreadView). row.inbox) o) (get_table (threads_of A.derivations) (thread_view A) t ∙ ap (λ (b : Bool). cond b (Some (thread_view A t)) None) live)

-- an effect on what is shown is that of an outcome of the state
abbrev pub IsShown : Effect → Outcome → Type 0
IsShown x y = (x.reply ≡ y.reply) × (x.after ≡ shown y.state)

pub inv_boot : (p : ProfileName) (plan : Plan) → Invariant (boot p plan)
unfolding boot
inv_boot p plan = record {
  fresh = λ n lt. refl;
  numbered = tt;
  sends_numbered = tt;
  rising = tt;
  sends_rising = tt;
  unshared = λ n there. refl;
  endpoint_births = λ b. omega arith;
  thread_births = λ b. omega arith;
  born = tt;
  sends_born = tt;
  younger = tt;
  sends_younger = tt;
  receives_open = λ e. tt;
  sends_open = λ e. tt;
  once = λ m b live. omega arith;
  alone = λ m b c live live' ne. omega arith;
}

pub receives_later : (n : ℕ) (receives : List ReceiveRecord) → ReceivesUpTo n receives → ReceivesUpTo (n + 1) receives
receives_later n [] h = tt
receives_later n (a ∷ receives) h = let le = h.0 in (omega arith, receives_later n receives h.1)

pub sends_later : (n : ℕ) (sends : List SendRecord) → SendsUpTo n sends → SendsUpTo (n + 1) sends
sends_later n [] h = tt
sends_later n (a ∷ sends) h = let le = h.0 in (omega arith, sends_later n sends h.1)

pub all_push : {X : Type 0} (P : X → Type 0) (xs : List X) (x : X) → AllByRecursion P xs → P x → AllByRecursion P (xs ++ x ∷ [])
all_push P [] x h p = (p, tt)
all_push P (y ∷ xs) x h p = (h.0, all_push P xs x h.1 p)

pub rising_push : (n : ℕ) (receives : List ReceiveRecord) (a : ReceiveRecord) → Rising receives → ReceivesUpTo n receives → n < a.number → Rising (receives ++ a ∷ [])
rising_push n [] a h up lt = (tt, tt)
rising_push n (x ∷ receives) a h up lt = let le = up.0 in (all_push (λ (b : ReceiveRecord). x.number < b.number) receives a h.0 (omega arith), rising_push n receives a h.1 up.1 lt)

-- what holds up to a number holds up to the next
pub receives_born_later : (n : ℕ) (receives : List ReceiveRecord) → AllByRecursion (λ (a : ReceiveRecord). (a.endpoint.birth ≤ n) × (a.thread.birth ≤ n)) receives → AllByRecursion (λ (a : ReceiveRecord). (a.endpoint.birth ≤ n + 1) × (a.thread.birth ≤ n + 1)) receives
receives_born_later n [] h = tt
receives_born_later n (a ∷ receives) h = let e = h.0.0 in let t = h.0.1 in ((omega arith, omega arith), receives_born_later n receives h.1)

pub sends_born_later : (n : ℕ) (sends : List SendRecord) → AllByRecursion (λ (s : SendRecord). (s.endpoint.birth ≤ n) × (s.thread.birth ≤ n)) sends → AllByRecursion (λ (s : SendRecord). (s.endpoint.birth ≤ n + 1) × (s.thread.birth ≤ n + 1)) sends
sends_born_later n [] h = tt
sends_born_later n (s ∷ sends) h = let e = h.0.0 in let t = h.0.1 in ((omega arith, omega arith), sends_born_later n sends h.1)

-- an open record, in a state with more or other things
open_at_next_call : (A : State) (e t : Instance) → IsOpen A e t → IsOpen (next_call A) e t
open_at_next_call A e t o = record { endpoint_is = o.endpoint_is; endpoint_live = o.endpoint_live; thread_is = o.thread_is; thread_live = o.thread_live; awake = o.awake }

pub inv_refused : (A : State) → Invariant A → Invariant (next_call A)
inv_refused A inv = record {
  fresh = λ n lt. inv.fresh n (omega arith);
  numbered = receives_later A.count A.receives inv.numbered;
  sends_numbered = sends_later A.count A.sends inv.sends_numbered;
  rising = inv.rising;
  sends_rising = inv.sends_rising;
  unshared = inv.unshared;
  endpoint_births = λ b. let le = inv.endpoint_births b in omega arith;
  thread_births = λ b. let le = inv.thread_births b in omega arith;
  born = receives_born_later A.count A.receives inv.born;
  sends_born = sends_born_later A.count A.sends inv.sends_born;
  younger = inv.younger;
  sends_younger = inv.sends_younger;
  receives_open = λ e. all_weaker (ReceiveIsOpen A) (ReceiveIsOpen (next_call A)) (λ a o. open_at_next_call A a.endpoint a.thread o) (waiting_receives A e) (inv.receives_open e);
  sends_open = λ e. all_weaker (SendIsOpen A) (SendIsOpen (next_call A)) (λ s o. open_at_next_call A s.endpoint s.thread o) (waiting_sends A e) (inv.sends_open e);
  once = inv.once;
  alone = inv.alone;
}
