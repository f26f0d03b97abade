-- What the reply of a step says of what is shown, and runs that go on by one call.
use Rattle.std.proofs.Common.{◌≡◌, ℕ, zero, suc, ◌+◌, ◌<◌, Bool, true, false, List, [], ◌∷◌, ◌++◌, map, take, length, slice_get, get_or, Option, None, Some, option_map, Result, Ok, Err, ◌≤◌, refl, sym, ap, subst, ◌∙◌, arith}
use Rattle.cap_core.specs.declared.profile.ProfileName.{ProfileName}
use Rattle.cap_core.specs.declared.message.Message.{Message}
use Rattle.cap_core.specs.declared.refusal.Refusal.{Refusal}
use Rattle.ipc_core.specs.Records.{SendRecord, ReceiveRecord}
use Rattle.kernel_abstract.specs.declared.call.Call.{Call}
use Rattle.kernel_abstract.specs.declared.call.Reply.{Reply}
use Rattle.kernel_abstract.specs.declared.call.Reply.TheVariants.{Dropped, Empty}
use Rattle.kernel_abstract.specs.declared.invocation.Service.{Service}
use Rattle.kernel_abstract.specs.declared.invocation.Invocation.{Invocation}
use Rattle.kernel_abstract.specs.declared.invocation.Invocation.TheVariants.{Send, Receive, Retype, Derive, Move, Delete, Revoke, CancelBadged, SetSpace, Suspend, Resume}
use Rattle.kernel_abstract.specs.Boot.{boot}
use Rattle.kernel_abstract.specs.Shown.{Shown}
use Rattle.kernel_abstract.specs.State.{State, shown}
use Rattle.kernel_abstract.specs.Decode.{decoded_call}
use Rattle.kernel_abstract.specs.Step.{Outcome, next_call, outcome, performed, send_record, receive_record, reply_to_send, reply_to_receive, send_accepted, receive_accepted, where_awaited, step, replies_of, state_after}
use Rattle.kernel_abstract.specs.Reached.{IsReached, StepsTo}
use Rattle.setup_format.specs.Views.{CallView}
use Rattle.command_trace.specs.Views.{FollowsReply}

counted_shows : (A : State) → shown (next_call A) ≡ shown A
unfolding shown
counted_shows A = refl

-- a send that is accepted, and a receive, leave the capabilities
send_follows : (s : SendRecord) (o : Option ReceiveRecord) (v w : Shown) → w.derivations ≡ v.derivations → FollowsReply (reply_to_send s o) v w
send_follows s None v w same = same
send_follows s (Some a) v w same = same

receive_follows : (a : ReceiveRecord) (o : Option SendRecord) (v w : Shown) → w.derivations ≡ v.derivations → FollowsReply (reply_to_receive a o) v w
receive_follows a None v w same = same
receive_follows a (Some s) v w same = same

abbrev OutcomeFollows : State → Outcome → Type 0
OutcomeFollows A o = FollowsReply o.reply (shown A) (shown o.state)

sent_follows : (A : State) (t : ℕ) (service : Service) (message : Message) → OutcomeFollows A (send_accepted A t service message)
unfolding shown
sent_follows A t service message = send_follows (send_record A t service message) _ (shown A) (shown (send_accepted A t service message).state) refl

received_follows : (A : State) (t : ℕ) (service : Service) → OutcomeFollows A (receive_accepted A t service)
unfolding shown
received_follows A t service = receive_follows (receive_record A t service) _ (shown A) (shown (receive_accepted A t service).state) refl

awaited_follows : (A : State) (b : Bool) (accepted : Outcome) (reply : Reply) → OutcomeFollows A accepted → FollowsReply reply (shown A) (shown (next_call A)) → OutcomeFollows A (where_awaited A b accepted reply)
awaited_follows A true accepted reply h k = h
awaited_follows A false accepted reply h k = k

performed_follows : (p : ProfileName) (A : State) (t : ℕ) (i : Invocation) → OutcomeFollows A (performed p A t i)
performed_follows p A t (Send service message true) = sent_follows A t service message
performed_follows p A t (Send service message false) = awaited_follows A _ (send_accepted A t service message) Dropped (sent_follows A t service message) (counted_shows A)
performed_follows p A t (Receive service true) = received_follows A t service
performed_follows p A t (Receive service false) = awaited_follows A _ (receive_accepted A t service) Empty (received_follows A t service) (counted_shows A)
performed_follows p A t (Retype new) = tt
performed_follows p A t (Derive placement) = tt
performed_follows p A t (Move placement) = tt
performed_follows p A t (Delete slot) = tt
performed_follows p A t (Revoke slot) = tt
performed_follows p A t (CancelBadged service) = tt
performed_follows p A t (SetSpace new) = tt
performed_follows p A t (Suspend tcb) = tt
performed_follows p A t (Resume tcb) = tt

outcome_follows : (p : ProfileName) (A : State) (t : ℕ) (r : Result Invocation Refusal) → OutcomeFollows A (outcome p A t r)
outcome_follows p A t (Err refusal) = counted_shows A
outcome_follows p A t (Ok invocation) = performed_follows p A t invocation

pub step_follows : (p : ProfileName) (A : State) (call : Call) → OutcomeFollows A (step p A call)
unfolding step
step_follows p A call = outcome_follows p A call.thread (decoded_call p (shown A) call)

pub follows : (p : ProfileName) (A : State) (call : Call) (reply : Reply) (v w : Shown) → v ≡ shown A → StepsTo p A call reply w → FollowsReply reply v w
follows p A call reply v w same steps =
    subst (λ u. FollowsReply reply u w) (sym same)
    (subst (FollowsReply reply (shown A)) (sym steps.shows)
    (subst (λ r. FollowsReply r (shown A) (shown (step p A call).state)) (sym steps.reply_is) (step_follows p A call)))

-- ---- runs

after_append : (p : ProfileName) (B : State) (xs calls : List Call) → state_after p B (xs ++ calls) ≡ state_after p (state_after p B xs) calls
unfolding state_after
after_append p B [] calls = refl
after_append p B (x ∷ xs) calls = after_append p (step p B x).state xs calls

pub reached_after : (p : ProfileName) (A : State) (calls : List Call) → IsReached p A → IsReached p (state_after p A calls)
reached_after p A calls reached =
    record {
      plan = reached.plan;
      lawful = reached.lawful;
      calls = reached.calls ++ calls;
      is = ap (λ B. state_after p B calls) reached.is ∙ sym (after_append p (boot p reached.plan) reached.calls calls);
    }

pub after_one : (p : ProfileName) (A : State) (xs : List Call) (x : Call) → state_after p A (xs ++ x ∷ []) ≡ (step p (state_after p A xs) x).state
unfolding state_after
after_one p A [] x = refl
after_one p A (y ∷ xs) x = after_one p (step p A y).state xs x

pub replies_one : (p : ProfileName) (A : State) (xs : List Call) (x : Call) → replies_of p A (xs ++ x ∷ []) ≡ replies_of p A xs ++ (step p (state_after p A xs) x).reply ∷ []
unfolding replies_of state_after
replies_one p A [] x = refl
replies_one p A (y ∷ xs) x = ap (λ l. (step p A y).reply ∷ l) (replies_one p (step p A y).state xs x)

-- ---- the call at a place of a set-up

pub call_is : (calls : List CallView) (items : List Call) (i : ℕ) (d : Call) (call : CallView) → items ≡ map (λ (c : CallView). c.call) calls → slice_get calls i ≡ Some call → get_or items i d ≡ call.call
call_is calls items i d call same there = ap (λ l. get_or l i d) same ∙ got calls i there
  where
    got : (calls : List CallView) (i : ℕ) → slice_get calls i ≡ Some call → get_or (map (λ (c : CallView). c.call) calls) i d ≡ call.call
    got [] i is = cc
    got (x ∷ calls) zero is = let e : x ≡ call = cc in ap (λ (c : CallView). c.call) e
    got (x ∷ calls) (suc i) is = got calls i is

pub expected_is : (calls : List CallView) (i : ℕ) (expected : Option (List ℕ)) (call : CallView) → option_map (λ (c : CallView). c.expect) (slice_get calls i) ≡ Some expected → slice_get calls i ≡ Some call → expected ≡ call.expect
expected_is calls i expected call is there =
    let e : Some expected ≡ Some call.expect = sym is ∙ ap (option_map (λ (c : CallView). c.expect)) there in
    let d : expected ≡ call.expect = cc in
    d

-- ---- the calls one by one

pub take_next : (calls : List CallView) (i : ℕ) (call : CallView) → slice_get calls i ≡ Some call → map (λ (c : CallView). c.call) (take (i + 1) calls) ≡ map (λ (c : CallView). c.call) (take i calls) ++ call.call ∷ []
take_next calls i call there = let n : i + 1 ≡ suc i = omega arith in ap (λ k. map (λ (c : CallView). c.call) (take k calls)) n ∙ by calls i there
  where
    by : (calls : List CallView) (i : ℕ) → slice_get calls i ≡ Some call → map (λ (c : CallView). c.call) (take (suc i) calls) ≡ map (λ (c : CallView). c.call) (take i calls) ++ call.call ∷ []
    by [] i is = cc
    by (x ∷ calls) zero is = let e : x ≡ call = cc in ap (λ (c : CallView). c.call ∷ []) e
    by (x ∷ calls) (suc i) is = ap (λ l. x.call ∷ l) (by calls i is)

-- the call at a place within
pub there_is : (calls : List CallView) (i : ℕ) → i < length calls → (call : CallView) × (slice_get calls i ≡ Some call)
there_is [] i h = absurd (omega (arith, h))
there_is (x ∷ calls) zero h = (x, refl)
there_is (x ∷ calls) (suc i) h = there_is calls i (omega (arith, h))

pub take_whole : {X : Type 0} (xs : List X) (i : ℕ) → length xs ≤ i → take i xs ≡ xs
take_whole [] zero h = refl
take_whole [] (suc i) h = refl
take_whole (x ∷ xs) zero h = absurd (omega (arith, h))
take_whole (x ∷ xs) (suc i) h = ap (λ l. x ∷ l) (take_whole xs i (omega (arith, h)))

pub start_of_run : (p : ProfileName) (A : State) → state_after p A [] ≡ A
unfolding state_after
start_of_run p A = refl

pub no_replies : (p : ProfileName) (A : State) → replies_of p A [] ≡ []
unfolding replies_of
no_replies p A = refl
