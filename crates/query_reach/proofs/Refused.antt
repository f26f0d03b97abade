-- A thread that does not reach a capability is refused what needs it.
use Rattle.std.proofs.Common.{◌≡◌, ◌≢◌, ℕ, ◌%◌, ◌^◌, refl, ap, ◌∙◌, arith, Bool, true, false, ◌==◌, ◌&&◌, cond, List, Option, Some, None, Result, Ok, Err, eq-eqb}
use Rattle.std.proofs.lemmas.Nat.{pow_pos, mod_below}
use Rattle.cap_core.specs.declared.profile.ProfileName.{ProfileName}
use Rattle.cap_core.specs.declared.capability.Badge.{Badge}
use Rattle.cap_core.specs.declared.capability.Cap.{Cap}
use Rattle.cap_core.specs.declared.capability.Cap.TheVariants.{Null, Untyped, Endpoint, CNode, Tcb}
use Rattle.cap_core.specs.declared.message.Message.{Message}
use Rattle.cap_core.specs.Checks.{◌>>=◌}
use Rattle.cap_core.specs.Numbers.{word_bits}
use Rattle.cap_core.specs.Rights.{write_bit, read_bit}
use Rattle.kernel_forest.specs.Forest.{Forest}
use Rattle.kernel_forest.specs.Entries.{Entry, cap_at, is_full}
use Rattle.cspace_core.specs.Resolution.{resolution}
use Rattle.cspace_core.proofs.Bits.{low_bits-mod}
use Rattle.kernel_abstract.specs.declared.call.Op.{Op}
use Rattle.kernel_abstract.specs.declared.call.Op.TheVariants as op
use Rattle.kernel_abstract.specs.declared.call.ThreadState.{ThreadState}
use Rattle.kernel_abstract.specs.declared.call.ThreadState.TheVariants.{Ready, Inactive, Sending, Receiving}
use Rattle.kernel_abstract.specs.declared.invocation.Service.{Service}
use Rattle.kernel_abstract.specs.declared.invocation.Invocation.{Invocation}
use Rattle.kernel_abstract.specs.declared.invocation.Invocation.TheVariants.{Send, Receive}
use Rattle.kernel_abstract.specs.declared.reason.Word.TheVariants.{Invoked}
use Rattle.kernel_abstract.specs.declared.reason.Right.{Right}
use Rattle.kernel_abstract.specs.declared.reason.Right.TheVariants.{Write, Read}
use Rattle.kernel_abstract.specs.declared.reason.Reason.{Reason}
use Rattle.kernel_abstract.specs.declared.reason.Reason.TheVariants.{NoRight}
use Rattle.kernel_abstract.specs.Reasons.{refusal_of, with_refusal}
use Rattle.kernel_abstract.specs.Lookups.{slot_found, slot_by_word}
use Rattle.kernel_abstract.specs.Decode.{has_right, right_bit, service_in, checked_send, checked_receive, checked_op, ensure_ready, ensure_live}
use Rattle.kernel_abstract.specs.Shown.{ThreadView}
use Rattle.kernel_abstract.specs.State.{State, shown}
use Rattle.kernel_abstract.specs.Step.{step, outcome}
use Rattle.kernel_abstract.proofs.Checks.Walked.{unrefused, word_passed}
use Rattle.query_reach.specs.Reaching.{leads}
use Rattle.query_reach.specs.Laws.{endpoint_allows, allows_to, ReachesNo, IsRefused, IsRefusedSends, IsRefusedReceives, SendsElsewhere, ReceivesElsewhere}
use Rattle.query_reach.specs.declared.reached.Reached.{Reached}
use Rattle.query_reach.specs.Listed.{IsEnough}
use Rattle.query_reach.proofs.FullSlots.{empty_is_null}

-- whatever number names a slot, a word of the machine does
pub leads-mod : (p : ProfileName) (f : Forest Entry) (thread word : ℕ) → leads p f thread (word % 2 ^ word_bits p) ≡ leads p f thread word
leads-mod p f thread word =
    ap (λ (bits : _). slot_found (resolution p (cap_at f) (cap_at f thread) bits)) (low_bits-mod (word_bits p) (word_bits p) word (omega arith))

-- the capability that a word leads to does not pass, be its slot full or empty
pub fails_there : (p : ProfileName) (f : Forest Entry) (thread : ℕ) (test : Cap → Bool) → test Null ≡ false → ReachesNo p f thread test →
    (word slot : ℕ) → leads p f thread word ≡ Ok slot → test (cap_at f slot) ≡ false
fails_there p f thread test null none word slot led = elim (is_full slot f) as (λ t. is_full slot f ≡ t → test (cap_at f slot) ≡ false) [
  | true ↦ λ full. none (word % 2 ^ word_bits p) slot (mod_below word (2 ^ word_bits p) (pow_pos (word_bits p)))
      (record { leads = leads-mod p f thread word ∙ led; full = full })
  | false ↦ λ empty. (let is = empty_is_null f slot empty in rw is null)
] refl

-- no service without the right
unserved : (needed : Right) (slot : ℕ) (cap : Cap) → endpoint_allows (right_bit needed) cap ≡ false → (reason : Reason) × (service_in needed slot cap ≡ Err reason)
unserved needed slot Null h = (_, refl)
unserved needed slot (Untyped base bits free) h = (_, refl)
unserved needed slot (Endpoint base badge rights) h = (NoRight (record { slot = slot; cap = Endpoint base badge rights }) needed, rw h refl)
unserved needed slot (CNode base radix guard) h = (_, refl)
unserved needed slot (Tcb base) h = (_, refl)

unsent : (slot : ℕ) (cap : Cap) (message : Message) (block : Bool) → endpoint_allows write_bit cap ≡ false → (reason : Reason) × (checked_send slot cap message block ≡ Err reason)
unsent slot cap message block h = let u = unserved Write slot cap h in (u.0, ap (λ (r : Result Service Reason). r >>= λ service. Ok (Send service message block)) u.1)

unreceived : (slot : ℕ) (cap : Cap) (block : Bool) → endpoint_allows read_bit cap ≡ false → (reason : Reason) × (checked_receive slot cap block ≡ Err reason)
unreceived slot cap block h = let u = unserved Read slot cap h in (u.0, ap (λ (r : Result Service Reason). r >>= λ service. Ok (Receive service block)) u.1)

-- a lookup, and then a check that fails
chain_refused : (p : ProfileName) (f : Forest Entry) (thread word : ℕ) (next : ℕ → Result Invocation Reason) →
    ((slot : ℕ) → leads p f thread word ≡ Ok slot → (reason : Reason) × (next slot ≡ Err reason)) →
    (reason : Reason) × ((slot_by_word p f Invoked thread word >>= next) ≡ Err reason)
chain_refused p f thread word next on = by (slot_by_word p f Invoked thread word) refl
  where
    by : (r : Result ℕ Reason) → slot_by_word p f Invoked thread word ≡ r → (reason : Reason) × ((r >>= next) ≡ Err reason)
    by (Ok slot) is = on slot (word_passed p f Invoked thread word slot is)
    by (Err reason) is = (reason, refl)

ready_refused : (state : ThreadState) (found : Result Invocation Reason) (reason : Reason) → found ≡ Err reason → (r : Reason) × (ensure_ready state found ≡ Err r)
ready_refused Ready found reason e = (reason, e)
ready_refused Inactive found reason e = (_, refl)
ready_refused (Sending base) found reason e = (_, refl)
ready_refused (Receiving base) found reason e = (_, refl)

live_refused : (o : Option ThreadView) (found : Result Invocation Reason) (reason : Reason) → found ≡ Err reason → (r : Reason) × (ensure_live o found ≡ Err r)
live_refused None found reason e = (_, refl)
live_refused (Some thread) found reason e = ready_refused thread.state found reason e

step_refused : (p : ProfileName) (A : State) (thread : ℕ) (o : Op) (reason : Reason) → checked_op p A.derivations thread o ≡ Err reason → IsRefused p A thread o
unfolding step shown
step_refused p A thread o reason e =
    let r = live_refused _ (checked_op p A.derivations thread o) reason e in
    (refusal_of r.0, ap (λ (x : Result Invocation Reason). (outcome p A thread (with_refusal x)).reply) r.1)

pub sends_refused : (p : ProfileName) (A : State) (thread : ℕ) → IsRefusedSends p A thread
sends_refused p A thread none word message =
    let on = λ (block : Bool). chain_refused p A.derivations thread word (λ slot. checked_send slot (cap_at A.derivations slot) message block)
    (λ slot led. unsent slot (cap_at A.derivations slot) message block (fails_there p A.derivations thread (endpoint_allows write_bit) refl none word slot led)) in
    (step_refused p A thread (op.Send word message) (on true).0 (on true).1, step_refused p A thread (op.NbSend word message) (on false).0 (on false).1)

pub receives_refused : (p : ProfileName) (A : State) (thread : ℕ) → IsRefusedReceives p A thread
receives_refused p A thread none word =
    let on = λ (block : Bool). chain_refused p A.derivations thread word (λ slot. checked_receive slot (cap_at A.derivations slot) block)
    (λ slot led. unreceived slot (cap_at A.derivations slot) block (fails_there p A.derivations thread (endpoint_allows read_bit) refl none word slot led)) in
    (step_refused p A thread (op.Recv word) (on true).0 (on true).1, step_refused p A thread (op.NbRecv word) (on false).0 (on false).1)

-- of one endpoint
served_where : (base e : ℕ) (t : Bool) (badge : Badge) (reason : Reason) (service : Service) → (base == e && t) ≡ false →
    cond t (Ok (record { endpoint = base; badge = badge })) (Err reason) ≡ Ok service → service.endpoint ≢ e
served_where base e true badge reason service h is same =
    let made : Service = record { endpoint = base; badge = badge } in
    let both : made ≡ service = cc in
    let base_is : base ≡ e = ap (λ (s : Service). s.endpoint) both ∙ same in
    let yes : (base == e) ≡ true = eq-eqb base e base_is in
    let no : true ≡ false = rw yes at h in
    cc
served_where base e false badge reason service h is same = cc

served_elsewhere : (needed : Right) (e slot : ℕ) (cap : Cap) (service : Service) → allows_to (right_bit needed) e cap ≡ false → service_in needed slot cap ≡ Ok service → service.endpoint ≢ e
served_elsewhere needed e slot Null service h is same = cc
served_elsewhere needed e slot (Untyped base bits free) service h is same = cc
served_elsewhere needed e slot (Endpoint base badge rights) service h is same = served_where base e (has_right (right_bit needed) rights) badge _ service h is same
served_elsewhere needed e slot (CNode base radix guard) service h is same = cc
served_elsewhere needed e slot (Tcb base) service h is same = cc

sent_by : (r : Result Service Reason) (message : Message) (block : Bool) (service : Service) → (r >>= λ s. Ok (Send s message block)) ≡ Ok (Send service message block) → r ≡ Ok service
sent_by (Ok s) message block service e = let same : s ≡ service = cc in ap Ok same
sent_by (Err reason) message block service e = cc

received_by : (r : Result Service Reason) (block : Bool) (service : Service) → (r >>= λ s. Ok (Receive s block)) ≡ Ok (Receive service block) → r ≡ Ok service
received_by (Ok s) block service e = let same : s ≡ service = cc in ap Ok same
received_by (Err reason) block service e = cc

chain_accepted : (p : ProfileName) (f : Forest Entry) (thread word : ℕ) (next : ℕ → Result Invocation Reason) (invocation : Invocation) →
    with_refusal (slot_by_word p f Invoked thread word >>= next) ≡ Ok invocation → (slot : ℕ) × ((leads p f thread word ≡ Ok slot) × (next slot ≡ Ok invocation))
chain_accepted p f thread word next invocation e = by (slot_by_word p f Invoked thread word) refl (unrefused _ invocation e)
  where
    by : (r : Result ℕ Reason) → slot_by_word p f Invoked thread word ≡ r → (r >>= next) ≡ Ok invocation → (slot : ℕ) × ((leads p f thread word ≡ Ok slot) × (next slot ≡ Ok invocation))
    by (Ok slot) is e = (slot, (word_passed p f Invoked thread word slot is, e))
    by (Err reason) is e = cc

pub sends_elsewhere : (p : ProfileName) (f : Forest Entry) (thread e : ℕ) → SendsElsewhere p f thread e
sends_elsewhere p f thread e none word message service =
    let on = λ (block : Bool) (is : with_refusal (slot_by_word p f Invoked thread word >>= λ slot. checked_send slot (cap_at f slot) message block) ≡ Ok (Send service message block)).
    (let w = chain_accepted p f thread word (λ slot. checked_send slot (cap_at f slot) message block) (Send service message block) is in
    served_elsewhere Write e w.0 (cap_at f w.0) service (fails_there p f thread (allows_to write_bit e) refl none word w.0 w.1.0)
    (sent_by (service_in Write w.0 (cap_at f w.0)) message block service w.1.1)) in
    (on true, on false)

pub receives_elsewhere : (p : ProfileName) (f : Forest Entry) (thread e : ℕ) → ReceivesElsewhere p f thread e
receives_elsewhere p f thread e none word service =
    let on = λ (block : Bool) (is : with_refusal (slot_by_word p f Invoked thread word >>= λ slot. checked_receive slot (cap_at f slot) block) ≡ Ok (Receive service block)).
    (let w = chain_accepted p f thread word (λ slot. checked_receive slot (cap_at f slot) block) (Receive service block) is in
    served_elsewhere Read e w.0 (cap_at f w.0) service (fails_there p f thread (allows_to read_bit e) refl none word w.0 w.1.0)
    (received_by (service_in Read w.0 (cap_at f w.0)) block service w.1.1)) in
    (on true, on false)

-- a list of all reached slots tells what is not reached
pub listed_tells : (p : ProfileName) (f : Forest Entry) (thread : ℕ) (list : List Reached) (test : Cap → Bool) → IsEnough p f thread list test
listed_tells p f thread list test are none word slot low reaches =
    let r = are.whole word slot low reaches in
    rw (← r.1.1) (none r.0 r.1.0)
