-- What a call asks for that changes no capability serves the endpoint or the thread that it invokes, which stands on one side.
use Rattle.std.proofs.Common.{◌≡◌, ◌==◌, ◌&&◌, ℕ, Bool, true, false, cond, min, nat_le, Option, None, Some, Result, Ok, Err, refl, ap, sym, ◌∙◌, arith}
use Rattle.std.proofs.lemmas.Bool.Decides.{nat_tests}
use Rattle.std.specs.FinMap.{get}
use Rattle.cap_core.specs.declared.profile.ProfileName.{ProfileName}
use Rattle.cap_core.specs.declared.capability.Cap.{Cap}
use Rattle.cap_core.specs.declared.capability.Cap.TheVariants.{Null, Untyped, Endpoint, CNode, Tcb}
use Rattle.cap_core.specs.declared.capability.Badge.{Badge}
use Rattle.cap_core.specs.declared.capability.Kind.TheVariants as kind
use Rattle.cap_core.specs.Numbers.{word_bits}
use Rattle.cap_core.specs.Rights.{all_rights}
use Rattle.cap_core.specs.Checks.{◌>>=◌}
use Rattle.cspace_core.specs.Bits.{low_bits}
use Rattle.cspace_core.specs.Resolution.{Found, is_cnode}
use Rattle.kernel_forest.specs.Forest.{Forest}
use Rattle.kernel_forest.specs.Entries.{Entry, cap_at}
use Rattle.kernel_abstract.specs.declared.call.Call.{Call}
use Rattle.kernel_abstract.specs.declared.call.Op.{Op}
use Rattle.kernel_abstract.specs.declared.call.Op.TheVariants as op
use Rattle.kernel_abstract.specs.declared.call.ThreadState.{ThreadState}
use Rattle.kernel_abstract.specs.declared.call.ThreadState.TheVariants.{Ready, Inactive, Sending, Receiving}
use Rattle.kernel_abstract.specs.declared.invocation.Service.{Service}
use Rattle.kernel_abstract.specs.declared.invocation.Invocation.{Invocation}
use Rattle.kernel_abstract.specs.declared.invocation.Invocation.TheVariants as invocation
use Rattle.kernel_abstract.specs.declared.reason.Reason.{Reason}
use Rattle.kernel_abstract.specs.declared.reason.Reason.TheVariants.{NoRight, NotFound}
use Rattle.kernel_abstract.specs.declared.reason.Held.{Held}
use Rattle.kernel_abstract.specs.declared.reason.Miss.{Miss}
use Rattle.kernel_abstract.specs.declared.reason.Word.{Word}
use Rattle.kernel_abstract.specs.declared.reason.Right.{Right}
use Rattle.kernel_abstract.specs.declared.reason.Right.TheVariants.{Write, Read}
use Rattle.kernel_abstract.specs.declared.reason.Word.TheVariants.{Invoked, Index}
use Rattle.kernel_abstract.specs.Reasons.{with_refusal, held_at}
use Rattle.kernel_abstract.specs.Lookups.{walked, reached, reached_whole, slot_by_word, slot_by_index, of_kind}
use Rattle.kernel_abstract.specs.Deletion.{checked_slot, checked_badge, ensure_all_rights}
use Rattle.kernel_checks.specs.Laws.{ending}
use Rattle.kernel_abstract.proofs.Checks.FoundSlots.{passed, cond_passed, ok_same}
use Rattle.kernel_abstract.specs.Decode.{service_word, has_right, right_bit, service_in, invoking, checked_invocation, checked_op, checked_call, decoded_call, ensure_ready, ensure_live}
use Rattle.kernel_abstract.specs.Threads.{checked_tcb}
use Rattle.kernel_abstract.specs.Shown.{Shown, ThreadView, tcb_base, endpoint_base}
use Rattle.query_orders.specs.Groups.{keeps_capabilities, suspends_or_resumes, endpoint_found, endpoint_invoked, held_at_end, endpoint_by_index, endpoint_cancelled, thread_found, thread_invoked}

-- a lookup that finds a slot ends there
word_ends : (cap_in : ℕ → Cap) (word : Word) (from : Held) (r : Result Found Miss) (slot : ℕ) → reached word from r ≡ Ok slot → (ending cap_in from r).slot ≡ slot
word_ends cap_in word from (Ok found) slot is = ok_same found.slot slot is
word_ends cap_in word from (Err miss) slot is = absurd (let no : ◌≡◌ {A = Result ℕ Reason} (Err (NotFound word from miss)) (Ok slot) = is in cc)

whole_ends : (cap_in : ℕ → Cap) (word : Word) (from : Held) (r : Result Found Miss) (slot : ℕ) → reached_whole cap_in word from r ≡ Ok slot → ending cap_in from r ≡ held_at cap_in slot
whole_ends cap_in word from (Ok found) slot is = ap (held_at cap_in) (ok_same found.slot slot (cond_passed (found.left == 0) (Ok found.slot) _ slot is).1)
whole_ends cap_in word from (Err miss) slot is = absurd (let no : ◌≡◌ {A = Result ℕ Reason} (Err (NotFound word from miss)) (Ok slot) = is in cc)

least : (depth most : ℕ) → (nat_le 1 depth && nat_le depth most) ≡ true → depth ≡ min depth most
least depth most h = grind (arith, nat_tests)

index_ends : (p : ProfileName) (f : Forest Entry) (at index depth slot : ℕ) → checked_slot p f at index depth ≡ Ok slot → held_at_end p f at index (min depth (word_bits p)) ≡ held_at (cap_at f) slot
index_ends p f at index depth slot is =
    let node = passed (of_kind kind.CNode (held_at (cap_at f) at)) (λ node. slot_by_index p (cap_at f) Index at index depth) slot is in
    let inside = cond_passed (is_cnode (cap_at f at)) _ _ slot node.1.1 in
    let whole = cond_passed (nat_le 1 depth && nat_le depth (word_bits p)) _ _ slot inside.1 in
    ap (λ (bits : ℕ). held_at_end p f at index bits) (sym (least depth (word_bits p) whole.0))
    ∙ whole_ends (cap_at f) Index (held_at (cap_at f) at) (walked p (cap_at f) at (low_bits depth index)) slot whole.1

service_at : (b : Bool) (base : ℕ) (badge : Badge) (service : Service) (reason : Reason) → cond b (Ok (record { endpoint = base; badge = badge })) (Err reason) ≡ Ok service → ◌≡◌ {A = Option ℕ} (Some base) (Some service.endpoint)
service_at true base badge service reason h = ap (λ (s : Service). Some s.endpoint) (ok_same (record { endpoint = base; badge = badge }) service h)
service_at false base badge service reason h = cc

badged_endpoint : (slot : ℕ) (cap : Cap) (service : Service) → ensure_all_rights slot cap ≡ Ok service → endpoint_base cap ≡ Some service.endpoint
badged_endpoint slot (Endpoint base badge rights) service h = service_at (rights.0 == all_rights.0) base badge service _ h
badged_endpoint slot Null service h = cc
badged_endpoint slot (Untyped base bits free) service h = cc
badged_endpoint slot (CNode base radix guard) service h = cc
badged_endpoint slot (Tcb base) service h = cc

badge_ends : (p : ProfileName) (f : Forest Entry) (at index depth : ℕ) (service : Service) → checked_badge p f at index depth ≡ Ok service → endpoint_base (held_at_end p f at index (min depth (word_bits p))).cap ≡ Some service.endpoint
badge_ends p f at index depth service is =
    let named = passed (checked_slot p f at index depth) (λ slot. ensure_all_rights slot (cap_at f slot)) service is in
    ap (λ (h : Held). endpoint_base h.cap) (index_ends p f at index depth named.0 named.1.0) ∙ badged_endpoint named.0 (cap_at f named.0) service named.1.1

module _ (on_thread on_endpoint : ℕ → Bool) (side : Bool) where
  -- a send, a receive or a cancelling of sends of an endpoint on this side, or a thread of this side that is suspended or resumed
  abbrev pub FitsAsked : Invocation → Type 0
  FitsAsked (invocation.Send service message block) = on_endpoint service.endpoint ≡ side
  FitsAsked (invocation.Receive service block) = on_endpoint service.endpoint ≡ side
  FitsAsked (invocation.Suspend tcb) = on_thread tcb ≡ side
  FitsAsked (invocation.Resume tcb) = on_thread tcb ≡ side
  FitsAsked (invocation.CancelBadged service) = on_endpoint service.endpoint ≡ side
  FitsAsked other = ⊥

  abbrev pub Fits : {E : Type 0} → Result Invocation E → Type 0
  Fits (Ok asked) = FitsAsked asked
  Fits (Err reason) = Unit {0}

  abbrev ServiceFits : Result Service Reason → Type 0
  ServiceFits (Ok service) = on_endpoint service.endpoint ≡ side
  ServiceFits (Err reason) = Unit {0}

  service_fits : (right : Right) (slot : ℕ) (cap : Cap) → ((e : ℕ) → endpoint_base cap ≡ Some e → on_endpoint e ≡ side) → ServiceFits (service_in right slot cap)
  service_fits right slot (Endpoint base badge rights) h =
      elim (has_right (right_bit right) rights) as (λ b. ServiceFits (cond b (Ok (record { endpoint = base; badge = badge })) (Err (NoRight (record { slot = slot; cap = Endpoint base badge rights }) right)))) [
        | true ↦ h base refl
        | false ↦ tt
      ]
  service_fits right slot Null h = tt
  service_fits right slot (Untyped base bits free) h = tt
  service_fits right slot (CNode base radix guard) h = tt
  service_fits right slot (Tcb base) h = tt

  asked_fits : (r : Result Service Reason) (ask : Service → Invocation) → ((service : Service) → on_endpoint service.endpoint ≡ side → FitsAsked (ask service)) → ServiceFits r → Fits (r >>= λ service. Ok (ask service))
  asked_fits (Ok service) ask f h = f service h
  asked_fits (Err reason) ask f h = tt

  -- a thread control block's capability, of a thread on this side
  thread_fits : (slot : ℕ) (cap : Cap) (ask : ℕ → Invocation) → ((tcb : ℕ) → on_thread tcb ≡ side → FitsAsked (ask tcb)) → ((t : ℕ) → tcb_base cap ≡ Some t → on_thread t ≡ side) → Fits (invoking ask (checked_tcb slot cap))
  thread_fits slot (Tcb base) ask f h = f base (h base refl)
  thread_fits slot Null ask f h = tt
  thread_fits slot (Untyped base bits free) ask f h = tt
  thread_fits slot (Endpoint base badge rights) ask f h = tt
  thread_fits slot (CNode base radix guard) ask f h = tt

  -- sends on an endpoint of this side are cancelled
  service_by : (r : Result Service Reason) → ((service : Service) → r ≡ Ok service → on_endpoint service.endpoint ≡ side) → ServiceFits r
  service_by (Ok service) h = h service refl
  service_by (Err reason) h = tt

  badge_fits : (p : ProfileName) (f : Forest Entry) (slot index depth : ℕ) → ((e : ℕ) → endpoint_base (held_at_end p f slot index (min depth (word_bits p))).cap ≡ Some e → on_endpoint e ≡ side) → ServiceFits (checked_badge p f slot index depth)
  badge_fits p f slot index depth h = service_by (checked_badge p f slot index depth) (λ service is. h service.endpoint (badge_ends p f slot index depth service is))

  module _ (p : ProfileName) (f : Forest Entry) (thread : ℕ) where
    -- the index is looked up from the slot that the word leads to
    by_slot : (cap index depth slot : ℕ) → slot_by_word p f Invoked thread cap ≡ Ok slot → endpoint_by_index p f thread cap index depth ≡ endpoint_base (held_at_end p f slot index (min depth (word_bits p))).cap
    by_slot cap index depth slot led =
        ap (λ (node : ℕ). endpoint_base (held_at_end p f node index (min depth (word_bits p))).cap)
        (word_ends (cap_at f) Invoked (held_at (cap_at f) thread) (walked p (cap_at f) thread (low_bits (word_bits p) cap)) slot led)

    invocation_fits : (o : Op) (slot : ℕ) → keeps_capabilities o ≡ true → slot_by_word p f Invoked thread (service_word o) ≡ Ok slot → ((e : ℕ) → endpoint_base (cap_at f slot) ≡ Some e → on_endpoint e ≡ side)
        → ((t : ℕ) → cond (suspends_or_resumes o) (tcb_base (cap_at f slot)) None ≡ Some t → on_thread t ≡ side)
        → ((e : ℕ) → endpoint_cancelled p f thread o ≡ Some e → on_endpoint e ≡ side) → Fits (checked_invocation p f thread o slot)
    invocation_fits (op.Send cap message) slot is led h k c = asked_fits (service_in Write slot (cap_at f slot)) (λ service. invocation.Send service message true) (λ service on. on) (service_fits Write slot (cap_at f slot) h)
    invocation_fits (op.NbSend cap message) slot is led h k c = asked_fits (service_in Write slot (cap_at f slot)) (λ service. invocation.Send service message false) (λ service on. on) (service_fits Write slot (cap_at f slot) h)
    invocation_fits (op.Recv cap) slot is led h k c = asked_fits (service_in Read slot (cap_at f slot)) (λ service. invocation.Receive service true) (λ service on. on) (service_fits Read slot (cap_at f slot) h)
    invocation_fits (op.NbRecv cap) slot is led h k c = asked_fits (service_in Read slot (cap_at f slot)) (λ service. invocation.Receive service false) (λ service on. on) (service_fits Read slot (cap_at f slot) h)
    invocation_fits (op.Retype cap kind size_bits root index depth offset count) slot is led h k c = cc
    invocation_fits (op.CapCopy cap index depth src_root src_index src_depth rights) slot is led h k c = cc
    invocation_fits (op.CapMint cap index depth src_root src_index src_depth rights word) slot is led h k c = cc
    invocation_fits (op.CapMove cap index depth src_root src_index src_depth) slot is led h k c = cc
    invocation_fits (op.CapMutate cap index depth src_root src_index src_depth word) slot is led h k c = cc
    invocation_fits (op.CapDelete cap index depth) slot is led h k c = cc
    invocation_fits (op.CapRevoke cap index depth) slot is led h k c = cc
    invocation_fits (op.CancelBadged cap index depth) slot is led h k c =
        asked_fits (checked_badge p f slot index depth) (λ service. invocation.CancelBadged service) (λ service on. on) (badge_fits p f slot index depth (λ e at. c e (by_slot cap index depth slot led ∙ at)))
    invocation_fits (op.SetSpace cap root word) slot is led h k c = cc
    invocation_fits (op.Suspend cap) slot is led h k c = thread_fits slot (cap_at f slot) (λ tcb. invocation.Suspend tcb) (λ tcb on. on) k
    invocation_fits (op.Resume cap) slot is led h k c = thread_fits slot (cap_at f slot) (λ tcb. invocation.Resume tcb) (λ tcb on. on) k

    op_fits : (o : Op) (found : Result ℕ Reason) → keeps_capabilities o ≡ true → slot_by_word p f Invoked thread (service_word o) ≡ found → ((e : ℕ) → endpoint_found f found ≡ Some e → on_endpoint e ≡ side)
        → ((t : ℕ) → cond (suspends_or_resumes o) (thread_found f found) None ≡ Some t → on_thread t ≡ side)
        → ((e : ℕ) → endpoint_cancelled p f thread o ≡ Some e → on_endpoint e ≡ side) → Fits (found >>= checked_invocation p f thread o)
    op_fits o (Ok slot) is led h k c = invocation_fits o slot is led h k c
    op_fits o (Err reason) is led h k c = tt

  ready_fits : (state : ThreadState) (r : Result Invocation Reason) → Fits r → Fits (ensure_ready state r)
  ready_fits Ready r h = h
  ready_fits Inactive r h = tt
  ready_fits (Sending e) r h = tt
  ready_fits (Receiving e) r h = tt

  live_fits : (o : Option ThreadView) (r : Result Invocation Reason) → Fits r → Fits (ensure_live o r)
  live_fits None r h = tt
  live_fits (Some thread) r h = ready_fits thread.state r h

  refusal_fits : (r : Result Invocation Reason) → Fits r → Fits (with_refusal r)
  refusal_fits (Ok asked) h = h
  refusal_fits (Err reason) h = tt

  pub decoded_fits : (p : ProfileName) (v : Shown) (call : Call) → keeps_capabilities call.op ≡ true → ((e : ℕ) → endpoint_invoked p v.derivations call ≡ Some e → on_endpoint e ≡ side)
      → ((t : ℕ) → thread_invoked p v.derivations call ≡ Some t → on_thread t ≡ side)
      → ((e : ℕ) → endpoint_cancelled p v.derivations call.thread call.op ≡ Some e → on_endpoint e ≡ side) → Fits (decoded_call p v call)
  decoded_fits p v call is h k c =
      refusal_fits (checked_call p v call) (live_fits (get v.threads call.thread) (checked_op p v.derivations call.thread call.op)
      (op_fits p v.derivations call.thread call.op (slot_by_word p v.derivations Invoked call.thread (service_word call.op)) is refl h k c))
