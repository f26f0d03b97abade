-- What a ready thread finds by a word or an index: what the checks of a suspend and of a delete say of it.
use Rattle.std.proofs.Common.{◌≡◌, ℕ, Option, None, Some, option_map, Result, Ok, Err, refl, sym, ap, ◌∙◌}
use Rattle.std.specs.FinMap.{get}
use Rattle.cap_core.specs.declared.profile.ProfileName.{ProfileName}
use Rattle.cap_core.specs.declared.capability.Cap.{Cap}
use Rattle.cap_core.specs.declared.capability.Cap.TheVariants.{Null, Untyped, Endpoint, CNode, Tcb}
use Rattle.cap_core.specs.declared.capability.Kind.TheVariants as kind
use Rattle.cap_core.specs.Checks.{◌>>=◌}
use Rattle.kernel_forest.specs.Forest.{Forest}
use Rattle.kernel_forest.specs.Entries.{Entry, cap_at}
use Rattle.kernel_abstract.specs.declared.call.Call.{Call}
use Rattle.kernel_abstract.specs.declared.call.Op.TheVariants.{Suspend, CapDelete}
use Rattle.kernel_abstract.specs.declared.call.ThreadState.{ThreadState}
use Rattle.kernel_abstract.specs.declared.call.ThreadState.TheVariants.{Ready, Inactive, Sending, Receiving}
use Rattle.kernel_abstract.specs.declared.invocation.Invocation.{Invocation}
use Rattle.kernel_abstract.specs.declared.invocation.Invocation.TheVariants as invocation
use Rattle.kernel_abstract.specs.declared.reason.Reason.{Reason}
use Rattle.kernel_abstract.specs.declared.reason.Word.TheVariants.{Index}
use Rattle.kernel_abstract.specs.Lookups.{slot_by_index, of_kind}
use Rattle.kernel_abstract.specs.Deletion.{checked_slot}
use Rattle.kernel_abstract.specs.Threads.{checked_tcb}
use Rattle.kernel_abstract.specs.Decode.{checked_call, checked_op, invoking, ensure_live, ensure_ready}
use Rattle.kernel_abstract.specs.Shown.{Shown, ThreadView, state_at}
use Rattle.command_trace.specs.Ways.{missed, node_in, node_led, word_found}

-- ---- the checks of a ready thread are those of its operation

ready_state : (s : ThreadState) (found : Result Invocation Reason) → s ≡ Ready → ensure_ready s found ≡ found
ready_state Ready found h = refl
ready_state Inactive found h = cc
ready_state (Sending e) found h = cc
ready_state (Receiving e) found h = cc

live_ready : (t : Option ThreadView) (found : Result Invocation Reason) → option_map (λ (x : ThreadView). x.state) t ≡ Some Ready → ensure_live t found ≡ found
live_ready None found h = cc
live_ready (Some t) found h = ready_state t.state found cc

pub by_ready : (p : ProfileName) (v : Shown) (call : Call) → state_at v call.thread ≡ Some Ready → checked_call p v call ≡ checked_op p v.derivations call.thread call.op
by_ready p v call h = live_ready (get v.threads call.thread) (checked_op p v.derivations call.thread call.op) h

-- ---- a suspend misses what its word misses

tcb_misses : (slot : ℕ) (cap : Cap) → missed (invoking invocation.Suspend (checked_tcb slot cap)) ≡ None
tcb_misses slot Null = refl
tcb_misses slot (Untyped base n free) = refl
tcb_misses slot (Endpoint base badge rights) = refl
tcb_misses slot (CNode base radix guard) = refl
tcb_misses slot (Tcb base) = refl

suspend_misses : (f : Forest Entry) (found : Result ℕ Reason) → missed (found >>= λ slot. invoking invocation.Suspend (checked_tcb slot (cap_at f slot))) ≡ missed found
suspend_misses f (Ok slot) = tcb_misses slot (cap_at f slot)
suspend_misses f (Err reason) = refl

pub word_missed : (p : ProfileName) (v : Shown) (thread cap : ℕ) → state_at v thread ≡ Some Ready →
    missed (checked_call p v (record { thread = thread; op = Suspend cap })) ≡ missed (word_found p v.derivations thread cap)
word_missed p v thread cap h =
    ap (λ (r : Result Invocation Reason). missed r) (by_ready p v (record { thread = thread; op = Suspend cap }) h)
    ∙ suspend_misses v.derivations (word_found p v.derivations thread cap)

-- ---- a delete misses what its index misses, from a CNode

delete_misses : (r : Result ℕ Reason) → missed (invoking invocation.Delete r) ≡ missed r
delete_misses (Ok slot) = refl
delete_misses (Err reason) = refl

at_node : (p : ProfileName) (f : Forest Entry) (slot node index depth : ℕ) (cap : Cap) → cap ≡ cap_at f slot → node_in (record { slot = slot; cap = cap }) ≡ Some node →
    missed (checked_slot p f slot index depth) ≡ missed (slot_by_index p (cap_at f) Index node index depth)
at_node p f slot node index depth Null same h = cc
at_node p f slot node index depth (Untyped base n free) same h = cc
at_node p f slot node index depth (Endpoint base badge rights) same h = cc
at_node p f slot node index depth (CNode base radix guard) same h =
    let here : slot ≡ node = cc in
    ap (λ (c : Cap). missed (of_kind kind.CNode (record { slot = slot; cap = c }) >>= λ held. slot_by_index p (cap_at f) Index slot index depth)) (sym same)
    ∙ ap (λ (n : ℕ). missed (slot_by_index p (cap_at f) Index n index depth)) here
at_node p f slot node index depth (Tcb base) same h = cc

delete_index : (p : ProfileName) (f : Forest Entry) (node index depth : ℕ) (found : Result ℕ Reason) → node_led f found ≡ Some node →
    missed (found >>= λ slot. invoking invocation.Delete (checked_slot p f slot index depth)) ≡ missed (slot_by_index p (cap_at f) Index node index depth)
delete_index p f node index depth (Ok slot) h = delete_misses (checked_slot p f slot index depth) ∙ at_node p f slot node index depth (cap_at f slot) refl h
delete_index p f node index depth (Err reason) h = cc

pub index_missed : (p : ProfileName) (v : Shown) (thread cap index depth node : ℕ) → state_at v thread ≡ Some Ready → node_led v.derivations (word_found p v.derivations thread cap) ≡ Some node →
    missed (checked_call p v (record { thread = thread; op = CapDelete cap index depth })) ≡ missed (slot_by_index p (cap_at v.derivations) Index node index depth)
index_missed p v thread cap index depth node h led =
    ap (λ (r : Result Invocation Reason). missed r) (by_ready p v (record { thread = thread; op = CapDelete cap index depth }) h)
    ∙ delete_index p v.derivations node index depth (word_found p v.derivations thread cap) led
