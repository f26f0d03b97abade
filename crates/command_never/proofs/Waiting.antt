-- A record that waits is told among the threads that wait.
use Rattle.std.proofs.Common.{◌≡◌, ℕ, Bool, true, false, cond, ◌==◌, ◌++◌, map, filter_map, Option, Some, None, option_map, refl, sym, ap, ◌∙◌}
use Rattle.std.specs.List.{list_any, Contains, cons_option}
use Rattle.std.proofs.lemmas.List.{map-append}
use Rattle.std.proofs.lemmas.List.Elements.{filter_map-append}
use Rattle.cap_core.specs.declared.profile.ProfileName.{ProfileName}
use Rattle.kernel_forest.specs.Forest.{Forest, none, tree, preorder, parented}
use Rattle.kernel_forest.specs.Entries.{Entry, slot_of, derivations_of}
use Rattle.kernel_forest.proofs.Trees.Forests.{each-contained}
use Rattle.ipc_core.specs.Records.{Instance, SendRecord, ReceiveRecord}
use Rattle.kernel_abstract.specs.declared.call.ThreadState.{ThreadState}
use Rattle.kernel_abstract.specs.declared.call.ThreadState.TheVariants.{Sending, Receiving}
use Rattle.kernel_abstract.specs.Shown.{ThreadView, tcb_base, threads_of, state_at}
use Rattle.kernel_abstract.specs.State.{State, shown, state_of, thread_at, thread_view, waiting_sends, waiting_receives}
use Rattle.kernel_abstract.specs.Reached.{IsReached}
use Rattle.kernel_abstract.proofs.Lists.Tables.{get_table}
use Rattle.kernel_abstract.proofs.Cancelling.Waiting.{senders_told, receivers_told}
use Rattle.kernel_abstract.proofs.Reached.Invariant.{SendIsOpen, ReceiveIsOpen}
use Rattle.kernel_abstract.proofs.Reached.Simulation.{reached_inv}
use Rattle.setup_report.specs.declared.live.NamedObject.{NamedObject}
use Rattle.setup_report.specs.State.{is_in, named, named_by, threads}
use Rattle.setup_report.proofs.Addresses.Rising.{any_rising}
use Rattle.command_never.specs.declared.parts_kept.waits.Wait.{Wait}
use Rattle.command_never.specs.Waits.{wait_in, wait_of, waits}
use Rattle.command_never.proofs.Tests.{any_given}

-- ---- the live threads

abbrev seen : Entry × Option Entry → Entry × Option ℕ
seen e = (e.0, option_map slot_of e.1)

named_above : (p : ProfileName) (above : Option Entry) (f : Forest Entry) →
    filter_map (named_by p NamedObject.Thread) (map seen (parented above f)) ≡ filter_map tcb_base (map (λ (e : Entry). e.cap) (preorder f))
named_above p above none = refl
named_above p above (tree a under others) =
    ap (cons_option (tcb_base a.cap))
    (ap (filter_map (named_by p NamedObject.Thread)) (map-append seen (parented (Some a) under) (parented above others))
    ∙ filter_map-append (named_by p NamedObject.Thread) (map seen (parented (Some a) under)) (map seen (parented above others))
    ∙ ap (λ l. l ++ filter_map (named_by p NamedObject.Thread) (map seen (parented above others))) (named_above p (Some a) under)
    ∙ ap (λ l. filter_map tcb_base (map (λ (e : Entry). e.cap) (preorder under)) ++ l) (named_above p above others)
    ∙ sym (filter_map-append tcb_base (map (λ (e : Entry). e.cap) (preorder under)) (map (λ (e : Entry). e.cap) (preorder others)))
    ∙ ap (filter_map tcb_base) (sym (map-append (λ (e : Entry). e.cap) (preorder under) (preorder others))))

pub live_told : (p : ProfileName) (A : State) (t : ℕ) → list_any (λ k. t == k) (threads_of A.derivations) ≡ true → is_in t (threads p (shown A)) ≡ true
unfolding shown
live_told p A t live =
    any_rising (λ k. t == k) (named p NamedObject.Thread (derivations_of A.derivations))
    ∙ ap (is_in t) (named_above p None A.derivations) ∙ live

-- ---- what they do

state_told : (A : State) (t : Instance) → t ≡ thread_at A t.base → list_any (λ k. t.base == k) (threads_of A.derivations) ≡ true →
    state_at (shown A) t.base ≡ Some (state_of A t)
unfolding shown
state_told A t same live =
    ap (option_map (λ (x : ThreadView). x.state))
    (get_table (threads_of A.derivations) (thread_view A) t.base ∙ ap (λ b. cond b (Some (thread_view A t.base)) None) live)
    ∙ ap (λ (x : Instance). Some (state_of A x)) (sym same)

module _ (p : ProfileName) (A : State) (reached : IsReached p A) (f : Wait → Bool) where
  pub sender_waits : (s : SendRecord) → Contains (waiting_sends A s.endpoint) s → f (record { thread = s.thread.base; endpoint = s.endpoint.base; sends = true }) ≡ true →
      list_any f (waits p (shown A)) ≡ true
  sender_waits s there passes =
      let inv = reached_inv p A reached in
      let stands = each-contained (SendIsOpen A) (waiting_sends A s.endpoint) s (inv.sends_open s.endpoint) there in
      let does = each-contained (λ (x : SendRecord). state_of A x.thread ≡ Sending s.endpoint.base) (waiting_sends A s.endpoint) s (senders_told A inv s.endpoint) there in
      any_given (wait_of (shown A)) f s.thread.base (record { thread = s.thread.base; endpoint = s.endpoint.base; sends = true })
      (ap (wait_in s.thread.base) (state_told A s.thread stands.thread_is stands.thread_live ∙ ap (λ (x : ThreadState). Some x) does)) passes
      (threads p (shown A)) (live_told p A s.thread.base stands.thread_live)

  pub receiver_waits : (a : ReceiveRecord) → Contains (waiting_receives A a.endpoint) a → f (record { thread = a.thread.base; endpoint = a.endpoint.base; sends = false }) ≡ true →
      list_any f (waits p (shown A)) ≡ true
  receiver_waits a there passes =
      let inv = reached_inv p A reached in
      let stands = each-contained (ReceiveIsOpen A) (waiting_receives A a.endpoint) a (inv.receives_open a.endpoint) there in
      let does = each-contained (λ (x : ReceiveRecord). state_of A x.thread ≡ Receiving a.endpoint.base) (waiting_receives A a.endpoint) a (receivers_told A inv a.endpoint) there in
      any_given (wait_of (shown A)) f a.thread.base (record { thread = a.thread.base; endpoint = a.endpoint.base; sends = false })
      (ap (wait_in a.thread.base) (state_told A a.thread stands.thread_is stands.thread_live ∙ ap (λ (x : ThreadState). Some x) does)) passes
      (threads p (shown A)) (live_told p A a.thread.base stands.thread_live)
