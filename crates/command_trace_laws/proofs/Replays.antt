-- The changes of a run, applied one after another.
use Rattle.std.proofs.Common.{◌≡◌, List, [], ◌∷◌, ◌++◌, map, refl, sym, ap, subst, ◌∙◌}
use Rattle.std.specs.List.Sorted.{IsStrictlySortedBy}
use Rattle.cap_core.specs.declared.profile.ProfileName.{ProfileName}
use Rattle.kernel_forest.specs.Entries.{derivations_of}
use Rattle.kernel_abstract.specs.declared.call.Call.{Call}
use Rattle.kernel_abstract.specs.declared.call.Reply.{Reply}
use Rattle.kernel_abstract.specs.Boot.{boot}
use Rattle.kernel_abstract.specs.Plan.{Plan}
use Rattle.kernel_abstract.specs.Shown.{Shown}
use Rattle.kernel_abstract.specs.State.{State, shown}
use Rattle.kernel_abstract.specs.Step.{step, state_after}
use Rattle.setup_report.specs.declared.live.NamedObject.{NamedObject}
use Rattle.setup_report.specs.State.{slot_of, named, holding_themselves}
use Rattle.setup_report.specs.Naming.{Texts}
use Rattle.command_trace.specs.Lines.{thread_text_at, inbox_line_at, endpoint_text_at, slot_at, selfheld_at}
use Rattle.command_trace.specs.Changes.{StateLines, lines_of_state, no_lines, changes}
use Rattle.command_trace_laws.specs.Laws.{Rise, state_differences, state_told, state_applied, boot_differences, run_differences, replayed}
use Rattle.command_trace.specs.Calls.{lines_in, call_changes}
use Rattle.command_trace.specs.Views.{FollowsReply}
use Rattle.command_trace_laws.proofs.Applied.{all_told, all_applied}
use Rattle.command_trace.proofs.Views.{rises_at, nothing_changes}
use Rattle.command_trace.proofs.Steps.{step_follows}

-- ---- states

pub states_told : (a b : StateLines) → changes a b ≡ state_told (state_differences a b)
states_told a b =
    λ i. all_told a.threads b.threads i
    ++ (all_told a.inboxes b.inboxes i
    ++ (all_told a.endpoints b.endpoints i
    ++ (all_told a.slots b.slots i
    ++ all_told a.selfheld b.selfheld i)))

pub record AllRise (s : StateLines) : Type 0 where
  pub threads : Rise s.threads
  pub inboxes : Rise s.inboxes
  pub endpoints : Rise s.endpoints
  pub slots : Rise s.slots
  pub selfheld : Rise s.selfheld

pub lines_rise : (texts : Texts) (p : ProfileName) (v : Shown) → AllRise (lines_of_state texts p v)
lines_rise texts p v =
    let list = derivations_of v.derivations in
    record {
      threads = rises_at (thread_text_at texts v) (named p NamedObject.Thread list) _ refl;
      inboxes = rises_at (inbox_line_at texts v) (named p NamedObject.Thread list) _ refl;
      endpoints = rises_at (endpoint_text_at texts v) (named p NamedObject.Endpoint list) _ refl;
      slots = rises_at (slot_at texts list) (map slot_of list) _ refl;
      selfheld = rises_at (selfheld_at texts) (holding_themselves p list) _ refl;
    }

nil_rises : Rise []
unfolding IsStrictlySortedBy
nil_rises = tt

pub none_rise : AllRise no_lines
none_rise = record { threads = nil_rises; inboxes = nil_rises; endpoints = nil_rises; slots = nil_rises; selfheld = nil_rises }

pub rising_applied : (a b : StateLines) → AllRise a → AllRise b → state_applied a (state_differences a b) ≡ b
rising_applied a b h k =
    λ i. record {
      threads = all_applied a.threads b.threads h.threads k.threads i;
      inboxes = all_applied a.inboxes b.inboxes h.inboxes k.inboxes i;
      endpoints = all_applied a.endpoints b.endpoints h.endpoints k.endpoints i;
      slots = all_applied a.slots b.slots h.slots k.slots i;
      selfheld = all_applied a.selfheld b.selfheld h.selfheld k.selfheld i;
    }

pub states_applied : (texts : Texts) (p : ProfileName) (v w : Shown) → state_applied (lines_of_state texts p v) (state_differences (lines_of_state texts p v) (lines_of_state texts p w)) ≡ lines_of_state texts p w
states_applied texts p v w = rising_applied (lines_of_state texts p v) (lines_of_state texts p w) (lines_rise texts p v) (lines_rise texts p w)

-- ---- runs

calls_replayed : (texts : Texts) (p : ProfileName) (A : State) (calls : List Call) → replayed (lines_in texts p A) (run_differences texts p A calls) ≡ lines_in texts p (state_after p A calls)
unfolding run_differences state_after
calls_replayed texts p A [] = refl
calls_replayed texts p A (call ∷ calls) =
    ap (λ l. replayed l (run_differences texts p (step p A call).state calls)) (states_applied texts p (shown A) (shown (step p A call).state))
    ∙ calls_replayed texts p (step p A call).state calls

pub run_replayed : (texts : Texts) (p : ProfileName) (plan : Plan) (calls : List Call) → replayed no_lines (boot_differences texts p plan ∷ run_differences texts p (boot p plan) calls) ≡ lines_in texts p (state_after p (boot p plan) calls)
run_replayed texts p plan calls =
    ap (λ l. replayed l (run_differences texts p (boot p plan) calls)) (rising_applied no_lines (lines_in texts p (boot p plan)) none_rise (lines_rise texts p (shown (boot p plan))))
    ∙ calls_replayed texts p (boot p plan) calls

-- ---- calls without effect

pub same_told : (texts : Texts) (p : ProfileName) (A : State) (call : Call) → shown (step p A call).state ≡ shown A → call_changes texts p A call ≡ []
same_told texts p A call same = nothing_changes (lines_in texts p A) (lines_in texts p (step p A call).state) (ap (lines_of_state texts p) (sym same))

-- what a reply says of the states shown before and after
pub reply_says : (p : ProfileName) (A : State) (call : Call) (reply : Reply) → (step p A call).reply ≡ reply → FollowsReply reply (shown A) (shown (step p A call).state)
reply_says p A call reply is = subst (λ r. FollowsReply r (shown A) (shown (step p A call).state)) is (step_follows p A call)
