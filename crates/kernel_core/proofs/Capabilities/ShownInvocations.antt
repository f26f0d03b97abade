-- What the checks show of an invocation, by what a kernel shows.
use Rattle.std.proofs.Common.{List, ◌≡◌, ℕ, Bool, true, cond, ◌==◌, Option, None, Some, Result, Ok, Err, All, IfOk, IsSome, refl, sym, ap, subst, ◌∙◌}
use Rattle.std.specs.List.{list_any}
use Rattle.std.specs.FinMap.{get}
use Rattle.cap_core.specs.declared.profile.ProfileName.{ProfileName}
use Rattle.cap_core.specs.declared.refusal.Refusal.{Refusal}
use Rattle.cap_core.specs.Objects.{IsLawful}
use Rattle.kernel_forest.specs.Forest.{Forest}
use Rattle.kernel_forest.specs.Entries.{Entry, caps}
use Rattle.kernel_abstract.specs.declared.call.Reply.{Reply}
use Rattle.kernel_abstract.specs.Memory.{IsInMemory}
use Rattle.kernel_abstract.specs.Regions.{IsForest}
use Rattle.kernel_abstract.specs.Private.Effects.{performed_effect}
use Rattle.kernel_abstract.proofs.Capabilities.StaysInMemory.{invocation_within}
use Rattle.kernel_abstract.specs.declared.call.Op.{Op}
use Rattle.kernel_abstract.specs.declared.invocation.Invocation.{Invocation}
use Rattle.kernel_abstract.specs.declared.invocation.Invocation.TheVariants.{Send, Receive, Retype, Derive, Move, Delete, Revoke, CancelBadged, SetSpace, Suspend, Resume}
use Rattle.kernel_core.specs.Rows.{kernel_shown}
use Rattle.kernel_core.specs.declared.rows.ThreadRow.{ThreadRow}
use Rattle.ipc_core.specs.Waits.{Waits}
use Rattle.kernel_abstract.specs.Shown.{Shown, endpoints_of, table}
use Rattle.kernel_abstract.specs.Decode.{service_word}
use Rattle.kernel_abstract.specs.declared.reason.Word.TheVariants.{Invoked}
use Rattle.kernel_abstract.specs.Lookups.{slot_by_word}
use Rattle.kernel_abstract.specs.Decode.{decoded_op, checked_op}
use Rattle.kernel_abstract.proofs.Checks.Walked.{unrefused}
use Rattle.kernel_abstract.specs.Private.Invocations.{IsInvocation}
use Rattle.kernel_abstract.proofs.Checks.LiveEndpoints.{HasLiveEndpoint, found_live}
use Rattle.kernel_abstract.proofs.Lists.Tables.{get_table}
use Rattle.kernel_abstract.proofs.Checks.PassedInvocations.{IsEdit, invoked_edit}

live_there : (f : Forest Entry) (w : Waits) (e : ℕ) → list_any (λ k. e == k) (endpoints_of f) ≡ true → IsSome (get (table (endpoints_of f) w.queue) e)
live_there f w e live =
    subst IsSome (sym (get_table (endpoints_of f) w.queue e ∙ ap (λ (b : Bool). cond b (Some (w.queue e)) None) live)) refl

-- an invocation whose endpoint is live, and that edits as the checks allow
invocation_shown : (p : ProfileName) (f : Forest Entry) (rows : List (Option ThreadRow)) (w : Waits) (invocation : Invocation) → HasLiveEndpoint f invocation → IsEdit p f invocation → IsInvocation p (kernel_shown p f rows w) invocation
invocation_shown p f rows w (Send service message block) live edit = live_there f w service.endpoint live
invocation_shown p f rows w (Receive service block) live edit = live_there f w service.endpoint live
invocation_shown p f rows w (Retype new) live edit = edit
invocation_shown p f rows w (Derive placement) live edit = edit
invocation_shown p f rows w (Move placement) live edit = edit
invocation_shown p f rows w (Delete slot) live edit = edit
invocation_shown p f rows w (Revoke slot) live edit = edit
invocation_shown p f rows w (CancelBadged service) live edit = live_there f w service.endpoint live
invocation_shown p f rows w (SetSpace new) live edit = edit
invocation_shown p f rows w (Suspend tcb) live edit = edit
invocation_shown p f rows w (Resume tcb) live edit = edit

pub invocation_passed : (p : ProfileName) (memory : ℕ) (f : Forest Entry) (rows : List (Option ThreadRow)) (w : Waits) (v : Shown) (thread : ℕ) (o : Op) (r : Result Invocation Refusal) →
    All (IsLawful p memory) (caps f) → kernel_shown p f rows w ≡ v → r ≡ decoded_op p f thread o → IfOk r (IsInvocation p v)
invocation_passed p memory f rows w v thread o (Err refusal) all view is = tt
invocation_passed p memory f rows w v thread o (Ok invocation) all view is =
    subst (λ (u : Shown). IsInvocation p u invocation) view
    (let passed = unrefused (checked_op p f thread o) invocation (sym is) in
    invocation_shown p f rows w invocation (found_live p f thread o (slot_by_word p f Invoked thread (service_word o)) invocation passed) (invoked_edit p memory f all thread o invocation passed))

-- an invocation is performed, which is known by its case
pub record IsPerformed (p : ProfileName) (v w : Shown) (t : ℕ) (done : Invocation) (reply : Reply) : Type 0 where
  pub reply_is : reply ≡ (performed_effect p v t done).reply
  pub after_is : w ≡ (performed_effect p v t done).after
  pub within : (memory : ℕ) → IsInMemory p memory v → IsInMemory p memory w

pub performed_as : (p : ProfileName) (v w : Shown) (t : ℕ) (done kind : Invocation) (reply : Reply) → done ≡ kind → IsForest p v.derivations → IsInvocation p v done →
    reply ≡ (performed_effect p v t kind).reply → w ≡ (performed_effect p v t kind).after → IsPerformed p v w t done reply
performed_as p v w t done kind reply is forest allowed replied after =
    let shows = after ∙ sym (ap (λ (k : Invocation). (performed_effect p v t k).after) is) in
    record {
      reply_is = replied ∙ sym (ap (λ (k : Invocation). (performed_effect p v t k).reply) is);
      after_is = shows;
      within = invocation_within p v w t done forest allowed shows;
    }
