-- What passes between two threads that are ready to pass is shown by the calls by which it passes.
use Rattle.std.proofs.Common.{◌≡◌, ◌≢◌, inl, inr, ℕ, ◌+◌, ◌-◌, refl, sym, ap, subst, ◌∙◌, arith, true, not, List, [], ◌∷◌, ◌++◌, length, Some, slice_get, eq-eqb}
use Rattle.std.specs.List.{list_all, AllByRecursion as Each}
use Rattle.cap_core.specs.declared.profile.ProfileName.{ProfileName}
use Rattle.cap_core.specs.declared.capability.Badge.{Badge}
use Rattle.cap_core.specs.declared.message.Message.{Message}
use Rattle.cap_core.specs.Rights.{write_bit, read_bit}
use Rattle.kernel_abstract.specs.declared.call.Call.{Call}
use Rattle.kernel_abstract.specs.declared.call.Reply.{Reply}
use Rattle.kernel_abstract.specs.declared.call.Reply.TheVariants.{Delivered}
use Rattle.kernel_abstract.specs.State.{State, shown}
use Rattle.kernel_abstract.specs.Reached.{IsReached}
use Rattle.query_parts.proofs.Lists.{and_true}
use Rattle.setup_report.specs.State.{is_in}
use Rattle.command_never.specs.Still.{IsReadyToPass}
use Rattle.command_how_witness.specs.declared.asked.Happening.TheVariants as happening
use Rattle.command_how_witness.specs.Witness.{Asking, may_thread_call, is_caller, is_badge, is_message, is_message_last, ends_in_message, ShowsMessage, ShowsIt}
use Rattle.command_how_witness.specs.Still.{HoldsEndpoint, SendsOrReceives}
use Rattle.command_how_witness.specs.StillDecided.{IsShownAlone}
use Rattle.command_how_witness.proofs.CanPass.{passes_live}

-- ---- the last of some replies

at_last : (rs : List Reply) (r : Reply) → slice_get (rs ++ r ∷ []) (length rs) ≡ Some r
at_last [] r = refl
at_last (x ∷ rs) r = at_last rs r

one_less : (rs : List Reply) (r : Reply) → length (rs ++ r ∷ []) - 1 ≡ length rs
one_less rs r = (let more = longer rs in omega (arith, more))
  where
    longer : (xs : List Reply) → length (xs ++ r ∷ []) ≡ length xs + 1
    longer [] = refl
    longer (x ∷ xs) = (let more = longer xs in omega (arith, more))

last_is : (rs : List Reply) (r : Reply) → slice_get (rs ++ r ∷ []) (length (rs ++ r ∷ []) - 1) ≡ Some r
last_is rs r = ap (slice_get (rs ++ r ∷ [])) (one_less rs r) ∙ at_last rs r

-- ---- the calls show the message

no_message : Message
no_message = record { label = 0; words = 0 ∷ 0 ∷ 0 ∷ 0 ∷ []; count = 0 }

-- both threads may call, and are ready to pass
pub record MayShow (p : ProfileName) (q : Asking) (A : State) : Type 0 where
  pub two : q.from ≢ q.to
  pub from_calls : may_thread_call q.memory q.without q.from ≡ true
  pub to_calls : may_thread_call q.memory q.without q.to ≡ true
  pub from_ready : IsReadyToPass p (shown A) q.from
  pub to_ready : IsReadyToPass p (shown A) q.to

module _ (p : ProfileName) (q : Asking) (A : State) (may : MayShow p q A) where
  calls_one : (call : Call) → SendsOrReceives q.from q.to call → is_caller q call ≡ true
  calls_one call (inl sends) = ap (may_thread_call q.memory q.without) sends.0 ∙ may.from_calls
  calls_one call (inr receives) = ap (may_thread_call q.memory q.without) receives.0 ∙ may.to_calls

  call_all : (calls : List Call) → Each (SendsOrReceives q.from q.to) calls → list_all (is_caller q) calls ≡ true
  call_all [] kinds = refl
  call_all (call ∷ calls) kinds = and_true _ _ (calls_one call kinds.0) (call_all calls kinds.1)

  -- of an endpoint that is not named, to which the one has a capability with Write and a badge that is asked for, and the other with Read
  pub shown_alone : IsReached p A → q.what ≡ happening.Message → (e : ℕ) (badge other : Badge) → not (is_in e q.by) ≡ true → is_badge q.badge badge.0 ≡ true →
      HoldsEndpoint p A.derivations write_bit q.from e badge → HoldsEndpoint p A.derivations read_bit q.to e other → IsShownAlone p q A
  shown_alone reached what e badge other named wanted sends receives =
      let run = passes_live p A e q.from q.to badge other no_message reached may.from_ready may.to_ready may.two sends receives in
      let told : is_message q (Delivered e q.from q.to badge no_message) ≡ true =
      and_true _ _ (eq-eqb q.from q.from refl) (and_true _ _ (eq-eqb q.to q.to refl) (and_true _ _ named wanted)) in
      let last = last_is run.passes.earlier (Delivered e q.from q.to badge no_message) in
      let shows : ShowsMessage p q A run.passes.calls = record {
        callers = call_all run.passes.calls run.passes.kinds;
        live = λ n low. and_true _ _ (run.live n low).0 (run.live n low).1;
        happens = ap (ends_in_message q) run.passes.answered ∙ (ap (is_message_last q) last ∙ told);
      } in
      record { calls = run.passes.calls; kinds = run.passes.kinds; shows = subst (ShowsIt p q A run.passes.calls) (sym what) shows }
