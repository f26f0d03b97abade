-- The equations of runs, and a run that goes on by one call.
use Rattle.std.proofs.Common.{◌≡◌, ℕ, ◌+◌, ◌<◌, List, [], ◌∷◌, ◌++◌, refl, sym, ap, ◌∙◌, length, take, get_or, append_assoc}
use Rattle.std.proofs.lemmas.List.{take_more}
use Rattle.kernel_abstract.specs.declared.call.Call.{Call}
use Rattle.kernel_abstract.specs.declared.call.Reply.{Reply}
use Rattle.cap_core.specs.declared.profile.ProfileName.{ProfileName}
use Rattle.kernel_abstract.specs.Reached.{IsReached, StepsTo}
use Rattle.kernel_abstract.specs.Shown.{Shown}
use Rattle.kernel_abstract.specs.State.{State, shown}
use Rattle.kernel_abstract.specs.Boot.{boot}
use Rattle.kernel_abstract.specs.Step.{replies_of, state_after, step}

pub state_after-nil : (p : ProfileName) (A : State) → state_after p A [] ≡ A
unfolding state_after
state_after-nil p A = refl

pub state_after-cons : (p : ProfileName) (A : State) (call : Call) (calls : List Call) →
    state_after p A (call ∷ calls) ≡ state_after p (step p A call).state calls
unfolding state_after
state_after-cons p A call calls = refl

pub state_after-append : (p : ProfileName) (A : State) (calls more : List Call) → state_after p A (calls ++ more) ≡ state_after p (state_after p A calls) more
unfolding state_after
state_after-append p A [] more = refl
state_after-append p A (call ∷ calls) more = state_after-append p (step p A call).state calls more

pub state_after-snoc : (p : ProfileName) (A : State) (calls : List Call) (call : Call) →
    state_after p A (calls ++ call ∷ []) ≡ (step p (state_after p A calls) call).state
unfolding state_after
state_after-snoc p A calls call = state_after-append p A calls (call ∷ [])

pub replies_of-nil : (p : ProfileName) (A : State) → replies_of p A [] ≡ []
unfolding replies_of
replies_of-nil p A = refl

pub replies_of-cons : (p : ProfileName) (A : State) (call : Call) (calls : List Call) →
    replies_of p A (call ∷ calls) ≡ (step p A call).reply ∷ replies_of p (step p A call).state calls
unfolding replies_of
replies_of-cons p A call calls = refl

pub replies_of-append : (p : ProfileName) (A : State) (calls more : List Call) → replies_of p A (calls ++ more) ≡ replies_of p A calls ++ replies_of p (state_after p A calls) more
unfolding replies_of state_after
replies_of-append p A [] more = refl
replies_of-append p A (call ∷ calls) more = ap (λ (rest : List Reply). (step p A call).reply ∷ rest) (replies_of-append p (step p A call).state calls more)

pub replies_of-snoc : (p : ProfileName) (A : State) (calls : List Call) (call : Call) →
    replies_of p A (calls ++ call ∷ []) ≡ replies_of p A calls ++ (step p (state_after p A calls) call).reply ∷ []
unfolding replies_of
replies_of-snoc p A calls call = replies_of-append p A calls (call ∷ [])

pub reached_after : (p : ProfileName) (A : State) (calls : List Call) → IsReached p A → IsReached p (state_after p A calls)
reached_after p A calls r =
    record {
      plan = r.plan;
      lawful = r.lawful;
      calls = r.calls ++ calls;
      is = ap (λ (B : State). state_after p B calls) r.is ∙ sym (state_after-append p (boot p r.plan) r.calls calls);
    }

-- one more step of a run
pub run_more : (p : ProfileName) (A : State) (calls : List Call) (i : ℕ) (d : Call) (reply : Reply) (before replies replies' : List Reply) (v : Shown) → i < length calls →
    StepsTo p (state_after p A (take i calls)) (get_or calls i d) reply v →
    replies ≡ before ++ replies_of p A (take i calls) → replies' ≡ replies ++ reply ∷ [] →
    (replies' ≡ before ++ replies_of p A (take (i + 1) calls)) × (v ≡ shown (state_after p A (take (i + 1) calls)))
run_more p A calls i d reply before replies replies' v lt stepped so_far pushed =
    let more = take_more calls i d lt in
    let call = get_or calls i d in (
      pushed ∙ ap (λ (xs : List Reply). xs ++ reply ∷ []) so_far ∙ append_assoc before (replies_of p A (take i calls)) (reply ∷ [])
          ∙ ap (λ (x : Reply). before ++ (replies_of p A (take i calls) ++ x ∷ [])) stepped.reply_is
          ∙ ap (λ (xs : List Reply). before ++ xs) (sym (ap (replies_of p A) more ∙ replies_of-snoc p A (take i calls) call)),
      stepped.shows ∙ ap shown (sym (ap (state_after p A) more ∙ state_after-snoc p A (take i calls) call)),
    )
