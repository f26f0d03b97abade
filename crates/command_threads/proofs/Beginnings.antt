-- A kernel behind the first calls of a set-up.
use Rattle.std.proofs.Common.{◌≡◌, ℕ, List, [], ◌++◌, length, map, take, ap, ◌∙◌, arith}
use Rattle.std.proofs.lemmas.List.{length-map, length-take-le, take-map}
use Rattle.cap_core.specs.declared.profile.ProfileName.{ProfileName}
use Rattle.kernel_abstract.specs.declared.call.Call.{Call}
use Rattle.kernel_abstract.specs.declared.call.Reply.{Reply}
use Rattle.kernel_abstract.specs.Boot.{boot}
use Rattle.kernel_abstract.specs.Plan.{IsPlan, Plan}
use Rattle.kernel_abstract.specs.Reached.{IsReached}
use Rattle.kernel_abstract.specs.Shown.{Shown}
use Rattle.kernel_abstract.specs.State.{State, shown}
use Rattle.kernel_abstract.specs.Step.{replies_of, state_after}
use Rattle.setup_report.proofs.Runs.{boot_reached, replies_length}
use Rattle.setup_format.specs.Views.{CallView, SetupView}
use Rattle.command_threads.specs.Private.Begun.{IsBegunKernel, calls_in}
use Rattle.command_threads.specs.SharedRuns.{count_first, first_calls}

pub begun : (p : ProfileName) (setup : SetupView) (first n : ℕ) (plan : Plan) (items calls : List Call) (none replies : List Reply) (booted kernel : Shown)
    → IsPlan p setup.plan → plan ≡ setup.plan → n ≡ count_first first setup → items ≡ map (λ (c : CallView). c.call) setup.calls → calls ≡ take n items
    → booted ≡ shown (boot p plan) → none ≡ []
    → ((A : State) → IsReached p A → booted ≡ shown A → replies ≡ none ++ replies_of p A calls)
    → ((A : State) → IsReached p A → booted ≡ shown A → kernel ≡ shown (state_after p A calls)) → IsBegunKernel p setup first replies kernel
begun p setup first n plan items calls none replies booted kernel lawful planned many listed sliced shows empty answered stands =
    let A = boot p setup.plan in
    let reached : IsReached p A = boot_reached p setup.plan lawful in
    let is : booted ≡ shown A = shows ∙ ap (λ (x : Plan). shown (boot p x)) planned in
    let made : calls ≡ calls_in (first_calls first setup) =
    sliced ∙ (ap (take n) listed ∙ (take-map (λ (c : CallView). c.call) n setup.calls ∙ ap (λ k. calls_in (take k setup.calls)) many)) in record {
      answered = answered A reached is ∙ (ap (λ (l : List Reply). l ++ replies_of p A calls) empty ∙ ap (replies_of p A) made);
      stands = stands A reached is ∙ ap (λ (cs : List Call). shown (state_after p A cs)) made;
    }

-- as many replies as calls are made first
pub many_begun : (p : ProfileName) (setup : SetupView) (first : ℕ) (replies : List Reply) (kernel : Shown) → IsBegunKernel p setup first replies kernel → length replies ≡ count_first first setup
many_begun p setup first replies kernel b =
    let n = length-take-le (count_first first setup) setup.calls (omega arith) in
    ap length b.answered ∙ (replies_length p (boot p setup.plan) (calls_in (first_calls first setup)) ∙ (length-map (first_calls first setup) (λ (c : CallView). c.call) ∙ n))
