-- The order of siblings after changes, as of any lines that rise.
use Rattle.std.proofs.Common.{◌≡◌, List, [], ◌∷◌, ◌++◌, map, None, refl, sym, ap, ◌∙◌}
use Rattle.cap_core.specs.declared.profile.ProfileName.{ProfileName}
use Rattle.kernel_forest.specs.Forest.{Forest}
use Rattle.kernel_forest.specs.Entries.{Entry, slots}
use Rattle.kernel_abstract.specs.declared.call.Call.{Call}
use Rattle.kernel_abstract.specs.Boot.{boot}
use Rattle.kernel_abstract.specs.Plan.{Plan}
use Rattle.kernel_abstract.specs.State.{State, shown}
use Rattle.kernel_abstract.specs.Step.{step, state_after}
use Rattle.setup_report.specs.Naming.{Texts}
use Rattle.command_trace.specs.Lines.{Lines}
use Rattle.command_trace.specs.Siblings.{siblings, sibling_at, sibling_lines}
use Rattle.command_trace.specs.Told.{told_lines}
use Rattle.command_trace_laws.specs.Laws.{Difference, Rise, apply, applied, differences, flipped, order_in, run_order, order_differences, all_changes}
use Rattle.command_trace_laws.proofs.Applied.{all_applied}
use Rattle.command_trace_laws.proofs.Backwards.{lead_back}
use Rattle.command_trace_laws.proofs.Replays.{none_rise}
use Rattle.command_trace.proofs.Views.{rises_at, nothing_differs}

pub order_rises : (texts : Texts) (f : Forest Entry) → Rise (sibling_lines texts f)
order_rises texts f = rises_at (sibling_at texts (siblings None f)) (slots f) _ refl

pub order_applied : (texts : Texts) (f g : Forest Entry) → applied (sibling_lines texts f) (differences (sibling_lines texts f) (sibling_lines texts g)) ≡ sibling_lines texts g
order_applied texts f g = all_applied (sibling_lines texts f) (sibling_lines texts g) (order_rises texts f) (order_rises texts g)

pub order_back : (texts : Texts) (f g : Forest Entry) → applied (sibling_lines texts g) (map flipped (differences (sibling_lines texts f) (sibling_lines texts g))) ≡ sibling_lines texts f
order_back texts f g = lead_back (sibling_lines texts f) (sibling_lines texts g) (order_rises texts f) (order_rises texts g)

-- ---- runs

applied_both : (lines : Lines) (ds es : List Difference) → applied lines (ds ++ es) ≡ applied (applied lines ds) es
applied_both lines [] es = refl
applied_both lines (d ∷ ds) es = applied_both (apply lines d) ds es

run_applied : (texts : Texts) (p : ProfileName) (A : State) (calls : List Call) → applied (order_in texts A) (run_order texts p A calls) ≡ order_in texts (state_after p A calls)
unfolding run_order state_after
run_applied texts p A [] = refl
run_applied texts p A (call ∷ calls) =
    let B = (step p A call).state in
    applied_both (order_in texts A) (differences (order_in texts A) (order_in texts B)) (run_order texts p B calls)
    ∙ ap (λ l. applied l (run_order texts p B calls)) (order_applied texts (shown A).derivations (shown B).derivations)
    ∙ run_applied texts p B calls

pub order_replayed : (texts : Texts) (p : ProfileName) (plan : Plan) (calls : List Call) → applied [] (order_differences texts p plan calls) ≡ order_in texts (state_after p (boot p plan) calls)
order_replayed texts p plan calls =
    let booted = order_in texts (boot p plan) in
    applied_both [] (differences [] booted) (run_order texts p (boot p plan) calls)
    ∙ ap (λ l. applied l (run_order texts p (boot p plan) calls)) (all_applied [] booted none_rise.threads (order_rises texts (shown (boot p plan)).derivations))
    ∙ run_applied texts p (boot p plan) calls

-- ---- calls without effect

pub same_told_whole : (texts : Texts) (p : ProfileName) (A : State) (call : Call) → shown (step p A call).state ≡ shown A → all_changes texts p A call ≡ []
same_told_whole texts p A call same = nothing_differs (told_lines texts p (shown A)) (told_lines texts p (shown (step p A call).state)) (ap (told_lines texts p) (sym same))
