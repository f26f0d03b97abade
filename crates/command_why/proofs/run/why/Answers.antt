-- The proof of `why`: the goals that a search leaves open.
use Rattle.std.proofs.Common.{◌≡◌, ◌++◌, map, length, string_bytes, ap, ◌∙◌}
use Rattle.std.proofs.lemmas.List.{length-map}
use Rattle.toml.specs.View.{table_view}
use Rattle.kernel_abstract.specs.Boot.{boot}
use Rattle.kernel_abstract.specs.State.{shown}
use Rattle.setup_format.specs.Views.{CallView}
use Rattle.setup_report.specs.Naming.{naming_view}
use Rattle.setup_report.specs.Report.{met_count, expectation_count}
use Rattle.command_check.specs.Program.{replies_to}
use Rattle.command_why.specs.Why.{calls_lines, why_ending, refused_count, why_of}
use Rattle.setup_report.proofs.Runs.{boot_reached, replies_length}
use Rattle.command_why.proofs.run.why.Goals as goal

pub expectations-requires : goal.expectations-requires
unfolding replies_to
expectations-requires g c =
    let p = g.P.Profile.profile in
    let plan = c.args.setup.now.plan in
    let stands = c.in_ok-kernel.ensures.shows ∙ ap (λ plan. shown (boot p plan)) c.plan.ensures.plan in
    let replies : c.as_slice.result.now ≡ replies_to p c.args.setup.now =
    c.as_slice.ensures.value ∙ c.in_ok-replies.ensures.replies (boot p plan) (boot_reached p plan c.requires) stands in
    ap length replies
    ∙ replies_length p (boot p plan) (map (λ (k : CallView). k.call) c.args.setup.now.calls)
    ∙ length-map c.args.setup.now.calls (λ (k : CallView). k.call)

pub returns-clause-met : goal.returns-clause-met
unfolding replies_to
returns-clause-met g c =
    let p = g.P.Profile.profile in
    let plan = c.args.setup.now.plan in
    let stands = c.in_ok-kernel.ensures.shows ∙ ap (λ plan. shown (boot p plan)) c.plan.ensures.plan in
    let replies : c.as_slice.result.now ≡ replies_to p c.args.setup.now =
    c.as_slice.ensures.value ∙ c.in_ok-replies.ensures.replies (boot p plan) (boot_reached p plan c.requires) stands in
    c.in_ok-count.ensures.met ∙ ap (met_count c.args.setup.now.calls) replies

pub returns-clause-expected : goal.returns-clause-expected
unfolding replies_to
returns-clause-expected g c =
    let p = g.P.Profile.profile in
    let plan = c.args.setup.now.plan in
    let stands = c.in_ok-kernel.ensures.shows ∙ ap (λ plan. shown (boot p plan)) c.plan.ensures.plan in
    let replies : c.as_slice.result.now ≡ replies_to p c.args.setup.now =
    c.as_slice.ensures.value ∙ c.in_ok-replies.ensures.replies (boot p plan) (boot_reached p plan c.requires) stands in
    c.in_ok-count.ensures.expected ∙ ap (expectation_count c.args.setup.now.calls) replies

pub returns-clause-text : goal.returns-clause-text
unfolding why_of replies_to
returns-clause-text g c =
    let p = g.P.Profile.profile in
    let plan = c.args.setup.now.plan in
    let calls = c.args.setup.now.calls in
    let stands = c.in_ok-kernel.ensures.shows ∙ ap (λ plan. shown (boot p plan)) c.plan.ensures.plan in
    let replies : c.as_slice.result.now ≡ replies_to p c.args.setup.now =
    c.as_slice.ensures.value ∙ c.in_ok-replies.ensures.replies (boot p plan) (boot_reached p plan c.requires) stands in
    let again : c.as_slice-2.result.now ≡ replies_to p c.args.setup.now =
    c.as_slice-2.ensures.value ∙ c.in_ok-replies.ensures.replies (boot p plan) (boot_reached p plan c.requires) stands in
    let many : length c.as_slice-2.result.now ≡ length calls =
    ap length again ∙ replies_length p (boot p plan) (map (λ (k : CallView). k.call) calls) ∙ length-map calls (λ (k : CallView). k.call) in
    let text = calls_lines (naming_view c.args.naming.now) p (table_view c.args.table.now) c.args.chosen 0 (boot p plan) calls in
    let told : string_bytes c.add_calls.new.out ≡ text =
    c.in_ok-replies.ensures.text (boot p plan) (boot_reached p plan c.requires) stands
    ∙ ap (λ l. l ++ text) c.new-out.ensures.bytes in
    (λ i. (c.into_bytes.ensures.value i).items)
    ∙ c.in_ok-add_ending.ensures
    ∙ (λ i. told i ++ why_ending c.args.chosen (many i) (refused_count (again i))
    ((c.in_ok-count.ensures.met ∙ ap (met_count calls) replies) i)
    ((c.in_ok-count.ensures.expected ∙ ap (expectation_count calls) replies) i))
