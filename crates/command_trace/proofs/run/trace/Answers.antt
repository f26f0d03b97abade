use Rattle.std.proofs.Common.{◌≡◌, ◌++◌, codes, map, length, string_bytes, ap, ◌∙◌}
use Rattle.std.proofs.lemmas.List.{length-map}
use Rattle.toml.specs.View.{table_view}
use Rattle.kernel_abstract.specs.Boot.{boot}
use Rattle.kernel_abstract.specs.State.{shown}
use Rattle.setup_format.specs.Views.{CallView}
use Rattle.setup_values.specs.Names.{names_view}
use Rattle.setup_report.specs.Naming.{naming_view}
use Rattle.setup_report.specs.Report.{terminated, met_count, expectation_count}
use Rattle.command_trace.specs.Names.{name_lines}
use Rattle.command_trace.specs.Told.{told_changes, told_lines, nothing_told}
use Rattle.command_check.specs.Program.{replies_to}
use Rattle.command_trace.specs.Trace.{trace_head_line, traced_calls_lines, count_line, trace_told}
use Rattle.setup_report.proofs.Runs.{boot_reached, replies_length}
use Rattle.command_trace.proofs.TextSteps.{whole_text}
use Rattle.command_trace.proofs.run.trace.Goals as goal

pub add_calls-requires-clause-reached : goal.add_calls-requires-clause-reached
add_calls-requires-clause-reached g c =
    let p = g.P.Profile.profile in
    (boot p c.args.setup.now.plan, boot_reached p c.args.setup.now.plan c.requires, c.in_ok-kernel.ensures.shows ∙ ap (λ plan. shown (boot p plan)) c.plan.ensures.plan)

pub expectations-requires : goal.expectations-requires
unfolding replies_to
expectations-requires g c =
    let p = g.P.Profile.profile in
    let plan = c.args.setup.now.plan in
    let stands = c.in_ok-kernel.ensures.shows ∙ ap (λ plan. shown (boot p plan)) c.plan.ensures.plan in
    let replies : c.as_slice.result.now ≡ replies_to p c.args.setup.now =
    c.as_slice.ensures.value ∙ c.in_ok-replies.ensures.replies (boot p plan) (boot_reached p plan c.requires) stands in
    ap length replies
    ∙ replies_length p (boot p plan) (map (λ (k : CallView). k.call) c.args.setup.now.calls)
    ∙ length-map c.args.setup.now.calls (λ (k : CallView). k.call)

pub returns-clause-text : goal.returns-clause-text
unfolding trace_told replies_to
returns-clause-text g c =
    let texts = naming_view c.args.naming.now in
    let p = g.P.Profile.profile in
    let plan = c.args.setup.now.plan in
    let stands = c.in_ok-kernel.ensures.shows ∙ ap (λ plan. shown (boot p plan)) c.plan.ensures.plan in
    let replies : c.as_slice.result.now ≡ replies_to p c.args.setup.now =
    c.as_slice.ensures.value ∙ c.in_ok-replies.ensures.replies (boot p plan) (boot_reached p plan c.requires) stands in
    let calls = c.args.setup.now.calls in
    (λ i. (c.into_bytes.ensures.value i).items)
    ∙ whole_text (string_bytes c.add_names.new.out) (string_bytes c.add_boot.new.out) (string_bytes c.tell.new.out) (string_bytes c.add_calls.new.out) (string_bytes c.add_expectations.new.out)
    _ _ _ _ _
    (c.in_ok-add_names.ensures ∙ ap (λ l. l ++ name_lines (names_view c.args.names.now)) (c.in_ok-add_head.ensures ∙ ap (λ l. l ++ trace_head_line c.args.setup.now) c.new-out.ensures.bytes))
    c.in_ok-add_boot.ensures
    c.in_ok-told.ensures.text
    (c.in_ok-replies.ensures.text (boot p plan) (boot_reached p plan c.requires) stands)
    c.in_ok-add_expectations.ensures
    ∙ (λ i. (trace_head_line c.args.setup.now ++ name_lines (names_view c.args.names.now))
    ++ ((terminated (codes "0 boot") ++ told_changes nothing_told (told_lines texts p (stands i)))
    ++ (traced_calls_lines c.args.ways texts p (table_view c.args.table.now) 0 (boot p plan) calls
    ++ count_line
    ((c.in_ok-count.ensures.met ∙ ap (met_count calls) replies) i)
    ((c.in_ok-count.ensures.expected ∙ ap (expectation_count calls) replies) i))))

pub returns-clause-met : goal.returns-clause-met
unfolding replies_to
returns-clause-met g c =
    let p = g.P.Profile.profile in
    let plan = c.args.setup.now.plan in
    let stands = c.in_ok-kernel.ensures.shows ∙ ap (λ plan. shown (boot p plan)) c.plan.ensures.plan in
    let replies : c.as_slice.result.now ≡ replies_to p c.args.setup.now =
    c.as_slice.ensures.value ∙ c.in_ok-replies.ensures.replies (boot p plan) (boot_reached p plan c.requires) stands in
    c.in_ok-count.ensures.met ∙ ap (met_count c.args.setup.now.calls) replies

pub returns-clause-expected : goal.returns-clause-expected
unfolding replies_to
returns-clause-expected g c =
    let p = g.P.Profile.profile in
    let plan = c.args.setup.now.plan in
    let stands = c.in_ok-kernel.ensures.shows ∙ ap (λ plan. shown (boot p plan)) c.plan.ensures.plan in
    let replies : c.as_slice.result.now ≡ replies_to p c.args.setup.now =
    c.as_slice.ensures.value ∙ c.in_ok-replies.ensures.replies (boot p plan) (boot_reached p plan c.requires) stands in
    c.in_ok-count.ensures.expected ∙ ap (expectation_count c.args.setup.now.calls) replies
