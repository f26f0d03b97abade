use Rattle.std.proofs.Common.{◌+◌, ◌++◌, subst, ◌∙◌, string_bytes, option_copied}
use Rattle.kernel_abstract.specs.Reached.{StepsTo}
use Rattle.setup_report.specs.Naming.{naming_view}
use Rattle.setup_report.specs.Report.{call_text}
use Rattle.command_why.specs.Why.{reason_lines_of, explained_lines}
use Rattle.command_why.proofs.Steps.{call_is, expected_is}
use Rattle.command_why.proofs.calls.make_call.Goals as goal

pub returns-clause-steps : goal.returns-clause-steps
returns-clause-steps g c = λ A call reached same there.
    subst (λ k. StepsTo g.P.Profile.profile A k c.step-reply.result c.step-reply.new.self)
    (call_is c.args.setup.now.calls c.calls.result.now c.args.i _ call c.calls.ensures there)
    (c.step-reply.ensures.stands A reached same)

pub returns-clause-text : goal.returns-clause-text
returns-clause-text g c = λ call there.
    let p = g.P.Profile.profile in
    let texts = naming_view c.args.naming.now in
    let made = call_is c.args.setup.now.calls c.calls.result.now c.args.i _ call c.calls.ensures there in
    let expected = expected_is c.args.setup.now.calls c.args.i (option_copied c.expect-expected.result) call c.expect-expected.ensures there in
    c.in_ok-add_call_lines.ensures
    ∙ (λ k. string_bytes c.args.out.now ++ explained_lines c.args.chosen (c.args.i + 1) (call_text texts (c.args.i + 1) (made k) c.step-reply.result (expected k)) (c.in_ok-why.ensures k))
    ∙ (λ k. string_bytes c.args.out.now ++ explained_lines c.args.chosen (c.args.i + 1) (call_text texts (c.args.i + 1) call.call c.step-reply.result call.expect) (reason_lines_of texts p c.args.kernel.now (record { call = made k; table = c.call_table.ensures k })))
