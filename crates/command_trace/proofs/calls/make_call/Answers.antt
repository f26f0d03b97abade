use Rattle.std.proofs.Common.{◌+◌, ◌++◌, sym, ap, subst, ◌∙◌, string_bytes, option_copied}
use Rattle.kernel_abstract.specs.Reached.{StepsTo}
use Rattle.setup_report.specs.Naming.{naming_view}
use Rattle.setup_report.specs.Report.{terminated, call_text}
use Rattle.command_trace.specs.Told.{told_lines, told_changes}
use Rattle.command_why.specs.Why.{reason_lines_of}
use Rattle.command_trace.specs.Trace.{words_line, why_text}
use Rattle.command_trace.specs.Ways.{ways_asked}
use Rattle.command_trace.proofs.Derives.{made}
use Rattle.command_trace.proofs.Steps.{call_is, expected_is}
use Rattle.command_trace.proofs.TextSteps.{five_parts}
use Rattle.command_trace.proofs.calls.make_call.Goals as goal

pub tell_made-requires : goal.tell_made-requires
tell_made-requires g c =
    let texts = naming_view c.args.naming.now in
    let p = g.P.Profile.profile in
    let A = c.requires.reached.0 in
    let same = c.requires.reached.2 in (
      A,
      _,
      made texts p A _ c.step-reply.result c.args.kernel.now c.step-reply.new.self c.in_ok-foreseen.foreseen _ c.requires.reached.1 same
          (c.step-reply.ensures.stands A c.requires.reached.1 same) c.explain_call-found.ensures c.in_ok-foreseen.ensures,
    )

pub returns-clause-steps : goal.returns-clause-steps
returns-clause-steps g c = λ A call reached same there.
    subst (λ k. StepsTo g.P.Profile.profile A k c.step-reply.result c.step-reply.new.self)
    (call_is c.args.setup.now.calls c.calls.result.now c.args.i _ call c.calls.ensures there)
    (c.step-reply.ensures.stands A reached same)

pub returns-clause-text : goal.returns-clause-text
returns-clause-text g c = λ call there.
    let texts = naming_view c.args.naming.now in
    let p = g.P.Profile.profile in
    let one = call_is c.args.setup.now.calls c.calls.result.now c.args.i _ call c.calls.ensures there in
    let expected = expected_is c.args.setup.now.calls c.args.i (option_copied c.expect.result) call c.expect.ensures there in
    let told = told_lines texts p c.step-reply.new.self in
    let A = c.requires.reached.0 in
    let same = c.requires.reached.2 in
    let step = made texts p A _ c.step-reply.result c.args.kernel.now c.step-reply.new.self c.in_ok-foreseen.foreseen _ c.requires.reached.1 same
    (c.step-reply.ensures.stands A c.requires.reached.1 same) c.explain_call-found.ensures c.in_ok-foreseen.ensures in
    let ways = c.in_ok-push_str.ensures.bytes ∙ ap (λ l. string_bytes c.add_words.new.out ++ l) (c.as_str.ensures.value ∙ c.in_ok-ways.ensures) in
    five_parts (string_bytes c.args.out.now) (string_bytes c.add_call.new.out) (string_bytes c.add_words.new.out) (string_bytes c.push_str.new.self) (string_bytes c.add_why.new.out) (string_bytes c.tell_made.new.out) _ _ _ _ _
    c.in_ok-add_call.ensures.line c.in_ok-add_words.ensures ways c.in_ok-add_why.ensures (c.in_ok-told.ensures.text A _ step ∙ ap (λ v. string_bytes c.add_why.new.out ++ told_changes (told_lines texts p v) told) (sym same))
    ∙ (λ k. string_bytes c.args.out.now
    ++ (terminated (call_text texts (c.args.i + 1) (one k) c.step-reply.result (expected k))
    ++ (words_line (one k).op
    ++ (ways_asked c.args.ways texts p c.args.kernel.now (one k)
    ++ (why_text (c.in_ok-why.ensures k)
    ++ told_changes (told_lines texts p c.args.kernel.now) told)))))
    ∙ (λ k. string_bytes c.args.out.now
    ++ (terminated (call_text texts (c.args.i + 1) call.call c.step-reply.result call.expect)
    ++ (words_line call.call.op
    ++ (ways_asked c.args.ways texts p c.args.kernel.now call.call
    ++ (why_text (reason_lines_of texts p c.args.kernel.now (record { call = one k; table = c.call_table.ensures k }))
    ++ told_changes (told_lines texts p c.args.kernel.now) told)))))
