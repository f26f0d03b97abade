-- Where the write failed, the sink took a front of the text.
use Rattle.std.proofs.Common.{rules, ◌≡◌, ◌∙◌, Err, ap}
use Rattle.command_files.proofs.Writes.{failed}
use Rattle.command_files.proofs.telling.tell_files.Goals as goal

pub returns-in_err-write_all-in-Ok : goal.returns-in_err-write_all-in-Ok
returns-in_err-write_all-in-Ok g c =
    let told = c.in-Ok.ensures in
    let fault = c.in_err-write_all-in-Ok in
    let is : c.from_residual.result ≡ Err fault.field-0.0 = search rules in
    failed _ _ _ g.K.Sink _ c.args.sink.now c.write_all.new.sink c.from_residual.result told.0 c.as_slice.result.now told.1 (c.as_slice.ensures.value ∙ told.2)
    (is ∙ ap (λ f. Err f) fault.ensures.writing) fault.ensures.err fault.ensures.front
