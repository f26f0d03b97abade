-- What the source gave to its end are the contents, of which what is told was made.
use Rattle.std.proofs.Common.{◌≡◌, Some, arith, subst}
use Rattle.command_files.proofs.reading.make_source.Goals as goal

pub returns-in_ok-make-in-Ok : goal.returns-in_ok-make-in-Ok
returns-in_ok-make-in-Ok g c =
    let read = c.in-Ok.ensures in
    let made = c.in_ok-make-in-Ok in (
      Some c.in-Ok.input.items,
      (read.all, omega (arith, read.all.0, read.short)),
      subst (λ b. g.T.Telling.is_made c.args.telling.now b made.field-0.told × (made.field-0.verdict ≡ g.T.Telling.verdict c.args.telling.now b))
          c.as_slice.ensures.value (made.ensures.made, made.ensures.verdict),
    )
