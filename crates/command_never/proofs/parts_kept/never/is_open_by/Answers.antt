-- The proof of `is_open_by`: the goals that a search leaves open.
use Rattle.std.proofs.Common.{◌∙◌}
use Rattle.command_never.proofs.OpenOnes.{open_here}
use Rattle.command_never.proofs.parts_kept.never.is_open_by.Goals as goal

pub returns : goal.returns
returns g c =
    let layout = c.args.layout.now in
    let between = c.args.between.now in
    c.is_open.ensures
    ∙ open_here g.P.Profile.profile layout.memory.now layout.uses.now layout.waits.now between.by.now between.from between.to c.args.endpoint c.uses_on.result.now
    (c.uses_on.ensures ∙ c.requires.same c.args.endpoint)
