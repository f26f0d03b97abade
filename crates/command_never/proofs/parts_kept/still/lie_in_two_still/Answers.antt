-- The proof of `lie_in_two_still`: the goals that a search leaves open.
use Rattle.std.proofs.Common.{◌∙◌, sym}
use Rattle.command_never.proofs.StillTested.{two_still}
use Rattle.command_never.proofs.parts_kept.still.lie_in_two_still.Goals as goal

pub returns : goal.returns
returns g c is =
    two_still g.P.Profile.profile c.args.callers.now.trusted.now c.args.callers.now.memory.now c.args.kernel.now c.args.from c.args.to c.in-Some-Some.i c.in-Some-Some.j
    (sym c.part_at.ensures ∙ c.in-Some-Some.is-0) (sym c.part_at-2.ensures ∙ c.in-Some-Some.is-1) c.if-i-j.false (sym c.are_still_callers-are.ensures ∙ is)
