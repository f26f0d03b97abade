-- The proof of `is_excluded_by_flow`: the goals that a search leaves open.
use Rattle.std.proofs.Common.{◌≡◌, sym, subst}
use Rattle.command_how_witness.specs.Witness.{asking_of}
use Rattle.command_how_witness.specs.Excluded.{IsOutsideFlow}
use Rattle.command_how_witness.proofs.by_flow.is_excluded_by_flow.Goals as goal

pub returns-in_ok-is-in-Hold : goal.returns-in_ok-is-in-Hold
returns-in_ok-is-in-Hold g c told =
    subst (IsOutsideFlow g.P.Profile.profile (asking_of c.args.asked.now) c.args.kernel.now) (sym c.in-Hold.is) (c.in_ok-is-in-Hold.ensures told)
