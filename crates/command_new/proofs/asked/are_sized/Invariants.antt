use Rattle.std.proofs.Common.{All, take}
use Rattle.kernel_abstract.specs.Plan.{IsUntypedSize}
use Rattle.command_new.proofs.asked.are_sized.Given as goal

-- the regions so far lie within the profile
abbrev pub invariant-loop-region : goal.invariant-loop-region
invariant-loop-region g l = All (IsUntypedSize g.P.Profile.profile) (take l.region-index l.untypeds)
