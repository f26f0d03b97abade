use Rattle.std.proofs.Common.{◌≡◌, filter, take}
use Rattle.command_never.specs.Never.{is_open}
use Rattle.command_never.proofs.parts_kept.never.open_endpoints.Given as goal

abbrev pub invariant-loop-endpoint : goal.invariant-loop-endpoint
invariant-loop-endpoint g l = l.open.items ≡ filter (is_open g.P.Profile.profile l.layout.memory.now l.layout.uses.now l.layout.waits.now l.between.by.now l.between.from l.between.to) (take l.endpoint-index l.endpoint-items)
