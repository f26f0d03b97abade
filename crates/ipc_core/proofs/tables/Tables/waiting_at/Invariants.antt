use Rattle.std.proofs.Common.{◌≡◌, slice_get}
use Rattle.ipc_core.specs.Representation.Linked.{orders_in}
use Rattle.ipc_core.proofs.tables.Tables.waiting_at.Given as goal

abbrev pub invariant-loop : goal.invariant-loop
invariant-loop g l = l.here ≡ slice_get (orders_in g.P.Profile.profile l.self l.endpoint) l.counter
