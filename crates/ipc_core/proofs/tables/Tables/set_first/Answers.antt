use Rattle.std.proofs.Common.{◌≡◌, arith}
use Rattle.std.proofs.lemmas.Grind.{common_steps}
use Rattle.cap_core.specs.Numbers.{endpoint_size}
use Rattle.ipc_core.specs.Representation.Linked.{row_at, idle_row}
use Rattle.ipc_core.proofs.QueueForm.EndpointRows.{endpoint_set}
use Rattle.ipc_core.proofs.tables.Tables.set_first.Goals as goal

pub returns-clause-links : goal.returns-clause-links
returns-clause-links g c =
    let row : row_at (endpoint_size g.P.Profile.profile) idle_row c.args.self.now.endpoints.items c.args.endpoint ≡ c.index_mut-row.result.now = grind (arith, common_steps) in
    rw (row, c.endpoint_place.ensures) (endpoint_set g.P.Profile.profile c.args.self.now c.args.endpoint (record { first = c.args.first; last = c.index_mut-row.result.now.last }) c.requires.aligned c.requires.within)
