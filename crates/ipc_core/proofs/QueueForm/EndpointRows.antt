-- An endpoint's row is changed in tables.
use Rattle.std.proofs.Common.{◌≡◌, ℕ, ◌/◌, ◌%◌, ◌<◌, length, arith}
use Rattle.std.proofs.lemmas.Grind.{common_steps}
use Rattle.std.specs.Vec.{with_item}
use Rattle.cap_core.specs.declared.profile.ProfileName.{ProfileName}
use Rattle.cap_core.specs.Numbers.{endpoint_size}
use Rattle.ipc_core.specs.declared.tables.EndpointRow.{EndpointRow}
use Rattle.ipc_core.specs.declared.tables.Tables.{Tables}
use Rattle.ipc_core.specs.Representation.Linked.{links_of, set_endpoint_row}

pub endpoint_set : (p : ProfileName) (t : Tables) (e : ℕ) (row : EndpointRow) → e % endpoint_size p ≡ 0 → e / endpoint_size p < length t.endpoints.items →
    links_of p (record { threads = t.threads; endpoints = with_item t.endpoints (e / endpoint_size p) row }) ≡ set_endpoint_row e row (links_of p t)
endpoint_set p t e row aligned within = grind (arith, common_steps)
