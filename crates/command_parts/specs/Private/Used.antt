-- What parts may do with endpoints; and the endpoints that are used: the memory that has an address of each, and the parts that may
-- receive on it.
use Rattle.std.specs.Prelude.{ℕ, ◌-◌, ◌^◌, Bool, ◌&&◌, ◌||◌, cond, nat_le, nat_lt, List, [], map, filter}
use Rattle.std.specs.List.{list_any}
use Rattle.cap_core.specs.declared.profile.ProfileName.{ProfileName}
use Rattle.cap_core.specs.Numbers.{endpoint_bits}
use Rattle.cap_core.specs.Rights.{read_bit}
use Rattle.query_parts.specs.declared.listed.PartMemory.{PartMemory}
use Rattle.query_parts.specs.declared.listed.PartUse.{PartUse}
use Rattle.command_parts.specs.declared.ways.UsedEndpoint.{UsedEndpoint}
use Rattle.query_parts.specs.Order.{owns_endpoint}
use Rattle.command_parts.specs.declared.ways.Passing.{Passing}
use Rattle.command_parts.specs.declared.ways.Right.{Right}
use Rattle.command_parts.specs.declared.ways.Right.TheVariants.{Pass, SendAny, Receive}
use Rattle.command_parts.specs.declared.ways.Way.{Way}
use Rattle.command_parts.specs.Telling.{PartTexts}
use Rattle.command_parts.specs.Text.{endpoints_used, is_use, may_part_receive, may_pass, passes_by, passing_line, receivers_on, sends_with_any}

-- a use by which a part may do this with an endpoint
abbrev pub is_use_for : Right → ℕ → ℕ → PartUse → Bool
is_use_for (Pass passing) part endpoint u = passes_by passing part endpoint u
is_use_for SendAny part endpoint u = sends_with_any part endpoint u
is_use_for Receive part endpoint u = is_use read_bit part endpoint u

-- by such a use, or as the one who owns the endpoint
abbrev pub may_do : ProfileName → Right → List PartMemory → List PartUse → ℕ → ℕ → Bool
may_do p right memory uses part endpoint = owns_endpoint p memory part endpoint || list_any (is_use_for right part endpoint) uses

-- the line of a way, if something passes by it
abbrev pub way_where : PartTexts → Passing → ProfileName → List PartMemory → List PartUse → Way → List ℕ
way_where told passing p memory uses w =
    cond (may_pass passing p memory uses w.from w.endpoint && may_part_receive p memory uses w.endpoint w.to) (passing_line told passing w) []

-- a stretch has an address of the endpoint at an address
abbrev pub meets_endpoint : ProfileName → ℕ → PartMemory → Bool
meets_endpoint p endpoint m = nat_le endpoint m.last && nat_lt (m.first - endpoint) (2 ^ endpoint_bits p)

-- the stretches that have an address of an endpoint
abbrev pub memory_on : ProfileName → List PartMemory → ℕ → List PartMemory
memory_on p memory endpoint = filter (meets_endpoint p endpoint) memory

-- what is known of an endpoint
pub record Used : Type 0 where
  pub address : ℕ
  pub memory : List PartMemory
  pub receivers : List ℕ

abbrev pub used_view : UsedEndpoint → Used
used_view u = record { address = u.address; memory = u.memory.items; receivers = u.receivers.items }

abbrev pub used_on : ProfileName → List PartMemory → List PartUse → ℕ → Used
used_on p memory uses endpoint = record { address = endpoint; memory = memory_on p memory endpoint; receivers = receivers_on p memory uses endpoint }

-- the endpoints that are used, rising
abbrev pub all_used : ProfileName → List PartMemory → List PartUse → List Used
all_used p memory uses = map (used_on p memory uses) (endpoints_used uses)
