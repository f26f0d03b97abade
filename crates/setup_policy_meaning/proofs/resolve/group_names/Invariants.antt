use Rattle.std.proofs.Common.{◌≡◌, map, take, string_bytes}
use Rattle.setup_policy_meaning.specs.Policies.{group_name}
use Rattle.setup_policy_meaning.proofs.resolve.group_names.Given as goal

abbrev pub invariant-loop-group : goal.invariant-loop-group
invariant-loop-group l = map string_bytes l.names.items ≡ map group_name (take l.group-index l.groups)
