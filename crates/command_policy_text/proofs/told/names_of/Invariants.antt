use Rattle.std.proofs.Common.{◌≡◌, take, map, string_bytes}
use Rattle.command_policy_text.specs.Order.{in_order}
use Rattle.command_policy_text.specs.Names.{actor_name}
use Rattle.command_policy_text.proofs.told.names_of.Given as goal

abbrev pub invariant-loop-group : goal.invariant-loop-group
invariant-loop-group l = map string_bytes l.names.keys ≡ in_order (map (actor_name l.policy) (take l.group-index l.groups))
