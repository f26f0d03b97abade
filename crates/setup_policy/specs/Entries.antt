-- What an entry of a policy lets its threads hold.
use Rattle.std.specs.Prelude.{List, map, ◌++◌}
use Rattle.cap_core.specs.Rights.{read_bit}
use Rattle.setup_policy.specs.declared.policy.Allowance.{Allowance}
use Rattle.setup_policy.specs.declared.policy.PolicyWay.{PolicyWay}

-- what a way lets its sender hold
abbrev pub sender_entry : PolicyWay → Allowance
sender_entry w = record { actor = w.from; endpoint = w.endpoint; badge = w.badge; rights = w.rights }

-- and its receiver, who may have Read with any badge
abbrev pub receiver_entry : PolicyWay → Allowance
receiver_entry w = record { actor = w.to; endpoint = w.endpoint; badge = 0; rights = record { 0 = read_bit } }

-- what ways and uses let groups hold
abbrev pub allowances_of : List PolicyWay → List Allowance → List Allowance
allowances_of ways uses = map sender_entry ways ++ (map receiver_entry ways ++ uses)
