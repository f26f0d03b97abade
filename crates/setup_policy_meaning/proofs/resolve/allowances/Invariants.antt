use Rattle.std.proofs.Common.{◌≡◌, ◌++◌, map, take}
use Rattle.setup_policy.specs.Entries.{receiver_entry, sender_entry}
use Rattle.setup_policy_meaning.proofs.resolve.allowances.Given as goal

abbrev pub invariant-loop-way : goal.invariant-loop-way
invariant-loop-way l = l.all.items ≡ map sender_entry (take l.way-index l.ways)

abbrev pub invariant-loop-way-2 : goal.invariant-loop-way-2
invariant-loop-way-2 l = l.all.items ≡ l.initial.all.items ++ map receiver_entry (take l.way-index l.ways)
