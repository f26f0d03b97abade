use Rattle.std.proofs.Common.{◌≡◌, drop, length}
use Rattle.setup_policy_file.specs.Values.{all_of}
use Rattle.setup_policy_meaning.specs.Policies.{in_front, take_meant}
use Rattle.setup_policy_meaning.proofs.resolve.Resolver.takes.Given as goal

abbrev pub invariant-loop-entry : goal.invariant-loop-entry
invariant-loop-entry g l =
    let read = take_meant (length l.self.file.now.groups.items) l.names in
    in_front l.takes.items (all_of read (drop l.entry-index l.entries)) ≡ all_of read l.entries
