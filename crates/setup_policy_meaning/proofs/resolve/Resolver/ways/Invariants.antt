use Rattle.std.proofs.Common.{◌≡◌, drop}
use Rattle.setup_values.specs.Names.{names_view}
use Rattle.setup_policy_file.specs.Values.{all_of}
use Rattle.setup_policy_meaning.specs.Policies.{in_front, way_meant}
use Rattle.setup_policy_meaning.proofs.resolve.Resolver.ways.Given as goal

abbrev pub invariant-loop-entry : goal.invariant-loop-entry
invariant-loop-entry g l =
    let read = way_meant g.P.Profile.profile (names_view l.self.meaning.objects.names.now) l.self.meaning.setup.now.plan l.self.meaning.kernel.now l.names in
    in_front l.ways.items (all_of read (drop l.entry-index l.entries)) ≡ all_of read l.entries
