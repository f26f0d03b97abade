use Rattle.std.proofs.Common.{◌≡◌, drop}
use Rattle.setup_values.specs.Names.{names_view}
use Rattle.setup_policy_file.specs.Values.{all_of}
use Rattle.setup_policy_meaning.specs.Policies.{in_front, own_meant}
use Rattle.setup_policy_meaning.proofs.resolve.Resolver.add_regions.Given as goal

abbrev pub invariant-loop-word : goal.invariant-loop-word
invariant-loop-word g l =
    let read = own_meant g.P.Profile.profile (names_view l.self.meaning.objects.names.now) l.self.meaning.setup.now.plan l.self.meaning.kernel.now l.group in
    in_front l.regions.items (all_of read (drop l.word-index l.words)) ≡ in_front l.initial.regions.items (all_of read l.words)
