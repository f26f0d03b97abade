use Rattle.std.proofs.Common.{◌≡◌, true, drop}
use Rattle.setup_values.specs.Names.{names_view}
use Rattle.setup_policy_file.specs.Values.{all_of}
use Rattle.setup_policy_meaning.specs.Policies.{are_untrusted, in_front, member_meant}
use Rattle.setup_policy_meaning.proofs.resolve.Resolver.add_members.Given as goal

abbrev pub invariant-loop-word : goal.invariant-loop-word
invariant-loop-word g l =
    let read = member_meant g.P.Profile.profile (names_view l.self.meaning.objects.names.now) l.self.meaning.setup.now.plan l.self.meaning.kernel.now l.actor in
    record {
      meant : in_front l.members.items (all_of read (drop l.word-index l.words)) ≡ in_front l.initial.members.items (all_of read l.words);
      untrusted : are_untrusted l.actors.silent.now l.actors.messages.now l.initial.members.items ≡ true → are_untrusted l.actors.silent.now l.actors.messages.now l.members.items ≡ true;
    }
