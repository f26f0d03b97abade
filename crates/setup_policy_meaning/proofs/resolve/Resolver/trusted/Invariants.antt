use Rattle.std.proofs.Common.{◌≡◌, ◌++◌, map, take, drop, length, string_bytes}
use Rattle.setup_values.specs.Names.{names_view}
use Rattle.setup_policy_meaning.specs.Meant.{word_name}
use Rattle.setup_policy_meaning.specs.Policies.{all_from, in_front, member_meant}
use Rattle.setup_policy_meaning.proofs.resolve.Resolver.trusted.Given as goal

abbrev pub invariant-loop-word : goal.invariant-loop-word
invariant-loop-word g l =
    let read = member_meant g.P.Profile.profile (names_view l.self.meaning.objects.names.now) l.self.meaning.setup.now.plan l.self.meaning.kernel.now in
    record {
      names : map string_bytes l.names.items ≡ map string_bytes l.initial.names.items ++ map word_name (take l.word-index l.words);
      threads : in_front l.trusted.items (all_from read (length l.names.items) (drop l.word-index l.words)) ≡ all_from read (length l.initial.names.items) l.words;
    }
