use Rattle.std.proofs.Common.{◌≡◌, true, drop}
use Rattle.setup_values.specs.Names.{names_view}
use Rattle.setup_policy_meaning.specs.Policies.{are_untrusted, in_front, member_meant, of_groups, own_meant, region_words, thread_words}
use Rattle.setup_policy_meaning.proofs.resolve.Resolver.groups.Given as goal

abbrev pub invariant-loop-i : goal.invariant-loop-i
invariant-loop-i g l =
    let p = g.P.Profile.profile in
    let m = l.self.meaning in
    let member = member_meant p (names_view m.objects.names.now) m.setup.now.plan m.kernel.now in
    let own = own_meant p (names_view m.objects.names.now) m.setup.now.plan m.kernel.now in
    record {
      members : in_front l.members.items (of_groups member thread_words l.i (drop l.i l.groups)) ≡ of_groups member thread_words 0 l.groups;
      untrusted : are_untrusted l.actors.silent.now l.actors.messages.now l.members.items ≡ true;
      regions : in_front l.regions.items (of_groups own region_words l.i (drop l.i l.groups)) ≡ of_groups own region_words 0 l.groups;
    }
