use Rattle.std.proofs.Common.{◌≡◌, sym, ap, ◌∙◌, arith}
use Rattle.std.proofs.lemmas.List.{drop_all}
use Rattle.setup_values.specs.Names.{names_view}
use Rattle.setup_policy_file.specs.Values.{all_of}
use Rattle.setup_policy_meaning.specs.Policies.{in_front, member_meant, of_groups, own_meant, region_words, thread_words}
use Rattle.setup_policy_meaning.proofs.Groups.{one_group_more, all_groups}
use Rattle.setup_policy_meaning.proofs.resolve.Resolver.groups.Goals as goal

pub loop-i-preserved : goal.loop-i-preserved
loop-i-preserved g c =
    let p = g.P.Profile.profile in
    let m = c.args.self.now.meaning in
    let member = member_meant p (names_view m.objects.names.now) m.setup.now.plan m.kernel.now in
    let own = own_meant p (names_view m.objects.names.now) m.setup.now.plan m.kernel.now in
    record {
      members = one_group_more member thread_words c.loop-i.members.items c.add_members.new.members.items c.loop-i.i c.args.groups.now c.index-groups-i.result
          (of_groups member thread_words 0 c.args.groups.now) (omega arith)
          (cc (c.in_ok-add_members.ensures.meant, c.as_slice-threads.ensures.value, c.index-groups-i.is)) c.loop-i.invariant.members;
      untrusted = c.in_ok-add_members.ensures.untrusted c.loop-i.invariant.untrusted;
      regions = one_group_more own region_words c.loop-i.regions.items c.add_regions.new.regions.items c.loop-i.i c.args.groups.now c.index-groups-i.result
          (of_groups own region_words 0 c.args.groups.now) (omega arith)
          (cc (c.in_ok-add_regions.ensures, c.as_slice-own.ensures.value, c.index-groups-i.is)) c.loop-i.invariant.regions;
    }

pub returns : goal.returns
returns g c =
    let p = g.P.Profile.profile in
    let m = c.args.self.now.meaning in
    let member = member_meant p (names_view m.objects.names.now) m.setup.now.plan m.kernel.now in
    let own = own_meant p (names_view m.objects.names.now) m.setup.now.plan m.kernel.now in
    record {
      members = all_groups member thread_words c.loop-i.members.items c.loop-i.i c.args.groups.now (of_groups member thread_words 0 c.args.groups.now)
          (drop_all c.loop-i.i c.args.groups.now (omega arith)) c.loop-i.invariant.members;
      untrusted = c.loop-i.invariant.untrusted;
      regions = all_groups own region_words c.loop-i.regions.items c.loop-i.i c.args.groups.now (of_groups own region_words 0 c.args.groups.now)
          (drop_all c.loop-i.i c.args.groups.now (omega arith)) c.loop-i.invariant.regions;
    }
