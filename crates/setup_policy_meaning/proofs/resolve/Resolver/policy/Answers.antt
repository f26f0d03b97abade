-- Each list of the policy is what the words of the file mean.
use Rattle.std.proofs.Common.{◌≡◌, ◌+◌, ◌++◌, ℕ, List, Some, true, rules, length, map, ap, ◌∙◌, arith, subst, string_bytes, sym}
use Rattle.std.specs.Prelude.{String}
use Rattle.std.specs.declared.alloc.Global.{Global}
use Rattle.std.specs.List.{list_all, range_with_len}
use Rattle.slot_core.specs.declared.derivations.Derivation.{Derivation}
use Rattle.setup_values.specs.Names.{names_view}
use Rattle.setup_report.specs.State.{Derived}
use Rattle.setup_policy.specs.declared.policy.Member.{Member}
use Rattle.setup_policy_file.specs.Values.{all_of}
use Rattle.setup_policy_file.specs.declared.file.WayEntry.{WayEntry}
use Rattle.setup_policy_file.specs.declared.file.TakeEntry.{TakeEntry}
use Rattle.setup_policy_file.specs.declared.file.UseEntry.{UseEntry}
use Rattle.setup_policy_file.specs.declared.file.Word.{Word}
use Rattle.setup_policy_file.specs.declared.file.GroupEntry.{GroupEntry}
use Rattle.setup_policy_meaning.specs.Meant.{word_name}
use Rattle.setup_policy_meaning.specs.Policies.{all_from, are_untrusted, group_name, is_known, member_meant, members_meant, names_known, regions_meant, take_meant, use_meant, way_meant}
use Rattle.setup_policy_meaning.proofs.Groups.{as_many, as_many_more, as_named}
use Rattle.setup_policy_meaning.proofs.Rows.{all_rows}
use Rattle.setup_policy_meaning.proofs.resolve.Resolver.policy.Goals as goal

pub returns : goal.returns
returns g c =
    let p = g.P.Profile.profile in
    let m = c.args.self.now.meaning in
    let names = names_view m.objects.names.now in
    let file = c.args.self.now.file.now in
    let first = c.in_ok-names.names.items in
    let second = c.trusted.new.names.items in
    let third = c.trusted-2.new.names.items in
    let groups : map string_bytes first ≡ map group_name file.groups.items =
    c.in_ok-names.ensures ∙ ap (λ (gs : List GroupEntry). map group_name gs) c.as_slice.ensures.value in
    let silent : map string_bytes second ≡ map string_bytes first ++ map word_name file.silent.items =
    c.in_ok-silent.ensures.names ∙ ap (λ (ws : List Word). map string_bytes first ++ map word_name ws) c.as_slice-2.ensures.value in
    let messages : map string_bytes third ≡ map string_bytes second ++ map word_name file.messages.items =
    c.in_ok-messages.ensures.names ∙ ap (λ (ws : List Word). map string_bytes second ++ map word_name ws) c.as_slice-3.ensures.value in
    let many : length first ≡ length file.groups.items = as_many group_name first file.groups.items groups in
    let more : length second ≡ length file.groups.items + length file.silent.items = as_many_more group_name word_name first second file.groups.items file.silent.items groups silent in
    let count : c.len.result ≡ length file.groups.items = omega (arith, c.len.ensures, file.groups.ok) in
    let ms = c.in_ok-members.members.items in
    let ss = c.in_ok-silent.silent.items in
    let ts = c.in_ok-messages.messages.items in
    let rows = c.args.rows.now in
    let known : list_all (λ (d : Derivation). names_known (is_known ms ss ts) d.cap) rows ≡ true =
    subst (λ (xs : List Member). list_all (λ (d : Derivation). names_known (is_known xs ss ts) d.cap) rows ≡ true) c.as_slice-9.ensures.value
    (subst (λ (xs : List Member). list_all (λ (d : Derivation). names_known (is_known c.as_slice-9.result.now xs ts) d.cap) rows ≡ true) c.as_slice-6.ensures.value
    (subst (λ (xs : List Member). list_all (λ (d : Derivation). names_known (is_known c.as_slice-9.result.now c.as_slice-6.result.now xs) d.cap) rows ≡ true) c.as_slice-7.ensures.value
    c.in_ok-refuse_groupless.ensures)) in
    record {
      version = search rules;
      actors = as_named first second third (map group_name file.groups.items) (map word_name file.silent.items) (map word_name file.messages.items) groups silent messages;
      groups = c.in_ok-group_numbers.ensures ∙ ap (range_with_len 0) count;
      silent = subst (λ (n : ℕ). all_from (member_meant p names m.setup.now.plan m.kernel.now) n file.silent.items ≡ Some c.in_ok-silent.silent.items) many
          (subst (λ (ws : List Word). all_from (member_meant p names m.setup.now.plan m.kernel.now) (length first) ws ≡ Some c.in_ok-silent.silent.items) c.as_slice-2.ensures.value c.in_ok-silent.ensures.threads);
      messages = subst (λ (n : ℕ). all_from (member_meant p names m.setup.now.plan m.kernel.now) n file.messages.items ≡ Some c.in_ok-messages.messages.items) more
          (subst (λ (ws : List Word). all_from (member_meant p names m.setup.now.plan m.kernel.now) (length second) ws ≡ Some c.in_ok-messages.messages.items) c.as_slice-3.ensures.value c.in_ok-messages.ensures.threads);
      members = subst (λ (gs : List GroupEntry). members_meant p names m.setup.now.plan m.kernel.now gs ≡ Some c.in_ok-members.members.items) c.as_slice-8.ensures.value c.in_ok-members.ensures.members;
      untrusted = subst (λ (xs : List Member). are_untrusted xs ts ms ≡ true) c.as_slice-6.ensures.value
          (subst (λ (xs : List Member). are_untrusted c.as_slice-6.result.now xs ms ≡ true) c.as_slice-7.ensures.value c.in_ok-members.ensures.untrusted);
      regions = subst (λ (gs : List GroupEntry). regions_meant p names m.setup.now.plan m.kernel.now gs ≡ Some c.in_ok-members.regions.items) c.as_slice-8.ensures.value c.in_ok-members.ensures.regions;
      known = subst (λ (ds : List Derived). list_all (λ (d : Derived). names_known (is_known ms ss ts) d.0.cap) ds ≡ true) c.requires
          (sym (all_rows p (names_known (is_known ms ss ts)) rows) ∙ known);
      ways = subst (λ (ns : List (String Global)). all_of (way_meant p names m.setup.now.plan m.kernel.now ns) file.ways.items ≡ Some c.in_ok-ways.ways.items) c.as_slice-10.ensures.value
          (subst (λ (ws : List WayEntry). all_of (way_meant p names m.setup.now.plan m.kernel.now c.as_slice-10.result.now) ws ≡ Some c.in_ok-ways.ways.items) c.as_slice-11.ensures.value c.in_ok-ways.ensures);
      uses = subst (λ (ns : List (String Global)). all_of (use_meant p names m.setup.now.plan m.kernel.now ns) file.uses.items ≡ Some c.in_ok-uses.uses.items) c.as_slice-12.ensures.value
          (subst (λ (us : List UseEntry). all_of (use_meant p names m.setup.now.plan m.kernel.now c.as_slice-12.result.now) us ≡ Some c.in_ok-uses.uses.items) c.as_slice-13.ensures.value c.in_ok-uses.ensures);
      takes = subst (λ (ns : List (String Global)). all_of (take_meant (length file.groups.items) ns) file.takes.items ≡ Some c.in_ok-takes.takes.items) c.as_slice-14.ensures.value
          (subst (λ (ts : List TakeEntry). all_of (take_meant (length file.groups.items) c.as_slice-14.result.now) ts ≡ Some c.in_ok-takes.takes.items) c.as_slice-15.ensures.value c.in_ok-takes.ensures);
      allowances = search rules;
      grant = search rules;
      calls = search rules;
    }
