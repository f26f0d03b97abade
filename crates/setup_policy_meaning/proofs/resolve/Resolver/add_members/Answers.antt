use Rattle.std.proofs.Common.{◌≡◌, not, sym, ap, ◌∙◌, arith}
use Rattle.std.specs.Prelude.{option_map}
use Rattle.std.proofs.lemmas.List.{drop_all}
use Rattle.setup_values.specs.Names.{names_view}
use Rattle.setup_policy.specs.declared.policy.Member.{Member}
use Rattle.setup_policy_file.specs.Values.{all_of}
use Rattle.setup_policy_meaning.specs.Policies.{in_front, is_trusted, member, member_meant}
use Rattle.setup_policy_meaning.proofs.Loops.{all_and_one, goes_on, is_done}
use Rattle.setup_policy_meaning.proofs.resolve.Resolver.add_members.Goals as goal

pub loop-word-preserved : goal.loop-word-preserved
loop-word-preserved g c =
    let read = member_meant g.P.Profile.profile (names_view c.args.self.now.meaning.objects.names.now) c.args.self.now.meaning.setup.now.plan c.args.self.now.meaning.kernel.now c.args.actor in
    let trusted = is_trusted c.args.actors.silent.now c.args.actors.messages.now in
    record {
      meant = rw c.in_ok-push.ensures.items (goes_on read c.loop-word.members.items c.loop-word.word-index c.args.words.now c.word-item.result (member c.args.actor c.in_ok-thread.thread)
          (in_front c.args.members.now.items (all_of read c.args.words.now)) c.loop-word-test.true
          (ap read (sym c.word-item.is) ∙ ap (option_map (member c.args.actor)) c.in_ok-thread.ensures.meant) c.loop-word.invariant.meant);
      untrusted = λ before. rw c.in_ok-push.ensures.items (all_and_one (λ (m : Member). not (trusted m.thread)) c.loop-word.members.items (member c.args.actor c.in_ok-thread.thread)
          (c.loop-word.invariant.untrusted before) (ap not c.in_ok-thread.ensures.untrusted));
    }

pub returns : goal.returns
returns g c =
    let read = member_meant g.P.Profile.profile (names_view c.args.self.now.meaning.objects.names.now) c.args.self.now.meaning.setup.now.plan c.args.self.now.meaning.kernel.now c.args.actor in
    record {
      meant = is_done read c.loop-word.members.items c.loop-word.word-index c.args.words.now (in_front c.args.members.now.items (all_of read c.args.words.now))
          (drop_all c.loop-word.word-index c.args.words.now (omega arith)) c.loop-word.invariant.meant;
      untrusted = c.loop-word.invariant.untrusted;
    }
