use Rattle.std.proofs.Common.{◌≡◌, sym, ap, ◌∙◌, arith}
use Rattle.std.proofs.lemmas.List.{drop_all}
use Rattle.setup_values.specs.Names.{names_view}
use Rattle.setup_policy_file.specs.Values.{all_of}
use Rattle.setup_policy_meaning.specs.Policies.{in_front, own_meant}
use Rattle.setup_policy_meaning.proofs.Loops.{goes_on, is_done}
use Rattle.setup_policy_meaning.proofs.resolve.Resolver.add_regions.Goals as goal

pub loop-word-preserved : goal.loop-word-preserved
loop-word-preserved g c =
    let read = own_meant g.P.Profile.profile (names_view c.args.self.now.meaning.objects.names.now) c.args.self.now.meaning.setup.now.plan c.args.self.now.meaning.kernel.now c.args.group in
    rw c.in_ok-push.ensures.items (goes_on read c.loop-word.regions.items c.loop-word.word-index c.args.words.now c.word-item.result c.in_ok-region.region
    (in_front c.args.regions.now.items (all_of read c.args.words.now)) c.loop-word-test.true
    (ap read (sym c.word-item.is) ∙ c.in_ok-region.ensures) c.loop-word.invariant)

pub returns : goal.returns
returns g c =
    let read = own_meant g.P.Profile.profile (names_view c.args.self.now.meaning.objects.names.now) c.args.self.now.meaning.setup.now.plan c.args.self.now.meaning.kernel.now c.args.group in
    is_done read c.loop-word.regions.items c.loop-word.word-index c.args.words.now (in_front c.args.regions.now.items (all_of read c.args.words.now))
    (drop_all c.loop-word.word-index c.args.words.now (omega arith)) c.loop-word.invariant
