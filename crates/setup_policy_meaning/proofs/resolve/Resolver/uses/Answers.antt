use Rattle.std.proofs.Common.{◌≡◌, sym, ap, ◌∙◌, arith}
use Rattle.std.proofs.lemmas.List.{drop_all}
use Rattle.setup_values.specs.Names.{names_view}
use Rattle.setup_policy_file.specs.Values.{all_of}
use Rattle.setup_policy_meaning.specs.Policies.{use_meant}
use Rattle.setup_policy_meaning.proofs.Loops.{goes_on, is_done}
use Rattle.setup_policy_meaning.proofs.resolve.Resolver.uses.Goals as goal

pub loop-entry-preserved : goal.loop-entry-preserved
loop-entry-preserved g c =
    let read = use_meant g.P.Profile.profile (names_view c.args.self.now.meaning.objects.names.now) c.args.self.now.meaning.setup.now.plan c.args.self.now.meaning.kernel.now c.args.names.now in
    rw c.in_ok-push.ensures.items (goes_on read c.loop-entry.uses.items c.loop-entry.entry-index c.args.entries.now c.entry-item.result c.in_ok-allowed.allowed (all_of read c.args.entries.now)
    c.loop-entry-test.true (ap read (sym c.entry-item.is) ∙ c.in_ok-allowed.ensures) c.loop-entry.invariant)

pub returns : goal.returns
returns g c =
    let read = use_meant g.P.Profile.profile (names_view c.args.self.now.meaning.objects.names.now) c.args.self.now.meaning.setup.now.plan c.args.self.now.meaning.kernel.now c.args.names.now in
    is_done read c.loop-entry.uses.items c.loop-entry.entry-index c.args.entries.now (all_of read c.args.entries.now)
    (drop_all c.loop-entry.entry-index c.args.entries.now (omega arith)) c.loop-entry.invariant
