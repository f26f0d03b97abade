use Rattle.std.proofs.Common.{◌≡◌, length, sym, ap, ◌∙◌, arith}
use Rattle.std.proofs.lemmas.List.{drop_all}
use Rattle.setup_policy_file.specs.Values.{all_of}
use Rattle.setup_policy_meaning.specs.Policies.{take_meant}
use Rattle.setup_policy_meaning.proofs.Loops.{goes_on, is_done}
use Rattle.setup_policy_meaning.proofs.resolve.Resolver.takes.Goals as goal

pub loop-entry-preserved : goal.loop-entry-preserved
loop-entry-preserved g c =
    let read = take_meant (length c.args.self.now.file.now.groups.items) c.args.names.now in
    rw c.in_ok-push.ensures.items (goes_on read c.loop-entry.takes.items c.loop-entry.entry-index c.args.entries.now c.entry-item.result c.in_ok-take.take (all_of read c.args.entries.now)
    c.loop-entry-test.true (ap read (sym c.entry-item.is) ∙ c.in_ok-take.ensures) c.loop-entry.invariant)

pub returns : goal.returns
returns g c =
    let read = take_meant (length c.args.self.now.file.now.groups.items) c.args.names.now in
    is_done read c.loop-entry.takes.items c.loop-entry.entry-index c.args.entries.now (all_of read c.args.entries.now)
    (drop_all c.loop-entry.entry-index c.args.entries.now (omega arith)) c.loop-entry.invariant
