-- A run from a booted kernel gives the replies and the end state of the abstract kernel from its boot.
use Rattle.kernel_abstract.specs.Boot.{boot}
use Rattle.test_embedding.proofs.Boots.{boot_reached, appended_to_none}
use Rattle.test_embedding.proofs.run_from_boot.Goals as goal

pub returns : goal.returns
returns g c =
    let p = g.P.Profile.profile in
    let A = boot p c.args.plan.now in
    let reached = boot_reached p c.args.plan.now c.requires in
    let shows = c.in_ok-kernel.ensures.shows in
    record {
      kernel = c.run.ensures.stands A reached shows;
      replies = appended_to_none _ _ _ (c.run.ensures.replies A reached shows) c.in_ok-replies.ensures.items;
    }
