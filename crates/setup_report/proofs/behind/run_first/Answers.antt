-- The proof of `run_first`: the goals that a search leaves open.
use Rattle.std.proofs.Common.{◌++◌, List, ap, ◌∙◌}
use Rattle.kernel_abstract.specs.declared.call.Reply.{Reply}
use Rattle.kernel_abstract.specs.Boot.{boot}
use Rattle.kernel_abstract.specs.State.{shown}
use Rattle.kernel_abstract.specs.Step.{state_after, replies_of}
use Rattle.setup_report.proofs.Runs.{boot_reached}
use Rattle.setup_report.proofs.behind.run_first.Goals as goal

pub returns : goal.returns
returns g c =
    let p = g.P.Profile.profile in
    let plan = c.args.setup.now.plan in
    let booted = c.in_ok-kernel.ensures.shows ∙ ap (λ q. shown (boot p q)) c.plan.ensures.plan in
    record {
      shows = c.run.ensures.stands (boot p plan) (boot_reached p plan c.requires.plan) booted
          ∙ ap (λ l. shown (state_after p (boot p plan) l)) c.first_calls.ensures.calls;
      replies = c.run.ensures.replies (boot p plan) (boot_reached p plan c.requires.plan) booted
          ∙ (ap (λ (l : List Reply). l ++ replies_of p (boot p plan) c.first_calls.result.now) c.in_ok-replies.ensures.items
          ∙ ap (replies_of p (boot p plan)) c.first_calls.ensures.calls);
      within = (c.plan.result.now.memory_bits, c.run.ensures.within c.plan.result.now.memory_bits c.in_ok-kernel.ensures.within);
    }
