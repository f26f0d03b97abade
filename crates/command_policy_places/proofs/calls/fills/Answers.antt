use Rattle.std.proofs.Common.{◌≡◌, ◌<◌, ◌+◌, length, map, sym, ap, ◌∙◌, arith}
use Rattle.std.proofs.lemmas.List.{length-map}
use Rattle.kernel_abstract.specs.Boot.{boot}
use Rattle.kernel_abstract.specs.State.{shown}
use Rattle.setup_format.specs.Views.{CallView}
use Rattle.setup_report.specs.Behind.{state_behind}
use Rattle.command_policy_places.specs.Places.{looked_at}
use Rattle.command_policy_places.proofs.Behind.{at_boot, first_fills, next_fills, reached_behind, stepped}
use Rattle.command_policy_places.proofs.calls.fills.Goals as goal

pub loop-i-init : goal.loop-i-init
loop-i-init g c =
    let p = g.P.Profile.profile in
    let setup = c.args.setup.now in
    let booted = c.in_ok-kernel.ensures.shows ∙ (ap (λ q. shown (boot p q)) c.plan.ensures.plan ∙ ap shown (sym (at_boot p setup))) in
    record { shows = booted; are = c.in_ok-fills.ensures ∙ first_fills p setup c.args.slots.now c.in_ok-kernel.kernel booted }

pub loop-i-preserved : goal.loop-i-preserved
loop-i-preserved g c =
    let p = g.P.Profile.profile in
    let setup = c.args.setup.now in
    let i = c.loop-i.i in
    let many : length c.calls.result.now ≡ length setup.calls = ap length c.calls.ensures ∙ length-map setup.calls (λ (k : CallView). k.call) in
    let low : i < length c.calls.result.now = omega (arith, c.loop-i-test.true, c.requires.made, many) in
    let steps = c.step.ensures.stands (state_behind p setup i) (reached_behind p setup i c.requires.plan) c.loop-i.invariant.shows in
    let shows = stepped p setup i (i + 1) c.calls.result.now _ _ c.step.new.self (omega arith) c.calls.ensures low steps in
    record {
      shows = shows;
      are = c.in_ok-next.ensures
          ∙ (ap (map (looked_at (i + 1) c.step.new.self.derivations)) (c.as_slice.ensures.value ∙ c.loop-i.invariant.are)
          ∙ next_fills p setup i (i + 1) c.args.slots.now c.step.new.self (omega arith) shows);
    }
