-- What is asked of the kernel is asked of the state behind the first calls.
use Rattle.std.proofs.Common.{◌≡◌, ℕ, ap, subst}
use Rattle.kernel_abstract.specs.State.{shown}
use Rattle.setup_report.specs.Behind.{state_behind}
use Rattle.command_how.specs.How.{most_of}
use Rattle.command_policy_how.specs.declared.asking.BreachOutcome.{BreachOutcome}
use Rattle.command_policy_how.specs.declared.asking.BreachOutcome.TheVariants.{Witness, Without, NotAsked}
use Rattle.command_policy.proofs.Answered.{if_ok}
use Rattle.command_policy_how.specs.Asked.{IsAskedOf}
use Rattle.command_policy_how.proofs.Held.{asked_held, layout_held}
use Rattle.command_policy_how.proofs.command.BreachHow.answer_to.Goals as goal

pub ask-requires-clause-layout : goal.ask-requires-clause-layout
ask-requires-clause-layout g c =
    let p = g.P.Profile.profile in
    let b = c.args.behind.now in
    layout_held p c.args.judged.now c.held.result c.in_ok-kernel.kernel (shown (state_behind p b.setup.now b.made)) c.held.ensures c.in_ok-kernel.ensures.shows c.requires.judged.layout

pub returns-in-Witness : goal.returns-in-Witness
returns-in-Witness g c =
    let p = g.P.Profile.profile in
    let b = c.args.behind.now in
    let h = c.held.result in
    let asked = subst (λ (n : ℕ). IsAskedOf p h.policy.now h.layout.now h.homes.now c.args.told n c.in_ok-kernel.kernel b.setup.now b.made c.in_ok-text.field-0) c.most_of-most.ensures c.in_ok-text.ensures in
    record {
      outcome = Witness c.in-Witness.text;
      asked = asked_held p c.args.judged.now h c.args.told (most_of c.args.self.now.states) c.in_ok-kernel.kernel (shown (state_behind p b.setup.now b.made)) b.setup.now b.made (Witness c.in-Witness.text)
          c.held.ensures c.in_ok-kernel.ensures.shows
          (subst (λ (o : BreachOutcome). IsAskedOf p h.policy.now h.layout.now h.homes.now c.args.told (most_of c.args.self.now.states) c.in_ok-kernel.kernel b.setup.now b.made o) c.in-Witness.is asked);
      written = (ap (λ v. v.items) c.new.ensures.text, c.new.ensures.verdict);
    }

pub returns-in-Without : goal.returns-in-Without
returns-in-Without g c =
    let p = g.P.Profile.profile in
    let b = c.args.behind.now in
    let h = c.held.result in
    let asked = subst (λ (n : ℕ). IsAskedOf p h.policy.now h.layout.now h.homes.now c.args.told n c.in_ok-kernel.kernel b.setup.now b.made c.in_ok-text.field-0) c.most_of-most.ensures c.in_ok-text.ensures in
    if_ok c.line_of.result _ _
    (λ answer written. record {
      outcome = Without c.in-Without.answer;
      asked = asked_held p c.args.judged.now h c.args.told (most_of c.args.self.now.states) c.in_ok-kernel.kernel (shown (state_behind p b.setup.now b.made)) b.setup.now b.made (Without c.in-Without.answer)
          c.held.ensures c.in_ok-kernel.ensures.shows
          (subst (λ (o : BreachOutcome). IsAskedOf p h.policy.now h.layout.now h.homes.now c.args.told (most_of c.args.self.now.states) c.in_ok-kernel.kernel b.setup.now b.made o) c.in-Without.is asked);
      written = written;
    })
    c.line_of.ensures

pub returns : goal.returns
returns g c =
    let p = g.P.Profile.profile in
    let b = c.args.behind.now in
    let h = c.held.result in
    let asked = subst (λ (n : ℕ). IsAskedOf p h.policy.now h.layout.now h.homes.now c.args.told n c.in_ok-kernel.kernel b.setup.now b.made c.in_ok-text.field-0) c.most_of-most.ensures c.in_ok-text.ensures in
    if_ok c.line_of_none.result _ _
    (λ answer written. record {
      outcome = NotAsked;
      asked = asked_held p c.args.judged.now h c.args.told (most_of c.args.self.now.states) c.in_ok-kernel.kernel (shown (state_behind p b.setup.now b.made)) b.setup.now b.made (NotAsked)
          c.held.ensures c.in_ok-kernel.ensures.shows
          (subst (λ (o : BreachOutcome). IsAskedOf p h.policy.now h.layout.now h.homes.now c.args.told (most_of c.args.self.now.states) c.in_ok-kernel.kernel b.setup.now b.made o) c.in-NotAsked.is asked);
      written = written;
    })
    c.line_of_none.ensures
