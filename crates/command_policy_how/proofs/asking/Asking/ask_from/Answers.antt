-- Each thread to which it is asked is one more of which the answer speaks.
use Rattle.std.proofs.Common.{rules, ◌≡◌, ℕ, get_or, arith, subst, sym, true, false}
use Rattle.std.proofs.lemmas.Option.{slice_get-get_or}
use Rattle.setup_policy.specs.declared.policy.Member.{Member}
use Rattle.command_how_witness.specs.Witness.{asking_of}
use Rattle.command_how.specs.declared.telling.Outcome.{Outcome}
use Rattle.command_how.specs.How.{IsOutcome}
use Rattle.command_policy_how.specs.declared.asking.BreachOutcome.{BreachOutcome}
use Rattle.command_policy_how.specs.Asked.{IsAskedFrom}
use Rattle.command_policy_how.specs.Question.{is_asked}
use Rattle.command_policy_how.proofs.Merged.{all_to, none_to, of_two, to_asked, to_passed}
use Rattle.command_policy_how.proofs.asking.Asking.ask_from.Goals as goal

pub loop-to-init : goal.loop-to-init
loop-to-init g c =
    let self = c.args.self.now in
    none_to g.P.Profile.profile self.held.policy.now self.held.layout.now self.held.homes.now self.told self.most c.args.kernel.now c.args.from.now self.all.now

pub loop-to-preserved : goal.loop-to-preserved
loop-to-preserved g c =
    let p = g.P.Profile.profile in
    let self = c.args.self.now in
    let all = self.all.now in
    let i = c.loop-to.to-index in
    let to : Member = get_or all i (record { thread = 0; actor = 0 }) in
    let q = of_two (asking_of self.asked) c.args.from.now.thread to.thread in
    let asked : is_asked self.held.layout.now self.held.homes.now self.told c.args.from.now to ≡ true = search rules in
    to_asked p self.held.policy.now self.held.layout.now self.held.homes.now self.told self.most c.args.kernel.now (asking_of self.asked) c.args.from.now all
    i to c.loop-to.answer c.in-Without.other c.with_answer.result
    (slice_get-get_or all i (record { thread = 0; actor = 0 }) (omega (arith, c.loop-to-test.true)))
    asked c.requires.about c.with_answer.ensures.says c.with_answer.ensures.most
    (subst (λ (o : Outcome). IsOutcome p q self.most self.held.layout.now.uses.items c.args.kernel.now c.args.behind.now.setup.now c.args.behind.now.made o) c.in-Without.is
    (c.in_ok-text.ensures self.held.layout.now.uses.items c.requires.right))
    c.loop-to.invariant

pub loop-to-preserved-then-not-is_asked : goal.loop-to-preserved-then-not-is_asked
loop-to-preserved-then-not-is_asked g c =
    let p = g.P.Profile.profile in
    let self = c.args.self.now in
    let all = self.all.now in
    let i = c.loop-to.to-index in
    let to : Member = get_or all i (record { thread = 0; actor = 0 }) in
    let not_asked : is_asked self.held.layout.now self.held.homes.now self.told c.args.from.now to ≡ false = search rules in
    to_passed p self.held.policy.now self.held.layout.now self.held.homes.now self.told self.most c.args.kernel.now c.args.from.now all
    i to c.loop-to.answer (slice_get-get_or all i (record { thread = 0; actor = 0 }) (omega (arith, c.loop-to-test.true))) not_asked c.loop-to.invariant

pub returns : goal.returns
returns g c =
    let p = g.P.Profile.profile in
    let self = c.args.self.now in
    let b = c.args.behind.now in
    subst (λ (o : BreachOutcome). IsAskedFrom p self.held.policy.now self.held.layout.now self.held.homes.now self.told self.most c.args.kernel.now b.setup.now b.made c.args.from.now self.all.now o)
    (sym c.without.ensures)
    (all_to p self.held.policy.now self.held.layout.now self.held.homes.now self.told self.most c.args.kernel.now b.setup.now b.made c.args.from.now self.all.now
    c.loop-to.to-index c.loop-to.answer (omega (arith, c.loop-to-test.false)) c.loop-to.invariant)
