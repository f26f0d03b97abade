-- Each thread from which it is asked is one more of which the answer speaks.
use Rattle.std.proofs.Common.{rules, ◌≡◌, ℕ, ◌+◌, Option, Some, get_or, arith, subst, sym}
use Rattle.std.proofs.lemmas.Option.{slice_get-get_or}
use Rattle.setup_policy.specs.declared.policy.Member.{Member}
use Rattle.command_policy_how.specs.declared.asking.BreachOutcome.{BreachOutcome}
use Rattle.command_policy_how.specs.Asked.{IsAskedFrom, IsAskedOf}
use Rattle.command_policy_how.proofs.Merged.{SoFarFrom, all_from, from_asked, from_passed, none_from, witness_of}
use Rattle.command_policy_how.proofs.asking.Asking.ask_each.Goals as goal
use Rattle.command_policy_how.proofs.asking.Asking.ask_each.Goals.{in-Without, in-NotAsked}

pub loop-from-init : goal.loop-from-init
loop-from-init g c =
    let self = c.args.self.now in
    none_from g.P.Profile.profile self.held.policy.now self.held.layout.now self.held.homes.now self.told self.most c.args.kernel.now self.all.now

pub returns-in-Witness : goal.returns-in-Witness
returns-in-Witness g c =
    let p = g.P.Profile.profile in
    let self = c.args.self.now in
    let all = self.all.now in
    let i = c.loop-from.from-index in
    let from : Member = get_or all i (record { thread = 0; actor = 0 }) in
    witness_of p self.held.policy.now self.held.layout.now self.held.homes.now self.told c.args.behind.now.setup.now c.args.behind.now.made c.in-Witness.text.items all
    i from c.requires.all (slice_get-get_or all i (record { thread = 0; actor = 0 }) (omega (arith, c.loop-from-test.true)))
    (subst (λ (o : BreachOutcome). IsAskedFrom p self.held.policy.now self.held.layout.now self.held.homes.now self.told self.most c.args.kernel.now c.args.behind.now.setup.now c.args.behind.now.made from all o)
    c.in-Witness.is c.in_ok-text.ensures)

pub loop-from-preserved : goal.loop-from-preserved
loop-from-preserved g c =
    let p = g.P.Profile.profile in
    let self = c.args.self.now in
    let h = self.held in
    let all = self.all.now in
    let i = c.loop-from.from-index in
    let from : Member = get_or all i (record { thread = 0; actor = 0 }) in
    let at = slice_get-get_or all i (record { thread = 0; actor = 0 }) (omega (arith, c.loop-from-test.true)) in
    elim c.match-branch-2.branch [
      | in-Without w ↦ (let same : c.match-branch-2.answer ≡ Some w.with_answer.result = search rules in
          subst (SoFarFrom p h.policy.now h.layout.now h.homes.now self.told self.most c.args.kernel.now all (i + 1)) (sym same)
          (from_asked p h.policy.now h.layout.now h.homes.now self.told self.most c.args.kernel.now all
          i from c.loop-from.answer w.in-Without.other w.with_answer.result at
          w.with_answer.ensures.says w.with_answer.ensures.most
          (subst (λ (o : BreachOutcome). IsAskedFrom p h.policy.now h.layout.now h.homes.now self.told self.most c.args.kernel.now c.args.behind.now.setup.now c.args.behind.now.made from all o)
          w.in-Without.is c.in_ok-text.ensures)
          c.loop-from.invariant))
      | in-NotAsked w ↦ (let same : c.match-branch-2.answer ≡ c.loop-from.answer = search rules in
          subst (SoFarFrom p h.policy.now h.layout.now h.homes.now self.told self.most c.args.kernel.now all (i + 1)) (sym same)
          (from_passed p h.policy.now h.layout.now h.homes.now self.told self.most c.args.kernel.now all
          i from c.loop-from.answer at
          (subst (λ (o : BreachOutcome). IsAskedFrom p h.policy.now h.layout.now h.homes.now self.told self.most c.args.kernel.now c.args.behind.now.setup.now c.args.behind.now.made from all o)
          w.in-NotAsked.is c.in_ok-text.ensures)
          c.loop-from.invariant))
    ]

pub returns : goal.returns
returns g c =
    let p = g.P.Profile.profile in
    let self = c.args.self.now in
    let b = c.args.behind.now in
    subst (λ (o : BreachOutcome). IsAskedOf p self.held.policy.now self.held.layout.now self.held.homes.now self.told self.most c.args.kernel.now b.setup.now b.made o)
    (sym c.without.ensures)
    (all_from p self.held.policy.now self.held.layout.now self.held.homes.now self.told self.most c.args.kernel.now b.setup.now b.made self.all.now
    c.loop-from.from-index c.loop-from.answer c.requires.all (omega (arith, c.loop-from-test.false)) c.loop-from.invariant)
