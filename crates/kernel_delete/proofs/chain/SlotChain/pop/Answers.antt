use Rattle.std.proofs.Common.{◌<◌, None, length, ◌∙◌, arith}
use Rattle.std.proofs.lemmas.List.{get_or_default}
use Rattle.kernel_delete.proofs.Chains.{popped, pop_within}
use Rattle.kernel_delete.proofs.chain.SlotChain.pop.Goals as goal

pub invariant_of-self : goal.invariant_of-self
invariant_of-self g c =
    let w = pop_within c.self.inside.links.items c.self.inside.first c.in-Some.slot c.self.invariant c.in-Some.is in
    let at : c.index_of.result < length c.self.inside.links.items = omega (arith, w, c.index_of.ensures) in
    (popped g.P.Profile.profile c.self.inside.links.items c.self.inside.first c.index.result.now c.in-Some.slot c.index_of.result c.args.self.now c.index_of.ensures
    (c.index.ensures ∙ get_or_default c.self.inside.links.items c.index_of.result c.index.result.now None at) c.in-Some.is c.self.view_is c.self.invariant).0

pub returns-clause-slots : goal.returns-clause-slots
returns-clause-slots g c =
    let w = pop_within c.self.inside.links.items c.self.inside.first c.in-Some.slot c.self.invariant c.in-Some.is in
    let at : c.index_of.result < length c.self.inside.links.items = omega (arith, w, c.index_of.ensures) in
    (popped g.P.Profile.profile c.self.inside.links.items c.self.inside.first c.index.result.now c.in-Some.slot c.index_of.result c.args.self.now c.index_of.ensures
    (c.index.ensures ∙ get_or_default c.self.inside.links.items c.index_of.result c.index.result.now None at) c.in-Some.is c.self.view_is c.self.invariant).1
