use Rattle.kernel_delete.proofs.Chains.{pushed}
use Rattle.kernel_delete.proofs.chain.SlotChain.push.Goals as goal

pub invariant_of-self : goal.invariant_of-self
invariant_of-self g c =
    (pushed g.P.Profile.profile c.self.inside.links.items c.self.inside.first c.args.slot c.index_of.result c.args.self.now c.index_of.ensures c.self.view_is c.self.invariant c.requires.absent c.requires.within).0

pub returns : goal.returns
returns g c =
    (pushed g.P.Profile.profile c.self.inside.links.items c.self.inside.first c.args.slot c.index_of.result c.args.self.now c.index_of.ensures c.self.view_is c.self.invariant c.requires.absent c.requires.within).1
