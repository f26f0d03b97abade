use Rattle.std.proofs.Common.{ap, ◌∙◌, sym}
use Rattle.kernel_shared.specs.Taking.{taken}
use Rattle.kernel_shared.proofs.Taken.{taken_is}
use Rattle.kernel_shared.proofs.book_copy.BookCopyAbsorbRequest.absorb_first.Goals as goal

pub returns-clause-absorbed : goal.returns-clause-absorbed
returns-clause-absorbed g c =
    let b = c.self.inside.book in let e = c.take.ensures in
    taken_is _ _ _ b.history.items _ b.kernel _ c.args.operation.now _ c.take.result c.self.invariant.0 b.stands e.full e.name_taken e.ok e.reply e.err
    ∙ (ap (λ p. taken p g.N.Naming.start g.N.Naming.limit b.history.items c.args.operation.now) (sym c.self.invariant.1)
    ∙ ap (λ l. taken g.N.Naming.profile g.N.Naming.start g.N.Naming.limit l c.args.operation.now) c.self.view_is)
