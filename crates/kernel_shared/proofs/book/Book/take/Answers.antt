use Rattle.std.proofs.Common.{rules, ◌≡◌}
use Rattle.kernel_shared.specs.Laws.{count_of}
use Rattle.kernel_shared.proofs.Grows.{lawful_grows_at, stands_grows_at, counts_grow}
use Rattle.kernel_shared.proofs.book.Book.take.Goals as goal

pub invariant_of-self-2-clause-lawful : goal.invariant_of-self-2-clause-lawful
invariant_of-self-2-clause-lawful g c =
    let b = c.args.self.now in
    let n : c.args.number ≡ count_of c.args.client b.history.items = search rules in
    lawful_grows_at _ _ _ _ c.step-reply.new.self c.args.client c.args.number c.args.call c.step-reply.result _ c.push_reserved.ensures.items b.lawful b.stands n c.step-reply.ensures.stands

pub invariant_of-self-2-clause-stands : goal.invariant_of-self-2-clause-stands
invariant_of-self-2-clause-stands g c =
    let b = c.args.self.now in
    stands_grows_at _ _ _ _ c.step-reply.new.self c.args.client c.args.number c.args.call c.step-reply.result _ c.push_reserved.ensures.items b.stands c.step-reply.ensures.stands

pub invariant_of-self-2-clause-counted : goal.invariant_of-self-2-clause-counted
invariant_of-self-2-clause-counted g c =
    let b = c.args.self.now in
    let n : c.args.number ≡ count_of c.args.client b.history.items = search rules in
    counts_grow _ _ _ _ c.args.client c.args.number c.args.call c.step-reply.result c.push_reserved.ensures.items b.counted n c.set_count.ensures
