use Rattle.kernel_shared.proofs.Grows.{lawful_open_at, stands_open_at}
use Rattle.kernel_shared.proofs.book.Book.open.Goals as goal

pub invariant_of-result-clause-lawful : goal.invariant_of-result-clause-lawful
invariant_of-result-clause-lawful g c = lawful_open_at _ _ _ (c.in_ok-history.ensures.items)

pub invariant_of-result-clause-stands : goal.invariant_of-result-clause-stands
invariant_of-result-clause-stands g c = stands_open_at _ _ _ _ c.requires.opening c.in_ok-history.ensures.items
