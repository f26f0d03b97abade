use Rattle.query_orders.proofs.Exploration.Known.{known_more, known_still}
use Rattle.query_orders.proofs.exploring.found.FoundAnswers.push.Goals as goal

pub invariant_of-self : goal.invariant_of-self
invariant_of-self c =
    known_still c.self.inside.known c.add.new.known c.self.inside.found.items c.add.new.found.items c.self.invariant c.in_err-add.ensures.found_stays c.in_err-add.ensures.known_stays

pub invariant_of-self-2 : goal.invariant_of-self-2
invariant_of-self-2 c =
    known_more c.self.inside.known c.add.new.known c.self.inside.found.items c.add.new.found.items c.args.answer c.self.invariant c.in_ok-add.ensures.found c.in_ok-add.ensures.known
