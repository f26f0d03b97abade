use Rattle.query_orders.proofs.Shortest.{shortest, shortest_stuck}
use Rattle.query_orders.proofs.laws.first_orders_are_the_shortest.Goals as goal

pub returns-clause-answers : goal.returns-clause-answers
returns-clause-answers c = shortest

pub returns-clause-stuck : goal.returns-clause-stuck
returns-clause-stuck c = shortest_stuck
