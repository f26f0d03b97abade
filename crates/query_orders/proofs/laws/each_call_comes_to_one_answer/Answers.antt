use Rattle.query_orders.proofs.OneAnswer.{answers_once}
use Rattle.query_orders.proofs.laws.each_call_comes_to_one_answer.Goals as goal

pub returns : goal.returns
returns c = answers_once
