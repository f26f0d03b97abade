-- Which answers are known.
use Rattle.std.specs.Prelude.{◌≡◌, List}
use Rattle.std.specs.List.{list_any}
use Rattle.std.specs.HashSet.{HashSet, contains}
use Rattle.query_orders.specs.declared.exploring.found.FoundAnswer.{FoundAnswer}
use Rattle.query_orders.specs.declared.exploring.found.CallAnswer.{CallAnswer}
use Rattle.query_orders.specs.contracts.exploring.found.CallAnswerPartialEq.TheImpl as call_answer_eq

-- what the call comes to, without the order
abbrev pub call_answer : FoundAnswer → CallAnswer
call_answer a = record { client = a.client; place = a.place; answer = a.answer }

-- a set has what the calls come to of these answers, and nothing else
abbrev pub AreKnown : {S : Type 0} → HashSet CallAnswer S → List FoundAnswer → Type 0
AreKnown known found = (q : CallAnswer) → contains call_answer_eq.ghosts.eq known q ≡ list_any (λ (a : FoundAnswer). call_answer_eq.ghosts.eq (call_answer a) q) found
