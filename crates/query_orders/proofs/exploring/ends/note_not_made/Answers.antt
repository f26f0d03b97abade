use Rattle.std.proofs.Common.{◌≡◌, ◌-◌, ◌+◌, ℕ, suc, map, ap, sym, ◌∙◌, arith}
use Rattle.kernel_lists.specs.Firsts.{with_firsts}
use Rattle.query_orders.specs.declared.answer.Answer.TheVariants.{NotMade}
use Rattle.query_orders.specs.Answers.{answered, same_answer, numbers_from}
use Rattle.query_orders.specs.contracts.answer.AnswerPartialEq.TheImpl as answer_eq
use Rattle.query_orders.specs.Found.{answers_of}
use Rattle.query_orders.proofs.exploring.ends.note_not_made.Goals as goal

pub loop-place-preserved : goal.loop-place-preserved
loop-place-preserved c =
    let place = c.loop-place.place in
    let one_less : c.args.end - place ≡ suc (c.args.end - (place + 1)) = omega arith in
    let told = λ (n : ℕ). answered c.args.order.now c.args.client n NotMade in
    ap (λ l. with_firsts (same_answer answer_eq.ghosts.eq) l (map told (numbers_from (place + 1) (c.args.end - (place + 1))))) c.in_ok-note_answer.ensures
    ∙ ap (λ n. with_firsts (same_answer answer_eq.ghosts.eq) (answers_of c.loop-place.found) (map told (numbers_from place n))) (sym one_less)
    ∙ c.loop-place.invariant

pub returns : goal.returns
returns c =
    let place = c.loop-place.place in
    let none : c.args.end - place ≡ 0 = omega arith in
    let told = λ (n : ℕ). answered c.args.order.now c.args.client n NotMade in
    ap (λ n. with_firsts (same_answer answer_eq.ghosts.eq) (answers_of c.loop-place.found) (map told (numbers_from place n))) (sym none)
    ∙ c.loop-place.invariant
