-- Which answers are known, after one more.
use Rattle.std.proofs.Common.{◌≡◌, ◌==◌, ◌&&◌, ◌||◌, Bool, true, false, cond, List, [], ◌∷◌, ◌++◌, refl, ap, sym, ◌∙◌}
use Rattle.std.specs.List.{list_any}
use Rattle.query_orders.specs.contracts.answer.AnswerPartialEq.TheImpl as answer_eq
use Rattle.std.specs.HashSet.{HashSet, contains}
use Rattle.query_orders.specs.declared.exploring.found.FoundAnswer.{FoundAnswer}
use Rattle.query_orders.specs.declared.exploring.found.CallAnswer.{CallAnswer}
use Rattle.query_orders.specs.contracts.exploring.found.CallAnswerPartialEq.TheImpl as call_answer_eq
use Rattle.query_orders.specs.Known.{call_answer, AreKnown}

swap : (a b m : Bool) → (a || cond b true m) ≡ cond b true (a || m)
swap true true m = refl
swap true false m = refl
swap false true m = refl
swap false false m = refl

any_push : (f : FoundAnswer → Bool) (found : List FoundAnswer) (a : FoundAnswer) → list_any f (found ++ a ∷ []) ≡ cond (f a) true (list_any f found)
any_push f [] a = elim (f a) as (λ b. (b || false) ≡ cond b true false) [ true ↦ refl | false ↦ refl ]
any_push f (x ∷ found) a = ap (λ b. f x || b) (any_push f found a) ∙ swap (f x) (f a) (list_any f found)

pub known_more : {S : Type 0} (known known' : HashSet CallAnswer S) (found found' : List FoundAnswer) (a : FoundAnswer) → AreKnown known found → found' ≡ found ++ a ∷ [] →
    ((q : CallAnswer) → contains call_answer_eq.ghosts.eq known' q ≡ cond (call_answer_eq.ghosts.eq (call_answer a) q) true (contains call_answer_eq.ghosts.eq known q)) → AreKnown known' found'
known_more known known' found found' a are more put q =
    let f = λ (x : FoundAnswer). call_answer_eq.ghosts.eq (call_answer x) q in
    put q ∙ ap (cond (f a) true) (are q) ∙ sym (ap (list_any f) more ∙ any_push f found a)

-- where nothing comes, all stays
pub known_still : {S : Type 0} (known known' : HashSet CallAnswer S) (found found' : List FoundAnswer) → AreKnown known found → found' ≡ found → known'.keys ≡ known.keys → AreKnown known' found'
known_still known known' found found' are same keys q =
    ap (list_any (call_answer_eq.ghosts.eq q)) keys ∙ are q ∙ sym (ap (list_any (λ (a : FoundAnswer). call_answer_eq.ghosts.eq (call_answer a) q)) same)

and3 : (x y z : Bool) → ((x && y) && z) ≡ (x && (y && z))
and3 true y z = refl
and3 false y z = refl

-- whether two are of one call and one answer
pub same_is : (a q : CallAnswer) → call_answer_eq.ghosts.eq a q ≡ ((a.client == q.client) && (a.place == q.place) && answer_eq.ghosts.eq a.answer q.answer)
same_is a q = sym (and3 (a.client == q.client) (a.place == q.place) (answer_eq.ghosts.eq a.answer q.answer))

pub any_same : (found : List FoundAnswer) (q : CallAnswer) → list_any (λ (a : FoundAnswer). call_answer_eq.ghosts.eq (call_answer a) q) found ≡ list_any (λ (a : FoundAnswer). (a.client == q.client) && (a.place == q.place) && answer_eq.ghosts.eq a.answer q.answer) found
any_same [] q = refl
any_same (a ∷ found) q =
    ap (λ b. b || list_any (λ (x : FoundAnswer). call_answer_eq.ghosts.eq (call_answer x) q) found) (same_is (call_answer a) q)
    ∙ ap (λ b. ((a.client == q.client) && (a.place == q.place) && answer_eq.ghosts.eq a.answer q.answer) || b) (any_same found q)
