use Rattle.std.proofs.Common.{◌≡◌, ◌+◌, ◌++◌, ◌∷◌, [], ℕ, List, sym, ap, ◌∙◌, arith}
use Rattle.std.specs.List.{range_with_len}
use Rattle.setup_policy_meaning.proofs.Groups.{one_number_more}
use Rattle.setup_policy_meaning.proofs.resolve.group_numbers.Goals as goal

pub loop-i-preserved : goal.loop-i-preserved
loop-i-preserved c =
    let i = c.loop-i.i in
    let same : i ≡ 0 + i = omega arith in
    rw c.in_ok-push.ensures.items (ap (λ (xs : List ℕ). xs ++ i ∷ []) c.loop-i.invariant ∙ (ap (λ (k : ℕ). range_with_len 0 i ++ k ∷ []) same ∙ one_number_more 0 i))
