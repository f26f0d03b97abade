use Rattle.std.proofs.Common.{◌≡◌, ◌++◌, ◌∙◌, [], codes, ℕ, List, OnOk, length, string_bytes, ap, sym, subst, true}
use Rattle.std.specs.Fmt.{decimal}
use Rattle.command_explore.specs.Numbers.{count_up, numbers_in, order_numbers}
use Rattle.command_explore.proofs.Counted.{own_order}
use Rattle.command_explore.proofs.report.numbers.add_order.Goals as goal

pub returns-then-count_up : goal.returns-then-count_up
returns-then-count_up c =
    let by = c.args.by.now in
    let own = order_numbers (numbers_in c.args.numbers.now) [] c.args.order.now in
    let same : c.as_slice-calls.result.now ≡ own = c.as_slice-calls.ensures.value ∙ c.in_ok-own.ensures in
    let counts : count_up 1 own ≡ true = sym (ap (count_up 1) same) ∙ (sym c.count_up.ensures ∙ c.if-count_up.true) in
    subst (λ (text : List ℕ). OnOk c.add_own_order.result (string_bytes c.add_own_order.new.out ≡ string_bytes c.args.out.now ++ text))
    (ap (λ (l : List ℕ). codes " in order to " ++ decimal (length l)) same ∙ sym (own_order by own counts)) c.add_own_order.ensures
