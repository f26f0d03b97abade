-- The proof of `are_open`: the goals that a search leaves open.
use Rattle.std.proofs.Common.{◌≡◌, ◌∙◌, ◌==◌, ◌||◌, not, ℕ, List, length, vec_len, sym, ap, arith}
use Rattle.std.specs.List.{list_any}
use Rattle.std.proofs.lemmas.Bool.{ne_eqb}
use Rattle.command_never.specs.Never.{is_open, endpoints_met}
use Rattle.command_never.proofs.OpenOnes.{some_open}
use Rattle.command_never.proofs.parts_kept.never.are_open.Goals as goal

pub returns : goal.returns
returns g c =
    let layout = c.args.layout.now in
    let between = c.args.between.now in
    let test = is_open g.P.Profile.profile layout.memory.now layout.uses.now layout.waits.now between.by.now between.from between.to in
    let met = endpoints_met layout.uses.now layout.waits.now in
    let long : length c.in_ok-open.open.items ≡ vec_len c.in_ok-open.open = omega (arith, c.in_ok-open.open.ok) in
    ap not (c.is_empty.ensures ∙ (ap (λ n. n == 0) (sym long) ∙ ap (λ (l : List ℕ). length l == 0) c.in_ok-open.ensures))
    ∙ (some_open test met ∙ sym (ap (λ b. b || list_any test met) (ne_eqb between.from between.to c.if-between.false)))
