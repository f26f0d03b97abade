-- The proof of `overlaps_earlier`: the goals that a search leaves open.
use Rattle.std.proofs.Common.{◌≡◌, ℕ, ◌<◌, ◌≤◌, Bool, true, List, length, take, get_or, arith, sym, ap, ◌∙◌}
use Rattle.std.specs.List.{list_any}
use Rattle.std.proofs.lemmas.List.{get_or-take, length-take-le}
use Rattle.std.proofs.lemmas.List.Folds.{list_any_at}
use Rattle.kernel_abstract.specs.Plan.{Plan, overlap, untyped_extent}
use Rattle.kernel_boot.proofs.plan.BootPlan.overlaps_earlier.Goals as goal

-- one of the first n settles it
list_any_taken : {X : Type 0} (p : X → Bool) (xs : List X) (i n : ℕ) (d : X) → i < n → n ≤ length xs → p (get_or xs i d) ≡ true → list_any p (take n xs) ≡ true
list_any_taken p xs i n d below within passes =
    list_any_at p (take n xs) i d (let e = length-take-le n xs within in omega arith) (ap p (get_or-take n xs i d below) ∙ passes)

pub returns-then-overlaps : goal.returns-then-overlaps
returns-then-overlaps g c =
    let read : get_or c.args.self.now.untypeds c.loop-i.i c.index.result.now ≡ c.index.result.now = ap (λ (plan : Plan). get_or plan.untypeds c.loop-i.i c.index.result.now) (sym c.self.view_is) ∙ sym c.index.ensures in
    let test : ℕ × ℕ → Bool = λ u. overlap c.args.region (untyped_extent u) in
    let passes : test (get_or c.args.self.now.untypeds c.loop-i.i c.index.result.now) ≡ true =
    ap test read ∙ ap (overlap c.args.region) (sym c.new.ensures) ∙ sym c.overlaps.ensures ∙ c.if-overlaps.true in
    sym (list_any_taken test c.args.self.now.untypeds c.loop-i.i c.args.place c.index.result.now (omega arith) (omega arith) passes)
