use Rattle.std.proofs.Common.{◌≡◌, false, take, arith, subst, sym, ◌∙◌}
use Rattle.std.specs.List.{list_any}
use Rattle.setup_policy_file.proofs.Apart.{apart_next}
use Rattle.setup_policy_file.proofs.reader.no_doubles.Goals as goal

pub loop-i-preserved : goal.loop-i-preserved
loop-i-preserved g c =
    let none : list_any (λ y. g.T.PartialEq.eq y c.index-items-i.result) (take c.loop-i.i c.args.items.now) ≡ false = sym c.contains.ensures.value ∙ c.if-contains.false in
    apart_next g.T.PartialEq.eq c.args.items.now c.loop-i.i c.index-items-i.result (omega arith) c.loop-i.invariant
    (subst (λ x. list_any (λ y. g.T.PartialEq.eq y x) (take c.loop-i.i c.args.items.now) ≡ false) c.index-items-i.is none)
