-- Both threads lie in parts, and these are apart, or are not.
use Rattle.std.proofs.Common.{◌≡◌, ◌⊎◌, Bool, true, false, List, inr, sym, subst, ◌∙◌}
use Rattle.std.proofs.lemmas.Result.{IfOk-weaker}
use Rattle.query_parts.specs.declared.listed.PartUse.{PartUse}
use Rattle.command_how_witness.specs.Excluded.{StandsOneBelow, MayLose, TakesFrom}
use Rattle.command_how_witness.specs.Private.{AreTwoApart, IsLossOutside}
use Rattle.command_how_witness.proofs.excluded.is_loss_excluded.Goals as goal

pub returns-in-Some-Some-clause-outside : goal.returns-in-Some-Some-clause-outside
returns-in-Some-Some-clause-outside g c =
    let memory = c.args.asked.now.memory.now in
    let part = c.in-Some-Some.part in
    let other = c.in-Some-Some.other in
    IfOk-weaker c.are_two_apart.result
    (λ (is : Bool). is ≡ true → (uses : List PartUse) → AreTwoApart memory uses c.args.kernel.now part other)
    (λ (is : Bool). is ≡ true → (uses : List PartUse) → IsLossOutside memory uses c.args.kernel.now c.args.asked.now.from c.args.asked.now.to)
    (λ is told yes uses. inr (record {
      i = part;
      j = other;
      from_in = sym c.part_at.ensures ∙ c.in-Some-Some.is-0;
      to_in = sym c.part_at-2.ensures ∙ c.in-Some-Some.is-1;
      two = (told yes uses).0;
      none = (told yes uses).1;
    }))
    c.are_two_apart.ensures.apart

pub returns-in-Some-Some-clause-inside : goal.returns-in-Some-Some-clause-inside
returns-in-Some-Some-clause-inside g c =
    let memory = c.args.asked.now.memory.now in
    let v = c.args.kernel.now in
    let part = c.in-Some-Some.part in
    let other = c.in-Some-Some.other in
    IfOk-weaker c.are_two_apart.result
    (λ (is : Bool). is ≡ false → (part ≡ other) ⊎ StandsOneBelow memory part other v.derivations)
    (λ (is : Bool). is ≡ false → TakesFrom memory v c.args.asked.now.from c.args.asked.now.to)
    (λ is told differs. record {
      part = part;
      from_in = sym c.part_at.ensures ∙ c.in-Some-Some.is-0;
      lost = subst (MayLose memory v part) (sym (sym c.part_at-2.ensures ∙ c.in-Some-Some.is-1)) (told differs);
    })
    c.are_two_apart.ensures.below
