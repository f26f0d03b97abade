-- The text that passed the test comes to the layout that it lists.
use Rattle.std.proofs.Common.{◌≡◌, option_map, subst, sym}
use Rattle.command_import.specs.Import.{ComesTo, HasHeadOf, IsSetUpOf}
use Rattle.command_import.proofs.Made.{as_written}
use Rattle.command_import.proofs.making.tested.Goals as goal

pub returns-then-comes : goal.returns-then-comes
returns-then-comes c =
    let layout = c.args.layout.now in
    let text : c.new.result.text.items ≡ c.args.text.items = λ i. (c.new.ensures.text i).items in
    let comes = subst (ComesTo layout) c.as_slice.ensures.value (c.in_ok-comes.ensures c.if-comes.true) in
    let path = option_map (λ s. s.now) c.args.path in
    as_written (IsSetUpOf layout path) _ _ (subst (ComesTo layout) (sym text) comes, subst (HasHeadOf layout path) (sym text) c.requires) c.new.ensures.verdict
