use Rattle.std.proofs.Common.{rules, ◌≡◌, ◌∙◌, Some}
use Rattle.cap_core.specs.declared.capability.Cap.TheVariants.{CNode}
use Rattle.cap_core.specs.Minting.{with_data}
use Rattle.cap_core.proofs.Minting.{data-read_back}
use Rattle.cap_core.proofs.mint.set_data.Goals as goal

pub returns-else-radix-WORD_BITS-clause-read_back :
    goal.returns-else-radix-WORD_BITS-clause-read_back
returns-else-radix-WORD_BITS-clause-read_back g c =
    λ base radix before guard node is fits cut both.
    let value : Some (CNode c.in-CNode.base c.in-CNode.radix (record { value = c.low_bits-value.result; size = c.low_bits-size.result }))
    ≡ with_data g.P.Profile.profile c.args.preserve c.args.word c.args.cap = search rules in
    value ∙ data-read_back _ _ _ _ base radix before guard node is fits cut both
