-- The proof of `chain_between_parts`: the goals that a search leaves open.
use Rattle.std.proofs.Common.{◌∙◌, ℕ, List, Option, IfOk, string_bytes, sym, ap, subst}
use Rattle.std.specs.Prelude.{slice_get}
use Rattle.kernel_forest.specs.Forest.{Forest}
use Rattle.kernel_forest.specs.Entries.{Entry}
use Rattle.query_reach.specs.FullSlots.{AreFullSlots}
use Rattle.command_parts.specs.Telling.{part_naming_view}
use Rattle.command_never.specs.Never.{is_open, endpoints_met}
use Rattle.command_never.specs.Chains.{IsChainToOpen}
use Rattle.command_never.proofs.OpenOnes.{first_found}
use Rattle.command_never.proofs.parts_kept.chain_text.chain_between_parts.Goals as goal

pub returns : goal.returns
returns g c =
    let p = g.P.Profile.profile in
    let layout = c.args.layout.now in
    let between = c.args.between.now in
    let test = is_open p layout.memory.now layout.uses.now layout.waits.now between.by.now between.from between.to in
    subst (λ (first : Option ℕ). IfOk c.chain_to_open.result (λ text. (f : Forest Entry) → AreFullSlots f c.args.filled.now →
    IsChainToOpen p (part_naming_view c.args.told.now).texts f layout.memory.now between.to c.args.from first (string_bytes text)))
    (c.copied-first.ensures ∙ (c.first.ensures.value ∙ (ap (λ (l : List ℕ). slice_get l 0) (c.as_slice.ensures.value ∙ c.in_ok-open.ensures)
    ∙ sym (first_found test (endpoints_met layout.uses.now layout.waits.now)))))
    c.chain_to_open.ensures
