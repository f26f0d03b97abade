-- The proof of `text_with_chains`: the goals that a search leaves open.
use Rattle.std.proofs.Common.{◌++◌, ℕ, List, Option, string_bytes, subst, sym, ap, ◌∙◌, Vec, Global}
use Rattle.query_parts.specs.Listed.{part_at}
use Rattle.query_reach.specs.declared.filled.FullSlot.{FullSlot}
use Rattle.query_reach.specs.FullSlots.{AreFullSlots}
use Rattle.command_parts.specs.Telling.{part_naming_view}
use Rattle.command_never.specs.declared.parts_kept.waits.Wait.{Wait}
use Rattle.command_never.specs.Waits.{waits}
use Rattle.command_never.specs.Chains.{AreChainsBetween}
use Rattle.command_never.specs.Open.{never_text}
use Rattle.command_never.proofs.parts_kept.open.Telling.text_with_chains.Goals as goal

pub returns : goal.returns
returns g c =
    let p = g.P.Profile.profile in
    let told_by = part_naming_view c.args.self.now.told.now in
    let f = c.args.self.now.kernel.now.derivations in
    let memory = c.args.self.now.layout.now.memory.now in
    let uses = c.args.self.now.layout.now.uses.now in
    let by = c.args.self.now.by.now in
    let from = c.args.self.now.from in
    let to = c.args.self.now.to in
    let text = string_bytes c.in_ok-chains.chains in
    let head = c.args.heading.now in
    let are : AreFullSlots f c.as_slice-filled.result.now =
    subst (λ (l : List FullSlot). AreFullSlots f l) (sym c.as_slice-filled.ensures.value) c.in_ok-filled.ensures in
    let told : AreChainsBetween p told_by.texts f memory uses (waits p c.args.self.now.kernel.now) by from to c.part_at.result c.part_at-2.result text =
    subst (λ (w : List Wait). AreChainsBetween p told_by.texts f memory uses w by from to c.part_at.result c.part_at-2.result text) c.args.self.now.waiting
    (c.in_ok-chains.ensures f are) in
    record {
      chains = text;
      are_chains =
          subst (λ (j : Option ℕ). AreChainsBetween p told_by.texts f memory uses (waits p c.args.self.now.kernel.now) by from to (part_at memory from) j text) c.part_at-2.ensures
          (subst (λ (i : Option ℕ). AreChainsBetween p told_by.texts f memory uses (waits p c.args.self.now.kernel.now) by from to i c.part_at-2.result text) c.part_at.ensures told);
      lines = ap (λ (v : Vec ℕ Global). v.items) c.into_bytes.ensures.value ∙ (c.in_ok-push_str.ensures.bytes
          ∙ (ap (λ (l : List ℕ). l ++ c.as_str.result.now) c.in_ok-text.ensures
          ∙ ap (λ (l : List ℕ). never_text p told_by head.setup.now head.made head.refused head.without.now head.messages.now memory uses c.args.self.now.kernel.now by from to c.args.answer ++ l) c.as_str.ensures.value));
    }
