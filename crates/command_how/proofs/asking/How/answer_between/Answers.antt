-- What is told of the parts that are found is told of the threads.
use Rattle.std.proofs.Common.{sym, ◌∙◌, subst, ℕ, List}
use Rattle.query_parts.specs.declared.listed.PartMemory.{PartMemory}
use Rattle.setup_values.specs.Names.{names_view}
use Rattle.command_parts.specs.Ever.{AreRightParts}
use Rattle.command_core.specs.declared.fault.Verdict.{Verdict}
use Rattle.command_how.specs.How.{how_words, IsToldByParts}
use Rattle.command_how.proofs.Told.{told_by_parts}
use Rattle.command_how.proofs.asking.How.answer_between.Goals as goal

pub returns : goal.returns
returns g c =
    let p = g.P.Profile.profile in
    let b = c.args.behind.now in
    let v = c.args.kernel.now in
    let right : AreRightParts p v c.as_slice-4.result.now c.as_slice-3.result.now c.in_ok-parts.parts.uses.items =
    subst (λ (memory : List PartMemory). AreRightParts p v c.as_slice-4.result.now memory c.in_ok-parts.parts.uses.items) (sym c.as_slice-3.ensures.value)
    (subst (λ (l : List ℕ). AreRightParts p v l c.in_ok-parts.parts.memory.items c.in_ok-parts.parts.uses.items) (c.as_slice.ensures.value ∙ sym c.as_slice-4.ensures.value) c.in_ok-parts.ensures) in
    let names = names_view b.names.now in
    let w = how_words c.args.self.now in
    subst (λ t. IsToldByParts p w names b.setup.now b.made v c.args.from c.args.to t.items c.new.result.verdict) (sym c.new.ensures.text)
    (subst (λ (d : Verdict). IsToldByParts p w names b.setup.now b.made v c.args.from c.args.to c.in_ok-text.text.items d) (sym c.new.ensures.verdict)
    (told_by_parts p (how_words c.args.self.now) (names_view b.names.now) b.setup.now b.made v c.args.from c.args.to c.in_ok-text.text.items c.in_ok-text.verdict
    c.most_of-most.result c.as_slice-4.result.now c.as_slice-2.result.now c.as_slice-3.result.now c.in_ok-parts.parts.uses.items
    c.most_of-most.ensures (c.as_slice-4.ensures.value ∙ c.in_ok-without.ensures) (c.as_slice-2.ensures.value ∙ c.in_ok-by.ensures) right
    (c.in_ok-text.ensures c.in_ok-parts.parts.uses.items right)))
