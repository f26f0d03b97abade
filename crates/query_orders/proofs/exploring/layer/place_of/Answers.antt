use Rattle.std.proofs.Common.{◌<◌, ℕ, List, length, nat_eq, refl, ap, sym, ◌∙◌, arith}
use Rattle.std.specs.Cmp.Lexicographic.{pointwise}
use Rattle.std.proofs.lemmas.Bool.Decides.{nat_tests}
use Rattle.std.proofs.lemmas.Option.{slice_get_read}
use Rattle.query_orders.proofs.Exploration.Places.{not_there, there}
use Rattle.query_orders.proofs.exploring.layer.place_of.Goals as goal

pub returns-in_err-first : goal.returns-in_err-first
returns-in_err-first c =
    c.from_residual.ensures
    ∙ not_there c.args.firsts.now.entries c.args.nodes.now c.args.hash c.args.words.now c.requires.hash c.requires.firsts (sym c.in_err-first.was ∙ c.copied.ensures ∙ c.get.ensures.value)

pub returns-in-Some : goal.returns-in-Some
returns-in-Some c =
    let first = c.in_ok-first.first in
    let nodes = c.args.nodes.now in
    let inside = (c.in-Some.ensures.lookup).0 in
    let lt : first < length nodes = grind (arith, nat_tests) in
    there c.args.firsts.now.entries nodes c.args.hash c.args.words.now first c.in-Some.node.now c.requires.hash c.requires.firsts
    (sym c.in_ok-first.was ∙ c.copied.ensures ∙ c.get.ensures.value) (slice_get_read nodes (length nodes) first c.in-Some.node.now refl lt (c.in-Some.ensures.lookup).1) (ap (λ (l : List ℕ). pointwise nat_eq l c.args.words.now) (sym c.as_slice.ensures.value) ∙ sym c.eq.ensures ∙ c.if-eq.true)
