use Rattle.std.proofs.Common.{◌≡◌, ℕ, List, ap, sym, ◌∙◌}
use Rattle.std.specs.Prelude.{position}
use Rattle.query_orders.specs.declared.exploring.node.Node.{Node}
use Rattle.query_orders.specs.Private.Tables.{has_words, with_node}
use Rattle.query_orders.proofs.Exploration.Places.{known_noted, new_noted}
use Rattle.query_orders.proofs.exploring.layer.Layer.note.Goals as goal

pub invariant_of-self : goal.invariant_of-self
invariant_of-self c =
    (known_noted c.self.inside.firsts.entries c.self.inside.nodes.items c.add_weight.new.nodes.items c.args.node c.in-Some.place c.self.invariant
    (sym c.in-Some.is ∙ c.place_of.ensures ∙ ap (λ (l : List ℕ). position (has_words l) c.deref.result.now) c.as_slice-2.ensures.value ∙ ap (λ (l : List Node). position (has_words c.args.node.words.items) l) c.deref.ensures.value) c.add_weight.ensures).1

pub returns-in-Some : goal.returns-in-Some
returns-in-Some c =
    (known_noted c.self.inside.firsts.entries c.self.inside.nodes.items c.add_weight.new.nodes.items c.args.node c.in-Some.place c.self.invariant
    (sym c.in-Some.is ∙ c.place_of.ensures ∙ ap (λ (l : List ℕ). position (has_words l) c.deref.result.now) c.as_slice-2.ensures.value ∙ ap (λ (l : List Node). position (has_words c.args.node.words.items) l) c.deref.ensures.value) c.add_weight.ensures).0
    ∙ ap (λ l. with_node l c.args.node) c.self.view_is

pub returns-in_ok-add-in-None : goal.returns-in_ok-add-in-None
returns-in_ok-add-in-None c =
    new_noted c.self.inside.nodes.items c.add.new.nodes.items c.args.node
    (sym c.in-None.is ∙ c.place_of.ensures ∙ ap (λ (l : List ℕ). position (has_words l) c.deref.result.now) c.as_slice-2.ensures.value ∙ ap (λ (l : List Node). position (has_words c.args.node.words.items) l) c.deref.ensures.value)
    c.in_ok-add-in-None.ensures.nodes
    ∙ ap (λ l. with_node l c.args.node) c.self.view_is
