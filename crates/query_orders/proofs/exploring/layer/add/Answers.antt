use Rattle.std.proofs.Common.{◌≡◌, ℕ, List, cond, length, Some, nat_eq, arith, ap, subst, sym, ◌∙◌}
use Rattle.std.specs.Map.{lookup}
use Rattle.query_orders.specs.declared.exploring.node.Node.{Node}
use Rattle.query_orders.specs.Private.Tables.{AreFirsts}
use Rattle.query_orders.proofs.Exploration.Places.{first_more, first_stays, none_of}
use Rattle.query_orders.proofs.exploring.layer.add.Goals as goal

pub returns-then-contains_key-clause-firsts : goal.returns-then-contains_key-clause-firsts
returns-then-contains_key-clause-firsts c =
    subst (λ (l : List Node). AreFirsts c.args.firsts.now.entries l) (sym c.in_ok-push.ensures.items)
    (first_stays c.args.firsts.now.entries c.args.nodes.now.items c.args.node c.args.hash c.requires.hash c.requires.firsts (sym c.contains_key.ensures ∙ c.if-contains_key.true))

pub returns-in-Ok-clause-firsts : goal.returns-in-Ok-clause-firsts
returns-in-Ok-clause-firsts c =
    let nodes = c.args.nodes.now.items in
    let long : c.len-place.result ≡ length nodes = omega (arith, c.args.nodes.now.ok, c.len-place.ensures) in
    subst (λ (l : List Node). AreFirsts c.insert.new.self.entries l) (sym c.in_ok-push.ensures.items)
    (first_more c.args.firsts.now.entries c.insert.new.self.entries nodes c.args.node c.args.hash c.requires.hash c.requires.firsts
    (none_of (lookup (nat_eq c.args.hash) c.args.firsts.now.entries) (sym c.contains_key.ensures ∙ c.if-contains_key.false))
    (λ h. (c.in-Ok.ensures.updates).0 h ∙ ap (λ (n : ℕ). cond (nat_eq c.args.hash h) (Some n) (lookup (nat_eq h) c.args.firsts.now.entries)) long))
