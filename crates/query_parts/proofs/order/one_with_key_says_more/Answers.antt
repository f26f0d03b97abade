-- The proof of `one_with_key_says_more`: the goals that a search leaves open.
use Rattle.std.proofs.Common.{◌∙◌, ◌||◌, sym, ap}
use Rattle.std.specs.List.{list_any}
use Rattle.query_parts.specs.Order as spec
use Rattle.query_parts.proofs.Halving.{more_found}
use Rattle.query_parts.proofs.order.one_with_key_says_more.Goals as goal

pub returns-then-one_says_more : goal.returns-then-one_says_more
returns-then-one_says_more c =
    c.if-one_says_more.true
    ∙ sym (more_found c.args.this.now c.args.uses.now c.uses_at-with_any.result.now c.uses_at-with_this.result.now c.key.result c.key-2.result
    c.uses_at-with_any.ensures c.key.ensures c.uses_at-with_this.ensures c.key-2.ensures
    ∙ ap (λ b. b || list_any (spec.says_more c.args.this.now) c.uses_at-with_this.result.now) (sym c.one_says_more.ensures ∙ c.if-one_says_more.true))

pub returns-else-one_says_more : goal.returns-else-one_says_more
returns-else-one_says_more c =
    c.one_says_more-else-one_says_more.ensures
    ∙ sym (more_found c.args.this.now c.args.uses.now c.uses_at-with_any.result.now c.uses_at-with_this.result.now c.key.result c.key-2.result
    c.uses_at-with_any.ensures c.key.ensures c.uses_at-with_this.ensures c.key-2.ensures
    ∙ ap (λ b. b || list_any (spec.says_more c.args.this.now) c.uses_at-with_this.result.now) (sym c.one_says_more.ensures ∙ c.if-one_says_more.false))
