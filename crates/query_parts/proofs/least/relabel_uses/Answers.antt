-- The proof of `relabel_uses`: the goals that a search leaves open.
use Rattle.std.proofs.Common.{◌≡◌, ◌+◌, ◌<◌, length, set, map, take, drop, ◌++◌, sym, subst, arith}
use Rattle.std.proofs.lemmas.List.{get_or_default}
use Rattle.std.proofs.lemmas.List.Edits.{map_over_more}
use Rattle.query_parts.specs.declared.listed.PartUse.{PartUse}
use Rattle.query_parts.specs.Private.Search.{use_in, renamed}
use Rattle.query_parts.proofs.least.relabel_uses.Goals as goal

pub loop-allowed-preserved : goal.loop-allowed-preserved
loop-allowed-preserved c =
    let low : c.loop-allowed.allowed-index < length c.loop-allowed.uses = omega arith in
    subst (λ (x : PartUse). set c.loop-allowed.uses c.loop-allowed.allowed-index x
    ≡ map (use_in (renamed c.args.from c.args.to)) (take (c.loop-allowed.allowed-index + 1) c.args.uses.now) ++ drop (c.loop-allowed.allowed-index + 1) c.args.uses.now)
    (sym c.use_renamed.ensures)
    (map_over_more (use_in (renamed c.args.from c.args.to)) c.args.uses.now c.loop-allowed.uses c.loop-allowed.allowed-index _ (omega arith) c.loop-allowed.invariant
    (get_or_default c.loop-allowed.uses c.loop-allowed.allowed-index _ _ low))
