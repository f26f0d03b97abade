-- The proof of `join_overlapped`: the goals that a search leaves open.
use Rattle.std.proofs.Common.{◌==◌, ◌<◌, ◌∙◌, ap, sym, subst, List, map, arith}
use Rattle.std.proofs.lemmas.List.{with_items_is}
use Rattle.std.specs.Prelude.{option_map, find, not}
use Rattle.std.specs.List.{count_by}
use Rattle.query_parts.specs.declared.listed.PartMemory.{PartMemory}
use Rattle.query_parts.specs.Private.Search.{memory_in, renamed, use_in}
use Rattle.query_parts.proofs.Joining.{is_other, joining_none, joining_at, joining_more, joining_all, fewer_others}
use Rattle.query_parts.proofs.least.join_overlapped.Goals as goal

pub loop-other-init : goal.loop-other-init
loop-other-init c = joining_none c.args.part c.args.first c.args.last c.args.parts.now.memory.items c.args.parts.now.uses.items

pub loop-other-smaller : goal.loop-other-smaller
loop-other-smaller c =
    let found = ap (λ (l : List PartMemory). option_map (λ (m : PartMemory). m.part) (find (is_other c.args.part c.args.first c.args.last) l)) (sym c.as_slice.ensures.value) ∙ sym c.overlapped.ensures ∙ c.in-Some.is in
    let fewer = fewer_others c.args.part c.args.first c.args.last c.loop-other.parts.memory.items c.in-Some.other found in
    let memory = with_items_is c.loop-other.parts.memory c.relabel_memory.new.memory (omega arith)
    ∙ c.relabel_memory.ensures ∙ ap (map (memory_in (renamed c.in-Some.other c.args.part))) c.as_mut_slice.ensures.value in
    subst (λ (l : List PartMemory). count_by (λ (m : PartMemory). not (m.part == c.args.part)) l < count_by (λ (m : PartMemory). not (m.part == c.args.part)) c.loop-other.parts.memory.items)
    (sym memory) fewer

pub loop-other-preserved : goal.loop-other-preserved
loop-other-preserved c =
    let found = ap (λ (l : List PartMemory). option_map (λ (m : PartMemory). m.part) (find (is_other c.args.part c.args.first c.args.last) l)) (sym c.as_slice.ensures.value) ∙ sym c.overlapped.ensures ∙ c.in-Some.is in
    let more = joining_more c.args.part c.args.first c.args.last c.args.parts.now.memory.items c.args.parts.now.uses.items
    c.loop-other.parts.memory.items c.loop-other.parts.uses.items c.in-Some.other found c.loop-other.invariant in
    let memory = with_items_is c.loop-other.parts.memory c.relabel_memory.new.memory (omega arith)
    ∙ c.relabel_memory.ensures ∙ ap (map (memory_in (renamed c.in-Some.other c.args.part))) c.as_mut_slice.ensures.value in
    let uses = with_items_is c.loop-other.parts.uses c.relabel_uses.new.uses (omega arith)
    ∙ c.relabel_uses.ensures ∙ ap (map (use_in (renamed c.in-Some.other c.args.part))) c.as_mut_slice-in-Some.ensures.value in
    joining_at c.args.part c.args.first c.args.last c.args.parts.now.memory.items c.args.parts.now.uses.items _ _ _ _ memory uses more

pub returns : goal.returns
returns c =
    joining_all c.args.part c.args.first c.args.last c.args.parts.now.memory.items c.args.parts.now.uses.items c.loop-other.parts.memory.items c.loop-other.parts.uses.items
    (ap (λ (l : List PartMemory). option_map (λ (m : PartMemory). m.part) (find (is_other c.args.part c.args.first c.args.last) l)) (sym c.as_slice.ensures.value) ∙ sym c.overlapped.ensures ∙ c.in_default.is)
    c.loop-other.invariant
