-- The proof of `arranged`: the goals that a search leaves open.
use Rattle.std.proofs.Common.{◌∙◌, ◌-◌, List, [], map, get_or, ap, subst, arith, ℕ}
use Rattle.std.specs.List.Sorted.{IsPermutation}
use Rattle.std.proofs.lemmas.List.{with_items_is}
use Rattle.query_parts.specs.declared.listed.PartMemory.{PartMemory}
use Rattle.query_parts.specs.declared.listed.PartUse.{PartUse}
use Rattle.query_parts.specs.Private.Search.{memory_in, use_in}
use Rattle.query_parts.specs.Private.Arranging.{joined_all, labels_from, number_of, AreNeeded}
use Rattle.query_parts.proofs.Arranging.{memory_told}
use Rattle.query_parts.proofs.arranged.arranged.Goals as goal

pub returns : goal.returns
returns g c S =
    let p = g.P.Profile.profile in
    let moved : IsPermutation c.args.parts.memory.items c.sort_stretches.new.memory =
    subst (λ (l : List PartMemory). IsPermutation l c.sort_stretches.new.memory) c.as_mut_slice.ensures.value c.sort_stretches.ensures.moved in
    let joins = c.in_ok-memory.ensures ∙ ap joined_all (c.as_slice.ensures.value ∙ with_items_is c.args.parts.memory c.sort_stretches.new.memory (omega arith)) in
    let labelled = c.in_ok-order.ensures ∙ ap (labels_from []) c.as_slice-2.ensures.value in
    let numbered = with_items_is c.in_ok-memory.memory c.number_memory.new.memory (omega arith) ∙ c.number_memory.ensures
    ∙ ap (λ (l : List ℕ). map (memory_in (number_of l)) c.as_mut_slice-2.result.now) c.as_slice-3.ensures.value
    ∙ ap (map (memory_in (number_of c.in_ok-order.order.items))) c.as_mut_slice-2.ensures.value in
    let used = with_items_is c.args.parts.uses c.number_uses.new.uses (omega arith) ∙ c.number_uses.ensures
    ∙ ap (λ (l : List ℕ). map (use_in (number_of l)) c.as_mut_slice-3.result.now) c.as_slice-4.ensures.value
    ∙ ap (map (use_in (number_of c.in_ok-order.order.items))) c.as_mut_slice-3.ensures.value in
    record {
      number = number_of c.in_ok-order.order.items;
      label = λ k. get_or c.in_ok-order.order.items (k - 1) 0;
      memory_told = memory_told c.args.parts.memory.items c.args.parts.uses.items S c.sort_stretches.new.memory c.in_ok-memory.memory.items c.in_ok-order.order.items _
          moved c.sort_stretches.ensures.rising joins labelled numbered;
      uses_told =
          subst (λ (m : List PartMemory). AreNeeded p m (map (use_in (number_of c.in_ok-order.order.items)) c.args.parts.uses.items) c.in_ok-uses.uses.items) c.as_slice-5.ensures.value
          (subst (λ (u : List PartUse). AreNeeded p c.as_slice-5.result.now u c.in_ok-uses.uses.items) used c.in_ok-uses.ensures);
    }
