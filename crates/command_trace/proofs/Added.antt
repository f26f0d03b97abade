-- What is told where a capability is derived: its slot, and its next sibling.
use Rattle.std.proofs.Common.{◌≡◌, ℕ, cond, ◌==◌, List, [], ◌∷◌, ◌++◌, map, Option, None, Some, option_map, refl, sym, ap, subst, ◌∙◌, append-nil, eq-eqb}
use Rattle.std.specs.List.{IsDistinct, flat_map}
use Rattle.std.proofs.lemmas.List.{map-append}
use Rattle.std.proofs.lemmas.List.Concat.{flat_map-append}
use Rattle.cap_core.specs.declared.profile.ProfileName.{ProfileName}
use Rattle.kernel_forest.specs.Forest.{Forest}
use Rattle.kernel_forest.specs.Entries.{Entry, slots, derivations_of}
use Rattle.kernel_forest.proofs.Slots.Distinct.{IsInserted}
use Rattle.slot_core.specs.declared.derivations.Derivation.{Derivation}
use Rattle.slot_core.specs.Calls.{derivation_view}
use Rattle.kernel_abstract.specs.declared.call.ThreadState.{ThreadState}
use Rattle.kernel_abstract.specs.declared.call.ThreadState.TheVariants.{Ready, Inactive, Sending, Receiving}
use Rattle.kernel_abstract.specs.Shown.{Shown, state_at}
use Rattle.kernel_abstract.specs.Waiting.{offer_where}
use Rattle.setup_report.specs.declared.live.NamedObject.{NamedObject}
use Rattle.setup_report.specs.Naming.{Texts}
use Rattle.setup_report.specs.State.{Derived, named, holding_themselves, rising}
use Rattle.command_trace.specs.Lines.{Lines, line_at, thread_text_at, traced_thread_text, inbox_line_at, endpoint_text_at, selfheld_at, traced_slot_text, traced_slot_lines}
use Rattle.command_trace.specs.Siblings.{Sibling, siblings, row_view, sibling_lines, sibling_text}
use Rattle.command_trace.specs.Changes.{line_changes, change, text_at, added}
use Rattle.command_trace.specs.Told.{told_lines, told_changes}
use Rattle.command_trace.specs.Private.Derived.{AreRowsOf, next_text, with_forest}
use Rattle.command_trace.specs.Private.Listed.{derivation_line}
use Rattle.command_trace.specs.Private.Path.{sibling_line, siblings_walked}
use Rattle.command_trace.specs.Private.Rows.{AreLinesApart}
use Rattle.command_trace.specs.declared.lines.siblings.SiblingRow.{SiblingRow}
use Rattle.command_trace.proofs.Alike.{told_of_same, ends_apart}
use Rattle.command_trace.proofs.Kept.{Same, as_map, row_lines, rows_apart, slots_told, lines_apart, order_told, order_is_apart, order_same, walk_is}
use Rattle.command_trace.proofs.Listed.{row_line, rows_viewed}
use Rattle.command_trace.proofs.Put.{IsBorn, alone, behind}
use Rattle.command_trace.proofs.Views.{no_line_changes}

-- ---- where the same objects are live, and the same CNodes hold themselves, slots and their order are all that is told

pub record HaveSameObjects (p : ProfileName) (l m : List Derived) : Type 0 where
  pub threads : rising (named p NamedObject.Thread m) ≡ rising (named p NamedObject.Thread l)
  pub endpoints : rising (named p NamedObject.Endpoint m) ≡ rising (named p NamedObject.Endpoint l)
  pub selfheld : holding_themselves p m ≡ holding_themselves p l

module _ (texts : Texts) (p : ProfileName) (v : Shown) (g : Forest Entry) where
  same_offer : (o : Option ThreadState) (t : ℕ) → offer_where o t (with_forest v g) ≡ offer_where o t v
  same_offer None t = refl
  same_offer (Some Ready) t = refl
  same_offer (Some Inactive) t = refl
  same_offer (Some (Sending e)) t = refl
  same_offer (Some (Receiving e)) t = refl

  same_text : thread_text_at texts (with_forest v g) ≡ thread_text_at texts v
  same_text = λ i address. option_map (λ (s : ThreadState). traced_thread_text texts address s (same_offer (state_at v address) address i)) (state_at v address)

  pub slots_alone : HaveSameObjects p (derivations_of v.derivations) (derivations_of g) →
      told_changes (told_lines texts p v) (told_lines texts p (with_forest v g))
      ≡ line_changes (traced_slot_lines texts (derivations_of v.derivations)) (traced_slot_lines texts (derivations_of g))
      ++ line_changes (sibling_lines texts v.derivations) (sibling_lines texts g)
  slots_alone h =
      let old = told_lines texts p v in
      let new = told_lines texts p (with_forest v g) in
      let slots = line_changes old.state.slots new.state.slots in
      let threads = no_line_changes old.state.threads new.state.threads (λ i. flat_map (line_at (sym same_text i)) (sym h.threads i)) in
      let inboxes = no_line_changes old.state.inboxes new.state.inboxes (ap (flat_map (line_at (inbox_line_at texts v))) (sym h.threads)) in
      let endpoints = no_line_changes old.state.endpoints new.state.endpoints (ap (flat_map (line_at (endpoint_text_at texts v))) (sym h.endpoints)) in
      let selfheld = no_line_changes old.state.selfheld new.state.selfheld (ap (λ l. flat_map (line_at (selfheld_at texts)) (rising l)) (sym h.selfheld)) in
      ap (λ l. l ++ line_changes old.siblings new.siblings)
      ((λ i. threads i ++ (inboxes i ++ (endpoints i ++ (slots ++ selfheld i)))) ∙ append-nil slots)

-- ---- one line more

one_added : (l : ℕ × List ℕ) → line_changes [] (l ∷ []) ≡ added (Some l.1)
one_added l = append-nil (change None (text_at l.0 (l ∷ []))) ∙ ap (λ b. change None (cond b (Some l.1) None)) (eq-eqb l.0 l.0 refl)

-- a full slot more
pub slot_added : (texts : Texts) (d : Derived) (f g : Forest Entry) → IsInserted d (derivations_of f) (derivations_of g) → IsDistinct (λ (a b : ℕ). a == b) (slots f) → IsDistinct (λ (a b : ℕ). a == b) (slots g) →
    line_changes (traced_slot_lines texts (derivations_of f)) (traced_slot_lines texts (derivations_of g)) ≡ added (Some (traced_slot_text texts d))
slot_added texts d f g i one other =
    let lines = row_lines texts in
    let here : lines (derivations_of f) ≡ lines i.front ++ ([] ++ lines i.rest) = ap lines i.old ∙ map-append (row_line texts) i.front i.rest in
    let there : lines (derivations_of g) ≡ lines i.front ++ ((row_line texts d ∷ []) ++ lines i.rest) = ap lines i.new ∙ map-append (row_line texts) i.front (d ∷ i.rest) in
    told_of_same _ _ (lines (derivations_of f)) (lines (derivations_of g)) (λ q. sym (slots_told texts (derivations_of f) q)) (λ q. sym (slots_told texts (derivations_of g) q))
    ∙ (λ k. line_changes (here k) (there k))
    ∙ ends_apart (lines i.front) [] (row_line texts d ∷ []) (lines i.rest) (subst AreLinesApart here (rows_apart texts f one)) (subst AreLinesApart there (rows_apart texts g other))
    ∙ one_added (row_line texts d)

-- a first child more
pub sibling_added : (texts : Texts) (slot : ℕ) (next : Option ℕ) (f g : Forest Entry) → IsBorn slot next (siblings None f) (siblings None g) → IsDistinct (λ (a b : ℕ). a == b) (slots f) → IsDistinct (λ (a b : ℕ). a == b) (slots g) →
    line_changes (sibling_lines texts f) (sibling_lines texts g) ≡ next_text texts slot next
sibling_added texts slot next f g i one other =
    let lines : List Sibling → Lines = flat_map (sibling_line texts) in
    let here : lines (siblings None f) ≡ lines i.front ++ (lines (alone next) ++ lines i.rest) =
    ap lines i.old ∙ flat_map-append (sibling_line texts) i.front (alone next ++ i.rest) ∙ ap (λ l. lines i.front ++ l) (flat_map-append (sibling_line texts) (alone next) i.rest) in
    let there : lines (siblings None g) ≡ lines i.front ++ (lines (behind slot next) ++ lines i.rest) =
    ap lines i.new ∙ flat_map-append (sibling_line texts) i.front ((slot, None) ∷ (behind slot next ++ i.rest)) ∙ ap (λ l. lines i.front ++ l) (flat_map-append (sibling_line texts) (behind slot next) i.rest) in
    told_of_same _ _ (lines (siblings None f)) (lines (siblings None g)) (λ q. sym (order_told texts f one q)) (λ q. sym (order_told texts g other q))
    ∙ (λ k. line_changes (here k) (there k))
    ∙ ends_apart (lines i.front) (lines (alone next)) (lines (behind slot next)) (lines i.rest) (subst AreLinesApart here (lines_apart texts f one)) (subst AreLinesApart there (lines_apart texts g other))
    ∙ told next
  where
    told : (o : Option ℕ) → line_changes (flat_map (sibling_line texts) (alone o)) (flat_map (sibling_line texts) (behind slot o)) ≡ next_text texts slot o
    told None = refl
    told (Some next) = one_added (next, sibling_text texts next slot)

-- ---- full slots that are kept, and the siblings that a walk over them finds

module _ (texts : Texts) (p : ProfileName) (f : Forest Entry) (rows : List Derivation) (h : AreRowsOf p f rows) where
  listed : flat_map (λ (d : Derivation). derivation_line texts p d ∷ []) rows ≡ row_lines texts (derivations_of f)
  listed = as_map (derivation_line texts p) rows ∙ rows_viewed texts p rows ∙ ap (row_lines texts) h.list

  pub listed_apart : AreLinesApart (flat_map (λ (d : Derivation). derivation_line texts p d ∷ []) rows)
  listed_apart = subst AreLinesApart (sym listed) (rows_apart texts f h.apart)

  listed_same : Same (flat_map (λ (d : Derivation). derivation_line texts p d ∷ []) rows) (traced_slot_lines texts (derivations_of f))
  listed_same q = ap (text_at q) listed ∙ slots_told texts (derivations_of f) q

  module _ (walked : List SiblingRow) (is : map row_view walked ≡ siblings_walked [] (map (derivation_view p) rows)) where
    in_order : map row_view walked ≡ siblings None f
    in_order = walk_is p rows walked f is h.list h.apart

    pub order_apart : AreLinesApart (flat_map (λ (r : SiblingRow). sibling_line texts (row_view r)) walked)
    order_apart = order_is_apart texts f walked in_order h.apart

    walked_same : Same (flat_map (λ (r : SiblingRow). sibling_line texts (row_view r)) walked) (sibling_lines texts f)
    walked_same = order_same texts f walked in_order h.apart

pub rows_told : (texts : Texts) (p : ProfileName) (f g : Forest Entry) (old new : List Derivation) → AreRowsOf p f old → AreRowsOf p g new →
    line_changes (flat_map (λ (d : Derivation). derivation_line texts p d ∷ []) old) (flat_map (λ (d : Derivation). derivation_line texts p d ∷ []) new)
    ≡ line_changes (traced_slot_lines texts (derivations_of f)) (traced_slot_lines texts (derivations_of g))
rows_told texts p f g old new h k = told_of_same _ _ _ _ (listed_same texts p f old h) (listed_same texts p g new k)

pub walks_told : (texts : Texts) (p : ProfileName) (f g : Forest Entry) (old new : List Derivation) (before after : List SiblingRow) → AreRowsOf p f old → AreRowsOf p g new →
    map row_view before ≡ siblings_walked [] (map (derivation_view p) old) → map row_view after ≡ siblings_walked [] (map (derivation_view p) new) →
    line_changes (flat_map (λ (r : SiblingRow). sibling_line texts (row_view r)) before) (flat_map (λ (r : SiblingRow). sibling_line texts (row_view r)) after)
    ≡ line_changes (sibling_lines texts f) (sibling_lines texts g)
walks_told texts p f g old new before after h k is so = told_of_same _ _ _ _ (walked_same texts p f old h before is) (walked_same texts p g new k after so)
