-- What a trace tells of a state and what the report tells of it are of the same threads, endpoints, slots and CNodes.
use Rattle.std.proofs.Common.{◌≡◌, ℕ, suc, ◌==◌, true, false, cond, not, is_some, List, [], ◌∷◌, ◌++◌, map, All, Option, None, Some, option_map, refl, sym, ap, ◌∙◌, eq-eqb, arith}
use Rattle.std.specs.List.{AllByRecursion as Each, IsDistinct, filter, filter_map, find, flat_map, cons_option}
use Rattle.std.proofs.lemmas.List.{map-append}
use Rattle.cap_core.specs.declared.profile.ProfileName.{ProfileName}
use Rattle.cap_core.specs.declared.capability.Cap.{Cap}
use Rattle.cap_core.specs.declared.capability.Cap.TheVariants.{Null}
use Rattle.cap_core.specs.Objects.{IsLawful, is_null}
use Rattle.kernel_forest.specs.Forest.{Forest, preorder, parented}
use Rattle.kernel_forest.specs.Forest.Forest.{none, tree}
use Rattle.kernel_forest.proofs.Trees.Forests.{each-weaker}
use Rattle.kernel_forest.specs.Entries.{Entry, slots, caps, cap_at, cap_in, slot_of as entry_slot, derivations_of}
use Rattle.kernel_abstract.specs.Reached.{IsReached}
use Rattle.kernel_abstract.specs.Shown.{Shown, state_at, inbox_at, has_child}
use Rattle.kernel_abstract.specs.State.{State, shown}
use Rattle.kernel_abstract.specs.Waiting.{offer_at}
use Rattle.kernel_abstract.specs.declared.call.ThreadState.{ThreadState}
use Rattle.kernel_abstract.proofs.Reached.Simulation.{reached_is}
use Rattle.setup_report.specs.State.{Derived, slot_of, found, rising, threads, endpoints, selfheld}
use Rattle.setup_report.specs.Naming.{Texts}
use Rattle.setup_report.specs.Report.{thread_line, thread_line_with, endpoint_line, slot_line, slot_text as report_slot_text, terminated, selfheld_line}
use Rattle.setup_report.proofs.Addresses.Rising.{all_rising}
use Rattle.setup_report.proofs.Addresses.Slots.{slots_are}
use Rattle.command_trace.specs.Lines.{traced_slot_text, slot_at, traced_slot_lines, address_line, line_at, thread_text_at, traced_thread_text, endpoint_text_at, selfheld_at}
use Rattle.command_trace.specs.Changes.{line_addresses}
use Rattle.command_trace_laws.specs.Laws.{lines_text, TellsTheThreads, TellsTheEndpoints, TellsTheSlots, TellsTheSlotLines, TellsTheCapabilities, TellsTheSelfheld, slot_line_of, report_slot_line, held_slot_line}
use Rattle.command_trace_laws.proofs.Children.{child_is_under, held_there}
use Rattle.command_trace.proofs.Listed.{found_is}

-- ---- the entries of the derivations are those of the forest

abbrev viewed : Entry × Option Entry → Derived
viewed x = (x.0, option_map entry_slot x.1)

entries_parented : (above : Option Entry) (f : Forest Entry) → map (λ (d : Derived). d.0) (map viewed (parented above f)) ≡ preorder f
entries_parented above none = refl
entries_parented above (tree a under others) =
    ap (λ l. a ∷ l)
    (ap (map (λ (d : Derived). d.0)) (map-append viewed (parented (Some a) under) (parented above others))
    ∙ map-append (λ (d : Derived). d.0) (map viewed (parented (Some a) under)) (map viewed (parented above others))
    ∙ (λ i. entries_parented (Some a) under i ++ entries_parented above others i))

entries_are : (f : Forest Entry) → map (λ (d : Derived). d.0) (derivations_of f) ≡ preorder f
entries_are f = entries_parented None f

-- ---- each slot holds the capability of its entry

held_past : (e : Entry) (all es : List Entry) → Each (λ (n : ℕ). (e.slot == n) ≡ false) (map (λ (a : Entry). a.slot) es) → Each (λ (a : Entry). cap_in a.slot all ≡ a.cap) es →
    Each (λ (a : Entry). cap_in a.slot (e ∷ all) ≡ a.cap) es
held_past e all [] h k = tt
held_past e all (a ∷ es) h k = (ap (λ b. cond b e.cap (cap_in a.slot all)) h.0 ∙ k.0, held_past e all es h.1 k.1)

each_held : (es : List Entry) → IsDistinct (λ (a b : ℕ). a == b) (map (λ (e : Entry). e.slot) es) → Each (λ (e : Entry). cap_in e.slot es ≡ e.cap) es
unfolding IsDistinct
each_held [] apart = tt
each_held (e ∷ es) apart =
    (ap (λ b. cond b e.cap (cap_in e.slot es)) (eq-eqb e.slot e.slot refl), held_past e es es apart.0 (each_held es apart.1))

-- ---- threads

threads_told : (texts : Texts) (v : Shown) (xs : List ℕ) → flat_map (thread_line texts v) (line_addresses (flat_map (line_at (thread_text_at texts v)) xs)) ≡ flat_map (thread_line texts v) xs
threads_told texts v [] = refl
threads_told texts v (x ∷ xs) =
    elim (state_at v x) as (λ o. state_at v x ≡ o →
    flat_map (thread_line texts v) (line_addresses (address_line x (option_map (λ (s : ThreadState). traced_thread_text texts x s (offer_at v x)) o) ++ flat_map (line_at (thread_text_at texts v)) xs))
    ≡ thread_line texts v x ++ flat_map (thread_line texts v) xs) [
      | None ↦ λ e. threads_told texts v xs ∙ ap (λ o. thread_line_with texts x o (inbox_at v x) ++ flat_map (thread_line texts v) xs) (sym e)
      | Some s ↦ λ e. ap (λ l. thread_line texts v x ++ l) (threads_told texts v xs)
    ] refl

-- ---- endpoints

endpoints_told : (texts : Texts) (v : Shown) (xs : List ℕ) → lines_text (flat_map (line_at (endpoint_text_at texts v)) xs) ≡ flat_map (endpoint_line texts v) xs
endpoints_told texts v [] = refl
endpoints_told texts v (x ∷ xs) = ap (λ l. endpoint_line texts v x ++ l) (endpoints_told texts v xs)

-- ---- selfheld CNodes

selfheld_told : (texts : Texts) (xs : List ℕ) → lines_text (flat_map (line_at (selfheld_at texts)) xs) ≡ flat_map (selfheld_line texts) xs
selfheld_told texts [] = refl
selfheld_told texts (x ∷ xs) = ap (λ l. selfheld_line texts x ++ l) (selfheld_told texts xs)

-- ---- slots

-- each slot of some derivations has a line
abbrev HasLine : Texts → List Derived → ℕ → Type 0
HasLine texts list slot = is_some (slot_at texts list slot) ≡ true

still_found : (texts : Texts) (d : Derived) (list : List Derived) (xs : List ℕ) → Each (HasLine texts list) xs → Each (HasLine texts (d ∷ list)) xs
still_found texts d list [] h = tt
still_found texts d list (x ∷ xs) h = (
  elim (slot_of d == x) as (λ b. is_some (option_map (traced_slot_text texts) (cond b (Some d) (find (λ (e : Derived). slot_of e == x) list))) ≡ true) [
    | true ↦ refl
    | false ↦ h.0
  ],
  still_found texts d list xs h.1,
)

each_found : (texts : Texts) (list : List Derived) → Each (HasLine texts list) (map slot_of list)
each_found texts [] = tt
each_found texts (d ∷ list) = (
  ap (λ b. is_some (option_map (traced_slot_text texts) (cond b (Some d) (find (λ (e : Derived). slot_of e == slot_of d) list)))) (eq-eqb (slot_of d) (slot_of d) refl),
  still_found texts d list (map slot_of list) (each_found texts list),
)

addresses_of : (f : ℕ → Option (List ℕ)) (xs : List ℕ) → Each (λ x. is_some (f x) ≡ true) xs → line_addresses (flat_map (line_at f) xs) ≡ xs
addresses_of f [] h = refl
addresses_of f (x ∷ xs) h =
    elim (f x) as (λ o. is_some o ≡ true → line_addresses (address_line x o ++ flat_map (line_at f) xs) ≡ x ∷ xs) [
      | None ↦ λ e. cc
      | Some t ↦ λ e. ap (λ l. x ∷ l) (addresses_of f xs h.1)
    ] h.0

slots_told : (texts : Texts) (list : List Derived) → line_addresses (traced_slot_lines texts list) ≡ rising (map slot_of list)
slots_told texts list = addresses_of (slot_at texts list) (rising (map slot_of list)) (all_rising (HasLine texts list) (map slot_of list) (each_found texts list))

-- the report's line of a slot that has a line
slot_alike : (texts : Texts) (v : Shown) → IsDistinct (λ (a b : ℕ). a == b) (slots v.derivations) → (slot : ℕ) → HasLine texts (derivations_of v.derivations) slot → report_slot_line texts (derivations_of v.derivations) slot ≡ held_slot_line texts v slot
slot_alike texts v apart slot has =
    let list = derivations_of v.derivations in
    elim (found list slot) as (λ o. found list slot ≡ o → is_some (option_map (traced_slot_text texts) o) ≡ true → slot_line_of texts list slot o ≡ held_slot_line texts v slot) [
      | None ↦ λ there some. cc
      | Some d ↦ λ there some. λ i. terminated (report_slot_text texts slot ((sym (held_there list slot d there) ∙ ap (cap_in slot) (entries_are v.derivations)) i) (child_is_under slot v.derivations apart i))
    ] refl has

-- the report's lines of slots, by what the trace tells of them
rows_alike : (texts : Texts) (v : Shown) → IsDistinct (λ (a b : ℕ). a == b) (slots v.derivations) → (xs : List ℕ) →
    flat_map (report_slot_line texts (derivations_of v.derivations)) xs ≡ flat_map (slot_line texts v) (filter_map (found (derivations_of v.derivations)) xs)
rows_alike texts v apart [] = refl
rows_alike texts v apart (x ∷ xs) =
    let list = derivations_of v.derivations in
    elim (found list x) as (λ o. found list x ≡ o → slot_line_of texts list x o ++ flat_map (report_slot_line texts list) xs ≡ flat_map (slot_line texts v) (cons_option o (filter_map (found list) xs))) [
      | None ↦ λ is. rows_alike texts v apart xs
      | Some d ↦ λ is.
          (λ i. terminated (report_slot_text texts x d.0.cap (child_is_under x v.derivations apart i)) ++ rows_alike texts v apart xs i)
          ∙ ap (λ slot. terminated (report_slot_text texts slot d.0.cap (has_child slot v.derivations)) ++ flat_map (slot_line texts v) (filter_map (found list) xs)) (sym (found_is list x d is))
    ] refl

flat_alike : (f g : ℕ → List ℕ) (xs : List ℕ) → Each (λ x. f x ≡ g x) xs → flat_map f xs ≡ flat_map g xs
flat_alike f g [] h = refl
flat_alike f g (x ∷ xs) h = λ i. h.0 i ++ flat_alike f g xs h.1 i

-- where no entry is one of Null, each slot is full
each_full : (p : ProfileName) (memory : ℕ) (held : ℕ → Cap) (es : List Entry) → Each (λ (e : Entry). held e.slot ≡ e.cap) es → All (IsLawful p memory) (map (λ (e : Entry). e.cap) es) →
    filter (λ slot. not (is_null (held slot))) (map (λ (e : Entry). e.slot) es) ≡ map (λ (e : Entry). e.slot) es
each_full p memory held [] h lawful = refl
each_full p memory held (e ∷ es) h lawful =
    let full : is_null (held e.slot) ≡ false = ap is_null h.0 ∙ (lawful 0 Null (omega arith)).full in
    let others = filter (λ slot. not (is_null (held slot))) (map (λ (e : Entry). e.slot) es) in
    ap (λ b. cond (not b) (e.slot ∷ others) others) full
    ∙ ap (λ l. e.slot ∷ l) (each_full p memory held es h.1 (λ i d lt. lawful (suc i) d (omega (arith, lt))))

-- ---- of each state that runs reach

module _ (texts : Texts) (p : ProfileName) (A : State) (reached : IsReached p A) where
  apart : IsDistinct (λ (a b : ℕ). a == b) (slots (shown A).derivations)
  unfolding shown
  apart = (reached_is p A reached).store.slots_distinct

  lawful : All (IsLawful p reached.plan.memory_bits) (caps (shown A).derivations)
  unfolding shown
  lawful = (reached_is p A reached).store.lawful

  pub same_threads : TellsTheThreads texts p (shown A)
  same_threads = threads_told texts (shown A) (threads p (shown A))

  pub same_endpoints : TellsTheEndpoints texts p (shown A)
  same_endpoints = endpoints_told texts (shown A) (endpoints p (shown A))

  pub same_slots : TellsTheSlots texts (shown A)
  same_slots =
      let es = preorder (shown A).derivations in
      slots_told texts (derivations_of (shown A).derivations)
      ∙ ap rising (slots_are (shown A).derivations
      ∙ sym (each_full p reached.plan.memory_bits (cap_at (shown A).derivations) es (each_held es apart) lawful))

  pub same_slot_lines : TellsTheSlotLines texts (shown A)
  same_slot_lines =
      let list = derivations_of (shown A).derivations in
      ap (flat_map (report_slot_line texts list)) (slots_told texts list) ∙ rows_alike texts (shown A) apart (rising (map slot_of list))

  pub same_capabilities : TellsTheCapabilities texts (shown A)
  same_capabilities =
      let v = shown A in
      let list = derivations_of v.derivations in
      let each = each-weaker (HasLine texts list) (λ slot. report_slot_line texts list slot ≡ held_slot_line texts v slot) (slot_alike texts v apart) (rising (map slot_of list)) (all_rising (HasLine texts list) (map slot_of list) (each_found texts list)) in
      ap (flat_map (held_slot_line texts v)) (sym same_slots ∙ slots_told texts list)
      ∙ sym (flat_alike (report_slot_line texts list) (held_slot_line texts v) (rising (map slot_of list)) each)
      ∙ rows_alike texts v apart (rising (map slot_of list))

  pub same_selfheld : TellsTheSelfheld texts p (shown A)
  same_selfheld = selfheld_told texts (selfheld p (shown A))
