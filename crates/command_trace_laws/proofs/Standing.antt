-- The lines of slots and of siblings tell where each full slot stands, and so the whole forest.
use Rattle.std.proofs.Common.{◌≡◌, ℕ, ◌≤◌, ◌^◌, ◌==◌, true, false, cond, List, [], ◌∷◌, ◌++◌, map, Option, None, Some, option_map, option_and_then, inl, inr, refl, sym, ap, subst, ◌∙◌, eq-eqb, arith}
use Rattle.std.specs.List.{AllByRecursion as Each, IsDistinct}
use Rattle.std.proofs.Math.Pow.{pow_mono}
use Rattle.std.proofs.lemmas.List.{map-append}
use Rattle.std.proofs.lemmas.List.Elements.{recursion_from_All}
use Rattle.kernel_forest.specs.Forest.{Forest, none, tree, preorder, parented, renamed}
use Rattle.kernel_forest.specs.Entries.{Entry, caps, slots, is_at, slot_of as entry_slot, derivations_of}
use Rattle.kernel_forest.proofs.Trees.Forests.{each-append, each-left_part, each-right_part}
use Rattle.kernel_forest.proofs.Trees.Built.{Absent, Once, once-right_part}
use Rattle.kernel_forest.proofs.Trees.Lines.{once-left_part}
use Rattle.kernel_forest.proofs.Trees.Renamed.{each-map_old}
use Rattle.kernel_forest.proofs.Slots.Distinct.{once_at}
use Rattle.cap_core.specs.Limits.{max_memory_bits}
use Rattle.cap_core.specs.declared.profile.ProfileName.{ProfileName}
use Rattle.kernel_abstract.specs.declared.call.Call.{Call}
use Rattle.kernel_abstract.specs.Boot.{boot}
use Rattle.kernel_abstract.specs.Memory.{IsSlotAddress}
use Rattle.kernel_abstract.specs.Plan.{Plan, IsPlan}
use Rattle.kernel_abstract.specs.Reached.{IsReached}
use Rattle.kernel_abstract.specs.State.{State, shown}
use Rattle.kernel_abstract.specs.Step.{state_after}
use Rattle.kernel_abstract.proofs.Reached.Simulation.{reached_is}
use Rattle.setup_report.specs.State.{Derived, slot_of, found, is_in}
use Rattle.setup_report.proofs.Addresses.Slots.{slots_are}
use Rattle.setup_report.specs.Naming.{plain as by_address}
use Rattle.command_trace.specs.Lines.{Lines, slot_at, traced_slot_text, traced_slot_lines}
use Rattle.command_trace.specs.Siblings.{Sibling, siblings, in_front, sibling_at, sibling_text, sibling_lines}
use Rattle.command_trace.specs.Changes.{StateLines, text_at, no_lines}
use Rattle.command_trace.specs.Calls.{lines_in}
use Rattle.command_trace.proofs.Listed.{found_is}
use Rattle.command_trace.proofs.Walks.Walked.{slots_are as siblings_slots_are}
use Rattle.setup_report_laws.specs.Laws.{IsWithinWords}
use Rattle.setup_report_laws.proofs.Measured.{reached_words}
use Rattle.setup_report_laws.proofs.Renamed.{same_renamed, renamed_as_it_is}
use Rattle.setup_report_laws.proofs.Told.{capability_told}
use Rattle.command_trace_laws.specs.Laws.{Difference, StateDifferences, state_applied, of_slots, order_in, boot_differences, run_differences, replayed, order_differences, applied}
use Rattle.command_trace_laws.proofs.Decoded.{IsShort, ToldSlot, told_slot, same_slot_told, same_sibling_told}
use Rattle.command_trace_laws.proofs.Ordered.{either_side, each_front}
use Rattle.command_trace_laws.proofs.Orders.{order_replayed}
use Rattle.command_trace_laws.proofs.Positions.{Has, Apart, Stands, same_forest}
use Rattle.command_trace_laws.proofs.Replays.{run_replayed}
use Rattle.command_trace_laws.proofs.Texts.{text_told, not_found, found_each}

abbrev address : ToldSlot → ℕ
address x = x.0

abbrev told : Forest Entry → Forest ToldSlot
told f = renamed told_slot f

abbrev viewed : Entry × Option Entry → Derived
viewed x = (x.0, option_map entry_slot x.1)

-- ---- no two slots have one address

abbrev AreDistinct : Forest Entry → Type 0
AreDistinct f = (slot : ℕ) → Once (is_at slot) (preorder f)

absent_has : (slot : ℕ) (f : Forest Entry) → Absent (is_at slot) (preorder f) → Has address slot (told f) → ⊥
absent_has slot none absent h = h
absent_has slot (tree e under others) absent (inl same) = absurd (let w : false ≡ true = sym absent.0 ∙ eq-eqb e.slot slot (sym same) in cc)
absent_has slot (tree e under others) absent (inr h) =
    elim h [
      | inl k ↦ absent_has slot under (each-left_part (λ a. is_at slot a ≡ false) (preorder under) (preorder others) absent.1) k
      | inr k ↦ absent_has slot others (each-right_part (λ a. is_at slot a ≡ false) (preorder under) (preorder others) absent.1) k
    ]

told_apart : (f : Forest Entry) → AreDistinct f → Apart address (told f)
told_apart none distinct = tt
told_apart (tree e under others) distinct =
    let absent : Absent (is_at e.slot) (preorder under ++ preorder others) = (distinct e.slot).0 (eq-eqb e.slot e.slot refl) in (
      absent_has e.slot under (each-left_part (λ a. is_at e.slot a ≡ false) (preorder under) (preorder others) absent),
      absent_has e.slot others (each-right_part (λ a. is_at e.slot a ≡ false) (preorder under) (preorder others) absent),
      (λ slot h k. elim (either_side (is_at slot) (preorder under) (preorder others) (distinct slot).1) [ inl a ↦ absent_has slot under a h | inr a ↦ absent_has slot others a k ]),
      told_apart under (λ slot. once-left_part (is_at slot) (preorder under) (preorder others) (distinct slot).1),
      told_apart others (λ slot. once-right_part (is_at slot) (preorder under) (preorder others) (distinct slot).1),
    )

-- ---- what stands in a forest is among its derivations and its siblings

-- a full slot that is told so, among derivations and siblings that are each lawful in some way
abbrev IsAmong : (Derived → Type 0) → (Sibling → Type 0) → ToldSlot → Option ℕ → Option ℕ → Type 0
IsAmong P Q x a b = (e : Entry) × (x ≡ told_slot e) × P (e, a) × Q (e.slot, b)

all_among : (P : Derived → Type 0) (Q : Sibling → Type 0) (above : Option Entry) (before : Option ℕ) (f : Forest Entry) → Each P (map viewed (parented above f)) → Each Q (siblings before f) →
    (x : ToldSlot) (a b : Option ℕ) → Stands address (option_map entry_slot above) before (told f) x a b → IsAmong P Q x a b
all_among P Q above before none h k x a b stands = absurd stands
all_among P Q above before (tree e under others) h k x a b (inl same) =
    (e, same.0, subst (λ o. P (e, o)) (sym same.1) h.0, subst (λ o. Q (e.slot, o)) (sym same.2) k.0)
all_among P Q above before (tree e under others) h k x a b (inr stands) =
    let mine = map viewed (parented (Some e) under) in
    let theirs = map viewed (parented above others) in
    let both : Each P (mine ++ theirs) = subst (Each P) (map-append viewed (parented (Some e) under) (parented above others)) h.1 in
    elim stands as (λ _. IsAmong P Q x a b) [
      | inl down ↦ all_among P Q (Some e) None under (each-left_part P mine theirs both) (each-left_part Q (siblings None under) (siblings (Some e.slot) others) k.1) x a b down
      | inr on ↦ all_among P Q above (Some e.slot) others (each-right_part P mine theirs both) (each-right_part Q (siblings None under) (siblings (Some e.slot) others) k.1) x a b on
    ]

-- each of the derivations stands in the forest
all_stand : (T : ToldSlot → Option ℕ → Option ℕ → Type 0) (above : Option Entry) (before : Option ℕ) (f : Forest Entry) →
    ((x : ToldSlot) (a b : Option ℕ) → Stands address (option_map entry_slot above) before (told f) x a b → T x a b) →
    Each (λ (d : Derived). (b : Option ℕ) × T (told_slot d.0) d.1 b) (map viewed (parented above f))
all_stand T above before none all = tt
all_stand T above before (tree e under others) all =
    let P : Derived → Type 0 = λ d. (b : Option ℕ) × T (told_slot d.0) d.1 b in
    let mine = map viewed (parented (Some e) under) in
    let theirs = map viewed (parented above others) in (
      (before, all (told_slot e) (option_map entry_slot above) before (inl (refl, refl, refl))),
      subst (Each P) (sym (map-append viewed (parented (Some e) under) (parented above others)))
          (each-append P mine theirs
          (all_stand T (Some e) None under (λ x a b h. all x a b (inr (inl h))))
          (all_stand T above (Some e.slot) others (λ x a b h. all x a b (inr (inr h))))),
    )

-- ---- addresses are short

abbrev pub AreShort : Forest Entry → Type 0
AreShort f = Each (λ (e : Entry). IsShort (Some e.slot)) (preorder f)

short_derivations : (above : Option Entry) (f : Forest Entry) → IsShort (option_map entry_slot above) → AreShort f → Each (λ (d : Derived). IsShort (Some d.0.slot) × IsShort d.1) (map viewed (parented above f))
short_derivations above none h short = tt
short_derivations above (tree e under others) h short =
    let P : Derived → Type 0 = λ d. IsShort (Some d.0.slot) × IsShort d.1 in
    let Q : Entry → Type 0 = λ a. IsShort (Some a.slot) in
    let mine = map viewed (parented (Some e) under) in
    let theirs = map viewed (parented above others) in (
      (short.0, h),
      subst (Each P) (sym (map-append viewed (parented (Some e) under) (parented above others)))
          (each-append P mine theirs
          (short_derivations (Some e) under short.0 (each-left_part Q (preorder under) (preorder others) short.1))
          (short_derivations above others h (each-right_part Q (preorder under) (preorder others) short.1))),
    )

short_siblings : (before : Option ℕ) (f : Forest Entry) → IsShort before → AreShort f → Each (λ (s : Sibling). IsShort s.1) (siblings before f)
short_siblings before none h short = tt
short_siblings before (tree e under others) h short =
    let P : Sibling → Type 0 = λ s. IsShort s.1 in
    let Q : Entry → Type 0 = λ a. IsShort (Some a.slot) in (
      h,
      each-append P (siblings None under) (siblings (Some e.slot) others)
          (short_siblings None under tt (each-left_part Q (preorder under) (preorder others) short.1))
          (short_siblings (Some e.slot) others short.0 (each-right_part Q (preorder under) (preorder others) short.1)),
    )

-- ---- each of the derivations is found at its slot

found_past : (x : Derived) (all ds : List Derived) → Each (λ (n : ℕ). (slot_of x == n) ≡ false) (map slot_of ds) → Each (λ (d : Derived). found all (slot_of d) ≡ Some d) ds →
    Each (λ (d : Derived). found (x ∷ all) (slot_of d) ≡ Some d) ds
found_past x all [] h k = tt
found_past x all (d ∷ ds) h k = (ap (λ b. cond b (Some x) (found all (slot_of d))) h.0 ∙ k.0, found_past x all ds h.1 k.1)

each_found : (ds : List Derived) → IsDistinct (λ (a b : ℕ). a == b) (map slot_of ds) → Each (λ (d : Derived). found ds (slot_of d) ≡ Some d) ds
unfolding IsDistinct
each_found [] apart = tt
each_found (d ∷ ds) apart =
    (ap (λ b. cond b (Some d) (found ds (slot_of d))) (eq-eqb (slot_of d) (slot_of d) refl), found_past d ds ds apart.0 (each_found ds apart.1))

each_both : {X : Type 0} (P Q : X → Type 0) (xs : List X) → Each P xs → Each Q xs → Each (λ x. P x × Q x) xs
each_both P Q [] h k = tt
each_both P Q (x ∷ xs) h k = ((h.0, k.0), each_both P Q xs h.1 k.1)

-- ---- what the lines tell

slot_told : (f : Forest Entry) (k : ℕ) → text_at k (traced_slot_lines by_address (derivations_of f)) ≡ slot_at by_address (derivations_of f) k
slot_told f k =
    let list = derivations_of f in
    text_told (slot_at by_address list) (map slot_of list) k (λ out. ap (option_map (traced_slot_text by_address)) (not_found slot_of k list out))

order_told : (f : Forest Entry) (k : ℕ) → text_at k (sibling_lines by_address f) ≡ sibling_at by_address (siblings None f) k
order_told f k =
    let list = siblings None f in
    text_told (sibling_at by_address list) (slots f) k
    (λ out. ap (λ o. option_map (sibling_text by_address k) (option_and_then (λ (x : Sibling). x.1) o))
    (not_found (λ (x : Sibling). x.0) k list (ap (is_in k) (siblings_slots_are f) ∙ out)))

same_before : (slot : ℕ) (a b : Option ℕ) → IsShort a → IsShort b → option_map (sibling_text by_address slot) a ≡ option_map (sibling_text by_address slot) b → a ≡ b
same_before slot None None h k same = refl
same_before slot None (Some b) h k same = absurd cc
same_before slot (Some a) None h k same = absurd cc
same_before slot (Some a) (Some b) h k same = ap (λ n. Some n) (same_sibling_told slot a b h k cc)

-- ---- two forests with the same lines

pub record IsPlain (f : Forest Entry) : Type 0 where
  pub distinct : IsDistinct (λ (a b : ℕ). a == b) (slots f)
  pub short : AreShort f
  pub words : Each (λ (e : Entry). IsWithinWords e.cap) (preorder f)

abbrev IsFound : Forest Entry → Derived → Type 0
IsFound f d = (found (derivations_of f) (slot_of d) ≡ Some d) × IsShort (Some d.0.slot) × IsShort d.1

abbrev IsFront : Forest Entry → Sibling → Type 0
IsFront f s = (in_front (siblings None f) s.0 ≡ s.1) × IsShort s.1

module _ (f : Forest Entry) (plain : IsPlain f) where
  pub derivations_found : Each (IsFound f) (derivations_of f)
  derivations_found =
      let list = derivations_of f in
      each_three list
      (each_found list (subst (IsDistinct (λ (a b : ℕ). a == b)) (sym (slots_are f)) plain.distinct))
      (short_derivations None f tt plain.short)
    where
      each_three : (ds : List Derived) → Each (λ (d : Derived). found (derivations_of f) (slot_of d) ≡ Some d) ds → Each (λ (d : Derived). IsShort (Some d.0.slot) × IsShort d.1) ds → Each (IsFound f) ds
      each_three [] h k = tt
      each_three (d ∷ ds) h k = ((h.0, k.0.0, k.0.1), each_three ds h.1 k.1)

  pub siblings_in_front : Each (IsFront f) (siblings None f)
  siblings_in_front =
      let list = siblings None f in
      each_both (λ (s : Sibling). in_front list s.0 ≡ s.1) (λ (s : Sibling). IsShort s.1) list
      (each_front list (subst (IsDistinct (λ (a b : ℕ). a == b)) (sym (siblings_slots_are f)) plain.distinct))
      (short_siblings None f tt plain.short)

module _ (f g : Forest Entry) (plain : IsPlain f) (other : IsPlain g) (lines : traced_slot_lines by_address (derivations_of f) ≡ traced_slot_lines by_address (derivations_of g)) (order : sibling_lines by_address f ≡ sibling_lines by_address g) where
  same_slots : (k : ℕ) → slot_at by_address (derivations_of f) k ≡ slot_at by_address (derivations_of g) k
  same_slots k = sym (slot_told f k) ∙ (ap (text_at k) lines ∙ slot_told g k)

  same_order : (k : ℕ) → sibling_at by_address (siblings None f) k ≡ sibling_at by_address (siblings None g) k
  same_order k = sym (order_told f k) ∙ (ap (text_at k) order ∙ order_told g k)

  -- what stands in the one forest, by what is found of it in the other
  found_stands : (e : Entry) (a b : Option ℕ) → IsFound f (e, a) → IsFront f (e.slot, b) → (d : Derived) → found (derivations_of g) e.slot ≡ Some d →
      Stands address None None (told g) (told_slot e) a b
  found_stands e a b h k d is =
      let list = derivations_of g in
      let here : slot_of d ≡ e.slot = found_is list e.slot d is in
      let texts : ◌≡◌ {A = Option (List ℕ)} (Some (traced_slot_text by_address (e, a))) (Some (traced_slot_text by_address d)) =
      sym (ap (option_map (traced_slot_text by_address)) h.0) ∙ (same_slots e.slot ∙ ap (option_map (traced_slot_text by_address)) is) in
      let lawful : IsFound g d = found_each (IsFound g) (λ (x : Derived). slot_of x == e.slot) list d (derivations_found g other) is in
      let same : (told_slot e ≡ told_slot d.0) × (a ≡ d.1) = same_slot_told (e, a) d h.1 lawful.1 h.2 lawful.2 cc in
      let stands : (c : Option ℕ) × Stands address None None (told g) (told_slot d.0) d.1 c =
      found_each (λ (x : Derived). (c : Option ℕ) × Stands address None None (told g) (told_slot x.0) x.1 c) (λ (x : Derived). slot_of x == e.slot) list d
      (all_stand (Stands address None None (told g)) None None g (λ x y z s. s)) is in
      let among = all_among (IsFound g) (IsFront g) None None g (derivations_found g other) (siblings_in_front g other) (told_slot d.0) d.1 stands.0 stands.1 in
      let at : e.slot ≡ among.0.slot = ap (λ (x : ToldSlot). x.0) (same.0 ∙ among.1) in
      let fronts : option_map (sibling_text by_address e.slot) b ≡ option_map (sibling_text by_address e.slot) stands.0 =
      ap (option_map (sibling_text by_address e.slot)) (sym k.0) ∙ (same_order e.slot ∙ ap (option_map (sibling_text by_address e.slot)) (ap (in_front (siblings None g)) at ∙ among.3.0)) in
      let before : b ≡ stands.0 = same_before e.slot b stands.0 k.1 among.3.1 fronts in
      subst (λ x. Stands address None None (told g) x a b) (sym same.0)
      (subst (λ o. Stands address None None (told g) (told_slot d.0) o b) (sym same.1)
      (subst (λ o. Stands address None None (told g) (told_slot d.0) d.1 o) (sym before) stands.1))

  all_found : (e : Entry) (a b : Option ℕ) → IsFound f (e, a) → IsFront f (e.slot, b) → Stands address None None (told g) (told_slot e) a b
  all_found e a b h k =
      let list = derivations_of g in
      elim (found list e.slot) as (λ o. found list e.slot ≡ o → Stands address None None (told g) (told_slot e) a b) [
        | None ↦ λ is. absurd (let w : ◌≡◌ {A = Option (List ℕ)} (Some (traced_slot_text by_address (e, a))) None = sym (ap (option_map (traced_slot_text by_address)) h.0) ∙ (same_slots e.slot ∙ ap (option_map (traced_slot_text by_address)) is) in cc)
        | Some d ↦ λ is. found_stands e a b h k d is
      ] refl

  stands_there : (x : ToldSlot) (a b : Option ℕ) → Stands address None None (told f) x a b → Stands address None None (told g) x a b
  stands_there x a b stands =
      let among = all_among (IsFound f) (IsFront f) None None f (derivations_found f plain) (siblings_in_front f plain) x a b stands in
      subst (λ y. Stands address None None (told g) y a b) (sym among.1) (all_found among.0 a b among.2 among.3)

same_told : (f g : Forest Entry) → IsPlain f → IsPlain g → traced_slot_lines by_address (derivations_of f) ≡ traced_slot_lines by_address (derivations_of g) → sibling_lines by_address f ≡ sibling_lines by_address g → told f ≡ told g
same_told f g plain other lines order =
    same_forest address (told f) (told g)
    (told_apart f (λ slot. once_at slot (preorder f) plain.distinct)) (told_apart g (λ slot. once_at slot (preorder g) other.distinct))
    (stands_there f g plain other lines order) (stands_there g f other plain (sym lines) (sym order))

-- what is told alike is alike
same_entry : (a b : Entry) → IsWithinWords a.cap → IsWithinWords b.cap → told_slot a ≡ told_slot b → a ≡ b
same_entry a b h k same =
    let cap = capability_told a.cap b.cap h k (ap (λ (x : ToldSlot). x.1) same) in
    λ i. record { slot = (same i).0; cap = cap i; original = (same i).2 }

-- the same forest
pub same_lines : (f g : Forest Entry) → IsPlain f → IsPlain g → traced_slot_lines by_address (derivations_of f) ≡ traced_slot_lines by_address (derivations_of g) → sibling_lines by_address f ≡ sibling_lines by_address g → f ≡ g
same_lines f g plain other lines order =
    sym (renamed_as_it_is f)
    ∙ (same_renamed told_slot (λ (e : Entry). e) (λ (e : Entry). IsWithinWords e.cap) same_entry f g plain.words other.words (same_told f g plain other lines order)
    ∙ renamed_as_it_is g)

-- ---- of states that runs reach

all_short : (memory : ℕ) (p : ProfileName) (list : List Entry) → memory ≤ max_memory_bits → Each (IsSlotAddress p memory) (map entry_slot list) → Each (λ (e : Entry). IsShort (Some e.slot)) list
all_short memory p [] most h = tt
all_short memory p (e ∷ list) most h =
    let bound : 2 ^ memory ≤ 2 ^ 64 = pow_mono {i = memory} {j = 64} (omega (arith, most)) in
    (omega (arith, h.0.within, bound), all_short memory p list most h.1)

plain : (p : ProfileName) (A : State) → IsReached p A → IsPlain (shown A).derivations
unfolding shown
plain p A reached =
    let is = (reached_is p A reached).store in
    record {
      distinct = is.slots_distinct;
      short = all_short reached.plan.memory_bits p (preorder A.derivations) is.memory_most (recursion_from_All (IsSlotAddress p reached.plan.memory_bits) (slots A.derivations) is.slots_placed);
      words = each-map_old IsWithinWords (λ (e : Entry). e.cap) (preorder A.derivations) (recursion_from_All IsWithinWords (caps A.derivations) (reached_words p A reached));
    }

pub forest_told : (p : ProfileName) (A B : State) → IsReached p A → IsReached p B → (lines_in by_address p A).slots ≡ (lines_in by_address p B).slots → order_in by_address A ≡ order_in by_address B → (shown A).derivations ≡ (shown B).derivations
forest_told p A B a b lines order = same_lines (shown A).derivations (shown B).derivations (plain p A a) (plain p B b) lines order

-- the lines of slots after changes come of those of slots alone
abbrev slots_replayed : Lines → List (List Difference) → Lines
slots_replayed lines [] = lines
slots_replayed lines (ds ∷ rest) = slots_replayed (applied lines ds) rest

slots_after : (lines : StateLines) (ds : List StateDifferences) → (replayed lines ds).slots ≡ slots_replayed lines.slots (of_slots ds)
slots_after lines [] = refl
slots_after lines (d ∷ ds) = slots_after (state_applied lines d) ds

pub forest_replayed : (p : ProfileName) (plan other : Plan) (calls others : List Call) → IsPlan p plan → IsPlan p other →
    of_slots (boot_differences by_address p plan ∷ run_differences by_address p (boot p plan) calls) ≡ of_slots (boot_differences by_address p other ∷ run_differences by_address p (boot p other) others) →
    order_differences by_address p plan calls ≡ order_differences by_address p other others →
    (shown (state_after p (boot p plan) calls)).derivations ≡ (shown (state_after p (boot p other) others)).derivations
forest_replayed p plan other calls others lawful fits lines order =
    let A = state_after p (boot p plan) calls in
    let B = state_after p (boot p other) others in
    let made = slots_after no_lines (boot_differences by_address p plan ∷ run_differences by_address p (boot p plan) calls) ∙ (ap (slots_replayed []) lines ∙ sym (slots_after no_lines (boot_differences by_address p other ∷ run_differences by_address p (boot p other) others))) in
    forest_told p A B
    (record { plan = plan; lawful = lawful; calls = calls; is = refl }) (record { plan = other; lawful = fits; calls = others; is = refl })
    (ap (λ (l : StateLines). l.slots) (sym (run_replayed by_address p plan calls)) ∙ (made ∙ ap (λ (l : StateLines). l.slots) (run_replayed by_address p other others)))
    (sym (order_replayed by_address p plan calls) ∙ (ap (applied []) order ∙ order_replayed by_address p other others))
