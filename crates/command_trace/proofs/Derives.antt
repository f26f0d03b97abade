-- What a call does that derives the capability of a thread or of an endpoint.
use Rattle.std.proofs.Common.{◌≡◌, ℕ, Bool, true, false, not, cond, ◌==◌, ◌^◌, List, [], ◌∷◌, ◌++◌, map, Option, None, Some, option_map, unwrap_or, Result, Ok, Err, refl, sym, ap, subst, ◌∙◌, eq-eqb}
use Rattle.std.specs.List.{AllByRecursion as Each, IsDistinct, cons_option, filter, filter_map}
use Rattle.std.specs.Ordering.{nat_cmp}
use Rattle.std.specs.FinMap.{FinMap, get}
use Rattle.std.proofs.lemmas.List.{map-append}
use Rattle.cap_core.specs.declared.profile.ProfileName.{ProfileName}
use Rattle.cap_core.specs.declared.capability.Cap.{Cap}
use Rattle.cap_core.specs.declared.capability.Cap.TheVariants.{Null, Untyped, Endpoint, CNode, Tcb}
use Rattle.cap_core.specs.Objects.{is_untyped, bits_of}
use Rattle.kernel_forest.specs.Forest.{Forest, none, tree, preorder, parented, below, after, below_those, join, tops}
use Rattle.kernel_forest.specs.Entries.{Entry, is_at, is_full, is_original, cap_at, caps, slots, slot_of as entry_slot, first_slot, first_child, derivations_of}
use Rattle.kernel_forest.specs.Derivation.{derived, derived_entry, freed, is_new_original}
use Rattle.kernel_forest.proofs.Trees.Built.{Once}
use Rattle.kernel_forest.proofs.Trees.Above.{each-below_those}
use Rattle.kernel_forest.proofs.Trees.Renamed.{each-map, each-map_old}
use Rattle.kernel_forest.proofs.Slots.Distinct.{IsInserted, once_at, distinct-derived}
use Rattle.kernel_forest.proofs.Slots.Holding.{none_stands}
use Rattle.slot_core.specs.declared.derivations.Derivation.{Derivation}
use Rattle.slot_core.specs.Calls.{derivation_view}
use Rattle.slot_core.specs.Places.{address_of}
use Rattle.ipc_core.specs.declared.waiter.Waiter.{Waiter}
use Rattle.kernel_abstract.specs.declared.call.Call.{Call}
use Rattle.kernel_abstract.specs.declared.call.Reply.{Reply}
use Rattle.kernel_abstract.specs.declared.invocation.CapPlacement.{CapPlacement}
use Rattle.kernel_abstract.specs.declared.invocation.Invocation.{Invocation}
use Rattle.kernel_abstract.specs.declared.invocation.Invocation.TheVariants.{Derive}
use Rattle.kernel_abstract.specs.declared.reason.Reason.{Reason}
use Rattle.kernel_abstract.specs.CNodes.{with_derived}
use Rattle.kernel_abstract.specs.Decode.{checked_call}
use Rattle.kernel_abstract.specs.Reasons.{with_refusal}
use Rattle.kernel_abstract.specs.Shown.{Shown, endpoints_of, tcb_base, endpoint_base, table}
use Rattle.kernel_abstract.specs.State.{State, shown}
use Rattle.kernel_abstract.specs.Reached.{IsReached, StepsTo}
use Rattle.kernel_abstract.specs.Private.Effects.{decoded_effect, rearranged}
use Rattle.kernel_abstract.specs.Private.Invocations.{IsDerivation}
use Rattle.kernel_abstract.proofs.Capabilities.LiveAfter.{IsBase, tcb_is_base, endpoint_is_base, live-derived}
use Rattle.kernel_abstract.proofs.Lists.Tables.{get_table, same_nat_map}
use Rattle.kernel_abstract.proofs.Reached.Equations.{shown-derivations, shown-endpoints}
use Rattle.kernel_abstract.proofs.Reached.Simulation.{Reached, derived_same, reached_is, simulates}
use Rattle.kernel_abstract.proofs.Reached.Stores.{checked_edit}
use Rattle.setup_report.specs.declared.live.NamedObject.{NamedObject}
use Rattle.setup_report.specs.Naming.{Texts}
use Rattle.setup_report.specs.State.{Derived, slot_of, named, named_by, is_in}
use Rattle.setup_report.proofs.Addresses.Rising.{rising_same}
use Rattle.setup_report.proofs.Addresses.Slots.{slots_are as derived_slots}
use Rattle.command_trace.specs.Lines.{traced_slot_lines}
use Rattle.command_trace.specs.Changes.{line_changes}
use Rattle.command_trace.specs.Siblings.{siblings, sibling_lines}
use Rattle.command_trace.specs.Told.{told_lines, told_changes}
use Rattle.command_trace.specs.Foreseen.{IsForeseen, IsMade, names_live}
use Rattle.command_trace.specs.Private.Derived.{AreRowsOf, IsDerivedStep, IsPutLive, child_text, with_forest}
use Rattle.command_trace.specs.declared.lines.foreseen.DerivedCap.{DerivedCap}
use Rattle.command_trace.specs.declared.lines.foreseen.Foreseen.{Foreseen}
use Rattle.command_trace.proofs.Added.{HaveSameObjects, slots_alone, slot_added, sibling_added}
use Rattle.command_trace.proofs.Put.{IsBorn, rows_below, rows_after, born_below}

-- ---- a sibling is no child

children_after : (is : Entry → Bool) (x : Entry) (f : Forest Entry) → below_those is (after is x f) ≡ below_those is f
children_after is x none = refl
children_after is x (tree a k r) =
    elim (is a) as (λ c. is a ≡ c → below_those is (cond c (tree a k (tree x none r)) (tree a (after is x k) (after is x r))) ≡ cond c k (join (below_those is k) (below_those is r))) [
      | true ↦ λ e. ap (λ c. cond c k (join (below_those is k) (below_those is (tree x none r)))) e
      | false ↦ λ e. ap (λ c. cond c (after is x k) (join (below_those is (after is x k)) (below_those is (after is x r)))) e ∙ (λ i. join (children_after is x k i) (children_after is x r i))
    ] refl

-- a child is a full slot
child_full : (is : Entry → Bool) (slot : ℕ) (f : Forest Entry) → is_full slot f ≡ false → first_slot (tops (below_those is f)) ≡ Some slot → ⊥
child_full is slot f empty h =
    first (below_those is f) (each-below_those (λ (e : Entry). (e.slot == slot) ≡ false) is f (none_stands slot (preorder f) empty)) h
  where
    first : (g : Forest Entry) → Each (λ (e : Entry). (e.slot == slot) ≡ false) (preorder g) → first_slot (tops g) ≡ Some slot → ⊥
    first none each h = cc
    first (tree a k r) each h = let same : a.slot ≡ slot = cc in let no : true ≡ false = sym (eq-eqb a.slot slot same) ∙ each.0 in cc

-- ---- the objects that are named

firsts : (above : Option Entry) (f : Forest Entry) → map (λ (d : Derived). d.0.cap) (map (λ (x : Entry × Option Entry). (x.0, option_map entry_slot x.1)) (parented above f)) ≡ map (λ (e : Entry). e.cap) (preorder f)
firsts above none = refl
firsts above (tree a k r) =
    let view : Entry × Option Entry → Derived = λ x. (x.0, option_map entry_slot x.1) in
    let cap : Derived → Cap = λ d. d.0.cap in
    ap (λ l. a.cap ∷ l)
    (ap (map cap) (map-append view (parented (Some a) k) (parented above r))
    ∙ map-append cap (map view (parented (Some a) k)) (map view (parented above r))
    ∙ (λ i. firsts (Some a) k i ++ firsts above r i)
    ∙ sym (map-append (λ (e : Entry). e.cap) (preorder k) (preorder r)))

by_cap : (base : Cap → Option ℕ) (list : List Derived) → filter_map (λ (d : Derived). base d.0.cap) list ≡ filter_map base (map (λ (d : Derived). d.0.cap) list)
by_cap base [] = refl
by_cap base (d ∷ list) = ap (cons_option (base d.0.cap)) (by_cap base list)

named_of : (base : Cap → Option ℕ) (f : Forest Entry) → filter_map (λ (d : Derived). base d.0.cap) (derivations_of f) ≡ filter_map base (caps f)
named_of base f = by_cap base (derivations_of f) ∙ ap (filter_map base) (firsts None f)

-- a row that names nothing
nothing_named : (g : Derived → Option ℕ) (d : Derived) (front rest : List Derived) → g d ≡ None → filter_map g (front ++ d ∷ rest) ≡ filter_map g (front ++ rest)
nothing_named g d [] rest h = ap (λ o. cons_option o (filter_map g rest)) h
nothing_named g d (e ∷ front) rest h = ap (cons_option (g e)) (nothing_named g d front rest h)

-- ---- the step, by the forest alone

module _ (p : ProfileName) (v : Shown) (placement : CapPlacement) (new : IsPutLive v placement) where
  abbrev f : Forest Entry
  f = v.derivations

  abbrev put : Forest Entry
  put = derived placement.source placement.slot placement.cap f

  abbrev x : Entry
  x = derived_entry placement.source placement.slot placement.cap f

  put_apart : IsDistinct (λ (a b : ℕ). a == b) (slots put)
  put_apart = distinct-derived placement.source placement.slot placement.cap f new.apart new.full new.empty

  once : Once (is_at placement.source) (preorder f)
  once = once_at placement.source (preorder f) new.apart

  -- whatever the source is, there is one row more
  inserted : (above : Option ℕ) × IsInserted (x, above) (derivations_of f) (derivations_of put)
  inserted =
      elim (is_original placement.source f) as (λ c. (above : Option ℕ) × IsInserted (x, above) (derivations_of f) (derivations_of (cond c (below (is_at placement.source) x f) (after (is_at placement.source) x f)))) [
        | true ↦ (Some placement.source, rows_below placement.source x f once new.full)
        | false ↦ rows_after placement.source x f once new.full
      ]

  not_untyped : (cap : Cap) → names_live cap ≡ true → is_untyped cap ≡ false
  not_untyped Null h = refl
  not_untyped (Untyped base bits free) h = cc
  not_untyped (Endpoint base badge rights) h = refl
  not_untyped (CNode base radix guard) h = refl
  not_untyped (Tcb base) h = refl

  pub put_is : with_derived p placement f ≡ put
  put_is = ap (λ b. cond b (freed placement.source (2 ^ bits_of p placement.cap) put) put) (not_untyped placement.cap new.live)

  live_same : (base : Cap → Option ℕ) → IsBase base → (q : ℕ) → is_in q (filter_map (λ (d : Derived). base d.0.cap) (derivations_of put)) ≡ is_in q (filter_map (λ (d : Derived). base d.0.cap) (derivations_of f))
  live_same base is q =
      ap (is_in q) (named_of base put)
      ∙ ap (λ g. is_in q (filter_map base (caps g))) (sym put_is)
      ∙ live-derived base is p placement f new.full new.same q
      ∙ ap (is_in q) (sym (named_of base f))

  same_objects : HaveSameObjects p (derivations_of f) (derivations_of put)
  same_objects =
      record {
        threads = rising_same _ _ (live_same tcb_base tcb_is_base);
        endpoints = rising_same _ _ (live_same endpoint_base endpoint_is_base);
        selfheld = λ i. holding (others i) (own i);
      }
    where
      holding : List ℕ → List ℕ → List ℕ
      holding others own = filter (λ base. not (is_in base others)) own

      own_none : (cap : Cap) → names_live cap ≡ true → named_by p NamedObject.OwnNode (record { slot = placement.slot; cap = cap; original = x.original }, inserted.0) ≡ None
      own_none Null h = cc
      own_none (Untyped base bits free) h = cc
      own_none (Endpoint base badge rights) h = refl
      own_none (CNode base radix guard) h = cc
      own_none (Tcb base) h = refl

      other_none : (cap : Cap) → names_live cap ≡ true → named_by p NamedObject.OtherNode (record { slot = placement.slot; cap = cap; original = x.original }, inserted.0) ≡ None
      other_none Null h = cc
      other_none (Untyped base bits free) h = cc
      other_none (Endpoint base badge rights) h = refl
      other_none (CNode base radix guard) h = cc
      other_none (Tcb base) h = refl

      unnamed : (naming : NamedObject) → named_by p naming (x, inserted.0) ≡ None → named p naming (derivations_of put) ≡ named p naming (derivations_of f)
      unnamed naming h = ap (filter_map (named_by p naming)) inserted.1.new ∙ nothing_named (named_by p naming) (x, inserted.0) inserted.1.front inserted.1.rest h ∙ ap (filter_map (named_by p naming)) (sym inserted.1.old)

      own : named p NamedObject.OwnNode (derivations_of put) ≡ named p NamedObject.OwnNode (derivations_of f)
      own = unnamed NamedObject.OwnNode (own_none placement.cap new.live)

      others : named p NamedObject.OtherNode (derivations_of put) ≡ named p NamedObject.OtherNode (derivations_of f)
      others = unnamed NamedObject.OtherNode (other_none placement.cap new.live)

  -- all that is told is the slots and their order
  pub told_put : (texts : Texts) → told_changes (told_lines texts p v) (told_lines texts p (with_forest v put))
      ≡ line_changes (traced_slot_lines texts (derivations_of f)) (traced_slot_lines texts (derivations_of put)) ++ line_changes (sibling_lines texts f) (sibling_lines texts put)
  told_put texts = slots_alone texts p v put same_objects

  -- without its row, the rows are those before
  pub without_row : filter (λ (d : Derived). not (slot_of d == placement.slot)) (derivations_of put) ≡ derivations_of f
  without_row =
      ap (filter test) inserted.1.new
      ∙ without_one (x, inserted.0) inserted.1.front inserted.1.rest (eq-eqb placement.slot placement.slot refl) (subst (Each other) inserted.1.old others)
      ∙ sym inserted.1.old
    where
      test : Derived → Bool
      test d = not (slot_of d == placement.slot)

      other : Derived → Type 0
      other d = (slot_of d == placement.slot) ≡ false

      others : Each other (derivations_of f)
      others =
          each-map_old (λ n. (n == placement.slot) ≡ false) slot_of (derivations_of f)
          (subst (Each (λ n. (n == placement.slot) ≡ false)) (sym (derived_slots f))
          (each-map (λ n. (n == placement.slot) ≡ false) (λ (e : Entry). e.slot) (preorder f) (none_stands placement.slot (preorder f) new.empty)))

      all_kept : (l : List Derived) → Each other l → filter test l ≡ l
      all_kept [] h = refl
      all_kept (d ∷ l) h = ap (λ b. cond (not b) (d ∷ filter test l) (filter test l)) h.0 ∙ ap (λ m. d ∷ m) (all_kept l h.1)

      without_one : (d : Derived) (front rest : List Derived) → (slot_of d == placement.slot) ≡ true → Each other (front ++ rest) → filter test (front ++ d ∷ rest) ≡ front ++ rest
      without_one d [] rest here h = ap (λ b. cond (not b) (d ∷ filter test rest) (filter test rest)) here ∙ all_kept rest h
      without_one d (e ∷ front) rest here h =
          ap (λ b. cond (not b) (e ∷ filter test (front ++ d ∷ rest)) (filter test (front ++ d ∷ rest))) h.0
          ∙ ap (λ m. e ∷ m) (without_one d front rest here h.1)

  -- a first child
  pub child_told : (texts : Texts) → first_child placement.source put ≡ Some placement.slot →
      told_changes (told_lines texts p v) (told_lines texts p (with_forest v put)) ≡ child_text texts placement x.original (first_child placement.source f)
  child_told texts is =
      elim (is_original placement.source f) as (λ c. is_original placement.source f ≡ c → told_changes (told_lines texts p v) (told_lines texts p (with_forest v put)) ≡ child_text texts placement x.original (first_child placement.source f)) [
        | true ↦ λ e.
            let child : put ≡ below (is_at placement.source) x f = ap (λ c. cond c (below (is_at placement.source) x f) (after (is_at placement.source) x f)) e in
            told_put texts
            ∙ (λ i. slot_added texts (x, Some placement.source) f put (subst (λ g. IsInserted (x, Some placement.source) (derivations_of f) (derivations_of g)) (sym child) (rows_below placement.source x f once new.full)) new.apart put_apart i
            ++ sibling_added texts placement.slot (first_child placement.source f) f put (subst (λ g. IsBorn placement.slot (first_child placement.source f) (siblings None f) (siblings None g)) (sym child) (born_below placement.source x f once new.full)) new.apart put_apart i)
        | false ↦ λ e.
            let beside : put ≡ after (is_at placement.source) x f = ap (λ c. cond c (below (is_at placement.source) x f) (after (is_at placement.source) x f)) e in
            absurd (child_full (is_at placement.source) placement.slot f new.empty
            (ap (λ g. first_slot (tops g)) (sym (children_after (is_at placement.source) x f)) ∙ ap (first_child placement.source) (sym beside) ∙ is))
      ] refl

-- ---- what is told of it

module _ (texts : Texts) (p : ProfileName) (v w : Shown) (new : DerivedCap) (step : IsDerivedStep p v w new) where
  after_is : told_changes (told_lines texts p v) (told_lines texts p w) ≡ told_changes (told_lines texts p v) (told_lines texts p (with_forest v (put p v new.placement step.put)))
  after_is = ap (λ u. told_changes (told_lines texts p v) (told_lines texts p u)) step.after

  forest_is : w.derivations ≡ put p v new.placement step.put
  forest_is = ap (λ (u : Shown). u.derivations) step.after

  pub child_changes : first_child new.placement.source w.derivations ≡ Some new.placement.slot →
      told_changes (told_lines texts p v) (told_lines texts p w) ≡ child_text texts new.placement new.original new.next
  child_changes is =
      after_is
      ∙ child_told p v new.placement step.put texts (ap (first_child new.placement.source) (sym forest_is) ∙ is)
      ∙ (λ i. child_text texts new.placement (sym step.original i) (sym step.next i))

  pub slots_changes : told_changes (told_lines texts p v) (told_lines texts p w)
      ≡ line_changes (traced_slot_lines texts (derivations_of v.derivations)) (traced_slot_lines texts (derivations_of w.derivations)) ++ line_changes (sibling_lines texts v.derivations) (sibling_lines texts w.derivations)
  slots_changes =
      after_is ∙ told_put p v new.placement step.put texts
      ∙ ap (λ g. line_changes (traced_slot_lines texts (derivations_of v.derivations)) (traced_slot_lines texts (derivations_of g)) ++ line_changes (sibling_lines texts v.derivations) (sibling_lines texts g)) (sym forest_is)

  -- the rows before are those after without the new one
  pub rows_before : (after before : List Derivation) → before ≡ filter (λ (d : Derivation). not (address_of p d.slot == new.placement.slot)) after →
      map (derivation_view p) after ≡ derivations_of w.derivations → AreRowsOf p v.derivations before
  rows_before after before is there =
      record {
        list = ap (map (derivation_view p)) is ∙ viewed after ∙ ap (filter (λ (d : Derived). not (slot_of d == new.placement.slot))) (there ∙ ap derivations_of forest_is) ∙ without_row p v new.placement step.put;
        apart = step.put.apart;
      }
    where
      viewed : (l : List Derivation) → map (derivation_view p) (filter (λ (d : Derivation). not (address_of p d.slot == new.placement.slot)) l)
          ≡ filter (λ (d : Derived). not (slot_of d == new.placement.slot)) (map (derivation_view p) l)
      viewed [] = refl
      viewed (d ∷ l) =
          elim (not (address_of p d.slot == new.placement.slot)) as (λ b. map (derivation_view p) (cond b (d ∷ filter (λ (e : Derivation). not (address_of p e.slot == new.placement.slot)) l) (filter (λ (e : Derivation). not (address_of p e.slot == new.placement.slot)) l))
          ≡ cond b (derivation_view p d ∷ filter (λ (e : Derived). not (slot_of e == new.placement.slot)) (map (derivation_view p) l)) (filter (λ (e : Derived). not (slot_of e == new.placement.slot)) (map (derivation_view p) l))) [
            | true ↦ ap (λ m. derivation_view p d ∷ m) (viewed l)
            | false ↦ viewed l
          ]

-- ---- the step of a call that passes its checks, and of one that does not

-- a table over other keys, of which the same are there
table_stays : {X : Type 0} (keys keys' : List ℕ) (h : ℕ → List X) (m : FinMap nat_cmp (List X)) → m ≡ table keys h → ((q : ℕ) → is_in q keys' ≡ is_in q keys) →
    table keys' (λ q. unwrap_or (get m q) []) ≡ m
table_stays {X} keys keys' h m is same =
    same_nat_map _ _ (λ q.
    get_table keys' (λ r. unwrap_or (get m r) []) q
    ∙ ap (λ b. cond b (Some (unwrap_or (get m q) [])) None) (same q)
    ∙ ap (λ o. cond (is_in q keys) (Some (unwrap_or o [])) None) (there q)
    ∙ both (is_in q keys) (h q)
    ∙ sym (there q))
  where
    there : (q : ℕ) → get m q ≡ cond (is_in q keys) (Some (h q)) None
    there q = ap (λ n. get n q) is ∙ get_table keys h q

    both : (b : Bool) (x : List X) → cond b (Some (unwrap_or (cond b (Some x) None) [])) None ≡ cond b (Some x) None
    both true x = refl
    both false x = refl

module _ (p : ProfileName) (A : State) (call : Call) (reply : Reply) (w : Shown) (reached : IsReached p A) (steps : StepsTo p A call reply w) where
  abbrev v : Shown
  v = shown A

  found_after : (r : Result Invocation Reason) → checked_call p v call ≡ r → w ≡ (decoded_effect p v call.thread (with_refusal r)).after
  found_after r is =
      steps.shows
      ∙ sym (simulates p reached.plan.memory_bits A (reached_is p A reached) call).1
      ∙ ap (λ (found : Result Invocation Reason). (decoded_effect p v call.thread (with_refusal found)).after) is

  -- nothing changes
  pub refused_stays : (reason : Reason) → checked_call p v call ≡ Err reason → w ≡ v
  refused_stays reason is = found_after (Err reason) is

  module _ (placement : CapPlacement) (is : checked_call p v call ≡ Ok (Derive placement)) where
    store : Reached p reached.plan.memory_bits A
    store = reached_is p A reached

    edit : IsDerivation p A.derivations placement
    edit = checked_edit p reached.plan.memory_bits A call (Derive placement) store.store (ap with_refusal is)

    abbrev IsDerivedOf : Forest Entry → Type 0
    IsDerivedOf f = IsPutLive (with_forest v f) placement

    pub derives : names_live placement.cap ≡ true → IsPutLive v placement
    derives live =
        subst IsDerivedOf (sym (shown-derivations A))
        (record { full = edit.ends.full; empty = edit.ends.empty; apart = store.store.slots_distinct; same = edit.ends.same; live = live })

    pub derived_after : names_live placement.cap ≡ true → w ≡ with_forest v (derived placement.source placement.slot placement.cap v.derivations)
    derived_after live = found_after (Ok (Derive placement)) is ∙ stays ∙ ap (with_forest v) (put_is p v placement (derives live))
      where
        stays : rearranged v (with_derived p placement v.derivations) ≡ with_forest v (with_derived p placement v.derivations)
        stays =
            ap (λ (m : FinMap nat_cmp (List Waiter)). record v { derivations = with_derived p placement v.derivations; endpoints = m })
            (table_stays (endpoints_of A.derivations) (endpoints_of (with_derived p placement v.derivations)) _ v.endpoints (shown-endpoints A)
            (λ q. ap (λ f. is_in q (endpoints_of (with_derived p placement f))) (shown-derivations A)
            ∙ derived_same p reached.plan.memory_bits A call.thread store placement edit endpoint_base endpoint_is_base q))

    pub derived_step : (new : DerivedCap) → placement ≡ new.placement → names_live new.placement.cap ≡ true →
        new.original ≡ is_new_original (cap_at v.derivations new.placement.source) new.placement.cap → new.next ≡ first_child new.placement.source v.derivations → IsDerivedStep p v w new
    derived_step new same live original next =
        let there = subst (λ (c : CapPlacement). names_live c.cap ≡ true) (sym same) live in
        record {
          put = subst (IsPutLive v) same (derives there);
          original = original;
          next = next;
          after = derived_after there ∙ ap (λ (c : CapPlacement). with_forest v (derived c.source c.slot c.cap v.derivations)) same;
        }

-- what was foreseen of a call in what is shown, and the call made
pub made : (texts : Texts) (p : ProfileName) (A : State) (call : Call) (reply : Reply) (v w : Shown) (seen : Foreseen) (found : Result Invocation Reason) →
    IsReached p A → v ≡ shown A → StepsTo p A call reply w → found ≡ checked_call p v call → IsForeseen texts p v found seen → IsMade texts p A call reply w seen
made texts p A call reply v w seen found reached same steps is foreseen =
    record {
      reached = reached;
      steps = steps;
      foreseen = subst (λ u. IsForeseen texts p u (checked_call p u call) seen) same (subst (λ f. IsForeseen texts p v f seen) is foreseen);
    }
