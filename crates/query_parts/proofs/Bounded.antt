-- The parts that are found are the least ones, they hold ever, and they have the threads.
use Rattle.std.proofs.Common.{◌≡◌, ℕ, ◌+◌, ◌-◌, ◌^◌, ◌≤◌, ◌<◌, Bool, true, false, cond, ◌==◌, nat_lt, List, [], ◌∷◌, ◌++◌, map, Option, Some, None, refl, sym, ap, subst, ◌∙◌, arith}
use Rattle.std.specs.Prelude.{option_map, is_some}
use Rattle.std.specs.List.{Contains, filter, list_all}
use Rattle.std.proofs.Math.Pow.{pow_mono}
use Rattle.std.proofs.lemmas.Bool.{eqb-true}
use Rattle.std.proofs.lemmas.Bool.Decides.{nat_tests}
use Rattle.std.proofs.lemmas.List.{map-append}
use Rattle.std.proofs.lemmas.List.Elements.{All-contains}
use Rattle.std.proofs.lemmas.Nat.{pow_pos}
use Rattle.cap_core.specs.declared.profile.ProfileName.{ProfileName}
use Rattle.cap_core.specs.declared.capability.Cap.{Cap}
use Rattle.cap_core.specs.declared.capability.Cap.TheVariants.{Endpoint}
use Rattle.cap_core.specs.Numbers.{tcb_bits}
use Rattle.cap_core.specs.Objects.{base_of, bits_of, end_of, IsLawful}
use Rattle.kernel_forest.specs.Forest.{Forest, none, tree, preorder, parented}
use Rattle.kernel_forest.specs.Entries.{Entry, slot_of, caps, derivations_of}
use Rattle.kernel_forest.proofs.Slots.Holding.{cap-entry}
use Rattle.slot_core.specs.declared.derivations.Derivation.{Derivation}
use Rattle.slot_core.specs.Calls.{derivation_view}
use Rattle.kernel_delete.specs.Members.{In}
use Rattle.kernel_delete.proofs.Members.{all_in, all_of, in_filter}
use Rattle.kernel_delete.proofs.Clearable.{in_contains, contains_in}
use Rattle.kernel_abstract.specs.Shown.{Shown}
use Rattle.kernel_abstract.specs.State.{State, shown}
use Rattle.kernel_abstract.specs.Reached.{IsReached}
use Rattle.kernel_abstract.proofs.Reached.Simulation.{reached_is}
use Rattle.query_parts.specs.declared.listed.PartMemory.{PartMemory}
use Rattle.query_parts.specs.declared.listed.PartUse.{PartUse}
use Rattle.query_parts.specs.Parts.{Use, Parts, IsWithin}
use Rattle.query_parts.specs.Listed.{lies_in, part_at, use_of, parts_listed, entry_stands}
use Rattle.query_parts.specs.Order.{is_stretch, has_block, is_addressed, AreInOrder}
use Rattle.query_parts.specs.Ever.{AreConfinedEver}
use Rattle.query_parts.specs.Least.{AreClosedAround, LiesIn, AreLeast, AreLeastAround}
use Rattle.query_parts.specs.Private.Search.{use_in, EndsInWords, whose, HoldWithin, AreBounded, AreFound, entries_of}
use Rattle.query_parts.specs.Private.Arranging.{AreTold}
use Rattle.query_parts.proofs.Lists.{and_true, in_mapped, from_mapped}
use Rattle.query_parts.proofs.Growing.{at_member}
use Rattle.query_parts.proofs.Standing.{stands_still, block_still}
use Rattle.query_parts.proofs.Tested.{closed_entries}
use Rattle.query_parts.proofs.Closed.{shown_derivations, confined_from}

-- the last address of an object is a word, where it ends before the last word
below_words : (p : ProfileName) (cap : Cap) → end_of p cap < 2 ^ 64 → EndsInWords p cap
below_words p cap ends =
    ap (λ b. is_some (cond b (Some (base_of cap + (2 ^ bits_of p cap - 1))) None))
    (and_true _ _ (by (nat_lt (bits_of p cap) 64) refl) (let one = pow_pos (bits_of p cap) in grind (arith, nat_tests)))
  where
    by : (b : Bool) → nat_lt (bits_of p cap) 64 ≡ b → nat_lt (bits_of p cap) 64 ≡ true
    by true is = is
    by false is =
        let many : 64 ≤ bits_of p cap = grind (arith, nat_tests) in
        let large = pow_mono {i = 64} {j = bits_of p cap} many in absurd (omega (arith, ends, large))

-- so it is of each object that a slot names, in each state that is reached
ends_in_words : (p : ProfileName) (A : State) → IsReached p A → (e : Entry) → In e (preorder A.derivations) → EndsInWords p e.cap
ends_in_words p A reached e i =
    let store = (reached_is p A reached).store in
    let lawful = All-contains (IsLawful p reached.plan.memory_bits) (caps A.derivations) e.cap store.lawful
    (in_contains (caps A.derivations) e.cap (in_mapped (λ (x : Entry). x.cap) e (preorder A.derivations) i)) in
    let small = pow_mono {i = reached.plan.memory_bits} {j = 20} store.memory_most in
    below_words p e.cap (let within = lawful.placed.within in omega (arith, within, small))

-- the entries of what a kernel tells of its derivations
firsts : (above : Option Entry) (f : Forest Entry) →
    map (λ (x : Entry × Option ℕ). x.0) (map {B = Entry × Option ℕ} (λ (e : Entry × Option Entry). (e.0, option_map slot_of e.1)) (parented above f)) ≡ preorder f
firsts above none = refl
firsts above (tree a under others) =
    ap (λ (l : List Entry). a ∷ l)
    (ap (map (λ (x : Entry × Option ℕ). x.0)) (map-append (λ (e : Entry × Option Entry). (e.0, option_map slot_of e.1)) (parented (Some a) under) (parented above others))
    ∙ map-append (λ (x : Entry × Option ℕ). x.0)
    (map {B = Entry × Option ℕ} (λ (e : Entry × Option Entry). (e.0, option_map slot_of e.1)) (parented (Some a) under))
    (map {B = Entry × Option ℕ} (λ (e : Entry × Option Entry). (e.0, option_map slot_of e.1)) (parented above others))
    ∙ ap (λ (l : List Entry). l ++ map (λ (x : Entry × Option ℕ). x.0) (map {B = Entry × Option ℕ} (λ (e : Entry × Option Entry). (e.0, option_map slot_of e.1)) (parented above others))) (firsts (Some a) under)
    ∙ ap (λ (l : List Entry). preorder under ++ l) (firsts above others))

pub entries_told : (f : Forest Entry) → map (λ (x : Entry × Option ℕ). x.0) (derivations_of f) ≡ preorder f
entries_told f = firsts None f

viewed : (p : ProfileName) (ds : List Derivation) → map (λ (x : Entry × Option ℕ). x.0) (map (derivation_view p) ds) ≡ entries_of p ds
viewed p [] = refl
viewed p (d ∷ ds) = ap (λ (l : List Entry). (derivation_view p d).0 ∷ l) (viewed p ds)

pub entries_are : (p : ProfileName) (ds : List Derivation) (f : Forest Entry) → map (derivation_view p) ds ≡ derivations_of f → entries_of p ds ≡ preorder f
entries_are p ds f told = sym (viewed p ds) ∙ ap (map (λ (x : Entry × Option ℕ). x.0)) told ∙ entries_told f

module _ (p : ProfileName) (threads : List ℕ) (v : Shown) (ds : List Derivation) (told : map (derivation_view p) ds ≡ derivations_of v.derivations)
    (memory : List PartMemory) (uses : List PartUse) (F : AreFound p (entries_of p ds) threads memory uses)
    (memory' : List PartMemory) (uses' : List PartUse) (R : AreTold p memory uses memory' uses') where
  in_state : (A : State) → v ≡ shown A → entries_of p ds ≡ preorder A.derivations
  in_state A is = entries_are p ds v.derivations told ∙ ap preorder (ap (λ (w : Shown). w.derivations) is ∙ shown_derivations A)

  module _ (A : State) (reached : IsReached p A) (is : v ≡ shown A) (others : Parts) (C : AreClosedAround p threads A others) where
    holds : HoldWithin p others (entries_of p ds)
    holds e i k at =
        let there = in_contains (preorder A.derivations) e (subst (λ (l : List Entry). In e l) (in_state A is) i) in
        subst (IsWithin p others k) (cap-entry A.derivations e (reached_is p A reached).store.slots_distinct there) (C.closed k e.slot at)

    bounded : AreBounded p others memory uses
    bounded = F.bounded others (record {
      holds = holds;
      has = λ t i.
          let w = C.around t (in_contains threads t i) in
          let one = pow_pos (tcb_bits p) in
          (w.0, (w.1 t (omega arith) (omega (arith, one)), w.1));
    })

    lies : (i : ℕ) → LiesIn p (parts_listed memory' uses') i others (whose others (R.label i))
    lies i = record { memory = memory_lies; uses = uses_lie }
      where
        low : (m : PartMemory) (address : ℕ) → lies_in m address ≡ true → (m.first ≤ address) × (address ≤ m.last)
        low m address h = (grind (arith, nat_tests), grind (arith, nat_tests))

        memory_lies : (address : ℕ) → part_at memory' address ≡ Some i → others.part_of address ≡ Some (whose others (R.label i))
        memory_lies address at =
            let m = at_member memory' address i at in
            let l = low m.0 address m.1.1.0 in
            let n = R.memory_told.memory_from m.0 m.1.0 address l.0 l.1 in
            let k = low n.0 address n.1.1.1.1 in
            bounded.memory_lies n.0 n.1.0 address k.0 k.1
            ∙ ap (λ j. Some (whose others j)) (n.1.1.0 ∙ ap R.label m.1.1.1)

        uses_lie : (u : Use) → Contains (map use_of (filter (λ (x : PartUse). x.part == i) uses')) u → IsWithin p others (whose others (R.label i)) (Endpoint u.endpoint u.badge u.rights)
        uses_lie u has =
            let w = from_mapped use_of (filter (λ (x : PartUse). x.part == i) uses') u (contains_in _ u has) in
            let f = in_filter (λ (x : PartUse). x.part == i) uses' w.0 w.1.0 in
            let n = from_mapped (use_in R.number) uses w.0 (R.uses_told.only w.0 f.0) in
            let m = F.sound.used n.0 n.1.0 in
            let number : R.number n.0.part ≡ i = ap (λ (x : PartUse). x.part) (sym n.1.1) ∙ eqb-true w.0.part i f.1 in
            let label : n.0.part ≡ R.label i =
            sym (subst (λ k. R.label (R.number k) ≡ k) m.1.1 (R.memory_told.labelled m.0 m.1.0)) ∙ ap R.label number in
            subst (λ (x : Use). IsWithin p others (whose others (R.label i)) (Endpoint x.endpoint x.badge x.rights)) (sym w.1.1)
            (subst (λ (x : PartUse). IsWithin p others (whose others (R.label i)) (Endpoint x.endpoint x.badge x.rights)) (sym n.1.1)
            (subst (λ j. IsWithin p others j (Endpoint n.0.endpoint n.0.badge n.0.rights)) (ap (whose others) label) (bounded.uses_lie n.0 n.1.0)))

  found_least : AreLeast p threads memory' uses' v
  found_least A reached is others C i = (whose others (R.label i), lies A reached is others C i)

  -- what stands in a state's slots ends in words, so the parts that are found are closed, and so they are as they are told
  found_closed : (A : State) → IsReached p A → v ≡ shown A → list_all (entry_stands p memory' uses') (preorder A.derivations) ≡ true
  found_closed A reached is =
      subst (λ (es : List Entry). list_all (entry_stands p memory' uses') es ≡ true) (in_state A is)
      (all_of (entry_stands p memory' uses') (entries_of p ds) (λ e i.
      stands_still p memory uses memory' uses' F.sound R e (all_in (entry_stands p memory uses) (entries_of p ds) e (F.closed ends) i)))
    where
      ends : (e : Entry) → In e (entries_of p ds) → EndsInWords p e.cap
      ends e i = ends_in_words p A reached e (subst (λ (l : List Entry). In e l) (in_state A is) i)

  found_ever : AreConfinedEver p memory' uses' v
  found_ever = confined_from p memory' uses' v (λ A reached is i slot here.
      closed_entries p memory' uses' (preorder A.derivations) (found_closed A reached is) slot i here)

  pub found_around : list_all (is_addressed p) threads ≡ true → AreLeastAround p threads v memory' uses'
  found_around addressed = record {
    ever = found_ever;
    around = all_of (has_block p memory') threads (λ t i.
        block_still p memory uses memory' uses' F.sound R t (F.has t i (all_in (is_addressed p) threads t addressed i)));
    least = found_least;
  }

-- told parts stand in order
pub told_in_order : (p : ProfileName) (memory : List PartMemory) (uses : List PartUse) (memory' : List PartMemory) (uses' : List PartUse) →
    AreTold p memory uses memory' uses' → AreInOrder p memory' uses'
told_in_order p memory uses memory' uses' R = record {
  stretches = all_of is_stretch memory' (λ m i. long m (R.memory_told.long m i));
  rising = R.memory_told.rising;
  numbered = R.memory_told.numbered;
  uses_rising = R.uses_told.rising;
  needed = R.uses_told.needed;
}
  where
    long : (m : PartMemory) → m.first ≤ m.last → is_stretch m ≡ true
    long m h = grind (arith, nat_tests)
