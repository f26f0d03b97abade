-- Untyped regions in the slots of a group's part: where no line tells of one, each lies in a region of the group, and stays there.
use Rattle.std.proofs.Common.{◌≡◌, ℕ, zero, suc, ◌+◌, ◌-◌, ◌^◌, ◌<◌, ◌≤◌, inl, inr, Bool, true, false, not, cond, ◌==◌, ◌&&◌, nat_le, nat_lt, List, [], ◌∷◌, ◌++◌, map, Option, Some, None, refl, sym, ap, subst, ◌∙◌, arith}
use Rattle.std.specs.Prelude.{option_map}
use Rattle.std.specs.List.{filter, AllByRecursion as Each}
use Rattle.std.proofs.lemmas.Bool.{false≢true, eqb-true, ltb-true, leb-true, leb-false, lt-ltb, le-leb}
use Rattle.std.proofs.lemmas.List.{map-append}
use Rattle.std.proofs.lemmas.Nat.{pow_pos, pow_below}
use Rattle.cap_core.specs.declared.profile.ProfileName.{ProfileName}
use Rattle.cap_core.specs.declared.capability.Cap.{Cap}
use Rattle.cap_core.specs.declared.capability.Cap.TheVariants.{Null, Untyped, Endpoint, CNode, Tcb}
use Rattle.cap_core.specs.Objects.{is_null, in_region}
use Rattle.kernel_forest.specs.Forest.{Forest, none, tree, preorder, parented}
use Rattle.kernel_forest.specs.Entries.{Entry, slot_of as entry_slot, cap_in, cap_at, derivations_of}
use Rattle.kernel_delete.specs.Members.{In}
use Rattle.kernel_delete.proofs.Members.{both_true, any_in, any_of, tells}
use Rattle.kernel_abstract.specs.declared.call.Call.{Call}
use Rattle.kernel_abstract.specs.Reached.{IsReached}
use Rattle.kernel_abstract.specs.State.{State, shown}
use Rattle.kernel_abstract.specs.Step.{state_after}
use Rattle.query_parts.specs.Laws.{IsAllowed}
use Rattle.query_parts.specs.Listed.{last_in, part_at, parts_listed}
use Rattle.query_parts.proofs.Closed.{shown_derivations}
use Rattle.query_parts.proofs.Lists.{in_mapped}
use Rattle.query_parts.proofs.Regions.{regions_stay}
use Rattle.setup_report.specs.State.{Derived, rising, slot_of, found, by_address, slot_rows}
use Rattle.command_never.proofs.Kept.{now_closed}
use Rattle.command_policy_breaches.specs.declared.held.HeldRegion.{HeldRegion}
use Rattle.command_policy_breaches.specs.declared.held.Layout.{Layout}
use Rattle.setup_policy.specs.declared.policy.Policy.{Policy}
use Rattle.command_policy_breaches.specs.Breaches.{ends_within, range_lies_within, is_in_larger, is_region_amiss, is_region_own}
use Rattle.command_policy_breaches.specs.Joins.{blocks, homes_joined, joins}
use Rattle.command_policy_breaches.specs.Layouts.{IsLayoutOf, region_at, region_of}
use Rattle.command_policy_breaches.specs.Ways.{passages}
use Rattle.command_policy_laws.specs.Unbroken.{AreRegionsTheirs, IsRegionTheirs, group_in, group_of, is_in_region, is_in_their_region}
use Rattle.command_policy_laws.proofs.Groups.{has_group, in_found, in_rising}
use Rattle.command_policy_laws.proofs.Unbroken.{listed, own_region}
use Rattle.command_policy_laws.proofs.Untold.{IsUnbroken, fails}

-- ---- ranges

record IsLast (first bits last : ℕ) : Type 0 where
  size : bits < 64
  word : first + (2 ^ bits - 1) < 2 ^ 64
  at : last ≡ first + (2 ^ bits - 1)

last_is : (first bits last : ℕ) → last_in first bits ≡ Some last → IsLast first bits last
last_is first bits last h = by (nat_lt bits 64) (nat_lt (first + (2 ^ bits - 1)) (2 ^ 64)) refl refl h
  where
    by : (a b : Bool) → nat_lt bits 64 ≡ a → nat_lt (first + (2 ^ bits - 1)) (2 ^ 64) ≡ b →
        cond (a && b) (Some (first + (2 ^ bits - 1))) None ≡ Some last → IsLast first bits last
    by true true size word e = record { size = ltb-true bits 64 size; word = ltb-true (first + (2 ^ bits - 1)) (2 ^ 64) word; at = cc }
    by true false size word e = cc
    by false b size word e = cc

last_there : (first bits : ℕ) → bits < 64 → first + (2 ^ bits - 1) < 2 ^ 64 → last_in first bits ≡ Some (first + (2 ^ bits - 1))
last_there first bits size word = rw (lt-ltb bits 64 size, lt-ltb (first + (2 ^ bits - 1)) (2 ^ 64) word) refl

-- 2^bits addresses lie among 2^most others, all of which are words
record IsAmong (base bits first most : ℕ) : Type 0 where
  size : most < 64
  low : first ≤ base
  high : base + 2 ^ bits ≤ first + 2 ^ most
  word : first + (2 ^ most - 1) < 2 ^ 64

among : (base bits first most : ℕ) → range_lies_within base bits first most ≡ true → IsAmong base bits first most
among base bits first most h = by (last_in base bits) (last_in first most) refl refl h
  where
    by : (a b : Option ℕ) → last_in base bits ≡ a → last_in first most ≡ b → ends_within a b (nat_le first base) ≡ true → IsAmong base bits first most
    by None b one two e = absurd (false≢true e)
    by (Some last) None one two e = absurd (false≢true e)
    by (Some last) (Some end) one two e =
        let inner = last_is base bits last one in
        let outer = last_is first most end two in
        let both = both_true (nat_le first base) (nat_le last end) e in
        let ends = leb-true last end both.1 in
        let a = inner.at in
        let b = outer.at in
        record { size = outer.size; low = leb-true first base both.0; high = omega (arith, pow_pos bits, pow_pos most); word = outer.word }

not_more : (i j : ℕ) → 2 ^ i ≤ 2 ^ j → i ≤ j
not_more i j h = elim (tells (nat_le i j)) [
  | inl fits ↦ leb-true i j fits
  | inr exceeds ↦ absurd (let more = pow_below j i (leb-false i j exceeds) in omega (arith, h))
]

-- what lies among these addresses does so, too
among_too : (base bits first most base' bits' : ℕ) → range_lies_within base bits first most ≡ true → base ≤ base' → base' + 2 ^ bits' ≤ base + 2 ^ bits →
    range_lies_within base' bits' first most ≡ true
among_too base bits first most base' bits' h low high =
    let a = among base bits first most h in
    let under = a.low in
    let over = a.high in
    let word = a.word in
    let s = a.size in
    let size : bits' < 64 = (let few = not_more bits' most (omega arith) in omega arith) in
    let inner : last_in base' bits' ≡ Some (base' + (2 ^ bits' - 1)) = last_there base' bits' size (omega (arith, pow_pos bits', pow_pos most)) in
    let outer : last_in first most ≡ Some (first + (2 ^ most - 1)) = last_there first most a.size a.word in
    let starts : nat_le first base' ≡ true = le-leb first base' (omega arith) in
    let ends : nat_le (base' + (2 ^ bits' - 1)) (first + (2 ^ most - 1)) ≡ true = le-leb _ _ (omega (arith, pow_pos bits', pow_pos most)) in
    rw (inner, outer, starts, ends) refl

-- ---- the rows of a state have the capability of each full slot

abbrev viewed : Entry × Option Entry → Derived
viewed x = (x.0, option_map entry_slot x.1)

entries_parented : (above : Option Entry) (f : Forest Entry) → map (λ (d : Derived). d.0) (map viewed (parented above f)) ≡ preorder f
entries_parented above none = refl
entries_parented above (tree a under others) =
    ap (λ l. a ∷ l)
    (ap (map (λ (d : Derived). d.0)) (map-append viewed (parented (Some a) under) (parented above others))
    ∙ map-append (λ (d : Derived). d.0) (map viewed (parented (Some a) under)) (map viewed (parented above others))
    ∙ (λ i. entries_parented (Some a) under i ++ entries_parented above others i))

record IsRow (list : List Derived) (slot : ℕ) (cap : Cap) (d : Derived) : Type 0 where
  there : In d list
  first : found list slot ≡ Some d
  slot_is : d.0.slot ≡ slot
  cap_is : d.0.cap ≡ cap

row_in : (list : List Derived) (slot : ℕ) (cap : Cap) → is_null cap ≡ false → cap_in slot (map (λ (d : Derived). d.0) list) ≡ cap → (d : Derived) × IsRow list slot cap d
row_in [] slot cap some h = absurd (let n : true ≡ false = ap is_null h ∙ some in cc)
row_in (d ∷ list) slot cap some h =
    (elim (d.0.slot == slot) as (λ b. d.0.slot == slot ≡ b → cond b d.0.cap (cap_in slot (map (λ (x : Derived). x.0) list)) ≡ cap → (x : Derived) × IsRow (d ∷ list) slot cap x) [
      | true ↦ λ at is. (d, record { there = inl refl; first = rw at refl; slot_is = eqb-true d.0.slot slot at; cap_is = is })
      | false ↦ λ other is. let m = row_in list slot cap some is in
          (m.0, record { there = inr m.1.there; first = rw other m.1.first; slot_is = m.1.slot_is; cap_is = m.1.cap_is })
    ]) refl h

row_of : (f : Forest Entry) (slot : ℕ) (cap : Cap) → is_null cap ≡ false → cap_at f slot ≡ cap →
    (d : Derived) × (In d (by_address (derivations_of f)) × ((d.0.slot ≡ slot) × (d.0.cap ≡ cap)))
row_of f slot cap some h =
    let m = row_in (derivations_of f) slot cap some (ap (cap_in slot) (entries_parented None f) ∙ h) in
    let at = in_rising slot (map slot_of (derivations_of f)) (subst (λ n. In n (map slot_of (derivations_of f))) m.1.slot_is (in_mapped slot_of m.0 (derivations_of f) m.1.there)) in
    (m.0, (in_found (found (derivations_of f)) (rising (map slot_of (derivations_of f))) slot m.0 at m.1.first, (m.1.slot_is, m.1.cap_is)))

-- ---- no line tells of a region

module _ (c : Policy) (l : Layout) (none_told : filter (is_region_amiss c l) l.regions.items ≡ []) where
  amiss : (own larger : Bool) → own ≡ false → (not own && not larger) ≡ false → larger ≡ true
  amiss own true is h = refl
  amiss true false is h = sym is
  amiss false false is h = cc

  unset : (b : Bool) → not b ≡ true → b ≡ false
  unset true h = sym h
  unset false h = refl

  record IsLarger (r o : HeldRegion) : Type 0 where
    there : In o l.regions.items
    more : r.bits < o.bits
    most : o.bits < 64
    foreign : is_region_own c l o ≡ false

  -- one that is none of the part's own lies in a larger such one
  larger_one : (r : HeldRegion) → In r l.regions.items → is_region_own c l r ≡ false → (o : HeldRegion) × IsLarger r o
  larger_one r there foreign =
      let larger = amiss (is_region_own c l r) (is_in_larger c l r) foreign (fails (is_region_amiss c l) l.regions.items r none_told there) in
      let m = any_of (λ (o : HeldRegion). o.part == r.part && (nat_lt r.bits o.bits && (range_lies_within r.base r.bits o.base o.bits && not (is_region_own c l o)))) l.regions.items larger in
      let one = both_true (m.0.part == r.part) (nat_lt r.bits m.0.bits && (range_lies_within r.base r.bits m.0.base m.0.bits && not (is_region_own c l m.0))) m.1.1 in
      let two = both_true (nat_lt r.bits m.0.bits) (range_lies_within r.base r.bits m.0.base m.0.bits && not (is_region_own c l m.0)) one.1 in
      let three = both_true (range_lies_within r.base r.bits m.0.base m.0.bits) (not (is_region_own c l m.0)) two.1 in (
        m.0,
        record {
          there = m.1.0;
          more = ltb-true r.bits m.0.bits two.0;
          most = (among r.base r.bits m.0.base m.0.bits three.0).size;
          foreign = unset (is_region_own c l m.0) three.1;
        },
      )

  -- and these would have more and more bits
  none_foreign : (k : ℕ) (r : HeldRegion) → 64 ≤ r.bits + k → In r l.regions.items → is_region_own c l r ≡ false → ⊥
  none_foreign zero r enough there foreign = let o = larger_one r there foreign in omega (arith, enough, o.1.more, o.1.most)
  none_foreign (suc n) r enough there foreign = let o = larger_one r there foreign in none_foreign n o.0 (omega (arith, enough, o.1.more)) o.1.there o.1.foreign

  each_own : (r : HeldRegion) → In r l.regions.items → is_region_own c l r ≡ true
  each_own r there = elim (tells (is_region_own c l r)) [
    | inl own ↦ own
    | inr foreign ↦ absurd (none_foreign 64 r (omega arith) there foreign)
  ]

-- ---- now and ever

module _ (p : ProfileName) (c : Policy) (l : Layout) (A : State) (is : IsLayoutOf p c (shown A) l)
    (kept : IsUnbroken c l (homes_joined c l (blocks c l)) (joins c l) (passages c l (blocks c l))) where
  held_now : (slot part group base bits free : ℕ) → part_at l.memory.items slot ≡ Some part → cap_at A.derivations slot ≡ Untyped base bits free →
      In (record { part = part; base = base; bits = bits }) l.regions.items
  held_now slot part group base bits free lies holds =
      let row = row_of (shown A).derivations slot (Untyped base bits free) refl (ap (λ (f : Forest Entry). cap_at f slot) (shown_derivations A) ∙ holds) in
      subst (In _) (sym is.regions_are)
      (in_found (region_of l.memory.items) (slot_rows (shown A)) row.0 _ row.1.0
      (rw (row.1.1.1, row.1.1.0) (ap (region_at base bits) lies)))

  in_one : (slot group base bits free : ℕ) → group_of l slot ≡ Some group → cap_at A.derivations slot ≡ Untyped base bits free → is_in_their_region c bits group base ≡ true
  in_one slot group base bits free whose holds =
      let home = has_group l slot group whose in
      own_region p c l A is kept home.part group base (listed p c l A is kept slot home.part home.lies) home.at bits
      (each_own c l kept.regions _ (held_now slot home.part group base bits free home.lies holds))

  -- what lies in such a region does so, too
  in_one_too : (group base bits base' bits' : ℕ) → is_in_their_region c bits group base ≡ true → base ≤ base' → base' + 2 ^ bits' ≤ base + 2 ^ bits →
      is_in_their_region c bits' group base' ≡ true
  in_one_too group base bits base' bits' h low high =
      let m = any_of (is_in_region bits group base) c.regions.items h in
      let both = both_true (m.0.group == group) (range_lies_within base bits m.0.base m.0.bits) m.1.1 in
      any_in (is_in_region bits' group base') c.regions.items m.0 m.1.0
      (rw (both.0, among_too base bits m.0.base m.0.bits base' bits' both.1 low high) refl)

  theirs : (group slot : ℕ) (cap held : Cap) → group_of l slot ≡ Some group → cap_at A.derivations slot ≡ held → in_region p held cap ≡ true → IsRegionTheirs c group cap
  theirs group slot (Untyped base bits free) (Untyped first most used) whose holds within =
      let both = both_true (nat_le first base) (nat_le (base + 2 ^ bits) (first + 2 ^ most)) within in
      in_one_too group first most base bits (in_one slot group first most used whose holds) (leb-true _ _ both.0) (leb-true _ _ both.1)
  theirs group slot (Untyped base bits free) Null whose holds within = absurd (false≢true within)
  theirs group slot (Untyped base bits free) (Endpoint first badge rights) whose holds within = absurd (false≢true within)
  theirs group slot (Untyped base bits free) (CNode first radix guard) whose holds within = absurd (false≢true within)
  theirs group slot (Untyped base bits free) (Tcb first) whose holds within = absurd (false≢true within)
  theirs group slot Null held whose holds within = tt
  theirs group slot (Endpoint base badge rights) held whose holds within = tt
  theirs group slot (CNode base radix guard) held whose holds within = tt
  theirs group slot (Tcb base) held whose holds within = tt

  unless_null : (group : ℕ) (cap : Cap) → (is_null cap ≡ false → IsRegionTheirs c group cap) → IsRegionTheirs c group cap
  unless_null group Null h = tt
  unless_null group (Untyped base bits free) h = h refl
  unless_null group (Endpoint base badge rights) h = tt
  unless_null group (CNode base radix guard) h = tt
  unless_null group (Tcb base) h = tt

  pub regions_theirs : (calls : List Call) → IsReached p A → Each (IsAllowed (parts_listed l.memory.items l.uses.items)) calls → AreRegionsTheirs c l (state_after p A calls).derivations
  regions_theirs calls reached of slot group whose =
      let home = has_group l slot group whose in
      let closed = now_closed p l.memory.items l.uses.items [] 0 0 (shown A) is.right.ever A reached refl in
      unless_null group (cap_at (state_after p A calls).derivations slot)
      (λ some.
      let from = regions_stay p (parts_listed l.memory.items l.uses.items) home.part A calls reached closed of slot home.lies some in
      theirs group from.0 (cap_at (state_after p A calls).derivations slot) (cap_at A.derivations from.0)
      (ap (λ (o : Option ℕ). group_in l.homes.items o) (from.1.0 ∙ sym home.lies) ∙ whose) refl from.1.1)
