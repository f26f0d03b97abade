-- Where the tests of lists answer yes, the flow that they give is settled.
use Rattle.std.proofs.Common.{◌≡◌, ℕ, ◌+◌, ◌-◌, ◌*◌, ◌^◌, ◌<◌, ◌≤◌, ◌⊎◌, inl, inr, Bool, true, false, cond, not, ◌==◌, ◌&&◌, ◌||◌, nat_le, nat_lt, List, [], ◌∷◌, find, Option, Some, None, option_map, unwrap_or, refl, sym, ap, subst, ◌∙◌, arith, bit_and}
use Rattle.std.specs.List.{list_any, list_all}
use Rattle.std.proofs.lemmas.Bool.{false≢true, eqb-true, leb-true, ltb-true, ltb-false, lt-ltb, le-leb}
use Rattle.std.proofs.lemmas.Bool.Decides.{nat_tests}
use Rattle.std.proofs.lemmas.Nat.{pow-add, pow_pos}
use Rattle.std.proofs.Math.Nat.{mul-le-mul_right, pow-le-pow_right}
use Rattle.cap_core.specs.declared.profile.ProfileName.{ProfileName}
use Rattle.cap_core.specs.declared.profile.ProfileName.TheVariants.{Wide, Narrow}
use Rattle.cap_core.specs.declared.capability.Badge.{Badge}
use Rattle.cap_core.specs.declared.capability.Guard.{Guard}
use Rattle.cap_core.specs.declared.capability.Cap.{Cap}
use Rattle.cap_core.specs.declared.capability.Cap.TheVariants.{Null, Untyped, Endpoint, CNode, Tcb}
use Rattle.cap_core.specs.declared.rights.Rights.{Rights}
use Rattle.cap_core.specs.Numbers.{word_bits, slot_bits, slot_size}
use Rattle.cap_core.specs.Objects.{is_null, base_of, bits_of, end_of}
use Rattle.cspace_core.specs.Inside.{IsSlotOf}
use Rattle.kernel_delete.specs.Members.{In}
use Rattle.kernel_delete.proofs.Members.{both_true, either_true, true_left, true_right, any_in, any_of, all_in, eqb_self, tells}
use Rattle.query_parts.proofs.Lists.{and_true}
use Rattle.query_flow.proofs.Made.{few_fit}
use Rattle.query_parts.specs.declared.listed.PartMemory.{PartMemory}
use Rattle.query_parts.specs.Listed.{lies_in, last_in}
use Rattle.query_flow.specs.declared.listed.Standing.{Standing}
use Rattle.query_flow.specs.declared.listed.Standing.TheVariants as standing
use Rattle.query_flow.specs.declared.listed.MayStand.{MayStand}
use Rattle.query_flow.specs.declared.listed.Caller.{Caller}
use Rattle.std.specs.List.{AllByRecursion as Each}
use Rattle.kernel_forest.specs.Forest.{preorder}
use Rattle.kernel_forest.specs.Entries.{Entry, cap_in}
use Rattle.kernel_abstract.specs.Shown.{Shown}
use Rattle.kernel_abstract.specs.State.{State, shown}
use Rattle.kernel_abstract.specs.Step.{replies_of}
use Rattle.query_flow.specs.declared.listed.Flows.{Flows}
use Rattle.query_flow.specs.Laws.{TellsOfFlow, IsFlowEver}
use Rattle.query_flow.proofs.Runs.{stay_held}
use Rattle.query_flow.proofs.Told.{tell_flow}
use Rattle.query_flow.specs.Flow.{Flow, HoldsWhatMayStand, MayBeMadeOf, IsSettledFor, IsSettled}
use Rattle.query_flow.specs.Listed.{is_among, set_at, fits_bits, within, last_le, stands_for_cap, may_in, may_stand, caller_of, caller_names, caller_nodes, caller_fills, flow_listed, misses_range, has_range, lie_where, slots_lie, lead_to, is_ending, are_ending, may_end, caller_goes_on, are_put, are_made, makes_what_may_stand, made_of, roots_stand, threads_get, roots_set, opened, may_have_slots, is_over, stands_over, has_over, all_have, is_caller_settled, is_set_settled, are_threads_settled, is_settled, is_entry_told, are_told, flow_of_lists}

-- ---- addresses of a range

le_of : (a b : ℕ) → nat_le a b ≡ true → a ≤ b
le_of a b h = leb-true a b h

in_stretch : (m : PartMemory) (address : ℕ) → m.first ≤ address → address ≤ m.last → lies_in m address ≡ true
in_stretch m address low high = grind (arith, nat_tests, low, high)

not_missed : (first last address : ℕ) (m : PartMemory) → first ≤ address → address ≤ last → lies_in m address ≡ true → misses_range first last m ≡ false
not_missed first last address m low high h = grind (arith, nat_tests, low, high, h)

-- an address of a range lies in a set that passes the test
lies_where : (test : ℕ → Bool) (first last address : ℕ) (memory : List PartMemory) → first ≤ address → address ≤ last →
    list_all (λ (m : PartMemory). misses_range first last m || test m.part) memory ≡ true → list_any (has_range first last) memory ≡ true →
    test (set_at memory address) ≡ true
lies_where test first last address [] low high all one = absurd (false≢true one)
lies_where test first last address (m ∷ memory) low high all one =
    let both = both_true (misses_range first last m || test m.part) (list_all (λ (m : PartMemory). misses_range first last m || test m.part) memory) all in
    by (lies_in m address) refl both.0 (lies_where test first last address memory low high both.1)
  where
    by : (b : Bool) → lies_in m address ≡ b → misses_range first last m || test m.part ≡ true →
        (list_any (has_range first last) memory ≡ true → test (set_at memory address) ≡ true) →
        test (unwrap_or (option_map (λ (x : PartMemory). x.part) (cond b (Some m) (find (λ (x : PartMemory). lies_in x address) memory))) 0) ≡ true
    by true is here on = rw (not_missed first last address m low high is) at here
    by false is here on = on (rest (either_true (has_range first last m) _ one))
      where
        rest : (has_range first last m ≡ true) ⊎ (list_any (has_range first last) memory ≡ true) → list_any (has_range first last) memory ≡ true
        rest (inr h) = h
        rest (inl h) =
            let ends = both_true (nat_le m.first first) (nat_le last m.last) h in
            let begins = le_of m.first first ends.0 in
            let goes = le_of last m.last ends.1 in
            absurd (false≢true (sym is ∙ in_stretch m address (omega (arith, begins, low)) (omega (arith, goes, high))))

-- ---- the slots of what stands

slot_low : (p : ProfileName) (base radix n : ℕ) → n < 2 ^ radix → base + n * slot_size p < base + 2 ^ (slot_bits p + radix)
slot_low p base radix n low =
    let most : (n + 1) * 2 ^ slot_bits p ≤ 2 ^ radix * 2 ^ slot_bits p = mul-le-mul_right (2 ^ slot_bits p) (omega arith) in
    let turned : slot_bits p + radix ≡ radix + slot_bits p = omega arith in
    let size : 2 ^ (radix + slot_bits p) ≡ 2 ^ radix * 2 ^ slot_bits p = pow-add 2 radix (slot_bits p) in
    let size' : 2 ^ (slot_bits p + radix) ≡ 2 ^ radix * 2 ^ slot_bits p = ap (λ k. 2 ^ k) turned ∙ size in
    let more : (n + 1) * 2 ^ slot_bits p ≡ n * 2 ^ slot_bits p + 2 ^ slot_bits p = grind arith in
    omega (arith, pow_pos (slot_bits p))

-- a last address is that of the range
pub last_is : (first bits last : ℕ) → last_in first bits ≡ Some last → first + (2 ^ bits - 1) ≡ last
last_is first bits last h = by (nat_lt bits 64 && nat_lt (first + (2 ^ bits - 1)) (2 ^ 64)) h
  where
    by : (b : Bool) → cond b (Some (first + (2 ^ bits - 1))) None ≡ Some last → first + (2 ^ bits - 1) ≡ last
    by true e = cc
    by false e = cc

range_where : (test : ℕ → Bool) (memory : List PartMemory) (first bits address : ℕ) (o : Option ℕ) → last_in first bits ≡ o → lie_where test memory first o ≡ true →
    first ≤ address → address < first + 2 ^ bits → test (set_at memory address) ≡ true
range_where test memory first bits address None is h low high = absurd (false≢true h)
range_where test memory first bits address (Some last) is h low high =
    let both = both_true (list_all (λ (m : PartMemory). misses_range first last m || test m.part) memory) (list_any (has_range first last) memory) h in
    let end = last_is first bits last is in
    lies_where test first last address memory low (omega (arith, end, high, pow_pos bits)) both.0 both.1

-- a range in another one
pub within_range : (base bits other few address : ℕ) (a b : Option ℕ) → last_in other few ≡ a → last_in base bits ≡ b → nat_le base other && last_le a b ≡ true →
    other ≤ address → address < other + 2 ^ few → (base ≤ address) × (address < base + 2 ^ bits)
within_range base bits other few address None b x y h low high = absurd (false≢true ((both_true (nat_le base other) _ h).1))
within_range base bits other few address (Some a) None x y h low high = absurd (false≢true ((both_true (nat_le base other) _ h).1))
within_range base bits other few address (Some a) (Some b) x y h low high =
    let both = both_true (nat_le base other) (nat_le a b) h in
    let start = le_of base other both.0 in
    let stop = le_of a b both.1 in
    let ends = last_is other few a x in
    let ended = last_is base bits b y in
    (omega (arith, start, low), omega (arith, stop, ends, ended, high, pow_pos few, pow_pos bits))

module _ (p : ProfileName) (memory : List PartMemory) where
  -- the slots of a CNode that something stands for
  slot_lies : (sets : List ℕ) (what : Standing) (cap : Cap) (slot : ℕ) → stands_for_cap p what cap ≡ true → slots_lie p memory sets what ≡ true → IsSlotOf p cap slot →
      is_among sets (set_at memory slot) ≡ true
  slot_lies sets what Null slot over lie is = absurd is
  slot_lies sets what (Untyped base bits free) slot over lie is = absurd is
  slot_lies sets what (Endpoint base badge rights) slot over lie is = absurd is
  slot_lies sets what (Tcb base) slot over lie is = absurd is
  slot_lies sets (standing.Untyped first few) (CNode base radix guard) slot over lie is = absurd (false≢true over)
  slot_lies sets (standing.Endpoint first most rights) (CNode base radix guard) slot over lie is = absurd (false≢true over)
  slot_lies sets (standing.Thread first) (CNode base radix guard) slot over lie is = absurd (false≢true over)
  slot_lies sets (standing.Region first bits) (CNode base radix guard) slot over lie (n, (low, at)) =
      let top = slot_low p base radix n low in
      let inside = within_range first bits base (slot_bits p + radix) slot (last_in base (slot_bits p + radix)) (last_in first bits) refl refl over
      (omega (arith, at)) (omega (arith, at, top)) in
      range_where (is_among sets) memory first bits slot (last_in first bits) refl lie inside.0 inside.1
  slot_lies sets (standing.Node first bits takes) (CNode base radix guard) slot over lie (n, (low, at)) =
      let same = both_true (first == base) _ over in
      let wide = both_true (bits == radix) _ same.1 in
      let start = eqb-true first base same.0 in
      let size = eqb-true bits radix wide.0 in
      let top = slot_low p base radix n low in
      range_where (is_among sets) memory first (slot_bits p + bits) slot (last_in first (slot_bits p + bits)) refl lie
      (omega (arith, at, start)) (subst (λ k. slot < first + 2 ^ (slot_bits p + k)) (sym size) (omega (arith, at, start, top)))

-- ---- what stands for a capability

bits_fit : (most some less : ℕ) → (most == some || most == 0) ≡ true → (some == less || some == 0) ≡ true → (most == less || most == 0) ≡ true
bits_fit most some less h k = by (either_true (most == some) (most == 0) h)
  where
    by : ((most == some) ≡ true) ⊎ ((most == 0) ≡ true) → (most == less || most == 0) ≡ true
    by (inr none) = true_right (most == less) (most == 0) none
    by (inl same) = subst (λ n. (n == less || n == 0) ≡ true) (sym (eqb-true most some same)) k

badges_fit : (most some less : Badge) → (most.0 == some.0 || most.0 == 0) ≡ true → (some.0 == less.0 || some.0 == 0) ≡ true → (most.0 == less.0 || most.0 == 0) ≡ true
badges_fit most some less h k = bits_fit most.0 some.0 less.0 h k

rights_fit : (most some less : Rights) → bit_and some.0 most.0 == some.0 ≡ true → bit_and less.0 some.0 == less.0 ≡ true → bit_and less.0 most.0 == less.0 ≡ true
rights_fit most some less h k =
    subst (λ n. n == less.0 ≡ true) (sym (few_fit less.0 some.0 most.0 (eqb-true _ _ k) (eqb-true _ _ h))) (eqb_self less.0)

-- a range in a range in a range
within_trans : (a i b j c k : ℕ) → within a i b j ≡ true → within b j c k ≡ true → within a i c k ≡ true
within_trans a i b j c k h l = by (last_in a i) (last_in b j) (last_in c k) h l
  where
    by : (x y z : Option ℕ) → nat_le a b && last_le y x ≡ true → nat_le b c && last_le z y ≡ true → nat_le a c && last_le z x ≡ true
    by x y None h l = absurd (false≢true (both_true (nat_le b c) _ l).1)
    by x None (Some z) h l = absurd (false≢true (both_true (nat_le b c) _ l).1)
    by None (Some y) (Some z) h l = absurd (false≢true (both_true (nat_le a b) _ h).1)
    by (Some x) (Some y) (Some z) h l =
        let first = both_true (nat_le a b) (nat_le y x) h in
        let second = both_true (nat_le b c) (nat_le z y) l in
        let ab = le_of a b first.0 in
        let yx = le_of y x first.1 in
        let bc = le_of b c second.0 in
        let zy = le_of z y second.1 in
        grind (arith, nat_tests, ab, yx, bc, zy)

-- what stands over it stands for what it stands for
over_covers : (p : ProfileName) (most what : Standing) (cap : Cap) → is_over most what ≡ true → stands_for_cap p what cap ≡ true → stands_for_cap p most cap ≡ true
over_covers p (standing.Untyped base bits) (standing.Untyped other few) (Untyped b k free) h c =
    let x = both_true (base == other) (bits == few) h in
    subst (λ n. n == b && bits == k ≡ true) (sym (eqb-true base other x.0)) (subst (λ n. other == b && n == k ≡ true) (sym (eqb-true bits few x.1)) c)
over_covers p (standing.Region base bits) (standing.Untyped other few) (Untyped b k free) h c =
    let x = both_true (other == b) (few == k) c in
    subst (λ n. within base bits n k ≡ true) (eqb-true other b x.0) (subst (λ n. within base bits other n ≡ true) (eqb-true few k x.1) h)
over_covers p (standing.Region base bits) (standing.Region other few) cap h c =
    within_trans base bits other few (base_of cap) (bits_of p cap) h c
over_covers p (standing.Endpoint base most rights) (standing.Endpoint other some fewer) (Endpoint b badge few) h c =
    let x = both_true (base == other) _ h in
    let xs = both_true (most.0 == some.0 || most.0 == 0) _ x.1 in
    let y = both_true (other == b) _ c in
    let ys = both_true (some.0 == badge.0 || some.0 == 0) _ y.1 in
    subst (λ n. n == b && ((most.0 == badge.0 || most.0 == 0) && bit_and few.0 rights.0 == few.0) ≡ true) (sym (eqb-true base other x.0))
    (and_true (other == b) _ y.0 (and_true (most.0 == badge.0 || most.0 == 0) _ (badges_fit most some badge xs.0 ys.0) (rights_fit rights fewer few xs.1 ys.1)))
over_covers p (standing.Node base radix takes) (standing.Node other bits some) (CNode b r guard) h c =
    let x = both_true (base == other) _ h in
    let xs = both_true (radix == bits) _ x.1 in
    let y = both_true (other == b) _ c in
    let ys = both_true (bits == r) _ y.1 in
    subst (λ n. n == b && (radix == r && fits_bits takes (guard.size + r)) ≡ true) (sym (eqb-true base other x.0))
    (and_true (other == b) _ y.0
    (and_true (radix == r) _ (subst (λ n. n == r ≡ true) (sym (eqb-true radix bits xs.0)) ys.0) (bits_fit takes some (guard.size + r) xs.1 ys.1)))
over_covers p (standing.Thread base) (standing.Thread other) (Tcb b) h c = subst (λ n. n == b ≡ true) (sym (eqb-true base other h)) c
over_covers p most what cap h c = cc

-- and what is made of a capability
opened_covers : (p : ProfileName) (what : Standing) (cap made : Cap) → stands_for_cap p what cap ≡ true → MayBeMadeOf cap made → stands_for_cap p (opened what) made ≡ true
opened_covers p (standing.Untyped base bits) (Untyped b k free) made c is = subst (λ m. stands_for_cap p (standing.Untyped base bits) m ≡ true) (sym is) c
opened_covers p (standing.Region base bits) Null made c is = subst (λ m. stands_for_cap p (standing.Region base bits) m ≡ true) (sym is) c
opened_covers p (standing.Region base bits) (Untyped b k free) made c is = subst (λ m. stands_for_cap p (standing.Region base bits) m ≡ true) (sym is) c
opened_covers p (standing.Region base bits) (Endpoint b badge rights) made c (other, (few, (is, more))) = subst (λ m. stands_for_cap p (standing.Region base bits) m ≡ true) (sym is) c
opened_covers p (standing.Region base bits) (CNode b r guard) made c (other, is) = subst (λ m. stands_for_cap p (standing.Region base bits) m ≡ true) (sym is) c
opened_covers p (standing.Region base bits) (Tcb b) made c is = subst (λ m. stands_for_cap p (standing.Region base bits) m ≡ true) (sym is) c
opened_covers p (standing.Endpoint base most rights) (Endpoint b badge had) made c (other, (few, (is, (fits, among)))) =
    let x = both_true (base == b) _ c in
    let xs = both_true (most.0 == badge.0 || most.0 == 0) _ x.1 in
    subst (λ m. stands_for_cap p (standing.Endpoint base most rights) m ≡ true) (sym is)
    (and_true (base == b) _ x.0 (and_true (most.0 == other.0 || most.0 == 0) _ (badged (either_true (most.0 == badge.0) (most.0 == 0) xs.0) fits) (rights_fit rights had few xs.1 (subst (λ n. n == few.0 ≡ true) (sym among) (eqb_self few.0)))))
  where
    badged : ((most.0 == badge.0) ≡ true) ⊎ ((most.0 == 0) ≡ true) → ((badge.0 ≡ other.0) ⊎ (badge.0 ≡ 0)) → (most.0 == other.0 || most.0 == 0) ≡ true
    badged (inr none) fits = true_right (most.0 == other.0) (most.0 == 0) none
    badged (inl same) (inl is) = true_left (most.0 == other.0) (most.0 == 0) (subst (λ n. most.0 == n ≡ true) is same)
    badged (inl same) (inr none) = true_right (most.0 == other.0) (most.0 == 0) (subst (λ n. most.0 == n ≡ true) none same)
opened_covers p (standing.Node base radix takes) (CNode b r guard) made c (other, is) =
    let x = both_true (base == b) _ c in
    let xs = both_true (radix == r) _ x.1 in
    subst (λ m. stands_for_cap p (standing.Node base radix 0) m ≡ true) (sym is)
    (and_true (base == b) _ x.0 (and_true (radix == r) _ xs.0 (true_right (0 == other.size + r) (0 == 0) refl)))
opened_covers p (standing.Thread base) (Tcb b) made c is = subst (λ m. stands_for_cap p (standing.Thread base) m ≡ true) (sym is) c
opened_covers p what cap made c is = cc

-- a CNode, or a region, has slots
pub with_slots : (p : ProfileName) (what : Standing) (base radix : ℕ) (guard : Guard) → stands_for_cap p what (CNode base radix guard) ≡ true → may_have_slots what ≡ true
with_slots p (standing.Region first bits) base radix guard c = refl
with_slots p (standing.Node first bits takes) base radix guard c = refl
with_slots p (standing.Untyped first bits) base radix guard c = absurd (false≢true c)
with_slots p (standing.Endpoint first most rights) base radix guard c = absurd (false≢true c)
with_slots p (standing.Thread first) base radix guard c = absurd (false≢true c)

-- a caller's own CNode by which words end
some_bits : (p : ProfileName) → word_bits p ≡ 0 → ⊥
some_bits Wide h = cc
some_bits Narrow h = cc

ends : (p : ProfileName) (what : Standing) (base radix : ℕ) (guard : Guard) → stands_for_cap p what (CNode base radix guard) ≡ true → is_ending p what ≡ true → guard.size + radix ≡ word_bits p
ends p (standing.Region first bits) base radix guard c e = absurd (false≢true e)
ends p (standing.Untyped first bits) base radix guard c e = absurd (false≢true c)
ends p (standing.Endpoint first most rights) base radix guard c e = absurd (false≢true c)
ends p (standing.Thread first) base radix guard c e = absurd (false≢true c)
ends p (standing.Node first bits takes) base radix guard c e =
    let x = both_true (first == base) _ c in
    let xs = both_true (bits == radix) _ x.1 in
    let whole = eqb-true takes (word_bits p) e in
    elim (either_true (takes == guard.size + radix) (takes == 0) xs.1) [
      | inl same ↦ sym (eqb-true takes (guard.size + radix) same) ∙ whole
      | inr none ↦ absurd (some_bits p (sym whole ∙ eqb-true takes 0 none))
    ]

-- and one by which words may end
may_end_by : (p : ProfileName) (what : Standing) (base radix : ℕ) (guard : Guard) → stands_for_cap p what (CNode base radix guard) ≡ true → guard.size + radix ≡ word_bits p →
    may_end p what ≡ true
may_end_by p (standing.Region first bits) base radix guard c whole = refl
may_end_by p (standing.Untyped first bits) base radix guard c whole = absurd (false≢true c)
may_end_by p (standing.Endpoint first most rights) base radix guard c whole = absurd (false≢true c)
may_end_by p (standing.Thread first) base radix guard c whole = absurd (false≢true c)
may_end_by p (standing.Node first bits takes) base radix guard c whole =
    let x = both_true (first == base) _ c in
    let xs = both_true (bits == radix) _ x.1 in
    subst (λ n. (takes == n || takes == 0) ≡ true) whole xs.1

either_way : (a b : Bool) → (not a || b) ≡ true → a ≡ true → b ≡ true
either_way true b h k = h
either_way false b h k = absurd (false≢true k)

-- the last address of a range is a word
last_facts : (first bits last : ℕ) → last_in first bits ≡ Some last → (bits < 64) × (first + (2 ^ bits - 1) < 2 ^ 64)
last_facts first bits last h = by (nat_lt bits 64 && nat_lt (first + (2 ^ bits - 1)) (2 ^ 64)) refl h
  where
    by : (b : Bool) → (nat_lt bits 64 && nat_lt (first + (2 ^ bits - 1)) (2 ^ 64)) ≡ b → cond b (Some (first + (2 ^ bits - 1))) None ≡ Some last →
        (bits < 64) × (first + (2 ^ bits - 1) < 2 ^ 64)
    by true e h = let both = both_true (nat_lt bits 64) (nat_lt (first + (2 ^ bits - 1)) (2 ^ 64)) e in (ltb-true bits 64 both.0, ltb-true _ (2 ^ 64) both.1)
    by false e h = cc

few_le : (few bits : ℕ) → 2 ^ few ≤ 2 ^ bits → few ≤ bits
few_le few bits h = elim (tells (nat_lt bits few)) [
  | inl more ↦
      let less : bits + 1 ≤ few = let m = ltb-true bits few more in omega (arith, m) in
      let grown : 2 ^ (bits + 1) ≤ 2 ^ few = pow-le-pow_right (omega arith) less in
      let twice : 2 ^ (bits + 1) ≡ 2 ^ bits * 2 ^ 1 = pow-add 2 bits 1 in
      let some = pow_pos bits in
      absurd (omega (arith, grown, twice, some, h))
  | inr less ↦ ltb-false bits few less
]

within_of : (base bits other few last : ℕ) → last_in base bits ≡ Some last → base ≤ other → other + 2 ^ few ≤ base + 2 ^ bits → within base bits other few ≡ true
within_of base bits other few last is low high =
    let facts = last_facts base bits last is in
    let word = facts.1 in
    let short = facts.0 in
    let some = pow_pos bits in
    let some' = pow_pos few in
    let less : few ≤ bits = few_le few bits (omega (arith, low, high)) in
    let small : nat_lt few 64 ≡ true = lt-ltb few 64 (omega (arith, less, short)) in
    let here : nat_lt (other + (2 ^ few - 1)) (2 ^ 64) ≡ true = lt-ltb _ (2 ^ 64) (omega (arith, high, word, some, some')) in
    let end = last_is base bits last is in
    let begin : nat_le base other ≡ true = le-leb base other low in
    let stop : nat_le (other + (2 ^ few - 1)) last ≡ true = le-leb _ last (omega (arith, end, high, some, some')) in
    by (nat_lt few 64) (nat_lt (other + (2 ^ few - 1)) (2 ^ 64)) small here begin stop
  where
    by : (a b : Bool) → a ≡ true → b ≡ true → nat_le base other ≡ true → nat_le (other + (2 ^ few - 1)) last ≡ true →
        nat_le base other && last_le (cond (a && b) (Some (other + (2 ^ few - 1))) None) (last_in base bits) ≡ true
    by true true x y begin stop =
        and_true (nat_le base other) _ begin (subst (λ (o : Option ℕ). last_le (Some (other + (2 ^ few - 1))) o ≡ true) (sym is) stop)
    by true false x y begin stop = absurd (false≢true y)
    by false b x y begin stop = absurd (false≢true x)

-- both ranges of which one lies in the other have last addresses
has_last : (base bits other few : ℕ) → within base bits other few ≡ true → (a : ℕ) × (last_in other few ≡ Some a)
has_last base bits other few h = by (last_in other few) (last_in base bits) refl h
  where
    by : (a b : Option ℕ) → last_in other few ≡ a → nat_le base other && last_le a b ≡ true → (x : ℕ) × (last_in other few ≡ Some x)
    by None b e h = absurd (false≢true (both_true (nat_le base other) _ h).1)
    by (Some a) b e h = (a, e)

-- a region that stands under another has a last address
over_last : (t : Standing) (base bits : ℕ) → is_over t (standing.Region base bits) ≡ true → (a : ℕ) × (last_in base bits ≡ Some a)
over_last (standing.Region first few) base bits h = has_last first few base bits h
over_last (standing.Untyped first few) base bits h = absurd (false≢true h)
over_last (standing.Endpoint first most rights) base bits h = absurd (false≢true h)
over_last (standing.Node first radix takes) base bits h = absurd (false≢true h)
over_last (standing.Thread first) base bits h = absurd (false≢true h)

module _ (p : ProfileName) (memory : List PartMemory) (all : List MayStand) (callers : List Caller) (trusted : List ℕ) where
  abbrev flow : Flow
  flow = flow_listed p memory all callers trusted

  -- a capability that is not null stands for something in the set
  pub stands_by : (set : ℕ) (cap : Cap) → is_null cap ≡ false → may_stand p all set cap ≡ true → (s : MayStand) × (In s all × ((s.set ≡ set) × (stands_for_cap p s.what cap ≡ true)))
  stands_by set cap full h =
      let one = any_of (may_in p set cap) all (by (is_null cap) full h) in
      let both = both_true (one.0.set == set) _ one.1.1 in
      (one.0, (one.1.0, (eqb-true one.0.set set both.0, both.1)))
    where
      by : (b : Bool) → b ≡ false → b || list_any (may_in p set cap) all ≡ true → list_any (may_in p set cap) all ≡ true
      by true e h = absurd (false≢true (sym e))
      by false e h = h

  -- and where a set has what is over it, it may stand there
  may_of : (set : ℕ) (what : Standing) (cap : Cap) → has_over all set what ≡ true → stands_for_cap p what cap ≡ true → may_stand p all set cap ≡ true
  may_of set what cap h c =
      let one = any_of (stands_over set what) all h in
      let both = both_true (one.0.set == set) _ one.1.1 in
      true_right (is_null cap) (list_any (may_in p set cap) all)
      (any_in (may_in p set cap) all one.0 one.1.0 (and_true (one.0.set == set) _ both.0 (over_covers p one.0.what what cap both.1 c)))

  each_has : (sets : List ℕ) (set : ℕ) (what : Standing) → all_have all sets what ≡ true → is_among sets set ≡ true → has_over all set what ≡ true
  each_has sets set what h in_sets =
      let one = any_of (λ k. k == set) sets in_sets in
      subst (λ n. has_over all n what ≡ true) (eqb-true one.0 set one.1.1) (all_in (λ n. has_over all n what) sets one.0 h one.1.0)

  full_slot : (cap : Cap) (slot : ℕ) → IsSlotOf p cap slot → is_null cap ≡ false
  full_slot Null slot is = absurd is
  full_slot (Untyped base bits free) slot is = refl
  full_slot (Endpoint base badge rights) slot is = refl
  full_slot (CNode base radix guard) slot is = refl
  full_slot (Tcb base) slot is = refl

  leads : (from to : List ℕ) (set : ℕ) (cap : Cap) (slot : ℕ) → lead_to p memory all from to ≡ true → is_among from set ≡ true → may_stand p all set cap ≡ true → IsSlotOf p cap slot →
      is_among to (set_at memory slot) ≡ true
  leads from to set cap slot h named may is =
      let s = stands_by set cap (full_slot cap slot is) may in
      slot_lies p memory to s.0.what cap slot s.1.1.1
      (either_way (is_among from s.0.set) _ (all_in (λ (x : MayStand). not (is_among from x.set) || slots_lie p memory to x.what) all s.0 h s.1.0)
      (subst (λ n. is_among from n ≡ true) (sym s.1.1.0) named)) is

  -- a caller's threads do nothing that is not told
  module _ (k : Caller) (h : is_caller_settled p memory all k ≡ true) where
    abbrev begin : Bool
    begin = list_all (λ (s : MayStand). not (s.set == k.set) || slots_lie p memory k.names.items s.what) all

    begins_is : begin ≡ true
    begins_is = (both_true begin _ h).0

    abbrev whole : Bool
    whole = list_all (λ (s : MayStand). not (s.set == k.set && may_end p s.what) || slots_lie p memory k.nodes.items s.what) all

    after_begin : (whole
        && ((are_ending p all k.set || caller_goes_on p memory all k)
        && (lead_to p memory all k.nodes.items k.fills.items
        && (lead_to p memory all k.fills.items k.fills.items
        && (are_put all k && (are_made all k && roots_set memory all k)))))) ≡ true
    after_begin = (both_true begin _ h).1

    whole_is : whole ≡ true
    whole_is = (both_true whole _ after_begin).0

    after_whole : ((are_ending p all k.set || caller_goes_on p memory all k)
        && (lead_to p memory all k.nodes.items k.fills.items
        && (lead_to p memory all k.fills.items k.fills.items
        && (are_put all k && (are_made all k && roots_set memory all k))))) ≡ true
    after_whole = (both_true whole _ after_begin).1

    goes_is : (are_ending p all k.set || caller_goes_on p memory all k) ≡ true
    goes_is = (both_true (are_ending p all k.set || caller_goes_on p memory all k) _ after_whole).0

    after_goes : (lead_to p memory all k.nodes.items k.fills.items
        && (lead_to p memory all k.fills.items k.fills.items
        && (are_put all k && (are_made all k && roots_set memory all k)))) ≡ true
    after_goes = (both_true (are_ending p all k.set || caller_goes_on p memory all k) _ after_whole).1

    given_is : lead_to p memory all k.nodes.items k.fills.items ≡ true
    given_is = (both_true (lead_to p memory all k.nodes.items k.fills.items) _ after_goes).0

    after_given : (lead_to p memory all k.fills.items k.fills.items && (are_put all k && (are_made all k && roots_set memory all k))) ≡ true
    after_given = (both_true (lead_to p memory all k.nodes.items k.fills.items) _ after_goes).1

    deeper_is : lead_to p memory all k.fills.items k.fills.items ≡ true
    deeper_is = (both_true (lead_to p memory all k.fills.items k.fills.items) _ after_given).0

    after_deeper : (are_put all k && (are_made all k && roots_set memory all k)) ≡ true
    after_deeper = (both_true (lead_to p memory all k.fills.items k.fills.items) _ after_given).1

    put_is : are_put all k ≡ true
    put_is = (both_true (are_put all k) _ after_deeper).0

    made_is : are_made all k ≡ true
    made_is = (both_true (are_made all k) _ (both_true (are_put all k) _ after_deeper).1).0

    roots_is : roots_set memory all k ≡ true
    roots_is = (both_true (are_made all k) _ (both_true (are_put all k) _ after_deeper).1).1

    begins_at : (root : Cap) (slot : ℕ) → may_stand p all k.set root ≡ true → IsSlotOf p root slot → is_among k.names.items (set_at memory slot) ≡ true
    begins_at root slot may is =
        let s = stands_by k.set root (full_slot root slot is) may in
        slot_lies p memory k.names.items s.0.what root slot s.1.1.1
        (either_way (s.0.set == k.set) _ (all_in (λ (x : MayStand). not (x.set == k.set) || slots_lie p memory k.names.items x.what) all s.0 begins_is s.1.0)
        (subst (λ n. n == k.set ≡ true) (sym s.1.1.0) (eqb_self k.set))) is

    ends_at : (base radix : ℕ) (guard : Guard) (slot : ℕ) → may_stand p all k.set (CNode base radix guard) ≡ true → guard.size + radix ≡ word_bits p →
        IsSlotOf p (CNode base radix guard) slot → is_among k.nodes.items (set_at memory slot) ≡ true
    ends_at base radix guard slot may takes is =
        let s = stands_by k.set (CNode base radix guard) refl may in
        slot_lies p memory k.nodes.items s.0.what (CNode base radix guard) slot s.1.1.1
        (either_way (s.0.set == k.set && may_end p s.0.what) _
        (all_in (λ (x : MayStand). not (x.set == k.set && may_end p x.what) || slots_lie p memory k.nodes.items x.what) all s.0 whole_is s.1.0)
        (and_true (s.0.set == k.set) _ (subst (λ n. n == k.set ≡ true) (sym s.1.1.0) (eqb_self k.set)) (may_end_by p s.0.what base radix guard s.1.1.1 takes))) is

    ending_at : are_ending p all k.set ≡ true → (base radix : ℕ) (guard : Guard) → may_stand p all k.set (CNode base radix guard) ≡ true → guard.size + radix ≡ word_bits p
    ending_at e base radix guard may =
        let s = stands_by k.set (CNode base radix guard) refl may in
        ends p s.0.what base radix guard s.1.1.1
        (either_way (s.0.set == k.set) _ (all_in (λ (x : MayStand). not (x.set == k.set) || is_ending p x.what) all s.0 e s.1.0)
        (subst (λ n. n == k.set ≡ true) (sym s.1.1.0) (eqb_self k.set)))

    -- what stands in a set that is filled is put
    puts_at : (from to : ℕ) (cap made : Cap) → is_among k.fills.items from ≡ true → is_among k.fills.items to ≡ true → may_stand p all from cap ≡ true → MayBeMadeOf cap made →
        may_stand p all to made ≡ true
    puts_at from to cap made in_from in_to may is = by (is_null cap) refl
      where
        put : is_null cap ≡ false → may_stand p all to made ≡ true
        put full =
            let s = stands_by from cap full may in
            let have = either_way (is_among k.fills.items s.0.set) _ (all_in (λ (x : MayStand). not (is_among k.fills.items x.set) || all_have all k.fills.items (opened x.what)) all s.0 put_is s.1.0)
            (subst (λ n. is_among k.fills.items n ≡ true) (sym s.1.1.0) in_from) in
            may_of to (opened s.0.what) made (each_has k.fills.items to (opened s.0.what) have in_to) (opened_covers p s.0.what cap made s.1.1.1 is)

        none : (c : Cap) → is_null c ≡ true → MayBeMadeOf c made → may_stand p all to made ≡ true
        none Null n m = subst (λ x. may_stand p all to x ≡ true) (sym m) refl
        none (Untyped base bits free) n m = absurd (false≢true n)
        none (Endpoint base badge rights) n m = absurd (false≢true n)
        none (CNode base radix guard) n m = absurd (false≢true n)
        none (Tcb base) n m = absurd (false≢true n)

        by : (b : Bool) → is_null cap ≡ b → may_stand p all to made ≡ true
        by true n = none cap n is
        by false n = put n

    -- what is made in a region that stands in a set that is named
    in_made : (what : Standing) (base bits free : ℕ) (made : Cap) (sets : List ℕ) (to : ℕ) → stands_for_cap p what (Untyped base bits free) ≡ true → makes_what_may_stand all sets (made_of what) ≡ true →
        is_among sets to ≡ true → within base bits (base_of made) (bits_of p made) ≡ true → may_stand p all to made ≡ true
    in_made (standing.Untyped first few) base bits free made sets to c m in_to inside =
        let x = both_true (first == base) (few == bits) c in
        may_of to (standing.Region first few) made (each_has sets to (standing.Region first few) m in_to)
        (subst (λ n. within n few (base_of made) (bits_of p made) ≡ true) (sym (eqb-true first base x.0))
        (subst (λ n. within base n (base_of made) (bits_of p made) ≡ true) (sym (eqb-true few bits x.1)) inside))
    in_made (standing.Region first few) base bits free made sets to c m in_to inside =
        may_of to (standing.Region first few) made (each_has sets to (standing.Region first few) m in_to)
        (within_trans first few base bits (base_of made) (bits_of p made) c inside)
    in_made (standing.Endpoint first most rights) base bits free made sets to c m in_to inside = absurd (false≢true c)
    in_made (standing.Node first radix takes) base bits free made sets to c m in_to inside = absurd (false≢true c)
    in_made (standing.Thread first) base bits free made sets to c m in_to inside = absurd (false≢true c)

    made_in : (what : Standing) (base bits free : ℕ) (made : Cap) (to : ℕ) → stands_for_cap p what (Untyped base bits free) ≡ true → makes_what_may_stand all k.fills.items (made_of what) ≡ true →
        is_among k.fills.items to ≡ true → base ≤ base_of made → end_of p made ≤ base + 2 ^ bits → may_stand p all to made ≡ true
    made_in (standing.Untyped first few) base bits free made to c m in_to low high =
        let x = both_true (first == base) (few == bits) c in
        let at = eqb-true first base x.0 in
        let wide = eqb-true few bits x.1 in
        let one = any_of (stands_over to (standing.Region first few)) all (each_has k.fills.items to (standing.Region first few) m in_to) in
        let end = over_last one.0.what first few (both_true (one.0.set == to) _ one.1.1).1 in
        in_made (standing.Untyped first few) base bits free made k.fills.items to c m in_to
        (within_of base bits (base_of made) (bits_of p made) end.0 (subst (λ n. last_in n bits ≡ Some end.0) at (subst (λ n. last_in first n ≡ Some end.0) wide end.1)) low high)
    made_in (standing.Region first few) base bits free made to c m in_to low high =
        let end = has_last first few base bits c in
        in_made (standing.Region first few) base bits free made k.fills.items to c m in_to (within_of base bits (base_of made) (bits_of p made) end.0 end.1 low high)
    made_in (standing.Endpoint first most rights) base bits free made to c m in_to low high = absurd (false≢true c)
    made_in (standing.Node first radix takes) base bits free made to c m in_to low high = absurd (false≢true c)
    made_in (standing.Thread first) base bits free made to c m in_to low high = absurd (false≢true c)

    makes_at : (from to base bits free : ℕ) (made : Cap) → is_among k.names.items from ≡ true → is_among k.fills.items to ≡ true →
        may_stand p all from (Untyped base bits free) ≡ true → base ≤ base_of made → end_of p made ≤ base + 2 ^ bits → may_stand p all to made ≡ true
    makes_at from to base bits free made in_from in_to may low high =
        let s = stands_by from (Untyped base bits free) refl may in
        let m = either_way (is_among k.names.items s.0.set) _ (all_in (λ (x : MayStand). not (is_among k.names.items x.set) || makes_what_may_stand all k.fills.items (made_of x.what)) all s.0 made_is s.1.0)
        (subst (λ n. is_among k.names.items n ≡ true) (sym s.1.1.0) in_from) in
        made_in s.0.what base bits free made to s.1.1.1 m in_to low high

    -- the roots that a thread may get
    thread_gets : (what : Standing) (thread : ℕ) → stands_for_cap p what (Tcb thread) ≡ true → threads_get memory all k what ≡ true → roots_stand all k (set_at memory thread) ≡ true
    thread_gets (standing.Thread base) thread c g = subst (λ n. roots_stand all k (set_at memory n) ≡ true) (eqb-true base thread c) g
    thread_gets (standing.Region base bits) thread c g =
        let inside = within_range base bits thread (bits_of p (Tcb thread)) thread (last_in thread (bits_of p (Tcb thread))) (last_in base bits) refl refl c (omega arith)
        (omega (arith, pow_pos (bits_of p (Tcb thread)))) in
        range_where (roots_stand all k) memory base bits thread (last_in base bits) refl g inside.0 inside.1
    thread_gets (standing.Untyped base bits) thread c g = absurd (false≢true c)
    thread_gets (standing.Endpoint base most rights) thread c g = absurd (false≢true c)
    thread_gets (standing.Node base radix takes) thread c g = absurd (false≢true c)

    sets_at : (from of thread base radix : ℕ) (guard other : Guard) → is_among k.nodes.items from ≡ true → is_among k.names.items of ≡ true →
        may_stand p all of (Tcb thread) ≡ true → may_stand p all from (CNode base radix guard) ≡ true → may_stand p all (set_at memory thread) (CNode base radix other) ≡ true
    sets_at from of thread base radix guard other in_from in_of may_of' may_from =
        let t = stands_by of (Tcb thread) refl may_of' in
        let n = stands_by from (CNode base radix guard) refl may_from in
        let gets = either_way (is_among k.names.items t.0.set) _ (all_in (λ (x : MayStand). not (is_among k.names.items x.set) || threads_get memory all k x.what) all t.0 roots_is t.1.0)
        (subst (λ m. is_among k.names.items m ≡ true) (sym t.1.1.0) in_of) in
        let roots = thread_gets t.0.what thread t.1.1.1 gets in
        let stands = either_way (is_among k.nodes.items n.0.set && may_have_slots n.0.what) _
        (all_in (λ (x : MayStand). not (is_among k.nodes.items x.set && may_have_slots x.what) || has_over all (set_at memory thread) (opened x.what)) all n.0 roots n.1.0)
        (and_true (is_among k.nodes.items n.0.set) _ (subst (λ m. is_among k.nodes.items m ≡ true) (sym n.1.1.0) in_from) (with_slots p n.0.what base radix guard n.1.1.1)) in
        may_of (set_at memory thread) (opened n.0.what) (CNode base radix other) stands
        (opened_covers p n.0.what (CNode base radix guard) (CNode base radix other) n.1.1.1 (other, refl))

  set_first : (x : Caller) (cs : List Caller) (c : ℕ) (k : Caller) (b : Bool) → (x.set == c) ≡ b → cond b (Some x) (caller_of cs c) ≡ Some k →
      (caller_of cs c ≡ Some k → k.set ≡ c) → k.set ≡ c
  set_first x cs c k true e h on = let same : x ≡ k = cc in subst (λ (y : Caller). y.set ≡ c) same (eqb-true x.set c e)
  set_first x cs c k false e h on = on h

  -- the caller of a set
  set_is : (cs : List Caller) (c : ℕ) (k : Caller) → caller_of cs c ≡ Some k → k.set ≡ c
  set_is [] c k h = cc
  set_is (x ∷ cs) c k h = set_first x cs c k (x.set == c) refl h (set_is cs c k)

  pub caller_settled : (c : ℕ) (o : Option Caller) → caller_of callers c ≡ o → is_set_settled p memory all o ≡ true → IsSettledFor p flow c
  caller_settled c None is h = absurd (false≢true h)
  caller_settled c (Some k) is h =
      let at = set_is callers c k is in
      let named : (set : ℕ) → caller_names (caller_of callers c) set ≡ is_among k.names.items set = λ set. ap (λ (o : Option Caller). caller_names o set) is in
      let noded : (set : ℕ) → caller_nodes (caller_of callers c) set ≡ is_among k.nodes.items set = λ set. ap (λ (o : Option Caller). caller_nodes o set) is in
      let filled : (set : ℕ) → caller_fills (caller_of callers c) set ≡ is_among k.fills.items set = λ set. ap (λ (o : Option Caller). caller_fills o set) is in
      record {
        begins = λ root slot may here. named (set_at memory slot) ∙ begins_at k h root slot (subst (λ n. may_stand p all n root ≡ true) (sym at) may) here;
        goes_on = elim (either_true (are_ending p all k.set) (caller_goes_on p memory all k) (goes_is k h)) [
          | inl e ↦ inl (λ base radix guard may. ending_at k h e base radix guard (subst (λ n. may_stand p all n (CNode base radix guard) ≡ true) (sym at) may))
          | inr g ↦ inr (λ set cap slot in_names may here.
              let both = both_true (lead_to p memory all k.names.items k.names.items) (lead_to p memory all k.names.items k.nodes.items) g in
              let from = sym (named set) ∙ in_names in (
                named (set_at memory slot) ∙ leads k.names.items k.names.items set cap slot both.0 from may here,
                noded (set_at memory slot) ∙ leads k.names.items k.nodes.items set cap slot both.1 from may here,
              ))
        ];
        ends = λ base radix guard slot may takes here.
            noded (set_at memory slot) ∙ ends_at k h base radix guard slot (subst (λ n. may_stand p all n (CNode base radix guard) ≡ true) (sym at) may) takes here;
        reaches = λ set cap slot in_either may here. filled (set_at memory slot) ∙ elim in_either [
          | inl n ↦ leads k.nodes.items k.fills.items set cap slot (given_is k h) (sym (noded set) ∙ n) may here
          | inr f ↦ leads k.fills.items k.fills.items set cap slot (deeper_is k h) (sym (filled set) ∙ f) may here
        ];
        puts = λ from to cap made in_from in_to may is. puts_at k h from to cap made (sym (filled from) ∙ in_from) (sym (filled to) ∙ in_to) may is;
        makes = λ from to base bits free made in_from in_to may low high.
            makes_at k h from to base bits free made (sym (named from) ∙ in_from) (sym (filled to) ∙ in_to) may low high;
        sets = λ from of thread base radix guard other in_from in_of may_of' may_from.
            sets_at k h from of thread base radix guard other (sym (noded from) ∙ in_from) (sym (named of) ∙ in_of) may_of' may_from;
      }

  -- each thread that may stand somewhere and is not trusted has a settled set
  thread_settled : (what : Standing) (thread : ℕ) → stands_for_cap p what (Tcb thread) ≡ true → are_threads_settled p memory all callers trusted what ≡ true →
      is_among trusted thread ≡ false → IsSettledFor p flow (set_at memory thread)
  thread_settled (standing.Thread base) thread c h free =
      let same = eqb-true base thread c in
      let settled = subst (λ n. is_among trusted n || is_set_settled p memory all (caller_of callers (set_at memory n)) ≡ true) same h in
      caller_settled (set_at memory thread) (caller_of callers (set_at memory thread)) refl (by (is_among trusted thread) free settled)
    where
      by : (b : Bool) {d : Bool} → b ≡ false → b || d ≡ true → d ≡ true
      by true e h = absurd (false≢true (sym e))
      by false e h = h
  thread_settled (standing.Region base bits) thread c h free =
      let inside = within_range base bits thread (bits_of p (Tcb thread)) thread (last_in thread (bits_of p (Tcb thread))) (last_in base bits) refl refl c (omega arith)
      (omega (arith, pow_pos (bits_of p (Tcb thread)))) in
      caller_settled (set_at memory thread) (caller_of callers (set_at memory thread)) refl
      (range_where (λ set. is_set_settled p memory all (caller_of callers set)) memory base bits thread (last_in base bits) refl h inside.0 inside.1)
  thread_settled (standing.Untyped base bits) thread c h free = absurd (false≢true c)
  thread_settled (standing.Endpoint base most rights) thread c h free = absurd (false≢true c)
  thread_settled (standing.Node base radix takes) thread c h free = absurd (false≢true c)

  -- how much is used of a region does not matter
  used_same : (what : Standing) (base bits free other : ℕ) → stands_for_cap p what (Untyped base bits free) ≡ stands_for_cap p what (Untyped base bits other)
  used_same (standing.Untyped first few) base bits free other = refl
  used_same (standing.Region first few) base bits free other = refl
  used_same (standing.Endpoint first most rights) base bits free other = refl
  used_same (standing.Node first radix takes) base bits free other = refl
  used_same (standing.Thread first) base bits free other = refl

  pub settled_by_test : is_settled p memory all callers trusted ≡ true → IsSettled p flow
  settled_by_test h = record {
    empties = λ set. refl;
    used = λ set base bits free other may.
        let s = any_of (may_in p set (Untyped base bits free)) all may in
        let both = both_true (s.0.set == set) _ s.1.1 in
        any_in (may_in p set (Untyped base bits other)) all s.0 s.1.0 (and_true (s.0.set == set) _ both.0 (sym (used_same s.0.what base bits free other) ∙ both.1));
    callers = λ set thread may free.
        let s = stands_by set (Tcb thread) refl may in
        thread_settled s.0.what thread s.1.1.1 (all_in (λ (x : MayStand). are_threads_settled p memory all callers trusted x.what) all s.0 h s.1.0) free;
  }

-- where each full slot holds what may stand there, so does each slot
pub told_slots : (p : ProfileName) (memory : List PartMemory) (all : List MayStand) (slot : ℕ) (es : List Entry) → list_all (is_entry_told p memory all) es ≡ true →
    may_stand p all (set_at memory slot) (cap_in slot es) ≡ true
told_slots p memory all slot [] h = refl
told_slots p memory all slot (e ∷ es) h =
    let both = both_true (is_entry_told p memory all e) _ h in
    (elim (e.slot == slot) as (λ b. (e.slot == slot) ≡ b → may_stand p all (set_at memory slot) (cond b e.cap (cap_in slot es)) ≡ true) [
      | true ↦ λ at. subst (λ n. may_stand p all (set_at memory n) e.cap ≡ true) (eqb-true e.slot slot at) both.0
      | false ↦ λ other. told_slots p memory all slot es both.1
    ]) refl

-- in each state that is shown
pub held_of_told : (p : ProfileName) (flows : Flows) (v : Shown) → are_told p flows.memory.items flows.standing.items v.derivations ≡ true →
    (A : State) → v ≡ shown A → HoldsWhatMayStand (flow_of_lists p flows) A.derivations
unfolding shown
held_of_told p flows v told A shows slot =
    told_slots p flows.memory.items flows.standing.items slot (preorder A.derivations)
    (subst (λ (w : Shown). are_told p flows.memory.items flows.standing.items w.derivations ≡ true) shows told)

-- so it is ever
pub flow_ever : (p : ProfileName) (flows : Flows) (v : Shown) →
    is_settled p flows.memory.items flows.standing.items flows.callers.items flows.trusted.items ≡ true →
    are_told p flows.memory.items flows.standing.items v.derivations ≡ true → IsFlowEver p (flow_of_lists p flows) v
unfolding shown
flow_ever p flows v settled told A reached shows calls of =
    let settles = settled_by_test p flows.memory.items flows.standing.items flows.callers.items flows.trusted.items settled in
    let held = held_of_told p flows v told A shows in
    record {
      held = stay_held p (flow_of_lists p flows) A calls reached settles held of;
      deliveries = subst (λ (w : Shown). Each (TellsOfFlow (flow_of_lists p flows) w) (replies_of p A calls)) (sym shows) (tell_flow p (flow_of_lists p flows) A calls reached settles held of);
    }
