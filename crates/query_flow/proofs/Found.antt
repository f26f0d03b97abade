-- The slots that the words of a call name lie in the sets that the caller's words may end in, at a CNode's capability or not, and that it
-- may fill.
use Rattle.std.proofs.Common.{◌≡◌, ℕ, zero, suc, ◌+◌, ◌-◌, ◌⊎◌, inl, inr, refl, sym, ap, subst, ◌∙◌, Bool, true, false, cond, not, ◌==◌, ◌&&◌, nat_lt, nat_le, List, [], ◌∷◌, length, take, drop, Option, Some, None, Result, Ok, Err, arith}
use Rattle.std.specs.Int.Digits.{AllBelowBase, number_from_digits}
use Rattle.std.proofs.lemmas.Bool.{false≢true, eqb-true, ltb-false}
use Rattle.cap_core.specs.declared.profile.ProfileName.{ProfileName}
use Rattle.cap_core.specs.declared.capability.Guard.{Guard}
use Rattle.cap_core.specs.declared.capability.Cap.{Cap}
use Rattle.cap_core.specs.declared.capability.Cap.TheVariants.{Null, Untyped, Endpoint, CNode, Tcb}
use Rattle.cap_core.specs.declared.refusal.Refusal.TheVariants.{RangeError, FailedLookup}
use Rattle.cap_core.specs.declared.refusal.LookupFault.{LookupFault}
use Rattle.cap_core.specs.declared.refusal.LookupFault.TheVariants.{InvalidRoot, DepthMismatch}
use Rattle.cap_core.specs.Numbers.{word_bits}
use Rattle.kernel_forest.specs.Forest.{Forest}
use Rattle.kernel_forest.specs.Entries.{Entry, cap_at}
use Rattle.cspace_core.specs.Bits.{low_bits, after_front}
use Rattle.cspace_core.specs.Resolution.{Choice, Found, is_cnode, slot_of, guard_bits, choice, choice_after_guard, found_or, resolution_within, resolution}
use Rattle.cspace_core.specs.Target.{target_slot}
use Rattle.cspace_core.specs.Inside.{IsSlotOf}
use Rattle.cspace_core.proofs.Bits.{length-low_bits}
use Rattle.cspace_core.proofs.Inside.{low_bits-below}
use Rattle.kernel_abstract.specs.Lookups.{slot_named}
use Rattle.kernel_abstract.proofs.Checks.FoundSlots.{cond_passed, whole_passed}
use Rattle.query_parts.proofs.Found.{chosen_slot, named_found}
use Rattle.query_flow.specs.Flow.{Flow, LiesAmong, HoldsWhatMayStand, IsEnding, WordsGoOn, IsSettledFor}

-- a resolution ends where the choices of its capabilities lie: `Fits` of the slots, `Leads` of the capabilities
module _ (p : ProfileName) (f : Forest Entry) (Fits : ℕ → Type 0) (Leads : Cap → Type 0)
    (lies : (cap : Cap) (slot : ℕ) → Leads cap → IsSlotOf p cap slot → Fits slot) (leads : (slot : ℕ) → Fits slot → Leads (cap_at f slot)) where
  fits_where : (there : Cap → List ℕ → Result Found LookupFault) (found : Found) (c : Choice) (t : Bool) →
      Fits c.slot → (there (cap_at f c.slot) c.left ≡ Ok found → Fits found.slot) →
      cond t (there (cap_at f c.slot) c.left) (Ok (record { slot = c.slot; left = length c.left })) ≡ Ok found → Fits found.slot
  fits_where there found c true here on e = on e
  fits_where there found c false here on e =
      let made : Found = record { slot = c.slot; left = length c.left } in
      let same : made ≡ found = cc in
      let slot : c.slot ≡ found.slot = ap (λ (x : Found). x.slot) same in
      subst Fits slot here

  fits_after : (there : Cap → List ℕ → Result Found LookupFault) (root : Cap) (bits : List ℕ) (found : Found) (r : Result Choice LookupFault) →
      AllBelowBase 2 bits → Leads root →
      ((cap : Cap) (left : List ℕ) → AllBelowBase 2 left → Leads cap → there cap left ≡ Ok found → Fits found.slot) →
      choice p root bits ≡ r → found_or (cap_at f) there r ≡ Ok found → Fits found.slot
  fits_after there root bits found (Err fault) h w on is e = cc
  fits_after there root bits found (Ok c) h w on is e =
      let here = chosen_slot p root bits c h is in
      let fits = lies root c.slot w here.0 in
      fits_where there found c (is_cnode (cap_at f c.slot) && not (length c.left == 0)) fits
      (on (cap_at f c.slot) c.left here.1 (leads c.slot fits)) e

  fits_within : (most : ℕ) (root : Cap) (bits : List ℕ) (found : Found) → AllBelowBase 2 bits → Leads root →
      resolution_within p (cap_at f) most root bits ≡ Ok found → Fits found.slot
  unfolding resolution_within
  fits_within zero root bits found h w e = cc
  fits_within (suc most) root bits found h w e =
      fits_after (resolution_within p (cap_at f) most) root bits found (choice p root bits) h w
      (λ cap left below within there. fits_within most cap left found below within there) refl e

  pub fits_found : (root : Cap) (n word : ℕ) (found : Found) → Leads root →
      resolution p (cap_at f) root (low_bits n word) ≡ Ok found → Fits found.slot
  unfolding resolution
  fits_found root n word found w e = fits_within (suc (length (low_bits n word))) root (low_bits n word) found (low_bits-below n word) w e

-- a CNode that takes all bits leaves none
same_rest : (t : Bool) (m : Option (List ℕ)) (rest : List ℕ) → cond t m None ≡ Some rest → m ≡ Some rest
same_rest true m rest e = e
same_rest false m rest e = cc

length-after : (front bits rest : List ℕ) → after_front front bits ≡ Some rest → length bits ≡ length front + length rest
length-after [] bits rest e = let same : bits ≡ rest = cc in let h : length bits ≡ length rest = ap length same in omega (arith, h)
length-after (a ∷ front) [] rest e = cc
length-after (a ∷ front) (b ∷ bits) rest e =
    let h = length-after front bits rest (same_rest (a == b) (after_front front bits) rest e) in
    omega (arith, h)

length-left : (n : ℕ) (bits : List ℕ) → length (drop n bits) ≡ length bits - n
length-left zero bits = omega arith
length-left (suc n) [] = omega arith
length-left (suc n) (b ∷ bits) = let h = length-left n bits in omega (arith, h)

left_by_radix : (slot radix : ℕ) (bits : List ℕ) (c : Choice) (t : Bool) →
    cond t (Err DepthMismatch) (Ok (record { slot = slot; left = drop radix bits })) ≡ Ok c → c.left ≡ drop radix bits
left_by_radix slot radix bits c true e = cc
left_by_radix slot radix bits c false e =
    let made : Choice = record { slot = slot; left = drop radix bits } in
    let same : made ≡ c = cc in
    sym (ap (λ (x : Choice). x.left) same)

none_after : (p : ProfileName) (base radix : ℕ) (guard : Guard) (bits : List ℕ) (c : Choice) (m : Option (List ℕ)) →
    guard.size + radix ≡ length bits → after_front (guard_bits guard) bits ≡ m → choice_after_guard p base radix m ≡ Ok c → length c.left ≡ 0
none_after p base radix guard bits c None whole is e = cc
none_after p base radix guard bits c (Some rest) whole is e =
    let left = left_by_radix (slot_of p base (number_from_digits 2 (take radix rest))) radix rest c (nat_lt (length rest) radix) e in
    let same = length-after (guard_bits guard) bits rest is in
    let front = length-low_bits guard.size guard.value in
    let few = length-left radix rest in
    ap length left ∙ omega (arith, whole, same, front, few)

-- and one that leaves none takes all
taken_by_radix : (slot radix : ℕ) (bits : List ℕ) (c : Choice) (t : Bool) → nat_lt (length bits) radix ≡ t →
    cond t (Err DepthMismatch) (Ok (record { slot = slot; left = drop radix bits })) ≡ Ok c → length c.left ≡ 0 → length bits ≡ radix
taken_by_radix slot radix bits c true few e none = cc
taken_by_radix slot radix bits c false few e none =
    let left = left_by_radix slot radix bits c false e in
    let rest = length-left radix bits in
    let long = ltb-false (length bits) radix few in
    let same : length c.left ≡ length (drop radix bits) = ap length left in
    omega (arith, none, rest, long, same)

all_after : (p : ProfileName) (base radix : ℕ) (guard : Guard) (bits : List ℕ) (c : Choice) (m : Option (List ℕ)) →
    after_front (guard_bits guard) bits ≡ m → choice_after_guard p base radix m ≡ Ok c → length c.left ≡ 0 → guard.size + radix ≡ length bits
all_after p base radix guard bits c None is e none = cc
all_after p base radix guard bits c (Some rest) is e none =
    let all = taken_by_radix (slot_of p base (number_from_digits 2 (take radix rest))) radix rest c (nat_lt (length rest) radix) refl e none in
    let same = length-after (guard_bits guard) bits rest is in
    let front = length-low_bits guard.size guard.value in
    omega (arith, all, same, front)

-- a CNode's capability at which a resolution ends: the root takes all bits, or it lies behind what the root chooses
node_where : {P : Type 0} (p : ProfileName) (f : Forest Entry) (there : Cap → List ℕ → Result Found LookupFault) (c : Choice) (found : Found) (node none : Bool) →
    is_cnode (cap_at f c.slot) ≡ node → (length c.left == 0) ≡ none → is_cnode (cap_at f found.slot) ≡ true →
    cond (node && not none) (there (cap_at f c.slot) c.left) (Ok (record { slot = c.slot; left = length c.left })) ≡ Ok found →
    (length c.left ≡ 0 → c.slot ≡ found.slot → P) → (there (cap_at f c.slot) c.left ≡ Ok found → P) → P
node_where p f there c found true false is left at e here on = on e
node_where p f there c found true true is left at e here on =
    let made : Found = record { slot = c.slot; left = length c.left } in
    let same : made ≡ found = cc in
    here (eqb-true (length c.left) 0 left) (ap (λ (x : Found). x.slot) same)
node_where p f there c found false none is left at e here on =
    let made : Found = record { slot = c.slot; left = length c.left } in
    let same : made ≡ found = cc in
    absurd (false≢true (sym is ∙ ap (λ (x : Found). is_cnode (cap_at f x.slot)) same ∙ at))

ended_by : (p : ProfileName) (f : Forest Entry) (there : Cap → List ℕ → Result Found LookupFault) (c : Choice) (found : Found) (node : Bool) → length c.left ≡ 0 →
    cond (node && not (length c.left == 0)) (there (cap_at f c.slot) c.left) (Ok (record { slot = c.slot; left = length c.left })) ≡ Ok found → c.slot ≡ found.slot
ended_by p f there c found node none e =
    let made : Found = record { slot = c.slot; left = length c.left } in
    let same : made ≡ found = rest node e in
    ap (λ (x : Found). x.slot) same
  where
    rest : (node : Bool) → cond (node && not (length c.left == 0)) (there (cap_at f c.slot) c.left) (Ok (record { slot = c.slot; left = length c.left })) ≡ Ok found →
        ◌≡◌ {A = Found} (record { slot = c.slot; left = length c.left }) found
    rest false e = cc
    rest true e = let e' = rw none at e in cc

ended_after : (p : ProfileName) (f : Forest Entry) (there : Cap → List ℕ → Result Found LookupFault) (base radix : ℕ) (guard : Guard) (bits : List ℕ) (found : Found)
    (r : Result Choice LookupFault) → AllBelowBase 2 bits → guard.size + radix ≡ length bits → choice p (CNode base radix guard) bits ≡ r →
    found_or (cap_at f) there r ≡ Ok found → IsSlotOf p (CNode base radix guard) found.slot
ended_after p f there base radix guard bits found (Err fault) h whole is e = cc
ended_after p f there base radix guard bits found (Ok c) h whole is e =
    let none = none_after p base radix guard bits c (after_front (guard_bits guard) bits) whole refl is in
    subst (IsSlotOf p (CNode base radix guard)) (ended_by p f there c found (is_cnode (cap_at f c.slot)) none e)
    (chosen_slot p (CNode base radix guard) bits c h is).0

ended : (p : ProfileName) (f : Forest Entry) (base radix word : ℕ) (guard : Guard) (found : Found) → guard.size + radix ≡ word_bits p →
    resolution p (cap_at f) (CNode base radix guard) (low_bits (word_bits p) word) ≡ Ok found → IsSlotOf p (CNode base radix guard) found.slot
unfolding resolution resolution_within
ended p f base radix word guard found whole e =
    let bits : List ℕ = low_bits (word_bits p) word in
    let long = length-low_bits (word_bits p) word in
    ended_after p f (resolution_within p (cap_at f) (length bits)) base radix guard bits found (choice p (CNode base radix guard) bits) (low_bits-below (word_bits p) word)
    (whole ∙ sym long) refl e

module _ (p : ProfileName) (flow : Flow) (c : ℕ) (settled : IsSettledFor p flow c) (f : Forest Entry) (held : HoldsWhatMayStand flow f) where
  -- what a slot of some sets leads to
  abbrev pub Leads : (ℕ → Bool) → Cap → Type 0
  Leads among cap = (slot : ℕ) → IsSlotOf p cap slot → LiesAmong flow among slot

  names_lead : WordsGoOn p flow c → (slot : ℕ) → LiesAmong flow (flow.names c) slot → Leads (flow.names c) (cap_at f slot)
  names_lead goes slot among there is = (goes (flow.set_of slot) (cap_at f slot) there among (held slot) is).0

  -- a slot behind the first one
  abbrev LiesBehind : ℕ → Type 0
  LiesBehind slot = LiesAmong flow (flow.names c) slot × LiesAmong flow (flow.nodes c) slot

  abbrev LeadsBehind : Cap → Type 0
  LeadsBehind cap = (slot : ℕ) → IsSlotOf p cap slot → LiesBehind slot

  names_behind : WordsGoOn p flow c → (slot : ℕ) → LiesAmong flow (flow.names c) slot → LeadsBehind (cap_at f slot)
  names_behind goes slot among there is = goes (flow.set_of slot) (cap_at f slot) there among (held slot) is

  pub fills_lead : (slot : ℕ) → LiesAmong flow (flow.nodes c) slot ⊎ LiesAmong flow (flow.fills c) slot → Leads (flow.fills c) (cap_at f slot)
  fills_lead slot (inl among) there is = settled.reaches (flow.set_of slot) (cap_at f slot) there (inl among) (held slot) is
  fills_lead slot (inr among) there is = settled.reaches (flow.set_of slot) (cap_at f slot) there (inr among) (held slot) is

  word_ends : (thread word : ℕ) (root : Cap) (found : Found) → flow.may c root ≡ true → IsEnding p flow c →
      resolution p (cap_at f) root (low_bits (word_bits p) word) ≡ Ok found → LiesAmong flow (flow.names c) found.slot
  unfolding resolution resolution_within
  word_ends thread word Null found may ending e = cc
  word_ends thread word (Untyped base bits free) found may ending e = cc
  word_ends thread word (Endpoint base badge rights) found may ending e = cc
  word_ends thread word (CNode base radix guard) found may ending e =
      settled.begins (CNode base radix guard) found.slot may (ended p f base radix word guard found (ending base radix guard may) e)
  word_ends thread word (Tcb base) found may ending e = cc

  word_found : (thread word : ℕ) (found : Found) → flow.set_of thread ≡ c →
      resolution p (cap_at f) (cap_at f thread) (low_bits (word_bits p) word) ≡ Ok found → LiesAmong flow (flow.names c) found.slot
  word_found thread word found own e =
      let may : flow.may c (cap_at f thread) ≡ true = subst (λ n. flow.may n (cap_at f thread) ≡ true) own (held thread) in
      elim settled.goes_on [
        | inl ending ↦ word_ends thread word (cap_at f thread) found may ending e
        | inr goes ↦ fits_found p f (LiesAmong flow (flow.names c)) (Leads (flow.names c)) (λ cap slot leads is. leads slot is) (names_lead goes)
            (cap_at f thread) (word_bits p) word found (λ slot is. settled.begins (cap_at f thread) slot may is) e
      ]

  -- the slot that a word names
  pub word_lies : (thread word slot : ℕ) → flow.set_of thread ≡ c → slot_named p f (cap_at f thread) word ≡ Ok slot → LiesAmong flow (flow.names c) slot
  word_lies thread word slot own h =
      let found = named_found (resolution p (cap_at f) (cap_at f thread) (low_bits (word_bits p) word)) slot h in
      subst (LiesAmong flow (flow.names c)) found.1.1 (word_found thread word found.0 own found.1.0)

  -- a CNode's capability behind what the root chooses
  behind : (n : ℕ) (choice : Choice) (found : Found) → LiesAmong flow (flow.names c) choice.slot → AllBelowBase 2 choice.left → WordsGoOn p flow c →
      resolution_within p (cap_at f) n (cap_at f choice.slot) choice.left ≡ Ok found → LiesAmong flow (flow.nodes c) found.slot
  behind n choice found here below goes e =
      (fits_within p f LiesBehind LeadsBehind (λ cap slot leads is. leads slot is) (λ slot lies. names_behind goes slot lies.0)
      n (cap_at f choice.slot) choice.left found below (names_behind goes choice.slot here) e).1

  node_after : (n : ℕ) (base radix : ℕ) (guard : Guard) (bits : List ℕ) (found : Found) (r : Result Choice LookupFault) → length bits ≡ word_bits p → AllBelowBase 2 bits →
      flow.may c (CNode base radix guard) ≡ true → choice p (CNode base radix guard) bits ≡ r → found_or (cap_at f) (resolution_within p (cap_at f) n) r ≡ Ok found →
      is_cnode (cap_at f found.slot) ≡ true → LiesAmong flow (flow.nodes c) found.slot
  node_after n base radix guard bits found (Err fault) long below may is e node = cc
  node_after n base radix guard bits found (Ok first) long below may is e node =
      let root : Cap = CNode base radix guard in
      let here = chosen_slot p root bits first below is in
      node_where {P = LiesAmong flow (flow.nodes c) found.slot} p f (resolution_within p (cap_at f) n) first found (is_cnode (cap_at f first.slot)) (length first.left == 0) refl refl node e
      (λ none same.
      let all = all_after p base radix guard bits first (after_front (guard_bits guard) bits) refl is none in
      subst (LiesAmong flow (flow.nodes c)) same (settled.ends base radix guard first.slot may (all ∙ long) here.0))
      (λ on. elim settled.goes_on [
        | inl ending ↦
            let none = none_after p base radix guard bits first (after_front (guard_bits guard) bits) (ending base radix guard may ∙ sym long) refl is in
            ended_on none on
        | inr goes ↦ behind n first found (settled.begins root first.slot may here.0) here.1 goes on
      ])
    where
      ended_on : length first.left ≡ 0 → resolution_within p (cap_at f) n (cap_at f first.slot) first.left ≡ Ok found → LiesAmong flow (flow.nodes c) found.slot
      ended_on none on =
          let all = all_after p base radix guard bits first (after_front (guard_bits guard) bits) refl is none in
          subst (LiesAmong flow (flow.nodes c)) (ended_by p f (resolution_within p (cap_at f) n) first found (is_cnode (cap_at f first.slot)) none e)
          (settled.ends base radix guard first.slot may (all ∙ long) (chosen_slot p (CNode base radix guard) bits first below is).0)

  node_found : (word : ℕ) (root : Cap) (found : Found) → flow.may c root ≡ true → resolution p (cap_at f) root (low_bits (word_bits p) word) ≡ Ok found →
      is_cnode (cap_at f found.slot) ≡ true → LiesAmong flow (flow.nodes c) found.slot
  unfolding resolution resolution_within
  node_found word Null found may e node = cc
  node_found word (Untyped base bits free) found may e node = cc
  node_found word (Endpoint base badge rights) found may e node = cc
  node_found word (CNode base radix guard) found may e node =
      let bits : List ℕ = low_bits (word_bits p) word in
      node_after (length bits) base radix guard bits found (choice p (CNode base radix guard) bits) (length-low_bits (word_bits p) word) (low_bits-below (word_bits p) word)
      may refl e node
  node_found word (Tcb base) found may e node = cc

  -- the slot with a CNode's capability that a word names
  pub node_lies : (thread word slot : ℕ) → flow.set_of thread ≡ c → slot_named p f (cap_at f thread) word ≡ Ok slot → is_cnode (cap_at f slot) ≡ true →
      LiesAmong flow (flow.nodes c) slot
  node_lies thread word slot own h node =
      let found = named_found (resolution p (cap_at f) (cap_at f thread) (low_bits (word_bits p) word)) slot h in
      let may : flow.may c (cap_at f thread) ≡ true = subst (λ n. flow.may n (cap_at f thread) ≡ true) own (held thread) in
      subst (LiesAmong flow (flow.nodes c)) found.1.1
      (node_found word (cap_at f thread) found.0 may found.1.0 (subst (λ n. is_cnode (cap_at f n) ≡ true) (sym found.1.1) node))

  with_slots : (cap : Cap) (slot : ℕ) → IsSlotOf p cap slot → is_cnode cap ≡ true
  with_slots Null slot is = absurd is
  with_slots (Untyped base bits free) slot is = absurd is
  with_slots (Endpoint base badge rights) slot is = absurd is
  with_slots (CNode base radix guard) slot is = refl
  with_slots (Tcb base) slot is = absurd is

  -- what it leads to
  pub word_leads : (thread word slot : ℕ) → flow.set_of thread ≡ c → slot_named p f (cap_at f thread) word ≡ Ok slot → Leads (flow.fills c) (cap_at f slot)
  word_leads thread word slot own h there is = fills_lead slot (inl (node_lies thread word slot own h (with_slots (cap_at f slot) there is))) there is

  -- the slot that an index and a depth name from a slot
  pub index_lies : (root index depth slot : ℕ) → Leads (flow.fills c) (cap_at f root) →
      target_slot p (cap_at f) (cap_at f root) index depth ≡ Ok slot → LiesAmong flow (flow.fills c) slot
  index_lies root index depth slot leads h =
      let node = cond_passed (is_cnode (cap_at f root)) _ (FailedLookup InvalidRoot) slot h in
      let range = cond_passed (nat_le 1 depth && nat_le depth (word_bits p)) _ RangeError slot node.1 in
      let whole = whole_passed (resolution p (cap_at f) (cap_at f root) (low_bits depth index)) slot range.1 in
      subst (LiesAmong flow (flow.fills c)) whole.1.1
      (fits_found p f (LiesAmong flow (flow.fills c)) (Leads (flow.fills c)) (λ cap slot leads is. leads slot is) (λ slot lies. fills_lead slot (inr lies))
      (cap_at f root) depth index whole.0 leads whole.1.0)
