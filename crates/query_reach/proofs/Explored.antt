-- A row of a search by index and depth is followed: what its paths lead to is in the rows behind it.
use Rattle.std.proofs.Common.{◌≡◌, ℕ, zero, suc, ◌+◌, ◌-◌, ◌*◌, ◌/◌, ◌%◌, ◌^◌, ◌<◌, ◌≤◌, ◌⊎◌, inl, inr, refl, sym, ap, ◌∙◌, arith, Bool, true, false, List, length, Option, Some}
use Rattle.std.specs.List.{slice_get}
use Rattle.std.proofs.lemmas.Bool.{cases_eq, cases_lt}
use Rattle.std.proofs.lemmas.Nat.{pow-add, pow_pos, mod_below}
use Rattle.std.proofs.lemmas.Option.{slice_get_within}
use Rattle.std.proofs.Math.Nat.{mul-le-mul_right, mod-eq_of_lt}
use Rattle.std.proofs.Math.Pow.{pow_mono}
use Rattle.cap_core.specs.declared.profile.ProfileName.{ProfileName}
use Rattle.cap_core.specs.declared.capability.Guard.{Guard}
use Rattle.cap_core.specs.declared.capability.Cap.{Cap}
use Rattle.cap_core.specs.declared.capability.Cap.TheVariants.{Null, CNode}
use Rattle.cap_core.specs.Numbers.{word_bits}
use Rattle.cap_core.specs.Objects.{IsLawful}
use Rattle.kernel_forest.specs.Forest.{Forest}
use Rattle.kernel_forest.specs.Entries.{Entry, cap_at, is_full}
use Rattle.cspace_core.specs.Resolution.{is_cnode, slot_of}
use Rattle.cspace_core.proofs.Nodes.{lawful_node}
use Rattle.query_reach.specs.declared.filled.FullSlot.{FullSlot}
use Rattle.query_reach.specs.declared.paths.Path.{Path}
use Rattle.query_reach.specs.FullSlots.{AreFullSlots, AreLawful}
use Rattle.query_reach.specs.Private.Paths.{path_at, IsUpTo, HasUpTo, AreWithinBits}
use Rattle.query_reach.specs.Private.Exploring.{target_from, IsStep, StepsFrom, ExtendsRow, ComesFrom, StandsForIndex, IsSpaceExplored, AreStarts}
use Rattle.query_reach.proofs.Numbers.{taken_below, word_below, word_made}
use Rattle.query_reach.proofs.Searched.{node_is_full}
use Rattle.query_reach.proofs.NextWords.{words_most}
use Rattle.query_reach.proofs.Targets.{LeadsTo, leads_to, leading_to, step_whole, no_target}
use Rattle.query_reach.proofs.PathTables.{up_to}

-- an index that a CNode made longer
longer : (g r m value index number rest : ℕ) →
    ((index * 2 ^ g + value) * 2 ^ r + number) * 2 ^ m + rest ≡ index * 2 ^ ((g + r) + m) + ((value * 2 ^ r + number) * 2 ^ m + rest)
longer g r m value index number rest =
    let a : 2 ^ ((g + r) + m) ≡ 2 ^ (g + r) * 2 ^ m = pow-add 2 (g + r) m in
    let b : 2 ^ (g + r) ≡ 2 ^ g * 2 ^ r = pow-add 2 g r in
    rw (a, b) (omega arith)

pub longer_below : (read g r value index number : ℕ) → index < 2 ^ read → value < 2 ^ g → number < 2 ^ r →
    (index * 2 ^ g + value) * 2 ^ r + number < 2 ^ (read + (g + r))
longer_below read g r value index number i v n =
    let first : index * 2 ^ g + value < 2 ^ (read + g) = taken_below read g index value i v in
    let both : (index * 2 ^ g + value) * 2 ^ r + number < 2 ^ ((read + g) + r) = taken_below (read + g) r (index * 2 ^ g + value) number first n in
    let sum : (read + g) + r ≡ read + (g + r) = omega arith in
    rw sum at both

pub bits_more : (p : ProfileName) (filled : List FullSlot) (read count : ℕ) (old new : List (List (Option Path))) → AreLawful p filled →
    AreWithinBits old → ExtendsRow p read filled count old new → AreWithinBits new
bits_more p filled read count old new lawful bits s t k w e = elim (s.only t k w e) [
  | inl was ↦ bits t k w was
  | inr more ↦ (let st = more.1 in
      let step = st.step.1.1 in
      let node = lawful_node p (word_bits p) step.base step.radix step.guard (rw step.node at (lawful more.0 st.from st.holds)) in
      let low : st.path.index < 2 ^ read = bits read more.0 st.path st.entered in
      let index : w.index ≡ (st.path.index * 2 ^ step.guard.size + step.guard.value) * 2 ^ step.radix + step.number = ap (λ (x : Path). x.index) step.is in
      rw (step.bits, index) (longer_below read step.guard.size step.radix step.guard.value st.path.index step.number low node.holds.cut step.within))
]

-- what is put goes on as its path did
sound_step : (p : ProfileName) (memory : ℕ) (f : Forest Entry) (filled : List FullSlot) (first rows : List (List (Option Path))) (read holder t k : ℕ) (w : Path) (u : FullSlot) →
    ((s : ℕ) → (cap_at f s ≡ Null) ⊎ IsLawful p memory (cap_at f s)) → AreFullSlots f filled →
    (st : StepsFrom p rows read filled holder t k w) → ComesFrom p f filled first read st.path st.from.address → slice_get filled k ≡ Some u →
    ComesFrom p f filled first t w u.address
sound_step p memory f filled first rows read holder t k w u all are st c is =
    let step = st.step.1.1 in
    let g : ℕ = step.guard.size in
    let r : ℕ = step.radix in
    let found : slice_get filled k ≡ Some st.step.0 = st.step.1.0 in
    let same : st.step.0 ≡ u = cc in
    let there : u.address ≡ slot_of p step.base step.number = sym (ap (λ (x : FullSlot). x.address) same) ∙ step.chosen in
    let from_is : cap_at f st.from.address ≡ CNode step.base r step.guard = sym (are.holds holder st.from st.holds) ∙ step.node in
    let node = lawful_node p memory step.base r step.guard (rw from_is at (all st.from.address)) in
    let index : w.index ≡ (st.path.index * 2 ^ g + step.guard.value) * 2 ^ r + step.number = ap (λ (x : Path). x.index) step.is in
    let word : st.path.word ≡ w.word = sym (ap (λ (x : Path). x.word) step.is) in
    record {
      place = c.place;
      from = c.from;
      start = c.start;
      starts = c.starts;
      word = c.word ∙ word;
      holds = c.holds;
      goes = λ left rest low. (
          let behind : ℕ = (step.guard.value * 2 ^ r + step.number) * 2 ^ left + rest in
          let below : behind < 2 ^ ((g + r) + left) =
          word_below (g + r) left (step.guard.value * 2 ^ r + step.number) rest (taken_below g r step.guard.value step.number node.holds.cut step.within) low in
          let led : target_from p f (read + ((g + r) + left)) c.from.address (st.path.index * 2 ^ ((g + r) + left) + behind) ≡ target_from p f ((g + r) + left) st.from.address behind =
          c.goes ((g + r) + left) behind below in
          let on : target_from p f ((g + r) + left) st.from.address behind ≡ target_from p f left (slot_of p step.base step.number) rest =
          step_whole p memory f all st.from.address step.base r step.number left rest step.guard from_is step.within low in
          let depth : t + left ≡ read + ((g + r) + left) = omega (arith, step.bits) in
          let sum : w.index * 2 ^ left + rest ≡ st.path.index * 2 ^ ((g + r) + left) + behind =
          ap (λ (x : ℕ). x * 2 ^ left + rest) index ∙ longer g r left step.guard.value st.path.index step.number rest in
          rw (depth, sum, there) (led ∙ on));
    }

-- the same index behind two paths
scaled : (a b : Path) (m rest : ℕ) → IsUpTo a b → IsUpTo (record { word = a.word; index = a.index * 2 ^ m + rest }) (record { word = b.word; index = b.index * 2 ^ m + rest })
scaled a b m rest (inl h) = inl h
scaled a b m rest (inr h) = inr (h.0, (let more : a.index * 2 ^ m ≤ b.index * 2 ^ m = mul-le-mul_right (2 ^ m) h.1 in omega arith))

-- a path that is not in the row stands for what it did
stands_kept : (p : ProfileName) (f : Forest Entry) (filled : List FullSlot) (old new : List (List (Option Path))) (done word depth index slot : ℕ) →
    ((t k : ℕ) (w : Path) → path_at old t k ≡ Some w → HasUpTo new t k w) → (st : StandsForIndex p f filled old done word depth index slot) → (done + 1 ≤ st.read) ⊎ (st.left ≡ 0) →
    StandsForIndex p f filled new (done + 1) word depth index slot
stands_kept p f filled old new done word depth index slot kept st ahead =
    let k = kept st.read st.place st.path st.there in
    record {
      read = st.read;
      left = st.left;
      place = st.place;
      at = st.at;
      path = k.0;
      ahead = ahead;
      split = st.split;
      there = k.1.1;
      holds = st.holds;
      low = up_to _ _ _ (scaled k.0 st.path st.left (index % 2 ^ st.left) k.1.0) st.low;
      leads = st.leads;
    }

-- the slot that an index leads to next is full
full_there : (p : ProfileName) (memory : ℕ) (f : Forest Entry) → ((s : ℕ) → (cap_at f s ≡ Null) ⊎ IsLawful p memory (cap_at f s)) →
    (there m index slot : ℕ) (t : Bool) → is_cnode (cap_at f there) ≡ t → target_from p f m there index ≡ Some slot → is_full slot f ≡ true → is_full there f ≡ true
full_there p memory f all there zero index slot t e is full = let same : there ≡ slot = cc in rw same full
full_there p memory f all there (suc m) index slot true e is full = node_is_full f there e
full_there p memory f all there (suc m) index slot false e is full = let none = no_target p memory f all there (suc m) index e in cc

-- one in the row is followed
stands_next : (p : ProfileName) (memory : ℕ) (f : Forest Entry) (filled : List FullSlot) (old new : List (List (Option Path))) (done word depth index slot : ℕ) →
    ((s : ℕ) → (cap_at f s ≡ Null) ⊎ IsLawful p memory (cap_at f s)) → AreFullSlots f filled → depth ≤ word_bits p → is_full slot f ≡ true →
    ExtendsRow p done filled (length filled) old new → (st : StandsForIndex p f filled old done word depth index slot) → st.read ≡ done →
    LeadsTo p f (cap_at f st.at.address) st.left index slot → StandsForIndex p f filled new (done + 1) word depth index slot
stands_next p memory f filled old new done word depth index slot all are short full s st here (leads_to base radix guard node some long enough begins on) =
    let g : ℕ = guard.size in
    let left : ℕ = st.left in
    let m : ℕ = left - g - radix in
    let number : ℕ = index / 2 ^ m % 2 ^ radix in
    let there : ℕ = slot_of p base number in
    let next : Path = record { word = st.path.word; index = (st.path.index * 2 ^ g + guard.value) * 2 ^ radix + number } in
    let back : (g + radix) + m ≡ left = omega arith in
    let above : left - g ≡ m + radix = omega arith in
    let made : index % 2 ^ left ≡ (guard.value * 2 ^ radix + number) * 2 ^ m + index % 2 ^ m =
    rw back at (word_made g radix m guard.value index (rw above at begins)) in
    let sum : next.index * 2 ^ m + index % 2 ^ m ≡ st.path.index * 2 ^ left + index % 2 ^ left =
    rw back at (longer g radix m guard.value st.path.index number (index % 2 ^ m)) ∙ ap (λ (x : ℕ). st.path.index * 2 ^ left + x) (sym made) in
    let found = are.all there (full_there p memory f all there m index slot (is_cnode (cap_at f there)) refl on full) in
    let u : FullSlot = found.1.0 in
    let is : slice_get filled found.0 ≡ Some u = found.1.1.0 in
    let split : st.read + left ≡ depth = st.split in
    let step : IsStep p st.at.cap done st.path u.address (done + (g + radix)) next = record {
      base = base;
      radix = radix;
      guard = guard;
      number = number;
      node = are.holds st.place st.at st.holds ∙ node;
      fits = omega arith;
      within = mod_below (index / 2 ^ m) (2 ^ radix) (pow_pos radix);
      chosen = found.1.1.1;
      bits = refl;
      is = refl;
    } in
    let from : StepsFrom p old done filled st.place (done + (g + radix)) found.0 next =
    record { from = st.at; path = st.path; holds = st.holds; entered = rw here at st.there; step = (u, (is, step)) } in
    let added : HasUpTo new (done + (g + radix)) found.0 next = s.added st.place (done + (g + radix)) found.0 next (slice_get_within filled st.place st.at st.holds) from in
    record {
      read = done + (g + radix);
      left = m;
      place = found.0;
      at = u;
      path = added.0;
      ahead = inl (omega arith);
      split = omega arith;
      there = added.1.1;
      holds = is;
      low = up_to _ _ _ (scaled added.0 next m (index % 2 ^ m) added.1.0) (rw sum st.low);
      leads = rw found.1.1.1 on;
    }

stands_more : (p : ProfileName) (memory : ℕ) (f : Forest Entry) (filled : List FullSlot) (old new : List (List (Option Path))) (done word depth index slot : ℕ) →
    ((s : ℕ) → (cap_at f s ≡ Null) ⊎ IsLawful p memory (cap_at f s)) → AreFullSlots f filled → depth ≤ word_bits p → is_full slot f ≡ true →
    ExtendsRow p done filled (length filled) old new → StandsForIndex p f filled old done word depth index slot → StandsForIndex p f filled new (done + 1) word depth index slot
stands_more p memory f filled old new done word depth index slot all are short full s st = elim st.ahead [
  | inr none ↦ stands_kept p f filled old new done word depth index slot s.kept st (inr none)
  | inl ahead ↦ elim (cases_lt done st.read) [
    | inl later ↦ stands_kept p f filled old new done word depth index slot s.kept st (inl (omega arith))
    | inr late ↦ elim (cases_eq st.left 0) [
      | inl none ↦ stands_kept p f filled old new done word depth index slot s.kept st (inr none)
      | inr some ↦ stands_next p memory f filled old new done word depth index slot all are short full s st (omega arith)
          (leading_to p memory f all st.at.address st.left index slot (omega arith) st.leads)
    ]
  ]
]

pub explored_more : (p : ProfileName) (memory : ℕ) (f : Forest Entry) (filled : List FullSlot) (first old new : List (List (Option Path))) (done : ℕ) →
    ((s : ℕ) → (cap_at f s ≡ Null) ⊎ IsLawful p memory (cap_at f s)) → AreFullSlots f filled →
    ExtendsRow p done filled (length filled) old new → IsSpaceExplored p f filled first old done → IsSpaceExplored p f filled first new (done + 1)
explored_more p memory f filled first old new done all are s was = record {
  sound = λ t k w u e is. elim (s.only t k w e) [
    | inl old' ↦ was.sound t k w u old' is
    | inr more ↦ sound_step p memory f filled first old done more.0 t k w u all are more.1
        (was.sound done more.0 more.1.path more.1.from more.1.entered more.1.holds) is
  ];
  whole = λ place from start depth index slot starts holds short led full.
      stands_more p memory f filled old new done start.word depth index slot all are short full s (was.whole place from start depth index slot starts holds short led full);
}

pub explored_first : (p : ProfileName) (f : Forest Entry) (filled : List FullSlot) (rows : List (List (Option Path))) → AreStarts rows → IsSpaceExplored p f filled rows rows 0
explored_first p f filled rows starts = record {
  sound = λ read place path u e is. (
      let s = starts read place path e in
      record {
        place = place;
        from = u;
        start = path;
        starts = rw s.0 at e;
        word = refl;
        holds = is;
        goes = λ left rest low. (
            let depth : read + left ≡ left = omega (arith, s.0) in
            let index : path.index * 2 ^ left + rest ≡ rest = ap (λ (x : ℕ). x * 2 ^ left + rest) s.1 ∙ omega arith in
            rw (depth, index) refl);
      });
  whole = λ place from start depth index slot e holds short led full. record {
    read = 0;
    left = depth;
    place = place;
    at = from;
    path = start;
    ahead = inl (omega arith);
    split = omega arith;
    there = e;
    holds = holds;
    low = inr (
      refl,
      (let zero : start.index * 2 ^ depth ≡ 0 = ap (λ (x : ℕ). x * 2 ^ depth) (starts 0 place start e).1 ∙ omega arith in
          let some : 0 < 2 ^ depth = pow_pos depth in
          omega arith),
    );
    leads = led;
  };
}

pub starts_within : (rows : List (List (Option Path))) → AreStarts rows → AreWithinBits rows
starts_within rows starts read place path e = let some : 0 < 2 ^ read = pow_pos read in let zero = (starts read place path e).1 in omega arith

-- the index of a step is made without a loss
pub record StepMade (g r index value number : ℕ) : Type 0 where
  pub first : index * 2 ^ g % 2 ^ 64 ≡ index * 2 ^ g
  pub sum : index * 2 ^ g + value < 2 ^ 64
  pub second : (index * 2 ^ g + value) * 2 ^ r % 2 ^ 64 ≡ (index * 2 ^ g + value) * 2 ^ r
  pub total : (index * 2 ^ g + value) * 2 ^ r + number < 2 ^ 64

step_made : (read g r index value number : ℕ) → read + (g + r) ≤ 64 → index < 2 ^ read → value < 2 ^ g → number < 2 ^ r → StepMade g r index value number
step_made read g r index value number fits i v n =
    let a : index * 2 ^ g + value < 2 ^ (read + g) = taken_below read g index value i v in
    let b : (index * 2 ^ g + value) * 2 ^ r + number < 2 ^ (read + (g + r)) = longer_below read g r value index number i v n in
    let short : read + g ≤ 64 = omega arith in
    let most : 2 ^ (read + g) ≤ 2 ^ 64 = pow_mono {i = read + g} {j = 64} short in
    let most' : 2 ^ (read + (g + r)) ≤ 2 ^ 64 = pow_mono {i = read + (g + r)} {j = 64} fits in
    record {
      first = mod-eq_of_lt (omega arith);
      sum = omega arith;
      second = mod-eq_of_lt (omega arith);
      total = omega arith;
    }

pub path_made : (p : ProfileName) (from : Cap) (read index base radix number : ℕ) (guard : Guard) → from ≡ CNode base radix guard →
    (from ≡ Null) ⊎ IsLawful p (word_bits p) from → read + (guard.size + radix) ≤ word_bits p → index < 2 ^ read → number < 2 ^ radix →
    StepMade guard.size radix index guard.value number
path_made p from read index base radix number guard e lawful fits low n =
    let node = lawful_node p (word_bits p) base radix guard (rw e at lawful) in
    let most : word_bits p ≤ 64 = words_most p in
    step_made read guard.size radix index guard.value number (omega arith) low node.holds.cut n

pub step_is : (p : ProfileName) (from : Cap) (read : ℕ) (path : Path) (slot base radix number more : ℕ) (guard : Guard) → from ≡ CNode base radix guard →
    more ≡ read + (guard.size + radix) → more ≤ word_bits p → (number < 2 ^ radix) × (slot ≡ slot_of p base number) → StepMade guard.size radix path.index guard.value number →
    IsStep p from read path slot more (record { word = path.word; index = (path.index * 2 ^ guard.size % 2 ^ 64 + guard.value) * 2 ^ radix % 2 ^ 64 + number })
step_is p from read path slot base radix number more guard e bits fits is m = record {
  base = base;
  radix = radix;
  guard = guard;
  number = number;
  node = e;
  fits = omega arith;
  within = is.0;
  chosen = is.1;
  bits = bits;
  is = rw (m.first, m.second) refl;
}

pub step_only : (p : ProfileName) (from : Cap) (read : ℕ) (path : Path) (slot base radix number more : ℕ) (guard : Guard) (more' : ℕ) (next : Path) → from ≡ CNode base radix guard →
    (r : Option ℕ) → r ≡ Some number → ((i : ℕ) → i < 2 ^ radix → slot ≡ slot_of p base i → r ≡ Some i) → more ≡ read + (guard.size + radix) →
    StepMade guard.size radix path.index guard.value number → IsStep p from read path slot more' next →
    ◌≡◌ {A = Option (ℕ × Path)} (Some (more, record { word = path.word; index = (path.index * 2 ^ guard.size % 2 ^ 64 + guard.value) * 2 ^ radix % 2 ^ 64 + number })) (Some (more', next))
step_only p from read path slot base radix number more guard more' next e r is each bits m s =
    let same : CNode base radix guard ≡ CNode s.base s.radix s.guard = sym e ∙ s.node in
    let base' : s.base ≡ base = cc in
    let radix' : s.radix ≡ radix = cc in
    let guard' : s.guard ≡ guard = cc in
    let found : r ≡ Some s.number = each s.number (rw radix' at s.within) (rw base' at s.chosen) in
    let number' : s.number ≡ number = cc in
    let more_is : more' ≡ more = rw (guard', radix') at s.bits ∙ sym bits in
    let next_is : next ≡ record { word = path.word; index = (path.index * 2 ^ guard.size + guard.value) * 2 ^ radix + number } = rw (guard', radix', number') at s.is in
    rw (m.first, m.second, more_is, next_is) refl
