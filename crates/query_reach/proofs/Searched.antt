-- One row of a search: what its entries lead to takes their place.
use Rattle.std.proofs.Common.{◌≡◌, ℕ, zero, suc, ◌+◌, ◌-◌, ◌*◌, ◌/◌, ◌%◌, ◌^◌, ◌<◌, ◌≤◌, ◌⊎◌, inl, inr, refl, sym, ap, ◌∙◌, arith, Bool, true, false, cond, ◌==◌, ◌||◌, List, [], ◌∷◌, ◌++◌, length, length-append, map, Option, Some, None, unwrap_or, Ok}
use Rattle.std.specs.List.{slice_get, list_any}
use Rattle.std.proofs.lemmas.Bool.{cases_lt}
use Rattle.std.proofs.lemmas.Nat.{pow_pos, mod_below}
use Rattle.std.proofs.lemmas.Option.{slice_get_within, slice_get_past}
use Rattle.std.proofs.lemmas.List.{map-append}
use Rattle.std.proofs.Math.Nat.{mod-eq_of_lt}
use Rattle.cap_core.specs.declared.profile.ProfileName.{ProfileName}
use Rattle.cap_core.specs.declared.capability.Cap.{Cap}
use Rattle.cap_core.specs.declared.capability.Cap.TheVariants.{Null, CNode}
use Rattle.cap_core.specs.Numbers.{word_bits}
use Rattle.cap_core.specs.Objects.{IsLawful}
use Rattle.kernel_forest.specs.Forest.{Forest, preorder}
use Rattle.kernel_forest.specs.Entries.{Entry, cap_in, cap_at, is_at, is_full}
use Rattle.cspace_core.specs.Bits.{low_bits}
use Rattle.cspace_core.specs.Resolution.{is_cnode, slot_of, resolution}
use Rattle.cspace_core.proofs.Bits.{low_bits-mod}
use Rattle.cspace_core.proofs.Nodes.{lawful_node}
use Rattle.kernel_abstract.specs.Lookups.{slot_found}
use Rattle.query_reach.specs.declared.filled.FullSlot.{FullSlot}
use Rattle.query_reach.specs.Reaching.{leads}
use Rattle.query_reach.specs.Private.Nodes.{found_from, IsNext}
use Rattle.query_reach.specs.Private.Tables.{word_in, left_row, word_at, IsWideTable, IsAtMost}
use Rattle.query_reach.specs.FullSlots.{AreLawful, AreFullSlots}
use Rattle.query_reach.specs.Private.Search.{RowLeads, RowSpreads, IsBounded, EntryStandsFor, IsSearch}
use Rattle.query_reach.proofs.Numbers.{taken_below, word_below, guard_read, index_read, rest_read, word_made}
use Rattle.query_reach.proofs.Resolved.{from_node, LeadsOn, leads_on, leading}
use Rattle.query_reach.proofs.NextWords.{next_made}

-- a slot that holds a CNode is full
or_later : (t : Bool) (a b : Cap) (rest : Bool) → (is_cnode b ≡ true → rest ≡ true) → is_cnode (cond t a b) ≡ true → (t || rest) ≡ true
or_later true a b rest h e = refl
or_later false a b rest h e = h e

node_in : (slot : ℕ) (es : List Entry) → is_cnode (cap_in slot es) ≡ true → list_any (is_at slot) es ≡ true
node_in slot [] e = cc
node_in slot (e ∷ es) is = or_later (e.slot == slot) e.cap (cap_in slot es) (list_any (is_at slot) es) (node_in slot es) is

pub node_is_full : (f : Forest Entry) (slot : ℕ) → is_cnode (cap_at f slot) ≡ true → is_full slot f ≡ true
node_is_full f slot e = node_in slot (preorder f) e

-- what is entered with some bits is resolved with them
pub entered : (p : ProfileName) (f : Forest Entry) (left slot word : ℕ) → 0 < left →
    found_from p f left slot word ≡ slot_found (resolution p (cap_at f) (cap_at f slot) (low_bits left word))
entered p f zero slot word h = absurd (omega arith)
entered p f (suc left) slot word h = refl

-- only the bits that are left count
goes_same : (p : ProfileName) (f : Forest Entry) (left slot a b : ℕ) → a % 2 ^ left ≡ b % 2 ^ left → found_from p f left slot a ≡ found_from p f left slot b
goes_same p f zero slot a b e = refl
goes_same p f (suc left) slot a b e =
    let within : suc left ≤ suc left = omega arith in
    let bits : low_bits (suc left) a ≡ low_bits (suc left) b =
    sym (low_bits-mod (suc left) (suc left) a within) ∙ (ap (low_bits (suc left)) e ∙ low_bits-mod (suc left) (suc left) b within) in
    ap (λ (l : List ℕ). slot_found (resolution p (cap_at f) (cap_at f slot) l)) bits

same_rest : (t : Bool) (m taken rest : ℕ) → rest < 2 ^ cond t m 0 → (taken * 2 ^ m + rest) % 2 ^ cond t m 0 ≡ rest % 2 ^ cond t m 0
same_rest true m taken rest h = rest_read m taken rest h ∙ sym (mod-eq_of_lt h)
same_rest false m taken rest h = omega arith

fewer : (t : Bool) (m : ℕ) → 2 ^ cond t m 0 ≤ 2 ^ m
fewer true m = omega arith
fewer false m = let some : 0 < 2 ^ m = pow_pos m in omega arith

fewer_left : (t : Bool) (m word : ℕ) → word % 2 ^ cond t m 0 ≤ word % 2 ^ m
fewer_left true m word = omega arith
fewer_left false m word = omega arith

-- the next word leads on where its entry led
record Before (p : ProfileName) (f : Forest Entry) (holder left word slot more next rest : ℕ) : Type 0 where
  behind : ℕ
  below : behind < 2 ^ left
  sum : next + rest ≡ word + behind
  leads : found_from p f left holder behind ≡ found_from p f more slot rest

before : (p : ProfileName) (memory : ℕ) (f : Forest Entry) → ((s : ℕ) → (cap_at f s ≡ Null) ⊎ IsLawful p memory (cap_at f s)) →
    (holder left word slot more next : ℕ) → IsNext p (cap_at f holder) left word slot (cap_at f slot) more next →
    (rest : ℕ) → rest < 2 ^ more → Before p f holder left word slot more next rest
before p memory f all holder left word slot more next n rest low =
    let g : ℕ = n.guard.size in
    let m : ℕ = left - (g + n.radix) in
    let taken : ℕ = n.guard.value * 2 ^ n.radix + n.index in
    let t : Bool = is_cnode (cap_at f slot) in
    let lawful : (CNode n.base n.radix n.guard ≡ Null) ⊎ IsLawful p memory (CNode n.base n.radix n.guard) = rw n.node at (all holder) in
    let node = lawful_node p memory n.base n.radix n.guard lawful in
    let some : 1 ≤ n.radix = node.holds.some in
    let fits : g + n.radix ≤ left = n.fits in
    let few : rest < 2 ^ cond t m 0 = rw n.bits at low in
    let short : rest < 2 ^ m = omega (arith, few, fewer t m) in
    let back : (g + n.radix) + m ≡ left = omega arith in
    let below : taken * 2 ^ m + rest < 2 ^ left =
    rw back at (word_below (g + n.radix) m taken rest (taken_below g n.radix n.guard.value n.index node.holds.cut n.within) short) in
    let above : m + n.radix ≡ left - g = omega arith in
    let begins : (taken * 2 ^ m + rest) / 2 ^ (left - g) % 2 ^ g ≡ n.guard.value =
    rw above at (guard_read g n.radix m n.guard.value n.index rest node.holds.cut n.within short) in
    let same_m : left - g - n.radix ≡ m = omega arith in
    let on = from_node p memory f all n.base n.radix left (taken * 2 ^ m + rest) n.guard lawful (omega arith) (omega arith) begins in
    let there : slot_of p n.base ((taken * 2 ^ m + rest) / 2 ^ m % 2 ^ n.radix) ≡ slot =
    ap (slot_of p n.base) (index_read n.radix m n.guard.value n.index rest n.within short) ∙ sym n.chosen in
    let on' : slot_found (resolution p (cap_at f) (cap_at f holder) (low_bits left (taken * 2 ^ m + rest))) ≡ found_from p f (cond t m 0) slot (taken * 2 ^ m + rest) =
    rw n.node (rw (same_m, there) at on) in
    let whole : found_from p f left holder (taken * 2 ^ m + rest) ≡ found_from p f (cond t m 0) slot rest =
    entered p f left holder (taken * 2 ^ m + rest) (omega arith) ∙ (on' ∙ goes_same p f (cond t m 0) slot (taken * 2 ^ m + rest) rest (same_rest t m taken rest few)) in
    record {
      behind = taken * 2 ^ m + rest;
      below = below;
      sum = rw n.word (omega arith);
      leads = rw n.bits whole;
    }

-- and a word that leads from an entry to a full slot leads through one of its next words
record Through (p : ProfileName) (f : Forest Entry) (holder left least word slot : ℕ) : Type 0 where
  there : ℕ
  more : ℕ
  next : ℕ
  full : is_full there f ≡ true
  is : IsNext p (cap_at f holder) left least there (cap_at f there) more next
  low : next + word % 2 ^ more ≤ word
  leads : found_from p f more there word ≡ Ok slot

full_where : (p : ProfileName) (f : Forest Entry) (there m word slot : ℕ) (t : Bool) → is_cnode (cap_at f there) ≡ t →
    found_from p f (cond t m 0) there word ≡ Ok slot → is_full slot f ≡ true → is_full there f ≡ true
full_where p f there m word slot true e is full = node_is_full f there e
full_where p f there m word slot false e is full =
    let same : there ≡ slot = cc in
    rw same full

through_node : (p : ProfileName) (f : Forest Entry) (holder left least word slot : ℕ) →
    is_full slot f ≡ true → least + word % 2 ^ left ≤ word → LeadsOn p f (cap_at f holder) left word slot → Through p f holder left least word slot
through_node p f holder left least word slot full low (leads_on base radix guard node long enough begins on) =
    let g : ℕ = guard.size in
    let m : ℕ = left - g - radix in
    let index : ℕ = word / 2 ^ m % 2 ^ radix in
    let there : ℕ = slot_of p base index in
    let t : Bool = is_cnode (cap_at f there) in
    let same_m : left - (g + radix) ≡ m = omega arith in
    let back : (g + radix) + m ≡ left = omega arith in
    let above : left - g ≡ m + radix = omega arith in
    let made : word % 2 ^ left ≡ (guard.value * 2 ^ radix + index) * 2 ^ m + word % 2 ^ m =
    rw back at (word_made g radix m guard.value word (rw above at begins)) in
    let fewer' : word % 2 ^ cond t m 0 ≤ word % 2 ^ m = fewer_left t m word in
    record {
      there = there;
      more = cond t m 0;
      next = least + (guard.value * 2 ^ radix + index) * 2 ^ m;
      full = full_where p f there m word slot t refl on full;
      is = record {
        base = base;
        radix = radix;
        guard = guard;
        index = index;
        node = node;
        fits = omega arith;
        within = mod_below (word / 2 ^ m) (2 ^ radix) (pow_pos radix);
        chosen = refl;
        bits = rw same_m refl;
        word = rw same_m refl;
      };
      low = omega (arith, low, made, fewer');
      leads = on;
    }

through : (p : ProfileName) (memory : ℕ) (f : Forest Entry) → ((s : ℕ) → (cap_at f s ≡ Null) ⊎ IsLawful p memory (cap_at f s)) →
    (holder left least word slot : ℕ) → 0 < left → found_from p f left holder word ≡ Ok slot → is_full slot f ≡ true → least + word % 2 ^ left ≤ word →
    Through p f holder left least word slot
through p memory f all holder left least word slot some is full low =
    through_node p f holder left least word slot full low
    (leading p memory f all (cap_at f holder) left word slot (all holder) (sym (entered p f left holder word some) ∙ is))

-- the rows below a row, and that row
front_row : (rows more : List (List (Option ℕ))) (t : ℕ) → t < length rows → slice_get (rows ++ more) t ≡ slice_get rows t
front_row [] more t h = absurd (omega arith)
front_row (row ∷ rows) more zero h = refl
front_row (row ∷ rows) more (suc t) h = front_row rows more t (omega arith)

last_row : (rows : List (List (Option ℕ))) (row : List (Option ℕ)) → slice_get (rows ++ row ∷ []) (length rows) ≡ Some row
last_row [] row = refl
last_row (first ∷ rows) row = last_row rows row

pub within_rows : (rows : List (List (Option ℕ))) (t k w : ℕ) → word_at rows t k ≡ Some w → t < length rows
within_rows rows t k w e = elim (cases_lt t (length rows)) [
  | inl h ↦ h
  | inr past ↦ (let none : slice_get rows t ≡ None = slice_get_past rows t past in
      let row : left_row rows t ≡ [] = ap (λ (o : Option (List (Option ℕ))). unwrap_or o []) none in
      let word : word_at rows t k ≡ None = ap (λ (r : List (Option ℕ)). word_in r k) row in
      cc)
]

front_word : (rows : List (List (Option ℕ))) (row : List (Option ℕ)) (t k : ℕ) → t < length rows → word_at (rows ++ row ∷ []) t k ≡ word_at rows t k
front_word rows row t k h = ap (λ (o : Option (List (Option ℕ))). word_in (unwrap_or o []) k) (front_row rows (row ∷ []) t h)

last_word : (rows : List (List (Option ℕ))) (row : List (Option ℕ)) (k : ℕ) → word_at (rows ++ row ∷ []) (length rows) k ≡ word_in row k
last_word rows row k = ap (λ (o : Option (List (Option ℕ))). word_in (unwrap_or o []) k) (last_row rows row)

-- a table stays within the words of the machine
pub bounded_more : (p : ProfileName) (filled : List FullSlot) (rows rows' : List (List (Option ℕ))) (row : List (Option ℕ)) (count : ℕ) → AreLawful p filled →
    length rows ≤ word_bits p → IsBounded p (rows ++ row ∷ []) → RowSpreads p row (length rows) filled count rows rows' → IsBounded p rows'
bounded_more p filled rows rows' row count lawful short bounded s t k w e = elim (s.only t k w e) [
  | inl old ↦ bounded t k w (front_word rows row t k (within_rows rows t k w old) ∙ old)
  | inr new ↦ (let n = new.1.next.1.1 in
      let was : new.1.word + 2 ^ length rows ≤ 2 ^ word_bits p = bounded (length rows) new.0 new.1.word (last_word rows row new.0 ∙ new.1.entered) in
      let m = next_made p (word_bits p) new.1.from.cap (length rows) new.1.word n.base n.radix n.index n.guard n.node (lawful new.0 new.1.from new.1.holds) short was n.fits n.within in
      let less : 2 ^ cond (is_cnode new.1.next.0.cap) (length rows - (n.guard.size + n.radix)) 0 ≤ 2 ^ (length rows - (n.guard.size + n.radix)) =
      fewer (is_cnode new.1.next.0.cap) (length rows - (n.guard.size + n.radix)) in
      rw (n.bits, n.word) (omega (arith, m.ends, was, less)))
]

-- a row's entries are replaced by what they lead to
sound_more : (p : ProfileName) (memory : ℕ) (f : Forest Entry) (thread : ℕ) (filled : List FullSlot) (rows rows' : List (List (Option ℕ))) (row : List (Option ℕ)) (count : ℕ) →
    ((s : ℕ) → (cap_at f s ≡ Null) ⊎ IsLawful p memory (cap_at f s)) → AreFullSlots f filled →
    IsSearch p f thread filled (rows ++ row ∷ []) → RowSpreads p row (length rows) filled count rows rows' →
    (t k w : ℕ) (u : FullSlot) → word_at rows' t k ≡ Some w → slice_get filled k ≡ Some u →
    (rest : ℕ) → rest < 2 ^ t → leads p f thread (w + rest) ≡ found_from p f t u.address rest
sound_more p memory f thread filled rows rows' row count all are was s t k w u e is rest low = elim (s.only t k w e) [
  | inl old ↦ was.sound t k w u (front_word rows row t k (within_rows rows t k w old) ∙ old) is rest low
  | inr new ↦ (let next = new.1.next in
      let same : next.0 ≡ u = (let found : slice_get filled k ≡ Some next.0 = next.1.0 in cc) in
      let from_is : new.1.from.cap ≡ cap_at f new.1.from.address = are.holds new.0 new.1.from new.1.holds in
      let to_is : u.cap ≡ cap_at f u.address = are.holds k u is in
      let n : IsNext p (cap_at f new.1.from.address) (length rows) new.1.word u.address (cap_at f u.address) t w = rw (same, from_is, to_is) at next.1.1 in
      let b = before p memory f all new.1.from.address (length rows) new.1.word u.address t w n rest low in
      let led : leads p f thread (new.1.word + b.behind) ≡ found_from p f (length rows) new.1.from.address b.behind =
      was.sound (length rows) new.0 new.1.word new.1.from (last_word rows row new.0 ∙ new.1.entered) new.1.holds b.behind b.below in
      rw b.sum (led ∙ b.leads))
]

whole_through : (p : ProfileName) (f : Forest Entry) (filled : List FullSlot) (rows rows' : List (List (Option ℕ))) (row : List (Option ℕ)) (left : ℕ) → AreFullSlots f filled →
    RowSpreads p row left filled (length filled) rows rows' → (word slot place least k : ℕ) (at to : FullSlot) →
    slice_get filled place ≡ Some at → word_in row place ≡ Some least → (th : Through p f at.address left least word slot) →
    slice_get filled k ≡ Some to → to.address ≡ th.there → EntryStandsFor p f filled rows' word slot
whole_through p f filled rows rows' row left are s word slot place least k at to holds entry th found there =
    let from_is : at.cap ≡ cap_at f at.address = are.holds place at holds in
    let to_is : to.cap ≡ cap_at f to.address = are.holds k to found in
    let n : IsNext p at.cap left least to.address to.cap th.more th.next = rw (from_is, to_is, there) th.is in
    let lead : RowLeads p row left filled place th.more k th.next = record { from = at; word = least; holds = holds; entered = entry; next = (to, (found, n)) } in
    let noted : IsAtMost rows' th.more k th.next = s.noted place th.more k th.next (slice_get_within filled place at holds) lead in
    record { left = th.more; place = k; least = noted.0; at = to; noted = noted.1.1; holds = found; low = omega (arith, noted.1.0, th.low); leads = rw there th.leads }

whole_last : (p : ProfileName) (memory : ℕ) (f : Forest Entry) (filled : List FullSlot) (rows rows' : List (List (Option ℕ))) (row : List (Option ℕ)) (left : ℕ) →
    ((s : ℕ) → (cap_at f s ≡ Null) ⊎ IsLawful p memory (cap_at f s)) → AreFullSlots f filled → 0 < left →
    RowSpreads p row left filled (length filled) rows rows' → (word slot place least : ℕ) (at : FullSlot) → is_full slot f ≡ true →
    slice_get filled place ≡ Some at → word_in row place ≡ Some least → found_from p f left at.address word ≡ Ok slot → least + word % 2 ^ left ≤ word →
    EntryStandsFor p f filled rows' word slot
whole_last p memory f filled rows rows' row left all are some s word slot place least at full holds entry goes low =
    let th = through p memory f all at.address left least word slot some goes full low in
    let found = are.all th.there th.full in
    whole_through p f filled rows rows' row left are s word slot place least found.0 at found.1.0 holds entry th found.1.1.0 found.1.1.1

whole_more : (p : ProfileName) (memory : ℕ) (f : Forest Entry) (filled : List FullSlot) (rows rows' : List (List (Option ℕ))) (row : List (Option ℕ)) →
    ((s : ℕ) → (cap_at f s ≡ Null) ⊎ IsLawful p memory (cap_at f s)) → AreFullSlots f filled → 0 < length rows →
    RowSpreads p row (length rows) filled (length filled) rows rows' → (word slot : ℕ) → is_full slot f ≡ true →
    EntryStandsFor p f filled (rows ++ row ∷ []) word slot → EntryStandsFor p f filled rows' word slot
whole_more p memory f filled rows rows' row all are some s word slot full st = elim (cases_lt st.left (length rows)) [
  | inl early ↦ (let kept = s.kept st.left st.place st.least (sym (front_word rows row st.left st.place early) ∙ st.noted) in
      record { left = st.left; place = st.place; least = kept.0; at = st.at; noted = kept.1.1; holds = st.holds; low = omega (arith, kept.1.0, st.low); leads = st.leads })
  | inr late ↦ (let inside : st.left < length (rows ++ row ∷ []) = within_rows (rows ++ row ∷ []) st.left st.place st.least st.noted in
      let last : st.left ≡ length rows = omega (arith, simp length-append at inside) in
      whole_last p memory f filled rows rows' row (length rows) all are some s word slot st.place st.least st.at full st.holds
      (sym (last_word rows row st.place) ∙ rw last at st.noted) (rw last at st.leads) (rw last at st.low))
]

pub search_more : (p : ProfileName) (memory : ℕ) (f : Forest Entry) (thread : ℕ) (filled : List FullSlot) (rows rows' : List (List (Option ℕ))) (row : List (Option ℕ)) →
    ((s : ℕ) → (cap_at f s ≡ Null) ⊎ IsLawful p memory (cap_at f s)) → AreFullSlots f filled → 0 < length rows →
    IsSearch p f thread filled (rows ++ row ∷ []) → RowSpreads p row (length rows) filled (length filled) rows rows' → IsSearch p f thread filled rows'
search_more p memory f thread filled rows rows' row all are some was s = record {
  sound = sound_more p memory f thread filled rows rows' row (length filled) all are was s;
  whole = λ word slot low reaches. whole_more p memory f filled rows rows' row all are some s word slot reaches.full (was.whole word slot low reaches);
}

-- what a table has to be, of the rows below its last one and of that one
pub popped_words : (p : ProfileName) (all rows : List (List (Option ℕ))) (row : List (Option ℕ)) → all ≡ rows ++ row ∷ [] → IsBounded p all →
    (k w : ℕ) → word_in row k ≡ Some w → w + 2 ^ length rows ≤ 2 ^ word_bits p
popped_words p all rows row e bounded k w is =
    let b : IsBounded p (rows ++ row ∷ []) = rw e at bounded in
    b (length rows) k w (last_word rows row k ∙ is)

pub popped_width : (all rows : List (List (Option ℕ))) (row : List (Option ℕ)) (n : ℕ) → all ≡ rows ++ row ∷ [] → IsWideTable n all → length row ≤ n
popped_width all rows row n e wide =
    let w : IsWideTable n (rows ++ row ∷ []) = rw e at wide in
    let last : left_row (rows ++ row ∷ []) (length rows) ≡ row = ap (λ (o : Option (List (Option ℕ))). unwrap_or o []) (last_row rows row) in
    let same : length (left_row (rows ++ row ∷ []) (length rows)) ≡ length row = ap length last in
    elim (w (length rows)) [ inl none ↦ omega (arith, same, none) | inr is ↦ omega (arith, same, is) ]

pub popped_wide : (all rows : List (List (Option ℕ))) (row : List (Option ℕ)) (n : ℕ) → all ≡ rows ++ row ∷ [] → IsWideTable n all → IsWideTable n rows
popped_wide all rows row n e wide t =
    let w : IsWideTable n (rows ++ row ∷ []) = rw e at wide in
    elim (cases_lt t (length rows)) [
      | inl h ↦ (let front : left_row (rows ++ row ∷ []) t ≡ left_row rows t = ap (λ (o : Option (List (Option ℕ))). unwrap_or o []) (front_row rows (row ∷ []) t h) in rw front at (w t))
      | inr past ↦ inl (ap length (ap (λ (o : Option (List (Option ℕ))). unwrap_or o []) (slice_get_past rows t past)))
    ]

pub popped : {A : Type 0} (items : A → List (Option ℕ)) (old new : List A) (row : A) → old ≡ new ++ row ∷ [] → map items old ≡ map items new ++ items row ∷ []
popped items old new row e = ap (map items) e ∙ map-append items new (row ∷ [])
