-- The list of what a search found.
use Rattle.std.proofs.Common.{◌≡◌, ℕ, ◌+◌, ◌%◌, ◌^◌, ◌<◌, ◌≤◌, ◌⊎◌, inl, inr, refl, sym, ap, ◌∙◌, arith, Bool, true, false, ◌==◌, ◌&&◌, ◌≢◌, List, [], ◌∷◌, ◌++◌, length, map, get_or, Option, Some, None, Ok, Err}
use Rattle.std.specs.List.{slice_get, Contains, AllPairs, Any}
use Rattle.std.proofs.lemmas.Bool.{cases_eq, cases_lt, eqb-true}
use Rattle.std.proofs.lemmas.List.Elements.{Contains-append_left, Contains-push, Contains-push_cases, Contains-get_or}
use Rattle.std.proofs.lemmas.Map.Keys.{Less-from_sorted}
use Rattle.std.specs.Cmp.{ranked}
use Rattle.std.proofs.Common.{Ordering, Less, Equal, Greater}
use Rattle.std.specs.Ordering.{ordering_then, nat_cmp}
use Rattle.std.specs.List.Sorted.{IsStrictlySortedBy}
use Rattle.cap_core.specs.declared.profile.ProfileName.{ProfileName}
use Rattle.cap_core.specs.declared.capability.Cap.TheVariants.{Null}
use Rattle.cap_core.specs.Numbers.{word_bits}
use Rattle.kernel_forest.specs.Forest.{Forest}
use Rattle.kernel_forest.specs.Entries.{Entry, cap_at, is_full}
use Rattle.query_reach.specs.Reaching.{leads, Reaches}
use Rattle.query_reach.specs.Private.Nodes.{found_from}
use Rattle.query_reach.specs.FullSlots.{AreFullSlots, AreRising}
use Rattle.query_reach.specs.Private.Search.{IsBounded, EntryStandsFor, IsSearch}
use Rattle.query_reach.proofs.Searched.{within_rows, entered}
use Rattle.query_reach.proofs.FullSlots.{empty_is_null}
use Rattle.std.proofs.Math.Nat.{mod-eq_of_lt}
use Rattle.cap_core.specs.declared.profile.ProfileName.TheVariants.{Wide, Narrow}
use Rattle.cap_core.specs.declared.capability.Cap.{Cap}
use Rattle.cap_core.specs.declared.refusal.LookupFault.TheVariants.{InvalidRoot}
use Rattle.cspace_core.specs.Bits.{low_bits}
use Rattle.cspace_core.specs.Resolution.{resolution, resolution_within}
use Rattle.kernel_abstract.specs.Lookups.{slot_found}
use Rattle.query_reach.specs.declared.filled.FullSlot.{FullSlot}
use Rattle.query_reach.specs.declared.reached.Reached.{Reached}
use Rattle.query_reach.specs.Private.Tables.{word_in, left_row, word_at, IsFirstTable}
use Rattle.query_reach.specs.Lists.{AreReached}
use Rattle.query_reach.specs.Private.Rows.{IsFoundInRows}

pub found_only : (row : List (Option ℕ)) (filled : List FullSlot) (place : ℕ) (at : FullSlot) (word : ℕ) (list : List Reached) → slice_get filled place ≡ Some at → word_in row place ≡ Some word →
    ((r : Reached) → Contains list r → IsFoundInRows row filled r) → (r : Reached) → Contains (list ++ (record { word = word; slot = at.address }) ∷ []) r → IsFoundInRows row filled r
found_only row filled place at word list holds is only r h =
    let new : Reached = record { word = word; slot = at.address } in
    elim (Contains-push_cases list new r h) [
      | inl old ↦ only r old
      | inr same ↦ rw (← same) (record { place = place; at = at; holds = holds; word = is; slot = refl })
    ]

pub found_more : (row : List (Option ℕ)) (filled : List FullSlot) (place : ℕ) (at : FullSlot) (word : ℕ) (list : List Reached) → slice_get filled place ≡ Some at → word_in row place ≡ Some word →
    ((r : Reached) (is : IsFoundInRows row filled r) → is.place < place → Contains list r) →
    (r : Reached) (is : IsFoundInRows row filled r) → is.place < place + 1 → Contains (list ++ (record { word = word; slot = at.address }) ∷ []) r
found_more row filled place at word list holds had all r is low =
    let new : Reached = record { word = word; slot = at.address } in
    elim (cases_eq is.place place) [
      | inr ne ↦ Contains-append_left list (new ∷ []) r (all r is (omega arith))
      | inl e ↦ (let here : slice_get filled place ≡ Some is.at = rw e at is.holds in
          let here' : word_in row place ≡ Some r.word = rw e at is.word in
          let at' : at ≡ is.at = cc in
          let word' : word ≡ r.word = cc in
          let slot' : at.address ≡ r.slot = ap (λ (u : FullSlot). u.address) at' ∙ sym is.slot in
          let same : new ≡ r = ap (λ (w : ℕ). made w at.address) word' ∙ ap (made r.word) slot' in
          rw (← same) (Contains-push list new))
    ]
  where
    made : ℕ → ℕ → Reached
    made w s = record { word = w; slot = s }

pub found_skip : (row : List (Option ℕ)) (filled : List FullSlot) (place : ℕ) (list : List Reached) → word_in row place ≡ None →
    ((r : Reached) (is : IsFoundInRows row filled r) → is.place < place → Contains list r) →
    (r : Reached) (is : IsFoundInRows row filled r) → is.place < place + 1 → Contains list r
found_skip row filled place list none all r is low = elim (cases_eq is.place place) [
  | inr ne ↦ all r is (omega arith)
  | inl e ↦ (let here : word_in row place ≡ Some r.word = rw e at is.word in cc)
]

-- what a search found, in its order
less_then : (a b s t : ℕ) → ordering_then (nat_cmp a b) (nat_cmp s t) ≡ Less → (a < b) ⊎ ((a ≡ b) × (s < t))
less_then a b s t e = by_first (nat_cmp a b) refl e
  where
    second : (o : Ordering) → o ≡ nat_cmp s t → o ≡ Less → s < t
    second Less is e = ranked s t Less is
    second Equal is e = cc
    second Greater is e = cc

    by_first : (o : Ordering) → o ≡ nat_cmp a b → ordering_then o (nat_cmp s t) ≡ Less → (a < b) ⊎ ((a ≡ b) × (s < t))
    by_first Less is e = inl (ranked a b Less is)
    by_first Equal is e = inr (ranked a b Equal is, second (nat_cmp s t) refl e)
    by_first Greater is e = cc

-- entries that are the same in both fields
same_entry : (a b : Reached) → a.word ≡ b.word → a.slot ≡ b.slot → a ≡ b
same_entry a b w s = ap (λ (x : ℕ). made x a.slot) w ∙ ap (made b.word) s
  where
    made : ℕ → ℕ → Reached
    made w s = record { word = w; slot = s }

-- a row of a search whose other rows are empty
record Ends (p : ProfileName) (f : Forest Entry) (thread : ℕ) (filled : List FullSlot) (row : List (Option ℕ)) : Type 0 where
  sound : (r : Reached) → IsFoundInRows row filled r → (r.word < 2 ^ word_bits p) × Reaches p f thread r.word r.slot
  whole : (word slot : ℕ) → word < 2 ^ word_bits p → Reaches p f thread word slot → (r : Reached) × (IsFoundInRows row filled r × ((r.slot ≡ slot) × (r.word ≤ word)))

ends : (p : ProfileName) (f : Forest Entry) (thread : ℕ) (filled : List FullSlot) (rows : List (List (Option ℕ))) → AreFullSlots f filled → length rows ≡ 1 → IsBounded p rows →
    IsSearch p f thread filled rows → Ends p f thread filled (left_row rows 0)
ends p f thread filled rows are one bounded is = record {
  sound = λ r found. (
      let low : r.word + 2 ^ 0 ≤ 2 ^ word_bits p = bounded 0 found.place r.word found.word in
      let led : leads p f thread (r.word + 0) ≡ Ok found.at.address = is.sound 0 found.place r.word found.at found.word found.holds 0 (omega arith) in
      let zero_more : r.word + 0 ≡ r.word = omega arith in
      let led' : leads p f thread r.word ≡ Ok found.at.address = rw zero_more at led in
      (omega arith, record { leads = rw found.slot led'; full = rw found.slot (are.full found.place found.at found.holds) }));
  whole = λ word slot low reaches. whole_at word slot (is.whole word slot low reaches);
}
  where
    whole_at : (word slot : ℕ) → EntryStandsFor p f filled rows word slot → (r : Reached) × (IsFoundInRows (left_row rows 0) filled r × ((r.slot ≡ slot) × (r.word ≤ word)))
    whole_at word slot st =
        let inside : st.left < length rows = within_rows rows st.left st.place st.least st.noted in
        let none : st.left ≡ 0 = omega arith in
        let noted : word_at rows 0 st.place ≡ Some st.least = rw none at st.noted in
        let led : found_from p f 0 st.at.address word ≡ Ok slot = rw none at st.leads in
        let there : st.at.address ≡ slot = cc in
        (record { word = st.least; slot = st.at.address }, (record { place = st.place; at = st.at; holds = st.holds; word = noted; slot = refl }, (there, omega (arith, st.low))))

pub are_reached : (p : ProfileName) (f : Forest Entry) (thread : ℕ) (filled : List FullSlot) (rows : List (List (Option ℕ))) (found put : List Reached) → AreFullSlots f filled → AreRising filled →
    length rows ≡ 1 → IsBounded p rows → IsSearch p f thread filled rows →
    ((r : Reached) → Contains found r → IsFoundInRows (left_row rows 0) filled r) → ((r : Reached) → IsFoundInRows (left_row rows 0) filled r → Contains found r) →
    ((r : Reached) → Contains found r → (s : Reached) × (Contains put s × ((r.word ≡ s.word) × (r.slot ≡ s.slot)))) → ((r : Reached) → Contains put r → Contains found r) →
    IsStrictlySortedBy (λ (a b : Reached). ordering_then (nat_cmp a.word b.word) (nat_cmp a.slot b.slot)) put → AreReached p f thread put
are_reached p f thread filled rows found put are up one bounded is only all kept none_new order = record {
  sound = λ r h. end.sound r (only r (none_new r h));
  whole = λ word slot low reaches. (let w = among word slot low reaches in (w.0, (w.1.0, w.1.1.0)));
  least = λ r h word low reaches. (
      let w = end.whole word r.slot low reaches in
      let here = only r (none_new r h) in
      let there = w.1.0 in
      let same : here.at.address ≡ there.at.address = sym here.slot ∙ (sym w.1.1.0 ∙ there.slot) in
      let place : here.place ≡ there.place = one_place here.place there.place here.at there.at here.holds there.holds same in
      let found' : word_in (left_row rows 0) there.place ≡ Some r.word = rw place at here.word in
      let word' : r.word ≡ w.0.word = (let other : word_in (left_row rows 0) there.place ≡ Some w.0.word = there.word in cc) in
      omega (arith, word', w.1.1.1));
  once = λ i j d less within same. (
      let rise = rising i j d less within in
      let a : Reached = get_or put i d in
      let b : Reached = get_or put j d in
      let ca : Contains put a = Contains-get_or put i d (omega arith) in
      let cb : Contains put b = Contains-get_or put j d within in
      let fa = only a (none_new a ca) in
      let fb = only b (none_new b cb) in
      let there : fa.at.address ≡ fb.at.address = sym fa.slot ∙ (same ∙ fb.slot) in
      let place : fa.place ≡ fb.place = one_place fa.place fb.place fa.at fb.at fa.holds fb.holds there in
      let wa : word_in (left_row rows 0) fb.place ≡ Some a.word = rw place at fa.word in
      let wb : word_in (left_row rows 0) fb.place ≡ Some b.word = fb.word in
      let word : a.word ≡ b.word = cc in
      omega (arith, rise, word));
  rising = rising;
}
  where
    end : Ends p f thread filled (left_row rows 0)
    end = ends p f thread filled rows are one bounded is

    among : (word slot : ℕ) → word < 2 ^ word_bits p → Reaches p f thread word slot → (r : Reached) × (Contains put r × ((r.slot ≡ slot) × (r.word ≤ word)))
    among word slot low reaches =
        let w = end.whole word slot low reaches in
        let k = kept w.0 (all w.0 w.1.0) in
        (k.0, (k.1.0, (sym k.1.1.1 ∙ w.1.1.0, (let e = k.1.1.0 in let l = w.1.1.1 in omega arith))))

    one_place : (j k : ℕ) (u v : FullSlot) → slice_get filled j ≡ Some u → slice_get filled k ≡ Some v → u.address ≡ v.address → j ≡ k
    one_place j k u v hj hk e = elim (cases_lt j k) [
      | inl less ↦ absurd (let l = up j k u v less hj hk in omega arith)
      | inr more ↦ elim (cases_lt k j) [
        | inl less ↦ absurd (let l = up k j v u less hk hj in omega arith)
        | inr more' ↦ omega arith
      ]
    ]

    rising : AllPairs (λ (a b : Reached). a.word < b.word) put
    rising i j d less within =
        let a : Reached = get_or put i d in
        let b : Reached = get_or put j d in
        let ca : Contains put a = Contains-get_or put i d (omega arith) in
        let cb : Contains put b = Contains-get_or put j d within in
        elim (less_then a.word b.word a.slot b.slot (Less-from_sorted _ put i j d order less within)) [
          | inl below ↦ below
          | inr equal ↦ absurd (let la = (end.sound a (only a (none_new a ca))).1.leads in
              let lb = (end.sound b (only b (none_new b cb))).1.leads in
              let lb' : leads p f thread a.word ≡ Ok b.slot = rw (equal.0) lb in
              let same : a.slot ≡ b.slot = cc in
              let l = equal.1 in
              omega arith)
        ]

-- a thread without a root capability reaches nothing
null_root : (p : ProfileName) (cap_in : ℕ → Cap) (bits : List ℕ) → slot_found (resolution p cap_in Null bits) ≡ Err InvalidRoot
unfolding resolution resolution_within
null_root p cap_in bits = refl

none_led : (p : ProfileName) (f : Forest Entry) (thread word slot : ℕ) → cap_at f thread ≡ Null → Reaches p f thread word slot → ⊥
none_led p f thread word slot e reaches =
    let fault : leads p f thread word ≡ Err InvalidRoot = rw e (null_root p (cap_at f) (low_bits (word_bits p) word)) in
    let led : leads p f thread word ≡ Ok slot = reaches.leads in
    cc

pub none_reached : (p : ProfileName) (f : Forest Entry) (thread : ℕ) → cap_at f thread ≡ Null → AreReached p f thread []
none_reached p f thread e = record {
  sound = λ r h. absurd (let within = h.1 in omega arith);
  whole = λ word slot low reaches. absurd (none_led p f thread word slot e reaches);
  least = λ r h word low reaches. absurd (none_led p f thread word r.slot e reaches);
  once = λ i j d less within. absurd (omega arith);
  rising = λ i j d less within. absurd (omega arith);
}

pub root_null : (f : Forest Entry) (thread : ℕ) (filled : List FullSlot) → AreFullSlots f filled → ((k : ℕ) (u : FullSlot) → slice_get filled k ≡ Some u → u.address ≢ thread) → cap_at f thread ≡ Null
root_null f thread filled are none = elim (is_full thread f) as (λ t. is_full thread f ≡ t → cap_at f thread ≡ Null) [
  | true ↦ λ e. (let found = are.all thread e in absurd (none found.0 found.1.0 found.1.1.0 found.1.1.1))
  | false ↦ λ e. empty_is_null f thread e
] refl

-- the table that a search starts from is one
bits_some : (p : ProfileName) → 0 < word_bits p
bits_some Wide = omega arith
bits_some Narrow = omega arith

pub first_search : (p : ProfileName) (f : Forest Entry) (thread width root : ℕ) (filled : List FullSlot) (rows : List (List (Option ℕ))) (at : FullSlot) → IsFirstTable (word_bits p) width root rows →
    slice_get filled root ≡ Some at → at.address ≡ thread → IsSearch p f thread filled rows
first_search p f thread width root filled rows at first holds here = record {
  sound = λ t k w u e is rest low. (
      let o = first.only t k w e in
      let is' : slice_get filled root ≡ Some u = rw o.1.0 at is in
      let same : at ≡ u = cc in
      let thread_is : u.address ≡ thread = sym (ap (λ (x : FullSlot). x.address) same) ∙ here in
      let plain : 0 + rest ≡ rest = omega arith in
      rw (o.0, o.1.1, thread_is, plain) (sym (entered p f (word_bits p) thread rest (bits_some p))));
  whole = λ word slot low reaches. record {
    left = word_bits p;
    place = root;
    least = 0;
    at = at;
    noted = first.there;
    holds = holds;
    low = (let cut : word % 2 ^ word_bits p ≡ word = mod-eq_of_lt low in omega arith);
    leads = rw here (entered p f (word_bits p) thread word (bits_some p) ∙ reaches.leads);
  };
}

-- an entry that is the same by its fields
both_true : (a b : Bool) → (a && b) ≡ true → (a ≡ true) × (b ≡ true)
both_true true b e = (refl, e)
both_true false b e = cc

pub any_same : (r : Reached) (put : List Reached) → Any (λ (y : Reached). ((r.word == y.word) && (r.slot == y.slot)) ≡ true) put →
    (s : Reached) × (Contains put s × ((r.word ≡ s.word) × (r.slot ≡ s.slot)))
any_same r put h =
    let s : Reached = h.1 in
    let both = both_true (r.word == s.word) (r.slot == s.slot) h.4 in
    (s, ((h.0, h.2, h.3), (eqb-true r.word s.word both.0, eqb-true r.slot s.slot both.1)))

-- the row of a table that has one
pub only_row : {A : Type 0} (items : A → List (Option ℕ)) (rows : List A) (row : A) → length rows ≡ 1 → row ≡ get_or rows 0 row → items row ≡ left_row (map items rows) 0
only_row items [] row one e = absurd (omega arith)
only_row items (first ∷ rows) row one e = ap items e
