-- What the table of a search says of the slots that a thread holds.
use Rattle.std.proofs.Common.{◌≡◌, ◌≢◌, ℕ, ◌+◌, ◌*◌, ◌%◌, ◌^◌, ◌<◌, ◌≤◌, ◌⊎◌, inl, inr, refl, sym, ap, ◌∙◌, arith, Bool, true, false, cond, nat_le, ◌==◌, ◌&&◌, List, [], ◌∷◌, ◌++◌, length, get_or, Option, Some, None, Result, Ok, Err, unwrap_or, le-leb}
use Rattle.std.specs.Prelude.{IfSome, IfNone, is_some}
use Rattle.std.specs.List.{slice_get, Contains, Any, AllPairs}
use Rattle.std.specs.List.Sorted.{IsStrictlySortedBy}
use Rattle.std.specs.Ordering.{ordering_then, nat_cmp}
use Rattle.std.proofs.lemmas.Map.Keys.{Less-from_sorted}
use Rattle.std.specs.Cmp.{ranked}
use Rattle.std.proofs.Common.{Less, Equal, Greater, Ordering}
use Rattle.std.proofs.lemmas.Bool.{cases_eq, cases_lt, leb-true, leb-false, eqb-true}
use Rattle.std.proofs.lemmas.Option.{slice_get_within, slice_get_past}
use Rattle.std.proofs.lemmas.List.Elements.{Contains-append_left, Contains-push, Contains-push_cases, Contains-get_or}
use Rattle.cap_core.specs.declared.profile.ProfileName.{ProfileName}
use Rattle.cap_core.specs.declared.capability.Cap.TheVariants.{Null}
use Rattle.cap_core.specs.declared.refusal.LookupFault.{LookupFault}
use Rattle.cap_core.specs.declared.refusal.Refusal.{Refusal}
use Rattle.cap_core.specs.Numbers.{word_bits}
use Rattle.cap_core.specs.Objects.{IsLawful}
use Rattle.kernel_forest.specs.Forest.{Forest}
use Rattle.kernel_forest.specs.Entries.{Entry, cap_at, is_full}
use Rattle.cspace_core.specs.Bits.{low_bits}
use Rattle.cspace_core.specs.Resolution.{Found, is_cnode, resolution}
use Rattle.cspace_core.specs.Target.{target_slot, found_whole}
use Rattle.query_reach.specs.declared.filled.FullSlot.{FullSlot}
use Rattle.query_reach.specs.declared.held.Held.{Held}
use Rattle.query_reach.specs.declared.paths.Path.{Path}
use Rattle.query_reach.specs.declared.reached.Reached.{Reached}
use Rattle.query_reach.specs.FullSlots.{AreFullSlots, AreRising}
use Rattle.query_reach.specs.Reaching.{Reaches}
use Rattle.query_reach.specs.Lists.{AreReached}
use Rattle.query_reach.specs.Holding.{Names, IsUnreached, IsNoLater, IsEarlier, AreHeldSlots}
use Rattle.query_reach.specs.Private.Paths.{path_in, path_row, path_at, IsUpTo, AreWithinBits, IsFirstAt}
use Rattle.query_reach.specs.Private.Exploring.{whole_slot, target_from, IsSpaceExplored, AreStarts, StandsForIndex}
use Rattle.query_reach.specs.Private.Entries.{HasStarts, path_of, earlier, IsHeldAt, IsBest, IsListed, HasEntry}
use Rattle.query_reach.proofs.FullSlots.{one_place, got_contains, contains_got}
use Rattle.query_reach.specs.Private.Paths.{IsPut}
use Rattle.query_reach.proofs.Targets.{LeadsTo, leads_to, leading_to, entered_whole}

-- the slot of a call's index and depth, and of the search
node_of : (p : ProfileName) (f : Forest Entry) (slot depth index to : ℕ) → LeadsTo p f (cap_at f slot) depth index to → is_cnode (cap_at f slot) ≡ true
node_of p f slot depth index to (leads_to base radix guard node some long enough begins on) = rw node refl

whole_ok : (r : Result Found LookupFault) (slot : ℕ) → whole_slot r ≡ Some slot → found_whole r ≡ Ok slot
whole_ok (Err fault) slot e = cc
whole_ok (Ok found) slot e = by_left (found.left == 0) refl e
  where
    by_left : (t : Bool) → (found.left == 0) ≡ t → cond t (Some found.slot) None ≡ Some slot → found_whole (Ok found) ≡ Ok slot
    by_left true is e = let same : found.slot ≡ slot = cc in rw (is, same) refl
    by_left false is e = cc

ok_whole : (r : Result Found LookupFault) (slot : ℕ) → found_whole r ≡ Ok slot → whole_slot r ≡ Some slot
ok_whole (Err fault) slot e = cc
ok_whole (Ok found) slot e = by_left (found.left == 0) refl
  where
    by_left : (t : Bool) → (found.left == 0) ≡ t → whole_slot (Ok found) ≡ Some slot
    by_left true is = (let was : ◌≡◌ {A = Result ℕ Refusal} (Ok found.slot) (Ok slot) = rw is at e in let same : found.slot ≡ slot = cc in rw (is, same) refl)
    by_left false is = (let was = rw is at e in cc)

pub target_named : (p : ProfileName) (memory : ℕ) (f : Forest Entry) → ((s : ℕ) → (cap_at f s ≡ Null) ⊎ IsLawful p memory (cap_at f s)) →
    (holder depth index slot : ℕ) → 1 ≤ depth → depth ≤ word_bits p → target_from p f depth holder index ≡ Some slot →
    target_slot p (cap_at f) (cap_at f holder) index depth ≡ Ok slot
target_named p memory f all holder depth index slot some short e =
    let node : is_cnode (cap_at f holder) ≡ true = node_of p f holder depth index slot (leading_to p memory f all holder depth index slot (omega arith) e) in
    let found : found_whole (resolution p (cap_at f) (cap_at f holder) (low_bits depth index)) ≡ Ok slot =
    whole_ok (resolution p (cap_at f) (cap_at f holder) (low_bits depth index)) slot (sym (entered_whole p f depth holder index (omega arith)) ∙ e) in
    rw (node, le-leb 1 depth some, le-leb depth (word_bits p) short) found

pub record Targeted (p : ProfileName) (f : Forest Entry) (holder depth index slot : ℕ) : Type 0 where
  pub some : 1 ≤ depth
  pub short : depth ≤ word_bits p
  pub is : target_from p f depth holder index ≡ Some slot

pub named_target : (p : ProfileName) (f : Forest Entry) (holder depth index slot : ℕ) →
    target_slot p (cap_at f) (cap_at f holder) index depth ≡ Ok slot → Targeted p f holder depth index slot
named_target p f holder depth index slot e = by_node (is_cnode (cap_at f holder)) refl
  where
    by_most : (t : Bool) → nat_le depth (word_bits p) ≡ t → is_cnode (cap_at f holder) ≡ true → nat_le 1 depth ≡ true → Targeted p f holder depth index slot
    by_most true m n l =
        let some : 1 ≤ depth = leb-true 1 depth l in
        let short : depth ≤ word_bits p = leb-true depth (word_bits p) m in
        let found : found_whole (resolution p (cap_at f) (cap_at f holder) (low_bits depth index)) ≡ Ok slot = rw (n, l, m) at e in
        record {
          some = some;
          short = short;
          is = entered_whole p f depth holder index (omega arith) ∙ ok_whole (resolution p (cap_at f) (cap_at f holder) (low_bits depth index)) slot found;
        }
    by_most false m n l = (let none = rw (n, l, m) at e in cc)

    by_least : (t : Bool) → nat_le 1 depth ≡ t → is_cnode (cap_at f holder) ≡ true → Targeted p f holder depth index slot
    by_least true l n = by_most (nat_le depth (word_bits p)) refl n l
    by_least false l n = (let none = rw (n, l) at e in cc)

    by_node : (t : Bool) → is_cnode (cap_at f holder) ≡ t → Targeted p f holder depth index slot
    by_node true n = by_least (nat_le 1 depth) refl n
    by_node false n = (let none = rw n at e in cc)

-- a table within its rows
pub within_rows : (rows : List (List (Option Path))) (t k : ℕ) (w : Path) → path_at rows t k ≡ Some w → t < length rows
within_rows rows t k w e = elim (cases_lt t (length rows)) [
  | inl h ↦ h
  | inr past ↦ (let none : slice_get rows t ≡ None = slice_get_past rows t past in
      let row : path_row rows t ≡ [] = ap (λ (o : Option (List (Option Path))). unwrap_or o []) none in
      let path : path_at rows t k ≡ None = ap (λ (r : List (Option Path)). path_in r k) row in
      cc)
]

-- the paths that a list starts
pub starts_more : (filled : List FullSlot) (list : List Reached) (count place : ℕ) (rows new : List (List (Option Path))) (r : Reached) (u : FullSlot) → AreRising filled →
    slice_get list count ≡ Some r → slice_get filled place ≡ Some u → u.address ≡ r.slot → IsPut rows 0 place (record { word = r.word; index = 0 }) new →
    HasStarts filled list count rows → HasStarts filled list (count + 1) new
starts_more filled list count place rows new r u up here holds is put s = record {
  only = λ k path v e at. elim (put.only 0 k path e) [
    | inl old ↦ s.only k path v old at
    | inr new' ↦ (let k_is : k ≡ place = new'.1.0 in
        let same : u ≡ v = (let at' : slice_get filled place ≡ Some v = rw k_is at at in cc) in
        (r, (got_contains list count r here, (sym is ∙ ap (λ (x : FullSlot). x.address) same, sym (ap (λ (x : Path). x.word) new'.1.1)))))
  ];
  all = λ k at r' v low listed holds' is'. elim (cases_eq k count) [
    | inr ne ↦ (let was = s.all k at r' v (omega arith) listed holds' is' in
        let kept = put.kept 0 at was.0 was.1.0 in
        (kept.0, (kept.1.1, word_up kept.0 was.0 r'.word kept.1.0 was.1.1)))
    | inl e ↦ (let listed' : slice_get list count ≡ Some r' = rw e at listed in
        let same : r ≡ r' = cc in
        let slot : r.slot ≡ r'.slot = ap (λ (x : Reached). x.slot) same in
        let place' : at ≡ place = one_place filled up at place v u holds' holds (is' ∙ (sym slot ∙ sym is)) in
        let word : r.word ≡ r'.word = ap (λ (x : Reached). x.word) same in
        (put.there.0, (rw place' put.there.1.1, word_up put.there.0 (record { word = r.word; index = 0 }) r'.word put.there.1.0 (omega arith))))
  ];
}
  where
    word_up : (a b : Path) (word : ℕ) → IsUpTo a b → b.word ≤ word → a.word ≤ word
    word_up a b word (inl h) l = omega arith
    word_up a b word (inr h) l = let e = h.0 in omega arith

pub starts_skip : (filled : List FullSlot) (list : List Reached) (count : ℕ) (rows : List (List (Option Path))) (r : Reached) →
    slice_get list count ≡ Some r → ((k : ℕ) (u : FullSlot) → slice_get filled k ≡ Some u → u.address ≢ r.slot) →
    HasStarts filled list count rows → HasStarts filled list (count + 1) rows
starts_skip filled list count rows r here none s = record {
  only = s.only;
  all = λ k at r' v low listed holds' is'. elim (cases_eq k count) [
    | inr ne ↦ s.all k at r' v (omega arith) listed holds' is'
    | inl e ↦ absurd (let listed' : slice_get list count ≡ Some r' = rw e at listed in
        let same : r ≡ r' = cc in
        let slot : r.slot ≡ r'.slot = ap (λ (x : Reached). x.slot) same in
        none at v holds' (is' ∙ sym slot))
  ];
}

pub starts_put : (rows new : List (List (Option Path))) (place word : ℕ) → IsPut rows 0 place (record { word = word; index = 0 }) new → AreStarts rows → AreStarts new
starts_put rows new place word put starts read k path e = elim (put.only read k path e) [
  | inl old ↦ starts read k path old
  | inr new' ↦ (new'.0, ap (λ (x : Path). x.index) new'.1.1)
]

-- a table with no paths starts nothing
pub starts_none : (filled : List FullSlot) (list : List Reached) (rows : List (List (Option Path))) → ((t k : ℕ) → path_at rows t k ≡ None) → HasStarts filled list 0 rows
starts_none filled list rows none = record {
  only = λ place path u e holds. absurd (let n = none 0 place in cc);
  all = λ k place r u low. absurd (omega arith);
}

pub starts_nothing : (rows : List (List (Option Path))) → ((t k : ℕ) → path_at rows t k ≡ None) → AreStarts rows
starts_nothing rows none read place path e = absurd (let n = none read place in cc)

pub best_skip : (rows : List (List (Option Path))) (place address count : ℕ) (best : Option Held) → path_at rows count place ≡ None →
    IsBest rows place address count best → IsBest rows place address (count + 1) best
best_skip rows place address count best none b = record {
  none = λ e depth path some low is. elim (cases_eq depth count) [
    | inr ne ↦ b.none e depth path some (omega arith) is
    | inl here ↦ (let at : path_at rows count place ≡ Some path = rw here at is in cc)
  ];
  some = λ h e. (let s = b.some h e in (
    s.0,
    record {
      some = s.1.some;
      within = (let w = s.1.within in omega arith);
      there = s.1.there;
      first = λ more other some low is. elim (cases_eq more count) [
        | inr ne ↦ s.1.first more other some (omega arith) is
        | inl here ↦ (let at : path_at rows count place ≡ Some other = rw here at is in cc)
      ];
    },
  ));
}

best_next : (rows : List (List (Option Path))) (place address count : ℕ) (next : Held) → 1 ≤ count → next.depth ≡ count → next.slot ≡ address →
    path_at rows count place ≡ Some (path_of next) →
    ((more : ℕ) (other : Path) → 1 ≤ more → more < count → path_at rows more place ≡ Some other → next.word < other.word) →
    IsBest rows place address (count + 1) (Some next)
best_next rows place address count next some depth slot here before = record {
  none = λ e. cc;
  some = λ h e. (let same : next ≡ h = cc in
      rw (← same) (
        slot,
        record {
          some = omega arith;
          within = omega arith;
          there = rw depth here;
          first = λ more other least low is. elim (cases_eq more count) [
            | inr ne ↦ inl (before more other least (omega arith) is)
            | inl at ↦ (let is' : path_at rows count place ≡ Some other = rw at at is in
                let other_is : path_of next ≡ other = cc in
                inr (ap (λ (x : Path). x.word) other_is, omega arith))
          ];
        },
      ));
}

pub best_more : (rows : List (List (Option Path))) (place address count : ℕ) (best : Option Held) (next : Held) → 1 ≤ count → next.depth ≡ count → next.slot ≡ address →
    path_at rows count place ≡ Some (path_of next) → IsBest rows place address count best → IsBest rows place address (count + 1) (Some (earlier best next))
best_more rows place address count None next some depth slot here b =
    best_next rows place address count next some depth slot here (λ more other least low is. absurd (b.none refl more other least low is))
best_more rows place address count (Some known) next some depth slot here b = by_word (nat_le known.word next.word) refl
  where
    by_word : (t : Bool) → nat_le known.word next.word ≡ t → IsBest rows place address (count + 1) (Some (cond t known next))
    by_word true e =
        let low : known.word ≤ next.word = leb-true known.word next.word e in
        let s = b.some known refl in
        record {
          none = λ e'. cc;
          some = λ h e'. (let same : known ≡ h = cc in
              rw (← same) (
                s.0,
                record {
                  some = s.1.some;
                  within = (let w = s.1.within in omega arith);
                  there = s.1.there;
                  first = λ more other least low' is. elim (cases_eq more count) [
                    | inr ne ↦ s.1.first more other least (omega arith) is
                    | inl at ↦ (let is' : path_at rows count place ≡ Some other = rw at at is in
                        let other_is : path_of next ≡ other = cc in
                        let word : next.word ≡ other.word = ap (λ (x : Path). x.word) other_is in
                        let early : known.depth < count = s.1.within in
                        elim (cases_lt known.word other.word) [ inl less ↦ inl less | inr same' ↦ inr (omega arith, omega arith) ])
                  ];
                },
              ));
        }
    by_word false e =
        let low : next.word < known.word = leb-false known.word next.word e in
        let s = b.some known refl in
        best_next rows place address count next some depth slot here
        (λ more other least low' is. elim (s.1.first more other least low' is) [ inl less ↦ omega arith | inr same ↦ (let w = same.0 in omega arith) ])

-- of all rows
pub best_held : (rows : List (List (Option Path))) (place address count : ℕ) (h : Held) → length rows ≤ count → path_at rows 0 place ≡ None →
    IsBest rows place address count (Some h) → IsHeldAt rows place address h
best_held rows place address count h high none b = let s = b.some h refl in record {
  unreached = none;
  slot_is = s.0;
  first = record {
    some = s.1.some;
    there = s.1.there;
    first = λ more other some is. s.1.first more other some (let w = within_rows rows more place other is in omega arith) is;
  };
}

pub best_nothing : (rows : List (List (Option Path))) (place address count : ℕ) → length rows ≤ count →
    IsBest rows place address count None → HasEntry rows place address []
best_nothing rows place address count high b unreached depth path some is =
    absurd (b.none refl depth path some (let w = within_rows rows depth place path is in omega arith) is)

-- the list of entries
pub listed_only : (rows : List (List (Option Path))) (filled : List FullSlot) (place : ℕ) (at : FullSlot) (h : Held) (list : List Held) → slice_get filled place ≡ Some at →
    IsHeldAt rows place at.address h → ((r : Held) → Contains list r → IsListed rows filled r) → (r : Held) → Contains (list ++ h ∷ []) r → IsListed rows filled r
listed_only rows filled place at h list holds is only r c = elim (Contains-push_cases list h r c) [
  | inl old ↦ only r old
  | inr same ↦ rw (← same) (record { place = place; at = at; holds = holds; held = is })
]

pub entry_kept : (rows : List (List (Option Path))) (place address : ℕ) (list : List Held) (h : Held) → HasEntry rows place address list → HasEntry rows place address (list ++ h ∷ [])
entry_kept rows place address list h has unreached depth path some is =
    let e = has unreached depth path some is in
    (e.0, (Contains-append_left list (h ∷ []) e.0 e.1.0, e.1.1))

pub entry_new : (rows : List (List (Option Path))) (place address : ℕ) (list : List Held) (h : Held) → IsHeldAt rows place address h → HasEntry rows place address (list ++ h ∷ [])
entry_new rows place address list h is unreached depth path some there = (h, (Contains-push list h, is))

pub entry_none : (rows : List (List (Option Path))) (place address : ℕ) (list : List Held) → HasEntry rows place address [] → HasEntry rows place address list
entry_none rows place address list has unreached depth path some is =
    absurd (let e = has unreached depth path some is in let within = e.1.0.1 in omega arith)

-- one slot more
pub entries_more : (rows : List (List (Option Path))) (filled : List FullSlot) (place : ℕ) (at : FullSlot) (h : Held) (list : List Held) → slice_get filled place ≡ Some at →
    IsHeldAt rows place at.address h → ((k : ℕ) (u : FullSlot) → k < place → slice_get filled k ≡ Some u → HasEntry rows k u.address list) →
    (k : ℕ) (u : FullSlot) → k < place + 1 → slice_get filled k ≡ Some u → HasEntry rows k u.address (list ++ h ∷ [])
entries_more rows filled place at h list holds is all k u low e = elim (cases_eq k place) [
  | inr ne ↦ entry_kept rows k u.address list h (all k u (omega arith) e)
  | inl here ↦ (let e' : slice_get filled place ≡ Some u = rw here at e in
      let same : at ≡ u = cc in
      rw (here, ← same) (entry_new rows place at.address list h is))
]

pub entries_skip : (rows : List (List (Option Path))) (filled : List FullSlot) (place : ℕ) (at : FullSlot) (list : List Held) → slice_get filled place ≡ Some at →
    HasEntry rows place at.address [] → ((k : ℕ) (u : FullSlot) → k < place → slice_get filled k ≡ Some u → HasEntry rows k u.address list) →
    (k : ℕ) (u : FullSlot) → k < place + 1 → slice_get filled k ≡ Some u → HasEntry rows k u.address list
entries_skip rows filled place at list holds none all k u low e = elim (cases_eq k place) [
  | inr ne ↦ all k u (omega arith) e
  | inl here ↦ (let e' : slice_get filled place ≡ Some u = rw here at e in
      let same : at ≡ u = cc in
      rw (here, ← same) (entry_none rows place at.address list none))
]

-- entries that are equal have one slot
last_true : (a b : Bool) → (a && b) ≡ true → b ≡ true
last_true true b e = e
last_true false b e = cc

pub same_slot : (h : Held) (put : List Held) →
    Any (λ (y : Held). ((h.word == y.word) && ((h.depth == y.depth) && ((h.index == y.index) && (h.slot == y.slot)))) ≡ true) put →
    (s : Held) × (Contains put s × (s.slot ≡ h.slot))
same_slot h put any =
    let s : Held = any.1 in
    let slots = last_true (h.index == s.index) (h.slot == s.slot) (last_true (h.depth == s.depth) _ (last_true (h.word == s.word) _ any.4)) in
    (s, ((any.0, any.2, any.3), sym (eqb-true h.slot s.slot slots)))

-- what a table says of whatever an index and a depth name
record InTable (filled : List FullSlot) (rows : List (List (Option Path))) (word depth index slot : ℕ) : Type 0 where
  place : ℕ
  at : FullSlot
  path : Path
  some : 1 ≤ depth
  there : path_at rows depth place ≡ Some path
  holds : slice_get filled place ≡ Some at
  at_is : at.address ≡ slot
  low : IsUpTo path (record { word = word; index = index })

-- what a search from a list of reached slots has
pub record IsSearched (p : ProfileName) (f : Forest Entry) (thread : ℕ) (filled : List FullSlot) (reached : List Reached) (first rows : List (List (Option Path))) : Type 0 where
  pub lawful : (s : ℕ) → (cap_at f s ≡ Null) ⊎ IsLawful p (word_bits p) (cap_at f s)
  pub are : AreFullSlots f filled
  pub up : AreRising filled
  pub reach : AreReached p f thread reached
  pub starts : HasStarts filled reached (length reached) first
  pub front : (place : ℕ) → path_at rows 0 place ≡ path_at first 0 place
  pub high : length rows ≡ word_bits p + 1
  pub bits : AreWithinBits rows
  pub explored : IsSpaceExplored p f filled first rows (word_bits p + 1)

up_to_word : (path : Path) (start word index left : ℕ) → left ≡ 0 → start ≤ word →
    IsUpTo (record { word = path.word; index = path.index * 2 ^ left + index % 2 ^ left }) (record { word = start; index = index }) →
    IsUpTo path (record { word = word; index = index })
up_to_word path start word index left none low (inl h) = inl (omega arith)
up_to_word path start word index left none low (inr h) =
    let same : path.word ≡ start = h.0 in
    let le : path.index * 2 ^ 0 + index % 2 ^ 0 ≤ index = rw none at h.1 in
    let le' : path.index ≤ index = omega arith in
    elim (cases_lt start word) [ inl less ↦ inl (omega arith) | inr more ↦ inr (omega arith, le') ]

in_table_at : (p : ProfileName) (f : Forest Entry) (filled : List FullSlot) (rows : List (List (Option Path))) (start word depth index slot : ℕ) → 1 ≤ depth → depth ≤ word_bits p → start ≤ word →
    (st : StandsForIndex p f filled rows (word_bits p + 1) start depth index slot) → st.left ≡ 0 → InTable filled rows word depth index slot
in_table_at p f filled rows start word depth index slot some short low st none =
    let split : st.read + st.left ≡ depth = st.split in
    let read : st.read ≡ depth = omega arith in
    let led : target_from p f 0 st.at.address index ≡ Some slot = rw none at st.leads in
    let at_is : st.at.address ≡ slot = cc in
    record {
      place = st.place;
      at = st.at;
      path = st.path;
      some = some;
      there = rw read at st.there;
      holds = st.holds;
      at_is = at_is;
      low = up_to_word st.path start word index st.left none low st.low;
    }

in_table : (p : ProfileName) (f : Forest Entry) (thread : ℕ) (filled : List FullSlot) (reached : List Reached) (first rows : List (List (Option Path))) → IsSearched p f thread filled reached first rows →
    (word depth index slot : ℕ) → word < 2 ^ word_bits p → Names p f thread word depth index slot → InTable filled rows word depth index slot
in_table p f thread filled reached first rows s word depth index slot low n =
    let w = s.reach.whole word n.holder low n.reaches in
    let r : Reached = w.0 in
    let reaches : Reaches p f thread word r.slot = rw w.1.1 n.reaches in
    let least : r.word ≤ word = s.reach.least r w.1.0 word low reaches in
    let k = contains_got reached r w.1.0 in
    let found = s.are.all n.holder n.reaches.full in
    let start = s.starts.all k.0 found.0 r found.1.0 (slice_get_within reached k.0 r k.1) k.1 found.1.1.0 (found.1.1.1 ∙ sym w.1.1) in
    let t = named_target p f n.holder depth index slot n.named in
    let st = s.explored.whole found.0 found.1.0 start.0 depth index slot start.1.0 found.1.1.0 t.short (rw found.1.1.1 t.is) n.full in
    let short : depth ≤ word_bits p = t.short in
    let split : st.read + st.left ≡ depth = st.split in
    let none : st.left ≡ 0 = elim st.ahead [ inl ahead ↦ omega arith | inr none ↦ none ] in
    let start_low : start.0.word ≤ word = (let l = start.1.1 in omega arith) in
    in_table_at p f filled rows start.0.word word depth index slot t.some t.short start_low st none

plain_target : (p : ProfileName) (f : Forest Entry) (slot to depth index : ℕ) → target_from p f (depth + 0) slot (index * 2 ^ 0 + 0) ≡ Some to → target_from p f depth slot index ≡ Some to
plain_target p f slot to depth index e =
    let d : depth + 0 ≡ depth = omega arith in
    let i : index * 2 ^ 0 + 0 ≡ index = omega arith in
    rw (d, i) at e

reaches_same : (p : ProfileName) (f : Forest Entry) (thread word word' slot slot' : ℕ) → word ≡ word' → slot ≡ slot' → Reaches p f thread word slot → Reaches p f thread word' slot'
reaches_same p f thread word word' slot slot' e e' r = rw (← e, ← e') r

abbrev pub ok_slot : ℕ → Result ℕ Refusal
ok_slot slot = Ok slot

-- an entry's path names its slot
held_named : (p : ProfileName) (f : Forest Entry) (thread : ℕ) (filled : List FullSlot) (reached : List Reached) (first rows : List (List (Option Path))) → IsSearched p f thread filled reached first rows →
    (h : Held) → IsListed rows filled h → (h.word < 2 ^ word_bits p) × Names p f thread h.word h.depth h.index h.slot
held_named p f thread filled reached first rows s h l =
    let fst = l.held.first in
    let c = s.explored.sound h.depth l.place (path_of h) l.at fst.there l.holds in
    let within : h.depth < length rows = within_rows rows h.depth l.place (path_of h) fst.there in
    let short : h.depth ≤ word_bits p = (let high = s.high in omega arith) in
    let led' : target_from p f h.depth c.from.address h.index ≡ Some l.at.address = plain_target p f c.from.address l.at.address h.depth h.index (c.goes 0 0 (omega arith)) in
    let r = s.starts.only c.place c.start c.from c.starts c.holds in
    let word : r.0.word ≡ h.word = r.1.1.1 ∙ c.word in
    let so = s.reach.sound r.0 r.1.0 in
    let reaches : Reaches p f thread h.word c.from.address = reaches_same p f thread r.0.word h.word r.0.slot c.from.address word r.1.1.0 so.1 in
    let small : h.word < 2 ^ word_bits p = (let below = so.0 in omega arith) in (
      small,
      record {
        holder = c.from.address;
        reaches = reaches;
        named = target_named p (word_bits p) f s.lawful c.from.address h.depth h.index l.at.address fst.some short led' ∙ ap (λ (x : ℕ). ok_slot x) (sym l.held.slot_is);
        full = ap (λ (x : ℕ). is_full x f) l.held.slot_is ∙ s.are.full l.place l.at l.holds;
      },
    )

held_unreached : (p : ProfileName) (f : Forest Entry) (thread : ℕ) (filled : List FullSlot) (reached : List Reached) (first rows : List (List (Option Path))) → IsSearched p f thread filled reached first rows →
    (h : Held) → IsListed rows filled h → IsUnreached p f thread h.slot
held_unreached p f thread filled reached first rows s h l word low reaches =
    let w = s.reach.whole word h.slot low reaches in
    let k = contains_got reached w.0 w.1.0 in
    let start = s.starts.all k.0 l.place w.0 l.at (slice_get_within reached k.0 w.0 k.1) k.1 l.holds (sym l.held.slot_is ∙ sym w.1.1) in
    let some : path_at rows 0 l.place ≡ Some start.0 = s.front l.place ∙ start.1.0 in
    let none : path_at rows 0 l.place ≡ None = l.held.unreached in
    cc

-- a slot that no word leads to has no path in the first row
no_start : (p : ProfileName) (f : Forest Entry) (thread : ℕ) (filled : List FullSlot) (reached : List Reached) (first rows : List (List (Option Path))) → IsSearched p f thread filled reached first rows →
    (place : ℕ) (at : FullSlot) → slice_get filled place ≡ Some at → IsUnreached p f thread at.address → (o : Option Path) → path_at rows 0 place ≡ o → path_at rows 0 place ≡ None
no_start p f thread filled reached first rows s place at holds unreached None e = e
no_start p f thread filled reached first rows s place at holds unreached (Some path) e =
    let r = s.starts.only place path at (sym (s.front place) ∙ e) holds in
    let so = s.reach.sound r.0 r.1.0 in
    absurd (unreached r.0.word so.0 (reaches_same p f thread r.0.word r.0.word r.0.slot at.address refl r.1.1.0 so.1))

-- the first path at a place is no later than what is there
no_later : (rows : List (List (Option Path))) (place : ℕ) (h : Held) (path : Path) (word depth index : ℕ) → IsFirstAt rows place h.depth (path_of h) → 1 ≤ depth →
    path_at rows depth place ≡ Some path → IsUpTo path (record { word = word; index = index }) → IsNoLater h.word h.depth h.index word depth index
no_later rows place h path word depth index fst some there low = elim (fst.first depth path some there) [
  | inl less ↦ inl (elim low [ inl l ↦ omega arith | inr l ↦ (let e = l.0 in omega arith) ])
  | inr same ↦ elim low [
    | inl l ↦ inl (let e = same.0 in omega arith)
    | inr l ↦ inr (
      same.0 ∙ l.0,
      elim (cases_lt h.depth depth) [
        | inl less ↦ inl less
        | inr more ↦ (let depth_is : h.depth ≡ depth = (let d = same.1 in omega arith) in
            let mine : path_at rows depth place ≡ Some (path_of h) = rw depth_is at fst.there in
            let path_is : path_of h ≡ path = cc in
            let index_is : h.index ≡ path.index = ap (λ (x : Path). x.index) path_is in
            inr (depth_is, (let i = l.1 in omega arith)))
      ],
    )
  ]
]

-- two entries at one place are the same
never_earlier : (a b : Held) → IsNoLater a.word a.depth a.index b.word b.depth b.index → IsEarlier b.word b.depth b.index a.word a.depth a.index → ⊥
never_earlier a b (inl h) (inl k) = omega arith
never_earlier a b (inl h) (inr k) = let e = k.0 in omega arith
never_earlier a b (inr h) (inl k) = let e = h.0 in omega arith
never_earlier a b (inr h) (inr k) = deeper h.1 k.1
  where
    deeper : ((a.depth < b.depth) ⊎ ((a.depth ≡ b.depth) × (a.index ≤ b.index))) → ((b.depth < a.depth) ⊎ ((b.depth ≡ a.depth) × (b.index < a.index))) → ⊥
    deeper (inl x) (inl y) = omega arith
    deeper (inl x) (inr y) = let e = y.0 in omega arith
    deeper (inr x) (inl y) = let e = x.0 in omega arith
    deeper (inr x) (inr y) = let i = x.1 in let j = y.1 in omega arith

-- the order of entries
by_fields : (a b : ℕ) (rest : Ordering) → ordering_then (nat_cmp a b) rest ≡ Less → (a < b) ⊎ ((a ≡ b) × (rest ≡ Less))
by_fields a b rest e = by_first (nat_cmp a b) refl e
  where
    by_first : (o : Ordering) → o ≡ nat_cmp a b → ordering_then o rest ≡ Less → (a < b) ⊎ ((a ≡ b) × (rest ≡ Less))
    by_first Less is e' = inl (ranked a b Less is)
    by_first Equal is e' = inr (ranked a b Equal is, e')
    by_first Greater is e' = cc

abbrev pub held_order : Held → Held → Ordering
held_order a b = ordering_then (nat_cmp a.word b.word) (ordering_then (nat_cmp a.depth b.depth) (ordering_then (nat_cmp a.index b.index) (nat_cmp a.slot b.slot)))

in_order : (a b : Held) → held_order a b ≡ Less →
    IsEarlier a.word a.depth a.index b.word b.depth b.index ⊎ ((a.word ≡ b.word) × ((a.depth ≡ b.depth) × ((a.index ≡ b.index) × (a.slot < b.slot))))
in_order a b e = elim (by_fields a.word b.word _ e) [
  | inl less ↦ inl (inl less)
  | inr word ↦ elim (by_fields a.depth b.depth _ word.1) [
    | inl less ↦ inl (inr (word.0, inl less))
    | inr depth ↦ elim (by_fields a.index b.index _ depth.1) [
      | inl less ↦ inl (inr (word.0, inr (depth.0, less)))
      | inr index ↦ inr (word.0, (depth.0, (index.0, ranked a.slot b.slot Less (sym index.1))))
    ]
  ]
]

one_slot : (p : ProfileName) (f : Forest Entry) (thread : ℕ) (a b : Held) → a.word ≡ b.word → a.depth ≡ b.depth → a.index ≡ b.index →
    Names p f thread a.word a.depth a.index a.slot → Names p f thread b.word b.depth b.index b.slot → a.slot ≡ b.slot
one_slot p f thread a b word depth index na nb =
    let la = na.reaches.leads in
    let lb = rw (← word) at nb.reaches.leads in
    let holder : na.holder ≡ nb.holder = cc in
    let ta = na.named in
    let tb = rw (← depth, ← index, ← holder) at nb.named in
    cc

pub are_held : (p : ProfileName) (f : Forest Entry) (thread : ℕ) (filled : List FullSlot) (reached : List Reached) (first rows : List (List (Option Path))) (found put : List Held) →
    IsSearched p f thread filled reached first rows → ((h : Held) → Contains found h → IsListed rows filled h) →
    ((place : ℕ) (u : FullSlot) → slice_get filled place ≡ Some u → HasEntry rows place u.address found) →
    ((h : Held) → Contains found h → (s : Held) × (Contains put s × (s.slot ≡ h.slot))) → ((h : Held) → Contains put h → Contains found h) →
    IsStrictlySortedBy held_order put → AreHeldSlots p f thread put
are_held p f thread filled reached first rows found put s only all kept none_new order = record {
  sound = λ h c. (let l = only h (none_new h c) in
      let n = held_named p f thread filled reached first rows s h l in
      (n.0, (s.bits h.depth l.place (path_of h) l.held.first.there, (n.1, held_unreached p f thread filled reached first rows s h l))));
  whole = λ word depth index slot low n unreached. (
      let t = in_table p f thread filled reached first rows s word depth index slot low n in
      let unreached' : IsUnreached p f thread t.at.address = rw t.at_is unreached in
      let none : path_at rows 0 t.place ≡ None = no_start p f thread filled reached first rows s t.place t.at t.holds unreached' (path_at rows 0 t.place) refl in
      let e = all t.place t.at t.holds none depth t.path t.some t.there in
      let k = kept e.0 e.1.0 in
      (k.0, (k.1.0, k.1.1 ∙ (e.1.1.slot_is ∙ t.at_is))));
  least = λ h c word depth index low n. (
      let l = only h (none_new h c) in
      let t = in_table p f thread filled reached first rows s word depth index h.slot low n in
      let place : t.place ≡ l.place = one_place filled s.up t.place l.place t.at l.at t.holds l.holds (t.at_is ∙ l.held.slot_is) in
      no_later rows l.place h t.path word depth index l.held.first t.some (rw place at t.there) t.low);
  once = λ i j d less within same. (
      let a : Held = get_or put i d in
      let b : Held = get_or put j d in
      let la = only a (none_new a (Contains-get_or put i d (omega arith))) in
      let lb = only b (none_new b (Contains-get_or put j d within)) in
      let place : la.place ≡ lb.place = one_place filled s.up la.place lb.place la.at lb.at la.holds lb.holds (sym la.held.slot_is ∙ (same ∙ lb.held.slot_is)) in
      let there : path_at rows a.depth lb.place ≡ Some (path_of a) = rw place at la.held.first.there in
      never_earlier b a (no_later rows lb.place b (path_of a) a.word a.depth a.index lb.held.first la.held.first.some there (inr (refl, omega arith))) (rising i j d less within));
  rising = rising;
}
  where
    rising : AllPairs (λ (a b : Held). IsEarlier a.word a.depth a.index b.word b.depth b.index) put
    rising i j d less within =
        let a : Held = get_or put i d in
        let b : Held = get_or put j d in
        elim (in_order a b (Less-from_sorted _ put i j d order less within)) [
          | inl earlier ↦ earlier
          | inr same ↦ absurd (let na = (held_named p f thread filled reached first rows s a (only a (none_new a (Contains-get_or put i d (omega arith))))).1 in
              let nb = (held_named p f thread filled reached first rows s b (only b (none_new b (Contains-get_or put j d within)))).1 in
              let slot : a.slot ≡ b.slot = one_slot p f thread a b same.0 same.1.0 same.1.1.0 na nb in
              let l = same.1.1.1 in
              omega arith)
        ]

-- what the code returns for a place
pub best_some : (rows : List (List (Option Path))) (place address count : ℕ) (best : Option Held) → length rows ≤ count → path_at rows 0 place ≡ None →
    IsBest rows place address count best → IfSome best (λ h. IsHeldAt rows place address h)
best_some rows place address count None high none b = tt
best_some rows place address count (Some h) high none b = best_held rows place address count h high none b

pub best_if_none : (rows : List (List (Option Path))) (place address count : ℕ) (best : Option Held) → length rows ≤ count →
    IsBest rows place address count best → IfNone best (HasEntry rows place address [])
best_if_none rows place address count None high b = best_nothing rows place address count high b
best_if_none rows place address count (Some h) high b = tt

pub none_there : (o : Option Path) → is_some o ≡ false → o ≡ None
none_there None e = refl
none_there (Some path) e = cc

pub some_there : (o : Option Path) → is_some o ≡ true → (path : Path) × (o ≡ Some path)
some_there None e = cc
some_there (Some path) e = (path, refl)
