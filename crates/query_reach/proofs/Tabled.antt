-- What a note leaves in a table, and notes one after another.
use Rattle.std.proofs.Common.{◌≡◌, ◌≢◌, ℕ, zero, suc, ◌+◌, ◌<◌, ◌≤◌, ◌⊎◌, inl, inr, refl, sym, ap, ◌∙◌, arith, List, [], ◌∷◌, length, map, get_or, Option, None, Some, option_map, unwrap_or, min, set, replicate}
use Rattle.std.specs.List.{slice_get}
use Rattle.std.proofs.lemmas.Bool.{cases_eq, cases_lt}
use Rattle.std.proofs.lemmas.List.{map-set, length-map, length-set, length-replicate}
use Rattle.std.proofs.lemmas.Option.{slice_get-map, slice_get_read, slice_get_within, slice_get-get_or, slice_get_past}
use Rattle.std.specs.Option.{option_and_then}
use Rattle.cap_core.specs.declared.profile.ProfileName.{ProfileName}
use Rattle.cap_core.specs.declared.capability.Cap.{Cap}
use Rattle.query_reach.specs.declared.filled.FullSlot.{FullSlot}
use Rattle.query_reach.specs.Private.Nodes.{IsNext}
use Rattle.query_reach.specs.Private.Tables.{word_in, left_row, word_at, least_with, noted_in, noted, AreEmpty, IsWideTable, IsAtMost, SameShape, IsRowOpened, IsNoted, IsFirstTable}
use Rattle.query_reach.specs.Private.Search.{IsNextAt, Visits, Spreads, RowSpreads}
use Rattle.query_reach.proofs.FullSlots.{none_in}

pub slice_get-set_same : {X : Type 0} (xs : List X) (i : ℕ) (v : X) → i < length xs → slice_get (set xs i v) i ≡ Some v
slice_get-set_same [] i v h = absurd (omega arith)
slice_get-set_same (x ∷ xs) zero v h = refl
slice_get-set_same (x ∷ xs) (suc i) v h = slice_get-set_same xs i v (omega arith)

pub slice_get-set_other : {X : Type 0} (xs : List X) (i j : ℕ) (v : X) → j ≢ i → slice_get (set xs i v) j ≡ slice_get xs j
slice_get-set_other [] i j v h = refl
slice_get-set_other (x ∷ xs) zero zero v h = absurd (h refl)
slice_get-set_other (x ∷ xs) zero (suc j) v h = refl
slice_get-set_other (x ∷ xs) (suc i) zero v h = refl
slice_get-set_other (x ∷ xs) (suc i) (suc j) v h = slice_get-set_other xs i j v (λ e. h (ap suc e))

-- the code's write of a row is a note
pub note_is : {A : Type 0} (items : A → List (Option ℕ)) (rows : List A) (left place word : ℕ) (row row' : A) → left < length rows → row ≡ get_or rows left row →
    items row' ≡ noted_in (items row) place word → map items (set rows left row') ≡ noted (map items rows) left place word
note_is items rows left place word row row' h read e =
    let there : slice_get (map items rows) left ≡ Some (items row) = slice_get-map items rows left ∙ ap (option_map items) (slice_get_read rows (length rows) left row refl h read) in
    let row_is : left_row (map items rows) left ≡ items row = ap (λ (o : Option (List (Option ℕ))). unwrap_or o []) there in
    map-set items rows left row' ∙ ap (set (map items rows) left) (e ∙ ap (λ (r : List (Option ℕ)). noted_in r place word) (sym row_is))

row-set_same : (rows : List (List (Option ℕ))) (left : ℕ) (row : List (Option ℕ)) → left < length rows → left_row (set rows left row) left ≡ row
row-set_same rows left row h = ap (λ (o : Option (List (Option ℕ))). unwrap_or o []) (slice_get-set_same rows left row h)

row-set_other : (rows : List (List (Option ℕ))) (left t : ℕ) (row : List (Option ℕ)) → t ≢ left → left_row (set rows left row) t ≡ left_row rows t
row-set_other rows left t row h = ap (λ (o : Option (List (Option ℕ))). unwrap_or o []) (slice_get-set_other rows left t row h)

-- the three facts of a note
noted_there : (rows : List (List (Option ℕ))) (left place word : ℕ) → left < length rows → place < length (left_row rows left) →
    word_at (noted rows left place word) left place ≡ Some (least_with word (word_at rows left place))
noted_there rows left place word h h' = rw (row-set_same rows left (noted_in (left_row rows left) place word) h, slice_get-set_same (left_row rows left) place (Some (least_with word (word_at rows left place))) h') refl

noted_beside : (rows : List (List (Option ℕ))) (left place word k : ℕ) → left < length rows → k ≢ place →
    word_at (noted rows left place word) left k ≡ word_at rows left k
noted_beside rows left place word k h ne = rw (row-set_same rows left (noted_in (left_row rows left) place word) h, slice_get-set_other (left_row rows left) place k (Some (least_with word (word_at rows left place))) ne) refl

noted_elsewhere : (rows : List (List (Option ℕ))) (left place word t k : ℕ) → t ≢ left →
    word_at (noted rows left place word) t k ≡ word_at rows t k
noted_elsewhere rows left place word t k ne = ap (λ (r : List (Option ℕ)). word_in r k) (row-set_other rows left t (noted_in (left_row rows left) place word) ne)

least-below : (word : ℕ) (known : Option ℕ) → least_with word known ≤ word
least-below word None = omega arith
least-below word (Some v) = omega arith

least-is : (word v : ℕ) (known : Option ℕ) → Some (least_with word known) ≡ Some v → (known ≡ Some v) ⊎ (v ≡ word)
least-is word v None e = let s : word ≡ v = cc in inr (sym s)
least-is word v (Some old) e =
    let s : min old word ≡ v = cc in
    elim (cases_lt word old) [ inl less ↦ inr (omega arith) | inr more ↦ (let m : old ≡ v = omega arith in inl (ap Some m)) ]

least-keeps : (word v : ℕ) (known : Option ℕ) → known ≡ Some v → least_with word known ≤ v
least-keeps word v None e = cc
least-keeps word v (Some old) e = let s : old ≡ v = cc in omega arith

pub noted-kept : (rows : List (List (Option ℕ))) (left place word : ℕ) → left < length rows → place < length (left_row rows left) →
    (t k w : ℕ) → word_at rows t k ≡ Some w → IsAtMost (noted rows left place word) t k w
noted-kept rows left place word h h' t k w e = elim (cases_eq t left) [
  | inr ne ↦ (w, (omega arith, noted_elsewhere rows left place word t k ne ∙ e))
  | inl is ↦ elim (cases_eq k place) [
    | inr ne ↦ (w, (omega arith, rw is (noted_beside rows left place word k h ne ∙ rw is at e)))
    | inl is' ↦ (let e' : word_at rows left place ≡ Some w = rw (is, is') at e in
        (least_with word (word_at rows left place), (least-keeps word w (word_at rows left place) e', rw (is, is') (noted_there rows left place word h h'))))
  ]
]

pub noted-only : (rows : List (List (Option ℕ))) (left place word : ℕ) → left < length rows → place < length (left_row rows left) →
    (t k w : ℕ) → word_at (noted rows left place word) t k ≡ Some w → (word_at rows t k ≡ Some w) ⊎ ((t ≡ left) × ((k ≡ place) × (w ≡ word)))
noted-only rows left place word h h' t k w e = elim (cases_eq t left) [
  | inr ne ↦ inl (sym (noted_elsewhere rows left place word t k ne) ∙ e)
  | inl is ↦ elim (cases_eq k place) [
    | inr ne ↦ inl (rw is (sym (noted_beside rows left place word k h ne) ∙ rw is at e))
    | inl is' ↦ elim (least-is word w (word_at rows left place) (sym (noted_there rows left place word h h') ∙ rw (is, is') at e)) [
      | inl old ↦ inl (rw (is, is') old)
      | inr new ↦ inr (is, (is', new))
    ]
  ]
]

pub noted-at : (rows : List (List (Option ℕ))) (left place word : ℕ) → left < length rows → place < length (left_row rows left) →
    IsAtMost (noted rows left place word) left place word
noted-at rows left place word h h' = (least_with word (word_at rows left place), (least-below word (word_at rows left place), noted_there rows left place word h h'))

width-same : (row row' : List (Option ℕ)) (width : ℕ) → length row' ≡ length row → (length row ≡ 0) ⊎ (length row ≡ width) → (length row' ≡ 0) ⊎ (length row' ≡ width)
width-same row row' width e (inl h) = inl (e ∙ h)
width-same row row' width e (inr h) = inr (e ∙ h)

noted-width : (rows : List (List (Option ℕ))) (left place word t : ℕ) → left < length rows → length (left_row (noted rows left place word) t) ≡ length (left_row rows t)
noted-width rows left place word t h = elim (cases_eq t left) [
  | inr ne ↦ ap length (row-set_other rows left t (noted_in (left_row rows left) place word) ne)
  | inl is ↦ rw is (ap length (row-set_same rows left (noted_in (left_row rows left) place word) h) ∙ length-set (left_row rows left) place (Some (least_with word (word_at rows left place))))
]

noted-shape : (rows : List (List (Option ℕ))) (left place word width : ℕ) → left < length rows → IsWideTable width rows → SameShape width rows (noted rows left place word)
noted-shape rows left place word width h wide = record {
  height = length-set rows left (noted_in (left_row rows left) place word);
  wide = λ t. width-same (left_row rows t) (left_row (noted rows left place word) t) width (noted-width rows left place word t h) (wide t);
}

pub same_shape : (rows : List (List (Option ℕ))) (width : ℕ) → IsWideTable width rows → SameShape width rows rows
same_shape rows width wide = record { height = refl; wide = wide }

pub shapes : (a b c : List (List (Option ℕ))) (width : ℕ) → SameShape width a b → SameShape width b c → SameShape width a c
shapes a b c width s t = record { height = t.height ∙ s.height; wide = t.wide }

-- a row that is given places
no_word : (row : List (Option ℕ)) (k : ℕ) → length row ≡ 0 → word_in row k ≡ None
no_word [] k e = refl
no_word (word ∷ row) k e = absurd (omega arith)

opened : (rows : List (List (Option ℕ))) (left width : ℕ) → left < length rows → length (left_row rows left) ≡ 0 → IsWideTable width rows →
    IsRowOpened left width rows (set rows left (replicate width None))
opened rows left width h none wide = record {
  shape = record {
    height = length-set rows left (replicate width None);
    wide = λ t. elim (cases_eq t left) [
      | inr ne ↦ width-same (left_row rows t) (left_row (set rows left (replicate width None)) t) width (ap length (row-set_other rows left t (replicate width None) ne)) (wide t)
      | inl is ↦ inr (rw is (ap length (row-set_same rows left (replicate width None) h) ∙ length-replicate width None))
    ];
  };
  places = ap length (row-set_same rows left (replicate width None) h) ∙ length-replicate width None;
  words = λ t k. elim (cases_eq t left) [
    | inr ne ↦ ap (λ (r : List (Option ℕ)). word_in r k) (row-set_other rows left t (replicate width None) ne)
    | inl is ↦ rw is (ap (λ (r : List (Option ℕ)). word_in r k) (row-set_same rows left (replicate width None) h) ∙ (none_in width k ∙ sym (no_word (left_row rows left) k none)))
  ];
}

row_read : {A : Type 0} (items : A → List (Option ℕ)) (rows : List A) (left : ℕ) (row : A) → left < length rows → row ≡ get_or rows left row → left_row (map items rows) left ≡ items row
row_read items rows left row h read =
    let there : slice_get (map items rows) left ≡ Some (items row) = slice_get-map items rows left ∙ ap (option_map items) (slice_get_read rows (length rows) left row refl h read) in
    ap (λ (o : Option (List (Option ℕ))). unwrap_or o []) there

pub open_is : {A : Type 0} (items : A → List (Option ℕ)) (rows : List A) (left width : ℕ) (row row' : A) → left < length rows → row ≡ get_or rows left row →
    length (items row) ≡ 0 → items row' ≡ replicate width None → IsWideTable width (map items rows) → IsRowOpened left width (map items rows) (map items (set rows left row'))
open_is items rows left width row row' h read none e wide =
    let m : length (map items rows) ≡ length rows = rw length-map refl in
    rw (map-set items rows left row', e) (opened (map items rows) left width (omega arith) (ap length (row_read items rows left row h read) ∙ none) wide)

pub open_already : {A : Type 0} (items : A → List (Option ℕ)) (rows : List A) (left width : ℕ) (row : A) → left < length rows → row ≡ get_or rows left row →
    (length (items row) ≡ 0 → ⊥) → IsWideTable width (map items rows) → IsRowOpened left width (map items rows) (map items rows)
open_already items rows left width row h read some wide = record {
  shape = record { height = refl; wide = wide };
  places = elim (wide left) [
    | inl none ↦ absurd (some (sym (ap length (row_read items rows left row h read)) ∙ none))
    | inr is ↦ is
  ];
  words = λ t k. refl;
}

-- and in which a word is noted
pub noted_opened : (old mid : List (List (Option ℕ))) (left width place word : ℕ) → IsRowOpened left width old mid → left < length old → place < width →
    IsNoted left place word old (noted mid left place word)
noted_opened old mid left width place word o h low =
    let h' : left < length mid = omega (arith, h, o.shape.height) in
    let low' : place < length (left_row mid left) = omega (arith, low, o.places) in
    record {
      kept = λ t k w e. noted-kept mid left place word h' low' t k w (o.words t k ∙ e);
      only = λ t k w e. elim (noted-only mid left place word h' low' t k w e) [
        | inl was ↦ inl (sym (o.words t k) ∙ was)
        | inr new ↦ inr new
      ];
      there = noted-at mid left place word h' low';
    }

pub shape_opened : (old mid : List (List (Option ℕ))) (left width place word : ℕ) → IsRowOpened left width old mid → left < length old →
    SameShape width old (noted mid left place word)
shape_opened old mid left width place word o h =
    let s = noted-shape mid left place word width (omega (arith, h, o.shape.height)) o.shape.wide in
    record { height = s.height ∙ o.shape.height; wide = s.wide }

-- the first note of a table
pub empty_wide : (width : ℕ) (rows : List (List (Option ℕ))) → AreEmpty rows → IsWideTable width rows
empty_wide width rows empty t = inl (ap length (empty t))

pub first_noted : (left width place : ℕ) (old new : List (List (Option ℕ))) → AreEmpty old → SameShape width old new → IsNoted left place 0 old new → IsFirstTable left width place new
first_noted left width place old new empty shape n = record {
  wide = shape.wide;
  there = (let zero : n.there.0 ≡ 0 = (let low = n.there.1.0 in omega arith) in rw zero at n.there.1.1);
  only = λ t k w e. elim (n.only t k w e) [
    | inl was ↦ absurd (let none : word_at old t k ≡ None = ap (λ (r : List (Option ℕ)). word_in r k) (empty t) in cc)
    | inr is ↦ is
  ];
}

pub at_most : (rows : List (List (Option ℕ))) (t k w v : ℕ) → w ≤ v → IsAtMost rows t k w → IsAtMost rows t k v
at_most rows t k w v h m = (m.0, (omega (arith, m.1.0), m.1.1))

at_least_kept : (new : List (List (Option ℕ))) (old : List (List (Option ℕ))) → ((t k w : ℕ) → word_at old t k ≡ Some w → IsAtMost new t k w) →
    (t k w : ℕ) → IsAtMost old t k w → IsAtMost new t k w
at_least_kept new old kept t k w m = at_most new t k m.0 w m.1.0 (kept t k m.0 m.1.1)

pub spread_more : (p : ProfileName) (from : Cap) (left word : ℕ) (filled : List FullSlot) (count : ℕ) (a b c : List (List (Option ℕ))) →
    Spreads p from left word filled count a b → Visits p from left word filled count b c →
    Spreads p from left word filled (count + 1) a c
spread_more p from left word filled count a b c s v = record {
  kept = λ t k w e. at_least_kept c b v.kept t k w (s.kept t k w e);
  only = λ t k w e. elim (v.only t k w e) [
    | inl old ↦ s.only t k w old
    | inr new ↦ inr (rw new.0 new.1)
  ];
  noted = λ t k w h n. elim (cases_eq k count) [
    | inr ne ↦ at_least_kept c b v.kept t k w (s.noted t k w (omega arith) n)
    | inl e ↦ rw e (v.noted t w (rw e at n))
  ];
}

-- one entry more
pub row_spread_none : (p : ProfileName) (row : List (Option ℕ)) (left : ℕ) (filled : List FullSlot) (rows : List (List (Option ℕ))) → RowSpreads p row left filled 0 rows rows
row_spread_none p row left filled rows = record {
  kept = λ t k w e. (w, (omega arith, e));
  only = λ t k w e. inl e;
  noted = λ holder t k w h n. absurd (omega arith);
}

pub row_spread_more : (p : ProfileName) (row : List (Option ℕ)) (left : ℕ) (filled : List FullSlot) (count : ℕ) (a b c : List (List (Option ℕ))) (from : FullSlot) (word : ℕ) →
    slice_get filled count ≡ Some from → word_in row count ≡ Some word → RowSpreads p row left filled count a b →
    Spreads p from.cap left word filled (length filled) b c → RowSpreads p row left filled (count + 1) a c
row_spread_more p row left filled count a b c from word is has s v = record {
  kept = λ t k w e. at_least_kept c b v.kept t k w (s.kept t k w e);
  only = λ t k w e. elim (v.only t k w e) [
    | inl old ↦ s.only t k w old
    | inr new ↦ inr (count, record { from = from; word = word; holds = is; entered = has; next = new })
  ];
  noted = λ holder t k w h n. elim (cases_eq holder count) [
    | inr ne ↦ at_least_kept c b v.kept t k w (s.noted holder t k w (omega arith) n)
    | inl e ↦ (let found : slice_get filled count ≡ Some n.from = rw e at n.holds in
        let had : word_in row count ≡ Some n.word = rw e at n.entered in
        let same : from ≡ n.from = cc in
        let same' : word ≡ n.word = cc in
        v.noted t k w (slice_get_within filled k n.next.0 n.next.1.0) (rw (same, same') n.next))
  ];
}

pub row_spread_skip : (p : ProfileName) (row : List (Option ℕ)) (left : ℕ) (filled : List FullSlot) (count : ℕ) (a b : List (List (Option ℕ))) →
    word_in row count ≡ None → RowSpreads p row left filled count a b → RowSpreads p row left filled (count + 1) a b
row_spread_skip p row left filled count a b has s = record {
  kept = s.kept;
  only = s.only;
  noted = λ holder t k w h n. elim (cases_eq holder count) [
    | inr ne ↦ s.noted holder t k w (omega arith) n
    | inl e ↦ (let none : word_in row count ≡ Some n.word = rw e at n.entered in cc)
  ];
}

-- what the code does at one place
pub visit_noted : (p : ProfileName) (from : Cap) (left word place : ℕ) (filled : List FullSlot) (to : FullSlot) (rows new : List (List (Option ℕ))) (more next : ℕ) →
    slice_get filled place ≡ Some to → IsNoted more place next rows new → IsNext p from left word to.address to.cap more next →
    ((t w : ℕ) → IsNext p from left word to.address to.cap t w → ◌≡◌ {A = Option (ℕ × ℕ)} (Some (more, next)) (Some (t, w))) →
    Visits p from left word filled place rows new
visit_noted p from left word place filled to rows new more next here noted is each = record {
  kept = noted.kept;
  only = λ t k w e. elim (noted.only t k w e) [
    | inl old ↦ inl old
    | inr is' ↦ inr (is'.1.0, (to, (here, rw (is'.0, is'.1.1) is)))
  ];
  noted = λ t w n. (
      let same : to ≡ n.0 = (let there : slice_get filled place ≡ Some n.0 = n.1.0 in cc) in
      let pair : ◌≡◌ {A = Option (ℕ × ℕ)} (Some (more, next)) (Some (t, w)) = each t w (rw same n.1.1) in
      let both : ◌≡◌ {A = ℕ × ℕ} (more, next) (t, w) = cc in
      let more' : more ≡ t = ap (λ (x : ℕ × ℕ). x.0) both in
      let next' : next ≡ w = ap (λ (x : ℕ × ℕ). x.1) both in
      rw (← more', ← next') noted.there);
}

pub visit_none : (p : ProfileName) (from : Cap) (left word place : ℕ) (filled : List FullSlot) (to : FullSlot) (rows : List (List (Option ℕ))) →
    slice_get filled place ≡ Some to → ((t w : ℕ) → IsNext p from left word to.address to.cap t w → ⊥) → Visits p from left word filled place rows rows
visit_none p from left word place filled to rows here none = record {
  kept = λ t k w e. (w, (omega arith, e));
  only = λ t k w e. inl e;
  noted = λ t w n. absurd (let there : slice_get filled place ≡ Some n.0 = n.1.0 in
      let same : to ≡ n.0 = cc in
      none t w (rw same n.1.1));
}

-- a row has no words behind its places
pub word_inside : (row : List (Option ℕ)) (k w : ℕ) → word_in row k ≡ Some w → k < length row
word_inside row k w e = elim (cases_lt k (length row)) [
  | inl h ↦ h
  | inr late ↦ absurd (let none : word_in row k ≡ None = ap (option_and_then (λ (word : Option ℕ). word)) (slice_get_past row k late) in cc)
]

pub row_spread_all : (p : ProfileName) (row : List (Option ℕ)) (left : ℕ) (filled : List FullSlot) (count more : ℕ) (a b : List (List (Option ℕ))) →
    length row ≤ count → RowSpreads p row left filled count a b → RowSpreads p row left filled more a b
row_spread_all p row left filled count more a b past s = record {
  kept = s.kept;
  only = s.only;
  noted = λ holder t k w h n. s.noted holder t k w (let within = word_inside row holder n.word n.entered in omega arith) n;
}

-- a row as the code reads it
pub word_read : (row : List (Option ℕ)) (place : ℕ) (d o : Option ℕ) → place < length row → get_or row place d ≡ o → word_in row place ≡ o
word_read row place d o h e = ap (option_and_then (λ (word : Option ℕ). word)) (slice_get-get_or row place d h ∙ ap Some e)

-- where no next word is at a place in front of the first one looked at, or behind the last one
pub spread_from : (p : ProfileName) (from : Cap) (left word : ℕ) (filled : List FullSlot) (start : ℕ) (rows : List (List (Option ℕ))) →
    ((k t w : ℕ) → IsNextAt p from left word filled k t w → start ≤ k) → Spreads p from left word filled start rows rows
spread_from p from left word filled start rows front = record {
  kept = λ t k w e. (w, (omega arith, e));
  only = λ t k w e. inl e;
  noted = λ t k w h n. absurd (let f = front k t w n in omega arith);
}

pub spread_all : (p : ProfileName) (from : Cap) (left word : ℕ) (filled : List FullSlot) (count more : ℕ) (a b : List (List (Option ℕ))) →
    ((k t w : ℕ) → IsNextAt p from left word filled k t w → k < count) → Spreads p from left word filled count a b → Spreads p from left word filled more a b
spread_all p from left word filled count more a b back s = record {
  kept = s.kept;
  only = s.only;
  noted = λ t k w h n. s.noted t k w (back k t w n) n;
}

pub behind_start : (filled : List FullSlot) (start k base : ℕ) (u : FullSlot) → slice_get filled k ≡ Some u → base ≤ u.address →
    ((k : ℕ) (u : FullSlot) → k < start → slice_get filled k ≡ Some u → u.address < base) → start ≤ k
behind_start filled start k base u is low below = elim (cases_lt k start) [
  | inl early ↦ absurd (let b = below k u early is in omega arith)
  | inr late ↦ late
]

pub before_stop : (filled : List FullSlot) (stop k past : ℕ) (u : FullSlot) → slice_get filled k ≡ Some u → u.address < past →
    ((k : ℕ) (u : FullSlot) → stop ≤ k → slice_get filled k ≡ Some u → past ≤ u.address) → k < stop
before_stop filled stop k past u is low from = elim (cases_lt k stop) [
  | inl early ↦ early
  | inr late ↦ absurd (let f = from k u late is in omega arith)
]
