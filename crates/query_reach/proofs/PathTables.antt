-- What a path that is put leaves in a table, and paths put one after another.
use Rattle.std.proofs.Common.{◌≡◌, ◌≢◌, ℕ, zero, suc, ◌+◌, ◌<◌, ◌≤◌, ◌⊎◌, inl, inr, refl, sym, ap, ◌∙◌, arith, Bool, true, false, cond, ◌==◌, ◌&&◌, ◌||◌, nat_lt, List, [], ◌∷◌, ◌++◌, length, map, get_or, Option, None, Some, option_map, unwrap_or, set, replicate, eq-eqb}
use Rattle.std.specs.List.{slice_get}
use Rattle.std.proofs.lemmas.Bool.{cases_eq, cases_lt, ltb-true, ltb-false, eqb-true}
use Rattle.std.proofs.lemmas.List.{map-append, map-set, length-map, length-set, length-replicate}
use Rattle.std.proofs.lemmas.Option.{slice_get-map, slice_get_read, slice_get_within, slice_get_past}
use Rattle.std.specs.Option.{option_and_then}
use Rattle.cap_core.specs.declared.profile.ProfileName.{ProfileName}
use Rattle.cap_core.specs.declared.capability.Cap.{Cap}
use Rattle.cap_core.specs.declared.capability.Cap.TheVariants.{Null}
use Rattle.cap_core.specs.Numbers.{word_bits}
use Rattle.cap_core.specs.Objects.{IsLawful}
use Rattle.cspace_core.specs.Inside.{IsSlotOf}
use Rattle.cspace_core.proofs.Nodes.{lawful_node}
use Rattle.query_reach.specs.declared.filled.FullSlot.{FullSlot}
use Rattle.query_reach.specs.declared.paths.Path.{Path}
use Rattle.query_reach.specs.Private.Paths.{path_in, path_row, path_at, IsUpTo, lesser_path, first_with, put_in, put, HasUpTo, IsWide, IsOpened, IsPut}
use Rattle.query_reach.specs.Private.Exploring.{IsStep, IsStepAt, Adds, ExtendsExplored, ExtendsRow}
use Rattle.query_reach.proofs.Tabled.{slice_get-set_same, slice_get-set_other}

-- the order of paths
pub up_to_itself : (a : Path) → IsUpTo a a
up_to_itself a = inr (refl, omega arith)

pub up_to : (a b c : Path) → IsUpTo a b → IsUpTo b c → IsUpTo a c
up_to a b c (inl h) (inl k) = inl (omega arith)
up_to a b c (inl h) (inr k) = inl (let e = k.0 in omega arith)
up_to a b c (inr h) (inl k) = inl (let e = h.0 in omega arith)
up_to a b c (inr h) (inr k) = inr (h.0 ∙ k.0, (let x = h.1 in let y = k.1 in omega arith))

-- the lesser of two paths is one of them, and up to both
record Lesser (a b c : Path) : Type 0 where
  one : (c ≡ a) ⊎ (c ≡ b)
  left : IsUpTo c a
  right : IsUpTo c b

lesser : (a b : Path) → Lesser a b (lesser_path a b)
lesser a b = by_word (nat_lt b.word a.word) refl
  where
    by_index : (t : Bool) → nat_lt b.index a.index ≡ t → b.word ≡ a.word → Lesser a b (cond t b a)
    by_index true e same = record { one = inr refl; left = inr (same, (let h = ltb-true b.index a.index e in omega arith)); right = up_to_itself b }
    by_index false e same = record { one = inl refl; left = up_to_itself a; right = inr (sym same, (let h = ltb-false b.index a.index e in omega arith)) }

    by_same : (s : Bool) → (b.word == a.word) ≡ s → nat_lt b.word a.word ≡ false → Lesser a b (cond (s && nat_lt b.index a.index) b a)
    by_same true e late = by_index (nat_lt b.index a.index) refl (eqb-true b.word a.word e)
    by_same false e late = record {
      one = inl refl;
      left = up_to_itself a;
      right = inl (elim (cases_eq b.word a.word) as (λ _. a.word < b.word) [
        | inl same ↦ (let t = eq-eqb b.word a.word same in cc)
        | inr other ↦ (let h = ltb-false b.word a.word late in omega arith)
      ]);
    }

    by_word : (t : Bool) → nat_lt b.word a.word ≡ t → Lesser a b (cond (t || (b.word == a.word && nat_lt b.index a.index)) b a)
    by_word true e = record { one = inr refl; left = inl (ltb-true b.word a.word e); right = up_to_itself b }
    by_word false e = by_same (b.word == a.word) refl e

-- the code's write of a row
pub put_is : {A : Type 0} (items : A → List (Option Path)) (rows : List A) (read place : ℕ) (path : Path) (row row' : A) → read < length rows → row ≡ get_or rows read row →
    items row' ≡ put_in (items row) place path → map items (set rows read row') ≡ put (map items rows) read place path
put_is items rows read place path row row' h at e =
    let there : slice_get (map items rows) read ≡ Some (items row) = slice_get-map items rows read ∙ ap (option_map items) (slice_get_read rows (length rows) read row refl h at) in
    let row_is : path_row (map items rows) read ≡ items row = ap (λ (o : Option (List (Option Path))). unwrap_or o []) there in
    map-set items rows read row' ∙ ap (set (map items rows) read) (e ∙ ap (λ (r : List (Option Path)). put_in r place path) (sym row_is))

row-set_same : (rows : List (List (Option Path))) (read : ℕ) (row : List (Option Path)) → read < length rows → path_row (set rows read row) read ≡ row
row-set_same rows read row h = ap (λ (o : Option (List (Option Path))). unwrap_or o []) (slice_get-set_same rows read row h)

row-set_other : (rows : List (List (Option Path))) (read t : ℕ) (row : List (Option Path)) → t ≢ read → path_row (set rows read row) t ≡ path_row rows t
row-set_other rows read t row h = ap (λ (o : Option (List (Option Path))). unwrap_or o []) (slice_get-set_other rows read t row h)

put_there : (rows : List (List (Option Path))) (read place : ℕ) (path : Path) → read < length rows → place < length (path_row rows read) →
    path_at (put rows read place path) read place ≡ Some (first_with path (path_at rows read place))
put_there rows read place path h h' = rw (row-set_same rows read (put_in (path_row rows read) place path) h, slice_get-set_same (path_row rows read) place (Some (first_with path (path_at rows read place))) h') refl

put_beside : (rows : List (List (Option Path))) (read place k : ℕ) (path : Path) → read < length rows → k ≢ place → path_at (put rows read place path) read k ≡ path_at rows read k
put_beside rows read place k path h ne = rw (row-set_same rows read (put_in (path_row rows read) place path) h, slice_get-set_other (path_row rows read) place k (Some (first_with path (path_at rows read place))) ne) refl

put_elsewhere : (rows : List (List (Option Path))) (read place t k : ℕ) (path : Path) → t ≢ read → path_at (put rows read place path) t k ≡ path_at rows t k
put_elsewhere rows read place t k path ne = ap (λ (r : List (Option Path)). path_in r k) (row-set_other rows read t (put_in (path_row rows read) place path) ne)

first-below : (path : Path) (known : Option Path) → IsUpTo (first_with path known) path
first-below path None = up_to_itself path
first-below path (Some known) = (lesser known path).right

first-is : (path v : Path) (known : Option Path) → ◌≡◌ {A = Option Path} (Some (first_with path known)) (Some v) → (known ≡ Some v) ⊎ (v ≡ path)
first-is path v None e = let s : path ≡ v = cc in inr (sym s)
first-is path v (Some old) e =
    let s : lesser_path old path ≡ v = cc in
    elim (lesser old path).one [ inl is ↦ inl (ap Some (sym is ∙ s)) | inr is ↦ inr (sym s ∙ is) ]

first-keeps : (path v : Path) (known : Option Path) → known ≡ Some v → IsUpTo (first_with path known) v
first-keeps path v None e = cc
first-keeps path v (Some old) e = let s : old ≡ v = cc in rw (← s) (lesser old path).left

-- the facts of one write
is_put : (rows : List (List (Option Path))) (read place : ℕ) (path : Path) → read < length rows → place < length (path_row rows read) → IsPut rows read place path (put rows read place path)
is_put rows read place path h h' = record {
  front = λ t k less. put_elsewhere rows read place t k path (λ e. omega arith);
  kept = λ t k w e. elim (cases_eq t read) [
    | inr ne ↦ (w, (up_to_itself w, put_elsewhere rows read place t k path ne ∙ e))
    | inl is ↦ elim (cases_eq k place) [
      | inr ne ↦ (w, (up_to_itself w, rw is (put_beside rows read place k path h ne ∙ rw is at e)))
      | inl is' ↦ (let e' : path_at rows read place ≡ Some w = rw (is, is') at e in
          (first_with path (path_at rows read place), (first-keeps path w (path_at rows read place) e', rw (is, is') (put_there rows read place path h h'))))
    ]
  ];
  only = λ t k w e. elim (cases_eq t read) [
    | inr ne ↦ inl (sym (put_elsewhere rows read place t k path ne) ∙ e)
    | inl is ↦ elim (cases_eq k place) [
      | inr ne ↦ inl (rw is (sym (put_beside rows read place k path h ne) ∙ rw is at e))
      | inl is' ↦ elim (first-is path w (path_at rows read place) (sym (put_there rows read place path h h') ∙ rw (is, is') at e)) [
        | inl old ↦ inl (rw (is, is') old)
        | inr new ↦ inr (is, (is', new))
      ]
    ]
  ];
  there = (first_with path (path_at rows read place), (first-below path (path_at rows read place), put_there rows read place path h h'));
}

width-same : (row row' : List (Option Path)) (width : ℕ) → length row' ≡ length row → (length row ≡ 0) ⊎ (length row ≡ width) → (length row' ≡ 0) ⊎ (length row' ≡ width)
width-same row row' width e (inl h) = inl (e ∙ h)
width-same row row' width e (inr h) = inr (e ∙ h)

put_width : (rows : List (List (Option Path))) (read place t : ℕ) (path : Path) → read < length rows → length (path_row (put rows read place path) t) ≡ length (path_row rows t)
put_width rows read place t path h = elim (cases_eq t read) [
  | inr ne ↦ ap length (row-set_other rows read t (put_in (path_row rows read) place path) ne)
  | inl e ↦ rw e (ap length (row-set_same rows read (put_in (path_row rows read) place path) h)
      ∙ length-set (path_row rows read) place (Some (first_with path (path_at rows read place))))
]

put_wide : (height width : ℕ) (rows : List (List (Option Path))) (read place : ℕ) (path : Path) → read < length rows → IsWide height width rows → IsWide height width (put rows read place path)
put_wide height width rows read place path h is = record {
  high = length-set rows read (put_in (path_row rows read) place path) ∙ is.high;
  wide = λ t. width-same (path_row rows t) (path_row (put rows read place path) t) width (put_width rows read place t path h) (is.wide t);
}

-- a row that is given places
row_none : (width k : ℕ) → path_in (replicate width None) k ≡ None
row_none zero k = refl
row_none (suc width) zero = refl
row_none (suc width) (suc k) = row_none width k

no_path : (row : List (Option Path)) (k : ℕ) → length row ≡ 0 → path_in row k ≡ None
no_path [] k e = refl
no_path (path ∷ row) k e = absurd (omega arith)

opened : (rows : List (List (Option Path))) (read width : ℕ) → read < length rows → length (path_row rows read) ≡ 0 →
    IsOpened read width rows (set rows read (replicate width None))
opened rows read width h none = record {
  wide = λ height is. record {
    high = length-set rows read (replicate width None) ∙ is.high;
    wide = λ t. elim (cases_eq t read) [
      | inr ne ↦ width-same (path_row rows t) (path_row (set rows read (replicate width None)) t) width (ap length (row-set_other rows read t (replicate width None) ne)) (is.wide t)
      | inl e ↦ inr (rw e (ap length (row-set_same rows read (replicate width None) h) ∙ length-replicate width None))
    ];
  };
  places = ap length (row-set_same rows read (replicate width None) h) ∙ length-replicate width None;
  paths = λ t k. elim (cases_eq t read) [
    | inr ne ↦ ap (λ (r : List (Option Path)). path_in r k) (row-set_other rows read t (replicate width None) ne)
    | inl e ↦ rw e (ap (λ (r : List (Option Path)). path_in r k) (row-set_same rows read (replicate width None) h) ∙ (row_none width k ∙ sym (no_path (path_row rows read) k none)))
  ];
}

pub row_read : {A : Type 0} (items : A → List (Option Path)) (rows : List A) (read : ℕ) (row : A) → read < length rows → row ≡ get_or rows read row → path_row (map items rows) read ≡ items row
row_read items rows read row h at =
    let there : slice_get (map items rows) read ≡ Some (items row) = slice_get-map items rows read ∙ ap (option_map items) (slice_get_read rows (length rows) read row refl h at) in
    ap (λ (o : Option (List (Option Path))). unwrap_or o []) there

pub open_is : {A : Type 0} (items : A → List (Option Path)) (rows : List A) (read width : ℕ) (row row' : A) → read < length rows → row ≡ get_or rows read row →
    length (items row) ≡ 0 → items row' ≡ replicate width None → IsOpened read width (map items rows) (map items (set rows read row'))
open_is items rows read width row row' h at none e =
    let m : length (map items rows) ≡ length rows = rw length-map refl in
    rw (map-set items rows read row', e) (opened (map items rows) read width (omega arith) (ap length (row_read items rows read row h at) ∙ none))

pub open_already : {A : Type 0} (items : A → List (Option Path)) (rows : List A) (read height width : ℕ) (row : A) → read < length rows → row ≡ get_or rows read row →
    (length (items row) ≡ 0 → ⊥) → IsWide height width (map items rows) → IsOpened read width (map items rows) (map items rows)
open_already items rows read height width row h at some wide = record {
  wide = λ height is. is;
  places = elim (wide.wide read) [
    | inl none ↦ absurd (some (sym (ap length (row_read items rows read row h at)) ∙ none))
    | inr is ↦ is
  ];
  paths = λ t k. refl;
}

-- and in which a path is put
pub put_opened : (old mid : List (List (Option Path))) (read width place : ℕ) (path : Path) → IsOpened read width old mid → read < length mid → place < width →
    IsPut old read place path (put mid read place path)
put_opened old mid read width place path o h low =
    let p = is_put mid read place path h (omega (arith, low, o.places)) in
    record {
      front = λ t k less. p.front t k less ∙ o.paths t k;
      kept = λ t k w e. p.kept t k w (o.paths t k ∙ e);
      only = λ t k w e. elim (p.only t k w e) [
        | inl was ↦ inl (sym (o.paths t k) ∙ was)
        | inr new ↦ inr new
      ];
      there = p.there;
    }

pub wide_opened : (old mid : List (List (Option Path))) (read width place : ℕ) (path : Path) → IsOpened read width old mid → read < length mid →
    (height : ℕ) → IsWide height width old → IsWide height width (put mid read place path)
wide_opened old mid read width place path o h height is = put_wide height width mid read place path h (o.wide height is)

-- nothing later than before
pub later : (rows : List (List (Option Path))) (t k : ℕ) (w v : Path) → IsUpTo w v → HasUpTo rows t k w → HasUpTo rows t k v
later rows t k w v h m = (m.0, (up_to m.0 w v m.1.0 h, m.1.1))

pub still : (new old : List (List (Option Path))) → ((t k : ℕ) (w : Path) → path_at old t k ≡ Some w → HasUpTo new t k w) → (t k : ℕ) (w : Path) → HasUpTo old t k w → HasUpTo new t k w
still new old kept t k w m = later new t k m.0 w m.1.0 (kept t k m.0 m.1.1)

-- what the code does at one place
pub add_put : (p : ProfileName) (from : Cap) (read : ℕ) (path : Path) (place slot more : ℕ) (next : Path) (rows new : List (List (Option Path))) → read < more →
    IsPut rows more place next new → IsStep p from read path slot more next →
    ((t : ℕ) (w : Path) → IsStep p from read path slot t w → ◌≡◌ {A = Option (ℕ × Path)} (Some (more, next)) (Some (t, w))) →
    Adds p from read path place slot rows new
add_put p from read path place slot more next rows new above is step each = record {
  front = λ t k low. is.front t k (omega arith);
  kept = is.kept;
  only = λ t k w e. elim (is.only t k w e) [
    | inl old ↦ inl old
    | inr new' ↦ inr (new'.1.0, rw (new'.0, new'.1.1) step)
  ];
  added = λ t w s. (
      let pair : ◌≡◌ {A = Option (ℕ × Path)} (Some (more, next)) (Some (t, w)) = each t w s in
      let both : ◌≡◌ {A = ℕ × Path} (more, next) (t, w) = cc in
      let more' : more ≡ t = ap (λ (x : ℕ × Path). x.0) both in
      let next' : next ≡ w = ap (λ (x : ℕ × Path). x.1) both in
      rw (← more', ← next') is.there);
}

pub add_none : (p : ProfileName) (from : Cap) (read : ℕ) (path : Path) (place slot : ℕ) (rows : List (List (Option Path))) →
    ((t : ℕ) (w : Path) → IsStep p from read path slot t w → ⊥) → Adds p from read path place slot rows rows
add_none p from read path place slot rows none = record {
  front = λ t k low. refl;
  kept = λ t k w e. (w, (up_to_itself w, e));
  only = λ t k w e. inl e;
  added = λ t w s. absurd (none t w s);
}

-- one place more
pub extend_from : (p : ProfileName) (from : Cap) (read : ℕ) (path : Path) (filled : List FullSlot) (start : ℕ) (rows : List (List (Option Path))) →
    ((k t : ℕ) (w : Path) → IsStepAt p from read path filled k t w → start ≤ k) → ExtendsExplored p from read path filled start rows rows
extend_from p from read path filled start rows front = record {
  front = λ t k low. refl;
  kept = λ t k w e. (w, (up_to_itself w, e));
  only = λ t k w e. inl e;
  added = λ t k w h s. absurd (let f = front k t w s in omega arith);
}

pub extend_more : (p : ProfileName) (from : Cap) (read : ℕ) (path : Path) (filled : List FullSlot) (count : ℕ) (a b c : List (List (Option Path))) (to : FullSlot) →
    slice_get filled count ≡ Some to → ExtendsExplored p from read path filled count a b → Adds p from read path count to.address b c →
    ExtendsExplored p from read path filled (count + 1) a c
extend_more p from read path filled count a b c to is s v = record {
  front = λ t k low. v.front t k low ∙ s.front t k low;
  kept = λ t k w e. still c b v.kept t k w (s.kept t k w e);
  only = λ t k w e. elim (v.only t k w e) [
    | inl old ↦ s.only t k w old
    | inr new ↦ inr (to, (rw new.0 is, new.1))
  ];
  added = λ t k w h n. elim (cases_eq k count) [
    | inr ne ↦ still c b v.kept t k w (s.added t k w (omega arith) n)
    | inl e ↦ (let found : slice_get filled count ≡ Some n.0 = rw e at n.1.0 in
        let same : to ≡ n.0 = cc in
        rw e (v.added t w (rw same n.1.1)))
  ];
}

pub extend_all : (p : ProfileName) (from : Cap) (read : ℕ) (path : Path) (filled : List FullSlot) (count more : ℕ) (a b : List (List (Option Path))) →
    ((k t : ℕ) (w : Path) → IsStepAt p from read path filled k t w → k < count) → ExtendsExplored p from read path filled count a b → ExtendsExplored p from read path filled more a b
extend_all p from read path filled count more a b back s = record {
  front = s.front;
  kept = s.kept;
  only = s.only;
  added = λ t k w h n. s.added t k w (back k t w n) n;
}

-- one path of a row more
pub extend_row_none : (p : ProfileName) (read : ℕ) (filled : List FullSlot) (rows : List (List (Option Path))) → ExtendsRow p read filled 0 rows rows
extend_row_none p read filled rows = record {
  front = λ t k low. refl;
  kept = λ t k w e. (w, (up_to_itself w, e));
  only = λ t k w e. inl e;
  added = λ holder t k w h n. absurd (omega arith);
}

pub extend_row_more : (p : ProfileName) (read : ℕ) (filled : List FullSlot) (count : ℕ) (a b c : List (List (Option Path))) (from : FullSlot) (path : Path) →
    slice_get filled count ≡ Some from → path_at b read count ≡ Some path → ExtendsRow p read filled count a b →
    ExtendsExplored p from.cap read path filled (length filled) b c → ExtendsRow p read filled (count + 1) a c
extend_row_more p read filled count a b c from path is has s v =
    let had : path_at a read count ≡ Some path = sym (s.front read count (omega arith)) ∙ has in record {
      front = λ t k low. v.front t k low ∙ s.front t k low;
      kept = λ t k w e. still c b v.kept t k w (s.kept t k w e);
      only = λ t k w e. elim (v.only t k w e) [
        | inl old ↦ s.only t k w old
        | inr new ↦ inr (count, record { from = from; path = path; holds = is; entered = had; step = new })
      ];
      added = λ holder t k w h n. elim (cases_eq holder count) [
        | inr ne ↦ still c b v.kept t k w (s.added holder t k w (omega arith) n)
        | inl e ↦ (let found : slice_get filled count ≡ Some n.from = rw e at n.holds in
            let had' : path_at a read count ≡ Some n.path = rw e at n.entered in
            let same : from ≡ n.from = cc in
            let same' : path ≡ n.path = cc in
            v.added t k w (slice_get_within filled k n.step.0 n.step.1.0) (rw (same, same') n.step))
      ];
    }

pub extend_row_skip : (p : ProfileName) (read : ℕ) (filled : List FullSlot) (count : ℕ) (a b : List (List (Option Path))) →
    path_at b read count ≡ None → ExtendsRow p read filled count a b → ExtendsRow p read filled (count + 1) a b
extend_row_skip p read filled count a b has s = record {
  front = s.front;
  kept = s.kept;
  only = s.only;
  added = λ holder t k w h n. elim (cases_eq holder count) [
    | inr ne ↦ s.added holder t k w (omega arith) n
    | inl e ↦ (let none : path_at a read count ≡ None = sym (s.front read count (omega arith)) ∙ has in
        let some : path_at a read count ≡ Some n.path = rw e at n.entered in
        cc)
  ];
}

-- a row has no paths behind its places
pub extend_row_all : (p : ProfileName) (read : ℕ) (filled : List FullSlot) (count more : ℕ) (a b : List (List (Option Path))) →
    length (path_row a read) ≤ count → ExtendsRow p read filled count a b → ExtendsRow p read filled more a b
extend_row_all p read filled count more a b past s = record {
  front = s.front;
  kept = s.kept;
  only = s.only;
  added = λ holder t k w h n. s.added holder t k w (let within = path_within (path_row a read) holder n.path n.entered in omega arith) n;
}
  where
    path_within : (row : List (Option Path)) (k : ℕ) (path : Path) → path_in row k ≡ Some path → k < length row
    path_within row k path e = elim (cases_lt k (length row)) [
      | inl h ↦ h
      | inr late ↦ absurd (let none : path_in row k ≡ None = ap (option_and_then (λ (path : Option Path). path)) (slice_get_past row k late) in cc)
    ]

-- a step is to a slot of the CNode, and reads bits
pub step_inside : (p : ProfileName) (from : Cap) (read : ℕ) (path : Path) (slot more : ℕ) (next : Path) → IsStep p from read path slot more next → IsSlotOf p from slot
step_inside p from read path slot more next s = rw s.node (s.number, (s.within, s.chosen))

pub step_above : (p : ProfileName) (memory : ℕ) (from : Cap) (read : ℕ) (path : Path) (slot more : ℕ) (next : Path) → (from ≡ Null) ⊎ IsLawful p memory from →
    IsStep p from read path slot more next → (read < more) × (more ≤ word_bits p)
step_above p memory from read path slot more next lawful s =
    let node = lawful_node p memory s.base s.radix s.guard (rw s.node at lawful) in
    let some : 1 ≤ s.radix = node.holds.some in
    let fits : read + (s.guard.size + s.radix) ≤ word_bits p = s.fits in
    let bits : more ≡ read + (s.guard.size + s.radix) = s.bits in
    (omega arith, omega arith)

-- rows with no paths
replicate_more : {X : Type 0} (n : ℕ) (x : X) → replicate n x ++ x ∷ [] ≡ replicate (n + 1) x
replicate_more zero x = refl
replicate_more (suc n) x =
    let e : suc n + 1 ≡ suc (n + 1) = omega arith in
    rw e (ap (λ (l : List _). x ∷ l) (replicate_more n x))

pub rows_more : {A : Type 0} (items : A → List (Option Path)) (rows : List A) (row : A) (n : ℕ) (x : List (Option Path)) → map items rows ≡ replicate n x → items row ≡ x →
    map items (rows ++ row ∷ []) ≡ replicate (n + 1) x
rows_more items rows row n x e e' =
    map-append items rows (row ∷ [])
    ∙ (ap (λ (l : List (List (Option Path))). l ++ items row ∷ []) e
    ∙ (ap (λ (r : List (Option Path)). replicate n x ++ r ∷ []) e' ∙ replicate_more n x))

row_empty : (height t : ℕ) → path_row (replicate height []) t ≡ []
row_empty zero t = refl
row_empty (suc height) zero = refl
row_empty (suc height) (suc t) = row_empty height t

pub empty_wide : (height width : ℕ) (rows : List (List (Option Path))) → rows ≡ replicate height [] → IsWide height width rows
empty_wide height width rows e = rw e (record { high = length-replicate height []; wide = λ t. inl (ap length (row_empty height t)) })

pub empty_none : (height : ℕ) (rows : List (List (Option Path))) → rows ≡ replicate height [] → (t k : ℕ) → path_at rows t k ≡ None
empty_none height rows e t k = rw e (ap (λ (r : List (Option Path)). path_in r k) (row_empty height t))
