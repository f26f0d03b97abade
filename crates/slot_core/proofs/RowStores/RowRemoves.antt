-- The rows of a store without one of them: those below it come up by one.
use Rattle.std.proofs.Common.{zero, suc, ◌≡◌, ◌≢◌, ℕ, ◌+◌, ◌-◌, ◌^◌, ◌<◌, ◌≤◌, Bool, true, false, cond, ltb, List, [], ◌∷◌, ◌++◌, map, length, take, drop, set, get_or, refl, sym, ◌∙◌, ap, subst, arith}
use Rattle.std.specs.List.{AllByRecursion as Each, remove}
use Rattle.std.proofs.Math.Seq.{take-append_seam, drop-append_seam, take-length}
use Rattle.std.proofs.lemmas.Bool.Decides.{nat_tests}
use Rattle.std.proofs.lemmas.List.{map-append, length-append, append-nil, take-append-drop, length-drop}
use Rattle.cap_core.specs.declared.profile.ProfileName.{ProfileName}
use Rattle.cap_core.specs.Objects.{is_untyped, IsLawful}
use Rattle.slot_core.specs.declared.slot.Slot.{Slot}
use Rattle.slot_core.specs.declared.rows.Row.{Row}
use Rattle.kernel_forest.specs.Forest.{Forest, none, tree, out, renamed, build}
use Rattle.kernel_forest.specs.Entries.{is_at}
use Rattle.kernel_forest.specs.Derivation.{emptied}
use Rattle.slot_core.specs.Places.{address_of}
use Rattle.slot_core.specs.Rows.{is_deeper, entry_of, forest_of, place_of, derived_depth, raised, IsStepwise, AreApart, IsRowStore}
use Rattle.kernel_forest.proofs.Trees.Built.{Absent, StopsAtOnce}
use Rattle.kernel_forest.proofs.Trees.Nested.{IsTransitive}
use Rattle.kernel_forest.proofs.Trees.BuiltRenamed.{AgreeUnder, build-renamed}
use Rattle.kernel_forest.proofs.Trees.BuiltOut.{renamed-out}
use Rattle.kernel_forest.proofs.Trees.BuiltRuns.{AgreeRun, AgreeRuns, HandedRuns, build-out_runs}
use Rattle.slot_core.proofs.RowStores.RowLists.{row_is, Stands, standing_once, standing_stepwise}

-- a row with the depth that it will have
abbrev pub Turn : Type 0
Turn = Row × ℕ

abbrev pub was : Turn → Row
was z = z.0

abbrev pub will : Turn → Row
will z = record (z.0) { depth = z.1 }

abbrev pub kept : List Row → List Turn
kept [] = []
kept (r ∷ l) = (r, r.depth) ∷ kept l

abbrev pub turns : ℕ → List Row → List Turn
turns d [] = []
turns d (r ∷ l) = cond (ltb d r.depth) ((r, r.depth - 1) ∷ turns d l) (kept (r ∷ l))

abbrev pub t : Turn → Turn → Bool
t z w = ltb z.0.depth w.0.depth

abbrev pub t' : Turn → Turn → Bool
t' z w = ltb z.1 w.1

abbrev pub IsKept : Turn → Type 0
IsKept z = z.1 ≡ z.0.depth

kept-was : (l : List Row) → map was (kept l) ≡ l
kept-was [] = refl
kept-was (r ∷ l) = ap (λ m. r ∷ m) (kept-was l)

kept-will : (l : List Row) → map will (kept l) ≡ l
kept-will [] = refl
kept-will (r ∷ l) = ap (λ m. r ∷ m) (kept-will l)

turns-was : (d : ℕ) (l : List Row) → map was (turns d l) ≡ l
turns-was d [] = refl
turns-was d (r ∷ l) = elim (ltb d r.depth) as (λ c. map was (cond c ((r, r.depth - 1) ∷ turns d l) (kept (r ∷ l))) ≡ r ∷ l) [ true ↦ ap (λ m. r ∷ m) (turns-was d l) | false ↦ kept-was (r ∷ l) ]

turns-will : (d : ℕ) (l : List Row) → map will (turns d l) ≡ raised d l
turns-will d [] = refl
turns-will d (r ∷ l) = elim (ltb d r.depth) as (λ c. map will (cond c ((r, r.depth - 1) ∷ turns d l) (kept (r ∷ l))) ≡ cond c (record r { depth = r.depth - 1 } ∷ raised d l) (r ∷ l)) [ true ↦ ap (λ m. record r { depth = r.depth - 1 } ∷ m) (turns-will d l) | false ↦ kept-will (r ∷ l) ]

pub t-transitive : IsTransitive t
t-transitive x y z h k = lt x.0.depth y.0.depth z.0.depth h k
  where
    lt : (a b c : ℕ) → ltb a b ≡ true → ltb b c ≡ true → ltb a c ≡ true
    lt a b c h k = grind (arith, nat_tests)

-- numbers
pub both_lower : (d a b : ℕ) → d < a → ltb d b ≡ true → ltb (a - 1) (b - 1) ≡ ltb a b
both_lower d a b h k = grind (arith, nat_tests)

pub first_kept : (d a b : ℕ) → d < a → ltb d b ≡ false → (ltb (a - 1) b ≡ false) × (ltb a b ≡ false)
first_kept d a b h k = (grind (arith, nat_tests), grind (arith, nat_tests))

pub above : (d p b : ℕ) → ltb p d ≡ true → ltb d b ≡ true → ltb p (b - 1) ≡ ltb p b
above d p b h k = grind (arith, nat_tests)

pub stops_low : (d p b : ℕ) → ltb p d ≡ false → b ≤ d + 1 → ltb p (b - 1) ≡ false
stops_low d p b h k = grind (arith, nat_tests)

pub stops_kept : (d p b : ℕ) → ltb p d ≡ false → ltb d b ≡ false → ltb p b ≡ false
stops_kept d p b h k = grind (arith, nat_tests)

pub above_yes : (d b : ℕ) → ltb d b ≡ true → d < b
above_yes d b h = grind (arith, nat_tests)

pub same_kept : (p : Row) (l : List Row) → Each (λ z. t' (p, p.depth) z ≡ t (p, p.depth) z) (kept l)
same_kept p [] = tt
same_kept p (r ∷ l) = (refl, same_kept p l)

pub runs_kept : (p : Row) (l : List Row) → AgreeRun (t (p, p.depth)) (t' (p, p.depth)) (kept l)
runs_kept p [] = tt
runs_kept p (r ∷ l) = (refl, (λ e. runs_kept p l))

pub all_runs_kept : (l : List Row) → AgreeRuns t t' (kept l)
all_runs_kept [] = tt
all_runs_kept (r ∷ l) = (runs_kept r l, all_runs_kept l)

-- of a row that comes up, the run over those that come up with it
pub runs_lower : (d : ℕ) (a : Row) (l : List Row) → d < a.depth → AgreeRun (t (a, a.depth - 1)) (t' (a, a.depth - 1)) (turns d l)
runs_lower d a [] h = tt
runs_lower d a (r ∷ l) h =
    (elim (ltb d r.depth) as (λ c. ltb d r.depth ≡ c → AgreeRun (t (a, a.depth - 1)) (t' (a, a.depth - 1)) (cond c ((r, r.depth - 1) ∷ turns d l) (kept (r ∷ l)))) [
      | true ↦ λ e. (both_lower d a.depth r.depth h e, (λ k. runs_lower d a l h))
      | false ↦ λ e. ((first_kept d a.depth r.depth h e).0 ∙ sym (first_kept d a.depth r.depth h e).1, (λ k. absurd (let n : ltb a.depth r.depth ≡ false = (first_kept d a.depth r.depth h e).1 in cc)))
    ]) refl

pub all_runs : (d : ℕ) (l : List Row) → AgreeRuns t t' (turns d l)
all_runs d [] = tt
all_runs d (r ∷ l) =
    (elim (ltb d r.depth) as (λ c. ltb d r.depth ≡ c → AgreeRuns t t' (cond c ((r, r.depth - 1) ∷ turns d l) (kept (r ∷ l)))) [
      | true ↦ λ e. (runs_lower d r l (above_yes d r.depth e), all_runs d l)
      | false ↦ λ e. all_runs_kept (r ∷ l)
    ]) refl

pub same_above : (d : ℕ) (p : Row) (l : List Row) → ltb p.depth d ≡ true → Each (λ z. t' (p, p.depth) z ≡ t (p, p.depth) z) (turns d l)
same_above d p [] h = tt
same_above d p (r ∷ l) h =
    (elim (ltb d r.depth) as (λ c. ltb d r.depth ≡ c → Each (λ z. t' (p, p.depth) z ≡ t (p, p.depth) z) (cond c ((r, r.depth - 1) ∷ turns d l) (kept (r ∷ l)))) [
      | true ↦ λ e. (above d p.depth r.depth h e, same_above d p l h)
      | false ↦ λ e. same_kept p (r ∷ l)
    ]) refl

pub stop_there : (d : ℕ) (p : Row) (l : List Row) → ltb p.depth d ≡ false → IsStepwise (d + 1) l → StopsAtOnce (t' (p, p.depth)) (turns d l)
stop_there d p [] h w = tt
stop_there d p (r ∷ l) h w =
    (elim (ltb d r.depth) as (λ c. ltb d r.depth ≡ c → StopsAtOnce (t' (p, p.depth)) (cond c ((r, r.depth - 1) ∷ turns d l) (kept (r ∷ l)))) [
      | true ↦ λ e. stops_low d p.depth r.depth h w.0
      | false ↦ λ e. stops_kept d p.depth r.depth h e
    ]) refl

pub each-two : (P : Turn → Type 0) (xs ys : List Turn) → Each P xs → Each P ys → Each P (xs ++ ys)
each-two P [] ys h g = g
each-two P (x ∷ xs) ys h g = (h.0, each-two P xs ys h.1 g)

pub handed_lower : (pre : List Row) (s : Row) (post : List Row) → IsStepwise (s.depth + 1) post → HandedRuns t t' (s, s.depth) (kept pre) (turns s.depth post)
handed_lower [] s post w = all_runs s.depth post
handed_lower (p ∷ pre) s post w = (
  (λ e. each-two (λ z. t' (p, p.depth) z ≡ t (p, p.depth) z) (kept pre) (turns s.depth post) (same_kept p pre) (same_above s.depth p post e)),
  (λ e. (same_kept p pre, stop_there s.depth p post e w)),
  handed_lower pre s post w,
)

absent_kept : (is : Row → Bool) (l : List Row) → Absent is l → Absent (λ z. is (was z)) (kept l)
absent_kept is [] h = tt
absent_kept is (r ∷ l) h = (h.0, absent_kept is l h.1)

absent_turns : (is : Row → Bool) (d : ℕ) (l : List Row) → Absent is l → Absent (λ z. is (was z)) (turns d l)
absent_turns is d [] h = tt
absent_turns is d (r ∷ l) h =
    elim (ltb d r.depth) as (λ c. Absent (λ z. is (was z)) (cond c ((r, r.depth - 1) ∷ turns d l) (kept (r ∷ l)))) [
      | true ↦ (h.0, absent_turns is d l h.1)
      | false ↦ absent_kept is (r ∷ l) h
    ]

pub under_was : (l : List Turn) → AgreeUnder was t is_deeper l
under_was [] = tt
under_was (a ∷ l) = (each l, under_was l)
  where
    each : (m : List Turn) → Each (λ b. is_deeper (was a) (was b) ≡ t a b) m
    each [] = tt
    each (b ∷ m) = (refl, each m)

pub under_will : (l : List Turn) → AgreeUnder will t' is_deeper l
under_will [] = tt
under_will (a ∷ l) = (each l, under_will l)
  where
    each : (m : List Turn) → Each (λ b. is_deeper (will a) (will b) ≡ t' a b) m
    each [] = tt
    each (b ∷ m) = (refl, each m)

entries_same : (p : ProfileName) (f : Forest Turn) → renamed (entry_of p) (renamed will f) ≡ renamed (entry_of p) (renamed was f)
entries_same p none = refl
entries_same p (tree a k r) = rw (entries_same p k, entries_same p r)

-- a slot's row is taken out, and those below it come up by one
removed : (p : ProfileName) (slot : Slot) (pre : List Row) (s : Row) (post : List Row) → row_is p slot s ≡ true → Absent (row_is p slot) pre → Absent (row_is p slot) post → IsStepwise (s.depth + 1) post
    → forest_of p (pre ++ raised s.depth post) ≡ emptied (address_of p slot) (forest_of p (pre ++ s ∷ post))
removed p slot pre s post e a b w =
    let is : Row → Bool = row_is p slot in
    let z : List Turn = kept pre ++ turns s.depth post in
    let y : List Turn = kept pre ++ (s, s.depth) ∷ turns s.depth post in
    let mz : map will z ≡ pre ++ raised s.depth post = map-append will (kept pre) (turns s.depth post) ∙ ap (λ m. m ++ map will (turns s.depth post)) (kept-will pre) ∙ ap (λ m. pre ++ m) (turns-will s.depth post) in
    let my : map was y ≡ pre ++ s ∷ post = map-append was (kept pre) ((s, s.depth) ∷ turns s.depth post) ∙ ap (λ m. m ++ s ∷ map was (turns s.depth post)) (kept-was pre) ∙ ap (λ m. pre ++ s ∷ m) (turns-was s.depth post) in
    let built : build t' z ≡ out (λ q. is (was q)) (build t y) = build-out_runs t t' t-transitive (λ q. is (was q)) (kept pre) (s, s.depth) (turns s.depth post) e (absent_kept is pre a) (absent_turns is s.depth post b) (handed_lower pre s post w) in
    ap (forest_of p) (sym mz)
    ∙ ap (renamed (entry_of p)) (build-renamed will t' is_deeper z (under_will z))
    ∙ entries_same p (build t' z)
    ∙ ap (λ f. renamed (entry_of p) (renamed was f)) built
    ∙ ap (renamed (entry_of p)) (renamed-out was is (build t y))
    ∙ renamed-out (entry_of p) (is_at (address_of p slot)) (renamed was (build t y))
    ∙ ap (λ f. out (is_at (address_of p slot)) (renamed (entry_of p) f)) (sym (build-renamed was t is_deeper y (under_was y)))
    ∙ ap (λ m. emptied (address_of p slot) (forest_of p m)) my

-- the rows behind it are at most one deeper
higher : (a b : ℕ) (l : List Row) → IsStepwise a l → a ≤ b → IsStepwise b l
higher a b [] k le = tt
higher a b (r ∷ l) k le = ((let z : r.depth ≤ a = k.0 in omega arith), k.1)

derived_most : (b : Bool) (n : ℕ) → cond b (n + 1) n ≤ n + 1
derived_most true n = omega arith
derived_most false n = omega arith

derived_least : (b : Bool) (n : ℕ) → n ≤ cond b (n + 1) n
derived_least true n = omega arith
derived_least false n = omega arith

remove_there : (pre : List Row) (s : Row) (post : List Row) → remove (pre ++ s ∷ post) (length pre) ≡ pre ++ post
remove_there [] s post = refl
remove_there (q ∷ pre) s post = ap (λ m. q ∷ m) (remove_there pre s post)

-- the rows without the slot's, and with those behind it raised
without : (p : ProfileName) (slot : Slot) (l : List Row) (s : Stands p slot l)
    → take (place_of slot.place l) (remove l (place_of slot.place l)) ++ raised s.row.depth (drop (place_of slot.place l) (remove l (place_of slot.place l))) ≡ s.pre ++ raised s.row.depth s.post
without p slot l s =
    let e : remove l (place_of slot.place l) ≡ s.pre ++ s.post = ap (λ m. remove m (place_of slot.place l)) s.parts ∙ ap (remove (s.pre ++ s.row ∷ s.post)) s.place ∙ remove_there s.pre s.row s.post in
    ap (λ m. take (place_of slot.place l) m ++ raised s.row.depth (drop (place_of slot.place l) m)) e
    ∙ ap (λ i. take i (s.pre ++ s.post) ++ raised s.row.depth (drop i (s.pre ++ s.post))) s.place
    ∙ ap (λ m. m ++ raised s.row.depth (drop (length s.pre) (s.pre ++ s.post))) (take-append_seam s.pre s.post)
    ∙ ap (λ m. s.pre ++ raised s.row.depth m) (drop-append_seam s.pre s.post)

pub rows_removed : (p : ProfileName) (slot : Slot) (l : List Row) (s : Stands p slot l) → AreApart l → IsStepwise 0 l
    → forest_of p (take (place_of slot.place l) (remove l (place_of slot.place l)) ++ raised s.row.depth (drop (place_of slot.place l) (remove l (place_of slot.place l)))) ≡ emptied (address_of p slot) (forest_of p l)
rows_removed p slot l s a w =
    ap (forest_of p) (without p slot l s)
    ∙ removed p slot s.pre s.row s.post s.is s.before (standing_once p slot l s a)
    (higher (derived_depth s.row) (s.row.depth + 1) s.post (standing_stepwise p slot l s w) (derived_most s.row.original s.row.depth))
    ∙ ap (λ m. emptied (address_of p slot) (forest_of p m)) (sym s.parts)

-- the rows stay in order

each_raised : (P : Row → Type 0) → ((r : Row) (n : ℕ) → P r → P (record r { depth = n })) → (d : ℕ) (l : List Row) → Each P l → Each P (raised d l)
each_raised P f d [] h = tt
each_raised P f d (r ∷ l) h =
    elim (ltb d r.depth) as (λ c. Each P (cond c (record r { depth = r.depth - 1 } ∷ raised d l) (r ∷ l))) [
      | true ↦ (f r (r.depth - 1) h.0, each_raised P f d l h.1)
      | false ↦ h
    ]

each_removed : (P : Row → Type 0) → ((r : Row) (n : ℕ) → P r → P (record r { depth = n })) → (d : ℕ) (pre : List Row) (s : Row) (post : List Row) → Each P (pre ++ s ∷ post) → Each P (pre ++ raised d post)
each_removed P f d [] s post h = each_raised P f d post h.1
each_removed P f d (q ∷ pre) s post h = (h.0, each_removed P f d pre s post h.1)

apart_raised : (d : ℕ) (l : List Row) → AreApart l → AreApart (raised d l)
apart_raised d [] h = tt
apart_raised d (r ∷ l) h =
    elim (ltb d r.depth) as (λ c. AreApart (cond c (record r { depth = r.depth - 1 } ∷ raised d l) (r ∷ l))) [
      | true ↦ (each_raised (λ (o : Row). o.slot.place ≢ r.slot.place) (λ q n k. k) d l h.0, apart_raised d l h.1)
      | false ↦ h
    ]

apart_removed : (d : ℕ) (pre : List Row) (s : Row) (post : List Row) → AreApart (pre ++ s ∷ post) → AreApart (pre ++ raised d post)
apart_removed d [] s post h = apart_raised d post h.1
apart_removed d (q ∷ pre) s post h = (each_removed (λ (o : Row). o.slot.place ≢ q.slot.place) (λ r n k. k) d pre s post h.0, apart_removed d pre s post h.1)

stepwise_raised : (a d : ℕ) (l : List Row) → IsStepwise a l → d < a → IsStepwise (a - 1) (raised d l)
stepwise_raised a d [] w h = tt
stepwise_raised a d (r ∷ l) w h =
    (elim (ltb d r.depth) as (λ c. ltb d r.depth ≡ c → IsStepwise (a - 1) (cond c (record r { depth = r.depth - 1 } ∷ raised d l) (r ∷ l))) [
      | true ↦ λ e.
          let k : d < r.depth = above_yes d r.depth e in
          let n : r.depth ≤ a = w.0 in
          let m : r.depth ≤ derived_depth r = derived_least r.original r.depth in
          let same : derived_depth r - 1 ≡ cond r.original ((r.depth - 1) + 1) (r.depth - 1) = less r.original r.depth d k in
          (omega arith, (let P : ℕ → Type 0 = λ i. IsStepwise i (raised d l) in subst P same (stepwise_raised (derived_depth r) d l w.1 (omega arith))))
      | false ↦ λ e. (kept_low d r.depth a e h, w.1)
    ]) refl
  where
    less : (b : Bool) (n d : ℕ) → d < n → cond b (n + 1) n - 1 ≡ cond b ((n - 1) + 1) (n - 1)
    less true n d k = omega arith
    less false n d k = refl

    kept_low : (d n a : ℕ) → ltb d n ≡ false → d < a → n ≤ a - 1
    kept_low d n a e h = grind (arith, nat_tests)

stepwise_behind : (s : Row) (post : List Row) → IsStepwise (derived_depth s) post → IsStepwise s.depth (raised s.depth post)
stepwise_behind s post w = step s.original s.depth w
  where
    stay : (d : ℕ) (l : List Row) → IsStepwise d l → raised d l ≡ l
    stay d [] w = refl
    stay d (r ∷ l) w = let e : ltb d r.depth ≡ false = low d r.depth w.0 in rw e
      where
        low : (d n : ℕ) → n ≤ d → ltb d n ≡ false
        low d n h = grind (arith, nat_tests)

    step : (b : Bool) (d : ℕ) → IsStepwise (cond b (d + 1) d) post → IsStepwise d (raised d post)
    step true d w = let P : ℕ → Type 0 = λ i. IsStepwise i (raised d post) in subst P (omega arith) (stepwise_raised (d + 1) d post w (omega arith))
    step false d w = let P : List Row → Type 0 = IsStepwise d in subst P (sym (stay d post w)) w

stepwise_removed : (a : ℕ) (pre : List Row) (s : Row) (post : List Row) → IsStepwise a (pre ++ s ∷ post) → IsStepwise a (pre ++ raised s.depth post)
stepwise_removed a [] s post w = higher s.depth a (raised s.depth post) (stepwise_behind s post w.1) w.0
stepwise_removed a (q ∷ pre) s post w = (w.0, stepwise_removed (derived_depth q) pre s post w.1)

pub store_removed : (p : ProfileName) (m c c' : ℕ) (slot : Slot) (l : List Row) (s : Stands p slot l) → IsRowStore p m c l → c' ≡ c
    → IsRowStore p m c' (take (place_of slot.place l) (remove l (place_of slot.place l)) ++ raised s.row.depth (drop (place_of slot.place l) (remove l (place_of slot.place l))))
store_removed p m c c' slot l s t e =
    let P : List Row → Type 0 = IsRowStore p m c' in
    subst P (sym (without p slot l s)) (record {
      apart = apart_removed s.row.depth s.pre s.row s.post (let Q : List Row → Type 0 = AreApart in subst Q s.parts t.apart);
      stepwise = stepwise_removed 0 s.pre s.row s.post (let Q : List Row → Type 0 = IsStepwise 0 in subst Q s.parts t.stepwise);
      within = each_removed (λ (r : Row). address_of p r.slot < 2 ^ m) (λ r n k. k) s.row.depth s.pre s.row s.post (let Q : List Row → Type 0 = Each (λ (r : Row). address_of p r.slot < 2 ^ m) in subst Q s.parts t.within);
      lawful = each_removed (λ (r : Row). IsLawful p m r.cap) (λ r n k. k) s.row.depth s.pre s.row s.post (let Q : List Row → Type 0 = Each (λ (r : Row). IsLawful p m r.cap) in subst Q s.parts t.lawful);
      untyped = each_removed (λ (r : Row). is_untyped r.cap ≡ true → r.original ≡ true) (λ r n k. k) s.row.depth s.pre s.row s.post (let Q : List Row → Type 0 = Each (λ (r : Row). is_untyped r.cap ≡ true → r.original ≡ true) in subst Q s.parts t.untyped);
      room = rw e t.room;
    })

-- the rows that are raised, one after another

pub raise_stop : (d : ℕ) (l : List Row) (i : ℕ) (e : Row) → i < length l → (get_or l i e).depth ≤ d → take i l ++ raised d (drop i l) ≡ l
raise_stop d [] i e h k = absurd (omega arith)
raise_stop d (q ∷ l) zero e h k = let n : ltb d q.depth ≡ false = low d q.depth k in rw n
  where
    low : (d n : ℕ) → n ≤ d → ltb d n ≡ false
    low d n h = grind (arith, nat_tests)
raise_stop d (q ∷ l) (suc i) e h k = ap (λ m. q ∷ m) (raise_stop d l i e (omega arith) k)

pub raise_end : (d : ℕ) (l : List Row) (i : ℕ) → length l ≤ i → take i l ++ raised d (drop i l) ≡ l
raise_end d [] zero h = refl
raise_end d [] (suc i) h = refl
raise_end d (q ∷ l) zero h = absurd (omega arith)
raise_end d (q ∷ l) (suc i) h = ap (λ m. q ∷ m) (raise_end d l i (omega arith))

raise_next : (d : ℕ) (l : List Row) (i : ℕ) (e : Row) → i < length l → d < (get_or l i e).depth
    → take (suc i) (set l i (record (get_or l i e) { depth = (get_or l i e).depth - 1 })) ++ raised d (drop (suc i) (set l i (record (get_or l i e) { depth = (get_or l i e).depth - 1 }))) ≡ take i l ++ raised d (drop i l)
raise_next d [] i e h k = absurd (omega arith)
raise_next d (q ∷ l) zero e h k = let n : ltb d q.depth ≡ true = high d q.depth k in rw n
  where
    high : (d n : ℕ) → d < n → ltb d n ≡ true
    high d n h = grind (arith, nat_tests)
raise_next d (q ∷ l) (suc i) e h k = ap (λ m. q ∷ m) (raise_next d l i e (omega arith) k)

pub raise_step : (d : ℕ) (l : List Row) (i : ℕ) (e : Row) → i < length l → d < (get_or l i e).depth
    → take (i + 1) (set l i (record (get_or l i e) { depth = (get_or l i e).depth - 1 })) ++ raised d (drop (i + 1) (set l i (record (get_or l i e) { depth = (get_or l i e).depth - 1 }))) ≡ take i l ++ raised d (drop i l)
raise_step d l i e h k = let j : i + 1 ≡ suc i = omega arith in rw j (raise_next d l i e h k)

pub length-raised : (d : ℕ) (l : List Row) → length (raised d l) ≡ length l
length-raised d [] = refl
length-raised d (r ∷ l) = elim (ltb d r.depth) as (λ c. length (cond c (record r { depth = r.depth - 1 } ∷ raised d l) (r ∷ l)) ≡ length (r ∷ l)) [ true ↦ ap suc (length-raised d l) | false ↦ refl ]

-- the rows from a place on are raised
abbrev pub raised_from : ℕ → ℕ → List Row → List Row
raised_from d i l = take i l ++ raised d (drop i l)

pub length-raised_from : (d i : ℕ) (l : List Row) → length (raised_from d i l) ≡ length l
length-raised_from d i l =
    length-append (take i l) (raised d (drop i l)) ∙ ap (λ n. length (take i l) + n) (length-raised d (drop i l)) ∙ sym (length-append (take i l) (drop i l))
    ∙ ap length (take-append-drop i l)

-- the same where the part from there on was lent and written
pub raised_part : (d i : ℕ) (m l part : List Row) → m ≡ l → part ≡ raised d (take (length m - i) (drop i m)) → take i m ++ (part ++ drop (length m - i) (drop i m)) ≡ raised_from d i l
raised_part d i m l part e h =
    let n : length (drop i m) ≡ length m - i = length-drop i m in
    let t : take (length m - i) (drop i m) ≡ drop i m = ap (λ k. take k (drop i m)) (sym n) ∙ take-length (drop i m) in
    let r : drop (length m - i) (drop i m) ≡ [] = ap (λ k. drop k (drop i m)) (sym n) ∙ drop-length (drop i m) in
    ap (λ k. take i m ++ (part ++ k)) r ∙ ap (λ k. take i m ++ k) (append-nil part ∙ h ∙ ap (raised d) t) ∙ ap (raised_from d i) e
  where
    drop-length : (k : List Row) → drop (length k) k ≡ []
    drop-length [] = refl
    drop-length (q ∷ k) = drop-length k
