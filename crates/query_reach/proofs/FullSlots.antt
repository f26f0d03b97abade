-- The list of the full slots of a forest.
use Rattle.std.proofs.Common.{◌≡◌, ◌≢◌, ℕ, zero, suc, ◌<◌, ◌≤◌, ◌⊎◌, inl, inr, refl, sym, ap, ◌∙◌, arith, Bool, true, false, cond, ◌==◌, ◌||◌, List, [], ◌∷◌, ◌++◌, length, map, get_or, Option, Some, None, option_map, replicate, eq-eqb}
use Rattle.std.proofs.lemmas.List.{map-append}
use Rattle.std.specs.List.{slice_get, list_any, Contains, Any, All, IsDistinct}
use Rattle.std.specs.List.Sorted.{IsStrictlySortedBy}
use Rattle.std.specs.Ordering.{nat_cmp}
use Rattle.std.specs.Cmp.{ranked}
use Rattle.std.proofs.Common.{Less}
use Rattle.std.proofs.lemmas.Map.Keys.{Less-from_sorted}
use Rattle.std.proofs.lemmas.Bool.{cases_eq, cases_lt, eqb-true}
use Rattle.std.proofs.lemmas.Option.{slice_get-map, slice_get_within, slice_get-get_or, get_or_from_slice_get}
use Rattle.cap_core.specs.declared.profile.ProfileName.{ProfileName}
use Rattle.cap_core.specs.declared.capability.Cap.{Cap}
use Rattle.cap_core.specs.declared.capability.Cap.TheVariants.{Null}
use Rattle.cap_core.specs.Numbers.{word_bits}
use Rattle.cap_core.specs.Objects.{IsLawful}
use Rattle.kernel_forest.specs.Forest.{Forest, none, tree, preorder, parented}
use Rattle.kernel_forest.specs.Entries.{Entry, cap_in, cap_at, is_at, is_full, slots, caps, slot_of, derivations_of}
use Rattle.kernel_forest.proofs.Slots.Holding.{cap-entry}
use Rattle.slot_core.specs.declared.derivations.Derivation.{Derivation}
use Rattle.cspace_core.proofs.Nodes.{lawful_in_words}
use Rattle.std.proofs.lemmas.List.Elements.{All-contains}
use Rattle.slot_core.specs.Calls.{derivation_view}
use Rattle.query_reach.specs.declared.filled.FullSlot.{FullSlot}
use Rattle.query_reach.specs.Private.Tables.{word_in, AreEmpty}
use Rattle.query_reach.specs.Private.Rows.{full_slot}
use Rattle.query_reach.specs.FullSlots.{AreFullSlots, AreLawful, AreRising}

-- what stands in a forest, without what it stands below
parented-all : (above : Option Entry) (f : Forest Entry) → map (λ (e : Entry × Option Entry). e.0) (parented above f) ≡ preorder f
parented-all above none = refl
parented-all above (tree a under others) =
    ap (λ (l : List Entry). a ∷ l)
    (map-append (λ (e : Entry × Option Entry). e.0) (parented (Some a) under) (parented above others)
    ∙ (ap (λ (l : List Entry). l ++ map (λ (e : Entry × Option Entry). e.0) (parented above others)) (parented-all (Some a) under)
    ∙ ap (λ (l : List Entry). preorder under ++ l) (parented-all above others)))

map_map : {A B C : Type 0} (g : B → C) (h : A → B) (l : List A) → map g (map h l) ≡ map (λ a. g (h a)) l
map_map g h [] = refl
map_map g h (a ∷ l) = ap (λ (m : List _). g (h a) ∷ m) (map_map g h l)

-- the slots of the derivations of a forest are its entries, in order
of_entry : Entry → FullSlot
of_entry e = record { address = e.slot; cap = e.cap }

slots_told : (p : ProfileName) (f : Forest Entry) (ds : List Derivation) → map (derivation_view p) ds ≡ derivations_of f →
    map (full_slot p) ds ≡ map of_entry (preorder f)
unfolding of_entry
slots_told p f ds e =
    let slot : Entry × Option ℕ → FullSlot = λ x. of_entry x.0 in
    sym (map_map slot (derivation_view p) ds)
    ∙ (ap (map slot) e
    ∙ (map_map slot (λ (x : Entry × Option Entry). (x.0, option_map slot_of x.1)) (parented None f)
    ∙ (sym (map_map of_entry (λ (x : Entry × Option Entry). x.0) (parented None f)) ∙ ap (map of_entry) (parented-all None f))))

-- a slot is full where it is among the slots
place_where : (slot : ℕ) (e : Entry) (es : List Entry) (t : Bool) → (e.slot == slot) ≡ t → (t || list_any (is_at slot) es) ≡ true →
    (list_any (is_at slot) es ≡ true → (k : ℕ) × (slice_get (map (λ (x : Entry). x.slot) es) k ≡ Some slot)) →
    (k : ℕ) × (slice_get (map (λ (x : Entry). x.slot) (e ∷ es)) k ≡ Some slot)
place_where slot e es true same h on = (0, ap Some (eqb-true e.slot slot same))
place_where slot e es false other h on = let found = on h in (suc found.0, found.1)

place_of : (slot : ℕ) (es : List Entry) → list_any (is_at slot) es ≡ true → (k : ℕ) × (slice_get (map (λ (e : Entry). e.slot) es) k ≡ Some slot)
place_of slot [] h = cc
place_of slot (e ∷ es) h = place_where slot e es (e.slot == slot) refl h (place_of slot es)

or_true : (b c : Bool) → c ≡ true → (b || c) ≡ true
or_true true c h = refl
or_true false c h = h

placed : (slot : ℕ) (es : List Entry) (k : ℕ) → slice_get (map (λ (e : Entry). e.slot) es) k ≡ Some slot → list_any (is_at slot) es ≡ true
placed slot [] k h = cc
placed slot (e ∷ es) zero h =
    let same : e.slot ≡ slot = cc in
    ap (λ (b : Bool). b || list_any (is_at slot) es) (eq-eqb e.slot slot same)
placed slot (e ∷ es) (suc k) h = or_true (e.slot == slot) (list_any (is_at slot) es) (placed slot es k h)

empty_where : (t : Bool) (a b : Cap) (rest : Bool) → (rest ≡ false → b ≡ Null) → (t || rest) ≡ false → cond t a b ≡ Null
empty_where true a b rest on h = cc
empty_where false a b rest on h = on h

empty_in : (slot : ℕ) (es : List Entry) → list_any (is_at slot) es ≡ false → cap_in slot es ≡ Null
empty_in slot [] h = refl
empty_in slot (e ∷ es) h = empty_where (e.slot == slot) e.cap (cap_in slot es) (list_any (is_at slot) es) (empty_in slot es) h

pub empty_is_null : (f : Forest Entry) (slot : ℕ) → is_full slot f ≡ false → cap_at f slot ≡ Null
empty_is_null f slot h = empty_in slot (preorder f) h

-- membership and places
pub got_contains : {A : Type 0} (xs : List A) (k : ℕ) (u : A) → slice_get xs k ≡ Some u → Contains xs u
got_contains xs k u e = (k, slice_get_within xs k u e, get_or_from_slice_get xs k u u e)

pub contains_got : {A : Type 0} (xs : List A) (u : A) → Contains xs u → (k : ℕ) × (slice_get xs k ≡ Some u)
contains_got xs u h = (h.0, slice_get-get_or xs h.0 u h.1 ∙ ap Some h.2)

-- an element of a list, by what it is mapped to
record Unmapped {A B : Type 0} (g : A → B) (xs : List A) (k : ℕ) (y : B) : Type 0 where
  from : A
  at : slice_get xs k ≡ Some from
  to : g from ≡ y

unmapped : {A B : Type 0} (g : A → B) (xs : List A) (k : ℕ) (y : B) → slice_get (map g xs) k ≡ Some y → Unmapped g xs k y
unmapped g [] k y h = cc
unmapped g (x ∷ xs) zero y h = (let same : g x ≡ y = cc in record { from = x; at = refl; to = same })
unmapped g (x ∷ xs) (suc k) y h = (let u = unmapped g xs k y h in record { from = u.from; at = u.at; to = u.to })

told_full_slots : (f : Forest Entry) → IsDistinct (λ (a b : ℕ). a == b) (slots f) → AreFullSlots f (map of_entry (preorder f))
unfolding of_entry
told_full_slots f distinct = record {
  holds = λ k u is. (let e = unmapped of_entry (preorder f) k u is in
      let held : cap_at f e.from.slot ≡ e.from.cap = cap-entry f e.from distinct (got_contains (preorder f) k e.from e.at) in
      rw (← e.to) (sym held));
  full = λ k u is. (let e = unmapped of_entry (preorder f) k u is in
      let there : slice_get (map (λ (x : Entry). x.slot) (preorder f)) k ≡ Some e.from.slot =
      slice_get-map (λ (x : Entry). x.slot) (preorder f) k ∙ ap (option_map (λ (x : Entry). x.slot)) e.at in
      rw (← e.to) (placed e.from.slot (preorder f) k there));
  all = λ slot is. (let found = place_of slot (preorder f) is in
      let e = unmapped (λ (x : Entry). x.slot) (preorder f) found.0 slot found.1 in
      let there : slice_get (map of_entry (preorder f)) found.0 ≡ Some (of_entry e.from) = slice_get-map of_entry (preorder f) found.0 ∙ ap (option_map of_entry) e.at in
      (found.0, (of_entry e.from, (there, e.to))));
}

told_lawful : (p : ProfileName) (memory : ℕ) (f : Forest Entry) → All (IsLawful p memory) (caps f) → AreLawful p (map of_entry (preorder f))
unfolding of_entry
told_lawful p memory f lawful k u is =
    let e = unmapped of_entry (preorder f) k u is in
    let there : slice_get (map (λ (x : Entry). x.cap) (preorder f)) k ≡ Some e.from.cap =
    slice_get-map (λ (x : Entry). x.cap) (preorder f) k ∙ ap (option_map (λ (x : Entry). x.cap)) e.at in
    let held : IsLawful p memory e.from.cap = All-contains (IsLawful p memory) (caps f) e.from.cap lawful (got_contains (caps f) k e.from.cap there) in
    rw (← e.to) (lawful_in_words p memory e.from.cap (inr held))

pub are_full_slots : (p : ProfileName) (f : Forest Entry) (ds : List Derivation) (filled : List FullSlot) → filled ≡ map (full_slot p) ds →
    map (derivation_view p) ds ≡ derivations_of f → IsDistinct (λ (a b : ℕ). a == b) (slots f) → AreFullSlots f filled
are_full_slots p f ds filled is told distinct = rw (is, slots_told p f ds told) (told_full_slots f distinct)

pub are_lawful : (p : ProfileName) (memory : ℕ) (f : Forest Entry) (ds : List Derivation) (filled : List FullSlot) → filled ≡ map (full_slot p) ds →
    map (derivation_view p) ds ≡ derivations_of f → All (IsLawful p memory) (caps f) → AreLawful p filled
are_lawful p memory f ds filled is told lawful = rw (is, slots_told p f ds told) (told_lawful p memory f lawful)

-- so each capability of the forest may stand in a slot
pub all_lawful : (p : ProfileName) (f : Forest Entry) (filled : List FullSlot) → AreFullSlots f filled → AreLawful p filled →
    (s : ℕ) → (cap_at f s ≡ Null) ⊎ IsLawful p (word_bits p) (cap_at f s)
all_lawful p f filled are lawful s = elim (is_full s f) as (λ t. is_full s f ≡ t → (cap_at f s ≡ Null) ⊎ IsLawful p (word_bits p) (cap_at f s)) [
  | true ↦ λ e. (let found = are.all s e in
      let u : FullSlot = found.1.0 in
      let is = lawful found.0 u found.1.1.0 in
      let cap_is : u.cap ≡ cap_at f s = are.holds found.0 u found.1.1.0 ∙ ap (cap_at f) found.1.1.1 in
      rw cap_is at is)
  | false ↦ λ e. inl (empty_is_null f s e)
] refl

-- one more
got_push : {A : Type 0} (xs : List A) (x : A) (k : ℕ) (u : A) → slice_get (xs ++ x ∷ []) k ≡ Some u → (slice_get xs k ≡ Some u) ⊎ (x ≡ u)
got_push [] x zero u e = (let same : x ≡ u = cc in inr same)
got_push [] x (suc k) u e = cc
got_push (y ∷ xs) x zero u e = inl e
got_push (y ∷ xs) x (suc k) u e = got_push xs x k u e

-- rows with no words
pub none_in : (n k : ℕ) → word_in (replicate n None) k ≡ None
none_in zero k = refl
none_in (suc n) zero = refl
none_in (suc n) (suc k) = none_in n k

row_push : (rows : List (List (Option ℕ))) (row : List (Option ℕ)) → AreEmpty rows → row ≡ [] → AreEmpty (rows ++ row ∷ [])
row_push [] row empty is zero = is
row_push [] row empty is (suc t) = refl
row_push (first ∷ rows) row empty is zero = empty zero
row_push (first ∷ rows) row empty is (suc t) = row_push rows row (λ k. empty (suc k)) is t

pub empty_more : {A : Type 0} (items : A → List (Option ℕ)) (rows : List A) (row : A) → AreEmpty (map items rows) → items row ≡ [] →
    AreEmpty (map items (rows ++ row ∷ []))
empty_more items rows row empty is = rw (map-append items rows (row ∷ [])) (row_push (map items rows) (items row) empty is)

-- slots that were put into an order, each once
pub lawful_in_order : (p : ProfileName) (was filled : List FullSlot) → ((u : FullSlot) → Contains filled u → Contains was u) → AreLawful p was → AreLawful p filled
lawful_in_order p was filled only lawful k u e =
    let w = contains_got was u (only u (got_contains filled k u e)) in
    lawful w.0 u w.1

pub full_in_order : (f : Forest Entry) (was filled : List FullSlot) → ((u : FullSlot) → Contains filled u → Contains was u) →
    ((u : FullSlot) → Contains was u → Any (λ (v : FullSlot). (u.address == v.address) ≡ true) filled) → AreFullSlots f was → AreFullSlots f filled
full_in_order f was filled only all are = record {
  holds = λ k u e. (let w = contains_got was u (only u (got_contains filled k u e)) in are.holds w.0 u w.1);
  full = λ k u e. (let w = contains_got was u (only u (got_contains filled k u e)) in are.full w.0 u w.1);
  all = λ slot full. (
      let w = are.all slot full in
      let h = all w.1.0 (got_contains was w.0 w.1.0 w.1.1.0) in
      let v : FullSlot = h.1 in
      let same : w.1.0.address ≡ v.address = eqb-true w.1.0.address v.address h.4 in
      (h.0, (v, (slice_get-get_or filled h.0 v h.2 ∙ ap Some h.3, sym same ∙ w.1.1.1))));
}

pub rising_in_order : (filled : List FullSlot) → IsStrictlySortedBy (λ (u v : FullSlot). nat_cmp u.address v.address) filled → AreRising filled
rising_in_order filled order i j u v less hi hj =
    let e = Less-from_sorted _ filled i j u order less (slice_get_within filled j v hj) in
    let here : get_or filled i u ≡ u = get_or_from_slice_get filled i u u hi in
    let there : get_or filled j u ≡ v = get_or_from_slice_get filled j v u hj in
    let e' : nat_cmp u.address v.address ≡ Less = rw (here, there) at e in
    ranked u.address v.address Less (sym e')

-- a slot is at the first place that is not below it, or nowhere
pub no_place : (filled : List FullSlot) (place address : ℕ) → AreRising filled →
    ((k : ℕ) (u : FullSlot) → k < place → slice_get filled k ≡ Some u → u.address < address) →
    ((k : ℕ) (u : FullSlot) → place ≤ k → slice_get filled k ≡ Some u → address ≤ u.address) →
    ((u : FullSlot) → slice_get filled place ≡ Some u → u.address ≢ address) →
    (k : ℕ) (u : FullSlot) → slice_get filled k ≡ Some u → u.address ≢ address
no_place filled place address up below from other k u is same = elim (cases_lt k place) [
  | inl early ↦ absurd (let h = below k u early is in omega arith)
  | inr late ↦ elim (cases_eq k place) [
    | inl here ↦ other u (rw here at is) same
    | inr behind ↦ absurd (let v : FullSlot = get_or filled place u in
        let within : place < length filled = (let h = slice_get_within filled k u is in omega arith) in
        let at : slice_get filled place ≡ Some v = slice_get-get_or filled place u within in
        let h = up place k v u (omega arith) at is in
        let h' = from place v (omega arith) at in
        omega arith)
  ]
]

-- and at one place alone
pub one_place : (filled : List FullSlot) → AreRising filled → (j k : ℕ) (u v : FullSlot) → slice_get filled j ≡ Some u → slice_get filled k ≡ Some v → u.address ≡ v.address → j ≡ k
one_place filled up j k u v hj hk e = elim (cases_lt j k) [
  | inl less ↦ absurd (let l = up j k u v less hj hk in omega arith)
  | inr more ↦ elim (cases_lt k j) [
    | inl less ↦ absurd (let l = up k j v u less hk hj in omega arith)
    | inr more' ↦ omega arith
  ]
]
