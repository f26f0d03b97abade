-- What is found in a list of derivations is what stands below a slot of their forest, and what a revoke ends.
use Rattle.std.proofs.Common.{◌≡◌, inl, inr, ℕ, zero, suc, ◌+◌, ◌-◌, ◌^◌, ◌<◌, ◌≤◌, Bool, true, false, cond, ◌==◌, ◌&&◌, ◌||◌, nat_le, nat_lt, List, [], ◌∷◌, ◌++◌, filter, length, map, drop, Option, Some, None, option_map, refl, sym, ap, ◌∙◌, subst, arith, eq-eqb}
use Rattle.std.specs.List.{All, slice_get, list_all, list_any}
use Rattle.std.proofs.lemmas.Bool.{eqb-true, leb-true, ltb-true, le-leb, lt-ltb}
use Rattle.std.proofs.lemmas.List.{map-append, length-map}
use Rattle.std.proofs.lemmas.List.Elements.{All-contains}
use Rattle.std.proofs.lemmas.List.Sums.{length-filter}
use Rattle.std.proofs.lemmas.Bool.Decides.{nat_tests}
use Rattle.std.proofs.lemmas.Option.{slice_get-map}
use Rattle.cap_core.specs.declared.profile.ProfileName.{ProfileName}
use Rattle.cap_core.specs.declared.capability.Cap.{Cap}
use Rattle.cap_core.specs.declared.capability.Cap.TheVariants.{Null, Untyped, Endpoint, CNode, Tcb}
use Rattle.cap_core.specs.Objects.{is_null, same_object}
use Rattle.kernel_forest.specs.Derivation.{names_same}
use Rattle.kernel_forest.specs.Forest.{Forest, none, tree, preorder, parented, descendants}
use Rattle.kernel_forest.specs.Entries.{Entry, is_at, caps, slots}
use Rattle.kernel_forest.specs.Slots.{slots_of}
use Rattle.slot_core.specs.declared.derivations.Derivation.{Derivation}
use Rattle.slot_core.specs.Places.{address_of}
use Rattle.slot_core.specs.Calls.{derivation_view}
use Rattle.kernel_delete.specs.Members.{In, AreApart}
use Rattle.kernel_delete.specs.Least.{IsClosed}
use Rattle.kernel_delete.proofs.Clearable.{contains_in, in_contains}
use Rattle.kernel_delete.proofs.Members.{all_in, tells, in_filter, filter_in, both_true, any_in}
use Rattle.kernel_delete.proofs.Objects.{same_sym}
use Rattle.kernel_delete.proofs.Orders.{apart_of}
use Rattle.query_revoke.specs.declared.keyed.Keyed.{Keyed}
use Rattle.query_revoke.specs.declared.revoked.Revoked.{Revoked}
use Rattle.query_revoke.specs.Keyed.{is_keyed_by, AreKeyed}
use Rattle.query_revoke.specs.Objects.{size_in, object_number}
use Rattle.query_revoke.specs.Runs.{EntryBelow, part, run, run_behind, AreOnce}
use Rattle.query_revoke.specs.Private.{lies_within, is_within_alone, is_node_or_thread, ends_slots}
use Rattle.query_revoke.specs.Below.{TellBelow, is_below, IsNamedBelow, IsRevokedAlone}
use Rattle.query_revoke.proofs.Below.{revoke_below, closed_below}
use Rattle.query_revoke.proofs.Keys.{found_in, found_all}
use Rattle.query_revoke.proofs.Objects.{one_number}
use Rattle.query_revoke.proofs.Parts.{got_in, in_got, in_part, part_in, part_length, any_within, map_part}
use Rattle.query_revoke.proofs.Runs.{told, split, run_of}

-- ---- the derivations and the entries of the forest

abbrev view : ProfileName → List Derivation → List EntryBelow
view p ds = map (derivation_view p) ds

abbrev entries : List EntryBelow → List Entry
entries v = map (λ (x : EntryBelow). x.0) v

pub entries_told : (above : Option Entry) (f : Forest Entry) → entries (map told (parented above f)) ≡ preorder f
entries_told above none = refl
entries_told above (tree a k r) = ap (λ (l : List Entry). a ∷ l)
    (ap entries (map-append told (parented (Some a) k) (parented above r))
    ∙ map-append (λ (x : EntryBelow). x.0) (map told (parented (Some a) k)) (map told (parented above r))
    ∙ (λ i. entries_told (Some a) k i ++ entries_told above r i))

pub addresses_seen : (p : ProfileName) (ds : List Derivation) → map (λ (d : Derivation). address_of p d.slot) ds ≡ map (λ (x : EntryBelow). x.0.slot) (view p ds)
addresses_seen p [] = refl
addresses_seen p (d ∷ ds) = ap (λ (l : List ℕ). address_of p d.slot ∷ l) (addresses_seen p ds)

numbers_seen : (p : ProfileName) (ds : List Derivation) → map (λ (d : Derivation). object_number d.cap) ds ≡ map (λ (x : EntryBelow). object_number x.0.cap) (view p ds)
numbers_seen p [] = refl
numbers_seen p (d ∷ ds) = ap (λ (l : List ℕ). object_number d.cap ∷ l) (numbers_seen p ds)

caps_seen : (p : ProfileName) (ds : List Derivation) → map (λ (d : Derivation). d.cap) ds ≡ map (λ (x : EntryBelow). x.0.cap) (view p ds)
caps_seen p [] = refl
caps_seen p (d ∷ ds) = ap (λ (l : List Cap). d.cap ∷ l) (caps_seen p ds)

sizes_seen : (p : ProfileName) (ds : List Derivation) → All (λ (d : Derivation). size_in d.cap < 2 ^ 32) ds → (k : ℕ) (x : EntryBelow) → slice_get (view p ds) k ≡ Some x → size_in x.0.cap < 2 ^ 32
sizes_seen p [] small k x e = cc
sizes_seen p (d ∷ ds) small zero x e =
    let same : derivation_view p d ≡ x = cc in
    subst (λ (y : EntryBelow). size_in y.0.cap < 2 ^ 32) same (small 0 d (omega arith))
sizes_seen p (d ∷ ds) small (suc k) x e = sizes_seen p ds (λ i d' h. small (suc i) d' (omega arith)) k x e

-- an element of a list that is read by a function
pub read_from : {X Y : Type 0} (g : X → Y) (xs : List X) (k : ℕ) (y : Y) → slice_get (map g xs) k ≡ Some y → (x : X) × ((slice_get xs k ≡ Some x) × (g x ≡ y))
read_from g [] k y e = cc
read_from g (x ∷ xs) zero y e = let is : g x ≡ y = cc in (x, (refl, is))
read_from g (x ∷ xs) (suc k) y e = read_from g xs k y e

pub reads : {X Y : Type 0} (g : X → Y) (xs : List X) (k : ℕ) (x : X) → slice_get xs k ≡ Some x → slice_get (map g xs) k ≡ Some (g x)
reads g xs k x e = slice_get-map g xs k ∙ ap (option_map g) e

-- ---- the run behind a slot

drop_behind : {X : Type 0} (u v : List X) (x : X) (n : ℕ) → n ≡ length u + 1 → drop n (u ++ x ∷ v) ≡ v
drop_behind [] v x zero e = absurd (omega arith)
drop_behind [] v x (suc n) e = let none : n ≡ 0 = omega arith in rw none refl
drop_behind (y ∷ u) v x zero e = absurd (omega arith)
drop_behind (y ∷ u) v x (suc n) e = drop_behind u v x n (omega arith)

part_behind : {X : Type 0} (u v : List X) (x : X) (n : ℕ) → n ≡ length u + 1 → part (length u) n (u ++ x ∷ v) ≡ x ∷ []
part_behind [] v x zero e = absurd (omega arith)
part_behind [] v x (suc n) e = let none : n ≡ 0 = omega arith in rw none refl
part_behind (y ∷ u) v x zero e = absurd (omega arith)
part_behind (y ∷ u) v x (suc n) e = part_behind u v x n (omega arith)

got_behind : {X : Type 0} (u v : List X) (x : X) → slice_get (u ++ x ∷ v) (length u) ≡ Some x
got_behind [] v x = refl
got_behind (y ∷ u) v x = got_behind u v x

behind : (f : Forest Entry) (list : List EntryBelow) (start slot : ℕ) → list ≡ map told (parented None f) → AreApart (preorder f) → AreOnce (map (λ (x : EntryBelow). x.0.slot) list) →
    slice_get (map (λ (x : EntryBelow). x.0.slot) list) start ≡ Some slot → entries (run_behind start list) ≡ descendants (is_at slot) f
behind f list start slot is apart once here =
    let x = read_from (λ (x : EntryBelow). x.0.slot) list start slot here in
    let a : Entry = x.0.0 in
    let P : List Entry → Type 0 = λ l. In a l in
    let i : In a (preorder f) = subst P (ap entries is ∙ entries_told None f) (got_in (entries list) start a (reads (λ (y : EntryBelow). y.0) list start x.0 x.1.0)) in
    let s = split a None f apart i in
    let F : List EntryBelow = map told s.front in
    let B : List EntryBelow = map told (parented (Some a) s.under) in
    let all : list ≡ F ++ (told (a, s.over) ∷ (B ++ map told s.back)) =
    is ∙ ap (map told) s.is ∙ map-append told s.front ((a, s.over) ∷ (parented (Some a) s.under ++ s.back))
    ∙ ap (λ (l : List EntryBelow). F ++ (told (a, s.over) ∷ l)) (map-append told (parented (Some a) s.under) s.back) in
    let there : slice_get (map (λ (x : EntryBelow). x.0.slot) list) (length F) ≡ Some slot =
    reads (λ (x : EntryBelow). x.0.slot) list (length F) (told (a, s.over)) (ap (λ (l : List EntryBelow). slice_get l (length F)) all ∙ got_behind F (B ++ map told s.back) (told (a, s.over)))
    ∙ ap Some x.1.1 in
    let at : start ≡ length F = once start (length F) slot here there in
    ap entries (ap (λ (n : ℕ). run_behind n list) at
    ∙ ap (run_behind (length F)) all
    ∙ (λ j. run (part_behind F (B ++ map told s.back) (told (a, s.over)) (length F + 1) refl j) (drop_behind F (B ++ map told s.back) (told (a, s.over)) (length F + 1) refl j))
    ∙ run_of a f s)
    ∙ entries_told (Some a) s.under
    ∙ ap preorder (sym s.below)
    ∙ ap (λ (n : ℕ). descendants (is_at n) f) x.1.1

-- each slot stands once
apart_once : (l : List Entry) → AreApart l → AreOnce (map (λ (e : Entry). e.slot) l)
apart_once [] apart i j n a b = cc
apart_once (e ∷ l) apart zero zero n a b = refl
apart_once (e ∷ l) apart zero (suc j) n a b = absurd (
    let here : e.slot ≡ n = cc in
    let w = read_from (λ (e : Entry). e.slot) l j n b in
    let z : true ≡ false = sym (any_in (is_at n) l w.0 (got_in l j w.0 w.1.0) (eq-eqb w.0.slot n w.1.1)) ∙ (apart n).0 (eq-eqb e.slot n here) in
    cc)
apart_once (e ∷ l) apart (suc i) zero n a b = absurd (
    let here : e.slot ≡ n = cc in
    let w = read_from (λ (e : Entry). e.slot) l i n a in
    let z : true ≡ false = sym (any_in (is_at n) l w.0 (got_in l i w.0 w.1.0) (eq-eqb w.0.slot n w.1.1)) ∙ (apart n).0 (eq-eqb e.slot n here) in
    cc)
apart_once (e ∷ l) apart (suc i) (suc j) n a b = ap suc (apart_once l (λ k. (apart k).1) i j n a b)

slots_viewed : (v : List EntryBelow) → map (λ (e : Entry). e.slot) (entries v) ≡ map (λ (x : EntryBelow). x.0.slot) v
slots_viewed [] = refl
slots_viewed (x ∷ v) = ap (λ (l : List ℕ). x.0.slot ∷ l) (slots_viewed v)

pub once_told : (p : ProfileName) (ds : List Derivation) (f : Forest Entry) → TellBelow p ds f → AreOnce (map (λ (d : Derivation). address_of p d.slot) ds)
once_told p ds f t =
    subst AreOnce (sym (addresses_seen p ds ∙ sym (slots_viewed (view p ds)) ∙ ap (map (λ (e : Entry). e.slot)) (ap entries t.told ∙ entries_told None f)))
    (apart_once (preorder f) (apart_of (preorder f) t.apart))

-- ---- what was found, in one place

pub record Found (p : ProfileName) (ds : List Derivation) (f : Forest Entry) (slot start end : ℕ) : Type 0 where
  pub entries_are : entries (view p ds) ≡ preorder f
  pub apart : AreApart (preorder f)
  pub full : (a : Entry) → In a (preorder f) → is_null a.cap ≡ false
  pub once : AreOnce (map (λ (x : EntryBelow). x.0.slot) (view p ds))
  pub here : slice_get (map (λ (x : EntryBelow). x.0.slot) (view p ds)) start ≡ Some slot
  pub below : entries (part (start + 1) end (view p ds)) ≡ descendants (is_at slot) f

pub found : (p : ProfileName) (ds : List Derivation) (f : Forest Entry) (slot start end : ℕ) → TellBelow p ds f → AreOnce (map (λ (d : Derivation). address_of p d.slot) ds) →
    slice_get (map (λ (d : Derivation). address_of p d.slot) ds) start ≡ Some slot → part (start + 1) end (view p ds) ≡ run_behind start (view p ds) → Found p ds f slot start end
found p ds f slot start end t once here run =
    let apart : AreApart (preorder f) = apart_of (preorder f) t.apart in
    let all : entries (view p ds) ≡ preorder f = ap entries t.told ∙ entries_told None f in
    let once' : AreOnce (map (λ (x : EntryBelow). x.0.slot) (view p ds)) = subst AreOnce (addresses_seen p ds) once in
    let here' : slice_get (map (λ (x : EntryBelow). x.0.slot) (view p ds)) start ≡ Some slot = ap (λ (l : List ℕ). slice_get l start) (sym (addresses_seen p ds)) ∙ here in
    record {
      entries_are = all;
      apart = apart;
      full = λ a i. All-contains (λ (cap : Cap). is_null cap ≡ false) (caps f) a.cap t.full
          (in_contains (caps f) a.cap (let k = in_got (preorder f) a i in got_in (caps f) k.0 a.cap (reads (λ (e : Entry). e.cap) (preorder f) k.0 a k.1)));
      once = once';
      here = here';
      below = ap entries run ∙ behind f (view p ds) start slot t.told apart once' here';
    }

-- an entry, and its place
entry_at : (p : ProfileName) (ds : List Derivation) (f : Forest Entry) (slot start end k : ℕ) (x : EntryBelow) → Found p ds f slot start end → slice_get (view p ds) k ≡ Some x → In x.0 (preorder f)
entry_at p ds f slot start end k x w e =
    let P : List Entry → Type 0 = λ l. In x.0 l in
    subst P w.entries_are (got_in (entries (view p ds)) k x.0 (reads (λ (y : EntryBelow). y.0) (view p ds) k x e))

place_of : (p : ProfileName) (ds : List Derivation) (f : Forest Entry) (slot start end : ℕ) (b : Entry) → Found p ds f slot start end → In b (preorder f) →
    (k : ℕ) × ((x : EntryBelow) × ((slice_get (view p ds) k ≡ Some x) × (x.0 ≡ b)))
place_of p ds f slot start end b w i =
    let P : List Entry → Type 0 = λ l. In b l in
    let k = in_got (entries (view p ds)) b (subst P (sym w.entries_are) i) in
    let x = read_from (λ (y : EntryBelow). y.0) (view p ds) k.0 b k.1 in
    (k.0, (x.0, (x.1.0, x.1.1)))

any_seen : {X Y : Type 0} (g : X → Y) (q : Y → Bool) (xs : List X) → list_any q (map g xs) ≡ list_any (λ (x : X). q (g x)) xs
any_seen g q [] = refl
any_seen g q (x ∷ xs) = ap (λ (b : Bool). q (g x) || b) (any_seen g q xs)

-- an entry stands below the slot where its place lies behind the slot's, and in front of the end
below_at : (p : ProfileName) (ds : List Derivation) (f : Forest Entry) (slot start end k : ℕ) (x : EntryBelow) → Found p ds f slot start end → slice_get (view p ds) k ≡ Some x →
    is_below slot f x.0.slot ≡ (nat_le (start + 1) k && nat_lt k end)
below_at p ds f slot start end k x w e =
    ap (list_any (is_at x.0.slot)) (sym w.below)
    ∙ any_seen (λ (y : EntryBelow). y.0) (is_at x.0.slot) (part (start + 1) end (view p ds))
    ∙ any_within (λ (y : EntryBelow). y.0.slot) (view p ds) (start + 1) end x.0.slot k (reads (λ (y : EntryBelow). y.0.slot) (view p ds) k x e) w.once

-- ---- objects

not_all : {X : Type 0} (q : X → Bool) (xs : List X) → list_all q xs ≡ false → (x : X) × (In x xs × (q x ≡ false))
not_all q [] e = cc
not_all q (x ∷ xs) e = elim (tells (q x)) [
  | inr fails ↦ (x, (inl refl, fails))
  | inl passes ↦ (let w = not_all q xs (sym (ap (λ (b : Bool). b && list_all q xs) passes) ∙ e) in (w.0, (inr w.1.0, w.1.1)))
]

both : (s t : Bool) → s ≡ true → t ≡ true → (s && t) ≡ true
both s t h k = rw (h, k) refl

within_means : (nums : List ℕ) (objects : List Keyed) (s e : ℕ) (cap : Cap) → AreKeyed nums objects → is_within_alone objects s e cap ≡ true →
    (j : ℕ) → slice_get nums j ≡ Some (object_number cap) → (nat_le s j && nat_lt j e) ≡ true
within_means nums objects s e cap keyed all j there =
    let n : ℕ = object_number cap in
    let w = found_all n 0 nums j there in
    let k : Keyed = record { key = n; place = 0 + j } in
    let plain : 0 + j ≡ j = omega arith in
    let i : In k (filter (is_keyed_by n) objects) = got_in (filter (is_keyed_by n) objects) w.0 k (ap (λ (l : List Keyed). slice_get l w.0) (keyed.same n) ∙ w.1) in
    ap (λ (m : ℕ). nat_le s m && nat_lt m e) (sym plain) ∙ all_in (lies_within s e) (filter (is_keyed_by n) objects) k all i

not_within : (nums : List ℕ) (objects : List Keyed) (s e : ℕ) (cap : Cap) → AreKeyed nums objects → is_within_alone objects s e cap ≡ false →
    (j : ℕ) × ((slice_get nums j ≡ Some (object_number cap)) × ((nat_le s j && nat_lt j e) ≡ false))
not_within nums objects s e cap keyed fails =
    let n : ℕ = object_number cap in
    let w = not_all (lies_within s e) (filter (is_keyed_by n) objects) fails in
    let i = in_got (filter (is_keyed_by n) objects) w.0 w.1.0 in
    let g = found_in n 0 nums i.0 w.0 (ap (λ (l : List Keyed). slice_get l i.0) (sym (keyed.same n)) ∙ i.1) in
    let plain : w.0.place ≡ g.0 = (let h = g.1.0 in omega (arith, h)) in
    (g.0, (g.1.1.1, sym (ap (λ (m : ℕ). nat_le s m && nat_lt m e) plain) ∙ w.1.1))

-- an entry whose capability has the number of another one names the same
same_number : (p : ProfileName) (ds : List Derivation) (f : Forest Entry) (slot start end j k : ℕ) (b x : EntryBelow) → Found p ds f slot start end → All (λ (d : Derivation). size_in d.cap < 2 ^ 32) ds →
    slice_get (view p ds) j ≡ Some b → slice_get (view p ds) k ≡ Some x → names_same b.0.cap x.0.cap ≡ (object_number b.0.cap == object_number x.0.cap)
same_number p ds f slot start end j k b x w small eb ex =
    one_number b.0.cap x.0.cap (w.full x.0 (entry_at p ds f slot start end k x w ex)) (sizes_seen p ds small j b eb) (sizes_seen p ds small k x ex)

named_alone : (p : ProfileName) (ds : List Derivation) (f : Forest Entry) (objects : List Keyed) (slot start end k : ℕ) (x : EntryBelow) → Found p ds f slot start end →
    All (λ (d : Derivation). size_in d.cap < 2 ^ 32) ds → AreKeyed (map (λ (d : Derivation). object_number d.cap) ds) objects → slice_get (view p ds) k ≡ Some x →
    is_within_alone objects (start + 1) end x.0.cap ≡ true → IsNamedBelow slot f x.0.cap
named_alone p ds f objects slot start end k x w small keyed ex all b c other = elim (tells (names_same b.cap x.0.cap)) [
  | inr fails ↦ fails
  | inl names ↦ absurd (
      let j = place_of p ds f slot start end b w (contains_in (preorder f) b c) in
      let same : names_same j.1.0.0.cap x.0.cap ≡ true = ap (λ (e : Entry). names_same e.cap x.0.cap) j.1.1.1 ∙ names in
      let number : object_number j.1.0.0.cap ≡ object_number x.0.cap =
      eqb-true (object_number j.1.0.0.cap) (object_number x.0.cap) (sym (same_number p ds f slot start end j.0 k j.1.0 x w small j.1.1.0 ex) ∙ same) in
      let there : slice_get (map (λ (d : Derivation). object_number d.cap) ds) j.0 ≡ Some (object_number x.0.cap) =
      ap (λ (l : List ℕ). slice_get l j.0) (numbers_seen p ds) ∙ reads (λ (y : EntryBelow). object_number y.0.cap) (view p ds) j.0 j.1.0 j.1.1.0 ∙ ap Some number in
      let inside = within_means (map (λ (d : Derivation). object_number d.cap) ds) objects (start + 1) end x.0.cap keyed all j.0 there in
      let below : is_below slot f b.slot ≡ true = ap (λ (e : Entry). is_below slot f e.slot) (sym j.1.1.1) ∙ below_at p ds f slot start end j.0 j.1.0 w j.1.1.0 ∙ inside in
      let z : true ≡ false = sym below ∙ other in
      cc)
]

-- where some capability of its object stands elsewhere
outside : (p : ProfileName) (ds : List Derivation) (f : Forest Entry) (objects : List Keyed) (slot start end k : ℕ) (x : EntryBelow) → Found p ds f slot start end →
    All (λ (d : Derivation). size_in d.cap < 2 ^ 32) ds → AreKeyed (map (λ (d : Derivation). object_number d.cap) ds) objects → slice_get (view p ds) k ≡ Some x →
    is_within_alone objects (start + 1) end x.0.cap ≡ false →
    (b : Entry) × (In b (preorder f) × ((names_same b.cap x.0.cap ≡ true) × (is_below slot f b.slot ≡ false)))
outside p ds f objects slot start end k x w small keyed ex fails =
    let o = not_within (map (λ (d : Derivation). object_number d.cap) ds) objects (start + 1) end x.0.cap keyed fails in
    let b = read_from (λ (y : EntryBelow). object_number y.0.cap) (view p ds) o.0 (object_number x.0.cap) (ap (λ (l : List ℕ). slice_get l o.0) (sym (numbers_seen p ds)) ∙ o.1.0) in (
      b.0.0,
      (
        entry_at p ds f slot start end o.0 b.0 w b.1.0,
        (
          same_number p ds f slot start end o.0 k b.0 x w small b.1.0 ex ∙ eq-eqb (object_number b.0.0.cap) (object_number x.0.cap) b.1.1,
          below_at p ds f slot start end o.0 b.0 w b.1.0 ∙ o.1.1,
        ),
      ),
    )

alone_named : (p : ProfileName) (ds : List Derivation) (f : Forest Entry) (objects : List Keyed) (slot start end k : ℕ) (x : EntryBelow) → Found p ds f slot start end →
    All (λ (d : Derivation). size_in d.cap < 2 ^ 32) ds → AreKeyed (map (λ (d : Derivation). object_number d.cap) ds) objects → slice_get (view p ds) k ≡ Some x →
    IsNamedBelow slot f x.0.cap → is_within_alone objects (start + 1) end x.0.cap ≡ true
alone_named p ds f objects slot start end k x w small keyed ex named = elim (tells (is_within_alone objects (start + 1) end x.0.cap)) [
  | inl passes ↦ passes
  | inr fails ↦ absurd (
      let o = outside p ds f objects slot start end k x w small keyed ex fails in
      let z : true ≡ false = sym o.1.1.0 ∙ named o.0 (in_contains (preorder f) o.0 o.1.0) o.1.1.1 in
      cc)
]

-- no object with slots ends: then the set is closed
no_slots : (p : ProfileName) (cap : Cap) → is_node_or_thread cap ≡ false → slots_of p cap ≡ []
unfolding slots_of
no_slots p Null e = refl
no_slots p (Untyped base bits free) e = refl
no_slots p (Endpoint base badge rights) e = refl
no_slots p (CNode base radix guard) e = cc
no_slots p (Tcb base) e = cc

none_where : {X : Type 0} (q : X → Bool) (xs : List X) (x : X) → list_any q xs ≡ false → In x xs → q x ≡ false
none_where q [] x e i = absurd i
none_where q (y ∷ xs) x e (inl same) = ap q same ∙ first (q y) (list_any q xs) e
  where
    first : (a b : Bool) → (a || b) ≡ false → a ≡ false
    first true b h = h
    first false b h = refl
none_where q (y ∷ xs) x e (inr i) = none_where q xs x (second (q y) (list_any q xs) e) i
  where
    second : (a b : Bool) → (a || b) ≡ false → b ≡ false
    second true b h = cc
    second false b h = h

closed : (p : ProfileName) (ds : List Derivation) (f : Forest Entry) (objects : List Keyed) (slot start end : ℕ) → Found p ds f slot start end →
    All (λ (d : Derivation). size_in d.cap < 2 ^ 32) ds → AreKeyed (map (λ (d : Derivation). object_number d.cap) ds) objects →
    list_any (ends_slots objects (start + 1) end) (map (λ (d : Derivation). d.cap) (part (start + 1) end ds)) ≡ false → IsClosed p (preorder f) (is_below slot f)
closed p ds f objects slot start end w small keyed stay = closed_below p f (is_below slot f) w.apart (λ a i inside.
    let k = place_of p ds f slot start end a w i in
    let x : EntryBelow = k.1.0 in
    let ex = k.1.1.0 in
    let range = both_true (nat_le (start + 1) k.0) (nat_lt k.0 end) (sym (below_at p ds f slot start end k.0 x w ex) ∙ (ap (λ (e : Entry). is_below slot f e.slot) k.1.1.1 ∙ inside)) in
    let member : In x.0.cap (map (λ (d : Derivation). d.cap) (part (start + 1) end ds)) =
    (let P : List Cap → Type 0 = λ l. In x.0.cap l in
    subst P (sym (map_part (λ (d : Derivation). d.cap) (start + 1) end ds)) (in_part (map (λ (d : Derivation). d.cap) ds) (start + 1) end k.0 x.0.cap
    (ap (λ (l : List Cap). slice_get l k.0) (caps_seen p ds) ∙ reads (λ (y : EntryBelow). y.0.cap) (view p ds) k.0 x ex) (leb-true (start + 1) k.0 range.0) (ltb-true k.0 end range.1))) in
    let ends : (is_node_or_thread x.0.cap && is_within_alone objects (start + 1) end x.0.cap) ≡ false = none_where (ends_slots objects (start + 1) end) (map (λ (d : Derivation). d.cap) (part (start + 1) end ds)) x.0.cap stay member in
    elim (tells (is_node_or_thread x.0.cap)) [
      | inr fails ↦ inl (ap (λ (e : Entry). slots_of p e.cap) (sym k.1.1.1) ∙ no_slots p x.0.cap fails)
      | inl passes ↦ (
          let elsewhere : is_within_alone objects (start + 1) end x.0.cap ≡ false = sym (ap (λ (b : Bool). b && is_within_alone objects (start + 1) end x.0.cap) passes) ∙ ends in
          let o = outside p ds f objects slot start end k.0 x w small keyed ex elsewhere in
          let same : same_object o.0.cap x.0.cap ≡ true = named_other o.0.cap x.0.cap passes o.1.1.0 in
          inr (o.0, (o.1.0, (ap (λ (e : Entry). same_object e.cap o.0.cap) (sym k.1.1.1) ∙ same_sym o.0.cap x.0.cap same, o.1.1.1))))
    ])
  where
    named_other : (b x : Cap) → is_node_or_thread x ≡ true → names_same b x ≡ true → same_object b x ≡ true
    named_other (Untyped base bits free) Null h e = cc
    named_other (Untyped base bits free) (Untyped c t g) h e = cc
    named_other (Untyped base bits free) (Endpoint c d r) h e = cc
    named_other (Untyped base bits free) (CNode c t g) h e = cc
    named_other (Untyped base bits free) (Tcb c) h e = cc
    named_other Null x h e = e
    named_other (Endpoint base badge rights) x h e = e
    named_other (CNode base radix guard) x h e = e
    named_other (Tcb base) x h e = e

-- what passes lies in one part
slots_seen : (v : List EntryBelow) → map (λ (e : Entry). e.slot) (entries v) ≡ map (λ (x : EntryBelow). x.0.slot) v
slots_seen [] = refl
slots_seen (x ∷ v) = ap (λ (l : List ℕ). x.0.slot ∷ l) (slots_seen v)

later : (s k e : ℕ) → (nat_le (suc s) (suc k) && nat_lt (suc k) (suc e)) ≡ (nat_le s k && nat_lt k e)
later s k e = grind (arith, nat_tests)

front_later : (k e : ℕ) → (nat_le 0 (suc k) && nat_lt (suc k) (suc e)) ≡ (nat_le 0 k && nat_lt k e)
front_later k e = grind (arith, nat_tests)

first_in : (e : ℕ) → (nat_le 0 0 && nat_lt 0 (suc e)) ≡ true
first_in e = grind (arith, nat_tests)

first_out : (s e : ℕ) → (nat_le (suc s) 0 && nat_lt 0 e) ≡ false
first_out s e = grind (arith, nat_tests)

none_in : (s k : ℕ) → (nat_le s k && nat_lt k 0) ≡ false
none_in s k = grind (arith, nat_tests)

all_left : (q : ℕ → Bool) (xs : List ℕ) → ((k n : ℕ) → slice_get xs k ≡ Some n → q n ≡ false) → filter q xs ≡ []
all_left q [] h = refl
all_left q (x ∷ xs) h =
    ap (λ (b : Bool). cond b (x ∷ filter q xs) (filter q xs)) (h 0 x refl) ∙ all_left q xs (λ k n e. h (suc k) n e)

part_of_none : (s e : ℕ) → part {A = ℕ} s e [] ≡ []
part_of_none zero zero = refl
part_of_none (suc s) zero = refl
part_of_none zero (suc e) = refl
part_of_none (suc s) (suc e) = refl

part_of_zero : {X : Type 0} (s : ℕ) (xs : List X) → part s 0 xs ≡ []
part_of_zero zero xs = refl
part_of_zero (suc s) xs = refl

filter_part : (q : ℕ → Bool) (xs : List ℕ) (s e : ℕ) → ((k n : ℕ) → slice_get xs k ≡ Some n → q n ≡ (nat_le s k && nat_lt k e)) → filter q xs ≡ part s e xs
filter_part q [] s e h = sym (part_of_none s e)
filter_part q (x ∷ xs) s zero h = all_left q (x ∷ xs) (λ k n g. h k n g ∙ none_in s k) ∙ sym (part_of_zero s (x ∷ xs))
filter_part q (x ∷ xs) zero (suc e) h =
    ap (λ (b : Bool). cond b (x ∷ filter q xs) (filter q xs)) (h 0 x refl ∙ first_in e)
    ∙ ap (λ (l : List ℕ). x ∷ l) (filter_part q xs zero e (λ k n g. h (suc k) n g ∙ front_later k e))
filter_part q (x ∷ xs) (suc s) (suc e) h =
    ap (λ (b : Bool). cond b (x ∷ filter q xs) (filter q xs)) (h 0 x refl ∙ first_out s (suc e))
    ∙ filter_part q xs s e (λ k n g. h (suc k) n g ∙ later s k e)

-- ---- all that is told

pub revoked : (p : ProfileName) (ds : List Derivation) (f : Forest Entry) (objects : List Keyed) (slot start end : ℕ) (r : Revoked) → Found p ds f slot start end →
    All (λ (d : Derivation). size_in d.cap < 2 ^ 32) ds → AreKeyed (map (λ (d : Derivation). object_number d.cap) ds) objects → end ≤ length ds → r.cleared ≡ end - start - 1 →
    list_any (ends_slots objects (start + 1) end) (map (λ (d : Derivation). d.cap) (part (start + 1) end ds)) ≡ false →
    r.ended.items ≡ filter (is_within_alone objects (start + 1) end) (map (λ (d : Derivation). d.cap) (part (start + 1) end ds)) → IsRevokedAlone p f slot r
revoked p ds f objects slot start end r w small keyed high count stay ended = record {
  forest = revoke_below p f slot w.apart out (closed p ds f objects slot start end w small keyed stay);
  count = count ∙ sym (sym (length-filter (is_below slot f) (slots f))
      ∙ ap (λ (l : List ℕ). length (filter (is_below slot f) l)) (sym slots_are)
      ∙ ap length (filter_part (is_below slot f) (map (λ (x : EntryBelow). x.0.slot) (view p ds)) (start + 1) end inside_only)
      ∙ part_length (map (λ (x : EntryBelow). x.0.slot) (view p ds)) (start + 1) end (omega (arith, m, m', high)) ∙ omega arith);
  only = λ cap c. (
      let P : List Cap → Type 0 = λ l. In cap l in
      let i = in_filter (is_within_alone objects (start + 1) end) (map (λ (d : Derivation). d.cap) (part (start + 1) end ds)) cap (subst P ended (contains_in r.ended.items cap c)) in
      let k = part_in (map (λ (d : Derivation). d.cap) ds) (start + 1) end cap (subst P (map_part (λ (d : Derivation). d.cap) (start + 1) end ds) i.0) in
      let x = read_from (λ (y : EntryBelow). y.0.cap) (view p ds) k.0 cap (ap (λ (l : List Cap). slice_get l k.0) (sym (caps_seen p ds)) ∙ k.1.0) in
      let inside : (nat_le (start + 1) k.0 && nat_lt k.0 end) ≡ true = both (nat_le (start + 1) k.0) (nat_lt k.0 end) (le-leb (start + 1) k.0 (let l = k.1.1.0 in omega arith)) (lt-ltb k.0 end (let l = k.1.1.1 in omega arith)) in
      let named : IsNamedBelow slot f x.0.0.cap =
      named_alone p ds f objects slot start end k.0 x.0 w small keyed x.1.0 (ap (is_within_alone objects (start + 1) end) x.1.1 ∙ i.1) in
      (x.0.0, (in_contains (preorder f) x.0.0 (entry_at p ds f slot start end k.0 x.0 w x.1.0), (below_at p ds f slot start end k.0 x.0 w x.1.0 ∙ inside, (x.1.1, subst (IsNamedBelow slot f) x.1.1 named)))));
  all = λ a c inside named. (
      let k = place_of p ds f slot start end a w (contains_in (preorder f) a c) in
      let x : EntryBelow = k.1.0 in
      let ex = k.1.1.0 in
      let range = both_true (nat_le (start + 1) k.0) (nat_lt k.0 end) (sym (below_at p ds f slot start end k.0 x w ex) ∙ (ap (λ (e : Entry). is_below slot f e.slot) k.1.1.1 ∙ inside)) in
      let alone : is_within_alone objects (start + 1) end x.0.cap ≡ true = alone_named p ds f objects slot start end k.0 x w small keyed ex (subst (λ (e : Entry). IsNamedBelow slot f e.cap) (sym k.1.1.1) named) in
      let P : List Cap → Type 0 = λ l. In x.0.cap l in
      let member : In x.0.cap (map (λ (d : Derivation). d.cap) (part (start + 1) end ds)) =
      subst P (sym (map_part (λ (d : Derivation). d.cap) (start + 1) end ds)) (in_part (map (λ (d : Derivation). d.cap) ds) (start + 1) end k.0 x.0.cap
      (ap (λ (l : List Cap). slice_get l k.0) (caps_seen p ds) ∙ reads (λ (y : EntryBelow). y.0.cap) (view p ds) k.0 x ex) (leb-true (start + 1) k.0 range.0) (ltb-true k.0 end range.1)) in
      let listed : In x.0.cap r.ended.items = subst P (sym ended) (filter_in (is_within_alone objects (start + 1) end) (map (λ (d : Derivation). d.cap) (part (start + 1) end ds)) x.0.cap member alone) in
      in_contains r.ended.items a.cap (subst (λ (e : Entry). In e.cap r.ended.items) k.1.1.1 listed));
}
  where
    m : length (view p ds) ≡ length ds
    m = length-map ds (derivation_view p)

    m' : length (map (λ (x : EntryBelow). x.0.slot) (view p ds)) ≡ length (view p ds)
    m' = length-map (view p ds) (λ (x : EntryBelow). x.0.slot)

    slots_are : map (λ (x : EntryBelow). x.0.slot) (view p ds) ≡ slots f
    slots_are = sym (slots_seen (view p ds)) ∙ ap (map (λ (e : Entry). e.slot)) w.entries_are

    inside_only : (k n : ℕ) → slice_get (map (λ (x : EntryBelow). x.0.slot) (view p ds)) k ≡ Some n → is_below slot f n ≡ (nat_le (start + 1) k && nat_lt k end)
    inside_only k n e =
        let x = read_from (λ (y : EntryBelow). y.0.slot) (view p ds) k n e in
        ap (is_below slot f) (sym x.1.1) ∙ below_at p ds f slot start end k x.0 w x.1.0

    out : is_below slot f slot ≡ false
    out =
        let x = read_from (λ (y : EntryBelow). y.0.slot) (view p ds) start slot w.here in
        ap (is_below slot f) (sym x.1.1) ∙ below_at p ds f slot start end start x.0 w x.1.0 ∙ front
      where
        front : (nat_le (start + 1) start && nat_lt start end) ≡ false
        front = elim (tells (nat_le (start + 1) start)) [
          | inr fails ↦ ap (λ (b : Bool). b && nat_lt start end) fails
          | inl passes ↦ absurd (let l = leb-true (start + 1) start passes in omega arith)
        ]
