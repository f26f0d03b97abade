-- What some derivations name, by the numbers of objects; and where they stand.
use Rattle.std.proofs.Common.{◌≡◌, inl, inr, ℕ, zero, suc, ◌+◌, ◌-◌, ◌^◌, ◌<◌, ◌≤◌, Bool, true, false, cond, not, ◌==◌, ◌&&◌, ◌||◌, nat_le, nat_lt, List, [], ◌∷◌, ◌++◌, filter, length, map, take, get_or, Some, option_map, All, refl, sym, ap, ◌∙◌, subst, arith, eq-eqb}
use Rattle.std.specs.List.{slice_get, list_all, list_any}
use Rattle.std.proofs.lemmas.Bool.{cases_lt, eqb-true, ne_eqb, leb-true, ltb-true, le-leb, lt-ltb}
use Rattle.std.proofs.lemmas.Option.{slice_get-map, slice_get_within, slice_get-get_or}
use Rattle.std.proofs.lemmas.List.{map-append, take_more}
use Rattle.cap_core.specs.declared.capability.Cap.{Cap}
use Rattle.cap_core.specs.declared.capability.Cap.TheVariants.{Null, Untyped, Endpoint, CNode, Tcb}
use Rattle.cap_core.specs.Objects.{is_null}
use Rattle.kernel_forest.specs.Derivation.{names_same}
use Rattle.slot_core.specs.declared.derivations.Derivation.{Derivation}
use Rattle.kernel_delete.specs.Members.{In}
use Rattle.kernel_delete.proofs.Members.{any_of, any_in, all_in, all_of, tells, same_truth, both_true}
use Rattle.query_revoke.specs.declared.keyed.Keyed.{Keyed}
use Rattle.query_revoke.specs.Keyed.{is_keyed_by, AreKeyed}
use Rattle.query_revoke.specs.Objects.{size_in, object_number}
use Rattle.query_revoke.specs.Private.{lies_within, AreAscending}
use Rattle.query_revoke.specs.Runs.{part}
use Rattle.query_revoke.proofs.Keys.{found_in, found_all}
use Rattle.query_revoke.proofs.Objects.{one_number}
use Rattle.query_revoke.proofs.Parts.{got_in, in_got, in_part, map_part, part_more}

null_named : (a : Cap) → names_same a Null ≡ false
null_named Null = refl
null_named (Untyped base bits free) = refl
null_named (Endpoint base badge rights) = refl
null_named (CNode base radix guard) = refl
null_named (Tcb base) = refl

pub null_unnamed : (cap : Cap) (list : List Derivation) → cap ≡ Null → false ≡ list_any (λ (d : Derivation). names_same d.cap cap) list
null_unnamed cap [] e = refl
null_unnamed cap (d ∷ list) e =
    null_unnamed cap list e ∙ sym (ap (λ (b : Bool). b || list_any (λ (d : Derivation). names_same d.cap cap) list) (ap (names_same d.cap) e ∙ null_named d.cap))

pub not_null : (cap : Cap) → (cap ≡ Null → ⊥) → is_null cap ≡ false
not_null Null h = absurd (h refl)
not_null (Untyped base bits free) h = refl
not_null (Endpoint base badge rights) h = refl
not_null (CNode base radix guard) h = refl
not_null (Tcb base) h = refl

size_at : (list : List Derivation) (d : Derivation) → All (λ (d : Derivation). size_in d.cap < 2 ^ 32) list → In d list → size_in d.cap < 2 ^ 32
size_at [] d h i = absurd i
size_at (e ∷ list) d h (inl same) = subst (λ (x : Derivation). size_in x.cap < 2 ^ 32) (sym same) (h 0 e (omega arith))
size_at (e ∷ list) d h (inr i) = size_at list d (λ k x l. h (suc k) x (omega arith)) i

read_in : (list : List Derivation) (j n : ℕ) → slice_get (map (λ (d : Derivation). object_number d.cap) list) j ≡ Some n → (d : Derivation) × (In d list × (object_number d.cap ≡ n))
read_in [] j n e = cc
read_in (d ∷ list) zero n e = let is : object_number d.cap ≡ n = cc in (d, (inl refl, is))
read_in (d ∷ list) (suc j) n e = let w = read_in list j n e in (w.0, (inr w.1.0, w.1.1))

some_left : {X : Type 0} (xs : List X) → not (length xs == 0) ≡ true → (x : X) × (slice_get xs 0 ≡ Some x)
some_left [] e = cc
some_left (x ∷ xs) e = (x, refl)

left_some : {X : Type 0} (xs : List X) (i : ℕ) (x : X) → slice_get xs i ≡ Some x → not (length xs == 0) ≡ true
left_some xs i x e = let l = slice_get_within xs i x e in ap not (ne_eqb (length xs) 0 (λ z. omega arith))

pub named_by_number : (list : List Derivation) (objects : List Keyed) (cap : Cap) → AreKeyed (map (λ (d : Derivation). object_number d.cap) list) objects →
    All (λ (d : Derivation). size_in d.cap < 2 ^ 32) list → is_null cap ≡ false → size_in cap < 2 ^ 32 →
    not (length (filter (is_keyed_by (object_number cap)) objects) == 0) ≡ list_any (λ (d : Derivation). names_same d.cap cap) list
named_by_number list objects cap keyed small full size =
    same_truth (not (length (filter (is_keyed_by (object_number cap)) objects) == 0)) (list_any (λ (d : Derivation). names_same d.cap cap) list) there back
  where
    nums : List ℕ
    nums = map (λ (d : Derivation). object_number d.cap) list

    there : not (length (filter (is_keyed_by (object_number cap)) objects) == 0) ≡ true → list_any (λ (d : Derivation). names_same d.cap cap) list ≡ true
    there h =
        let k = some_left (filter (is_keyed_by (object_number cap)) objects) h in
        let g = found_in (object_number cap) 0 nums 0 k.0 (ap (λ (l : List Keyed). slice_get l 0) (sym (keyed.same (object_number cap))) ∙ k.1) in
        let d = read_in list g.0 (object_number cap) g.1.1.1 in
        any_in (λ (d : Derivation). names_same d.cap cap) list d.0 d.1.0
        (one_number d.0.cap cap full (size_at list d.0 small d.1.0) size ∙ eq-eqb (object_number d.0.cap) (object_number cap) d.1.1)

    back : list_any (λ (d : Derivation). names_same d.cap cap) list ≡ true → not (length (filter (is_keyed_by (object_number cap)) objects) == 0) ≡ true
    back h =
        let d = any_of (λ (d : Derivation). names_same d.cap cap) list h in
        let i = in_got list d.0 d.1.0 in
        let number : object_number d.0.cap ≡ object_number cap =
        eqb-true (object_number d.0.cap) (object_number cap) (sym (one_number d.0.cap cap full (size_at list d.0 small d.1.0) size) ∙ d.1.1) in
        let at : slice_get nums i.0 ≡ Some (object_number cap) = slice_get-map (λ (d : Derivation). object_number d.cap) list i.0 ∙ ap (option_map (λ (d : Derivation). object_number d.cap)) i.1 ∙ ap Some number in
        let w = found_all (object_number cap) 0 nums i.0 at in
        left_some (filter (is_keyed_by (object_number cap)) objects) w.0 _ (ap (λ (l : List Keyed). slice_get l w.0) (keyed.same (object_number cap)) ∙ w.1)

-- ---- places that rise lie within where the first and the last do

pub all_between : (group : List Keyed) (first last : Keyed) (start end : ℕ) → AreAscending group → slice_get group 0 ≡ Some first → slice_get group (length group - 1) ≡ Some last →
    start ≤ first.place → nat_lt last.place end ≡ list_all (lies_within start end) group
all_between group first last start end up f l low =
    same_truth (nat_lt last.place end) (list_all (lies_within start end) group)
    (λ h. all_of (lies_within start end) group (λ k i.
    let w = in_got group k i in
    let above : first.place ≤ k.place = not_below w.0 k w.1 in
    let below : k.place ≤ last.place = not_above w.0 k w.1 in
    let high = ltb-true last.place end h in
    both (nat_le start k.place) (nat_lt k.place end) (le-leb start k.place (omega (arith, low, above))) (lt-ltb k.place end (omega (arith, below, high)))))
    (λ h. (both_true (nat_le start last.place) (nat_lt last.place end) (all_in (lies_within start end) group last h (got_in group (length group - 1) last l))).1)
  where
    both : (s t : Bool) → s ≡ true → t ≡ true → (s && t) ≡ true
    both s t h k = rw (h, k) refl

    not_below : (i : ℕ) (k : Keyed) → slice_get group i ≡ Some k → first.place ≤ k.place
    not_below zero k e = let same : first ≡ k = cc in let p = ap (λ (x : Keyed). x.place) same in omega (arith, p)
    not_below (suc i) k e = let r = up 0 (suc i) first k (omega arith) f e in omega (arith, r)

    not_above : (i : ℕ) (k : Keyed) → slice_get group i ≡ Some k → k.place ≤ last.place
    not_above i k e = elim (cases_lt i (length group - 1)) [
      | inl less ↦ (let r = up i (length group - 1) k last less e l in omega (arith, r))
      | inr more ↦ (let within = slice_get_within group i k e in
          let same : i ≡ length group - 1 = omega arith in
          let here : slice_get group (length group - 1) ≡ Some k = rw same at e in
          let one : last ≡ k = cc in
          let p = ap (λ (x : Keyed). x.place) one in
          omega (arith, p))
    ]

pub first_before : (group : List Keyed) (first : Keyed) (start end : ℕ) → slice_get group 0 ≡ Some first → (start ≤ first.place → ⊥) → false ≡ list_all (lies_within start end) group
first_before group first start end f low = elim (tells (list_all (lies_within start end) group)) [
  | inr fails ↦ sym fails
  | inl h ↦ absurd (low (leb-true start first.place (both_true (nat_le start first.place) (nat_lt first.place end) (all_in (lies_within start end) group first h (got_in group 0 first f))).0))
]

-- ---- a part of a list, one more

pub cap_more : (list : List Derivation) (start place : ℕ) (d : Derivation) → start ≤ place → place < length list →
    map (λ (d : Derivation). d.cap) (part start (place + 1) list) ≡ map (λ (d : Derivation). d.cap) (part start place list) ++ (get_or list place d).cap ∷ []
cap_more list start place d low high =
    ap (map (λ (d : Derivation). d.cap)) (part_more list start place d low high) ∙ map-append (λ (d : Derivation). d.cap) (part start place list) (get_or list place d ∷ [])

filter_last : (q : Cap → Bool) (xs : List Cap) (x : Cap) → filter q (xs ++ x ∷ []) ≡ filter q xs ++ cond (q x) (x ∷ []) []
filter_last q [] x = elim (q x) as (λ b. cond b (x ∷ []) [] ≡ cond b (x ∷ []) []) [ true ↦ refl | false ↦ refl ]
filter_last q (y ∷ xs) x = elim (q y) as (λ b. cond b (y ∷ filter q (xs ++ x ∷ [])) (filter q (xs ++ x ∷ [])) ≡ cond b (y ∷ filter q xs) (filter q xs) ++ cond (q x) (x ∷ []) []) [
  | true ↦ ap (λ (l : List Cap). y ∷ l) (filter_last q xs x)
  | false ↦ filter_last q xs x
]

pub filter_more : (q : Cap → Bool) (list : List Derivation) (start place : ℕ) (d : Derivation) (cap : Cap) (old : List Cap) → start ≤ place → place < length list → cap ≡ (get_or list place d).cap →
    q cap ≡ true → old ≡ filter q (map (λ (d : Derivation). d.cap) (part start place list)) → old ++ cap ∷ [] ≡ filter q (map (λ (d : Derivation). d.cap) (part start (place + 1) list))
filter_more q list start place d cap old low high is passes e =
    let all : filter q (map (λ (d : Derivation). d.cap) (part start (place + 1) list)) ≡ filter q (map (λ (d : Derivation). d.cap) (part start place list)) ++ cond (q cap) (cap ∷ []) [] =
    ap (filter q) (cap_more list start place d low high ∙ ap (λ (c : Cap). map (λ (d : Derivation). d.cap) (part start place list) ++ c ∷ []) (sym is))
    ∙ filter_last q (map (λ (d : Derivation). d.cap) (part start place list)) cap in
    ap (λ (l : List Cap). l ++ cap ∷ []) e
    ∙ sym (all ∙ ap (λ (b : Bool). filter q (map (λ (d : Derivation). d.cap) (part start place list)) ++ cond b (cap ∷ []) []) passes)

any_last : (q : Cap → Bool) (xs : List Cap) (x : Cap) → list_any q (xs ++ x ∷ []) ≡ (list_any q xs || q x)
any_last q [] x = elim (q x) as (λ b. (b || false) ≡ b) [ true ↦ refl | false ↦ refl ]
any_last q (y ∷ xs) x = elim (q y) as (λ b. (b || list_any q (xs ++ x ∷ [])) ≡ ((b || list_any q xs) || q x)) [ true ↦ refl | false ↦ any_last q xs x ]

-- one that passes is there
pub any_here : (q : Cap → Bool) (list : List Derivation) (start end place : ℕ) (d : Derivation) (cap : Cap) → start ≤ place → place < end → end ≤ length list → cap ≡ (get_or list place d).cap →
    q cap ≡ true → true ≡ list_any q (map (λ (d : Derivation). d.cap) (part start end list))
any_here q list start end place d cap low high within is passes =
    sym (any_in q (map (λ (d : Derivation). d.cap) (part start end list)) cap
    (subst (λ (l : List Cap). In cap l) (sym (map_part (λ (d : Derivation). d.cap) start end list))
    (in_part (map (λ (d : Derivation). d.cap) list) start end place cap
    (slice_get-map (λ (d : Derivation). d.cap) list place ∙ ap (option_map (λ (d : Derivation). d.cap)) (slice_get-get_or list place d (omega arith)) ∙ ap Some (sym is)) low high)) passes)

-- ---- as the code reads derivations

pub view_at : {X Y : Type 0} (g : X → Y) (xs : List X) (i : ℕ) (d : X) → i < length xs → get_or (map g xs) i (g d) ≡ g (get_or xs i d)
view_at g [] i d h = absurd (omega arith)
view_at g (x ∷ xs) zero d h = refl
view_at g (x ∷ xs) (suc i) d h = view_at g xs i d (omega arith)

all_last : (P : Derivation → Type 0) (xs : List Derivation) (x : Derivation) → All P xs → P x → All P (xs ++ x ∷ [])
all_last P [] x h p zero d l = p
all_last P [] x h p (suc k) d l = absurd (omega arith)
all_last P (y ∷ xs) x h p zero d l = h 0 d (omega arith)
all_last P (y ∷ xs) x h p (suc k) d l = all_last P xs x (λ k' d' l'. h (suc k') d' (omega arith)) p k d (omega arith)

pub small_more : (list : List Derivation) (i : ℕ) (d : Derivation) → i < length list → All (λ (d : Derivation). size_in d.cap < 2 ^ 32) (take i list) →
    size_in (get_or list i d).cap < 2 ^ 32 → All (λ (d : Derivation). size_in d.cap < 2 ^ 32) (take (i + 1) list)
small_more list i d within h p =
    subst (All (λ (d : Derivation). size_in d.cap < 2 ^ 32)) (sym (take_more list i d within)) (all_last (λ (d : Derivation). size_in d.cap < 2 ^ 32) (take i list) (get_or list i d) h p)
