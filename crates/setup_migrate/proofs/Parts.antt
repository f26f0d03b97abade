-- Members of a table: with a value at a key, and with the value at a key changed.
use Rattle.std.proofs.Common.{◌≡◌, ℕ, Bool, true, false, cond, List, [], ◌∷◌, ◌++◌, map, Some, None, option_map, String, Global, Ordering, Less, Equal, Greater, string_bytes, nat_cmp, is_eq, refl, sym, ap, ◌∙◌, inl, inr, ◌⊎◌, ◌+◌, ◌<◌, ◌≤◌, length, take, drop, set, get_or, arith}
use Rattle.std.proofs.lemmas.Bool.{cases_Bool, false≢true}
use Rattle.std.proofs.lemmas.Cmp.{nat_list_cmp_total}
use Rattle.std.proofs.lemmas.Grind.{drop_more_same}
use Rattle.std.proofs.lemmas.List.{drop-set-lt, get_or-drop, map_push, take_all, take_more, take_more_set}
use Rattle.std.proofs.lemmas.Option.{none-some, same_Some}
use Rattle.std.proofs.lemmas.Map.Lookups.{exact_bytes}
use Rattle.std.specs.BTreeMap.{insert_entry, is_at}
use Rattle.std.specs.Cmp.{tied_itself}
use Rattle.std.specs.Cmp.Lexicographic.{slice_cmp}
use Rattle.std.specs.List.{filter}
use Rattle.std.specs.Map.{lookup, set_value}
use Rattle.std.specs.Ordering.{match_ordering}
use Rattle.std.specs.String.{string_cmp}
use Rattle.toml.specs.Data.{Data, item, Members, no_members, member, get_member, same_key}
use Rattle.toml.specs.View.{view, items_of, items_view, members_view}
use Rattle.toml.specs.declared.value.Value.{Value}
use Rattle.setup_migrate.specs.Migration.{with_member, with_changed, each_item}
use Rattle.setup_values.specs.Keys.{keys_of}

abbrev pub Entry : Type 0
Entry = String Global × Value

-- the test by which a map looks a text up
abbrev pub at_text : List ℕ → String Global → Ordering
at_text k x = slice_cmp nat_cmp k (string_bytes x)

pub cases_ordering : (o : Ordering) → (o ≡ Less) ⊎ ((o ≡ Equal) ⊎ (o ≡ Greater))
cases_ordering Less = inl refl
cases_ordering Equal = inr (inl refl)
cases_ordering Greater = inr (inr refl)

-- ---- what a map holds after a write

pub view_changed : (k : List ℕ) (f : Data → Data) (es : List Entry) (v w : Value) → lookup (is_at (at_text k)) es ≡ Some v → view w ≡ f (view v)
    → members_view (set_value (is_at (at_text k)) es w) ≡ with_changed k f (members_view es)
view_changed k f [] v w found e = absurd (none-some v found)
view_changed k f (x ∷ es) v w found e =
    elim (cases_Bool (same_key k (string_bytes x.0))) [
      | inl same ↦
          let here : x.1 ≡ v = same_Some x.1 v (rw same at found) in
          simp same (ap (λ d. member (string_bytes x.0) d (members_view es)) (e ∙ ap (λ u. f (view u)) (sym here)))
      | inr other ↦ simp other (ap (member (string_bytes x.0) (view x.1)) (view_changed k f es v w (rw other at found) e))
    ]

pub view_unchanged : (k : List ℕ) (f : Data → Data) (es : List Entry) → lookup (is_at (at_text k)) es ≡ None → members_view es ≡ with_changed k f (members_view es)
view_unchanged k f [] none = refl
view_unchanged k f (x ∷ es) none =
    elim (cases_Bool (same_key k (string_bytes x.0))) [
      | inl same ↦ absurd (none-some x.1 (sym (rw same at none)))
      | inr other ↦ simp other (ap (member (string_bytes x.0) (view x.1)) (view_unchanged k f es (rw other at none)))
    ]

pub view_with : (es : List Entry) (k : String Global) (v : Value) → members_view (insert_entry string_cmp es k v) ≡ with_member (string_bytes k) (view v) (members_view es)
view_with [] k v = refl
view_with (x ∷ es) k v =
    elim (cases_ordering (string_cmp k x.0)) [
      | inl less ↦ simp less
      | inr other ↦ elim other [
        | inl tie ↦ simp tie
        | inr more ↦ simp more (ap (member (string_bytes x.0) (view x.1)) (view_with es k v))
      ]
    ]

-- ---- what a key then holds

tied : (o : Ordering) → is_eq o ≡ true → o ≡ Equal
tied Less e = absurd (false≢true e)
tied Equal e = refl
tied Greater e = absurd (false≢true e)

-- two texts that compare as equal are the same
pub texts_tied : (k l : List ℕ) → same_key k l ≡ true → k ≡ l
texts_tied k l same = exact_bytes k l (tied (slice_cmp nat_cmp k l) same)

-- past a key that is another
pub past : {A : Type 0} (o : Ordering) (a x : A) → is_eq o ≡ false → match_ordering o a x a ≡ a
past Less a x other = refl
past Equal a x other = absurd (false≢true (sym other))
past Greater a x other = refl

pub get_changed : (k : List ℕ) (f : Data → Data) (ms : Members) → get_member k (with_changed k f ms) ≡ option_map f (get_member k ms)
get_changed k f no_members = refl
get_changed k f (member l d ms) =
    elim (cases_ordering (slice_cmp nat_cmp k l)) [
      | inl less ↦ simp less (get_changed k f ms)
      | inr other ↦ elim other [
        | inl tie ↦ simp tie
        | inr more ↦ simp more (get_changed k f ms)
      ]
    ]

pub get_changed_other : (j k : List ℕ) (f : Data → Data) (ms : Members) → same_key j k ≡ false → get_member j (with_changed k f ms) ≡ get_member j ms
get_changed_other j k f no_members apart = refl
get_changed_other j k f (member l d ms) apart =
    elim (cases_Bool (same_key k l)) [
      | inl same ↦
          let away : same_key j l ≡ false = rw (← texts_tied k l same) apart in
          simp same (past (slice_cmp nat_cmp j l) (get_member j ms) (Some (f d)) away ∙ sym (past (slice_cmp nat_cmp j l) (get_member j ms) (Some d) away))
      | inr other ↦ simp other (ap (λ rest. match_ordering (slice_cmp nat_cmp j l) rest (Some d) rest) (get_changed_other j k f ms apart))
    ]

pub get_with : (k : List ℕ) (d : Data) (ms : Members) → get_member k (with_member k d ms) ≡ Some d
get_with k d no_members = rw (tied_itself nat_list_cmp_total k)
get_with k d (member l e ms) =
    elim (cases_ordering (slice_cmp nat_cmp k l)) [
      | inl less ↦ simp (less, tied_itself nat_list_cmp_total k)
      | inr other ↦ elim other [
        | inl tie ↦ simp tie
        | inr more ↦ simp more (get_with k d ms)
      ]
    ]

pub get_with_other : (j k : List ℕ) (d : Data) (ms : Members) → same_key j k ≡ false → get_member j (with_member k d ms) ≡ get_member j ms
get_with_other j k d no_members apart = past (slice_cmp nat_cmp j k) None (Some d) apart
get_with_other j k d (member l e ms) apart =
    elim (cases_ordering (slice_cmp nat_cmp k l)) [
      | inl less ↦ simp less (past (slice_cmp nat_cmp j k) (get_member j (member l e ms)) (Some d) apart)
      | inr other ↦ elim other [
        | inl tie ↦
            let away : same_key j l ≡ false = rw (← exact_bytes k l tie) apart in
            simp tie (past (slice_cmp nat_cmp j l) (get_member j ms) (Some d) away ∙ sym (past (slice_cmp nat_cmp j l) (get_member j ms) (Some e) away))
        | inr more ↦ simp more (ap (λ rest. match_ordering (slice_cmp nat_cmp j l) rest (Some e) rest) (get_with_other j k d ms apart))
      ]
    ]

-- ---- the keys

pub keys_changed : (k : List ℕ) (f : Data → Data) (ms : Members) → keys_of (with_changed k f ms) ≡ keys_of ms
keys_changed k f no_members = refl
keys_changed k f (member l d ms) =
    elim (cases_Bool (same_key k l)) [
      | inl same ↦ simp same
      | inr other ↦ simp other (ap (λ ks. l ∷ ks) (keys_changed k f ms))
    ]

-- a key that a test leaves out
pub keys_with : (test : List ℕ → Bool) (k : List ℕ) (d : Data) (ms : Members) → test k ≡ false → filter test (keys_of (with_member k d ms)) ≡ filter test (keys_of ms)
keys_with test k d no_members out = rw out
keys_with test k d (member l e ms) out =
    elim (cases_ordering (slice_cmp nat_cmp k l)) [
      | inl less ↦ simp (less, out)
      | inr other ↦ elim other [
        | inl tie ↦ simp tie
        | inr more ↦ simp more (ap (λ ks. cond (test l) (l ∷ ks) ks) (keys_with test k d ms out))
      ]
    ]

-- ---- items, each changed

each_items : (f : Data → Data) (vs : List Value) → items_of (map (λ v. f (view v)) vs) ≡ each_item f (items_view vs)
each_items f [] = refl
each_items f (v ∷ vs) = ap (item (f (view v))) (each_items f vs)

add_none : (i : ℕ) → i + 0 ≡ i
add_none i = omega arith

-- a loop that changes each item in turn: one more, and at its end all
pub changed_so_far : (f : Data → Data) (xs ys zs : List Value) (i : ℕ) (d w : Value) → i < length xs → length xs ≡ length ys → map view (take i xs) ≡ map (λ v. f (view v)) (take i ys)
    → drop i xs ≡ drop i ys → zs ≡ set xs i w → view w ≡ f (view (get_or xs i d)) → map view (take (i + 1) zs) ≡ map (λ v. f (view v)) (take (i + 1) ys)
changed_so_far f xs ys zs i d w lt same so_far rest written seen =
    let here : get_or xs i d ≡ get_or ys i d = sym (get_or-drop i xs 0 d ∙ ap (λ k. get_or xs k d) (add_none i)) ∙ (ap (λ l. get_or l 0 d) rest ∙ get_or-drop i ys 0 d ∙ ap (λ k. get_or ys k d) (add_none i)) in
    let value : view w ≡ f (view (get_or ys i d)) = seen ∙ ap (λ v. f (view v)) here in
    let made : map view (take (i + 1) zs) ≡ map view (take i xs) ++ view w ∷ [] =
    ap (λ l. map view (take (i + 1) l)) written ∙ (ap (map view) (take_more_set xs i w lt) ∙ map_push view (take i xs) w) in
    let wanted : map (λ v. f (view v)) (take (i + 1) ys) ≡ map (λ v. f (view v)) (take i ys) ++ f (view (get_or ys i d)) ∷ [] =
    ap (map (λ v. f (view v))) (take_more ys i d (omega arith)) ∙ map_push (λ v. f (view v)) (take i ys) (get_or ys i d) in
    made ∙ (ap (λ l. l ++ view w ∷ []) so_far ∙ (ap (λ e. map (λ v. f (view v)) (take i ys) ++ e ∷ []) value ∙ sym wanted))

pub changed_rest : (xs ys zs : List Value) (i : ℕ) (w : Value) → drop i xs ≡ drop i ys → zs ≡ set xs i w → drop (i + 1) zs ≡ drop (i + 1) ys
changed_rest xs ys zs i w rest written = ap (drop (i + 1)) written ∙ (drop-set-lt (i + 1) xs i w (omega arith) ∙ drop_more_same xs ys i rest)

pub changed_all : (f : Data → Data) (xs ys : List Value) (i : ℕ) → length xs ≤ i → length xs ≡ length ys → map view (take i xs) ≡ map (λ v. f (view v)) (take i ys)
    → items_view xs ≡ each_item f (items_view ys)
changed_all f xs ys i all same so_far =
    let first : take i xs ≡ xs = take_all i xs all in
    let second : take i ys ≡ ys = take_all i ys (omega arith) in
    let whole : map view xs ≡ map (λ v. f (view v)) ys = ap (map view) (sym first) ∙ (so_far ∙ ap (map (λ v. f (view v))) second) in
    ap items_of whole ∙ each_items f ys
