-- Texts with the first item that has each, one item more; and how many there are.
use Rattle.std.proofs.Common.{◌≡◌, ℕ, ◌+◌, ◌<◌, cond, List, [], ◌∷◌, ◌++◌, take, map, length, get_or, Option, Some, refl, sym, ap, ◌∙◌, string_bytes, String, Global}
use Rattle.std.proofs.lemmas.List.{length-map, take_more}
use Rattle.std.specs.declared.cmp.Ordering.{Ordering}
use Rattle.std.specs.declared.cmp.Ordering.TheVariants.{Less, Equal, Greater}
use Rattle.std.specs.Ordering.{match_ordering}
use Rattle.std.specs.Option.{unwrap_or}
use Rattle.std.specs.BTreeMap.{insert_entry, is_at}
use Rattle.std.specs.BTreeSet.{insert_key}
use Rattle.std.specs.Map.{lookup}
use Rattle.std.specs.String.{string_cmp}
use Rattle.command_policy_text.specs.Order.{text_cmp, put_all, put_each, put_first, firsts_in_order, in_order}

abbrev pub with_bytes : {X : Type 0} → List (String Global × X) → List (List ℕ × X)
with_bytes {X} entries = map (λ (e : String Global × X). (string_bytes e.0, e.1)) entries

-- the bytes of a map by strings, with one entry more
inserted : {X : Type 0} (entries : List (String Global × X)) (s : String Global) (x : X) →
    with_bytes (insert_entry string_cmp entries s x) ≡ insert_entry text_cmp (with_bytes entries) (string_bytes s) x
inserted [] s x = refl
inserted {X} (e ∷ entries) s x =
    elim (string_cmp s e.0) as (λ (o : Ordering). with_bytes (match_ordering o ((s, x) ∷ e ∷ entries) ((e.0, x) ∷ entries) (e ∷ insert_entry string_cmp entries s x))
    ≡ match_ordering o ((string_bytes s, x) ∷ (string_bytes e.0, e.1) ∷ with_bytes entries) ((string_bytes e.0, x) ∷ with_bytes entries)
    ((string_bytes e.0, e.1) ∷ insert_entry text_cmp (with_bytes entries) (string_bytes s) x)) [
      | Less ↦ refl
      | Equal ↦ refl
      | Greater ↦ ap (λ (l : List (List ℕ × X)). (string_bytes e.0, e.1) ∷ l) (inserted entries s x)
    ]

found : {X : Type 0} (entries : List (String Global × X)) (s : String Global) →
    lookup (is_at (string_cmp s)) entries ≡ lookup (is_at (text_cmp (string_bytes s))) (with_bytes entries)
found [] s = refl
found {X} (e ∷ entries) s = ap (λ (o : Option X). cond (is_at (string_cmp s) e.0) (Some e.1) o) (found entries s)

-- an item more, at the end
put_more : {X : Type 0} (f : X → List ℕ) (kept : List (List ℕ × X)) (xs : List X) (x : X) →
    put_each f kept (xs ++ x ∷ []) ≡ put_first (put_each f kept xs) (f x) x
put_more f kept [] x = refl
put_more f kept (y ∷ xs) x = put_more f (put_first kept (f y) y) xs x

-- the first items by their texts, with one item more
pub put_one : {X : Type 0} (f : X → List ℕ) (xs : List X) (i : ℕ) (d : X) (entries after : List (String Global × X)) (s : String Global) (x : X) → i < length xs →
    with_bytes entries ≡ firsts_in_order f (take i xs) → string_bytes s ≡ f (get_or xs i d) →
    x ≡ unwrap_or (lookup (is_at (string_cmp s)) entries) (get_or xs i d) → after ≡ insert_entry string_cmp entries s x →
    with_bytes after ≡ firsts_in_order f (take (i + 1) xs)
put_one {X} f xs i d entries after s x within is text first so =
    ap with_bytes so
    ∙ inserted entries s x
    ∙ ap (λ (y : X). insert_entry text_cmp (with_bytes entries) (string_bytes s) y) (first ∙ ap (λ (o : Option X). unwrap_or o (get_or xs i d)) (found entries s))
    ∙ ap (λ (kept : List (List ℕ × X)). put_first kept (string_bytes s) (get_or xs i d)) is
    ∙ ap (λ (t : List ℕ). put_first (firsts_in_order f (take i xs)) t (get_or xs i d)) text
    ∙ sym (put_more f [] (take i xs) (get_or xs i d))
    ∙ ap (λ (l : List X). firsts_in_order f l) (sym (take_more xs i d within))

-- ---- the texts are those in order

abbrev texts_of : {X : Type 0} → List (List ℕ × X) → List (List ℕ)
texts_of {X} kept = map (λ (e : List ℕ × X). e.0) kept

texts_put : {X : Type 0} (kept : List (List ℕ × X)) (text : List ℕ) (x : X) → texts_of (insert_entry text_cmp kept text x) ≡ insert_key text_cmp (texts_of kept) text
texts_put [] text x = refl
texts_put (e ∷ kept) text x =
    elim (text_cmp text e.0) as (λ (o : Ordering). texts_of (match_ordering o ((text, x) ∷ e ∷ kept) ((e.0, x) ∷ kept) (e ∷ insert_entry text_cmp kept text x))
    ≡ match_ordering o (text ∷ e.0 ∷ texts_of kept) (e.0 ∷ texts_of kept) (e.0 ∷ insert_key text_cmp (texts_of kept) text)) [
      | Less ↦ refl
      | Equal ↦ refl
      | Greater ↦ ap (λ l. e.0 ∷ l) (texts_put kept text x)
    ]

texts_of_each : {X : Type 0} (f : X → List ℕ) (kept : List (List ℕ × X)) (xs : List X) → texts_of (put_each f kept xs) ≡ put_all (texts_of kept) (map f xs)
texts_of_each f kept [] = refl
texts_of_each f kept (x ∷ xs) =
    texts_of_each f (put_first kept (f x) x) xs
    ∙ ap (λ t. put_all t (map f xs)) (texts_put kept (f x) (unwrap_or (lookup (is_at (text_cmp (f x))) kept) x))

-- there are as many as there are texts in order
pub as_many_firsts : {X : Type 0} (f : X → List ℕ) (xs : List X) → length (firsts_in_order f xs) ≡ length (in_order (map f xs))
as_many_firsts {X} f xs = sym (length-map (firsts_in_order f xs) (λ (e : List ℕ × X). e.0)) ∙ ap length (texts_of_each f [] xs)
