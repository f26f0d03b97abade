-- A set of texts, one text more.
use Rattle.std.proofs.Common.{◌≡◌, ℕ, ◌+◌, ◌<◌, List, [], ◌∷◌, ◌++◌, take, map, length, get_or, refl, sym, ap, ◌∙◌, string_bytes, String, Global}
use Rattle.std.proofs.lemmas.List.{map-append, take_more}
use Rattle.std.specs.declared.cmp.Ordering.{Ordering}
use Rattle.std.specs.declared.cmp.Ordering.TheVariants.{Less, Equal, Greater}
use Rattle.std.specs.Ordering.{match_ordering}
use Rattle.std.specs.BTreeSet.{insert_key}
use Rattle.std.specs.String.{string_cmp}
use Rattle.command_policy_text.specs.Order.{text_cmp, put_all, in_order}

-- the bytes of a set of strings, with one more
pub inserted : (keys : List (String Global)) (s : String Global) →
    map string_bytes (insert_key string_cmp keys s) ≡ insert_key text_cmp (map string_bytes keys) (string_bytes s)
inserted [] s = refl
inserted (k ∷ keys) s =
    elim (string_cmp s k) as (λ (o : Ordering). map string_bytes (match_ordering o (s ∷ k ∷ keys) (k ∷ keys) (k ∷ insert_key string_cmp keys s))
    ≡ match_ordering o (string_bytes s ∷ string_bytes k ∷ map string_bytes keys) (string_bytes k ∷ map string_bytes keys) (string_bytes k ∷ insert_key text_cmp (map string_bytes keys) (string_bytes s))) [
      | Less ↦ refl
      | Equal ↦ refl
      | Greater ↦ ap (λ l. string_bytes k ∷ l) (inserted keys s)
    ]

-- a text more, at the end
pub put_more : (kept texts : List (List ℕ)) (text : List ℕ) → put_all kept (texts ++ text ∷ []) ≡ insert_key text_cmp (put_all kept texts) text
put_more kept [] text = refl
put_more kept (t ∷ texts) text = put_more (insert_key text_cmp kept t) texts text

-- the texts of some items in a set, with that of one item more
pub put_one : {X : Type 0} (f : X → List ℕ) (xs : List X) (i : ℕ) (d : X) (keys after : List (String Global)) (s : String Global) → i < length xs →
    map string_bytes keys ≡ in_order (map f (take i xs)) → string_bytes s ≡ f (get_or xs i d) → after ≡ insert_key string_cmp keys s →
    map string_bytes after ≡ in_order (map f (take (i + 1) xs))
put_one f xs i d keys after s within is text so =
    ap (λ l. map string_bytes l) so
    ∙ inserted keys s
    ∙ ap (λ l. insert_key text_cmp l (string_bytes s)) is
    ∙ ap (λ t. insert_key text_cmp (in_order (map f (take i xs))) t) text
    ∙ sym (put_more [] (map f (take i xs)) (f (get_or xs i d)))
    ∙ ap in_order (sym (map-append f (take i xs) (get_or xs i d ∷ [])))
    ∙ ap (λ l. in_order (map f l)) (sym (take_more xs i d within))
