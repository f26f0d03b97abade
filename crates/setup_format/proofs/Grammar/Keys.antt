-- The first unknown key of a map is the least unknown key of the members that it stands for.
use Rattle.std.proofs.Common.{◌≡◌, ℕ, Bool, cond, List, [], ◌∷◌, find, Option, Some, option_map, String, Global, Less, Greater, nat_cmp, string_bytes, refl, sym, ap, ◌∙◌, true, false}
use Rattle.std.specs.List.{AllByRecursion, filter}
use Rattle.std.specs.List.Sorted.{IsStrictlySortedBy}
use Rattle.std.specs.Map.{keys_of as map_keys}
use Rattle.std.specs.String.{string_cmp}
use Rattle.std.specs.Ordering.{ordering_reverse}
use Rattle.std.specs.Cmp.Lexicographic.{slice_cmp}
use Rattle.std.proofs.lemmas.Cmp.{nat_list_cmp_total}
use Rattle.toml.specs.View.{members_view}
use Rattle.toml.specs.declared.value.Value.{Value}
use Rattle.setup_values.specs.Keys.{keys_of, lesser, least}

-- a key that is below another stays the lesser one
stays_first : (k x : String Global) → string_cmp k x ≡ Less → lesser (λ key. key) (string_bytes k) (Some (string_bytes x)) ≡ Some (string_bytes k)
stays_first k x lt =
    let back : slice_cmp nat_cmp (string_bytes x) (string_bytes k) ≡ Greater = nat_list_cmp_total.antisymm (string_bytes x) (string_bytes k) ∙ ap ordering_reverse lt in
    rw back

stays_at : (b : Bool) (k x : String Global) (rest : Option (String Global)) → string_cmp k x ≡ Less → lesser (λ key. key) (string_bytes k) (option_map string_bytes rest) ≡ Some (string_bytes k)
    → lesser (λ key. key) (string_bytes k) (option_map string_bytes (cond b (Some x) rest)) ≡ Some (string_bytes k)
stays_at true k x rest lt e = stays_first k x lt
stays_at false k x rest lt e = e

stays : (q : List ℕ → Bool) (k : String Global) (ks : List (String Global)) → AllByRecursion (λ y. string_cmp k y ≡ Less) ks
    → lesser (λ key. key) (string_bytes k) (option_map string_bytes (find (λ s. q (string_bytes s)) ks)) ≡ Some (string_bytes k)
stays q k [] h = refl
stays q k (x ∷ ks) h = stays_at (q (string_bytes x)) k x (find (λ s. q (string_bytes s)) ks) h.0 (stays q k ks h.1)

least_at : (b : Bool) (k : String Global) (rest : Option (String Global)) (others : List (List ℕ)) → least (λ key. key) others ≡ option_map string_bytes rest
    → lesser (λ key. key) (string_bytes k) (option_map string_bytes rest) ≡ Some (string_bytes k)
    → least (λ key. key) (cond b (string_bytes k ∷ others) others) ≡ option_map string_bytes (cond b (Some k) rest)
least_at true k rest others e first = rw e first
least_at false k rest others e first = e

pub least_found : (q : List ℕ → Bool) (es : List (String Global × Value)) → IsStrictlySortedBy string_cmp (map_keys es)
    → least (λ key. key) (filter q (keys_of (members_view es))) ≡ option_map string_bytes (find (λ s. q (string_bytes s)) (map_keys es))
unfolding IsStrictlySortedBy
least_found q [] h = refl
least_found q (e ∷ es) h =
    least_at (q (string_bytes e.0)) e.0 (find (λ s. q (string_bytes s)) (map_keys es)) (filter q (keys_of (members_view es))) (least_found q es h.1) (stays q e.0 (map_keys es) h.0)

pub unknown_is : (q : List ℕ → Bool) (es : List (String Global × Value)) (o : Option (String Global)) → IsStrictlySortedBy string_cmp (map_keys es)
    → o ≡ find (λ k. q (string_bytes k)) (map_keys es) → least (λ key. key) (filter q (keys_of (members_view es))) ≡ option_map string_bytes o
unknown_is q es o sorted found = least_found q es sorted ∙ ap (option_map string_bytes) (sym found)
