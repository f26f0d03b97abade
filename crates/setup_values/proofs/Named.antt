-- The name of a value.
use Rattle.std.proofs.Common.{◌≡◌, ◌≢◌, ℕ, ◌+◌, Bool, true, false, cond, ◌==◌, List, [], ◌∷◌, map, fold, find, count_by, Option, Some, None, option_map, string_bytes, refl, sym, ap, ◌∙◌, eq-eqb}
use Rattle.std.proofs.lemmas.Bool.{eqb-true}
use Rattle.setup_values.specs.declared.names.Name.{Name}
use Rattle.setup_values.specs.Names.{names_view}
use Rattle.setup_values.specs.Told.{has_value, name_of}
use Rattle.setup_values.proofs.LookUp.{entry, find_map}

fold_map : {A B : Type 0} (f : A → B) (p : B → Bool) (n : ℕ) (xs : List A) →
    fold (λ a x. a + cond (p x) 1 0) n (map f xs) ≡ fold (λ a x. a + cond (p (f x)) 1 0) n xs
fold_map f p n [] = refl
fold_map f p n (x ∷ xs) = fold_map f p (n + cond (p (f x)) 1 0) xs

count_map : {A B : Type 0} (f : A → B) (p : B → Bool) (xs : List A) → count_by p (map f xs) ≡ count_by (λ x. p (f x)) xs
count_map f p xs = fold_map f p 0 xs

abbrev named : ℕ → Name → Bool
named value n = n.word == value

text_of_entry : (o : Option Name) → option_map (λ (e : List ℕ × ℕ). e.0) (option_map entry o) ≡ option_map (λ (n : Name). string_bytes n.text) o
text_of_entry None = refl
text_of_entry (Some n) = refl

counted : (names : List Name) (value : ℕ) → count_by (has_value value) (names_view names) ≡ count_by (named value) names
counted names value = count_map entry (has_value value) names

found : (names : List Name) (value : ℕ) → option_map (λ (e : List ℕ × ℕ). e.0) (find (has_value value) (names_view names)) ≡ option_map (λ (n : Name). string_bytes n.text) (find (named value) names)
found names value = ap (option_map (λ (e : List ℕ × ℕ). e.0)) (find_map entry (has_value value) names) ∙ text_of_entry (find (named value) names)

-- by how many names have the value, and by the first of them
by_count : (names : List Name) (value count : ℕ) (o : Option Name) → count ≡ count_by (λ n. n.word == value) names → o ≡ find (λ n. n.word == value) names →
    cond (count == 1) (option_map (λ (n : Name). string_bytes n.text) o) None ≡ name_of (names_view names) value
by_count names value count o counts finds =
    λ i. cond ((counts ∙ sym (counted names value)) i == 1) ((ap (option_map (λ (n : Name). string_bytes n.text)) finds ∙ sym (found names value)) i) None

not_one_is : (b : Bool) (x : Option (List ℕ)) → b ≡ false → cond b x None ≡ None
not_one_is true x h = cc
not_one_is false x h = refl

ne_false : (a b : ℕ) → a ≢ b → (a == b) ≡ false
ne_false a b h = elim (a == b) as (λ c. (a == b) ≡ c → c ≡ false) [ true ↦ λ e. absurd (h (eqb-true a b e)) | false ↦ λ e. refl ] refl

pub not_one : (names : List Name) (value count : ℕ) → count ≡ count_by (λ n. n.word == value) names → count ≢ 1 → None ≡ name_of (names_view names) value
not_one names value count counts other =
    sym (not_one_is (count == 1) (option_map (λ (n : Name). string_bytes n.text) (find (named value) names)) (ne_false count 1 other))
    ∙ by_count names value count (find (named value) names) counts refl

pub no_name : (names : List Name) (value : ℕ) → None ≡ find (λ n. n.word == value) names → None ≡ name_of (names_view names) value
no_name names value none =
    sym (none_is (count_by (named value) names == 1)) ∙ by_count names value (count_by (named value) names) None refl none
  where
    none_is : (b : Bool) → cond b (option_map (λ (n : Name). string_bytes n.text) None) None ≡ None
    none_is true = refl
    none_is false = refl

pub one_name : (names : List Name) (value count : ℕ) (n : Name) → count ≡ count_by (λ n. n.word == value) names → count ≡ 1 → Some n ≡ find (λ n. n.word == value) names →
    Some (string_bytes n.text) ≡ name_of (names_view names) value
one_name names value count n counts one some =
    sym (ap (λ (b : Bool). cond b (Some (string_bytes n.text)) None) (eq-eqb count 1 one))
    ∙ by_count names value count (Some n) counts some
