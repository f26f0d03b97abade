-- Looking a name up.
use Rattle.std.proofs.Common.{◌≡◌, ℕ, ◌+◌, ◌<◌, Bool, cond, List, [], ◌∷◌, map, drop, length, get_or, find, Option, Some, None, option_map, string_bytes, refl, sym, ap, ◌∙◌, true, false}
use Rattle.std.proofs.lemmas.List.{at_drop_more}
use Rattle.std.specs.Str.{bytes_eq}
use Rattle.setup_values.specs.declared.names.Name.{Name}
use Rattle.setup_values.specs.Names.{word_named, names_view}

found_or : {A B : Type 0} (f : A → B) (b : Bool) (x : A) (rest : Option A) (d : Option B) → d ≡ option_map f rest → cond b (Some (f x)) d ≡ option_map f (cond b (Some x) rest)
found_or f true x rest d e = refl
found_or f false x rest d e = e

-- the first element of a mapped list, and the first of the list
pub find_map : {A B : Type 0} (f : A → B) (p : B → Bool) (xs : List A) → find p (map f xs) ≡ option_map f (find (λ x. p (f x)) xs)
find_map f p [] = refl
find_map f p (x ∷ xs) = found_or f (p (f x)) x (find (λ y. p (f y)) xs) (find p (map f xs)) (find_map f p xs)

abbrev pub entry : Name → List ℕ × ℕ
entry n = (string_bytes n.text, n.word)

word_of_entry : (o : Option Name) → option_map (λ (e : List ℕ × ℕ). e.1) (option_map entry o) ≡ option_map (λ (n : Name). n.word) o
word_of_entry None = refl
word_of_entry (Some n) = refl

word_of_named : (names : List Name) (text : List ℕ) (o : Option Name) → o ≡ find (λ n. bytes_eq (string_bytes n.text) text) names → option_map (λ (n : Name). n.word) o ≡ word_named (names_view names) text
word_of_named names text o found =
    let first : find (λ (e : List ℕ × ℕ). bytes_eq e.0 text) (map entry names) ≡ option_map entry o = find_map entry (λ e. bytes_eq e.0 text) names ∙ ap (option_map entry) (sym found) in
    sym (ap (option_map (λ (e : List ℕ × ℕ). e.1)) first ∙ word_of_entry o)

pub no_word : (names : List Name) (text : List ℕ) → None ≡ find (λ n. bytes_eq (string_bytes n.text) text) names → None ≡ word_named (names_view names) text
no_word names text none = word_of_named names text None none

pub one_word : (names : List Name) (text : List ℕ) (n : Name) → Some n ≡ find (λ n. bytes_eq (string_bytes n.text) text) names → Some n.word ≡ word_named (names_view names) text
one_word names text n some = word_of_named names text (Some n) some

-- ---- the word of the first name with a text, of a list with one name more

picked : {A B : Type 0} (f : A → B) (b : Bool) (x : A) (o : Option A) → option_map f (cond b (Some x) o) ≡ cond b (Some (f x)) (option_map f o)
picked f true x o = refl
picked f false x o = refl

pub one_more : (names : List Name) (i : ℕ) (d : Name) (text : List ℕ) → i < length names →
    word_named (names_view (drop i names)) text
    ≡ cond (bytes_eq (string_bytes (get_or names i d).text) text) (Some (get_or names i d).word) (word_named (names_view (drop (i + 1) names)) text)
one_more names i d text within =
    let n = get_or names i d in
    at_drop_more (λ l. word_named (names_view l) text) names i d within
    ∙ picked (λ (e : List ℕ × ℕ). e.1) (bytes_eq (string_bytes n.text) text) (entry n) (find (λ (e : List ℕ × ℕ). bytes_eq e.0 text) (names_view (drop (i + 1) names)))
