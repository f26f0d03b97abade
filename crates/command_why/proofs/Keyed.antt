-- Words with their keys: the first that has a key.
use Rattle.std.proofs.Common.{◌≡◌, ℕ, refl, sym, ap, ◌∙◌, List, [], ◌∷◌, Bool, true, false, cond, map, find, Option, Some, None, option_map}
use Rattle.std.specs.Prelude.{unwrap_or}
use Rattle.std.specs.Str.{bytes_eq}
use Rattle.command_why.specs.declared.reasons.keys.KeyWord.{KeyWord}
use Rattle.command_why.specs.Keys.{key_word, word_of}

found_or : {A B : Type 0} (f : A → B) (b : Bool) (x : A) (rest : Option A) (d : Option B) → d ≡ option_map f rest → cond b (Some (f x)) d ≡ option_map f (cond b (Some x) rest)
found_or f true x rest d e = refl
found_or f false x rest d e = e

find-map : {A B : Type 0} (f : A → B) (p : B → Bool) (xs : List A) → find p (map f xs) ≡ option_map f (find (λ x. p (f x)) xs)
find-map f p [] = refl
find-map f p (x ∷ xs) = found_or f (p (f x)) x (find (λ y. p (f y)) xs) (find p (map f xs)) (find-map f p xs)

word_found : (words : List KeyWord) (key : List ℕ) (o : Option KeyWord) → o ≡ find (λ k. bytes_eq k.key.now key) words
    → word_of (map key_word words) key ≡ unwrap_or (option_map (λ (k : List ℕ × ℕ). k.1) (option_map key_word o)) 0
word_found words key o found =
    ap (λ (o : Option (List ℕ × ℕ)). unwrap_or (option_map (λ (k : List ℕ × ℕ). k.1) o) 0)
    (find-map key_word (λ (k : List ℕ × ℕ). bytes_eq k.0 key) words ∙ ap (option_map key_word) (sym found))

pub no_word : (words : List KeyWord) (key : List ℕ) → None ≡ find (λ k. bytes_eq k.key.now key) words → 0 ≡ word_of (map key_word words) key
no_word words key none = sym (word_found words key None none)

pub one_word : (words : List KeyWord) (key : List ℕ) (k : KeyWord) → Some k ≡ find (λ k. bytes_eq k.key.now key) words → k.word ≡ word_of (map key_word words) key
one_word words key k some = sym (word_found words key (Some k) some)
