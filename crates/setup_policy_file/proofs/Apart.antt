-- Elements of a list that stand apart.
use Rattle.std.proofs.Common.{◌≡◌, ◌||◌, ◌&&◌, not, ℕ, ◌+◌, ◌<◌, Bool, true, false, List, [], ◌∷◌, ◌++◌, length, get_or, take, map, string_bytes, refl, sym}
use Rattle.std.specs.List.{list_any}
use Rattle.std.specs.Prelude.{String}
use Rattle.std.specs.Str.{bytes_eq}
use Rattle.std.specs.declared.alloc.Global.{Global}
use Rattle.std.proofs.lemmas.Bool.{true≢false}
use Rattle.std.proofs.lemmas.List.{take_more}
use Rattle.std.proofs.lemmas.List.Folds.{list_any-append}
use Rattle.setup_policy_file.specs.declared.file.Word.{Word}
use Rattle.setup_policy_file.specs.declared.file.Word.TheVariants.{Number, Name}
use Rattle.setup_policy_file.specs.contracts.file.WordPartialEq.TheImpl as word_eq
use Rattle.setup_policy_file.specs.Values.{are_apart, is_same_word, word_view}

step : (same behind first apart more : Bool) → (same || behind) ≡ false → (not first && apart) ≡ true → (apart ≡ true → behind ≡ false → more ≡ true)
    → (not (first || (same || false)) && more) ≡ true
step false behind false apart more other are further = further are other
step true behind first apart more other are further = absurd (true≢false other)
step false behind true apart more other are further = absurd (true≢false (sym are))

-- one element more
apart_more : {A : Type 0} (same : A → A → Bool) (xs : List A) (x : A) → are_apart same xs ≡ true → list_any (λ y. same y x) xs ≡ false → are_apart same (xs ++ x ∷ []) ≡ true
apart_more same [] x apart other = refl
apart_more same (y ∷ ys) x apart other =
    rw (list_any-append (same y) ys (x ∷ []))
    (step (same y x) (list_any (λ z. same z x) ys) (list_any (same y) ys) (are_apart same ys) (are_apart same (ys ++ x ∷ [])) other apart (apart_more same ys x))

pub apart_next : {A : Type 0} (same : A → A → Bool) (xs : List A) (i : ℕ) (d : A) → i < length xs
    → are_apart same (take i xs) ≡ true → list_any (λ y. same y (get_or xs i d)) (take i xs) ≡ false → are_apart same (take (i + 1) xs) ≡ true
apart_next same xs i d lt apart other = rw (take_more xs i d lt) (apart_more same (take i xs) (get_or xs i d) apart other)

any_shown : {A B : Type 0} (eq : A → A → Bool) (same : B → B → Bool) (v : A → B) → ((a b : A) → eq a b ≡ same (v a) (v b))
    → (x : A) (xs : List A) → list_any (eq x) xs ≡ list_any (same (v x)) (map v xs)
any_shown eq same v agree x [] = refl
any_shown eq same v agree x (y ∷ ys) = rw (agree x y, any_shown eq same v agree x ys) refl

shown_apart : {A B : Type 0} (eq : A → A → Bool) (same : B → B → Bool) (v : A → B) → ((a b : A) → eq a b ≡ same (v a) (v b))
    → (xs : List A) → are_apart eq xs ≡ are_apart same (map v xs)
shown_apart eq same v agree [] = refl
shown_apart eq same v agree (x ∷ xs) = rw (any_shown eq same v agree x xs, shown_apart eq same v agree xs) refl

pub names_apart : (xs : List (String Global)) → are_apart (λ (a b : String Global). bytes_eq (string_bytes a) (string_bytes b)) xs ≡ are_apart bytes_eq (map string_bytes xs)
names_apart xs = shown_apart _ bytes_eq string_bytes (λ a b. refl) xs

same_word : (v w : Word) → word_eq.ghosts.eq v w ≡ is_same_word (word_view v) (word_view w)
same_word (Number m) (Number n) = refl
same_word (Number m) (Name t) = refl
same_word (Name s) (Number n) = refl
same_word (Name s) (Name t) = refl

pub words_apart : (xs : List Word) → are_apart word_eq.ghosts.eq xs ≡ are_apart is_same_word (map word_view xs)
words_apart xs = shown_apart word_eq.ghosts.eq is_same_word word_view same_word xs
