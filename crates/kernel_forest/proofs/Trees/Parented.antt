-- Who stands below whom, read off a list from its first on, with those above at hand.
use Rattle.std.proofs.Common.{◌≡◌, ℕ, suc, ◌-◌, Bool, true, false, cond, List, [], ◌∷◌, ◌++◌, map, reverse, length, Option, Some, None, refl, sym, ◌∙◌, ap, arith}
use Rattle.std.proofs.lemmas.List.{append_assoc, map-append, reverse-append}
use Rattle.std.specs.Prelude.{option_map, slice_get}
use Rattle.kernel_forest.specs.Forest.{Forest, none, tree, front_trees, trees_behind, build, parented, renamed}
use Rattle.kernel_forest.specs.Entries.{Entry, slot_of, derivations_of}

-- those of a stack, the innermost first, from the first on that passes
abbrev pub still_above : {A : Type 0} → (A → A → Bool) → A → List A → List A
still_above t b [] = []
still_above t b (s ∷ stack) = cond (t s b) (s ∷ stack) (still_above t b stack)

abbrev pub innermost : {A : Type 0} → List A → Option A
innermost [] = None
innermost (s ∷ stack) = Some s

-- each of a list, with the innermost of those above it
abbrev pub walked : {A : Type 0} → (A → A → Bool) → List A → List A → List (A × Option A)
walked t stack [] = []
walked t stack (b ∷ l) = let above = still_above t b stack in (b, innermost above) ∷ walked t (b ∷ above) l

-- the trees that come after a stack was entered: those whose tops pass stand below its innermost, the others further out
abbrev pub spread : {A : Type 0} → (A → A → Bool) → List A → Forest A → List (A × Option A)
spread t [] f = parented None f
spread t (s ∷ stack) f = parented (Some s) (front_trees (t s) f) ++ spread t stack (trees_behind (t s) f)

spread-none : {A : Type 0} (t : A → A → Bool) (stack : List A) → spread t stack none ≡ []
spread-none t [] = refl
spread-none t (s ∷ stack) = spread-none t stack

-- a first tree stands below the innermost whose test its top passes
entered : {A : Type 0} (t : A → A → Bool) (stack : List A) (b : A) (under others : Forest A)
    → spread t stack (tree b under others) ≡ (b, innermost (still_above t b stack)) ∷ (parented (Some b) under ++ spread t (still_above t b stack) others)
entered t [] b under others = refl
entered t (s ∷ stack) b under others =
    elim (t s b) as (λ p. parented (Some s) (cond p (tree b under (front_trees (t s) others)) none) ++ spread t stack (cond p (trees_behind (t s) others) (tree b under others))
    ≡ (b, innermost (cond p (s ∷ stack) (still_above t b stack))) ∷ (parented (Some b) under ++ spread t (cond p (s ∷ stack) (still_above t b stack)) others)) [
      | true ↦ ap (λ m. (b, Some s) ∷ m) (append_assoc (parented (Some b) under) (parented (Some s) (front_trees (t s) others)) (spread t stack (trees_behind (t s) others)))
      | false ↦ entered t stack b under others
    ]

walked-spread : {A : Type 0} (t : A → A → Bool) (stack l : List A) → walked t stack l ≡ spread t stack (build t l)
walked-spread t stack [] = sym (spread-none t stack)
walked-spread t stack (b ∷ l) =
    let above = still_above t b stack in
    ap (λ m. (b, innermost above) ∷ m) (walked-spread t (b ∷ above) l)
    ∙ sym (entered t stack b (front_trees (t b) (build t l)) (trees_behind (t b) (build t l)))

-- the walk tells for each what it stands right below in the forest that the list and the test stand for
pub walked-parented : {A : Type 0} (t : A → A → Bool) (l : List A) → walked t [] l ≡ parented None (build t l)
walked-parented t l = walked-spread t [] l

-- the same of things under new names
pub parented-renamed : {A B : Type 0} (f : A → B) (above : Option A) (g : Forest A)
    → parented (option_map f above) (renamed f g) ≡ map (λ (x : A × Option A). (f x.0, option_map f x.1)) (parented above g)
parented-renamed f above none = refl
parented-renamed f above (tree a under others) =
    let k = parented-renamed f (Some a) under in
    let r = parented-renamed f above others in
    ap (λ m. (f a, option_map f above) ∷ (m ++ parented (option_map f above) (renamed f others))) k
    ∙ ap (λ m. (f a, option_map f above) ∷ (map (λ (x : _ × Option _). (f x.0, option_map f x.1)) (parented (Some a) under) ++ m)) r
    ∙ ap (λ m. (f a, option_map f above) ∷ m) (sym (map-append (λ (x : _ × Option _). (f x.0, option_map f x.1)) (parented (Some a) under) (parented above others)))

-- a thing for whose test another stands as well leaves the same above it
pub still_above-alike : {A : Type 0} (t : A → A → Bool) (b c : A) → ((s : A) → t s b ≡ t s c) → (stack : List A) → still_above t b stack ≡ still_above t c stack
still_above-alike t b c e [] = refl
still_above-alike t b c e (s ∷ stack) =
    ap (λ p. cond p (s ∷ stack) (still_above t b stack)) (e s)
    ∙ ap (λ m. cond (t s c) (s ∷ stack) m) (still_above-alike t b c e stack)

innermost-append : {A : Type 0} (ys : List A) (x y : A) → innermost ((ys ++ y ∷ []) ++ x ∷ []) ≡ innermost (ys ++ y ∷ [])
innermost-append [] x y = refl
innermost-append (z ∷ ys) x y = refl

-- the last of a list is the first of it in reverse
pub last_first : {A : Type 0} (xs : List A) → slice_get xs (length xs - 1) ≡ innermost (reverse xs)
last_first [] = refl
last_first (x ∷ []) = refl
last_first (x ∷ y ∷ zs) =
    let e : length (x ∷ y ∷ zs) - 1 ≡ suc (length (y ∷ zs) - 1) = omega arith in
    let ry : reverse (y ∷ zs) ≡ reverse zs ++ y ∷ [] = reverse-append (y ∷ []) zs in
    let rx : reverse (x ∷ y ∷ zs) ≡ reverse (y ∷ zs) ++ x ∷ [] = reverse-append (x ∷ []) (y ∷ zs) in
    ap (slice_get (x ∷ y ∷ zs)) e ∙ last_first (y ∷ zs) ∙ ap innermost ry ∙ sym (innermost-append (reverse zs) x y)
    ∙ ap (λ m. innermost (m ++ x ∷ [])) (sym ry) ∙ ap innermost (sym rx)

pub innermost-map : {A B : Type 0} (f : A → B) (xs : List A) → innermost (map f xs) ≡ option_map f (innermost xs)
innermost-map f [] = refl
innermost-map f (x ∷ xs) = refl

-- what a walk tells of a thing whose entry f gives, and of the one above it
abbrev pub entry_pair : {A : Type 0} → (A → Entry) → A × Option A → Entry × Option ℕ
entry_pair {A} f x = (f x.0, option_map (λ (a : A). (f a).slot) x.1)

-- a walk over a whole list tells the derivations of the forest that the list and the test stand for
pub walked-derivations : {A : Type 0} (f : A → Entry) (t : A → A → Bool) (l : List A) → map (entry_pair f) (walked t [] l) ≡ derivations_of (renamed f (build t l))
walked-derivations {A} f t l =
    ap (map (entry_pair f)) (walked-parented t l)
    ∙ pairs f (parented None (build t l))
    ∙ sym (ap (map (λ (e : Entry × Option Entry). (e.0, option_map slot_of e.1))) (parented-renamed f None (build t l)))
  where
    one : {A : Type 0} (f : A → Entry) (x : A × Option A) → entry_pair f x ≡ (f x.0, option_map slot_of (option_map f x.1))
    one f (m, None) = refl
    one f (m, Some r) = refl

    pairs : {A : Type 0} (f : A → Entry) (xs : List (A × Option A))
        → map (entry_pair f) xs ≡ map (λ (e : Entry × Option Entry). (e.0, option_map slot_of e.1)) (map (λ (x : A × Option A). (f x.0, option_map f x.1)) xs)
    pairs f [] = refl
    pairs {A} f (x ∷ xs) = ap (λ m. m ∷ map (entry_pair f) xs) (one f x) ∙ ap (λ m. (f x.0, option_map slot_of (option_map f x.1)) ∷ m) (pairs f xs)
