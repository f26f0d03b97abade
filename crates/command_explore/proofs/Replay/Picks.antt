-- Of a list, the elements with numbers that are chosen, each changed by whether its number is the one that is kept.
use Rattle.std.proofs.Common.{◌≡◌, ◌==◌, ◌+◌, ℕ, zero, suc, Bool, List, [], ◌∷◌, ◌++◌, length, Option, None, Some, slice_get, Result, Ok, refl, ap, sym, subst, ◌∙◌}
use Rattle.std.specs.List.{flat_map, AllByRecursion as Each}
use Rattle.std.proofs.lemmas.List.Concat.{flat_map-cons}
use Rattle.setup_values.specs.Kinds.{each}
use Rattle.setup_format.proofs.Grammar.Parts.{parts}
use Rattle.setup_migrate.proofs.Law.Follows.{together}

-- the element with a number, from 1 on
abbrev pub numbered : {X : Type 0} → List X → ℕ → Option X
numbered xs zero = None
numbered xs (suc n) = slice_get xs n

abbrev pub picked : {X : Type 0} → (Bool → X → X) → Bool → Option X → List X
picked f keeps None = []
picked f keeps (Some x) = f keeps x ∷ []

-- that element, where there is one
abbrev pub pick : {X : Type 0} → (Bool → X → X) → ℕ → List X → ℕ → List X
pick f kept xs number = picked f (number == kept) (numbered xs number)

-- ---- what is read of them

module _ {X Y E : Type 0} (read : ℕ → X → Result Y E) (P : X → Type 0) where
  -- an element and what it is read as, or neither
  abbrev ReadAs : Option X → Option Y → Type 0
  ReadAs None o = o ≡ None
  ReadAs (Some x) o = (m : ℕ) × (y : Y) × (o ≡ Some y) × (read m x ≡ Ok y) × P x

  read_at : (n : ℕ) (xs : List X) (ys : List Y) → Each P xs → each read n xs ≡ Ok ys → (k : ℕ) → ReadAs (slice_get xs k) (slice_get ys k)
  unfolding each
  read_at n [] ys h e k =
      let none : [] ≡ ys = cc in
      ap (λ l. slice_get l k) (sym none)
  read_at n (x ∷ xs) ys h e zero =
      let (y, first, rest) = parts (read n x) _ ys e in
      let (zs, others, all) = parts (each read (n + 1) xs) _ ys rest in
      let whole : y ∷ zs ≡ ys = cc in
      (n, y, ap (λ l. slice_get l zero) (sym whole), first, h.0)
  read_at n (x ∷ xs) ys h e (suc k) =
      let (y, first, rest) = parts (read n x) _ ys e in
      let (zs, others, all) = parts (each read (n + 1) xs) _ ys rest in
      let whole : y ∷ zs ≡ ys = cc in
      subst (λ l. ReadAs (slice_get xs k) (slice_get l (suc k))) whole (read_at (n + 1) xs zs h.1 others k)

  pub each_read : (n : ℕ) (xs : List X) (ys : List Y) → each read n xs ≡ Ok ys → length ys ≡ length xs
  unfolding each
  each_read n [] ys e =
      let none : [] ≡ ys = cc in
      ap length (sym none)
  each_read n (x ∷ xs) ys e =
      let (y, first, rest) = parts (read n x) _ ys e in
      let (zs, others, all) = parts (each read (n + 1) xs) _ ys rest in
      let whole : y ∷ zs ≡ ys = cc in
      ap length (sym whole) ∙ ap suc (each_read (n + 1) xs zs others)

  module _ (f : Bool → X → X) (g : Bool → Y → Y) (follows : (keeps : Bool) (x : X) (m l : ℕ) (y : Y) → P x → read m x ≡ Ok y → read l (f keeps x) ≡ Ok (g keeps y)) (kept : ℕ) where
    one_read : (xs : List X) (ys : List Y) (k : ℕ) → ReadAs (slice_get xs k) (slice_get ys k) → ReadAs (numbered xs (suc k)) (numbered ys (suc k))
    one_read xs ys k h = h

    numbered_read : (n : ℕ) (xs : List X) (ys : List Y) → Each P xs → each read n xs ≡ Ok ys → (number : ℕ) → ReadAs (numbered xs number) (numbered ys number)
    numbered_read n xs ys h e zero = refl
    numbered_read n xs ys h e (suc k) = read_at n xs ys h e k

    before : (keeps : Bool) (n : ℕ) (o : Option X) (q : Option Y) (xs : List X) (ys : List Y) → ReadAs o q → ((m : ℕ) → each read m xs ≡ Ok ys) → each read n (picked f keeps o ++ xs) ≡ Ok (picked g keeps q ++ ys)
    unfolding each
    before keeps n None q xs ys h rest = rest n ∙ ap (λ (o : Option Y). Ok (picked g keeps o ++ ys)) (sym h)
    before keeps n (Some x) q xs ys h rest =
        together (read n (f keeps x)) _ (g keeps h.1) _ (follows keeps x h.0 n h.1 h.4 h.3) (together (each read (n + 1) xs) _ ys _ (rest (n + 1)) refl)
        ∙ ap (λ (o : Option Y). Ok (picked g keeps o ++ ys)) (sym h.2)

    pub pick_read : (n : ℕ) (xs : List X) (ys : List Y) → Each P xs → each read n xs ≡ Ok ys → (numbers : List ℕ) (m : ℕ) → each read m (flat_map (pick f kept xs) numbers) ≡ Ok (flat_map (pick g kept ys) numbers)
    unfolding each
    pick_read n xs ys h e [] m = refl
    pick_read n xs ys h e (number ∷ numbers) m =
        ap (each read m) (flat_map-cons (pick f kept xs) number numbers)
        ∙ (before (number == kept) m (numbered xs number) (numbered ys number) (flat_map (pick f kept xs) numbers) (flat_map (pick g kept ys) numbers) (numbered_read n xs ys h e number) (pick_read n xs ys h e numbers)
        ∙ ap Ok (sym (flat_map-cons (pick g kept ys) number numbers)))
