-- Loops that give each element of a list its meaning in turn.
use Rattle.std.proofs.Common.{◌≡◌, ℕ, Bool, true, false, ◌&&◌, ◌+◌, ◌<◌, List, [], ◌∷◌, ◌++◌, length, get_or, drop, Some, None, refl, sym, ap, ◌∙◌, append_assoc, arith}
use Rattle.std.specs.Prelude.{Option}
use Rattle.std.specs.List.{list_all}
use Rattle.std.proofs.lemmas.List.{drop_more, append-nil}
use Rattle.setup_policy_file.specs.Values.{all_of, and_more}
use Rattle.setup_policy_meaning.specs.Policies.{all_from, in_front, joined}

both_kept : (b c d : Bool) → b && c ≡ true → (c ≡ true → d ≡ true) → b && d ≡ true
both_kept true c d both more = more both
both_kept false c d both more = both

-- a test that all pass, and one more
pub all_and_one : {A : Type 0} (test : A → Bool) (xs : List A) (x : A) → list_all test xs ≡ true → test x ≡ true → list_all test (xs ++ x ∷ []) ≡ true
all_and_one test [] x all one = rw one refl
all_and_one test (y ∷ ys) x all one = both_kept (test y) (list_all test ys) (list_all test (ys ++ x ∷ [])) all (λ rest. all_and_one test ys x rest one)

pub starts : {B : Type 0} (r : Option (List B)) → in_front [] r ≡ r
starts (Some xs) = refl
starts None = refl

regroup : {B : Type 0} (front : List B) (y : B) (r : Option (List B)) → in_front front (and_more (Some y) r) ≡ in_front (front ++ y ∷ []) r
regroup front y (Some ys) = ap Some (sym (append_assoc front (y ∷ []) ys))
regroup front y None = refl

-- one element more
pub goes_on : {A B : Type 0} (read : A → Option B) (front : List B) (i : ℕ) (xs : List A) (d : A) (y : B) (total : Option (List B)) → i < length xs
    → read (get_or xs i d) ≡ Some y → in_front front (all_of read (drop i xs)) ≡ total
    → in_front (front ++ y ∷ []) (all_of read (drop (i + 1) xs)) ≡ total
goes_on read front i xs d y total lt h so_far =
    let one : in_front front (all_of read (drop i xs)) ≡ in_front (front ++ y ∷ []) (all_of read (drop (i + 1) xs)) = rw (drop_more xs i d lt, h) (regroup front y (all_of read (drop (i + 1) xs))) in
    sym one ∙ so_far

-- no element is left
pub is_done : {A B : Type 0} (read : A → Option B) (front : List B) (i : ℕ) (xs : List A) (total : Option (List B)) → drop i xs ≡ []
    → in_front front (all_of read (drop i xs)) ≡ total → total ≡ Some front
is_done read front i xs total none so_far =
    let one : in_front front (all_of read (drop i xs)) ≡ Some front = rw none (ap Some (append-nil front)) in
    sym so_far ∙ one

-- the same of elements that are numbered, from n on
pub goes_on_from : {A B : Type 0} (read : ℕ → A → Option B) (front : List B) (n i : ℕ) (xs : List A) (d : A) (y : B) (total : Option (List B)) → i < length xs
    → read n (get_or xs i d) ≡ Some y → in_front front (all_from read n (drop i xs)) ≡ total
    → in_front (front ++ y ∷ []) (all_from read (n + 1) (drop (i + 1) xs)) ≡ total
goes_on_from read front n i xs d y total lt h so_far =
    let one : in_front front (all_from read n (drop i xs)) ≡ in_front (front ++ y ∷ []) (all_from read (n + 1) (drop (i + 1) xs)) = rw (drop_more xs i d lt, h) (regroup front y (all_from read (n + 1) (drop (i + 1) xs))) in
    sym one ∙ so_far

pub is_done_from : {A B : Type 0} (read : ℕ → A → Option B) (front : List B) (n i : ℕ) (xs : List A) (total : Option (List B)) → drop i xs ≡ []
    → in_front front (all_from read n (drop i xs)) ≡ total → total ≡ Some front
is_done_from read front n i xs total none so_far =
    let one : in_front front (all_from read n (drop i xs)) ≡ Some front = rw none (ap Some (append-nil front)) in
    sym so_far ∙ one

-- a list that is read whole, and what is behind it
pub joins_more : {B : Type 0} (front whole : List B) (part more : Option (List B)) → in_front front part ≡ Some whole
    → in_front front (joined part more) ≡ in_front whole more
joins_more front whole None more h = let wrong : None ≡ Some whole = h in cc
joins_more front whole (Some xs) None h = refl
joins_more {B = B} front whole (Some xs) (Some ys) h =
    let same : front ++ xs ≡ whole = cc in
    ap Some (sym (append_assoc front xs ys) ∙ ap (λ (zs : List B). zs ++ ys) same)
