-- Loops that read each element of a list in turn, and go on behind one that is at fault.
use Rattle.std.proofs.Common.{◌≡◌, ℕ, ◌+◌, ◌<◌, ◌&&◌, Bool, true, false, List, [], ◌∷◌, ◌++◌, length, get_or, drop, map, Some, None, Vec, Global, refl, sym, ap, ◌∙◌, append_assoc}
use Rattle.std.specs.Prelude.{Option, Result, Ok, IfOk, IfSome, is_some, option_and_then, option_map}
use Rattle.std.proofs.lemmas.List.{drop_more, append-nil, map_push}
use Rattle.toml.specs.Data.{Data}
use Rattle.setup_policy_file.specs.Private.{is_added}
use Rattle.setup_policy_file.specs.Files.{entries_of}
use Rattle.setup_policy_file.specs.Values.{all_of, and_more}

abbrev pub with_front : {B : Type 0} → List B → Option (List B) → Option (List B)
with_front front None = None
with_front front (Some xs) = Some (front ++ xs)

pub starts : {B : Type 0} (r : Option (List B)) → with_front [] r ≡ r
starts (Some xs) = refl
starts None = refl

regroup : {B : Type 0} (front : List B) (y : B) (r : Option (List B)) → with_front front (and_more (Some y) r) ≡ with_front (front ++ y ∷ []) r
regroup front y (Some ys) = ap Some (sym (append_assoc front (y ∷ []) ys))
regroup front y None = refl

-- what is read of the elements before a place, if none of them is at fault
abbrev pub read_before : {X A B T : Type 0} → (X → A) → (T → B) → (A → Option B) → ℕ → List X → Option (Vec T Global) → Type 0
read_before v shown read i xs list = IfSome list (λ l. with_front (map shown l.items) (all_of read (map v (drop i xs))) ≡ all_of read (map v xs))

next : {X A B : Type 0} (v : X → A) (read : A → Option B) (front : List B) (i : ℕ) (xs : List X) (d : X) (y : B) (total : Option (List B)) → i < length xs
    → read (v (get_or xs i d)) ≡ Some y → with_front front (all_of read (map v (drop i xs))) ≡ total
    → with_front (front ++ y ∷ []) (all_of read (map v (drop (i + 1) xs))) ≡ total
next v read front i xs d y total lt h so_far =
    let one : with_front front (all_of read (map v (drop i xs))) ≡ with_front (front ++ y ∷ []) (all_of read (map v (drop (i + 1) xs))) = rw (drop_more xs i d lt, h) (regroup front y (all_of read (map v (drop (i + 1) xs)))) in
    sym one ∙ so_far

-- one element more
pub goes_on : {X A B T : Type 0} (v : X → A) (shown : T → B) (read : A → Option B) (i : ℕ) (xs : List X) (d : X) (list : Option (Vec T Global)) (one : Option T) (more : Option (Vec T Global)) → i < length xs
    → IfSome one (λ x. read (v (get_or xs i d)) ≡ Some (shown x)) → IfSome more (is_added list one) → read_before v shown read i xs list → read_before v shown read (i + 1) xs more
goes_on v shown read i xs d list one None lt h added so_far = tt
goes_on v shown read i xs d None one (Some m) lt h added so_far = absurd added
goes_on v shown read i xs d (Some l) None (Some m) lt h added so_far = absurd added
goes_on v shown read i xs d (Some l) (Some x) (Some m) lt h added so_far =
    let pushed : map shown m.items ≡ map shown l.items ++ shown x ∷ [] = rw added (map_push shown l.items x) in
    rw pushed (next v read (map shown l.items) i xs d (shown x) (all_of read (map v xs)) lt h so_far)

-- no element is left
pub is_done : {X A B T : Type 0} (v : X → A) (shown : T → B) (read : A → Option B) (i : ℕ) (xs : List X) (list : Option (Vec T Global)) → drop i xs ≡ []
    → read_before v shown read i xs list → IfSome list (λ l. all_of read (map v xs) ≡ Some (map shown l.items))
is_done v shown read i xs None none so_far = tt
is_done v shown read i xs (Some l) none so_far =
    let one : with_front (map shown l.items) (all_of read (map v (drop i xs))) ≡ Some (map shown l.items) = rw none (ap Some (append-nil (map shown l.items))) in
    sym so_far ∙ one

-- the same, if each was read
pub front_more : {X A B T : Type 0} (v : X → A) (shown : T → B) (read : A → Option B) (i : ℕ) (xs : List X) (d : X) (old : List T) (x : T) → i < length xs
    → read (v (get_or xs i d)) ≡ Some (shown x) → with_front (map shown old) (all_of read (map v (drop i xs))) ≡ all_of read (map v xs)
    → with_front (map shown (old ++ x ∷ [])) (all_of read (map v (drop (i + 1) xs))) ≡ all_of read (map v xs)
front_more v shown read i xs d old x lt is so_far = rw (map_push shown old x) (next v read (map shown old) i xs d (shown x) (all_of read (map v xs)) lt is so_far)

pub front_done : {X A B T : Type 0} (v : X → A) (shown : T → B) (read : A → Option B) (i : ℕ) (xs : List X) (all : List T) → drop i xs ≡ []
    → with_front (map shown all) (all_of read (map v (drop i xs))) ≡ all_of read (map v xs) → all_of read (map v xs) ≡ Some (map shown all)
front_done v shown read i xs all none so_far =
    let one : with_front (map shown all) (all_of read (map v (drop i xs))) ≡ Some (map shown all) = rw none (ap Some (append-nil (map shown all))) in
    sym so_far ∙ one

-- what was read and taken
pub taken_is : {T E : Type 0} (P : T → Type 0) (taken : Option T) (read : Result T E) → IfSome taken (λ x. read ≡ Ok x) → IfOk read P → IfSome taken P
taken_is P None read is holds = tt
taken_is P (Some x) read is holds = rw is at holds

-- ---- each element stands for several

entries_next : {B : Type 0} (old new : List B) (one more total : Option (List B)) → option_map (λ es. old ++ es) one ≡ Some new
    → option_map (λ es. old ++ es) (option_and_then (λ xs. option_map (λ ys. xs ++ ys) more) one) ≡ total → option_map (λ es. new ++ es) more ≡ total
entries_next old new None more total is so_far = let wrong : None ≡ Some new = is in cc
entries_next old new (Some xs) None total is so_far = so_far
entries_next old new (Some xs) (Some ys) total is so_far =
    let said : Some (old ++ xs) ≡ Some new = is in
    let front : old ++ xs ≡ new = cc in
    ap (λ f. Some (f ++ ys)) (sym front) ∙ (ap Some (append_assoc old xs ys) ∙ so_far)

-- the entries of the elements before a place, if none of them is at fault
abbrev pub entries_before : {X B T : Type 0} → (X → Data) → (T → B) → (Data → Option (List B)) → ℕ → List X → Bool → List T → Type 0
entries_before v shown read i xs are_read entries =
    are_read ≡ true → option_map (λ es. map shown entries ++ es) (entries_of read (map v (drop i xs))) ≡ entries_of read (map v xs)

none_before : {B : Type 0} (r : Option (List B)) → option_map (λ es. [] ++ es) r ≡ r
none_before None = refl
none_before (Some xs) = refl

pub entries_start : {X B T : Type 0} (v : X → Data) (shown : T → B) (read : Data → Option (List B)) (xs : List X) (entries : List T) → entries ≡ []
    → option_map (λ es. map shown entries ++ es) (entries_of read (map v xs)) ≡ entries_of read (map v xs)
entries_start v shown read xs entries none = rw none (none_before (entries_of read (map v xs)))

pub entries_more : {X B T : Type 0} (v : X → Data) (shown : T → B) (read : Data → Option (List B)) (i : ℕ) (xs : List X) (d : X) (old new : List T) → i < length xs
    → option_map (λ es. map shown old ++ es) (read (v (get_or xs i d))) ≡ Some (map shown new)
    → option_map (λ es. map shown old ++ es) (entries_of read (map v (drop i xs))) ≡ entries_of read (map v xs)
    → option_map (λ es. map shown new ++ es) (entries_of read (map v (drop (i + 1) xs))) ≡ entries_of read (map v xs)
entries_more v shown read i xs d old new lt is so_far =
    entries_next (map shown old) (map shown new) (read (v (get_or xs i d))) (entries_of read (map v (drop (i + 1) xs))) (entries_of read (map v xs)) is (rw (drop_more xs i d lt) at so_far)

both_true : (a b : Bool) → (a && b) ≡ true → (a ≡ true) × (b ≡ true)
both_true true true e = (refl, refl)
both_true true false e = (refl, e)
both_true false b e = (e, let wrong : false ≡ true = e in cc)

pub entries_on : {X B T U : Type 0} (v : X → Data) (shown : T → B) (read : Data → Option (List B)) (i : ℕ) (xs : List X) (d : X) (old new : List T) (were : Bool) (one : Option U) → i < length xs
    → IfSome one (λ _. option_map (λ es. map shown old ++ es) (read (v (get_or xs i d))) ≡ Some (map shown new))
    → entries_before v shown read i xs were old → entries_before v shown read (i + 1) xs (were && is_some one) new
entries_on v shown read i xs d old new were None lt is so_far are = let wrong : false ≡ true = (both_true were false are).1 in cc
entries_on v shown read i xs d old new were (Some u) lt is so_far are = entries_more v shown read i xs d old new lt is (so_far (both_true were true are).0)

-- no element is left
pub entries_done : {X B T : Type 0} (v : X → Data) (shown : T → B) (read : Data → Option (List B)) (i : ℕ) (xs : List X) (entries : List T) → drop i xs ≡ []
    → option_map (λ es. map shown entries ++ es) (entries_of read (map v (drop i xs))) ≡ entries_of read (map v xs)
    → entries_of read (map v xs) ≡ Some (map shown entries)
entries_done v shown read i xs entries none so_far =
    let one : option_map (λ es. map shown entries ++ es) (entries_of read (map v (drop i xs))) ≡ Some (map shown entries) = rw none (ap Some (append-nil (map shown entries))) in
    sym so_far ∙ one
