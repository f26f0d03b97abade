-- The words of one group more, and one name more.
use Rattle.std.proofs.Common.{◌≡◌, ℕ, zero, suc, ◌+◌, ◌<◌, List, [], ◌∷◌, ◌++◌, length, get_or, drop, take, map, Some, None, Option, refl, sym, ap, ◌∙◌, append_assoc, arith, length-append, string_bytes}
use Rattle.std.specs.Prelude.{String}
use Rattle.std.specs.List.{range_with_len}
use Rattle.std.specs.declared.alloc.Global.{Global}
use Rattle.std.proofs.lemmas.List.{drop_more, take_more, map_push, append-nil, length-map}
use Rattle.setup_policy_file.specs.declared.file.GroupEntry.{GroupEntry}
use Rattle.setup_policy_file.specs.declared.file.Word.{Word}
use Rattle.setup_policy_file.specs.Values.{all_of}
use Rattle.setup_policy_meaning.specs.Policies.{in_front, of_groups}
use Rattle.setup_policy_meaning.proofs.Loops.{joins_more}

-- what is read of the words of one group more
module _ {B : Type 0} (read : ℕ → Word → Option B) (words : GroupEntry → List Word) where
  pub one_group_more : (front whole : List B) (i : ℕ) (gs : List GroupEntry) (d : GroupEntry) (total : Option (List B)) → i < length gs
      → in_front front (all_of (read i) (words (get_or gs i d))) ≡ Some whole
      → in_front front (of_groups read words i (drop i gs)) ≡ total
      → in_front whole (of_groups read words (i + 1) (drop (i + 1) gs)) ≡ total
  one_group_more front whole i gs d total lt taken so_far =
      let one : in_front front (of_groups read words i (drop i gs)) ≡ in_front whole (of_groups read words (i + 1) (drop (i + 1) gs)) =
      rw (drop_more gs i d lt) (joins_more front whole (all_of (read i) (words (get_or gs i d))) (of_groups read words (i + 1) (drop (i + 1) gs)) taken) in
      sym one ∙ so_far

  pub all_groups : (front : List B) (i : ℕ) (gs : List GroupEntry) (total : Option (List B)) → drop i gs ≡ []
      → in_front front (of_groups read words i (drop i gs)) ≡ total → total ≡ Some front
  all_groups front i gs total none so_far =
      let one : in_front front (of_groups read words i (drop i gs)) ≡ Some front = rw none (ap Some (append-nil front)) in
      sym so_far ∙ one

-- so many names as there are entries
pub as_many : {A : Type 0} (name : A → List ℕ) (names : List (String Global)) (xs : List A) → map string_bytes names ≡ map name xs → length names ≡ length xs
as_many name names xs h = sym (length-map names string_bytes) ∙ (ap length h ∙ length-map xs name)

-- behind the names of the groups stand what the silent threads are called, and then the others
pub as_named : (first second third : List (String Global)) (gs ss ms : List (List ℕ)) → map string_bytes first ≡ gs → map string_bytes second ≡ map string_bytes first ++ ss
    → map string_bytes third ≡ map string_bytes second ++ ms → map string_bytes third ≡ gs ++ (ss ++ ms)
as_named first second third gs ss ms one two three =
    three ∙ (ap (λ (x : List (List ℕ)). x ++ ms) (two ∙ ap (λ (x : List (List ℕ)). x ++ ss) one) ∙ append_assoc gs ss ms)

-- so many names stand before these
pub as_many_more : {A B : Type 0} (name : A → List ℕ) (other : B → List ℕ) (first second : List (String Global)) (xs : List A) (ys : List B) → map string_bytes first ≡ map name xs
    → map string_bytes second ≡ map string_bytes first ++ map other ys → length second ≡ length xs + length ys
as_many_more name other first second xs ys one two =
    let a = length-map second string_bytes in
    let b = ap length two in
    let c = length-append (map string_bytes first) (map other ys) in
    let d = ap length one in
    let e = length-map xs name in
    let f = length-map ys other in
    omega (arith, a, b, c, d, e, f)

-- one name more
pub one_name_more : {A : Type 0} (name : A → List ℕ) (names : List (String Global)) (s : String Global) (xs : List A) (i : ℕ) (d : A) (before : List (List ℕ)) → i < length xs
    → string_bytes s ≡ name (get_or xs i d) → map string_bytes names ≡ before ++ map name (take i xs)
    → map string_bytes (names ++ s ∷ []) ≡ before ++ map name (take (i + 1) xs)
one_name_more name names s xs i d before lt same so_far =
    let more : map name (take i xs) ++ name (get_or xs i d) ∷ [] ≡ map name (take (i + 1) xs) =
    sym (ap (map name) (take_more xs i d lt) ∙ map_push name (take i xs) (get_or xs i d)) in
    map_push string_bytes names s
    ∙ (ap (λ (x : List (List ℕ)). x ++ string_bytes s ∷ []) so_far
    ∙ (append_assoc before (map name (take i xs)) (string_bytes s ∷ [])
    ∙ ap (λ (x : List (List ℕ)). before ++ x) (ap (λ (y : List ℕ). map name (take i xs) ++ y ∷ []) same ∙ more)))

-- one number more
pub one_number_more : (a n : ℕ) → range_with_len a n ++ (a + n) ∷ [] ≡ range_with_len a (n + 1)
one_number_more a zero =
    let e : a + 0 ≡ a = omega arith in
    ap (λ (k : ℕ). k ∷ []) e
one_number_more a (suc n) =
    let e : suc n + 1 ≡ suc (n + 1) = omega arith in
    let k : a + suc n ≡ a + 1 + n = omega arith in
    rw (e, k) (ap (λ (xs : List ℕ). a ∷ xs) (one_number_more (a + 1) n))
