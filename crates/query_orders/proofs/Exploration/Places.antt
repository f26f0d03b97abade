-- The table of the first places of hashes, after one node more.
use Rattle.std.proofs.Common.{◌≡◌, not, ℕ, ◌+◌, ◌<◌, ◌≤◌, Bool, true, false, cond, List, [], ◌∷◌, ◌++◌, length, get_or, Option, Some, None, slice_get, is_some, suc, refl, ap, sym, ◌∙◌, arith, length-append}
use Rattle.std.specs.Prelude.{nat_eq, nat_lt, position}
use Rattle.std.specs.Cmp.Lexicographic.{bytes_decides}
use Rattle.std.specs.List.{position_or_len}
use Rattle.std.specs.Map.{lookup}
use Rattle.std.proofs.lemmas.Bool.Decides.{nat_tests}
use Rattle.std.proofs.lemmas.List.Folds.{position_or_len_push}
use Rattle.std.proofs.lemmas.List.Sums.{fails_before_first}
use Rattle.std.proofs.lemmas.Option.{get_or_from_slice_get}
use Rattle.query_orders.specs.declared.exploring.node.Node.{Node}
use Rattle.query_orders.specs.Private.Tables.{by_words, heavier, heavier_at, with_node, has_words, has_hash, words_hash, AreFirsts}
use Rattle.query_orders.proofs.Exploration.Tables.{noted_at, noted_new}

-- ---- the first of some nodes that passes a test, with one node more

module _ (p : Node → Bool) where
  within : (xs : List Node) → position_or_len p xs ≤ length xs
  within [] = let z : 0 ≤ 0 = omega arith in z
  within (x ∷ xs) = elim (p x) as (λ b. cond (not b) (1 + position_or_len p xs) 0 ≤ suc (length xs)) [ true ↦ omega arith | false ↦ let h = within xs in omega arith ]

  push_first : (xs : List Node) (y : Node) → p y ≡ true → position p xs ≡ None → position p (xs ++ y ∷ []) ≡ Some (length xs)
  push_first xs y passes none =
      let e = position_or_len_push p xs y in
      let l = length-append xs (y ∷ []) in
      let w = within xs in
      grind (arith, nat_tests)

  push_other : (xs : List Node) (y : Node) → p y ≡ false → position p (xs ++ y ∷ []) ≡ position p xs
  push_other xs y fails =
      let e = position_or_len_push p xs y in
      let l = length-append xs (y ∷ []) in
      let w = within xs in
      grind (arith, nat_tests)

  push_found : (xs : List Node) (y : Node) → is_some (position p xs) ≡ true → position p (xs ++ y ∷ []) ≡ position p xs
  push_found xs y some =
      let e = position_or_len_push p xs y in
      let l = length-append xs (y ∷ []) in
      let w = within xs in
      grind (arith, nat_tests)

  at_most : (xs : List Node) (i : ℕ) (x : Node) → slice_get xs i ≡ Some x → p x ≡ true → position_or_len p xs ≤ i
  at_most xs i x is passes =
      elim (nat_lt i (position_or_len p xs)) as (λ b. nat_lt i (position_or_len p xs) ≡ b → position_or_len p xs ≤ i) [
        | true ↦ λ e. absurd (
            let fails = fails_before_first p xs i x (grind (arith, nat_tests)) in
            let same : get_or xs i x ≡ x = get_or_from_slice_get xs i x x is in
            let no : true ≡ false = sym passes ∙ ap p (sym same) ∙ fails in cc
            )
        | false ↦ λ e. grind (arith, nat_tests)
      ] refl

-- ---- of two tests, the one passes where the other does

module _ (p q : Node → Bool) (both : (x : Node) → p x ≡ true → q x ≡ true) where
  not_before : (xs : List Node) → position_or_len q xs ≤ position_or_len p xs
  not_before [] = let z : 0 ≤ 0 = omega arith in z
  not_before (x ∷ xs) =
      let h = not_before xs in
      elim (p x) as (λ a. p x ≡ a → cond (not (q x)) (1 + position_or_len q xs) 0 ≤ cond (not a) (1 + position_or_len p xs) 0) [
        | true ↦ λ e. elim (q x) as (λ b. q x ≡ b → cond (not b) (1 + position_or_len q xs) 0 ≤ 0) [ true ↦ λ f. omega arith | false ↦ λ f. absurd (let no : true ≡ false = sym (both x e) ∙ f in cc) ] refl
        | false ↦ λ e. elim (q x) as (λ b. cond (not b) (1 + position_or_len q xs) 0 ≤ 1 + position_or_len p xs) [ true ↦ omega arith | false ↦ omega arith ]
      ] refl

  none_of_both : (xs : List Node) → None ≡ position q xs → None ≡ position p xs
  none_of_both xs none =
      let h = not_before xs in
      let a = within p xs in
      let b = within q xs in
      grind (arith, nat_tests)

  first_of_both : (xs : List Node) (i : ℕ) (x : Node) → Some i ≡ position q xs → slice_get xs i ≡ Some x → p x ≡ true → Some i ≡ position p xs
  first_of_both xs i x first is passes =
      let h = not_before xs in
      let a = within p xs in
      let b = within q xs in
      let m = at_most p xs i x is passes in
      grind (arith, nat_tests)

-- ---- nodes of a hash

pub same_hash : (words : List ℕ) (n : Node) → has_words words n ≡ true → has_hash (words_hash words) n ≡ true
same_hash words n same = ap (λ (l : List ℕ). nat_eq (words_hash words) (words_hash l)) ((bytes_decides n.words.items words).0 same) ∙ grind (arith, nat_tests)

pub not_there : (firsts : List (ℕ × ℕ)) (nodes : List Node) (hash : ℕ) (words : List ℕ) → hash ≡ words_hash words → AreFirsts firsts nodes → None ≡ lookup (nat_eq hash) firsts → None ≡ position (has_words words) nodes
not_there firsts nodes hash words is are none =
    none_of_both (has_words words) (has_hash (words_hash words)) (same_hash words) nodes (none ∙ are hash ∙ ap (λ (h : ℕ). position (has_hash h) nodes) is)

pub there : (firsts : List (ℕ × ℕ)) (nodes : List Node) (hash : ℕ) (words : List ℕ) (i : ℕ) (n : Node) → hash ≡ words_hash words → AreFirsts firsts nodes → Some i ≡ lookup (nat_eq hash) firsts → slice_get nodes i ≡ Some n → has_words words n ≡ true →
    Some i ≡ position (has_words words) nodes
there firsts nodes hash words i n is are some at same =
    first_of_both (has_words words) (has_hash (words_hash words)) (same_hash words) nodes i n (some ∙ are hash ∙ ap (λ (h : ℕ). position (has_hash h) nodes) is) at same

-- ---- a node more

pub first_more : (firsts firsts' : List (ℕ × ℕ)) (nodes : List Node) (n : Node) (hash : ℕ) → hash ≡ words_hash n.words.items → AreFirsts firsts nodes → None ≡ lookup (nat_eq hash) firsts →
    ((h : ℕ) → lookup (nat_eq h) firsts' ≡ cond (nat_eq hash h) (Some (length nodes)) (lookup (nat_eq h) firsts)) → AreFirsts firsts' (nodes ++ n ∷ [])
first_more firsts firsts' nodes n hash is are none put h = put h ∙ by (nat_eq hash h) refl
  where
    by : (b : Bool) → nat_eq hash h ≡ b → cond b (Some (length nodes)) (lookup (nat_eq h) firsts) ≡ position (has_hash h) (nodes ++ n ∷ [])
    by true e =
        let same : hash ≡ h = grind (arith, nat_tests) in
        sym (push_first (has_hash h) nodes n (grind (arith, nat_tests)) (sym (are h) ∙ ap (λ (k : ℕ). lookup (nat_eq k) firsts) (sym same) ∙ sym none))
    by false e = are h ∙ sym (push_other (has_hash h) nodes n (grind (arith, nat_tests)))

pub first_stays : (firsts : List (ℕ × ℕ)) (nodes : List Node) (n : Node) (hash : ℕ) → hash ≡ words_hash n.words.items → AreFirsts firsts nodes → is_some (lookup (nat_eq hash) firsts) ≡ true → AreFirsts firsts (nodes ++ n ∷ [])
first_stays firsts nodes n hash is are some h = are h ∙ sym (by (nat_eq hash h) refl)
  where
    by : (b : Bool) → nat_eq hash h ≡ b → position (has_hash h) (nodes ++ n ∷ []) ≡ position (has_hash h) nodes
    by true e =
        let same : hash ≡ h = grind (arith, nat_tests) in
        push_found (has_hash h) nodes n (ap (λ (o : Option ℕ). is_some o) (sym (are h) ∙ ap (λ (k : ℕ). lookup (nat_eq k) firsts) (sym same)) ∙ some)
    by false e = push_other (has_hash h) nodes n (grind (arith, nat_tests))

pub none_of : (o : Option ℕ) → is_some o ≡ false → None ≡ o
none_of None e = refl
none_of (Some x) e = absurd (let no : true ≡ false = e in cc)

-- where the state is known, each hash's place stays
known : (h : ℕ) (nodes : List Node) (n : Node) → position_or_len (λ (m : Node). by_words m n) nodes < length nodes →
    (position_or_len (has_hash h) (with_node nodes n) ≡ position_or_len (has_hash h) nodes) × (length (with_node nodes n) ≡ length nodes)
known h [] n lt = absurd (let e : 0 < 0 = lt in omega arith)
known h (m ∷ ms) n lt =
    elim (by_words m n) as (λ b. cond (not b) (1 + first ms) 0 < suc (length ms) → (place (cond b (heavier n.weight m ∷ ms) (m ∷ with_node ms n)) ≡ place (m ∷ ms)) × (length (cond b (heavier n.weight m ∷ ms) (m ∷ with_node ms n)) ≡ suc (length ms))) [
      | true ↦ λ e. (refl, refl)
      | false ↦ λ e. let r = known h ms n (let s : 1 + first ms < suc (length ms) = e in omega arith) in (ap (λ k. cond (not (has_hash h m)) (1 + k) 0) r.0, ap suc r.1)
    ] lt
  where
    first : List Node → ℕ
    first l = position_or_len (λ (m : Node). by_words m n) l

    place : List Node → ℕ
    place l = position_or_len (has_hash h) l

some_within : (p : Node → Bool) (nodes : List Node) (i : ℕ) → Some i ≡ position p nodes → position_or_len p nodes < length nodes
some_within p nodes i h = by (nat_lt (position_or_len p nodes) (length nodes)) refl (sym h)
  where
    by : (b : Bool) → nat_lt (position_or_len p nodes) (length nodes) ≡ b → cond b (Some (position_or_len p nodes)) None ≡ Some i → position_or_len p nodes < length nodes
    by true e g = grind (arith, nat_tests)
    by false e g = cc

-- what `Layer.note` leaves, where the state of its node is known
pub known_noted : (firsts : List (ℕ × ℕ)) (nodes nodes' : List Node) (n : Node) (i : ℕ) → AreFirsts firsts nodes → Some i ≡ position (has_words n.words.items) nodes → nodes' ≡ heavier_at i n.weight nodes → (nodes' ≡ with_node nodes n) × AreFirsts firsts nodes'
known_noted firsts nodes nodes' n i are at heavier =
    let noted : nodes' ≡ with_node nodes n = heavier ∙ noted_at nodes n i at in (
      noted,
      λ h.
          (let r = known h nodes n (some_within (λ (m : Node). by_words m n) nodes i at) in
          are h ∙ sym (ap (position (has_hash h)) noted ∙ (λ j. cond (nat_lt (r.0 j) (r.1 j)) (Some (r.0 j)) None))),
    )

-- and where it is not
pub new_noted : (nodes nodes' : List Node) (n : Node) → None ≡ position (has_words n.words.items) nodes → nodes' ≡ nodes ++ n ∷ [] → nodes' ≡ with_node nodes n
new_noted nodes nodes' n none more = more ∙ noted_new nodes n none
