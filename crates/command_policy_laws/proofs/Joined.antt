-- What is joined is closed: parts between which a join is have one number, and keep it.
use Rattle.std.proofs.Common.{◌≡◌, ℕ, Bool, true, false, not, cond, ◌==◌, ◌&&◌, ◌||◌, List, [], ◌∷◌, map, inl, inr, refl, sym, ap, subst, ◌∙◌}
use Rattle.std.specs.Prelude.{Some, find, min, max}
use Rattle.std.specs.List.{filter, flat_map, list_any, Contains}
use Rattle.std.proofs.lemmas.Bool.{false≢true, eqb-true}
use Rattle.kernel_delete.specs.Members.{In}
use Rattle.kernel_delete.proofs.Clearable.{contains_in}
use Rattle.kernel_delete.proofs.Members.{either_true, any_in, any_of, filter_in, tells, eqb_self}
use Rattle.query_parts.proofs.Lists.{and_true, in_mapped}
use Rattle.setup_policy.specs.declared.policy.Policy.{Policy}
use Rattle.command_policy_breaches.specs.declared.joining.Join.{Join}
use Rattle.command_policy_breaches.specs.declared.held.Block.{Block}
use Rattle.command_policy_breaches.specs.declared.held.Layout.{Layout}
use Rattle.command_policy_breaches.specs.Joins.{all_joined, are_given, block_number, block_of_part, blocks, hands_by, is_joined_by, join_from, joined, joins, joins_from, joins_on, renumbered, single_block}
use Rattle.command_policy_laws.specs.Grants.{AreJoinsClosed, number_of}
use Rattle.command_policy_laws.proofs.Groups.{in_flat, larger}

-- ---- a number in place of another

abbrev in_place : ℕ → ℕ → ℕ → ℕ
in_place from to n = cond (n == from) to n

abbrev is_of : ℕ → Block → Bool
is_of i b = b.part == i

-- a part has a row
abbrev has_row : List Block → ℕ → Bool
has_row bs i = list_any (is_of i) bs

kept : (from to : ℕ) (b : Block) → (renumbered from to b).part ≡ b.part
kept from to b = elim (b.block == from) as (λ t. (cond t (record { part = b.part; block = to }) b).part ≡ b.part) [ true ↦ refl | false ↦ refl ]

changed : (from to : ℕ) (b : Block) → (renumbered from to b).block ≡ in_place from to b.block
changed from to b = elim (b.block == from) as (λ t. (cond t (record { part = b.part; block = to }) b).block ≡ cond t to b.block) [ true ↦ refl | false ↦ refl ]

row_kept : (from to i : ℕ) (bs : List Block) → has_row (map (renumbered from to) bs) i ≡ has_row bs i
row_kept from to i [] = refl
row_kept from to i (b ∷ bs) = λ k. (kept from to b k == i) || row_kept from to i bs k

-- the rest of a list has the row that its first block is not
in_rest : (b : Block) (bs : List Block) (i : ℕ) → has_row (b ∷ bs) i ≡ true → b.part == i ≡ false → has_row bs i ≡ true
in_rest b bs i has differs = elim (either_true (b.part == i) (has_row bs i) has) [
  | inl here ↦ absurd (false≢true (sym differs ∙ here))
  | inr rest ↦ rest
]

number_changed : (from to i : ℕ) (bs : List Block) → has_row bs i ≡ true → block_of_part (map (renumbered from to) bs) i ≡ in_place from to (block_of_part bs i)
number_changed from to i [] has = absurd (false≢true has)
number_changed from to i (b ∷ bs) has =
    let r : Block = renumbered from to b in
    let others = find (is_of i) (map (renumbered from to) bs) in
    let rest = find (is_of i) bs in
    let same_part : r.part == i ≡ b.part == i = ap (λ n. n == i) (kept from to b) in
    elim (tells (b.part == i)) [
      | inl here ↦ ap (λ t. block_number i (cond t (Some r) others)) (same_part ∙ here)
          ∙ changed from to b
          ∙ sym (ap (λ t. in_place from to (block_number i (cond t (Some b) rest))) here)
      | inr differs ↦ ap (λ t. block_number i (cond t (Some r) others)) (same_part ∙ differs)
          ∙ number_changed from to i bs (in_rest b bs i has differs)
          ∙ sym (ap (λ t. in_place from to (block_number i (cond t (Some b) rest))) differs)
    ]

-- ---- a join, and those behind it

to_is : (from to : ℕ) → in_place from to from ≡ to
to_is from to = ap (λ t. cond t to from) (eqb_self from)

to_stays : (from to : ℕ) → in_place from to to ≡ to
to_stays from to = elim (to == from) as (λ t. cond t to to ≡ to) [ true ↦ refl | false ↦ refl ]

-- of two numbers the lesser takes the place of both
both_one : (a b : ℕ) → in_place (max a b) (min a b) a ≡ in_place (max a b) (min a b) b
both_one a b = elim (larger a b) [
  | inl is ↦ ap (λ m. in_place m (min a b) a) is.0 ∙ ap (λ n. in_place b n a) is.1 ∙ to_stays b a
      ∙ sym (ap (λ m. in_place m (min a b) b) is.0 ∙ ap (λ n. in_place b n b) is.1 ∙ to_is b a)
  | inr is ↦ ap (λ m. in_place m (min a b) a) is.0 ∙ ap (λ n. in_place a n a) is.1 ∙ to_is a b
      ∙ sym (ap (λ m. in_place m (min a b) b) is.0 ∙ ap (λ n. in_place a n b) is.1 ∙ to_stays a b)
]

row_joined : (bs : List Block) (j : Join) (i : ℕ) → has_row bs i ≡ true → has_row (joined bs j) i ≡ true
row_joined bs j i has = row_kept (max (block_of_part bs j.from) (block_of_part bs j.to)) (min (block_of_part bs j.from) (block_of_part bs j.to)) i bs ∙ has

number_joined : (bs : List Block) (j : Join) (i : ℕ) → has_row bs i ≡ true →
    block_of_part (joined bs j) i
    ≡ in_place (max (block_of_part bs j.from) (block_of_part bs j.to)) (min (block_of_part bs j.from) (block_of_part bs j.to)) (block_of_part bs i)
number_joined bs j i has = number_changed (max (block_of_part bs j.from) (block_of_part bs j.to)) (min (block_of_part bs j.from) (block_of_part bs j.to)) i bs has

-- parts of one number keep one
stays : (js : List Join) (bs : List Block) (x y : ℕ) → has_row bs x ≡ true → has_row bs y ≡ true → block_of_part bs x ≡ block_of_part bs y →
    block_of_part (all_joined bs js) x ≡ block_of_part (all_joined bs js) y
stays [] bs x y has also same = same
stays (j ∷ js) bs x y has also same =
    stays js (joined bs j) x y (row_joined bs j x has) (row_joined bs j y also)
    (number_joined bs j x has
    ∙ ap (λ n. in_place (max (block_of_part bs j.from) (block_of_part bs j.to)) (min (block_of_part bs j.from) (block_of_part bs j.to)) n) same
    ∙ sym (number_joined bs j y also))

one_number : (bs : List Block) (j : Join) → has_row bs j.from ≡ true → has_row bs j.to ≡ true → block_of_part (joined bs j) j.from ≡ block_of_part (joined bs j) j.to
one_number bs j has also =
    number_joined bs j j.from has ∙ both_one (block_of_part bs j.from) (block_of_part bs j.to) ∙ sym (number_joined bs j j.to also)

-- the parts of a join have one number behind all joins
all_one : (js : List Join) (bs : List Block) (j : Join) → In j js → has_row bs j.from ≡ true → has_row bs j.to ≡ true →
    block_of_part (all_joined bs js) j.from ≡ block_of_part (all_joined bs js) j.to
all_one [] bs j there has also = absurd there
all_one (k ∷ js) bs j (inl same) has also =
    subst (λ (z : Join). block_of_part (all_joined (joined bs z) js) j.from ≡ block_of_part (all_joined (joined bs z) js) j.to) same
    (stays js (joined bs j) j.from j.to (row_joined bs j j.from has) (row_joined bs j j.to also) (one_number bs j has also))
all_one (k ∷ js) bs j (inr more) has also = all_one js (joined bs k) j more (row_joined bs k j.from has) (row_joined bs k j.to also)

-- ---- the joins of a layout

row_alone : (parts : List ℕ) (i : ℕ) → In i parts → has_row (map single_block parts) i ≡ true
row_alone parts i there = any_in (is_of i) (map single_block parts) (single_block i) (in_mapped single_block i parts there) (eqb_self i)

module _ (c : Policy) (l : Layout) (grant : c.grant ≡ true) where
  is_join : (i j e : ℕ) → In i l.parts.items → In j l.parts.items → In e l.endpoints.items → not (j == i) ≡ true → hands_by l i j e ≡ true → In (join_from i e j) (joins c l)
  is_join i j e own other met differ hands =
      subst (λ b. In (join_from i e j) (cond b (flat_map (joins_on l) l.endpoints.items) [])) (sym grant)
      (in_flat (joins_on l) l.endpoints.items e (join_from i e j) met
      (in_flat (joins_from l e) l.parts.items i (join_from i e j) own
      (in_mapped (join_from i e) j (filter (is_joined_by l e i) l.parts.items)
      (filter_in (is_joined_by l e i) l.parts.items j other (and_true (not (j == i)) (hands_by l i j e) differ hands)))))

  pub handed : (i j e : ℕ) → In i l.parts.items → In j l.parts.items → In e l.endpoints.items → hands_by l i j e ≡ true → number_of c l i ≡ number_of c l j
  handed i j e own other met hands = elim (tells (j == i)) [
    | inl same ↦ ap (number_of c l) (sym (eqb-true j i same))
    | inr differ ↦ all_one (joins c l) (map single_block l.parts.items) (join_from i e j)
        (is_join i j e own other met (ap not differ) hands) (row_alone l.parts.items i own) (row_alone l.parts.items j other)
  ]

  pub joins_closed : AreJoinsClosed c l
  joins_closed i j own other given =
      let e = any_of (hands_by l i j) l.endpoints.items given in
      handed i j e.0 (contains_in l.parts.items i own) (contains_in l.parts.items j other) e.1.0 e.1.1
