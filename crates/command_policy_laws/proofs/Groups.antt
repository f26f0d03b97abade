-- Each part has one group, and so have parts that Grant joins, where no line tells of a breach.
use Rattle.std.proofs.Common.{◌≡◌, ◌≢◌, ◌⊎◌, inl, inr, ℕ, Bool, true, false, not, cond, ◌==◌, ◌&&◌, ◌||◌, List, [], ◌∷◌, ◌++◌, map, Option, Some, None, refl, sym, ap, subst, ◌∙◌, arith, eq-eqb}
use Rattle.std.specs.Prelude.{find, option_map, min, max, nat_le}
use Rattle.std.specs.List.{filter, filter_map, flat_map, cons_option, list_any}
use Rattle.std.proofs.lemmas.Bool.{false≢true, eqb-true}
use Rattle.std.proofs.lemmas.Bool.Decides.{nat_tests}
use Rattle.cap_core.specs.declared.profile.ProfileName.{ProfileName}
use Rattle.kernel_abstract.specs.Shown.{Shown}
use Rattle.kernel_delete.specs.Members.{In}
use Rattle.kernel_delete.proofs.Clearable.{contains_in}
use Rattle.kernel_delete.proofs.Members.{both_true, either_true, true_left, true_right, any_in, any_of, in_append, in_left, in_right, in_filter, filter_in, tells, eqb_self}
use Rattle.query_parts.specs.declared.listed.PartMemory.{PartMemory}
use Rattle.query_parts.specs.Listed.{lies_in, part_at}
use Rattle.query_parts.proofs.Lists.{in_mapped, from_mapped}
use Rattle.setup_report.specs.State.{is_in, rising}
use Rattle.setup_report.proofs.Addresses.Rising.{any_rising}
use Rattle.command_parts.specs.Text.{parts_of}
use Rattle.command_policy_breaches.specs.declared.joining.Join.{Join}
use Rattle.command_policy_breaches.specs.declared.held.Block.{Block}
use Rattle.command_policy_breaches.specs.declared.held.Home.{Home}
use Rattle.command_policy_breaches.specs.declared.held.Layout.{Layout}
use Rattle.setup_policy.specs.declared.policy.Member.{Member}
use Rattle.setup_policy.specs.declared.policy.Policy.{Policy}
use Rattle.command_policy_breaches.specs.Joins.{single_block, all_joined, block_of_part, blocks, has_another, have_one_group, have_two_groups, homes_joined, homes_joined_of, is_in_either, is_joined_by, is_theirs, join_from, joined, joins, joins_from, joins_on, number_at, block_number, renumbered}
use Rattle.command_policy_breaches.specs.Layouts.{IsLayoutOf, home, homes_of, part_of_member}
use Rattle.command_policy_breaches.specs.Sides.{is_at_home, is_home}
use Rattle.command_policy_laws.specs.Unbroken.{AreNamed, group_in, group_of}
use Rattle.command_policy_laws.proofs.Untold.{fails}

-- ---- lists

pub in_flat : {X Y : Type 0} (f : X → List Y) (xs : List X) (x : X) (y : Y) → In x xs → In y (f x) → In y (flat_map f xs)
in_flat f [] x y there here = absurd there
in_flat {X} {Y} f (z ∷ xs) x y there here = elim there [
  | inl same ↦ in_left y (f z) (flat_map f xs) (subst (λ (w : X). In y (f w)) same here)
  | inr more ↦ in_right y (f z) (flat_map f xs) (in_flat f xs x y more here)
]

pub from_flat : {X Y : Type 0} (f : X → List Y) (xs : List X) (y : Y) → In y (flat_map f xs) → (x : X) × (In x xs × In y (f x))
from_flat f [] y there = absurd there
from_flat f (x ∷ xs) y there = elim (in_append y (f x) (flat_map f xs) there) [
  | inl here ↦ (x, (inl refl, here))
  | inr more ↦ let m = from_flat f xs y more in (m.0, (inr m.1.0, m.1.1))
]

pub in_rising : (n : ℕ) (xs : List ℕ) → In n xs → In n (rising xs)
in_rising n xs there =
    let m = any_of (λ a. n == a) (rising xs) (any_rising (λ a. n == a) xs ∙ any_in (λ a. n == a) xs n there (eqb_self n)) in
    subst (λ z. In z (rising xs)) (sym (eqb-true n m.0 m.1.1)) m.1.0

pub from_rising : (n : ℕ) (xs : List ℕ) → In n (rising xs) → In n xs
from_rising n xs there =
    let m = any_of (λ a. n == a) xs (sym (any_rising (λ a. n == a) xs) ∙ any_in (λ a. n == a) (rising xs) n there (eqb_self n)) in
    subst (λ z. In z xs) (sym (eqb-true n m.0 m.1.1)) m.1.0

from_cond : {X : Type 0} (b : Bool) (xs : List X) (x : X) → In x (cond b xs []) → In x xs
from_cond true xs x there = there
from_cond false xs x there = absurd there

past : {Y : Type 0} (y : Y) (l : List Y) (o : Option Y) → In y l → In y (cons_option o l)
past y l None h = h
past y l (Some z) h = inr h

pub in_found : {X Y : Type 0} (f : X → Option Y) (xs : List X) (x : X) (y : Y) → In x xs → f x ≡ Some y → In y (filter_map f xs)
in_found f [] x y there gives = absurd there
in_found {X} {Y} f (z ∷ xs) x y (inl same) gives = subst (λ (o : Option Y). In y (cons_option o (filter_map f xs))) (sym gives ∙ ap f same) (inl refl)
in_found f (z ∷ xs) x y (inr more) gives = past y (filter_map f xs) (f z) (in_found f xs x y more gives)

from_head : {X Y : Type 0} (f : X → Option Y) (x : X) (xs : List X) (y : Y) (o : Option Y) → f x ≡ o →
    (In y (filter_map f xs) → (z : X) × (In z xs × (f z ≡ Some y))) → In y (cons_option o (filter_map f xs)) → (z : X) × (In z (x ∷ xs) × (f z ≡ Some y))
from_head f x xs y None is rest there = let m = rest there in (m.0, (inr m.1.0, m.1.1))
from_head f x xs y (Some w) is rest there = elim there [
  | inl same ↦ (x, (inl refl, is ∙ ap (λ q. Some q) (sym same)))
  | inr more ↦ let m = rest more in (m.0, (inr m.1.0, m.1.1))
]

pub from_found : {X Y : Type 0} (f : X → Option Y) (xs : List X) (y : Y) → In y (filter_map f xs) → (x : X) × (In x xs × (f x ≡ Some y))
from_found f [] y there = absurd there
from_found f (x ∷ xs) y there = from_head f x xs y (f x) refl (from_found f xs y) there

part_mapped : (memory : List PartMemory) (a i : ℕ) → part_at memory a ≡ Some i → In i (map (λ (m : PartMemory). m.part) memory)
part_mapped [] a i at = cc
part_mapped (m ∷ ms) a i at =
    (elim (lies_in m a) as (λ b. option_map (λ (x : PartMemory). x.part) (cond b (Some m) (find (λ (x : PartMemory). lies_in x a) ms)) ≡ Some i
    → (i ≡ m.part) ⊎ In i (map (λ (x : PartMemory). x.part) ms)) [
      | true ↦ λ is. inl (by m.part is)
      | false ↦ λ is. inr (part_mapped ms a i is)
    ]) at
  where
    by : (k : ℕ) → Some k ≡ Some i → i ≡ k
    by k e = cc

-- the part of an address is one of the parts
pub part_listed : (memory : List PartMemory) (a i : ℕ) → part_at memory a ≡ Some i → In i (parts_of memory)
part_listed memory a i at = in_rising i (map (λ (m : PartMemory). m.part) memory) (part_mapped memory a i at)

-- ---- a group has threads in a part

abbrev pub IsAt : List Home → ℕ → ℕ → Type 0
IsAt homes part group = (h : Home) × (In h homes × ((h.part ≡ part) × (h.group ≡ group)))

module _ (homes : List Home) (part group : ℕ) where
  pub at_home : is_at_home homes part group ≡ true → IsAt homes part group
  at_home has =
      let m = any_of (is_home group part) homes has in
      let both = both_true (m.0.group == group) (m.0.part == part) m.1.1 in
      (m.0, (m.1.0, (eqb-true m.0.part part both.1, eqb-true m.0.group group both.0)))

  pub home_at : IsAt homes part group → is_at_home homes part group ≡ true
  home_at at = any_in (is_home group part) homes at.0 at.1.0 (rw (eq-eqb at.0.group group at.1.1.1, eq-eqb at.0.part part at.1.1.0) refl)

first_home : (homes : List Home) (part group : ℕ) → option_map (λ (h : Home). h.group) (find (λ (h : Home). h.part == part) homes) ≡ Some group → IsAt homes part group
first_home [] part group is = cc
first_home (h ∷ homes) part group is =
    (elim (h.part == part) as (λ b. h.part == part ≡ b → option_map (λ (x : Home). x.group) (cond b (Some h) (find (λ (x : Home). x.part == part) homes)) ≡ Some group → IsAt (h ∷ homes) part group) [
      | true ↦ λ same has. (h, (inl refl, (eqb-true h.part part same, by h.group has)))
      | false ↦ λ other has. let m = first_home homes part group has in (m.0, (inr m.1.0, m.1.1))
    ]) refl is
  where
    by : (k : ℕ) → Some k ≡ Some group → k ≡ group
    by k e = cc

-- where no other group is there, the first that is found is it
pub first_found : (homes : List Home) (part group : ℕ) → IsAt homes part group → ((k : ℕ) → IsAt homes part k → k ≡ group) →
    option_map (λ (h : Home). h.group) (find (λ (h : Home). h.part == part) homes) ≡ Some group
first_found [] part group at only = absurd at.1.0
first_found (h ∷ homes) part group at only =
    (elim (h.part == part) as (λ b. h.part == part ≡ b → option_map (λ (x : Home). x.group) (cond b (Some h) (find (λ (x : Home). x.part == part) homes)) ≡ Some group) [
      | true ↦ λ same. ap (λ k. Some k) (only h.group (h, (inl refl, (eqb-true h.part part same, refl))))
      | false ↦ λ other. first_found homes part group (in_rest other at.1.0) (λ k there. only k (there.0, (inr there.1.0, there.1.1)))
    ]) refl
  where
    in_rest : h.part == part ≡ false → In at.0 (h ∷ homes) → IsAt homes part group
    in_rest other (inl same) = absurd (false≢true (sym other ∙ eq-eqb h.part part (ap (λ (x : Home). x.part) (sym same) ∙ at.1.1.0)))
    in_rest other (inr more) = (at.0, (more, at.1.1))

-- an address that has a group lies in a part where the group has threads
pub record HasGroup (l : Layout) (address group : ℕ) : Type 0 where
  pub part : ℕ
  pub lies : part_at l.memory.items address ≡ Some part
  pub at : IsAt l.homes.items part group

pub has_group : (l : Layout) (address group : ℕ) → group_of l address ≡ Some group → HasGroup l address group
has_group l address group is = by (part_at l.memory.items address) refl is
  where
    by : (o : Option ℕ) → part_at l.memory.items address ≡ o → group_in l.homes.items o ≡ Some group → HasGroup l address group
    by None lies h = cc
    by (Some i) lies h = record { part = i; lies = lies; at = first_home l.homes.items i group h }

-- ---- a part has one group

module _ (homes : List Home) (one other : ℕ) where
  -- no other group has threads in either of two parts
  alone_there : (group : ℕ) → has_another homes one other group ≡ false → (h : Home) → In h homes → is_in_either one other h ≡ true → h.group ≡ group
  alone_there group none h there either = elim (tells (h.group == group)) [
    | inl same ↦ eqb-true h.group group same
    | inr differ ↦ absurd (false≢true (sym none ∙ any_in (λ (x : Home). is_in_either one other x && not (x.group == group)) homes h there (rw (either, differ) refl)))
  ]

in_first : (one other : ℕ) (h : Home) → h.part ≡ one → is_in_either one other h ≡ true
in_first one other h is = true_left (h.part == one) (h.part == other) (eq-eqb h.part one is)

in_second : (one other : ℕ) (h : Home) → h.part ≡ other → is_in_either one other h ≡ true
in_second one other h is = true_right (h.part == one) (h.part == other) (eq-eqb h.part other is)

-- two parts are one, or one group has threads in both, and no other has
abbrev pub AreAlike : List Home → ℕ → ℕ → Type 0
AreAlike homes i j =
    (i ≡ j) ⊎ ((g : ℕ) × (IsAt homes i g × (IsAt homes j g × (((k : ℕ) → IsAt homes i k → k ≡ g) × ((k : ℕ) → IsAt homes j k → k ≡ g)))))

module _ (homes : List Home) where
  alike_back : (i j : ℕ) → AreAlike homes i j → AreAlike homes j i
  alike_back i j (inl same) = inl (sym same)
  alike_back i j (inr (g, (a, (b, (f, h))))) = inr (g, (b, (a, (h, f))))

  alike_on : (i j k : ℕ) → AreAlike homes i j → AreAlike homes j k → AreAlike homes i k
  alike_on i j k (inl same) second = subst (λ n. AreAlike homes n k) (sym same) second
  alike_on i j k (inr first) (inl same) = subst (λ n. AreAlike homes i n) same (inr first)
  alike_on i j k (inr (g, (a, (b, (f, h))))) (inr (x, (d, (e, (q, r))))) =
      let same : x ≡ g = h x d in
      inr (g, (a, (subst (IsAt homes k) same e, (f, λ n there. r n there ∙ same))))

  -- what a test of two parts says
  pub alike_tested : (one other : ℕ) → have_one_group homes one other ≡ true → AreAlike homes one other
  alike_tested one other has =
      let m = any_of (is_theirs homes one other) homes has in
      let first = both_true (m.0.part == one) (is_at_home homes other m.0.group && not (has_another homes one other m.0.group)) m.1.1 in
      let second = both_true (is_at_home homes other m.0.group) (not (has_another homes one other m.0.group)) first.1 in
      let none = unset (has_another homes one other m.0.group) second.1 in
      inr (
        m.0.group,
        (
          (m.0, (m.1.0, (eqb-true m.0.part one first.0, refl))),
          (
            at_home homes other m.0.group second.0,
            (
              (λ k there. sym there.1.1.1 ∙ alone_there homes one other m.0.group none there.0 there.1.0 (in_first one other there.0 there.1.1.0)),
              (λ k there. sym there.1.1.1 ∙ alone_there homes one other m.0.group none there.0 there.1.0 (in_second one other there.0 there.1.1.0)),
            ),
          ),
        ),
      )
    where
      unset : (b : Bool) → not b ≡ true → b ≡ false
      unset true h = cc
      unset false h = refl

  -- a part that has no two groups
  pub one_group : (part : ℕ) → have_two_groups homes part part ≡ false → (g k : ℕ) → IsAt homes part g → IsAt homes part k → g ≡ k
  one_group part none g k a b =
      let none_other : has_another homes part part a.0.group ≡ false =
      (elim (tells (has_another homes part part a.0.group)) [
        | inl has ↦ absurd (false≢true (sym none ∙ any_in (λ (x : Home). is_in_either part part x && has_another homes part part x.group) homes a.0 a.1.0 (rw (in_first part part a.0 a.1.1.0, has) refl)))
        | inr not ↦ not
      ]) in
      sym a.1.1.1 ∙ sym (alone_there homes part part a.0.group none_other b.0 b.1.0 (in_first part part b.0 b.1.1.0)) ∙ b.1.1.1

-- ---- parts that Grant joins

pub larger : (f t : ℕ) → ((max f t ≡ t) × (min f t ≡ f)) ⊎ ((max f t ≡ f) × (min f t ≡ t))
larger f t = elim (tells (nat_le f t)) [
  | inl le ↦ inl (grind (arith, nat_tests, le), grind (arith, nat_tests, le))
  | inr gt ↦ inr (grind (arith, nat_tests, gt), grind (arith, nat_tests, gt))
]

module _ (homes : List Home) (parts : List ℕ) where
  -- blocks of one number are alike, and each part is in one
  pub record AreSound (bs : List Block) : Type 0 where
    pub alike : (b d : Block) → In b bs → In d bs → b.block ≡ d.block → AreAlike homes b.part d.part
    pub all : (i : ℕ) → In i parts → (b : Block) × (In b bs × (b.part ≡ i))

  -- the block of a part
  abbrev IsBlockOf : List Block → ℕ → Block → Type 0
  IsBlockOf bs i b = In b bs × ((b.part ≡ i) × (b.block ≡ block_of_part bs i))

  found : (bs : List Block) (i : ℕ) (b : Block) → In b bs → b.part ≡ i → (f : Block) × IsBlockOf bs i f
  found [] i b there is = absurd there
  found (x ∷ bs) i b there is =
      (elim (x.part == i) as (λ (t : Bool). x.part == i ≡ t → (f : Block) × (In f (x ∷ bs) × ((f.part ≡ i) × (f.block ≡ block_number i (cond t (Some x) (find (λ (y : Block). y.part == i) bs)))))) [
        | true ↦ λ same. (x, (inl refl, (eqb-true x.part i same, refl)))
        | false ↦ λ differ. let m = found bs i b (more differ there) is in (m.0, (inr m.1.0, m.1.1))
      ]) refl
    where
      more : x.part == i ≡ false → In b (x ∷ bs) → In b bs
      more differ (inl same) = absurd (false≢true (sym differ ∙ eq-eqb x.part i (ap (λ (y : Block). y.part) (sym same) ∙ is)))
      more differ (inr rest) = rest

  block_found : (bs : List Block) → AreSound bs → (i : ℕ) → In i parts → (f : Block) × IsBlockOf bs i f
  block_found bs sound i there = let b = sound.all i there in found bs i b.0 b.1.0 b.1.1

  pub same_number : (bs : List Block) → AreSound bs → (i j : ℕ) → In i parts → In j parts → block_of_part bs i ≡ block_of_part bs j → AreAlike homes i j
  same_number bs sound i j own other same =
      let b = block_found bs sound i own in
      let d = block_found bs sound j other in
      subst (λ n. AreAlike homes n j) b.1.1.0
      (subst (λ n. AreAlike homes b.0.part n) d.1.1.0
      (sound.alike b.0 d.0 b.1.0 d.1.0 (b.1.1.1 ∙ same ∙ sym d.1.1.1)))

  -- two numbers become one: those of two parts that are alike
  module _ (bs : List Block) (sound : AreSound bs) (from to : ℕ) (near : (b d : Block) → In b bs → In d bs → b.block ≡ from → d.block ≡ to → AreAlike homes b.part d.part) where
    abbrev after : List Block
    after = map (renumbered from to) bs

    kept_part : (a : Block) → (renumbered from to a).part ≡ a.part
    kept_part a = (elim (a.block == from) as (λ t. (cond t (record { part = a.part; block = to }) a).part ≡ a.part) [ true ↦ refl | false ↦ refl ])

    both_alike : (a d : Block) → In a bs → In d bs → (renumbered from to a).block ≡ (renumbered from to d).block → AreAlike homes a.part d.part
    both_alike a d here there = by (a.block == from) (d.block == from) refl refl
      where
        by : (s t : Bool) → a.block == from ≡ s → d.block == from ≡ t → (cond s (record { part = a.part; block = to }) a).block ≡ (cond t (record { part = d.part; block = to }) d).block → AreAlike homes a.part d.part
        by true true one other same = sound.alike a d here there (eqb-true a.block from one ∙ sym (eqb-true d.block from other))
        by true false one other same = near a d here there (eqb-true a.block from one) (sym same)
        by false true one other same = alike_back homes d.part a.part (near d a there here (eqb-true d.block from other) same)
        by false false one other same = sound.alike a d here there same

    sound_after : AreSound after
    sound_after = record {
      alike = λ b d here there same.
          let x = from_mapped (renumbered from to) bs b here in
          let y = from_mapped (renumbered from to) bs d there in
          subst (λ n. AreAlike homes n d.part) (sym (ap (λ (z : Block). z.part) x.1.1 ∙ kept_part x.0))
          (subst (λ n. AreAlike homes x.0.part n) (sym (ap (λ (z : Block). z.part) y.1.1 ∙ kept_part y.0))
          (both_alike x.0 y.0 x.1.0 y.1.0 (sym (ap (λ (z : Block). z.block) x.1.1) ∙ same ∙ ap (λ (z : Block). z.block) y.1.1)));
      all = λ i own. let b = sound.all i own in
          (renumbered from to b.0, (in_mapped (renumbered from to) b.0 bs b.1.0, kept_part b.0 ∙ b.1.1));
    }

  near_joined : (bs : List Block) → AreSound bs → (i j : ℕ) → In i parts → In j parts → AreAlike homes i j →
      (b d : Block) → In b bs → In d bs → b.block ≡ block_of_part bs i → d.block ≡ block_of_part bs j → AreAlike homes b.part d.part
  near_joined bs sound i j own other alike b d here there first second =
      let x = block_found bs sound i own in
      let y = block_found bs sound j other in
      alike_on homes b.part i d.part
      (subst (λ n. AreAlike homes b.part n) x.1.1.0 (sound.alike b x.0 here x.1.0 (first ∙ sym x.1.1.1)))
      (alike_on homes i j d.part alike (subst (λ n. AreAlike homes n d.part) y.1.1.0 (sound.alike y.0 d y.1.0 there (y.1.1.1 ∙ sym second))))

  -- a join is of two of the parts, and these are alike
  record IsSoundJoin (j : Join) : Type 0 where
    pub from : In j.from parts
    pub to : In j.to parts
    pub alike : AreAlike homes j.from j.to

  sound_joined : (bs : List Block) → AreSound bs → (j : Join) → IsSoundJoin j → AreSound (joined bs j)
  sound_joined bs sound j is = by (block_of_part bs j.from) (block_of_part bs j.to) refl refl
    where
      up_to : (f t : ℕ) → (f ≡ block_of_part bs j.from) → (t ≡ block_of_part bs j.to) → AreSound (map (renumbered f t) bs)
      up_to f t first second = sound_after bs sound f t (λ b d here there one two.
          near_joined bs sound j.from j.to is.from is.to is.alike b d here there (one ∙ first) (two ∙ second))

      down_to : (f t : ℕ) → (f ≡ block_of_part bs j.from) → (t ≡ block_of_part bs j.to) → AreSound (map (renumbered t f) bs)
      down_to f t first second = sound_after bs sound t f (λ b d here there one two.
          near_joined bs sound j.to j.from is.to is.from (alike_back homes j.from j.to is.alike) b d here there (one ∙ second) (two ∙ first))

      by : (f t : ℕ) → (f ≡ block_of_part bs j.from) → (t ≡ block_of_part bs j.to) → AreSound (map (renumbered (max f t) (min f t)) bs)
      by f t first second = elim (larger f t) [
        | inl is ↦ subst (λ n. AreSound (map (renumbered n (min f t)) bs)) (sym is.0) (subst (λ n. AreSound (map (renumbered t n) bs)) (sym is.1) (down_to f t first second))
        | inr is ↦ subst (λ n. AreSound (map (renumbered n (min f t)) bs)) (sym is.0) (subst (λ n. AreSound (map (renumbered f n) bs)) (sym is.1) (up_to f t first second))
      ]

  sound_all : (js : List Join) (bs : List Block) → AreSound bs → ((j : Join) → In j js → IsSoundJoin j) → AreSound (all_joined bs js)
  sound_all [] bs sound are = sound
  sound_all (j ∷ js) bs sound are = sound_all js (joined bs j) (sound_joined bs sound j (are j (inl refl))) (λ k there. are k (inr there))

  sound_alone : AreSound (map single_block parts)
  sound_alone = record {
    alike = λ b d here there same.
        let x = from_mapped single_block parts b here in
        let y = from_mapped single_block parts d there in
        inl (ap (λ (z : Block). z.part) x.1.1 ∙ sym (ap (λ (z : Block). z.block) x.1.1) ∙ same ∙ ap (λ (z : Block). z.block) y.1.1 ∙ sym (ap (λ (z : Block). z.part) y.1.1));
    all = λ i own. (single_block i, (in_mapped single_block i parts own, refl));
  }

-- ---- a layout in which nothing of the kind is told

module _ (p : ProfileName) (c : Policy) (v : Shown) (l : Layout) (is : IsLayoutOf p c v l)
    (joined_none : filter (λ part. have_two_groups l.homes.items part part) l.parts.items ≡ [])
    (grants_none : filter (λ (j : Join). not (have_one_group l.homes.items j.from j.to)) (joins c l) ≡ []) where
  pub of_one : (part : ℕ) → In part l.parts.items → (g k : ℕ) → IsAt l.homes.items part g → IsAt l.homes.items part k → g ≡ k
  of_one part there g k a b =
      one_group l.homes.items part (fails (λ i. have_two_groups l.homes.items i i) l.parts.items part joined_none there) g k a b

  pub part_of_address : (a i : ℕ) → part_at l.memory.items a ≡ Some i → In i l.parts.items
  part_of_address a i at = subst (In i) (sym is.numbers) (part_listed l.memory.items a i at)

  home_part : (h : Home) → In h l.homes.items → In h.part l.parts.items
  home_part h there =
      let g = from_flat (homes_of l.memory.items c.members.items) c.groups.items h (subst (In h) is.homes_are there) in
      let i = from_mapped (home g.0) (rising (filter_map (part_of_member l.memory.items) (filter (λ (m : Member). m.actor == g.0) c.members.items))) h g.1.1 in
      let m = from_found (part_of_member l.memory.items) (filter (λ (m : Member). m.actor == g.0) c.members.items) i.0 (from_rising i.0 _ i.1.0) in
      subst (λ n. In n l.parts.items) (sym (ap (λ (x : Home). x.part) i.1.1)) (part_of_address m.0.thread i.0 m.1.1)

  -- a thread that the policy names is of the group that names it
  pub are_named : AreNamed c l
  are_named m part there named at =
      let in_members = filter_in (λ (x : Member). x.actor == m.actor) c.members.items m (contains_in c.members.items m there) (eqb_self m.actor) in
      let h : Home = home m.actor part in
      let is_there : In h l.homes.items = subst (In h) (sym is.homes_are)
      (in_flat (homes_of l.memory.items c.members.items) c.groups.items m.actor h (contains_in c.groups.items m.actor named)
      (in_mapped (home m.actor) part (rising (filter_map (part_of_member l.memory.items) (filter (λ (x : Member). x.actor == m.actor) c.members.items)))
      (in_rising part _ (in_found (part_of_member l.memory.items) (filter (λ (x : Member). x.actor == m.actor) c.members.items) m part in_members at)))) in
      let here : IsAt l.homes.items part m.actor = (h, (is_there, (refl, refl))) in
      ap (group_in l.homes.items) at ∙ first_found l.homes.items part m.actor here (λ k other. of_one part (part_of_address m.thread part at) k m.actor other here)

  -- ---- joins

  record AreParts (j : Join) : Type 0 where
    from : In j.from l.parts.items
    to : In j.to l.parts.items

  mapped_join : (e from : ℕ) (test : ℕ → Bool) (j : Join) → In from l.parts.items → In j (map (join_from from e) (filter test l.parts.items)) → AreParts j
  mapped_join e from test j own there =
      let t = from_mapped (join_from from e) (filter test l.parts.items) j there in
      record {
        from = subst (λ n. In n l.parts.items) (sym (ap (λ (x : Join). x.from) t.1.1)) own;
        to = subst (λ n. In n l.parts.items) (sym (ap (λ (x : Join). x.to) t.1.1)) (in_filter test l.parts.items t.0 t.1.0).0;
      }

  joined_from : (e from : ℕ) (j : Join) → In from l.parts.items → In j (joins_from l e from) → AreParts j
  joined_from e from j own there = mapped_join e from (is_joined_by l e from) j own there

  are_parts : (j : Join) → In j (joins c l) → AreParts j
  are_parts j there =
      let e = from_flat (joins_on l) l.endpoints.items j (from_cond c.grant _ j there) in
      let i = from_flat (joins_from l e.0) l.parts.items j e.1.1 in
      joined_from e.0 i.0 j i.1.0 i.1.1

  sound_join : (j : Join) → In j (joins c l) → IsSoundJoin l.homes.items l.parts.items j
  sound_join j there =
      let ends = are_parts j there in
      record {
        from = ends.from;
        to = ends.to;
        alike = alike_tested l.homes.items j.from j.to
            (set (have_one_group l.homes.items j.from j.to) (fails (λ (x : Join). not (have_one_group l.homes.items x.from x.to)) (joins c l) j grants_none there));
      }
    where
      set : (b : Bool) → not b ≡ false → b ≡ true
      set true h = refl
      set false h = cc

  abbrev bs : List Block
  bs = blocks c l

  sound : AreSound l.homes.items l.parts.items bs
  sound = sound_all l.homes.items l.parts.items (joins c l) (map single_block l.parts.items) (sound_alone l.homes.items l.parts.items) sound_join

  alike_group : (i j g k : ℕ) → In i l.parts.items → AreAlike l.homes.items i j → IsAt l.homes.items i g → IsAt l.homes.items j k → g ≡ k
  alike_group i j g k own (inl same) a b = of_one i own g k a (subst (λ n. IsAt l.homes.items n k) (sym same) b)
  alike_group i j g k own (inr (x, (d, (e, (f, h))))) a b = f g a ∙ sym (h k b)

  -- parts of one number have one group
  pub of_number : (i j g k : ℕ) → In i l.parts.items → In j l.parts.items → block_of_part bs i ≡ block_of_part bs j → IsAt l.homes.items i g → IsAt l.homes.items j k → g ≡ k
  of_number i j g k own other same a b =
      alike_group i j g k own (same_number l.homes.items l.parts.items bs sound i j own other same) a b

  -- and so has the number
  pub of_joined : (i number g k : ℕ) → In i l.parts.items → block_of_part bs i ≡ number → IsAt l.homes.items i g → IsAt (homes_joined c l bs) number k → g ≡ k
  of_joined i number g k own is_number a b =
      let from = from_flat (homes_joined_of l.homes.items bs) c.groups.items b.0 b.1.0 in
      let n = from_mapped (home from.0) (rising (map (number_at bs) (filter (λ (h : Home). h.group == from.0) l.homes.items))) b.0 from.1.1 in
      let h = from_mapped (number_at bs) (filter (λ (x : Home). x.group == from.0) l.homes.items) n.0 (from_rising n.0 _ n.1.0) in
      let kept = in_filter (λ (x : Home). x.group == from.0) l.homes.items h.0 h.1.0 in
      let same_group : h.0.group ≡ k = eqb-true h.0.group from.0 kept.1 ∙ sym (ap (λ (x : Home). x.group) n.1.1) ∙ b.1.1.1 in
      let same_number : block_of_part bs i ≡ block_of_part bs h.0.part = is_number ∙ sym b.1.1.0 ∙ ap (λ (x : Home). x.part) n.1.1 ∙ h.1.1 in
      of_number i h.0.part g k own (home_part h.0 kept.0) same_number a (h.0, (kept.0, (refl, same_group)))
