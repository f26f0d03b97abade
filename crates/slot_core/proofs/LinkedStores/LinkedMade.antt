-- The table of an empty store, and how many bits of memory it stands for.
use Rattle.std.proofs.Common.{◌≡◌, ℕ, zero, suc, ◌+◌, ◌-◌, ◌*◌, ◌^◌, ◌<◌, ◌≤◌, true, false, cond, ◌==◌, eq-eqb, List, [], map, length, replicate, Option, None, refl, sym, ◌∙◌, ap, subst, arith}
use Rattle.std.proofs.lemmas.Bool.{eqb-true}
use Rattle.std.proofs.lemmas.Nat.{pow-add, pow_below}
use Rattle.cap_core.specs.declared.profile.ProfileName.{ProfileName}
use Rattle.cap_core.specs.Numbers.{slot_bits, slot_size}
use Rattle.slot_core.specs.declared.linked.table.Link.{Link}
use Rattle.kernel_forest.specs.Marked.{marked, IsMarkedList}
use Rattle.slot_core.specs.Links.{place_in, link_at, empty_link, next_of, row_of, walk, order_of, IsLinked, exponent, memory_of, IsLinkedStore}
use Rattle.kernel_forest.proofs.Disjoint.Disjointness.{disjoint-none}

above_exponent : (k : ℕ) → k < 2 ^ k
above_exponent zero = omega arith
above_exponent (suc k) = let h : k < 2 ^ k = above_exponent k in let g : 2 ^ k < 2 ^ suc k = pow_below k (suc k) (omega arith) in omega arith

exponent_below : (most k : ℕ) → k ≤ most → exponent most (2 ^ k) ≡ k
exponent_below zero k h = omega arith
exponent_below (suc most) k h =
    (elim (2 ^ suc most == 2 ^ k) as (λ c. (2 ^ suc most == 2 ^ k) ≡ c → cond c (suc most) (exponent most (2 ^ k)) ≡ k) [
      | true ↦ λ e. let d : 2 ^ suc most ≡ 2 ^ k = eqb-true (2 ^ suc most) (2 ^ k) e in
          let n : k < suc most → ⊥ = λ l. (let g : 2 ^ k < 2 ^ suc most = pow_below k (suc most) l in omega arith) in
          same (suc most) k h n
      | false ↦ λ e. exponent_below most k (less k (λ d. (let t : (2 ^ suc most == 2 ^ k) ≡ true = eq-eqb (2 ^ suc most) (2 ^ k) (ap (λ j. 2 ^ j) (sym d)) in let no' : true ≡ false = sym t ∙ e in cc)))
    ]) refl
  where
    same : (i k : ℕ) → k ≤ i → (k < i → ⊥) → i ≡ k
    same i k h n = grind (arith, n)

    less : (j : ℕ) → (k ≡ suc most → ⊥) → k ≤ most
    less j n = grind (arith, n)

pub exponent_is : (k : ℕ) → exponent (2 ^ k) (2 ^ k) ≡ k
exponent_is k = exponent_below (2 ^ k) k (let h : k < 2 ^ k = above_exponent k in omega arith)

walk_none : (f : ℕ → Option ℕ) (n : ℕ) → walk f n None ≡ []
walk_none f zero = refl
walk_none f (suc n) = refl

pub memory_made : (p : ProfileName) (m : ℕ) (links : List Link) → slot_bits p ≤ m → length links ≡ 2 ^ (m - slot_bits p) → memory_of p links ≡ m
memory_made p m links h long =
    ap (λ n. slot_bits p + exponent n n) long ∙ ap (λ k. slot_bits p + k) (exponent_is (m - slot_bits p)) ∙ (let e : slot_bits p + (m - slot_bits p) ≡ m = omega arith in e)

pub store_made : (p : ProfileName) (m : ℕ) (links : List Link) → slot_bits p ≤ m → length links ≡ 2 ^ (m - slot_bits p) → ((i : ℕ) → link_at links i ≡ empty_link) → IsLinkedStore p links None None
store_made p m links h long empty =
    let sum : (m - slot_bits p) + slot_bits p ≡ m = omega arith in
    let product : 2 ^ (m - slot_bits p) * 2 ^ slot_bits p ≡ 2 ^ m = sym (pow-add 2 (m - slot_bits p) (slot_bits p)) ∙ ap (λ k. 2 ^ k) sum in
    let o : order_of links None ≡ [] = walk_none (next_of links) (length links) in
    let L : List ℕ → Type 0 = IsLinked links None None in
    let K : List ℕ → Type 0 = λ l. IsMarkedList p (memory_of p links) (map (row_of links) l) in
    record {
      linked = subst L (sym o) (record {
        starts = refl;
        ends = refl;
        linked = tt;
        apart = tt;
        within = tt;
        free = λ i k. record {
          next = ap (λ (l : Link). place_in l.next) (empty i);
          previous = ap (λ (l : Link). place_in l.previous) (empty i);
          row = ap (λ (l : Link). marked i l.cap l.revocable l.first_badged) (empty i);
        };
      });
      kept = subst K (sym o) (record { lawful = tt; disjoint = disjoint-none p; gathered = tt; led = tt; named_first = tt; marks = tt });
      size = ap (λ k. 2 ^ k) (memory_made p m links h long) ∙ sym product ∙ ap (λ n. n * slot_size p) (sym long);
    }

pub all_empty : (n i : ℕ) → link_at (replicate n empty_link) i ≡ empty_link
all_empty zero i = refl
all_empty (suc n) zero = refl
all_empty (suc n) (suc i) = all_empty n i
