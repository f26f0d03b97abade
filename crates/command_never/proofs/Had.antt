-- What a part has of an endpoint: bytes, and uses.
use Rattle.std.proofs.Common.{◌≡◌, ℕ, ◌+◌, ◌<◌, ◌≤◌, ◌⊎◌, inl, inr, Bool, true, false, cond, ◌==◌, ◌&&◌, ◌||◌, List, [], ◌∷◌, map, filter, Some, refl, sym, ap, ◌∙◌, arith, eq-eqb, bit_and}
use Rattle.std.specs.Prelude.{find, option_map, nat_le, nat_lt}
use Rattle.std.specs.List.{list_any, Contains}
use Rattle.std.specs.Int.{bit_at}
use Rattle.std.proofs.lemmas.Bool.{eqb-true}
use Rattle.std.proofs.lemmas.Bool.Decides.{nat_tests}
use Rattle.std.proofs.lemmas.Nat.{pow_pos}
use Rattle.std.proofs.lemmas.Nat.Bits.{and_pow}
use Rattle.cap_core.specs.declared.profile.ProfileName.{ProfileName}
use Rattle.cap_core.specs.declared.capability.Badge.{Badge}
use Rattle.cap_core.specs.declared.rights.Rights.{Rights}
use Rattle.cap_core.specs.Numbers.{endpoint_bits, endpoint_size}
use Rattle.cap_core.specs.Rights.{write_bit, read_bit}
use Rattle.kernel_delete.specs.Members.{In}
use Rattle.kernel_delete.proofs.Members.{true_left, true_right, both_true}
use Rattle.kernel_delete.proofs.Clearable.{contains_in}
use Rattle.kernel_abstract.specs.Decode.{has_right}
use Rattle.query_parts.specs.declared.listed.PartMemory.{PartMemory}
use Rattle.query_parts.specs.declared.listed.PartUse.{PartUse}
use Rattle.query_parts.specs.Parts.{Use, AreAmong, IsCovered}
use Rattle.query_parts.specs.Listed.{lies_in, part_at, use_of, parts_listed}
use Rattle.query_parts.specs.Laws.{MayUse}
use Rattle.command_parts.specs.Text.{is_use}
use Rattle.command_never.specs.Never.{has_some, has_bytes, is_use_of}

-- ---- a byte of an endpoint that is memory of a part

stretch_has : (part first size address : ℕ) (m : PartMemory) → m.part ≡ part → lies_in m address ≡ true → first ≤ address → address < first + size →
    has_some part first size m ≡ true
stretch_has part first size address m same here low high =
    let is : m.part == part ≡ true = eq-eqb m.part part same in
    let both = both_true (nat_le m.first address) (nat_le address m.last) here in
    let begins : nat_lt m.first (first + size) ≡ true = grind (arith, nat_tests, both.0, high) in
    let ends : nat_le first m.last ≡ true = grind (arith, nat_tests, both.1, low) in
    rw (is, begins, ends) refl

byte_in : (part first size address : ℕ) (memory : List PartMemory) → part_at memory address ≡ Some part → first ≤ address → address < first + size →
    list_any (has_some part first size) memory ≡ true
byte_in part first size address [] at low high = cc
byte_in part first size address (m ∷ ms) at low high =
    (elim (lies_in m address) as (λ b. lies_in m address ≡ b → option_map (λ (x : PartMemory). x.part) (cond b (Some m) (find (λ (x : PartMemory). lies_in x address) ms)) ≡ Some part
    → (has_some part first size m || list_any (has_some part first size) ms) ≡ true) [
      | true ↦ λ here is. true_left (has_some part first size m) (list_any (has_some part first size) ms) (stretch_has part first size address m (part_is m.part is) here low high)
      | false ↦ λ other is. true_right (has_some part first size m) (list_any (has_some part first size) ms) (byte_in part first size address ms is low high)
    ]) refl at
  where
    part_is : (k : ℕ) → Some k ≡ Some part → k ≡ part
    part_is k e = cc

-- ---- uses

module _ (uses : List PartUse) (i : ℕ) where
  -- a use of the part that passes a test
  pub used : (t : Use → Bool) (u : Use) → Contains (map use_of (filter (λ (x : PartUse). x.part == i) uses)) u → t u ≡ true →
      list_any (λ (x : PartUse). x.part == i && t (use_of x)) uses ≡ true
  used t u there passes = go uses (contains_in (map use_of (filter (λ (x : PartUse). x.part == i) uses)) u there)
    where
      go : (xs : List PartUse) → In u (map use_of (filter (λ (x : PartUse). x.part == i) xs)) → list_any (λ (x : PartUse). x.part == i && t (use_of x)) xs ≡ true
      go [] there = absurd there
      go (x ∷ xs) there =
          (elim (x.part == i) as (λ b. In u (map use_of (cond b (x ∷ filter (λ (y : PartUse). y.part == i) xs) (filter (λ (y : PartUse). y.part == i) xs)))
          → ((b && t (use_of x)) || list_any (λ (y : PartUse). y.part == i && t (use_of y)) xs) ≡ true) [
            | true ↦ λ (is : In u (use_of x ∷ map use_of (filter (λ (y : PartUse). y.part == i) xs))). elim is [
              | inl same ↦ true_left (t (use_of x)) (list_any (λ (y : PartUse). y.part == i && t (use_of y)) xs) (ap t (sym same) ∙ passes)
              | inr more ↦ true_right (t (use_of x)) (list_any (λ (y : PartUse). y.part == i && t (use_of y)) xs) (go xs more)
            ]
            | false ↦ λ is. go xs is
          ]) there

-- ---- rights

-- a right that is among some rights is among more
abbrev pub IsKeptRight : ℕ → Type 0
IsKeptRight right = (few many : Rights) → AreAmong few many → has_right right few ≡ true → has_right right many ≡ true

pub write_kept : IsKeptRight write_bit
write_kept few many among has =
    let one = eqb-true (bit_and few.0 1) 1 has in
    let set : bit_at few.0 0 ≡ 1 = omega (arith, one, and_pow few.0 0) in
    let then = among 0 set in
    eq-eqb (bit_and many.0 1) 1 (omega (arith, then, and_pow many.0 0))

pub read_kept : IsKeptRight read_bit
read_kept few many among has =
    let two = eqb-true (bit_and few.0 2) 2 has in
    let set : bit_at few.0 1 ≡ 1 = omega (arith, two, and_pow few.0 1) in
    let then = among 1 set in
    eq-eqb (bit_and many.0 2) 2 (omega (arith, then, and_pow many.0 1))

-- ---- a part that owns an endpoint, or has a use of it

module _ (p : ProfileName) (memory : List PartMemory) (uses : List PartUse) (i : ℕ) where
  pub bytes_at : (endpoint address : ℕ) → part_at memory address ≡ Some i → endpoint ≤ address → address < endpoint + endpoint_size p →
      has_bytes p memory i endpoint ≡ true
  bytes_at endpoint address at low high = byte_in i endpoint (endpoint_size p) address memory at low high

  pub covered_use : (endpoint : ℕ) (badge : Badge) (rights : Rights) → IsCovered (parts_listed memory uses) i endpoint badge rights →
      list_any (is_use_of i endpoint) uses ≡ true
  covered_use endpoint badge rights covered =
      used uses i (λ (u : Use). u.endpoint == endpoint) covered.0 covered.1.0 (eq-eqb covered.0.endpoint endpoint covered.1.1.endpoint_is)

  -- who may send with a badge, or receive, owns the first byte of the endpoint, or has a use with that right
  pub may_use : (right endpoint : ℕ) (badge : Badge) → IsKeptRight right → MayUse p (parts_listed memory uses) right i endpoint badge →
      (part_at memory endpoint ≡ Some i) ⊎ (list_any (is_use right i endpoint) uses ≡ true)
  may_use right endpoint badge kept (rights, (inl owned, has)) =
      inl (owned endpoint (omega arith) (omega (arith, pow_pos (endpoint_bits p))))
  may_use right endpoint badge kept (rights, (inr covered, has)) =
      inr (used uses i (λ (u : Use). u.endpoint == endpoint && has_right right u.rights) covered.0 covered.1.0
      (rw (eq-eqb covered.0.endpoint endpoint covered.1.1.endpoint_is, kept rights covered.0.rights covered.1.1.rights_fit has) refl))
