-- The next word of an entry, as the code makes it, and that there is one at each slot.
use Rattle.std.proofs.Common.{◌≡◌, ℕ, ◌+◌, ◌-◌, ◌*◌, ◌%◌, ◌^◌, ◌<◌, ◌≤◌, ◌⊎◌, refl, sym, ◌∙◌, arith, cond, Option, Some}
use Rattle.cap_core.specs.declared.profile.ProfileName.{ProfileName}
use Rattle.cap_core.specs.declared.profile.ProfileName.TheVariants.{Wide, Narrow}
use Rattle.cap_core.specs.declared.capability.Guard.{Guard}
use Rattle.cap_core.specs.declared.capability.Cap.{Cap}
use Rattle.cap_core.specs.declared.capability.Cap.TheVariants.{Null, Untyped, Endpoint, CNode, Tcb}
use Rattle.cap_core.specs.Numbers.{word_bits, slot_bits, slot_size}
use Rattle.cap_core.specs.Objects.{IsLawful}
use Rattle.cspace_core.specs.Inside.{IsSlotOf}
use Rattle.cspace_core.specs.Resolution.{is_cnode, slot_of}
use Rattle.cspace_core.proofs.Nodes.{lawful_node, slot_within, starts_within, radix_small}
use Rattle.std.proofs.Math.Nat.{mod-eq_of_lt, mul-le-mul_right}
use Rattle.std.proofs.Math.Pow.{pow_mono}
use Rattle.std.proofs.lemmas.Nat.{pow_pos, pow_below}
use Rattle.query_reach.specs.Private.Nodes.{IsNext}
use Rattle.query_reach.proofs.Numbers.{Made, made}

pub words_most : (p : ProfileName) → word_bits p ≤ 64
words_most Wide = omega arith
words_most Narrow = omega arith

pub next_made : (p : ProfileName) (memory : ℕ) (from : Cap) (left word base radix index : ℕ) (guard : Guard) → from ≡ CNode base radix guard →
    (from ≡ Null) ⊎ IsLawful p memory from → left ≤ word_bits p → word + 2 ^ left ≤ 2 ^ word_bits p → guard.size + radix ≤ left → index < 2 ^ radix →
    Made word guard.size radix left guard.value index
next_made p memory from left word base radix index guard e lawful within low fits small =
    let node = lawful_node p memory base radix guard (rw e at lawful) in
    made (word_bits p) word guard.size radix left guard.value index (words_most p) within fits node.holds.cut small low

pub next_is : (p : ProfileName) (from : Cap) (left word slot base radix index : ℕ) (guard : Guard) (to : Cap) (more : ℕ) → from ≡ CNode base radix guard →
    guard.size + radix ≤ left → (index < 2 ^ radix) × (slot ≡ slot_of p base index) → more ≡ cond (is_cnode to) (left - (guard.size + radix)) 0 →
    Made word guard.size radix left guard.value index →
    IsNext p from left word slot to more
    (word + (guard.value * 2 ^ radix % 2 ^ 64 + index) * 2 ^ (left - (guard.size + radix)) % 2 ^ 64)
next_is p from left word slot base radix index guard to more e fits is bits m = record {
  base = base;
  radix = radix;
  guard = guard;
  index = index;
  node = e;
  fits = fits;
  within = is.0;
  chosen = is.1;
  bits = bits;
  word = rw (m.first, m.second) refl;
}

pub next_only : (p : ProfileName) (from : Cap) (left word slot base radix index : ℕ) (guard : Guard) (to : Cap) (more next more' : ℕ) → from ≡ CNode base radix guard →
    (r : Option ℕ) → r ≡ Some index → ((i : ℕ) → i < 2 ^ radix → slot ≡ slot_of p base i → r ≡ Some i) → more' ≡ cond (is_cnode to) (left - (guard.size + radix)) 0 →
    Made word guard.size radix left guard.value index → IsNext p from left word slot to more next →
    ◌≡◌ {A = Option (ℕ × ℕ)} (Some (more', word + (guard.value * 2 ^ radix % 2 ^ 64 + index) * 2 ^ (left - (guard.size + radix)) % 2 ^ 64)) (Some (more, next))
next_only p from left word slot base radix index guard to more next more' e r is each bits m n =
    let same : CNode base radix guard ≡ CNode n.base n.radix n.guard = sym e ∙ n.node in
    let base' : n.base ≡ base = cc in
    let radix' : n.radix ≡ radix = cc in
    let guard' : n.guard ≡ guard = cc in
    let found : r ≡ Some n.index = each n.index (rw radix' at n.within) (rw base' at n.chosen) in
    let index' : n.index ≡ index = cc in
    let more_is : more ≡ more' = rw (guard', radix') at n.bits ∙ sym bits in
    let next_is' : next ≡ word + (guard.value * 2 ^ radix + index) * 2 ^ (left - (guard.size + radix)) = rw (guard', radix', index') at n.word in
    rw (m.first, m.second, more_is, next_is') refl

-- where the slots of a CNode lie
pub record Spans (base radix s : ℕ) : Type 0 where
  pub ones : 1 * 2 ^ radix % 2 ^ 64 ≡ 2 ^ radix
  pub some : 1 ≤ 2 ^ radix
  pub shifted : (2 ^ radix - 1) * 2 ^ s % 2 ^ 64 ≡ (2 ^ radix - 1) * 2 ^ s
  pub fits : base + (2 ^ radix - 1) * 2 ^ s < 2 ^ 64

pub spans : (p : ProfileName) (base radix : ℕ) (guard : Guard) → (CNode base radix guard ≡ Null) ⊎ IsLawful p (word_bits p) (CNode base radix guard) → Spans base radix (slot_bits p)
spans p base radix guard lawful =
    let node = lawful_node p (word_bits p) base radix guard lawful in
    let some : 0 < 2 ^ radix = pow_pos radix in
    let last : base + (2 ^ radix - 1 + 1) * slot_size p ≤ 2 ^ word_bits p = slot_within p (word_bits p) base radix (2 ^ radix - 1) guard node (omega arith) in
    let start : base + (2 ^ radix - 1) * slot_size p < 2 ^ word_bits p = starts_within p base (2 ^ radix - 1) (word_bits p) last in
    let most : 2 ^ word_bits p ≤ 2 ^ 64 = pow_mono {i = word_bits p} {j = 64} (words_most p) in
    let small : radix < 64 = radix_small p (word_bits p) base radix guard node in
    let below : 2 ^ radix < 2 ^ 64 = pow_below radix 64 small in
    let one : 1 * 2 ^ radix < 2 ^ 64 = omega arith in
    record {
      ones = mod-eq_of_lt one ∙ omega arith;
      some = some;
      shifted = mod-eq_of_lt (omega (arith, start, most));
      fits = omega (arith, start, most);
    }

-- a slot of a CNode lies between its first one and its last one
pub spanned : (p : ProfileName) (base radix i address : ℕ) → i < 2 ^ radix → address ≡ slot_of p base i → (base ≤ address) × (address ≤ base + (2 ^ radix - 1) * 2 ^ slot_bits p)
spanned p base radix i address low is =
    let most : i * 2 ^ slot_bits p ≤ (2 ^ radix - 1) * 2 ^ slot_bits p = mul-le-mul_right (2 ^ slot_bits p) (omega arith) in
    (omega (arith, is), omega (arith, is, most))

-- a next word is at a slot of the CNode
pub next_inside : (p : ProfileName) (from : Cap) (left word slot : ℕ) (to : Cap) (more next : ℕ) → IsNext p from left word slot to more next → IsSlotOf p from slot
next_inside p from left word slot to more next n = rw n.node (n.index, (n.within, n.chosen))

pub no_slot_of : (p : ProfileName) (cap : Cap) (slot : ℕ) → ((base radix : ℕ) (guard : Guard) → cap ≡ CNode base radix guard → ⊥) → IsSlotOf p cap slot → ⊥
no_slot_of p Null slot none h = h
no_slot_of p (Untyped base bits free) slot none h = h
no_slot_of p (Endpoint base badge rights) slot none h = h
no_slot_of p (CNode base radix guard) slot none h = none base radix guard refl
no_slot_of p (Tcb base) slot none h = h
