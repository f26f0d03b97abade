-- What may stand in a slot of a part: its slots lie in the part, and what is made of it may stand there too.
use Rattle.std.proofs.Common.{◌≡◌, ℕ, ◌+◌, ◌*◌, ◌^◌, ◌<◌, ◌≤◌, inl, inr, Bool, true, false, cond, ◌==◌, nat_le, Some, Ok, ap, subst, ◌∙◌, arith}
use Rattle.std.proofs.Math.Nat.{mul-le-mul_right}
use Rattle.std.proofs.lemmas.Nat.{pow-add, pow_pos}
use Rattle.std.proofs.lemmas.Bool.{eqb-true}
use Rattle.cap_core.specs.declared.profile.ProfileName.{ProfileName}
use Rattle.cap_core.specs.declared.capability.Badge.{Badge}
use Rattle.cap_core.specs.declared.capability.Guard.{Guard}
use Rattle.cap_core.specs.declared.capability.Cap.{Cap}
use Rattle.cap_core.specs.declared.capability.Cap.TheVariants.{Null, Untyped, Endpoint, CNode, Tcb}
use Rattle.cap_core.specs.declared.rights.Rights.{Rights}
use Rattle.cap_core.specs.Numbers.{word_bits, slot_bits, slot_size, tcb_bits}
use Rattle.cap_core.specs.Objects.{base_of, end_of}
use Rattle.cap_core.specs.Minting.{masked, guarded, guard_held, with_data}
use Rattle.cap_core.proofs.Minting.{bit_in_both}
use Rattle.kernel_forest.specs.Forest.{Forest}
use Rattle.kernel_forest.specs.Entries.{Entry}
use Rattle.kernel_forest.specs.Derivation.{with_free}
use Rattle.cspace_core.specs.Resolution.{is_cnode}
use Rattle.cspace_core.specs.Inside.{IsSlotOf}
use Rattle.kernel_abstract.specs.declared.invocation.Change.TheVariants.{Copy, Mint, Move, Mutate}
use Rattle.kernel_abstract.specs.declared.invocation.Change.{Change}
use Rattle.kernel_abstract.specs.declared.reason.Word.TheVariants.{Root, SourceIndex}
use Rattle.kernel_abstract.specs.CNodes.{no_data, ensure_set, ensure_derivable, changed_cap}
use Rattle.kernel_abstract.specs.Threads.{space_cap}
use Rattle.kernel_abstract.proofs.Checks.FoundSlots.{passed, cond_passed, ok_same}
use Rattle.kernel_abstract.proofs.Checks.PassedCNodeChecks.{where_some, set_passed, derivable_passed}
use Rattle.query_parts.specs.Parts.{Parts, IsWithin}

module _ (p : ProfileName) (parts : Parts) (i : ℕ) where
  -- slot n of a CNode starts within its range
  slot_low : (base radix n : ℕ) → n < 2 ^ radix → base + n * slot_size p < base + 2 ^ (slot_bits p + radix)
  slot_low base radix n low =
      let most : (n + 1) * 2 ^ slot_bits p ≤ 2 ^ radix * 2 ^ slot_bits p = mul-le-mul_right (2 ^ slot_bits p) (omega arith) in
      let turned : slot_bits p + radix ≡ radix + slot_bits p = omega arith in
      let size : 2 ^ (radix + slot_bits p) ≡ 2 ^ radix * 2 ^ slot_bits p = pow-add 2 radix (slot_bits p) in
      let size' : 2 ^ (slot_bits p + radix) ≡ 2 ^ radix * 2 ^ slot_bits p = ap (λ k. 2 ^ k) turned ∙ size in
      let more : (n + 1) * 2 ^ slot_bits p ≡ n * 2 ^ slot_bits p + 2 ^ slot_bits p = grind arith in
      omega (arith, pow_pos (slot_bits p))

  -- the slots of a CNode of the part are slots of the part
  pub slot_owned : (cap : Cap) (slot : ℕ) → IsWithin p parts i cap → IsSlotOf p cap slot → parts.part_of slot ≡ Some i
  slot_owned Null slot w s = absurd s
  slot_owned (Untyped base bits free) slot w s = absurd s
  slot_owned (Endpoint base badge rights) slot w s = absurd s
  slot_owned (CNode base radix guard) slot w s =
      let at = s.1.1 in
      let low = slot_low base radix s.0 s.1.0 in
      w slot (omega arith) (omega arith)
  slot_owned (Tcb base) slot w s = absurd s

  -- and so is a thread's root slot
  pub root_owned : (base : ℕ) → IsWithin p parts i (Tcb base) → parts.part_of base ≡ Some i
  root_owned base w = w base (omega arith) (omega (arith, pow_pos (tcb_bits p)))

  -- less rights
  pub within-masked : (rights : Rights) (cap : Cap) → IsWithin p parts i cap → IsWithin p parts i (masked rights cap)
  within-masked rights Null w = w
  within-masked rights (Untyped base bits free) w = w
  within-masked rights (Endpoint base badge had) (inl owned) = inl owned
  within-masked rights (Endpoint base badge had) (inr c) =
      inr (
        c.0,
        (
          c.1.0,
          record {
            endpoint_is = c.1.1.endpoint_is;
            badge_fits = c.1.1.badge_fits;
            rights_fit = λ right has. c.1.1.rights_fit right ((bit_in_both had.0 rights.0 right).0 has).0;
          },
        ),
      )
  within-masked rights (CNode base radix guard) w = w
  within-masked rights (Tcb base) w = w

  -- another guard
  pub within-guarded : (base radix word : ℕ) (guard : Guard) (made : Cap) → IsWithin p parts i (CNode base radix guard) →
      guarded p base radix (guard_held p word) ≡ Some made → IsWithin p parts i made
  within-guarded base radix word guard made w h =
      let set = where_some (nat_le ((guard_held p word).size + radix) (word_bits p)) (CNode base radix (guard_held p word)) made h in
      subst (IsWithin p parts i) set.1 w

  some_same : (a b : Cap) → Some a ≡ Some b → a ≡ b
  some_same a b h = cc

  -- a badge where there was none
  badged : (base word : ℕ) (badge : Badge) (rights : Rights) → badge.0 ≡ 0 → IsWithin p parts i (Endpoint base badge rights) →
      IsWithin p parts i (Endpoint base (record { 0 = word }) rights)
  badged base word badge rights none (inl owned) = inl owned
  badged base word badge rights none (inr c) =
      inr (
        c.0,
        (
          c.1.0,
          record {
            endpoint_is = c.1.1.endpoint_is;
            badge_fits = inr (elim c.1.1.badge_fits [ inl same ↦ same ∙ none | inr any ↦ any ]);
            rights_fit = c.1.1.rights_fit;
          },
        ),
      )

  -- data that is set
  pub within-data : (preserve : Bool) (word : ℕ) (cap made : Cap) → IsWithin p parts i cap → with_data p preserve word cap ≡ Some made →
      IsWithin p parts i made
  within-data preserve word Null made w h = subst (IsWithin p parts i) (some_same Null made h) w
  within-data preserve word (Untyped base bits free) made w h = subst (IsWithin p parts i) (some_same (Untyped base bits free) made h) w
  within-data true word (Endpoint base badge rights) made w h = cc
  within-data false word (Endpoint base badge rights) made w h =
      let set = where_some (badge.0 == 0) _ made h in
      subst (IsWithin p parts i) set.1 (badged base _ badge rights (eqb-true badge.0 0 set.0) w)
  within-data preserve word (CNode base radix guard) made w h = within-guarded base radix word guard made w h
  within-data preserve word (Tcb base) made w h = subst (IsWithin p parts i) (some_same (Tcb base) made h) w

  -- another free index
  pub within-free : (free : ℕ) (cap : Cap) → IsWithin p parts i cap → IsWithin p parts i (with_free free cap)
  within-free free Null w = w
  within-free free (Untyped base bits former) w = w
  within-free free (Endpoint base badge rights) w = w
  within-free free (CNode base radix guard) w = w
  within-free free (Tcb base) w = w

  within-derivable : (f : Forest Entry) (source : ℕ) (cap made : Cap) → IsWithin p parts i cap → ensure_derivable f source cap ≡ Ok made →
      IsWithin p parts i made
  within-derivable f source cap made w h = subst (IsWithin p parts i) (derivable_passed f source cap made h).0 w

  -- what a copy, a mint, a move and a mutate make
  pub within-changed : (f : Forest Entry) (source : ℕ) (change : Change) (cap made : Cap) → IsWithin p parts i cap →
      changed_cap p f source change cap ≡ Ok made → IsWithin p parts i made
  within-changed f source (Copy rights) cap made w h = within-derivable f source (masked rights cap) made (within-masked rights cap w) h
  within-changed f source (Mint rights word) cap made w h =
      let set = passed (ensure_set (no_data p SourceIndex word source cap) (with_data p false word (masked rights cap))) (ensure_derivable f source) made h in
      within-derivable f source set.0 made
      (within-data false word (masked rights cap) set.0 (within-masked rights cap w) (set_passed _ _ set.0 set.1.0)) set.1.1
  within-changed f source Move cap made w h = subst (IsWithin p parts i) (ok_same cap made h) w
  within-changed f source (Mutate word) cap made w h = within-data true word cap made w (set_passed _ _ made h)

  -- the root of a capability space
  pub within-space : (word source : ℕ) (cap made : Cap) → IsWithin p parts i cap → space_cap p word source cap ≡ Ok made → IsWithin p parts i made
  within-space word source cap made w h =
      let node = cond_passed (is_cnode cap) _ _ made h in
      by (word == 0) node.1
    where
      by : (none : Bool) → cond none (Ok cap) (ensure_set (no_data p Root word source cap) (with_data p false word cap)) ≡ Ok made → IsWithin p parts i made
      by true e = subst (IsWithin p parts i) (ok_same cap made e) w
      by false e = within-data false word cap made w (set_passed _ _ made e)

  -- an object within a region of the part
  pub owned_within : (base bits free : ℕ) (cap : Cap) → IsWithin p parts i (Untyped base bits free) → base ≤ base_of cap →
      end_of p cap ≤ base + 2 ^ bits → IsWithin p parts i cap
  owned_within base bits free Null w low high = tt
  owned_within base bits free (Untyped b k u) w low high = λ a from to. w a (omega arith) (omega arith)
  owned_within base bits free (Endpoint b badge rights) w low high = inl (λ a from to. w a (omega arith) (omega arith))
  owned_within base bits free (CNode b radix guard) w low high = λ a from to. w a (omega arith) (omega arith)
  owned_within base bits free (Tcb b) w low high = λ a from to. w a (omega arith) (omega arith)
