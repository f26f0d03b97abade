-- What a copy, a mint, a move and a mutate do that passed their checks.
use Rattle.std.proofs.Common.{◌≡◌, ℕ, ◌+◌, ◌/◌, ◌^◌, ◌⊎◌, inl, inr, Bool, true, false, cond, nat_le, ◌==◌, Option, Some, None, Ok, All, refl, sym, ap, subst, ◌∙◌, eq-eqb}
use Rattle.std.proofs.lemmas.Bool.{false≢true, and_from, leb-true, eqb-true}
use Rattle.std.proofs.lemmas.Nat.{mod_below, pow_pos}
use Rattle.cap_core.specs.declared.profile.ProfileName.{ProfileName}
use Rattle.cap_core.specs.declared.rights.Rights.{Rights}
use Rattle.cap_core.specs.declared.capability.Guard.{Guard}
use Rattle.cap_core.specs.declared.capability.Cap.{Cap}
use Rattle.cap_core.specs.declared.capability.Cap.TheVariants.{Null, Untyped, Endpoint, CNode, Tcb}
use Rattle.cap_core.specs.Numbers.{word_bits, guard_size_bits}
use Rattle.cap_core.specs.Objects.{is_null, is_untyped, badge_of, IsLawful}
use Rattle.cap_core.specs.Minting.{masked, guard_held, guarded, with_data}
use Rattle.kernel_forest.specs.Forest.{Forest}
use Rattle.kernel_forest.specs.Entries.{Entry, caps, cap_at, first_child}
use Rattle.kernel_forest.specs.Derivation.{names_same}
use Rattle.cap_core.specs.declared.capability.Kind.TheVariants as kind
use Rattle.kernel_abstract.specs.declared.invocation.Change.{Change}
use Rattle.kernel_abstract.specs.declared.invocation.Change.TheVariants.{Copy, Mint, Move, Mutate}
use Rattle.kernel_abstract.specs.declared.invocation.CapPlacement.{CapPlacement}
use Rattle.kernel_abstract.specs.declared.invocation.SlotArguments.{SlotArguments}
use Rattle.kernel_abstract.specs.Regions.{free_of}
use Rattle.kernel_abstract.specs.Memory.{IsSlotAddress}
use Rattle.kernel_abstract.specs.declared.reason.Word.TheVariants.{SourceRoot, Index, SourceIndex}
use Rattle.kernel_abstract.specs.declared.reason.Reason.{Reason}
use Rattle.kernel_abstract.specs.Reasons.{held_at}
use Rattle.kernel_abstract.specs.Lookups.{slot_by_word, slot_by_index, of_kind, ensure_empty, ensure_full}
use Rattle.kernel_abstract.specs.CNodes.{no_data, ensure_set, ensure_childless, ensure_derivable, changed_cap, checked_placement}
use Rattle.kernel_abstract.specs.Private.Invocations.{IsPlacement, IsDerivation, IsMove}
use Rattle.kernel_delete.specs.Housed.{is_housed}
use Rattle.kernel_abstract.proofs.Checks.Walked.{index_passed}
use Rattle.kernel_abstract.proofs.Checks.FoundSlots.{passed, ok_same, lawful_at, lawful_full, empty_at, full_at, empty_passed, full_passed, target_passed}
use Rattle.kernel_abstract.proofs.Housed.FoundSlots.{target_housed}

-- a new capability of the object that another names, as lawful as that one
pub record IsRemade (p : ProfileName) (cap made : Cap) : Type 0 where
  pub same : names_same cap made ≡ true
  pub lawful : (memory : ℕ) → IsLawful p memory cap → IsLawful p memory made

itself : (a : ℕ) → (a == a) ≡ true
itself a = eq-eqb a a refl

masked_remade : (p : ProfileName) (rights : Rights) (cap : Cap) → is_null cap ≡ false → IsRemade p cap (masked rights cap)
masked_remade p rights Null full = absurd (false≢true (sym full))
masked_remade p rights (Untyped base bits free) full = record { same = and_from _ _ (itself base) (itself bits); lawful = λ memory l. l }
masked_remade p rights (Endpoint base badge had) full = record {
  same = itself base;
  lawful = λ memory l. record { full = refl; placed = record { aligned = l.placed.aligned; within = l.placed.within; addressed = l.placed.addressed }; holds = tt };
}
masked_remade p rights (CNode base radix guard) full = record { same = and_from _ _ (itself base) (itself radix); lawful = λ memory l. l }
masked_remade p rights (Tcb base) full = record { same = itself base; lawful = λ memory l. l }

pub itself_remade : (p : ProfileName) (cap : Cap) → is_null cap ≡ false → IsRemade p cap cap
itself_remade p Null full = absurd (false≢true (sym full))
itself_remade p (Untyped base bits free) full = record { same = and_from _ _ (itself base) (itself bits); lawful = λ memory l. l }
itself_remade p (Endpoint base badge had) full = record { same = itself base; lawful = λ memory l. l }
itself_remade p (CNode base radix guard) full = record { same = and_from _ _ (itself base) (itself radix); lawful = λ memory l. l }
itself_remade p (Tcb base) full = record { same = itself base; lawful = λ memory l. l }

some_same : (a b : Cap) → Some a ≡ Some b → a ≡ b
some_same a b h = cc

pub where_some : (t : Bool) (a b : Cap) → cond t (Some a) None ≡ Some b → (t ≡ true) × (a ≡ b)
where_some true a b h = (refl, some_same a b h)
where_some false a b h = cc

pub guarded_remade : (p : ProfileName) (base radix word : ℕ) (guard : Guard) (made : Cap) →
    guarded p base radix (guard_held p word) ≡ Some made → IsRemade p (CNode base radix guard) made
guarded_remade p base radix word guard made h =
    let held = guard_held p word in
    let set = where_some (nat_le (held.size + radix) (word_bits p)) (CNode base radix held) made h in
    subst (IsRemade p (CNode base radix guard)) set.1
    (record {
      same = and_from _ _ (itself base) (itself radix);
      lawful = λ memory l. record {
        full = refl;
        placed = record { aligned = l.placed.aligned; within = l.placed.within; addressed = l.placed.addressed };
        holds = record {
          some = l.holds.some;
          both = leb-true (held.size + radix) (word_bits p) set.0;
          cut = mod_below (word / 2 ^ guard_size_bits p) (2 ^ held.size) (pow_pos held.size);
        };
      };
    })

-- the badge is kept, or was none
IsBadged : Cap → Cap → Type 0
IsBadged cap made = (badge_of made ≡ badge_of cap) ⊎ (badge_of cap ≡ 0)

masked_badge : (rights : Rights) (cap : Cap) → IsBadged cap (masked rights cap)
unfolding IsBadged
masked_badge rights Null = inl refl
masked_badge rights (Untyped base bits free) = inl refl
masked_badge rights (Endpoint base badge had) = inl refl
masked_badge rights (CNode base radix guard) = inl refl
masked_badge rights (Tcb base) = inl refl

minted : (p : ProfileName) (word : ℕ) (rights : Rights) (cap made : Cap) → is_null cap ≡ false → with_data p false word (masked rights cap) ≡ Some made →
    IsRemade p cap made × IsBadged cap made
unfolding IsBadged
minted p word rights Null made full h = absurd (false≢true (sym full))
minted p word rights (Untyped base bits free) made full h =
    (subst (IsRemade p (Untyped base bits free)) (some_same _ made h) (itself_remade p (Untyped base bits free) refl), inr refl)
minted p word rights (Endpoint base badge had) made full h =
    let set = where_some (badge.0 == 0) _ made h in (
      subst (IsRemade p (Endpoint base badge had)) set.1
          (record {
            same = itself base;
            lawful = λ memory l. record { full = refl; placed = record { aligned = l.placed.aligned; within = l.placed.within; addressed = l.placed.addressed }; holds = tt };
          }),
      inr (eqb-true badge.0 0 set.0),
    )
minted p word rights (CNode base radix guard) made full h = (guarded_remade p base radix word guard made h, inr refl)
minted p word rights (Tcb base) made full h = (subst (IsRemade p (Tcb base)) (some_same _ made h) (itself_remade p (Tcb base) refl), inr refl)

-- a move keeps the badge, and how much of an untyped region is used
record IsKept (cap made : Cap) : Type 0 where
  badge : badge_of made ≡ badge_of cap
  free : free_of made ≡ free_of cap

kept_same : (cap made : Cap) → cap ≡ made → IsKept cap made
kept_same cap made same = record { badge = sym (ap badge_of same); free = sym (ap free_of same) }

mutated : (p : ProfileName) (word : ℕ) (cap made : Cap) → is_null cap ≡ false → with_data p true word cap ≡ Some made →
    IsRemade p cap made × IsKept cap made
mutated p word Null made full h = absurd (false≢true (sym full))
mutated p word (Untyped base bits free) made full h =
    let same = some_same (Untyped base bits free) made h in
    (subst (IsRemade p (Untyped base bits free)) same (itself_remade p (Untyped base bits free) refl), kept_same (Untyped base bits free) made same)
mutated p word (Endpoint base badge had) made full h = cc
mutated p word (CNode base radix guard) made full h =
    let set = where_some (nat_le ((guard_held p word).size + radix) (word_bits p)) (CNode base radix (guard_held p word)) made h in
    (guarded_remade p base radix word guard made h, record { badge = sym (ap badge_of set.1); free = sym (ap free_of set.1) })
mutated p word (Tcb base) made full h =
    let same = some_same (Tcb base) made h in
    (subst (IsRemade p (Tcb base)) same (itself_remade p (Tcb base) refl), kept_same (Tcb base) made same)

pub set_passed : (reason : Reason) (o : Option Cap) (cap : Cap) → ensure_set reason o ≡ Ok cap → o ≡ Some cap
set_passed reason (Some made) cap h = ap Some (ok_same made cap h)
set_passed reason None cap h = cc

-- an untyped capability is derived from one that has no children
pub derivable_passed : (f : Forest Entry) (source : ℕ) (cap made : Cap) → ensure_derivable f source cap ≡ Ok made →
    (cap ≡ made) × (is_untyped made ≡ true → first_child source f ≡ None)
derivable_passed f source cap made h = by (is_untyped cap) (first_child source f) refl h
  where
    by : (untyped : Bool) (child : Option ℕ) → is_untyped cap ≡ untyped →
        cond untyped (ensure_childless (held_at (cap_at f) source) cap child) (Ok cap) ≡ Ok made →
        (cap ≡ made) × (is_untyped made ≡ true → child ≡ None)
    by true None is h = (ok_same cap made h, λ untyped. refl)
    by true (Some child) is h = cc
    by false child is h =
        let same = ok_same cap made h in
        (same, λ untyped. absurd (false≢true (sym is ∙ ap is_untyped same ∙ untyped)))

-- what comes of a change that derives, and of one that moves
record IsChanged (p : ProfileName) (f : Forest Entry) (source : ℕ) (cap made : Cap) : Type 0 where
  remade : IsRemade p cap made
  badge : IsBadged cap made
  childless : is_untyped made ≡ true → first_child source f ≡ None

copied : (p : ProfileName) (f : Forest Entry) (source : ℕ) (rights : Rights) (cap made : Cap) → is_null cap ≡ false →
    changed_cap p f source (Copy rights) cap ≡ Ok made → IsChanged p f source cap made
copied p f source rights cap made full h =
    let derivable = derivable_passed f source (masked rights cap) made h in
    record {
      remade = subst (IsRemade p cap) derivable.0 (masked_remade p rights cap full);
      badge = subst (IsBadged cap) derivable.0 (masked_badge rights cap);
      childless = derivable.1;
    }

minted_changed : (p : ProfileName) (f : Forest Entry) (source : ℕ) (rights : Rights) (word : ℕ) (cap made : Cap) → is_null cap ≡ false →
    changed_cap p f source (Mint rights word) cap ≡ Ok made → IsChanged p f source cap made
minted_changed p f source rights word cap made full h =
    let set = passed (ensure_set (no_data p SourceIndex word source cap) (with_data p false word (masked rights cap))) (ensure_derivable f source) made h in
    let derivable = derivable_passed f source set.0 made set.1.1 in
    let is : with_data p false word (masked rights cap) ≡ Some made = set_passed _ _ set.0 set.1.0 ∙ ap Some derivable.0 in
    let new = minted p word rights cap made full is in
    record { remade = new.0; badge = new.1; childless = derivable.1 }

-- the slots and the capability that a placement's checks find
record IsFound (p : ProfileName) (f : Forest Entry) (change : Change) (placement : CapPlacement) : Type 0 where
  full : is_null (cap_at f placement.source) ≡ false
  empty : is_null (cap_at f placement.slot) ≡ true
  placed : (memory : ℕ) → All (IsLawful p memory) (caps f) → IsSlotAddress p memory placement.slot
  housed : is_housed p f placement.slot ≡ true
  changed : changed_cap p f placement.source change (cap_at f placement.source) ≡ Ok placement.cap

placement_found : (p : ProfileName) (f : Forest Entry) (thread slot : ℕ) (asked : SlotArguments) (change : Change) (placement : CapPlacement) →
    checked_placement p f thread slot asked change ≡ Ok placement → IsFound p f change placement
placement_found p f thread slot asked change placement h =
    let node = passed (of_kind kind.CNode (held_at (cap_at f) slot)) _ placement h in
    let root = passed (slot_by_word p f SourceRoot thread asked.src_root) _ placement node.1.1 in
    let target = passed (ensure_empty f (slot_by_index p (cap_at f) Index slot asked.index asked.depth)) _ placement root.1.1 in
    let source = passed (ensure_full f (slot_by_index p (cap_at f) SourceIndex root.0 asked.src_index asked.src_depth)) _ placement target.1.1 in
    let made = passed (changed_cap p f source.0 change (cap_at f source.0)) _ placement source.1.1 in
    let found : CapPlacement = record { source = source.0; slot = target.0; cap = made.0 } in
    let same : found ≡ placement = ok_same found placement made.1.1 in
    let empty = empty_passed f _ target.0 target.1.0 in
    let named = index_passed p (cap_at f) Index slot asked.index asked.depth target.0 empty.1 in
    subst (IsFound p f change) same
    (record {
      full = full_passed f _ source.0 source.1.0;
      empty = empty.0;
      placed = λ memory all. target_passed p memory f (cap_at f slot) asked.index asked.depth target.0 all (lawful_at p memory f all slot) named;
      housed = target_housed p f slot (cap_at f slot) asked.index asked.depth target.0 refl named;
      changed = made.1.0;
    })

placement_passed : (p : ProfileName) (memory : ℕ) (f : Forest Entry) (change : Change) (placement : CapPlacement) → All (IsLawful p memory) (caps f) →
    IsFound p f change placement → IsRemade p (cap_at f placement.source) placement.cap → IsPlacement p f placement
placement_passed p memory f change placement all found remade = record {
  full = full_at f placement.source found.full;
  empty = empty_at p memory f all placement.slot found.empty;
  placed = found.placed;
  housed = found.housed;
  lawful = λ m lawful. remade.lawful m (lawful_full p m (cap_at f placement.source) found.full (lawful_at p m f lawful placement.source));
  same = remade.same;
}

derivation_found : (p : ProfileName) (memory : ℕ) (f : Forest Entry) (change : Change) (placement : CapPlacement) → All (IsLawful p memory) (caps f) →
    IsFound p f change placement → IsChanged p f placement.source (cap_at f placement.source) placement.cap → IsDerivation p f placement
unfolding IsBadged
derivation_found p memory f change placement all found is =
    record { ends = placement_passed p memory f change placement all found is.remade; badge = is.badge; childless = is.childless }

module _ (p : ProfileName) (memory : ℕ) (f : Forest Entry) (all : All (IsLawful p memory) (caps f)) (thread slot : ℕ) (asked : SlotArguments) (placement : CapPlacement) where
  pub copy_derives : (rights : Rights) → checked_placement p f thread slot asked (Copy rights) ≡ Ok placement → IsDerivation p f placement
  copy_derives rights h =
      let found = placement_found p f thread slot asked (Copy rights) placement h in
      derivation_found p memory f (Copy rights) placement all found (copied p f placement.source rights _ placement.cap found.full found.changed)

  pub mint_derives : (rights : Rights) (word : ℕ) → checked_placement p f thread slot asked (Mint rights word) ≡ Ok placement → IsDerivation p f placement
  mint_derives rights word h =
      let found = placement_found p f thread slot asked (Mint rights word) placement h in
      derivation_found p memory f (Mint rights word) placement all found (minted_changed p f placement.source rights word _ placement.cap found.full found.changed)

  pub move_moves : checked_placement p f thread slot asked Move ≡ Ok placement → IsMove p f placement
  move_moves h =
      let found = placement_found p f thread slot asked Move placement h in
      let same : cap_at f placement.source ≡ placement.cap = ok_same _ placement.cap found.changed in
      record {
        ends = placement_passed p memory f Move placement all found (subst (IsRemade p (cap_at f placement.source)) same (itself_remade p _ found.full));
        badge = sym (ap badge_of same);
        free = sym (ap free_of same);
      }

  pub mutate_moves : (word : ℕ) → checked_placement p f thread slot asked (Mutate word) ≡ Ok placement → IsMove p f placement
  mutate_moves word h =
      let found = placement_found p f thread slot asked (Mutate word) placement h in
      let new = mutated p word (cap_at f placement.source) placement.cap found.full (set_passed _ _ placement.cap found.changed) in
      record { ends = placement_passed p memory f (Mutate word) placement all found new.0; badge = new.1.badge; free = new.1.free }
