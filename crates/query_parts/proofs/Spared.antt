-- Which slots outside a part are emptied: those of its own objects, and of endpoints that it may use.
use Rattle.std.proofs.Common.{◌≡◌, ℕ, zero, suc, ◌+◌, ◌^◌, ◌≤◌, ◌⊎◌, inl, inr, Bool, true, false, cond, not, nat_le, ◌==◌, ◌||◌, List, [], ◌∷◌, filter, length, Option, Some, None, eqb, refl, sym, ap, subst, ◌∙◌, arith}
use Rattle.std.specs.List.{AllByRecursion as Each, Contains, IsDistinct}
use Rattle.std.proofs.lemmas.Bool.{false≢true, eqb-true, leb-true, and_parts}
use Rattle.cap_core.specs.declared.profile.ProfileName.{ProfileName}
use Rattle.cap_core.specs.declared.capability.Cap.{Cap}
use Rattle.cap_core.specs.declared.capability.Cap.TheVariants.{Null, Untyped, Endpoint, CNode, Tcb}
use Rattle.cap_core.specs.Kinds.{new_cap}
use Rattle.mem_core.specs.Plans.{object_at}
use Rattle.cap_core.specs.Objects.{is_null, is_untyped, bits_of, same_object, in_region, contains, base_of, end_of}
use Rattle.kernel_forest.specs.Forest.{Forest, none, tree, preorder, descendants, tops, below_those}
use Rattle.kernel_forest.specs.Entries.{Entry, is_at, slots, cap_in, cap_at, is_full, first_slot, first_child}
use Rattle.kernel_forest.specs.Slots.{slots_of}
use Rattle.kernel_forest.proofs.Slots.Edits.{entry_at}
use Rattle.kernel_forest.specs.Derivation.{derived, freed, retyped}
use Rattle.kernel_forest.proofs.Slots.Holding.{cap-entry, none_stands}
use Rattle.kernel_forest.proofs.Slots.Edits.{cap-derived_other}
use Rattle.kernel_forest.proofs.Slots.Freed.{cap-freed_other}
use Rattle.kernel_forest.proofs.Slots.Moved.{cap-moved_other}
use Rattle.kernel_forest.proofs.Slots.Retyped.{cap-retyped_other}
use Rattle.kernel_forest.proofs.Trees.Built.{below_those_none}
use Rattle.kernel_abstract.proofs.Capabilities.Descendants.{contains-below_those}
use Rattle.kernel_delete.proofs.Revoking.{revoked_none, revoked_some, child_or_none}
use Rattle.cspace_core.specs.Resolution.{slot_of}
use Rattle.kernel_abstract.specs.declared.invocation.NewObjects.{NewObjects}
use Rattle.kernel_abstract.specs.declared.invocation.NewSpace.{NewSpace}
use Rattle.kernel_abstract.specs.declared.invocation.CapPlacement.{CapPlacement}
use Rattle.kernel_abstract.specs.Retyping.{new_caps, with_new, with_objects}
use Rattle.kernel_abstract.specs.CNodes.{with_derived, with_moved}
use Rattle.kernel_abstract.specs.Threads.{with_space}
use Rattle.kernel_abstract.specs.Private.Invocations.{IsSpace}
use Rattle.kernel_abstract.specs.Private.Stores.{IsKernelStore}
use Rattle.kernel_abstract.proofs.Capabilities.StoresCleared.{store-clear}
use Rattle.kernel_abstract.proofs.Capabilities.SpacesSet.{space_kept}
use Rattle.kernel_abstract.proofs.Retype.RetypedForest.{each-range}
use Rattle.kernel_delete.specs.Members.{In}
use Rattle.kernel_delete.specs.Least.{full, has_all, cleared}
use Rattle.kernel_delete.specs.Least.{IsClosed as IsClosedSet}
use Rattle.kernel_delete.specs.Clear.{clear}
use Rattle.kernel_delete.specs.Revoke.{revoke, revoked}
use Rattle.kernel_delete.proofs.Members.{all_in, each_of, tells, either_true, true_left, true_right, eqb_self}
use Rattle.kernel_delete.proofs.Objects.{has_self}
use Rattle.kernel_delete.proofs.Ranges.{slot_in_range}
use Rattle.kernel_delete.proofs.Rounds.{cleared_least}
use Rattle.kernel_delete.proofs.Without.{preorder-without}
use Rattle.kernel_delete.proofs.Clearable.{in_contains}
use Rattle.query_parts.proofs.Changes.{IsChange, change_closed, unchanged, change-clear}
use Rattle.query_parts.proofs.Passed.{IsPlacedIn, IsMadeIn, IsSpaceIn}
use Rattle.query_parts.specs.Parts.{Parts, IsOwned, IsWithin, IsClosed, IsNear, IsSpared}

-- whether an address lies in a part
is_mine : ℕ → Option ℕ → Bool
is_mine i None = false
is_mine i (Some j) = j == i

mine_is : (i : ℕ) (o : Option ℕ) → is_mine i o ≡ true → o ≡ Some i
unfolding is_mine
mine_is i None h = absurd (false≢true h)
mine_is i (Some j) h = ap Some (eqb-true j i h)

is_is_mine : (i : ℕ) (o : Option ℕ) → o ≡ Some i → is_mine i o ≡ true
unfolding is_mine
is_is_mine i o h = ap (is_mine i) h ∙ eqb_self i

-- what a list holds less those that leave: as before, or nothing
left_in : (t : ℕ → Bool) (n : ℕ) (l : List Entry) → t n ≡ false → cap_in n (filter (λ (e : Entry). not (t e.slot)) l) ≡ cap_in n l
left_in t n [] h = refl
left_in t n (e ∷ l) h =
    (elim (t e.slot) as (λ b. t e.slot ≡ b → cap_in n (cond (not b) (e ∷ filter (λ (x : Entry). not (t x.slot)) l) (filter (λ (x : Entry). not (t x.slot)) l)) ≡ cond (e.slot == n) e.cap (cap_in n l)) [
      | true ↦ λ gone.
          (elim (e.slot == n) as (λ b. (e.slot == n) ≡ b → cap_in n (filter (λ (x : Entry). not (t x.slot)) l) ≡ cond b e.cap (cap_in n l)) [
            | true ↦ λ at. absurd (false≢true (sym h ∙ ap t (sym (eqb-true e.slot n at)) ∙ gone))
            | false ↦ λ other. left_in t n l h
          ]) refl
      | false ↦ λ stays. ap (λ c. cond (e.slot == n) e.cap c) (left_in t n l h)
    ]) refl

module _ (p : ProfileName) (parts : Parts) (i : ℕ) where
  pub within_near : (cap : Cap) → IsWithin p parts i cap → IsNear p parts i cap
  within_near Null w = tt
  within_near (Untyped base bits free) w = w
  within_near (Endpoint base badge rights) (inl owned) = inl owned
  within_near (Endpoint base badge rights) (inr c) = inr (c.0, (c.1.0, c.1.1.endpoint_is))
  within_near (CNode base radix guard) w = w
  within_near (Tcb base) w = w

  -- the slots of an object that is near lie in the part
  near_slots : (cap : Cap) (n : ℕ) → IsNear p parts i cap → In n (slots_of p cap) → parts.part_of n ≡ Some i
  unfolding slots_of
  near_slots Null n w s = absurd s
  near_slots (Untyped base bits free) n w s = absurd s
  near_slots (Endpoint base badge rights) n w s = absurd s
  near_slots (CNode base radix guard) n w s =
      let range = slot_in_range p (CNode base radix guard) n s in w n range.0 range.1
  near_slots (Tcb base) n w s =
      let range = slot_in_range p (Tcb base) n s in w n range.0 range.1

  -- what stands in the region of what may stand in the part is near
  in_untyped : (base bits free : ℕ) (b : Cap) → IsWithin p parts i (Untyped base bits free) →
      base ≤ base_of b → end_of p b ≤ base + 2 ^ bits → IsNear p parts i b
  in_untyped base bits free Null w low high = tt
  in_untyped base bits free (Untyped c k u) w low high = λ a from to. w a (omega arith) (omega arith)
  in_untyped base bits free (Endpoint c badge rights) w low high = inl (λ a from to. w a (omega arith) (omega arith))
  in_untyped base bits free (CNode c radix guard) w low high = λ a from to. w a (omega arith) (omega arith)
  in_untyped base bits free (Tcb c) w low high = λ a from to. w a (omega arith) (omega arith)

  pub region_near : (a b : Cap) → IsWithin p parts i a → in_region p a b ≡ true → IsNear p parts i b
  region_near (Untyped base bits free) b w h =
      let both = and_parts (not (is_null b)) (contains p (Untyped base bits free) b) h in
      let range = and_parts (nat_le base (base_of b)) (nat_le (end_of p b) (base + 2 ^ bits)) both.1 in
      in_untyped base bits free b w (leb-true _ _ range.0) (leb-true _ _ range.1)
  region_near Null b w h = absurd (false≢true h)
  region_near (Endpoint base badge rights) Null w h = tt
  region_near (Endpoint base badge rights) (Untyped c k u) w h = absurd (false≢true h)
  region_near (Endpoint base badge rights) (Endpoint c badge' rights') (inl owned) h =
      let same = eqb-true base c h in inl (subst (λ (n : ℕ). IsOwned p parts i (Endpoint n badge' rights')) same owned)
  region_near (Endpoint base badge rights) (Endpoint c badge' rights') (inr u) h =
      let same = eqb-true base c h in inr (u.0, (u.1.0, u.1.1.endpoint_is ∙ same))
  region_near (Endpoint base badge rights) (CNode c radix guard) w h = absurd (false≢true h)
  region_near (Endpoint base badge rights) (Tcb c) w h = absurd (false≢true h)
  region_near (CNode base radix guard) Null w h = tt
  region_near (CNode base radix guard) (Untyped c k u) w h = absurd (false≢true h)
  region_near (CNode base radix guard) (Endpoint c badge rights) w h = absurd (false≢true h)
  region_near (CNode base radix guard) (CNode c radix' guard') w h =
      let both = and_parts (base == c) (radix == radix') h in
      let same = eqb-true base c both.0 in
      let size = eqb-true radix radix' both.1 in
      subst (λ (n : ℕ). IsOwned p parts i (CNode n radix' guard')) same
      (subst (λ (k : ℕ). IsOwned p parts i (CNode base k guard')) size w)
  region_near (CNode base radix guard) (Tcb c) w h = absurd (false≢true h)
  region_near (Tcb base) Null w h = tt
  region_near (Tcb base) (Untyped c k u) w h = absurd (false≢true h)
  region_near (Tcb base) (Endpoint c badge rights) w h = absurd (false≢true h)
  region_near (Tcb base) (CNode c radix guard) w h = absurd (false≢true h)
  region_near (Tcb base) (Tcb c) w h = subst (λ (n : ℕ). IsOwned p parts i (Tcb n)) (eqb-true base c h) w

  -- a slot is cleared whose capability is near
  module _ (f : Forest Entry) (distinct : IsDistinct eqb (slots f)) (closed : IsClosed p parts i f) (c : ℕ) (near : IsNear p parts i (cap_at f c)) where
    may_go : ℕ → Bool
    may_go n = (n == c) || is_mine i (parts.part_of n)

    gone_near : (n : ℕ) → may_go n ≡ true → IsNear p parts i (cap_at f n)
    unfolding may_go
    gone_near n h = elim (either_true (n == c) (is_mine i (parts.part_of n)) h) [
      | inl at ↦ subst (λ m. IsNear p parts i (cap_at f m)) (sym (eqb-true n c at)) near
      | inr own ↦ within_near (cap_at f n) (closed n (mine_is i (parts.part_of n) own))
    ]

    may_go_closed : IsClosedSet p (preorder f) may_go
    unfolding may_go
    may_go_closed =
        each_of (λ (a : Entry). has_all (preorder f) may_go a ≡ true → Each (λ n. full (preorder f) n ≡ true → may_go n ≡ true) (slots_of p a.cap))
        (preorder f)
        (λ a m all. each_of (λ n. full (preorder f) n ≡ true → may_go n ≡ true) (slots_of p a.cap)
        (λ n s is_full. true_right (n == c) (is_mine i (parts.part_of n)) (is_is_mine i (parts.part_of n) (near_slots a.cap n (of_it a m all n s) s))))
      where
        implied : (b d : Bool) → b ≡ true → (not b || d) ≡ true → d ≡ true
        implied true d e h = h
        implied false d e h = absurd (false≢true e)

        of_it : (a : Entry) → In a (preorder f) → has_all (preorder f) may_go a ≡ true → (n : ℕ) → In n (slots_of p a.cap) → IsNear p parts i a.cap
        of_it a m all n s =
            let goes = all_in (λ (b : Entry). not (same_object a.cap b.cap) || may_go b.slot) (preorder f) a all m in
            subst (IsNear p parts i) (cap-entry f a distinct (in_contains (preorder f) a m))
            (gone_near a.slot (implied (same_object a.cap a.cap) (may_go a.slot) (has_self p a.cap n s) goes))

    -- what is cleared is this slot, or a slot of the part
    pub kept-clear : (n : ℕ) → (n ≡ c → ⊥) → (parts.part_of n ≡ Some i → ⊥) → cap_at (clear p c f) n ≡ cap_at f n
    unfolding may_go
    kept-clear n other outside = elim (tells (cleared p (preorder f) c n)) [
      | inl gone ↦ absurd (elim (either_true (n == c) (is_mine i (parts.part_of n))
          ((cleared_least p (preorder f) c).least may_go (λ h. true_left (c == c) _ (eqb_self c)) may_go_closed n gone)) [
            | inl at ↦ other (eqb-true n c at)
            | inr own ↦ outside (mine_is i (parts.part_of n) own)
          ])
      | inr stays ↦ ap (cap_in n) (preorder-without (λ (e : Entry). cleared p (preorder f) c e.slot) f) ∙ left_in (cleared p (preorder f) c) n (preorder f) stays
    ]

    pub spared-clear : (n : ℕ) → (cap_at (clear p c f) n ≡ cap_at f n) ⊎ IsNear p parts i (cap_at f n)
    unfolding may_go
    spared-clear n = elim (tells (cleared p (preorder f) c n)) [
      | inl gone ↦ inr (gone_near n ((cleared_least p (preorder f) c).least may_go (λ h. true_left (c == c) _ (eqb_self c)) may_go_closed n gone))
      | inr stays ↦ inl (ap (cap_in n) (preorder-without (λ (e : Entry). cleared p (preorder f) c e.slot) f) ∙ left_in (cleared p (preorder f) c) n (preorder f) stays)
    ]

-- the first of the trees below a slot
pub child_below : (h : Forest Entry) (c : ℕ) → first_slot (tops h) ≡ Some c → (d : Entry) × (In d (preorder h) × (d.slot ≡ c))
child_below none c e = cc
child_below (tree b k r) c e = (b, (inl refl, cc))

-- capabilities that are put leave the other slots
other-with_new : (untyped a : ℕ) (puts : List (ℕ × Cap)) (f : Forest Entry) → Each (λ (put : ℕ × Cap). a ≡ put.0 → ⊥) puts →
    cap_at (with_new untyped puts f) a ≡ cap_at f a
other-with_new untyped a [] f h = refl
other-with_new untyped a (put ∷ puts) f h =
    other-with_new untyped a puts (retyped untyped put.0 put.1 f) h.1 ∙ cap-retyped_other a untyped put.0 put.1 f h.0

module _ (p : ProfileName) (parts : Parts) (i memory : ℕ) (f : Forest Entry) (store : IsKernelStore p memory f) (closed : IsClosed p parts i f) where
  -- a slot outside the part is none of its slots
  pub apart : (slot own : ℕ) → (parts.part_of slot ≡ Some i → ⊥) → parts.part_of own ≡ Some i → slot ≡ own → ⊥
  apart slot own other mine same = other (subst (λ n. parts.part_of n ≡ Some i) (sym same) mine)

  -- a slot of the part is cleared
  spared-own : (c : ℕ) → parts.part_of c ≡ Some i → IsSpared p parts i f (clear p c f)
  spared-own c own slot other =
      spared-clear p parts i f store.slots_distinct closed c (within_near p parts i (cap_at f c) (closed c own)) slot

  -- the first child of a slot of the part
  pub child_near : (s c : ℕ) → parts.part_of s ≡ Some i → first_child s f ≡ Some c → IsNear p parts i (cap_at f c)
  child_near s c own e =
      let d = child_below (below_those (is_at s) f) c e in
      elim (tells (is_full s f)) [
        | inl is_full ↦
            let a : (a : Entry) × Contains (preorder f) a × (a.slot ≡ s) × (a.cap ≡ cap_at f s) = entry_at s f is_full in
            let under : Contains (descendants (is_at s) f) d.0 = in_contains (descendants (is_at s) f) d.0 d.1.0 in
            let region = store.regions.below a.0 d.0 a.1 (subst (λ n. Contains (descendants (is_at n) f) d.0) (sym a.2) under) in
            let near = region_near p parts i a.0.cap d.0.cap (subst (IsWithin p parts i) (sym a.3) (closed s own)) region in
            let held = cap-entry f d.0 store.slots_distinct (contains-below_those (is_at s) f d.0 under) in
            subst (IsNear p parts i) (sym held ∙ ap (cap_at f) d.1.1) near
        | inr empty ↦
            absurd (subst (λ (h : Forest Entry). In d.0 (preorder h)) (below_those_none (is_at s) f (none_stands s (preorder f) empty)) d.1.0)
      ]

  pub spared-delete : (slot : ℕ) → parts.part_of slot ≡ Some i → IsSpared p parts i f (clear p slot f)
  spared-delete slot own = spared-own slot own

  same_spared : IsSpared p parts i f f
  same_spared slot other = inl refl

  pub same-derived : (placement : CapPlacement) → IsPlacedIn p parts i placement → (slot : ℕ) → (parts.part_of slot ≡ Some i → ⊥) →
      cap_at (with_derived p placement f) slot ≡ cap_at f slot
  same-derived placement is slot other =
      (elim (is_untyped placement.cap) as (λ b. cap_at (cond b (freed placement.source (2 ^ bits_of p placement.cap) put) put) slot ≡ cap_at f slot) [
        | true ↦ cap-freed_other slot placement.source (2 ^ bits_of p placement.cap) put (apart slot placement.source other is.source) ∙ put_same
        | false ↦ put_same
      ])
    where
      put : Forest Entry
      put = derived placement.source placement.slot placement.cap f

      put_same : cap_at put slot ≡ cap_at f slot
      put_same = cap-derived_other slot placement.source placement.slot placement.cap f (apart slot placement.slot other is.slot)

  pub spared-derived : (placement : CapPlacement) → IsPlacedIn p parts i placement → IsSpared p parts i f (with_derived p placement f)
  spared-derived placement is slot other = inl (same-derived placement is slot other)

  pub same-moved : (placement : CapPlacement) → IsPlacedIn p parts i placement → (slot : ℕ) → (parts.part_of slot ≡ Some i → ⊥) →
      cap_at (with_moved placement f) slot ≡ cap_at f slot
  same-moved placement is slot other =
      cap-moved_other slot placement.source placement.slot placement.cap f (apart slot placement.source other is.source)
      (apart slot placement.slot other is.slot)

  pub spared-moved : (placement : CapPlacement) → IsPlacedIn p parts i placement → IsSpared p parts i f (with_moved placement f)
  spared-moved placement is slot other = inl (same-moved placement is slot other)

  pub same-objects : (new : NewObjects) → IsMadeIn p parts i new → (slot : ℕ) → (parts.part_of slot ≡ Some i → ⊥) →
      cap_at (with_objects p new f) slot ≡ cap_at f slot
  same-objects new is slot other =
      other-with_new new.untyped slot (new_caps p new) (freed new.untyped new.placed.free f)
      (each-range (λ (put : ℕ × Cap). slot ≡ put.0 → ⊥)
      (λ k. (slot_of p new.first_slot k, new_cap new.shape.kind (object_at new.placed k) new.shape.size_bits)) 0 new.count
      (λ k low high. apart slot (slot_of p new.first_slot k) other (is.slots k (omega (arith, high)))))
      ∙ cap-freed_other slot new.untyped new.placed.free f (apart slot new.untyped other is.untyped)

  pub spared-objects : (new : NewObjects) → IsMadeIn p parts i new → IsSpared p parts i f (with_objects p new f)
  spared-objects new is slot other = inl (same-objects new is slot other)

  pub spared-space : (new : NewSpace) → IsSpace p f new → IsSpaceIn p parts i new → IsSpared p parts i f (with_space p new f)
  spared-space new is stays =
      let left = spared-own new.tcb stays.tcb in
      space_kept p f store.slots_distinct new is (IsSpared p parts i f) left
      (λ d slot other. elim (left slot other) [
        | inl same ↦ inl (cap-derived_other slot new.source new.tcb new.cap (clear p new.tcb f) (apart slot new.tcb other stays.tcb) ∙ same)
        | inr near ↦ inr near
      ])

-- a revocation of a slot of the part: its first children are cleared, one after another
module _ (p : ProfileName) (parts : Parts) (i memory : ℕ) (f : Forest Entry) (store : IsKernelStore p memory f) (closed : IsClosed p parts i f)
    (s : ℕ) (own : parts.part_of s ≡ Some i) where
  spared-revoked : (k : ℕ) (g : Forest Entry) → IsKernelStore p memory g → IsChange p parts i f g → IsSpared p parts i f g →
      IsSpared p parts i f (revoked p k s g)
  spared-revoked zero g kept change spared = spared
  spared-revoked (suc k) g kept change spared = elim (child_or_none (first_child s g)) [
    | inl e ↦ subst (IsSpared p parts i f) (sym (revoked_none p (suc k) s g e)) spared
    | inr w ↦
        subst (IsSpared p parts i f) (sym (revoked_some p k s w.0 g w.1))
        (spared-revoked k (clear p w.0 g) (store-clear p memory w.0 g kept)
        (change-clear p parts i f closed store.slots_distinct w.0 g change)
        (then_cleared w.0 w.1))
  ]
    where
      then_cleared : (c : ℕ) → first_child s g ≡ Some c → IsSpared p parts i f (clear p c g)
      then_cleared c e slot other =
          let within = change_closed p parts i f closed g change in
          let near = child_near p parts i memory g kept within s c own e in
          elim (spared slot other) [
            | inr taken ↦ inr taken
            | inl same ↦ elim (spared-clear p parts i g kept.slots_distinct within c near slot) [
              | inl stays ↦ inl (stays ∙ same)
              | inr taken ↦ inr (subst (IsNear p parts i) same taken)
            ]
          ]

  pub spared-revoke : IsSpared p parts i f (revoke p s f)
  unfolding revoke
  spared-revoke =
      spared-revoked (length (preorder f)) f store (unchanged p parts i f closed store.slots_distinct) (λ slot other. inl refl)
