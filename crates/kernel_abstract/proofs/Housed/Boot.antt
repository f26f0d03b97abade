-- The full slots of a booted kernel lie in its root CNode, or are its threads' root slots.
use Rattle.std.proofs.Common.{◌≡◌, ℕ, zero, suc, ◌+◌, ◌*◌, ◌<◌, ◌≤◌, inl, inr, Bool, true, ◌==◌, ◌||◌, List, [], ◌∷◌, ◌++◌, length, map, refl, ap, ◌∙◌, arith}
use Rattle.std.specs.List.{list_any, range_with_len}
use Rattle.std.proofs.lemmas.Bool.{false≢true}
use Rattle.std.proofs.lemmas.Bool.Decides.{eqb_tells}
use Rattle.cap_core.specs.declared.profile.ProfileName.{ProfileName}
use Rattle.cap_core.specs.declared.capability.Cap.{Cap}
use Rattle.cap_core.specs.declared.capability.Cap.TheVariants.{Tcb}
use Rattle.cap_core.specs.Numbers.{slot_size}
use Rattle.kernel_forest.specs.Forest.{Forest, none, preorder}
use Rattle.kernel_forest.specs.Entries.{Entry, entry, is_full}
use Rattle.kernel_forest.specs.Derivation.{rooted, derived, derived_entry}
use Rattle.kernel_forest.proofs.Slots.Edits.{any-rooted, any-derived, full-derived}
use Rattle.kernel_delete.specs.Members.{In}
use Rattle.kernel_forest.specs.Slots.{slots_of}
use Rattle.kernel_delete.specs.Housed.{is_housed, IsHoused}
use Rattle.kernel_delete.proofs.Members.{any_in, either_true, true_right, in_left, eqb_self}
use Rattle.kernel_abstract.specs.Plan.{Plan, IsPlan, tcb_place}
use Rattle.kernel_abstract.specs.Boot.{root_cap, tcb_caps, endpoint_caps, untyped_caps, boot_caps, boot_tcbs, with_roots, with_spaces, boot_forest}
use Rattle.kernel_abstract.proofs.Retype.RetypedForest.{each-range}
use Rattle.kernel_abstract.proofs.Boot.Places.{caps_fit, can_derive, each-always}
use Rattle.kernel_abstract.proofs.Boot.Puts.{each-with_roots}
use Rattle.kernel_abstract.proofs.Boot.BootedStore.{each-with_spaces}
use Rattle.kernel_abstract.proofs.Housed.FoundSlots.{slot_in, root_slot_in}

-- what an entry passes that stands there, and what a capability passes that is put
roots_old : (q : Entry → Bool) (p : ProfileName) (i : ℕ) (caps : List Cap) (f : Forest Entry) →
    list_any q (preorder f) ≡ true → list_any q (preorder (with_roots p i caps f)) ≡ true
roots_old q p i [] f h = h
roots_old q p i (cap ∷ caps) f h =
    roots_old q p (i + 1) caps (rooted (i * slot_size p) cap f)
    (any-rooted q (i * slot_size p) cap f ∙ ap (λ b. b || q (entry (i * slot_size p) cap true)) h)

roots_new : (t : Cap → Bool) (p : ProfileName) (i : ℕ) (caps : List Cap) (f : Forest Entry) →
    list_any t caps ≡ true → list_any (λ (e : Entry). t e.cap) (preorder (with_roots p i caps f)) ≡ true
roots_new t p i [] f h = absurd (false≢true h)
roots_new t p i (cap ∷ caps) f h = elim (either_true (t cap) (list_any t caps) h) [
  | inl here ↦ roots_old (λ (e : Entry). t e.cap) p (i + 1) caps (rooted (i * slot_size p) cap f)
      (any-rooted (λ (e : Entry). t e.cap) (i * slot_size p) cap f
      ∙ true_right (list_any (λ (e : Entry). t e.cap) (preorder f)) (t cap) here)
  | inr there ↦ roots_new t p (i + 1) caps (rooted (i * slot_size p) cap f) there
]

spaces_old : (q : Entry → Bool) (p : ProfileName) (root : Cap) (tcbs : List ℕ) (f : Forest Entry) →
    is_full (slot_size p) f ≡ true →
    list_any q (preorder f) ≡ true → list_any q (preorder (with_spaces p root tcbs f)) ≡ true
spaces_old q p root [] f full h = h
spaces_old q p root (t ∷ ts) f full h =
    spaces_old q p root ts (derived (slot_size p) t root f)
    (full-derived (slot_size p) (slot_size p) t root f full ∙ ap (λ b. b || (t == slot_size p)) full)
    (any-derived q (slot_size p) t root f full ∙ ap (λ b. b || q (derived_entry (slot_size p) t root f)) h)

-- one of a range
in_range : {X : Type 0} (g : ℕ → X) (i n k : ℕ) → i ≤ k → k < i + n → In (g k) (map g (range_with_len i n))
in_range g i zero k low high = absurd (omega (arith, low, high))
in_range g i (suc n) k low high = elim (eqb_tells k i) [
  | inl w ↦ inl (ap g w.1)
  | inr w ↦ let other = w.1 in inr (in_range g (i + 1) n k (omega (arith, low, other)) (omega (arith, high)))
]

module _ (p : ProfileName) (plan : Plan) (lawful : IsPlan p plan) where
  -- a slot of an object that a boot capability names
  put_housed : (n : ℕ) (cap : Cap) → In cap (boot_caps p plan) → In n (slots_of p cap) →
      is_housed p (boot_forest p plan) n ≡ true
  put_housed n cap put i =
      spaces_old (λ (e : Entry). list_any (λ m. m == n) (slots_of p e.cap)) p (root_cap p plan) (boot_tcbs p plan)
      (with_roots p 1 (boot_caps p plan) none)
      (can_derive p plan lawful).full
      (roots_new (λ c. list_any (λ m. m == n) (slots_of p c)) p 1 (boot_caps p plan) none
      (any_in (λ c. list_any (λ m. m == n) (slots_of p c)) (boot_caps p plan) cap put
      (any_in (λ m. m == n) (slots_of p cap) n i (eqb_self n))))

  node_slot : (k : ℕ) → k < 1 + length (boot_caps p plan) → is_housed p (boot_forest p plan) (k * slot_size p) ≡ true
  node_slot k high =
      let room = caps_fit p plan lawful in
      put_housed (k * slot_size p) (root_cap p plan) (inl refl)
      (slot_in p (root_cap p plan) (k * slot_size p) (k, (omega (arith, high, room), omega arith)))

  thread_slot : (i : ℕ) → i < plan.threads → is_housed p (boot_forest p plan) (tcb_place p plan i) ≡ true
  thread_slot i high =
      put_housed (tcb_place p plan i) (Tcb (tcb_place p plan i))
      (inr (in_left (Tcb (tcb_place p plan i)) (tcb_caps p plan ++ endpoint_caps p plan) (untyped_caps plan)
      (in_left (Tcb (tcb_place p plan i)) (tcb_caps p plan) (endpoint_caps p plan)
      (in_range (λ k. Tcb (tcb_place p plan k)) 0 plan.threads i (omega arith) (omega (arith, high))))))
      (root_slot_in p (tcb_place p plan i))

  pub housed_at_boot : IsHoused p (boot_forest p plan)
  housed_at_boot =
      let Stands : Entry → Type 0 = λ e. is_housed p (boot_forest p plan) e.slot ≡ true in
      each-with_spaces Stands p (root_cap p plan) (boot_tcbs p plan) (with_roots p 1 (boot_caps p plan) none)
      (each-with_roots Stands p 1 (boot_caps p plan) none tt
      (each-always
      (λ (c : Cap). (k : ℕ) → 1 ≤ k → k < 1 + length (boot_caps p plan) →
      is_housed p (boot_forest p plan) (k * slot_size p) ≡ true)
      (boot_caps p plan) (λ c k low high. node_slot k high)))
      (each-range (λ (t : ℕ). (original : Bool) → is_housed p (boot_forest p plan) t ≡ true)
      (tcb_place p plan) 0 plan.threads
      (λ i low high original. thread_slot i (omega (arith, high))))
