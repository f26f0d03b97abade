-- What holds of the capabilities of a booted kernel.
use Rattle.std.proofs.Common.{◌≡◌, ℕ, zero, suc, ◌+◌, ◌-◌, ◌*◌, ◌%◌, ◌^◌, ◌<◌, ◌≤◌, Bool, eqb, true, List, [], ◌∷◌, length, arith}
use Rattle.std.specs.List.{AllByRecursion as Each, All, IsDistinct}
use Rattle.std.proofs.Math.Nat.{one-le-pow}
use Rattle.std.proofs.lemmas.List.Elements.{All-map}
use Rattle.cap_core.specs.declared.profile.ProfileName.{ProfileName}
use Rattle.cap_core.specs.declared.profile.ProfileName.TheVariants.{Wide, Narrow}
use Rattle.cap_core.specs.declared.capability.Cap.{Cap}
use Rattle.cap_core.specs.declared.capability.Cap.TheVariants.{CNode}
use Rattle.cap_core.specs.declared.capability.Guard.{Guard}
use Rattle.cap_core.specs.Numbers.{word_bits, slot_size, slot_bits, tcb_size, tcb_bits}
use Rattle.cap_core.specs.Objects.{IsLawful}
use Rattle.kernel_forest.specs.Forest.{Forest, none, preorder}
use Rattle.kernel_forest.specs.Entries.{Entry, entry, slots}
use Rattle.kernel_forest.specs.Derivation.{rooted, derived, derived_entry}
use Rattle.kernel_forest.specs.Disjoint.{IsDisjoint}
use Rattle.kernel_forest.proofs.Trees.Forests.{each-weaker}
use Rattle.kernel_forest.proofs.Slots.Edits.{each-derived}
use Rattle.kernel_forest.proofs.Slots.Distinct.{distinct-rooted, distinct-derived}
use Rattle.mem_core.specs.Plans.{least_multiple}
use Rattle.kernel_abstract.specs.Plan.{Plan, IsPlan, tcb_place}
use Rattle.kernel_abstract.specs.Memory.{IsSlotAddress}
use Rattle.kernel_abstract.specs.Regions.{AreRegions}
use Rattle.kernel_abstract.specs.Boot.{root_cap, boot_caps, boot_tcbs, boot_forest, with_roots, with_spaces}
use Rattle.kernel_abstract.proofs.Boot.Puts.{CanPut, first_put, other_puts, each-with_roots}
use Rattle.kernel_abstract.proofs.Boot.Spaces.{CanDerive, first_derive, other_derives}
use Rattle.kernel_abstract.proofs.Boot.SoundPlans.{objects_within}
use Rattle.kernel_abstract.proofs.Boot.Places.{can_put, can_derive, slots_fit, node_fits, tcb_fits, lawful_caps, each-range}
use Rattle.kernel_abstract.proofs.Capabilities.RegionsDerived.{regions-derived}
use Rattle.kernel_abstract.proofs.Capabilities.RegionsMoved.{regions-none, regions-rooted}
use Rattle.kernel_abstract.specs.Private.Stores.{IsKernelStore}

distinct-none : IsDistinct eqb (slots none)
unfolding IsDistinct
distinct-none = tt

distinct-with_roots : (p : ProfileName) (memory i : ℕ) (l : List Cap) (f : Forest Entry) → CanPut p memory i l f → IsDistinct eqb (slots f) → IsDistinct eqb (slots (with_roots p i l f))
distinct-with_roots p memory i [] f h d = d
distinct-with_roots p memory i (cap ∷ l) f h d =
    distinct-with_roots p memory (i + 1) l (rooted (i * slot_size p) cap f) (other_puts p memory i cap l f h)
    (distinct-rooted (i * slot_size p) cap f d (first_put p memory i cap l f h).empty)

regions-with_roots : (p : ProfileName) (memory i : ℕ) (l : List Cap) (f : Forest Entry) → CanPut p memory i l f → AreRegions p f → AreRegions p (with_roots p i l f)
regions-with_roots p memory i [] f h r = r
regions-with_roots p memory i (cap ∷ l) f h r =
    regions-with_roots p memory (i + 1) l (rooted (i * slot_size p) cap f) (other_puts p memory i cap l f h)
    (regions-rooted p (i * slot_size p) cap f r (first_put p memory i cap l f h).empty)

-- what holds when the last space is derived
record Derived (p : ProfileName) (f : Forest Entry) : Type 0 where
  distinct : IsDistinct eqb (slots f)
  disjoint : IsDisjoint p f
  regions : AreRegions p f

with_spaces-keeps : (p : ProfileName) (memory base radix : ℕ) (guard : Guard) (tcbs : List ℕ) (f : Forest Entry) → CanDerive p memory (slot_size p) base radix guard tcbs f
    → IsDistinct eqb (slots f) → AreRegions p f → Derived p (with_spaces p (CNode base radix guard) tcbs f)
with_spaces-keeps p memory base radix guard [] f h d r = record { distinct = d; disjoint = h.disjoint; regions = r }
with_spaces-keeps p memory base radix guard (t ∷ ts) f h d r =
    let first = first_derive p memory (slot_size p) base radix guard t ts f h in
    with_spaces-keeps p memory base radix guard ts (derived (slot_size p) t (CNode base radix guard) f) (other_derives p memory (slot_size p) base radix guard t ts f h)
    (distinct-derived (slot_size p) t (CNode base radix guard) f d h.full first.empty)
    (regions-derived p (slot_size p) t (CNode base radix guard) f r d first.empty first.same)

pub each-with_spaces : (P : Entry → Type 0) (p : ProfileName) (cap : Cap) (tcbs : List ℕ) (f : Forest Entry) →
    Each P (preorder f)
    → Each (λ (t : ℕ). (original : Bool) → P (entry t cap original)) tcbs → Each P (preorder (with_spaces p cap tcbs f))
each-with_spaces P p cap [] f h new = h
each-with_spaces P p cap (t ∷ ts) f h new =
    each-with_spaces P p cap ts (derived (slot_size p) t cap f)
    (each-derived P (slot_size p) t cap f h (new.0 (derived_entry (slot_size p) t cap f).original)) new.1

all_from : {X : Type 0} (P : X → Type 0) (xs : List X) → Each P xs → All P xs
all_from P [] h k d b = absurd (omega arith)
all_from P (x ∷ xs) h zero d b = h.0
all_from P (x ∷ xs) h (suc k) d b = all_from P xs h.1 k d (omega arith)

-- where the slots stand

slot_aligned : (p : ProfileName) (k : ℕ) → (k * slot_size p) % slot_size p ≡ 0
slot_aligned Wide k = omega arith
slot_aligned Narrow k = omega arith

tcb_slot_aligned : (p : ProfileName) (n i : ℕ) → (least_multiple (tcb_size p) n + tcb_size p * i) % slot_size p ≡ 0
tcb_slot_aligned Wide n i = omega arith
tcb_slot_aligned Narrow n i = omega arith

slot_below : (p : ProfileName) (k l m : ℕ) → k < l → l * slot_size p ≤ m → k * slot_size p < m
slot_below Wide k l m h w = omega arith
slot_below Narrow k l m h w = omega arith

-- what is full: a slot of the memory with a lawful capability
record IsFull (p : ProfileName) (memory : ℕ) (e : Entry) : Type 0 where
  placed : IsSlotAddress p memory e.slot
  lawful : IsLawful p memory e.cap

full_slots : (p : ProfileName) (plan : Plan) → IsPlan p plan → Each (IsFull p plan.memory_bits) (preorder (boot_forest p plan))
full_slots p plan h =
    each-with_spaces (IsFull p plan.memory_bits) p (root_cap p plan) (boot_tcbs p plan) (with_roots p 1 (boot_caps p plan) none)
    (each-with_roots (IsFull p plan.memory_bits) p 1 (boot_caps p plan) none tt
    (each-weaker (IsLawful p plan.memory_bits) (λ (c : Cap). (k : ℕ) → 1 ≤ k → k < 1 + length (boot_caps p plan) → IsFull p plan.memory_bits (entry (k * slot_size p) c true))
    (λ c l k low high. record {
      placed = record {
        aligned = slot_aligned p k;
        within = slot_below p k (1 + length (boot_caps p plan)) (2 ^ plan.memory_bits) high
            (let s = slots_fit p plan h in let n = node_fits p plan in let w = objects_within p plan h in omega arith);
      };
      lawful = l;
    }) (boot_caps p plan) (lawful_caps p plan h)))
    (each-range (λ (t : ℕ). (original : Bool) → IsFull p plan.memory_bits (entry t (root_cap p plan) original)) (tcb_place p plan) 0 plan.threads
    (λ i low high original. record {
      placed = record {
        aligned = tcb_slot_aligned p (2 ^ (slot_bits p + plan.root_radix)) i;
        within = let a = tcb_fits p plan i (omega arith) in let b = objects_within p plan h in let q = one-le-pow (tcb_bits p) 2 (omega arith) in omega arith;
      };
      lawful = (can_derive p plan h).lawful;
    }))

-- what holds of the store of a booted kernel
pub store_at_boot : (p : ProfileName) (plan : Plan) → IsPlan p plan → IsKernelStore p plan.memory_bits (boot_forest p plan)
store_at_boot p plan h =
    record {
      memory_most = h.limits.sizes.memory_most;
      slots_distinct = kept.distinct;
      slots_placed = All-map (IsSlotAddress p plan.memory_bits) (λ (e : Entry). e.slot) (preorder (boot_forest p plan))
          (all_from (λ (e : Entry). IsSlotAddress p plan.memory_bits e.slot) (preorder (boot_forest p plan))
          (each-weaker (IsFull p plan.memory_bits) (λ (e : Entry). IsSlotAddress p plan.memory_bits e.slot) (λ e f. f.placed) (preorder (boot_forest p plan)) (full_slots p plan h)));
      lawful = All-map (IsLawful p plan.memory_bits) (λ (e : Entry). e.cap) (preorder (boot_forest p plan))
          (all_from (λ (e : Entry). IsLawful p plan.memory_bits e.cap) (preorder (boot_forest p plan))
          (each-weaker (IsFull p plan.memory_bits) (λ (e : Entry). IsLawful p plan.memory_bits e.cap) (λ e f. f.lawful) (preorder (boot_forest p plan)) (full_slots p plan h)));
      disjoint = kept.disjoint;
      regions = kept.regions;
    }
  where
    kept : Derived p (boot_forest p plan)
    kept = with_spaces-keeps p plan.memory_bits 0 plan.root_radix (record { value = 0; size = word_bits p - plan.root_radix }) (boot_tcbs p plan) (with_roots p 1 (boot_caps p plan) none)
        (can_derive p plan h) (distinct-with_roots p plan.memory_bits 1 (boot_caps p plan) none (can_put p plan h) distinct-none)
        (regions-with_roots p plan.memory_bits 1 (boot_caps p plan) none (can_put p plan h) (regions-none p))
