-- A slot that a lookup finds is one of a live CNode.
use Rattle.std.proofs.Common.{◌≡◌, ℕ, zero, suc, ◌+◌, ◌*◌, ◌^◌, ◌<◌, inl, inr, true, false, nat_le, ◌==◌, ◌&&◌, Ok, refl, sym, subst, ◌∙◌, arith}
use Rattle.std.specs.List.{list_any, Contains}
use Rattle.std.proofs.Math.Nat.{suc-mul}
use Rattle.cap_core.specs.declared.profile.ProfileName.{ProfileName}
use Rattle.cap_core.specs.declared.capability.Cap.{Cap}
use Rattle.cap_core.specs.declared.capability.Cap.TheVariants.{Null, Untyped, Endpoint, CNode, Tcb}
use Rattle.cap_core.specs.declared.refusal.LookupFault.TheVariants.{InvalidRoot}
use Rattle.cap_core.specs.declared.refusal.Refusal.TheVariants.{RangeError, FailedLookup}
use Rattle.cap_core.specs.Numbers.{word_bits, slot_size}
use Rattle.cap_core.specs.Objects.{is_null}
use Rattle.kernel_forest.specs.Forest.{Forest, preorder}
use Rattle.kernel_forest.specs.Entries.{Entry, cap_at}
use Rattle.kernel_forest.proofs.Slots.Edits.{entry_at}
use Rattle.cspace_core.specs.Bits.{low_bits}
use Rattle.cspace_core.specs.Resolution.{is_cnode, resolution}
use Rattle.cspace_core.specs.Target.{target_slot}
use Rattle.cspace_core.specs.Inside.{IsSlotOf}
use Rattle.cspace_core.proofs.Inside.{lies_in_cnode}
use Rattle.kernel_delete.specs.Members.{In}
use Rattle.kernel_forest.specs.Slots.{addresses, slots_of}
use Rattle.kernel_delete.specs.Housed.{is_housed}
use Rattle.kernel_delete.proofs.Members.{any_in, eqb_self}
use Rattle.kernel_delete.proofs.Clearable.{contains_in}
use Rattle.kernel_abstract.proofs.Checks.FoundSlots.{cond_passed, full_at, whole_passed}

-- so many addresses, by their numbers
in_numbered : (size first count i : ℕ) → i < count → In (first + i * size) (addresses size first count)
in_numbered size first zero i low = absurd (omega arith)
in_numbered size first (suc count) zero low = inl (omega arith)
in_numbered size first (suc count) (suc i) low =
    let e : suc i * size ≡ i * size + size = suc-mul i size in
    let sum : first + size + i * size ≡ first + suc i * size = omega arith in
    inr
    (subst (λ n. In n (addresses size (first + size) count)) sum
    (in_numbered size (first + size) count i (omega arith)))

pub slot_in : (p : ProfileName) (cap : Cap) (n : ℕ) → IsSlotOf p cap n → In n (slots_of p cap)
unfolding slots_of
slot_in p Null n s = absurd s
slot_in p (Untyped base bits free) n s = absurd s
slot_in p (Endpoint base badge rights) n s = absurd s
slot_in p (CNode base radix guard) n s =
    let among : In (base + s.0 * slot_size p) (addresses (slot_size p) base (2 ^ radix)) =
    in_numbered (slot_size p) base (2 ^ radix) s.0 s.1.0 in
    subst (λ m. In m (addresses (slot_size p) base (2 ^ radix))) (sym s.1.1) among
slot_in p (Tcb base) n s = absurd s

-- a thread's root slot is its one slot
pub root_slot_in : (p : ProfileName) (t : ℕ) → In t (slots_of p (Tcb t))
unfolding slots_of
root_slot_in p t = inl refl

has_slots : (p : ProfileName) (cap : Cap) (n : ℕ) → In n (slots_of p cap) → is_null cap ≡ false
unfolding slots_of
has_slots p Null n i = absurd i
has_slots p (Untyped base bits free) n i = refl
has_slots p (Endpoint base badge rights) n i = refl
has_slots p (CNode base radix guard) n i = refl
has_slots p (Tcb base) n i = refl

-- a slot of the object that the capability in some slot names
pub housed_by : (p : ProfileName) (f : Forest Entry) (holder n : ℕ) → In n (slots_of p (cap_at f holder)) →
    is_housed p f n ≡ true
housed_by p f holder n i =
    let full = full_at f holder (has_slots p (cap_at f holder) n i) in
    let e : (e : Entry) × Contains (preorder f) e × (e.slot ≡ holder) × (e.cap ≡ cap_at f holder) =
    entry_at holder f full in
    any_in (λ (a : Entry). list_any (λ m. m == n) (slots_of p a.cap)) (preorder f) e.0
    (contains_in (preorder f) e.0 e.1)
    (any_in (λ m. m == n) (slots_of p e.0.cap) n (subst (λ cap. In n (slots_of p cap)) (sym e.3) i) (eqb_self n))

pub target_housed : (p : ProfileName) (f : Forest Entry) (holder : ℕ) (root : Cap) (index depth slot : ℕ) →
    root ≡ cap_at f holder →
    target_slot p (cap_at f) root index depth ≡ Ok slot → is_housed p f slot ≡ true
target_housed p f holder root index depth slot rooted h =
    let node = cond_passed (is_cnode root) _ (FailedLookup InvalidRoot) slot h in
    let range = cond_passed (nat_le 1 depth && nat_le depth (word_bits p)) _ RangeError slot node.1 in
    let whole = whole_passed (resolution p (cap_at f) root (low_bits depth index)) slot range.1 in
    let lies = lies_in_cnode p (cap_at f) root depth index whole.0 whole.1.0 in
    let held : (other : ℕ) × (lies.0 ≡ cap_at f other) =
    elim lies.1.0 [ inl is ↦ (holder, is ∙ rooted) | inr other ↦ other ] in
    subst (λ n. is_housed p f n ≡ true) whole.1.1
    (housed_by p f held.0 whole.0.slot
    (subst (λ cap. In whole.0.slot (slots_of p cap)) held.1 (slot_in p lies.0 whole.0.slot lies.1.1)))
