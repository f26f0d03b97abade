-- A lookup of a call is the resolution of its bits: it finds the same slot, and the fault is that of the reason.
use Rattle.std.proofs.Common.{◌≡◌, ℕ, zero, suc, refl, sym, ap, ◌∙◌, Bool, true, false, cond, not, nat_lt, nat_le, ◌==◌, ◌&&◌, List, length, Option, Some, None, Result, Ok, Err}
use Rattle.cap_core.specs.declared.profile.ProfileName.{ProfileName}
use Rattle.cap_core.specs.declared.capability.Guard.{Guard}
use Rattle.cap_core.specs.declared.capability.Cap.{Cap}
use Rattle.cap_core.specs.declared.capability.Cap.TheVariants.{Null, Untyped, Endpoint, CNode, Tcb}
use Rattle.cap_core.specs.declared.refusal.LookupFault.{LookupFault}
use Rattle.cap_core.specs.declared.refusal.LookupFault.TheVariants as fault
use Rattle.cap_core.specs.declared.refusal.Refusal.{Refusal}
use Rattle.cap_core.specs.declared.refusal.Refusal.TheVariants as refusal
use Rattle.cap_core.specs.Numbers.{word_bits}
use Rattle.cap_core.specs.Checks.{◌>>=◌}
use Rattle.kernel_forest.specs.Forest.{Forest}
use Rattle.kernel_forest.specs.Entries.{Entry, cap_at}
use Rattle.cspace_core.specs.Bits.{low_bits, after_front}
use Rattle.cspace_core.specs.Resolution.{Choice, Found, is_cnode, guard_bits, choice, choice_after_guard, choice_by_radix, found_or, resolution_within, resolution}
use Rattle.cspace_core.specs.Target.{found_whole, target_slot}
use Rattle.kernel_abstract.specs.declared.reason.Word.{Word}
use Rattle.kernel_abstract.specs.declared.reason.Held.{Held}
use Rattle.kernel_abstract.specs.declared.reason.Miss.{Miss}
use Rattle.kernel_abstract.specs.declared.reason.Reason.{Reason}
use Rattle.kernel_abstract.specs.Reasons.{with_refusal, with_fault, held_at}
use Rattle.kernel_abstract.specs.Lookups.{chosen_by_radix, chosen_after_guard, chosen, walked_on, walked_within, walked, reached, slot_by_word, reached_whole, slot_by_index, slot_found, slot_named}

-- a lookup that failed, as a refusal
abbrev pub looked_up : {X : Type 0} → Result X LookupFault → Result X Refusal
looked_up (Ok x) = Ok x
looked_up (Err fault) = Err (refusal.FailedLookup fault)

-- one check after another
pub first_then : {X Y : Type 0} (m : Result X Reason) (k : X → Result Y Reason) (k' : X → Result Y Refusal) →
    ((x : X) → with_refusal (k x) ≡ k' x) → with_refusal (m >>= k) ≡ with_refusal m >>= k'
first_then (Ok x) k k' h = h x
first_then (Err reason) k k' h = refl

with_refusal_cond : {X : Type 0} (t : Bool) (a b : Result X Reason) → with_refusal (cond t a b) ≡ cond t (with_refusal a) (with_refusal b)
with_refusal_cond true a b = refl
with_refusal_cond false a b = refl

with_fault_cond : {X : Type 0} (t : Bool) (a b : Result X Miss) → with_fault (cond t a b) ≡ cond t (with_fault a) (with_fault b)
with_fault_cond true a b = refl
with_fault_cond false a b = refl

by_radix_choice : (p : ProfileName) (node : Held) (base radix : ℕ) (bits : List ℕ) → with_fault (chosen_by_radix p node base radix bits) ≡ choice_by_radix p base radix bits
by_radix_choice p node base radix bits = with_fault_cond (nat_lt (length bits) radix) _ _

after_guard_choice : (p : ProfileName) (node : Held) (base radix : ℕ) (guard : Guard) (bits : List ℕ) (rest : Option (List ℕ)) →
    with_fault (chosen_after_guard p node base radix guard bits rest) ≡ choice_after_guard p base radix rest
after_guard_choice p node base radix guard bits None = refl
after_guard_choice p node base radix guard bits (Some rest) = by_radix_choice p node base radix rest

chosen_choice : (p : ProfileName) (slot : ℕ) (cap : Cap) (bits : List ℕ) → with_fault (chosen p slot cap bits) ≡ choice p cap bits
chosen_choice p slot Null bits = refl
chosen_choice p slot (Untyped base b free) bits = refl
chosen_choice p slot (Endpoint base badge rights) bits = refl
chosen_choice p slot (CNode base radix guard) bits =
    after_guard_choice p (record { slot = slot; cap = CNode base radix guard }) base radix guard bits (after_front (guard_bits guard) bits)
chosen_choice p slot (Tcb base) bits = refl

goes_on : (p : ProfileName) (cap_in : ℕ → Cap) (most : ℕ) →
    ((slot : ℕ) (bits : List ℕ) → with_fault (walked_within p cap_in most slot bits) ≡ resolution_within p cap_in most (cap_in slot) bits) →
    (m : Result Choice Miss) →
    with_fault (walked_on cap_in (walked_within p cap_in most) m) ≡ found_or cap_in (resolution_within p cap_in most) (with_fault m)
goes_on p cap_in most h (Err miss) = refl
goes_on p cap_in most h (Ok c) =
    let t : Bool = is_cnode (cap_in c.slot) && not (length c.left == 0) in
    let last : Result Found LookupFault = Ok (record { slot = c.slot; left = length c.left }) in
    with_fault_cond t _ _ ∙ ap (λ r. cond t r last) (h c.slot c.left)

pub walked_within_is : (p : ProfileName) (cap_in : ℕ → Cap) (most slot : ℕ) (bits : List ℕ) →
    with_fault (walked_within p cap_in most slot bits) ≡ resolution_within p cap_in most (cap_in slot) bits
unfolding walked_within resolution_within
walked_within_is p cap_in zero slot bits = refl
walked_within_is p cap_in (suc most) slot bits =
    goes_on p cap_in most (walked_within_is p cap_in most) (chosen p slot (cap_in slot) bits)
    ∙ ap (found_or cap_in (resolution_within p cap_in most)) (chosen_choice p slot (cap_in slot) bits)

-- a lookup's fault is that of the resolution
pub walked_is : (p : ProfileName) (cap_in : ℕ → Cap) (slot : ℕ) (bits : List ℕ) → with_fault (walked p cap_in slot bits) ≡ resolution p cap_in (cap_in slot) bits
unfolding walked resolution
walked_is p cap_in slot bits = walked_within_is p cap_in (suc (length bits)) slot bits

reached_is : (word : Word) (from : Held) (m : Result Found Miss) → with_refusal (reached word from m) ≡ looked_up (slot_found (with_fault m))
reached_is word from (Ok found) = refl
reached_is word from (Err miss) = refl

pub slot_by_word_is : (p : ProfileName) (f : Forest Entry) (word : Word) (thread n : ℕ) → with_refusal (slot_by_word p f word thread n) ≡ looked_up (slot_named p f (cap_at f thread) n)
slot_by_word_is p f word thread n =
    reached_is word (held_at (cap_at f) thread) (walked p (cap_at f) thread (low_bits (word_bits p) n))
    ∙ ap (λ r. looked_up (slot_found r)) (walked_is p (cap_at f) thread (low_bits (word_bits p) n))

reached_whole_is : (cap_in : ℕ → Cap) (word : Word) (from : Held) (m : Result Found Miss) → with_refusal (reached_whole cap_in word from m) ≡ found_whole (with_fault m)
reached_whole_is cap_in word from (Ok found) = with_refusal_cond (found.left == 0) _ _
reached_whole_is cap_in word from (Err miss) = refl

pub slot_by_index_is : (p : ProfileName) (cap_in : ℕ → Cap) (word : Word) (root index depth : ℕ) →
    with_refusal (slot_by_index p cap_in word root index depth) ≡ target_slot p cap_in (cap_in root) index depth
slot_by_index_is p cap_in word root index depth =
    let node : Bool = is_cnode (cap_in root) in
    let deep : Bool = nat_le 1 depth && nat_le depth (word_bits p) in
    let m : Result Found Miss = walked p cap_in root (low_bits depth index) in
    let no_root : Result ℕ Refusal = Err (refusal.FailedLookup fault.InvalidRoot) in
    let no_depth : Result ℕ Refusal = Err refusal.RangeError in
    with_refusal_cond node _ _
    ∙ ap (λ r. cond node r no_root)
    (with_refusal_cond deep _ _ ∙ ap (λ r. cond deep r no_depth)
    (reached_whole_is cap_in word (held_at cap_in root) m ∙ ap found_whole (walked_is p cap_in root (low_bits depth index))))

-- a result that passes with its refusals passes with its reasons, and the other way round
pub unrefused : {X : Type 0} (r : Result X Reason) (x : X) → with_refusal r ≡ Ok x → r ≡ Ok x
unrefused (Ok y) x h = ap Ok (same y x h)
  where
    same : {X : Type 0} (a b : X) → ◌≡◌ {A = Result X Refusal} (Ok a) (Ok b) → a ≡ b
    same a b e = cc
unrefused (Err reason) x h = cc

named_of : (r : Result ℕ LookupFault) (slot : ℕ) → looked_up r ≡ Ok slot → r ≡ Ok slot
named_of (Ok found) slot h = cc
named_of (Err fault) slot h = cc

-- the slot that a word leads to is the one that the resolution finds, and so with an index and a depth
pub word_passed : (p : ProfileName) (f : Forest Entry) (word : Word) (thread n slot : ℕ) → slot_by_word p f word thread n ≡ Ok slot → slot_named p f (cap_at f thread) n ≡ Ok slot
word_passed p f word thread n slot h =
    named_of (slot_named p f (cap_at f thread) n) slot (sym (slot_by_word_is p f word thread n) ∙ ap with_refusal h)

pub index_passed : (p : ProfileName) (cap_in : ℕ → Cap) (word : Word) (root index depth slot : ℕ) →
    slot_by_index p cap_in word root index depth ≡ Ok slot → target_slot p cap_in (cap_in root) index depth ≡ Ok slot
index_passed p cap_in word root index depth slot h = sym (slot_by_index_is p cap_in word root index depth) ∙ ap with_refusal h

pub word_found : (p : ProfileName) (f : Forest Entry) (word : Word) (thread n slot : ℕ) → slot_named p f (cap_at f thread) n ≡ Ok slot → slot_by_word p f word thread n ≡ Ok slot
word_found p f word thread n slot h =
    unrefused (slot_by_word p f word thread n) slot (slot_by_word_is p f word thread n ∙ ap looked_up h)

pub index_found : (p : ProfileName) (cap_in : ℕ → Cap) (word : Word) (root index depth slot : ℕ) →
    target_slot p cap_in (cap_in root) index depth ≡ Ok slot → slot_by_index p cap_in word root index depth ≡ Ok slot
index_found p cap_in word root index depth slot h =
    unrefused (slot_by_index p cap_in word root index depth) slot (slot_by_index_is p cap_in word root index depth ∙ h)
