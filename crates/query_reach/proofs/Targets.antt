-- What an index and a depth name is found at the first CNode, and then as from there.
use Rattle.std.proofs.Common.{◌≡◌, ◌≢◌, ℕ, zero, suc, ◌+◌, ◌-◌, ◌*◌, ◌/◌, ◌%◌, ◌^◌, ◌<◌, ◌≤◌, ◌⊎◌, refl, sym, ap, ◌∙◌, arith, Bool, true, false, List, Some, None, Ok, Err}
use Rattle.std.proofs.lemmas.Bool.{ne_eqb}
use Rattle.std.proofs.Math.Bool.{and-false}
use Rattle.std.proofs.Math.Nat.{mod-eq_of_lt}
use Rattle.cap_core.specs.declared.profile.ProfileName.{ProfileName}
use Rattle.cap_core.specs.declared.capability.Guard.{Guard}
use Rattle.cap_core.specs.declared.capability.Cap.{Cap}
use Rattle.cap_core.specs.declared.capability.Cap.TheVariants.{Null, Untyped, Endpoint, CNode, Tcb}
use Rattle.cap_core.specs.declared.refusal.LookupFault.TheVariants.{InvalidRoot}
use Rattle.cap_core.specs.Objects.{IsLawful}
use Rattle.kernel_forest.specs.Forest.{Forest}
use Rattle.kernel_forest.specs.Entries.{Entry, cap_at}
use Rattle.cspace_core.specs.Bits.{low_bits}
use Rattle.cspace_core.specs.Resolution.{is_cnode, slot_of, choice, found_or, resolution}
use Rattle.cspace_core.proofs.Bits.{length-low_bits, low_bits-mod}
use Rattle.cspace_core.proofs.Nodes.{lawful_node, slot_chosen}
use Rattle.cspace_core.proofs.Steps.{choice_is}
use Rattle.query_reach.specs.Private.Exploring.{whole_slot, target_from}
use Rattle.query_reach.proofs.Numbers.{guard_read, index_read, rest_read}
use Rattle.query_reach.proofs.Resolved.{FirstStep, faults, chooses, first_step, first_choice}

no_choice : (p : ProfileName) (cap : Cap) (bits : List ℕ) → is_cnode cap ≡ false → choice p cap bits ≡ Err InvalidRoot
no_choice p Null bits e = refl
no_choice p (Untyped base size free) bits e = refl
no_choice p (Endpoint base badge rights) bits e = refl
no_choice p (CNode base radix guard) bits e = cc
no_choice p (Tcb base) bits e = refl

pub no_target : (p : ProfileName) (memory : ℕ) (f : Forest Entry) → ((s : ℕ) → (cap_at f s ≡ Null) ⊎ IsLawful p memory (cap_at f s)) →
    (slot n word : ℕ) → is_cnode (cap_at f slot) ≡ false → whole_slot (resolution p (cap_at f) (cap_at f slot) (low_bits n word)) ≡ None
no_target p memory f all slot n word e =
    ap whole_slot (first_choice p memory (cap_at f) all (cap_at f slot) n word (all slot)
    ∙ ap (found_or (cap_at f) (resolution p (cap_at f))) (no_choice p (cap_at f slot) (low_bits n word) e))

went_whole : (p : ProfileName) (memory : ℕ) (f : Forest Entry) → ((s : ℕ) → (cap_at f s ≡ Null) ⊎ IsLawful p memory (cap_at f s)) →
    (slot m word : ℕ) (t : Bool) → is_cnode (cap_at f slot) ≡ t →
    whole_slot (found_or (cap_at f) (resolution p (cap_at f)) (Ok (record { slot = slot; left = low_bits m word }))) ≡ target_from p f m slot word
went_whole p memory f all slot zero word t e = rw (length-low_bits zero word, and-false (is_cnode (cap_at f slot))) refl
went_whole p memory f all slot (suc m) word true e =
    let some : suc m ≢ 0 = omega arith in
    rw (length-low_bits (suc m) word, e, ne_eqb (suc m) 0 some) refl
went_whole p memory f all slot (suc m) word false e =
    let some : suc m ≢ 0 = omega arith in
    let none : whole_slot (resolution p (cap_at f) (cap_at f slot) (low_bits (suc m) word)) ≡ None = no_target p memory f all slot (suc m) word e in
    rw (length-low_bits (suc m) word, e, ne_eqb (suc m) 0 some) (sym none)

pub entered_whole : (p : ProfileName) (f : Forest Entry) (n slot word : ℕ) → 0 < n →
    target_from p f n slot word ≡ whole_slot (resolution p (cap_at f) (cap_at f slot) (low_bits n word))
entered_whole p f zero slot word h = absurd (omega arith)
entered_whole p f (suc n) slot word h = refl

-- only the bits of the depth count
pub target_same : (p : ProfileName) (f : Forest Entry) (n slot a b : ℕ) → a % 2 ^ n ≡ b % 2 ^ n → target_from p f n slot a ≡ target_from p f n slot b
target_same p f zero slot a b e = refl
target_same p f (suc n) slot a b e =
    let within : suc n ≤ suc n = omega arith in
    let bits : low_bits (suc n) a ≡ low_bits (suc n) b =
    sym (low_bits-mod (suc n) (suc n) a within) ∙ (ap (low_bits (suc n)) e ∙ low_bits-mod (suc n) (suc n) b within) in
    ap (λ (l : List ℕ). whole_slot (resolution p (cap_at f) (cap_at f slot) l)) bits

-- from a CNode, by an index that begins with its guard
from_cnode : (p : ProfileName) (memory : ℕ) (f : Forest Entry) → ((s : ℕ) → (cap_at f s ≡ Null) ⊎ IsLawful p memory (cap_at f s)) →
    (base radix n word : ℕ) (guard : Guard) → (CNode base radix guard ≡ Null) ⊎ IsLawful p memory (CNode base radix guard) →
    guard.size ≤ n → radix ≤ n - guard.size → word / 2 ^ (n - guard.size) % 2 ^ guard.size ≡ guard.value →
    let m = n - guard.size - radix in
    whole_slot (resolution p (cap_at f) (CNode base radix guard) (low_bits n word)) ≡ target_from p f m (slot_of p base (word / 2 ^ m % 2 ^ radix)) word
from_cnode p memory f all base radix n word guard lawful long enough is =
    let m : ℕ = n - guard.size - radix in
    let slot : ℕ = slot_of p base (word / 2 ^ m % 2 ^ radix) in
    let whole = first_choice p memory (cap_at f) all (CNode base radix guard) n word lawful in
    let chosen : choice p (CNode base radix guard) (low_bits n word) ≡ Ok (record { slot = slot; left = low_bits m word }) =
    choice_is p _ _ _ (slot_chosen p base radix guard n word long is enough) in
    ap whole_slot (whole ∙ ap (found_or (cap_at f) (resolution p (cap_at f))) chosen) ∙ went_whole p memory f all slot m word (is_cnode (cap_at f slot)) refl

-- what a CNode takes of an index, with the rest behind it
pub step_whole : (p : ProfileName) (memory : ℕ) (f : Forest Entry) → ((s : ℕ) → (cap_at f s ≡ Null) ⊎ IsLawful p memory (cap_at f s)) →
    (holder base radix number m rest : ℕ) (guard : Guard) → cap_at f holder ≡ CNode base radix guard → number < 2 ^ radix → rest < 2 ^ m →
    target_from p f ((guard.size + radix) + m) holder ((guard.value * 2 ^ radix + number) * 2 ^ m + rest) ≡ target_from p f m (slot_of p base number) rest
step_whole p memory f all holder base radix number m rest guard e low short =
    let g : ℕ = guard.size in
    let n : ℕ = (g + radix) + m in
    let word : ℕ = (guard.value * 2 ^ radix + number) * 2 ^ m + rest in
    let lawful : (CNode base radix guard ≡ Null) ⊎ IsLawful p memory (CNode base radix guard) = rw e at (all holder) in
    let node = lawful_node p memory base radix guard lawful in
    let some : 1 ≤ radix = node.holds.some in
    let above : n - g ≡ m + radix = omega arith in
    let same_m : n - g - radix ≡ m = omega arith in
    let begins : word / 2 ^ (m + radix) % 2 ^ g ≡ guard.value = guard_read g radix m guard.value number rest node.holds.cut low short in
    let on = from_cnode p memory f all base radix n word guard lawful (omega arith) (omega arith) (rw above begins) in
    let there : slot_of p base (word / 2 ^ m % 2 ^ radix) ≡ slot_of p base number = ap (slot_of p base) (index_read radix m guard.value number rest low short) in
    let on' : whole_slot (resolution p (cap_at f) (CNode base radix guard) (low_bits n word)) ≡ target_from p f m (slot_of p base number) word = rw (same_m, there) at on in
    let on'' : whole_slot (resolution p (cap_at f) (cap_at f holder) (low_bits n word)) ≡ target_from p f m (slot_of p base number) word = rw e on' in
    entered_whole p f n holder word (omega arith)
    ∙ (on'' ∙ target_same p f m (slot_of p base number) word rest (rest_read m (guard.value * 2 ^ radix + number) rest short ∙ sym (mod-eq_of_lt short)))

-- an index that names a slot begins with what a CNode takes
pub data LeadsTo (p : ProfileName) (f : Forest Entry) (cap : Cap) (n word slot : ℕ) : Type 0 where
  leads_to : (base radix : ℕ) (guard : Guard) → cap ≡ CNode base radix guard → 1 ≤ radix → guard.size ≤ n → radix ≤ n - guard.size →
      word / 2 ^ (n - guard.size) % 2 ^ guard.size ≡ guard.value →
      target_from p f (n - guard.size - radix) (slot_of p base (word / 2 ^ (n - guard.size - radix) % 2 ^ radix)) word ≡ Some slot → LeadsTo p f cap n word slot

leads_by : (p : ProfileName) (memory : ℕ) (f : Forest Entry) → ((s : ℕ) → (cap_at f s ≡ Null) ⊎ IsLawful p memory (cap_at f s)) →
    (cap : Cap) (n word slot : ℕ) → (cap ≡ Null) ⊎ IsLawful p memory cap → FirstStep p cap n word →
    whole_slot (resolution p (cap_at f) cap (low_bits n word)) ≡ Some slot → LeadsTo p f cap n word slot
leads_by p memory f all cap n word slot lawful (faults fault e) is =
    let whole = first_choice p memory (cap_at f) all cap n word lawful in
    let none : whole_slot (resolution p (cap_at f) cap (low_bits n word)) ≡ None =
    ap whole_slot (whole ∙ ap (found_or (cap_at f) (resolution p (cap_at f))) e) in
    cc
leads_by p memory f all cap n word slot lawful (chooses base radix guard node some long enough begins e) is =
    let m : ℕ = n - guard.size - radix in
    let there : ℕ = slot_of p base (word / 2 ^ m % 2 ^ radix) in
    let whole = first_choice p memory (cap_at f) all cap n word lawful in
    let on = ap whole_slot (whole ∙ ap (found_or (cap_at f) (resolution p (cap_at f))) e) ∙ went_whole p memory f all there m word (is_cnode (cap_at f there)) refl in
    leads_to base radix guard node some long enough begins (sym on ∙ is)

pub leading_to : (p : ProfileName) (memory : ℕ) (f : Forest Entry) → ((s : ℕ) → (cap_at f s ≡ Null) ⊎ IsLawful p memory (cap_at f s)) →
    (holder n word slot : ℕ) → 0 < n → target_from p f n holder word ≡ Some slot → LeadsTo p f (cap_at f holder) n word slot
leading_to p memory f all holder n word slot some is =
    leads_by p memory f all (cap_at f holder) n word slot (all holder) (first_step p memory (cap_at f holder) n word (all holder))
    (sym (entered_whole p f n holder word some) ∙ is)
