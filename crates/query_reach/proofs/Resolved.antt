-- What resolution does at its first CNode, and that it goes on from there as from anywhere.
use Rattle.std.proofs.Common.{◌≡◌, ◌≢◌, ℕ, zero, suc, ◌-◌, ◌/◌, ◌%◌, ◌^◌, ◌<◌, ◌≤◌, ◌⊎◌, inl, inr, refl, sym, ap, ◌∙◌, arith, Bool, true, false, cond, not, ◌==◌, ◌&&◌, List, length, Result, Ok, Err}
use Rattle.std.proofs.lemmas.Bool.{cases_lt, cases_eq, ne_eqb}
use Rattle.std.proofs.Math.Bool.{and-false}
use Rattle.cap_core.specs.declared.profile.ProfileName.{ProfileName}
use Rattle.cap_core.specs.declared.capability.Guard.{Guard}
use Rattle.cap_core.specs.declared.capability.Cap.{Cap}
use Rattle.cap_core.specs.declared.capability.Cap.TheVariants.{Null, Untyped, Endpoint, CNode, Tcb}
use Rattle.cap_core.specs.declared.refusal.LookupFault.{LookupFault}
use Rattle.cap_core.specs.declared.refusal.LookupFault.TheVariants.{InvalidRoot, DepthMismatch, GuardMismatch}
use Rattle.cap_core.specs.Objects.{IsLawful}
use Rattle.kernel_forest.specs.Forest.{Forest}
use Rattle.kernel_forest.specs.Entries.{Entry, cap_at}
use Rattle.cspace_core.specs.Bits.{low_bits}
use Rattle.cspace_core.specs.Resolution.{Found, is_cnode, slot_of, choice, found_or, resolution_within, resolution}
use Rattle.cspace_core.proofs.Bits.{length-low_bits}
use Rattle.cspace_core.proofs.Nodes.{lawful_node, too_short_for_guard, other_guard, too_short_for_radix, slot_chosen}
use Rattle.cspace_core.proofs.Steps.{choice_is}
use Rattle.kernel_abstract.specs.Lookups.{slot_found}
use Rattle.query_reach.specs.Private.Nodes.{found_from}

-- the first step: a fault, or the slot that the bits behind the guard choose
pub data FirstStep (p : ProfileName) (cap : Cap) (n word : ℕ) : Type 0 where
  faults : (fault : LookupFault) → choice p cap (low_bits n word) ≡ Err fault → FirstStep p cap n word
  chooses : (base radix : ℕ) (guard : Guard) → cap ≡ CNode base radix guard → 1 ≤ radix → guard.size ≤ n → radix ≤ n - guard.size →
      word / 2 ^ (n - guard.size) % 2 ^ guard.size ≡ guard.value →
      choice p cap (low_bits n word)
      ≡ Ok (record { slot = slot_of p base (word / 2 ^ (n - guard.size - radix) % 2 ^ radix); left = low_bits (n - guard.size - radix) word }) →
      FirstStep p cap n word

pub first_step : (p : ProfileName) (memory : ℕ) (cap : Cap) (n word : ℕ) → (cap ≡ Null) ⊎ IsLawful p memory cap → FirstStep p cap n word
first_step p memory Null n word lawful = faults InvalidRoot refl
first_step p memory (Untyped base bits free) n word lawful = faults InvalidRoot refl
first_step p memory (Endpoint base badge rights) n word lawful = faults InvalidRoot refl
first_step p memory (Tcb base) n word lawful = faults InvalidRoot refl
first_step p memory (CNode base radix guard) n word lawful =
    let node = lawful_node p memory base radix guard lawful in
    let P : Type 0 = FirstStep p (CNode base radix guard) n word in
    elim (cases_lt n guard.size) as (λ _. P) [
      | inl short ↦ faults GuardMismatch (choice_is p _ _ _ (too_short_for_guard p base radix guard n word short))
      | inr long ↦ elim (cases_eq (word / 2 ^ (n - guard.size) % 2 ^ guard.size) guard.value) as (λ _. P) [
        | inr other ↦ faults GuardMismatch (choice_is p _ _ _ (other_guard p base radix guard n word node.holds.cut other))
        | inl is ↦ elim (cases_lt (n - guard.size) radix) as (λ _. P) [
          | inl few ↦ faults DepthMismatch (choice_is p _ _ _ (too_short_for_radix p base radix guard n word long is few))
          | inr enough ↦ chooses base radix guard refl node.holds.some long enough is (choice_is p _ _ _ (slot_chosen p base radix guard n word long is enough))
        ]
      ]
    ]

-- two ways to go on that agree at fewer bits agree behind the first step
agree : (p : ProfileName) (cap_in : ℕ → Cap) (here here' : Cap → List ℕ → Result Found LookupFault) (cap : Cap) (n word : ℕ) → FirstStep p cap n word →
    ((there m : ℕ) → m < n → here (cap_in there) (low_bits m word) ≡ here' (cap_in there) (low_bits m word)) →
    found_or cap_in here (choice p cap (low_bits n word)) ≡ found_or cap_in here' (choice p cap (low_bits n word))
agree p cap_in here here' cap n word (faults fault e) on = rw e refl
agree p cap_in here here' cap n word (chooses base radix guard node some long enough begins e) on =
    let slot : ℕ = slot_of p base (word / 2 ^ (n - guard.size - radix) % 2 ^ radix) in
    let bits : List ℕ = low_bits (n - guard.size - radix) word in
    let same : here (cap_in slot) bits ≡ here' (cap_in slot) bits = on slot (n - guard.size - radix) (omega arith) in
    rw e (ap (λ (there : Result Found LookupFault). cond (is_cnode (cap_in slot) && not (length bits == 0)) there (Ok (record { slot = slot; left = length bits }))) same)

-- more capabilities than there are bits are as many as one likes
fuel : (p : ProfileName) (memory : ℕ) (cap_in : ℕ → Cap) → ((s : ℕ) → (cap_in s ≡ Null) ⊎ IsLawful p memory (cap_in s)) →
    (more more' : ℕ) (cap : Cap) (n word : ℕ) → (cap ≡ Null) ⊎ IsLawful p memory cap → n < more → n < more' →
    resolution_within p cap_in more cap (low_bits n word) ≡ resolution_within p cap_in more' cap (low_bits n word)
unfolding resolution_within
fuel p memory cap_in all zero more' cap n word lawful h h' = absurd (omega arith)
fuel p memory cap_in all (suc more) zero cap n word lawful h h' = absurd (omega arith)
fuel p memory cap_in all (suc more) (suc more') cap n word lawful h h' =
    agree p cap_in (resolution_within p cap_in more) (resolution_within p cap_in more') cap n word (first_step p memory cap n word lawful)
    (λ there m less. fuel p memory cap_in all more more' (cap_in there) m word (all there) (omega arith) (omega arith))

-- resolution is its first step, and resolution from there
pub first_choice : (p : ProfileName) (memory : ℕ) (cap_in : ℕ → Cap) → ((s : ℕ) → (cap_in s ≡ Null) ⊎ IsLawful p memory (cap_in s)) →
    (cap : Cap) (n word : ℕ) → (cap ≡ Null) ⊎ IsLawful p memory cap →
    resolution p cap_in cap (low_bits n word) ≡ found_or cap_in (resolution p cap_in) (choice p cap (low_bits n word))
unfolding resolution resolution_within
first_choice p memory cap_in all cap n word lawful =
    agree p cap_in (resolution_within p cap_in (length (low_bits n word))) (resolution p cap_in) cap n word (first_step p memory cap n word lawful)
    (λ there m less.
    let bits : length (low_bits n word) ≡ n = length-low_bits n word in
    let bits' : length (low_bits m word) ≡ m = length-low_bits m word in
    fuel p memory cap_in all (length (low_bits n word)) (suc (length (low_bits m word))) (cap_in there) m word (all there) (omega arith) (omega arith))

-- where a CNode chooses a slot, resolution goes on at it with the bits that are left
went_on : (p : ProfileName) (f : Forest Entry) (slot m word : ℕ) (t : Bool) → is_cnode (cap_at f slot) ≡ t →
    slot_found (found_or (cap_at f) (resolution p (cap_at f)) (Ok (record { slot = slot; left = low_bits m word })))
    ≡ found_from p f (cond t m 0) slot word
went_on p f slot m word false e = rw e refl
went_on p f slot zero word true e = rw (length-low_bits zero word, and-false (is_cnode (cap_at f slot))) refl
went_on p f slot (suc m) word true e =
    let some : suc m ≢ 0 = omega arith in
    rw (length-low_bits (suc m) word, e, ne_eqb (suc m) 0 some) refl

-- from a CNode, by a word that begins with its guard
pub from_node : (p : ProfileName) (memory : ℕ) (f : Forest Entry) → ((s : ℕ) → (cap_at f s ≡ Null) ⊎ IsLawful p memory (cap_at f s)) →
    (base radix n word : ℕ) (guard : Guard) → (CNode base radix guard ≡ Null) ⊎ IsLawful p memory (CNode base radix guard) →
    guard.size ≤ n → radix ≤ n - guard.size → word / 2 ^ (n - guard.size) % 2 ^ guard.size ≡ guard.value →
    let m = n - guard.size - radix in let slot = slot_of p base (word / 2 ^ m % 2 ^ radix) in
    slot_found (resolution p (cap_at f) (CNode base radix guard) (low_bits n word)) ≡ found_from p f (cond (is_cnode (cap_at f slot)) m 0) slot word
from_node p memory f all base radix n word guard lawful long enough is =
    let m : ℕ = n - guard.size - radix in
    let slot : ℕ = slot_of p base (word / 2 ^ m % 2 ^ radix) in
    let whole = first_choice p memory (cap_at f) all (CNode base radix guard) n word lawful in
    let chosen : choice p (CNode base radix guard) (low_bits n word) ≡ Ok (record { slot = slot; left = low_bits m word }) =
    choice_is p _ _ _ (slot_chosen p base radix guard n word long is enough) in
    ap slot_found (whole ∙ ap (found_or (cap_at f) (resolution p (cap_at f))) chosen) ∙ went_on p f slot m word (is_cnode (cap_at f slot)) refl

-- and a word that leads on begins with it
pub data LeadsOn (p : ProfileName) (f : Forest Entry) (cap : Cap) (n word slot : ℕ) : Type 0 where
  leads_on : (base radix : ℕ) (guard : Guard) → cap ≡ CNode base radix guard → guard.size ≤ n → radix ≤ n - guard.size →
      word / 2 ^ (n - guard.size) % 2 ^ guard.size ≡ guard.value →
      found_from p f (cond (is_cnode (cap_at f (slot_of p base (word / 2 ^ (n - guard.size - radix) % 2 ^ radix)))) (n - guard.size - radix) 0)
      (slot_of p base (word / 2 ^ (n - guard.size - radix) % 2 ^ radix)) word ≡ Ok slot → LeadsOn p f cap n word slot

leads_from : (p : ProfileName) (memory : ℕ) (f : Forest Entry) → ((s : ℕ) → (cap_at f s ≡ Null) ⊎ IsLawful p memory (cap_at f s)) →
    (cap : Cap) (n word slot : ℕ) → (cap ≡ Null) ⊎ IsLawful p memory cap → FirstStep p cap n word →
    slot_found (resolution p (cap_at f) cap (low_bits n word)) ≡ Ok slot → LeadsOn p f cap n word slot
leads_from p memory f all cap n word slot lawful (faults fault e) is =
    let whole = first_choice p memory (cap_at f) all cap n word lawful in
    let none : slot_found (resolution p (cap_at f) cap (low_bits n word)) ≡ Err fault =
    ap slot_found (whole ∙ ap (found_or (cap_at f) (resolution p (cap_at f))) e) in
    cc
leads_from p memory f all cap n word slot lawful (chooses base radix guard node some long enough begins e) is =
    let m : ℕ = n - guard.size - radix in
    let there : ℕ = slot_of p base (word / 2 ^ m % 2 ^ radix) in
    let whole = first_choice p memory (cap_at f) all cap n word lawful in
    let on = ap slot_found (whole ∙ ap (found_or (cap_at f) (resolution p (cap_at f))) e) ∙ went_on p f there m word (is_cnode (cap_at f there)) refl in
    leads_on base radix guard node long enough begins (sym on ∙ is)

pub leading : (p : ProfileName) (memory : ℕ) (f : Forest Entry) → ((s : ℕ) → (cap_at f s ≡ Null) ⊎ IsLawful p memory (cap_at f s)) →
    (cap : Cap) (n word slot : ℕ) → (cap ≡ Null) ⊎ IsLawful p memory cap →
    slot_found (resolution p (cap_at f) cap (low_bits n word)) ≡ Ok slot → LeadsOn p f cap n word slot
leading p memory f all cap n word slot lawful is =
    leads_from p memory f all cap n word slot lawful (first_step p memory cap n word lawful) is
