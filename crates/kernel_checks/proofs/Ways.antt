-- The way of a lookup, CNode by CNode.
use Rattle.std.proofs.Common.{◌≡◌, ℕ, zero, suc, ◌<◌, refl, sym, ◌∙◌, arith, not, ◌==◌, ◌&&◌, List, [], ◌∷◌, ◌++◌, length, append_assoc, Result, Ok, Err, false, true}
use Rattle.cap_core.specs.declared.profile.ProfileName.{ProfileName}
use Rattle.cap_core.specs.declared.capability.Cap.{Cap}
use Rattle.cspace_core.specs.Bits.{low_bits}
use Rattle.cspace_core.specs.Resolution.{is_cnode}
use Rattle.cspace_core.proofs.Bits.{length-low_bits}
use Rattle.kernel_abstract.specs.declared.reason.Held.{Held}
use Rattle.kernel_abstract.specs.declared.reason.Miss.{Miss}
use Rattle.kernel_abstract.specs.Reasons.{held_at}
use Rattle.slot_core.specs.declared.slot.Slot.{Slot}
use Rattle.kernel_abstract.specs.Lookups.{chosen}
use Rattle.kernel_checks.specs.Seen.{choice_seen}
use Rattle.kernel_checks.specs.Paths.{path_within, path}

pub path_missed : (p : ProfileName) (cap_in : ℕ → Cap) (below most at : ℕ) (bits : List ℕ) (miss : Miss) (before all : List Held) →
    below < most → before ++ path_within p cap_in most at bits ≡ all → Err miss ≡ chosen p at (cap_in at) bits → before ++ held_at cap_in at ∷ [] ≡ all
unfolding path_within
path_missed p cap_in below zero at bits miss before all h e is = absurd (omega arith)
path_missed p cap_in below (suc most) at bits miss before all h e is = rw (sym is) at e

pub path_ended : (p : ProfileName) (cap_in : ℕ → Cap) (below most at : ℕ) (bits : List ℕ) (slot rest word : ℕ) (before all : List Held) →
    below < most → before ++ path_within p cap_in most at bits ≡ all →
    Ok (record { slot = slot; left = low_bits rest word }) ≡ chosen p at (cap_in at) bits → is_cnode (cap_in slot) && not (rest == 0) ≡ false →
    (before ++ held_at cap_in at ∷ []) ++ held_at cap_in slot ∷ [] ≡ all
unfolding path_within
path_ended p cap_in below zero at bits slot rest word before all h e is last = absurd (omega arith)
path_ended p cap_in below (suc most) at bits slot rest word before all h e is last =
    append_assoc before (held_at cap_in at ∷ []) (held_at cap_in slot ∷ []) ∙ (rw (length-low_bits rest word, last) at (rw (sym is) at e))

pub path_further : (p : ProfileName) (cap_in : ℕ → Cap) (below most at : ℕ) (bits : List ℕ) (slot rest word : ℕ) (before all : List Held) →
    below < most → before ++ path_within p cap_in most at bits ≡ all →
    Ok (record { slot = slot; left = low_bits rest word }) ≡ chosen p at (cap_in at) bits → rest < below → is_cnode (cap_in slot) && not (rest == 0) ≡ true →
    (m : ℕ) × ((rest < m) × ((before ++ held_at cap_in at ∷ []) ++ path_within p cap_in m slot (low_bits rest word) ≡ all))
unfolding path_within
path_further p cap_in below zero at bits slot rest word before all h e is less goes = absurd (omega arith)
path_further p cap_in below (suc most) at bits slot rest word before all h e is less goes =
    (most, (omega arith, append_assoc before (held_at cap_in at ∷ []) _ ∙ (rw (length-low_bits rest word, goes) at (rw (sym is) at e))))

pub path_begins : (p : ProfileName) (cap_in : ℕ → Cap) (at n word : ℕ) →
    (most : ℕ) × ((n < most) × ([] ++ path_within p cap_in most at (low_bits n word) ≡ path p cap_in at (low_bits n word)))
unfolding path
path_begins p cap_in at n word =
    let count : length (low_bits n word) ≡ n = length-low_bits n word in
    (suc (length (low_bits n word)), (omega arith, refl))

-- a CNode that chooses no slot
pub path_refused : (p : ProfileName) (cap_in : ℕ → Cap) (below most at : ℕ) (bits : List ℕ) (word : ℕ) (r : Result (Slot × ℕ) Miss) (before all : List Held) →
    below < most → before ++ path_within p cap_in most at bits ≡ all → choice_seen p word r ≡ chosen p at (cap_in at) bits →
    ((x : Slot × ℕ) → r ≡ Ok x → ⊥) → before ++ held_at cap_in at ∷ [] ≡ all
path_refused p cap_in below most at bits word (Ok x) before all h e is other = absurd (other x refl)
path_refused p cap_in below most at bits word (Err miss) before all h e is other = path_missed p cap_in below most at bits miss before all h e is
