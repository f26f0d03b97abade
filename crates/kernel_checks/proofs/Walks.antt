-- A lookup, CNode by CNode.
use Rattle.std.proofs.Common.{◌≡◌, ◌≢◌, ℕ, zero, suc, ◌<◌, refl, sym, arith, ◌⊎◌, inl, inr, true, false, not, ◌==◌, ◌&&◌, List, length, Result, Ok, Err}
use Rattle.std.proofs.lemmas.Bool.{ne_eqb}
use Rattle.std.proofs.Math.Bool.{and-false}
use Rattle.cap_core.specs.declared.profile.ProfileName.{ProfileName}
use Rattle.cap_core.specs.declared.capability.Cap.{Cap}
use Rattle.cspace_core.specs.Bits.{low_bits}
use Rattle.cspace_core.proofs.Bits.{length-low_bits}
use Rattle.cspace_core.specs.Resolution.{Found, is_cnode}
use Rattle.kernel_abstract.specs.declared.reason.Miss.{Miss}
use Rattle.kernel_abstract.specs.Lookups.{chosen, walked_within, walked}

pub miss_here : (p : ProfileName) (cap_in : ℕ → Cap) (below most slot : ℕ) (bits : List ℕ) (miss : Miss) (all : Result Found Miss) →
    below < most → walked_within p cap_in most slot bits ≡ all → Err miss ≡ chosen p slot (cap_in slot) bits → Err miss ≡ all
unfolding walked_within
miss_here p cap_in below zero slot bits miss all h e is = absurd (omega arith)
miss_here p cap_in below (suc most) slot bits miss all h e is = rw (sym is) at e

-- no bits are left, or the slot holds no CNode
pub is_last : (cap : Cap) (rest word : ℕ) → (rest ≡ 0) ⊎ (is_cnode cap ≡ false) → is_cnode cap && not (length (low_bits rest word) == 0) ≡ false
is_last cap rest word (inl e) = rw (length-low_bits rest word, e) (and-false (is_cnode cap))
is_last cap rest word (inr e) = rw e refl

pub is_further : (cap : Cap) (rest word : ℕ) → rest ≢ 0 → is_cnode cap ≡ true → is_cnode cap && not (length (low_bits rest word) == 0) ≡ true
is_further cap rest word h e = rw (e, length-low_bits rest word, ne_eqb rest 0 h) refl

pub found_here : (p : ProfileName) (cap_in : ℕ → Cap) (below most at : ℕ) (bits : List ℕ) (slot rest word : ℕ) (all : Result Found Miss) →
    below < most → walked_within p cap_in most at bits ≡ all →
    Ok (record { slot = slot; left = low_bits rest word }) ≡ chosen p at (cap_in at) bits → (rest ≡ 0) ⊎ (is_cnode (cap_in slot) ≡ false) →
    Ok (record { slot = slot; left = rest }) ≡ all
unfolding walked_within
found_here p cap_in below zero at bits slot rest word all h e is last = absurd (omega arith)
found_here p cap_in below (suc most) at bits slot rest word all h e is last =
    rw (is_last (cap_in slot) rest word last, length-low_bits rest word) at (rw (sym is) at e)

pub found_further : (p : ProfileName) (cap_in : ℕ → Cap) (below most at : ℕ) (bits : List ℕ) (slot rest word : ℕ) (all : Result Found Miss) →
    below < most → walked_within p cap_in most at bits ≡ all →
    Ok (record { slot = slot; left = low_bits rest word }) ≡ chosen p at (cap_in at) bits → rest ≢ 0 → rest < below → is_cnode (cap_in slot) ≡ true →
    (m : ℕ) × ((rest < m) × (walked_within p cap_in m slot (low_bits rest word) ≡ all))
unfolding walked_within
found_further p cap_in below zero at bits slot rest word all h e is some less node = absurd (omega arith)
found_further p cap_in below (suc most) at bits slot rest word all h e is some less node =
    (most, (omega arith, rw (is_further (cap_in slot) rest word some node) at (rw (sym is) at e)))

pub all_within : (p : ProfileName) (cap_in : ℕ → Cap) (at n word : ℕ) →
    (most : ℕ) × ((n < most) × (walked_within p cap_in most at (low_bits n word) ≡ walked p cap_in at (low_bits n word)))
unfolding walked
all_within p cap_in at n word =
    let count : length (low_bits n word) ≡ n = length-low_bits n word in
    (suc (length (low_bits n word)), (omega arith, refl))
