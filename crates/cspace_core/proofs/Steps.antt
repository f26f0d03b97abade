-- One CNode of a resolution, as the definition and as the relation have it.
use Rattle.std.proofs.Common.{◌≡◌, ◌≢◌, ℕ, zero, suc, ◌<◌, ◌≤◌, refl, ◌∙◌, subst, arith, ◌⊎◌, inl, inr, Bool, true, false, cond, not, ◌==◌, ◌&&◌, List, [], ◌∷◌, ◌++◌, length, take, drop, Some, None, Result, Ok, Err, eq-eqb, length-append}
use Rattle.std.proofs.lemmas.Bool.{eqb-true, ne_eqb, lt-ltb, le-ltb}
use Rattle.std.proofs.Math.Bool.{and-false}
use Rattle.std.proofs.Math.Seq.{take-append_seam, drop-append_seam}
use Rattle.std.specs.Int.Digits.{number_from_digits}
use Rattle.cap_core.specs.declared.profile.ProfileName.{ProfileName}
use Rattle.cap_core.specs.declared.capability.Cap.{Cap}
use Rattle.cap_core.specs.declared.capability.Cap.TheVariants.{Null, Untyped, Endpoint, CNode, Tcb}
use Rattle.cap_core.specs.declared.refusal.LookupFault.{LookupFault}
use Rattle.cap_core.specs.declared.refusal.LookupFault.TheVariants.{InvalidRoot, DepthMismatch}
use Rattle.cspace_core.specs.Bits.{low_bits, after_front}
use Rattle.cspace_core.proofs.Bits.{length-low_bits}
use Rattle.cspace_core.specs.Resolution.{Choice, Found, is_cnode, guard_bits, slot_of, choice, choice_by_radix, resolution_within, resolution}
use Rattle.cspace_core.specs.Resolves.{Chooses, invalid_root, guard_mismatch, depth_mismatch, chooses, Resolves, ends, stops, goes_on}

after_front-append : (front rest : List ℕ) → after_front front (front ++ rest) ≡ Some rest
after_front-append [] rest = refl
after_front-append (f ∷ front) rest = rw (eq-eqb f f refl) (after_front-append front rest)

head_differs : (f b : ℕ) (front bits : List ℕ) (t : Bool) → (f == b) ≡ t → (f ≡ b → after_front front bits ≡ None) →
    cond t (after_front front bits) None ≡ None
head_differs f b front bits true e h = h (eqb-true f b e)
head_differs f b front bits false e h = refl

after_front-none : (front bits : List ℕ) → ((rest : List ℕ) → bits ≢ front ++ rest) → after_front front bits ≡ None
after_front-none [] bits h = absurd (h bits refl)
after_front-none (f ∷ front) [] h = refl
after_front-none (f ∷ front) (b ∷ bits) h =
    head_differs f b front bits (f == b) refl
    (λ same. after_front-none front bits (λ rest e. let whole : b ∷ bits ≡ (f ∷ front) ++ rest = cc in h rest whole))

choice_by_radix-few : (p : ProfileName) (base radix : ℕ) (bits : List ℕ) → length bits < radix →
    choice_by_radix p base radix bits ≡ Err DepthMismatch
choice_by_radix-few p base radix bits h = rw (lt-ltb (length bits) radix h) refl

choice_by_radix-enough : (p : ProfileName) (base radix : ℕ) (index left : List ℕ) → length index ≡ radix →
    choice_by_radix p base radix (index ++ left) ≡ Ok (record { slot = slot_of p base (number_from_digits 2 index); left = left })
choice_by_radix-enough p base radix index left h =
    let enough : radix ≤ length (index ++ left) = omega (arith, length-append index left) in
    let front : take radix (index ++ left) ≡ index = rw h at (take-append_seam index left) in
    let back : drop radix (index ++ left) ≡ left = rw h at (drop-append_seam index left) in
    rw (le-ltb (length (index ++ left)) radix enough, front, back) refl

choice_of_no_cnode : (p : ProfileName) (cap : Cap) (bits : List ℕ) → is_cnode cap ≡ false → choice p cap bits ≡ Err InvalidRoot
choice_of_no_cnode p Null bits h = refl
choice_of_no_cnode p (Untyped base bits' free) bits h = refl
choice_of_no_cnode p (Endpoint base badge rights) bits h = refl
choice_of_no_cnode p (CNode base radix guard) bits h = cc
choice_of_no_cnode p (Tcb base) bits h = refl

-- the definition chooses what the relation does
pub choice_is : (p : ProfileName) (cap : Cap) (bits : List ℕ) (r : Result Choice LookupFault) → Chooses p cap bits r → choice p cap bits ≡ r
choice_is p cap bits r (invalid_root h) = choice_of_no_cnode p cap bits h
choice_is p cap bits r (guard_mismatch base radix guard e h) =
    rw (e, after_front-none (guard_bits guard) bits h) refl
choice_is p cap bits r (depth_mismatch base radix guard rest e s h) =
    rw (e, s, after_front-append (guard_bits guard) rest) (choice_by_radix-few p base radix rest h)
choice_is p cap bits r (chooses base radix guard index left e s h) =
    rw (e, s, after_front-append (guard_bits guard) (index ++ left)) (choice_by_radix-enough p base radix index left h)

pub fault_here : (p : ProfileName) (cap_in : ℕ → Cap) (below most : ℕ) (root : Cap) (bits : List ℕ) (fault : LookupFault) (all : Result Found LookupFault) →
    below < most → resolution_within p cap_in most root bits ≡ all → Chooses p root bits (Err fault) → Err fault ≡ all
unfolding resolution_within
fault_here p cap_in below zero root bits fault all h e chosen = absurd (omega arith)
fault_here p cap_in below (suc most) root bits fault all h e chosen =
    let is = choice_is p root bits (Err fault) chosen in
    rw is at e

-- no bits are left, or the slot holds no CNode
is_last : (cap : Cap) (rest word : ℕ) → (rest ≡ 0) ⊎ (is_cnode cap ≡ false) → is_cnode cap && not (length (low_bits rest word) == 0) ≡ false
is_last cap rest word (inl e) = rw (length-low_bits rest word, e) (and-false (is_cnode cap))
is_last cap rest word (inr e) = rw e refl

is_further : (cap : Cap) (rest word : ℕ) → rest ≢ 0 → is_cnode cap ≡ true → is_cnode cap && not (length (low_bits rest word) == 0) ≡ true
is_further cap rest word h e = rw (e, length-low_bits rest word, ne_eqb rest 0 h) refl

pub found_here : (p : ProfileName) (cap_in : ℕ → Cap) (below most : ℕ) (root : Cap) (bits : List ℕ) (slot rest word : ℕ) (all : Result Found LookupFault) →
    below < most → resolution_within p cap_in most root bits ≡ all →
    Chooses p root bits (Ok (record { slot = slot; left = low_bits rest word })) → (rest ≡ 0) ⊎ (is_cnode (cap_in slot) ≡ false) →
    Ok (record { slot = slot; left = rest }) ≡ all
unfolding resolution_within
found_here p cap_in below zero root bits slot rest word all h e chosen last = absurd (omega arith)
found_here p cap_in below (suc most) root bits slot rest word all h e chosen last =
    let is = choice_is p root bits (Ok (record { slot = slot; left = low_bits rest word })) chosen in
    rw (is_last (cap_in slot) rest word last, length-low_bits rest word) at (rw is at e)

pub found_further : (p : ProfileName) (cap_in : ℕ → Cap) (below most : ℕ) (root : Cap) (bits : List ℕ) (slot rest word : ℕ) (all : Result Found LookupFault) →
    below < most → resolution_within p cap_in most root bits ≡ all →
    Chooses p root bits (Ok (record { slot = slot; left = low_bits rest word })) → rest ≢ 0 → rest < below → is_cnode (cap_in slot) ≡ true →
    (m : ℕ) × ((rest < m) × (resolution_within p cap_in m (cap_in slot) (low_bits rest word) ≡ all))
unfolding resolution_within
found_further p cap_in below zero root bits slot rest word all h e chosen some less node = absurd (omega arith)
found_further p cap_in below (suc most) root bits slot rest word all h e chosen some less node =
    let is = choice_is p root bits (Ok (record { slot = slot; left = low_bits rest word })) chosen in
    (most, (omega arith, rw (is_further (cap_in slot) rest word some node) at (rw is at e)))

pub resolves_here : (p : ProfileName) (cap_in : ℕ → Cap) (root : Cap) (bits : List ℕ) (slot rest word : ℕ) →
    Chooses p root bits (Ok (record { slot = slot; left = low_bits rest word })) → (rest ≡ 0) ⊎ (is_cnode (cap_in slot) ≡ false) →
    Resolves p cap_in root bits (Ok (record { slot = slot; left = rest }))
resolves_here p cap_in root bits slot rest word chosen (inl e) =
    rw e (ends root bits (record { slot = slot; left = low_bits rest word }) chosen (length-low_bits rest word ∙ e))
resolves_here p cap_in root bits slot rest word chosen (inr e) =
    let P : ℕ → Type 0 = λ k. Resolves p cap_in root bits (Ok (record { slot = slot; left = k })) in
    subst P (length-low_bits rest word) (stops root bits (record { slot = slot; left = low_bits rest word }) chosen e)

pub resolves_further : (p : ProfileName) (cap_in : ℕ → Cap) (root : Cap) (bits : List ℕ) (slot rest word : ℕ) (r : Result Found LookupFault) →
    Chooses p root bits (Ok (record { slot = slot; left = low_bits rest word })) → rest ≢ 0 → is_cnode (cap_in slot) ≡ true →
    Resolves p cap_in (cap_in slot) (low_bits rest word) r → Resolves p cap_in root bits r
resolves_further p cap_in root bits slot rest word r chosen some node there =
    let count : length (low_bits rest word) ≡ rest = length-low_bits rest word in
    goes_on root bits (record { slot = slot; left = low_bits rest word }) r chosen (omega arith) node there

-- as many capabilities as there are bits, and one
pub all_within : (p : ProfileName) (cap_in : ℕ → Cap) (root : Cap) (n word : ℕ) →
    (most : ℕ) × ((n < most) × (resolution_within p cap_in most root (low_bits n word) ≡ resolution p cap_in root (low_bits n word)))
unfolding resolution
all_within p cap_in root n word =
    let count : length (low_bits n word) ≡ n = length-low_bits n word in
    (suc (length (low_bits n word)), (omega arith, refl))
