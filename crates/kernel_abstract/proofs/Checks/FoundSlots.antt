-- What checks that passed say of the slots and the capabilities that they found.
use Rattle.std.proofs.Common.{◌≡◌, ℕ, zero, suc, ◌+◌, ◌<◌, ◌⊎◌, inl, inr, Bool, true, false, cond, not, nat_le, ◌==◌, ◌&&◌, ◌||◌, List, [], ◌∷◌, map, Result, Ok, Err, IfOk, All, refl, sym, ap, subst, ◌∙◌, arith}
use Rattle.std.specs.List.{list_any, range_with_len}
use Rattle.std.proofs.lemmas.Bool.{false≢true, or_parts}
use Rattle.cap_core.specs.declared.profile.ProfileName.{ProfileName}
use Rattle.cap_core.specs.declared.capability.Cap.{Cap}
use Rattle.cap_core.specs.declared.capability.Cap.TheVariants.{Null}
use Rattle.cap_core.specs.declared.refusal.LookupFault.{LookupFault}
use Rattle.cap_core.specs.declared.refusal.LookupFault.TheVariants.{InvalidRoot, DepthMismatch}
use Rattle.cap_core.specs.declared.refusal.Refusal.TheVariants.{RangeError, FailedLookup}
use Rattle.cap_core.specs.Numbers.{word_bits}
use Rattle.cap_core.specs.Objects.{is_null, IsLawful}
use Rattle.kernel_forest.specs.Forest.{Forest, preorder}
use Rattle.kernel_forest.specs.Entries.{Entry, caps, cap_at, cap_in, is_at, is_full}
use Rattle.cspace_core.specs.Bits.{low_bits}
use Rattle.cspace_core.specs.Resolution.{Found, is_cnode, resolution}
use Rattle.cspace_core.specs.Target.{found_whole, target_slot}
use Rattle.cspace_core.proofs.Inside.{found_within}
use Rattle.cap_core.specs.declared.capability.Kind.{Kind}
use Rattle.kernel_abstract.specs.declared.invocation.Invocation.{Invocation}
use Rattle.cap_core.specs.Checks.{◌>>=◌}
use Rattle.kernel_abstract.specs.Memory.{IsSlotAddress}
use Rattle.kernel_abstract.specs.declared.reason.Held.{Held}
use Rattle.kernel_abstract.specs.declared.reason.Reason.{Reason}
use Rattle.kernel_abstract.specs.declared.reason.Reason.TheVariants.{NoCapability, OtherKind}
use Rattle.kernel_abstract.specs.Lookups.{is_of_kind, of_kind, ensure_empty, ensure_full}

-- where a check passes, so did those before it
pub passed : {X Y E : Type 0} (r : Result X E) (next : X → Result Y E) (y : Y) → (r >>= next) ≡ Ok y → (x : X) × ((r ≡ Ok x) × (next x ≡ Ok y))
passed (Ok x) next y h = (x, (refl, h))
passed (Err failure) next y h = cc

pub cond_passed : {X E : Type 0} (b : Bool) (r : Result X E) (failure : E) (x : X) → cond b r (Err failure) ≡ Ok x → (b ≡ true) × (r ≡ Ok x)
cond_passed true r failure x h = (refl, h)
cond_passed false r failure x h = cc

pub cond_failed : {X E : Type 0} (b : Bool) (r : Result X E) (failure : E) (x : X) → cond b (Err failure) r ≡ Ok x → (b ≡ false) × (r ≡ Ok x)
cond_failed true r failure x h = cc
cond_failed false r failure x h = (refl, h)

pub ok_same : {X E : Type 0} (x y : X) → ◌≡◌ {A = Result X E} (Ok x) (Ok y) → x ≡ y
ok_same x y h = cc

-- what holds of each invocation that comes of what passed
pub made_passed : {X : Type 0} (P : Invocation → Type 0) (make : X → Invocation) (r : Result X Reason)
    (invocation : Invocation) →
    ((x : X) → r ≡ Ok x → P (make x)) → (r >>= λ x. Ok (make x)) ≡ Ok invocation → P invocation
made_passed P make (Ok x) invocation shows h = subst P (ok_same (make x) invocation h) (shows x refl)
made_passed P make (Err reason) invocation shows h = cc

-- what holds anyway
pub whatever : {X Y : Type 0} (H : Type 0) (r : Result X Y) → H → IfOk r (λ x. H)
whatever H (Ok x) h = h
whatever H (Err y) h = tt

-- the invoked capability is of the kind that is asked for
pub kind_passed : (kind : Kind) (held : Held) (found : Cap) → of_kind kind held ≡ Ok found → (is_of_kind kind held.cap ≡ true) × (held.cap ≡ found)
kind_passed kind held found h =
    let full = cond_failed (is_null held.cap) (cond (is_of_kind kind held.cap) (Ok held.cap) (Err (OtherKind held kind))) (NoCapability held.slot kind) found h in
    let is = cond_passed (is_of_kind kind held.cap) (Ok held.cap) (OtherKind held kind) found full.1 in
    (is.0, ok_same held.cap found is.1)

-- what a slot holds, where all capabilities are lawful
lawful_in : (P : Cap → Type 0) (slot : ℕ) (es : List Entry) → All P (map (λ (e : Entry). e.cap) es) → (cap_in slot es ≡ Null) ⊎ P (cap_in slot es)
lawful_in P slot [] all = inl refl
lawful_in P slot (e ∷ es) all = elim (e.slot == slot) as (λ b. (cond b e.cap (cap_in slot es) ≡ Null) ⊎ P (cond b e.cap (cap_in slot es))) [
  | true ↦ inr (all 0 e.cap (omega arith))
  | false ↦ lawful_in P slot es (λ i d lt. all (suc i) d (omega arith))
]

pub lawful_at : (p : ProfileName) (memory : ℕ) (f : Forest Entry) → All (IsLawful p memory) (caps f) → (slot : ℕ) → (cap_at f slot ≡ Null) ⊎ IsLawful p memory (cap_at f slot)
lawful_at p memory f all slot = lawful_in (IsLawful p memory) slot (preorder f) all

-- a capability other than Null is lawful
pub lawful_full : (p : ProfileName) (memory : ℕ) (cap : Cap) → is_null cap ≡ false → (cap ≡ Null) ⊎ IsLawful p memory cap → IsLawful p memory cap
lawful_full p memory cap full (inl null) = absurd (false≢true (sym full ∙ ap is_null null))
lawful_full p memory cap full (inr lawful) = lawful

empty_in : (p : ProfileName) (memory slot : ℕ) (es : List Entry) → All (IsLawful p memory) (map (λ (e : Entry). e.cap) es) → is_null (cap_in slot es) ≡ true → list_any (is_at slot) es ≡ false
empty_in p memory slot [] all null = refl
empty_in p memory slot (e ∷ es) all null =
    elim (e.slot == slot) as (λ b. is_null (cond b e.cap (cap_in slot es)) ≡ true → (b || list_any (is_at slot) es) ≡ false) [
      | true ↦ λ h. absurd (false≢true (sym ((all 0 e.cap (omega arith)).full) ∙ h))
      | false ↦ λ h. empty_in p memory slot es (λ i d lt. all (suc i) d (omega arith)) h
    ] null

pub empty_at : (p : ProfileName) (memory : ℕ) (f : Forest Entry) → All (IsLawful p memory) (caps f) → (slot : ℕ) → is_null (cap_at f slot) ≡ true → is_full slot f ≡ false
empty_at p memory f all slot null = empty_in p memory slot (preorder f) all null

full_in : (slot : ℕ) (es : List Entry) → is_null (cap_in slot es) ≡ false → list_any (is_at slot) es ≡ true
full_in slot [] full = absurd (false≢true (sym full))
full_in slot (e ∷ es) full =
    elim (e.slot == slot) as (λ b. is_null (cond b e.cap (cap_in slot es)) ≡ false → (b || list_any (is_at slot) es) ≡ true) [
      | true ↦ λ h. refl
      | false ↦ λ h. full_in slot es h
    ] full

pub full_at : (f : Forest Entry) (slot : ℕ) → is_null (cap_at f slot) ≡ false → is_full slot f ≡ true
full_at f slot full = full_in slot (preorder f) full

-- a slot that was found, and is empty or full
pub empty_passed : (f : Forest Entry) (r : Result ℕ Reason) (slot : ℕ) → ensure_empty f r ≡ Ok slot → (is_null (cap_at f slot) ≡ true) × (r ≡ Ok slot)
empty_passed f (Err reason) slot h = cc
empty_passed f (Ok found) slot h =
    let null = cond_passed (is_null (cap_at f found)) (Ok found) _ slot h in
    let same : found ≡ slot = ok_same found slot null.1 in
    (subst (λ s. is_null (cap_at f s) ≡ true) same null.0, ap Ok same)

pub full_passed : (f : Forest Entry) (r : Result ℕ Reason) (slot : ℕ) → ensure_full f r ≡ Ok slot → is_null (cap_at f slot) ≡ false
full_passed f (Err reason) slot h = cc
full_passed f (Ok found) slot h =
    let full = cond_failed (is_null (cap_at f found)) (Ok found) _ slot h in
    let same : found ≡ slot = ok_same found slot full.1 in
    subst (λ s. is_null (cap_at f s) ≡ false) same full.0

pub whole_passed : (r : Result Found LookupFault) (slot : ℕ) → found_whole r ≡ Ok slot →
    (found : Found) × ((r ≡ Ok found) × (found.slot ≡ slot))
whole_passed (Err fault) slot h = cc
whole_passed (Ok found) slot h =
    let whole = cond_passed (found.left == 0) (Ok found.slot) (FailedLookup DepthMismatch) slot h in
    (found, (refl, ok_same found.slot slot whole.1))

-- a slot that is named from a capability stands in the memory, where the capabilities are lawful there
pub target_passed : (p : ProfileName) (memory : ℕ) (f : Forest Entry) (root : Cap) (index depth slot : ℕ) → All (IsLawful p memory) (caps f) →
    (root ≡ Null) ⊎ IsLawful p memory root → target_slot p (cap_at f) root index depth ≡ Ok slot → IsSlotAddress p memory slot
target_passed p memory f root index depth slot all rooted h =
    let node = cond_passed (is_cnode root) _ (FailedLookup InvalidRoot) slot h in
    let range = cond_passed (nat_le 1 depth && nat_le depth (word_bits p)) _ RangeError slot node.1 in
    let whole = whole_passed (resolution p (cap_at f) root (low_bits depth index)) slot range.1 in
    let stands = found_within p memory (cap_at f) root depth index whole.0 rooted (lawful_at p memory f all) whole.1.0 in
    subst (IsSlotAddress p memory) whole.1.1 (record { aligned = stands.1; within = stands.0 })

-- none of a range passes a test
any_range : (test : ℕ → Bool) (start n i : ℕ) → list_any test (range_with_len start n) ≡ false → i < n → test (start + i) ≡ false
any_range test start zero i h lt = absurd (omega arith)
any_range test start (suc n) zero h lt =
    let e : start ≡ start + 0 = omega arith in
    subst (λ k. test k ≡ false) e (or_parts (test start) _ h).0
any_range test start (suc n) (suc i) h lt =
    let e : start + 1 + i ≡ start + suc i = omega arith in
    subst (λ k. test k ≡ false) e (any_range test (start + 1) n i (or_parts (test start) _ h).1 (omega arith))

pub none_of_range : (test : ℕ → Bool) (n i : ℕ) → list_any test (range_with_len 0 n) ≡ false → i < n → test i ≡ false
none_of_range test n i h lt =
    let e : 0 + i ≡ i = omega arith in
    subst (λ k. test k ≡ false) e (any_range test 0 n i h lt)

pub not_false : (b : Bool) → not b ≡ false → b ≡ true
not_false true h = refl
not_false false h = absurd (false≢true (sym h))
