-- The slots that a retype fills.
use Rattle.std.proofs.Common.{◌≡◌, ℕ, ◌-◌, ◌+◌, ◌*◌, ◌^◌, ◌<◌, ◌≤◌, refl, arith, zero, suc, Bool, true, false, cond, Option, None, Some, IfSome, Err}
use Rattle.std.specs.List.{find, range_with_len}
use Rattle.std.proofs.lemmas.Bool.{lt-ltb, lt-leb, le-leb}
use Rattle.cap_core.specs.Limits.{max_retype_count}
use Rattle.cap_core.specs.declared.profile.ProfileName.{ProfileName}
use Rattle.cap_core.specs.declared.profile.ProfileName.TheVariants.{Wide, Narrow}
use Rattle.cap_core.specs.Numbers.{slot_size}
use Rattle.cap_core.specs.declared.capability.Guard.{Guard}
use Rattle.cap_core.specs.declared.capability.Cap.TheVariants.{CNode}
use Rattle.kernel_forest.specs.Forest.{Forest}
use Rattle.kernel_forest.specs.Entries.{Entry}
use Rattle.kernel_abstract.specs.declared.reason.Word.{Word}
use Rattle.kernel_abstract.specs.declared.reason.Reason.TheVariants.{FewSlots}
use Rattle.kernel_abstract.specs.Retyping.{first_slot}

pub few_slots : (p : ProfileName) (f : Forest Entry) (word : Word) (offset count slot base radix : ℕ) (guard : Guard) →
    offset < 2 ^ radix → 1 ≤ count → count ≤ max_retype_count → 2 ^ radix - offset < count →
    Err (FewSlots word (record { slot = slot; cap = CNode base radix guard })) ≡ first_slot p f word offset count slot (CNode base radix guard)
few_slots p f word offset count slot base radix guard low some most few =
    rw (lt-ltb offset (2 ^ radix) low, le-leb 1 count some, le-leb count max_retype_count most, lt-leb count (2 ^ radix - offset) few) refl

-- what a search finds in a range is below its end
found_or_below : (t : Bool) (a n : ℕ) (o : Option ℕ) → IfSome o (λ i. i < a + 1 + n) → IfSome (cond t (Some a) o) (λ i. i < a + suc n)
found_or_below true a n o h = omega arith
found_or_below false a n None h = tt
found_or_below false a n (Some i) h = omega (arith, h)

pub found_below : (test : ℕ → Bool) (a n : ℕ) → IfSome (find test (range_with_len a n)) (λ i. i < a + n)
found_below test a zero = tt
found_below test a (suc n) = found_or_below (test a) a n (find test (range_with_len (a + 1) n)) (found_below test (a + 1) n)

-- one of some slots ends where they do, or below
pub place_within : (p : ProfileName) (first place count top : ℕ) → place < count → first + count * slot_size p ≤ top → first + (place + 1) * slot_size p ≤ top
place_within Wide first place count top below end = omega arith
place_within Narrow first place count top below end = omega arith
