-- What the laws of reasons say.
use Rattle.std.specs.Prelude.{◌≡◌, ◌<◌, ◌^◌, ℕ, List, [], ◌∷◌, ◌++◌, Some, Ok, Err, Result, option_map}
use Rattle.cap_core.specs.declared.profile.ProfileName.{ProfileName}
use Rattle.kernel_abstract.specs.declared.call.Call.{Call}
use Rattle.kernel_abstract.specs.Shown.{Shown}
use Rattle.kernel_abstract.specs.State.{State, shown}
use Rattle.kernel_abstract.specs.Step.{step, refusal_in}
use Rattle.cap_core.specs.declared.capability.Cap.{Cap}
use Rattle.kernel_forest.specs.Forest.{Forest}
use Rattle.kernel_forest.specs.Entries.{Entry, cap_at}
use Rattle.cspace_core.specs.Resolution.{Found, resolution}
use Rattle.cspace_core.specs.Target.{target_slot}
use Rattle.kernel_abstract.specs.declared.reason.Held.{Held}
use Rattle.kernel_abstract.specs.declared.reason.Miss.{Miss}
use Rattle.kernel_abstract.specs.declared.reason.Miss.TheVariants.{NoRoot, OtherGuard, TooFewBits, BitsLeft}
use Rattle.kernel_checks.specs.declared.hints.Hint.TheVariants.{Depth, Number}
use Rattle.kernel_abstract.specs.declared.reason.Word.{Word}
use Rattle.kernel_abstract.specs.Lookups.{walked, slot_by_index, slot_named}
use Rattle.kernel_checks.specs.Paths.{path}
use Rattle.kernel_checks.specs.Hints.{depth_hint, word_hint}
use Rattle.kernel_abstract.specs.Reasons.{refusal_of, with_refusal, with_fault, held_at}
use Rattle.kernel_checks.specs.Facts.{TellsTruly}
use Rattle.kernel_abstract.specs.Decode.{checked_call, reason_of}

-- a lookup finds the slot that the resolution of its bits finds, or fails with the fault of that
abbrev pub IsResolution : ProfileName → (ℕ → Cap) → ℕ → List ℕ → Type 0
IsResolution p cap_in slot bits = with_fault (walked p cap_in slot bits) ≡ resolution p cap_in (cap_in slot) bits

-- a slot that is named by an index and a depth is the target of `cspace_core`, and is refused as that is
abbrev pub IsTarget : ProfileName → (ℕ → Cap) → Word → ℕ → ℕ → ℕ → Type 0
IsTarget p cap_in word root index depth = with_refusal (slot_by_index p cap_in word root index depth) ≡ target_slot p cap_in (cap_in root) index depth

-- there is a reason exactly if the reply of the step is a refusal, and its refusal is the reply
abbrev pub IsReasonOfReply : ProfileName → State → Call → Type 0
IsReasonOfReply p A call = option_map refusal_of (reason_of p (shown A) call) ≡ refusal_in (step p A call).reply

-- each slot that the reason names holds what it says
abbrev pub IsToldTruly : ProfileName → Shown → Call → Type 0
IsToldTruly p v call = TellsTruly v.derivations (checked_call p v call)

-- the slot at which a lookup ends: the one that it finds, or the one where it fails; where it begins, if that holds no CNode
abbrev pub ending : (ℕ → Cap) → Held → Result Found Miss → Held
ending cap_in begin (Ok found) = held_at cap_in found.slot
ending cap_in begin (Err NoRoot) = begin
ending cap_in begin (Err (OtherGuard node left read)) = node
ending cap_in begin (Err (TooFewBits node left)) = node
ending cap_in begin (Err (BitsLeft found left)) = found

-- the way that is given of a lookup ends there
abbrev pub EndsThere : ProfileName → (ℕ → Cap) → ℕ → List ℕ → Type 0
EndsThere p cap_in slot bits = (before : List Held) × (path p cap_in slot bits ≡ before ++ ending cap_in (held_at cap_in slot) (walked p cap_in slot bits) ∷ [])

-- the slot that a hint names is the one that the kernel finds at that depth, which cuts no bit of the index off
abbrev pub IsDepthHint : ProfileName → (ℕ → Cap) → ℕ → ℕ → Type 0
IsDepthHint p cap_in root index =
    (depth slot : ℕ) → depth_hint p cap_in root index ≡ Some (Depth depth slot) → (index < 2 ^ depth) × (target_slot p cap_in (cap_in root) index depth ≡ Ok slot)

-- a number that is given instead of a word leads to the slot whose address the word is
abbrev pub IsNumberHint : ProfileName → Forest Entry → ℕ → ℕ → Type 0
IsNumberHint p f thread word =
    (number slot : ℕ) → word_hint p f thread word ≡ Some (Number number slot) → (slot ≡ word) × (slot_named p f (cap_at f thread) number ≡ Ok slot)
