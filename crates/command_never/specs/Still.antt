-- Still parts: their threads can do nothing but send and receive.
use Rattle.std.specs.Prelude.{◌≡◌, ◌≢◌, ◌&&◌, ◌||◌, ◌==◌, ℕ, ◌+◌, Bool, true, false, not, List, Option, Some, is_some}
use Rattle.std.specs.List.{Contains, list_all}
use Rattle.cap_core.specs.declared.profile.ProfileName.{ProfileName}
use Rattle.cap_core.specs.declared.capability.Cap.{Cap}
use Rattle.cap_core.specs.declared.capability.Cap.TheVariants.{CNode}
use Rattle.cap_core.specs.declared.capability.Guard.{Guard}
use Rattle.cap_core.specs.Numbers.{word_bits}
use Rattle.kernel_forest.specs.Entries.{cap_at}
use Rattle.kernel_abstract.specs.declared.call.ThreadState.{ThreadState}
use Rattle.kernel_abstract.specs.declared.call.ThreadState.TheVariants.{Ready}
use Rattle.kernel_abstract.specs.Reached.{IsReached}
use Rattle.kernel_abstract.specs.Shown.{Shown, state_at}
use Rattle.kernel_abstract.specs.State.{State, shown}
use Rattle.query_parts.specs.declared.listed.PartMemory.{PartMemory}
use Rattle.query_parts.specs.declared.listed.PartUse.{PartUse}
use Rattle.query_parts.specs.Parts.{Parts}
use Rattle.query_parts.specs.Listed.{part_at, parts_listed}
use Rattle.query_parts.specs.Passing.{PassesAlone}
use Rattle.setup_report.specs.State.{is_in, threads}
use Rattle.command_parts.specs.Threads.{callers}
use Rattle.command_parts.specs.Takes.{part_slots}
use Rattle.command_parts.specs.Messages.{passes_alone}
use Rattle.command_parts.specs.Text.{is_part}

-- a thread is ready, and its root slot holds a CNode whose guard and radix have all bits of a word together
pub record IsReadyToPass (p : ProfileName) (v : Shown) (thread : ℕ) : Type 0 where
  pub base : ℕ
  pub radix : ℕ
  pub guard : Guard
  pub ready : state_at v thread ≡ Some Ready
  pub root : cap_at v.derivations thread ≡ CNode base radix guard
  pub whole : guard.size + radix ≡ word_bits p

-- a part is still if its CNodes hold nothing but endpoints' capabilities, and each of its live threads is such
pub record IsStill (p : ProfileName) (parts : Parts) (i : ℕ) (v : Shown) : Type 0 where
  pub passes : PassesAlone p parts i v.derivations
  pub threads : (thread : ℕ) → parts.part_of thread ≡ Some i → is_some (state_at v thread) ≡ true → IsReadyToPass p v thread

-- two live threads that are not trusted lie in two parts, and both parts are still
pub record LieInTwoStill (p : ProfileName) (trusted : List ℕ) (memory : List PartMemory) (uses : List PartUse) (v : Shown) (from to : ℕ) : Type 0 where
  pub i : ℕ
  pub j : ℕ
  pub two : i ≢ j
  pub from_in : part_at memory from ≡ Some i
  pub to_in : part_at memory to ≡ Some j
  pub from_calls : Contains (callers p v trusted) from
  pub to_calls : Contains (callers p v trusted) to
  pub from_still : IsStill p (parts_listed memory uses) i v
  pub to_still : IsStill p (parts_listed memory uses) j v

-- so it is of each state that is shown
abbrev pub LieInTwoStillOf : ProfileName → List ℕ → List PartMemory → Shown → ℕ → ℕ → Type 0
LieInTwoStillOf p trusted memory v from to =
    (uses : List PartUse) (A : State) → IsReached p A → v ≡ shown A → LieInTwoStill p trusted memory uses v from to

-- ---- the test

-- a CNode whose guard and radix have all bits of a word together
abbrev pub has_whole_words : ProfileName → Cap → Bool
has_whole_words p (CNode base radix guard) = guard.size + radix == word_bits p
has_whole_words p cap = false

abbrev pub is_ready : Option ThreadState → Bool
is_ready (Some Ready) = true
is_ready state = false

abbrev pub is_ready_to_pass : ProfileName → Shown → ℕ → Bool
is_ready_to_pass p v thread = is_ready (state_at v thread) && has_whole_words p (cap_at v.derivations thread)

-- a thread of the part is ready to pass
abbrev pub is_ready_in : ProfileName → List PartMemory → Shown → ℕ → ℕ → Bool
is_ready_in p memory v part thread = not (is_part part (part_at memory thread)) || is_ready_to_pass p v thread

abbrev pub is_still : ProfileName → List PartMemory → Shown → ℕ → Bool
is_still p memory v part = passes_alone p (part_slots memory v.derivations) part && list_all (is_ready_in p memory v part) (threads p v)

-- a live thread is not trusted
abbrev pub is_caller : List ℕ → List ℕ → ℕ → Bool
is_caller live trusted thread = is_in thread live && not (is_in thread trusted)

-- two threads of these parts, which are still
abbrev pub are_still_callers : ProfileName → List ℕ → List PartMemory → Shown → ℕ → ℕ → ℕ → ℕ → Bool
are_still_callers p trusted memory v from i to j =
    (is_still p memory v i && is_still p memory v j) && (is_caller (threads p v) trusted from && is_caller (threads p v) trusted to)
