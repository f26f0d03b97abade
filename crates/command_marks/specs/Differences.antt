-- Where a set-up is another one than the exercise: the first place in which the two differ, answers left out.
use Rattle.std.specs.Prelude.{codes, ℕ, ◌+◌, ◌==◌, ◌&&◌, ◌||◌, not, find, Bool, true, false, if◌then◌else◌, List, [], ◌∷◌, ◌++◌, map, slice_get, Option, Some, None, option_and_then, option_map, Result, Ok, Err}
use Rattle.std.specs.Cmp.Lexicographic.{pointwise}
use Rattle.std.specs.Fmt.{decimal}
use Rattle.std.specs.List.{common_prefix_len}
use Rattle.std.specs.Ordering.{int_eq}
use Rattle.std.specs.Str.{bytes_eq}
use Rattle.toml.specs.Data.{Data, Members, as_array, as_integer, as_str, at, get, get_member}
use Rattle.cap_core.specs.Limits.{max_message_words}
use Rattle.cap_core.specs.contracts.profile.ProfileNamePartialEq.TheImpl as profile_eq
use Rattle.kernel_abstract.specs.declared.call.Call.{Call}
use Rattle.kernel_abstract.specs.contracts.call.CallPartialEq.TheImpl as call_eq
use Rattle.setup_values.specs.declared.operations.OpName.{OpName}
use Rattle.setup_values.specs.declared.values.Wrong.{Wrong}
use Rattle.setup_values.specs.Kinds.{array_in}
use Rattle.setup_values.specs.Operations.{call_keys}
use Rattle.setup_format.specs.Operations.{op_name}
use Rattle.setup_format.specs.Views.{CallView, ReadView, SetupView}
use Rattle.command_marks.specs.Against.{same_region}

-- ---- what is booted

-- the keys of the top table that say it, each with whether the set-ups are the same in it
abbrev pub boot_parts : SetupView → SetupView → List (List ℕ × Bool)
boot_parts a b =
    (codes "profile", profile_eq.ghosts.eq a.profile b.profile)
    ∷ (codes "memory_bits", a.plan.memory_bits == b.plan.memory_bits)
    ∷ (codes "root_radix", a.plan.root_radix == b.plan.root_radix)
    ∷ (codes "threads", a.plan.threads == b.plan.threads)
    ∷ (codes "endpoints", a.plan.endpoints == b.plan.endpoints)
    ∷ (codes "untyped", pointwise same_region a.plan.untypeds b.plan.untypeds) ∷ []

-- the first of them in which they are not the same
abbrev pub boot_key : SetupView → SetupView → Option (List ℕ)
boot_key a b = option_map (λ part. part.0) (find (λ part. not part.1) (boot_parts a b))

-- ---- the key of a call

abbrev pub same_option : {A : Type 0} → (A → A → Bool) → Option A → Option A → Bool
same_option same None None = true
same_option same (Some a) (Some b) = same a b
same_option same a b = false

-- the same number or the same text, where they are one
abbrev pub same_scalar : Data → Data → Bool
same_scalar a b = same_option int_eq (as_integer a) (as_integer b) && same_option bytes_eq (as_str a) (as_str b)

abbrev pub same_elements : Result (List Data) Wrong → Result (List Data) Wrong → Bool
same_elements (Ok a) (Ok b) = pointwise same_scalar a b
same_elements (Err fault) (Err other) = true
same_elements a b = false

-- the words of a message, where the value is an array of so many
abbrev pub message_in : Data → Result (List Data) Wrong
message_in d = array_in 0 max_message_words (as_array d)

-- two values of a call's key are spelt as the same
abbrev pub same_value : Data → Data → Bool
same_value a b = same_scalar a b && same_elements (message_in a) (message_in b)

-- what makes no difference: an answer, and which client makes the call
abbrev pub is_left_out : List ℕ → Bool
is_left_out key = bytes_eq key (codes "expect") || bytes_eq key (codes "client")

abbrev pub value_at : Option Data → List ℕ → Option Data
value_at call key = option_and_then (get key) call

abbrev pub same_at : Option Data → Option Data → List ℕ → Bool
same_at a b key = is_left_out key || same_option same_value (value_at a key) (value_at b key)

-- the first key of a call with that operation whose values in the two calls differ
abbrev pub differing_key : OpName → Option Data → Option Data → Option (List ℕ)
differing_key op a b = find (λ key. not (same_at a b key)) (call_keys op)

-- the value that spells the call at a place of a set-up, 0 the first
abbrev pub spelt_call : Members → ℕ → Option Data
spelt_call table i = option_and_then (at i) (get_member (codes "call") table)

-- ---- the calls

-- how many calls at the front are the same
abbrev pub same_front : List Call → List Call → ℕ
same_front a b = common_prefix_len call_eq.ghosts.eq a b

-- ---- the text

abbrev pub differs_at : List ℕ → List ℕ
differs_at place = codes "differs at " ++ place

abbrev pub top_key : List ℕ → List ℕ
top_key key = codes "top key " ++ key

-- the call of that number, and what is to be said of it
abbrev pub call_number : ℕ → List ℕ → List ℕ
call_number number what = codes "call " ++ (decimal number ++ (codes " " ++ what))

-- a call that both have, by its first key that differs; where there is none, names in it stand for other words
abbrev pub call_key : ℕ → Option (List ℕ) → List ℕ
call_key number (Some key) = differs_at (call_number number (codes "key " ++ key))
call_key number None = differs_at (top_key (codes "names"))

-- the call at a place, 0 the first: of the exercise and of the set-up, where they have one there
abbrev pub call_differs : Members → Members → ℕ → Option Call → Option Call → List ℕ
call_differs asked given i (Some call) (Some other) = call_key (i + 1) (differing_key (op_name call.op) (spelt_call asked i) (spelt_call given i))
call_differs asked given i (Some call) None = differs_at (call_number (i + 1) (codes "missing"))
call_differs asked given i None (Some other) = differs_at (call_number (i + 1) (codes "added"))
call_differs asked given i None None = codes "differs"

-- the first call that is not the same in both
abbrev pub first_call : Members → Members → List Call → List Call → List ℕ
first_call asked given a b = call_differs asked given (same_front a b) (slice_get a (same_front a b)) (slice_get b (same_front a b))

-- what is booted, and else the calls
abbrev pub place_by : Option (List ℕ) → List ℕ → List ℕ
place_by (Some key) calls = differs_at (top_key key)
place_by None calls = calls

-- of an exercise, and of a set-up that is another one
abbrev pub differs_text : ReadView → ReadView → List ℕ
differs_text exercise read =
    place_by (boot_key exercise.setup read.setup)
    (first_call exercise.table read.table (map (λ (c : CallView). c.call) exercise.setup.calls) (map (λ (c : CallView). c.call) read.setup.calls))
