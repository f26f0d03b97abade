-- The lines of a lookup that fails: where it begins, the way that it goes, why it ends, and what would lead to a slot.
use Rattle.std.specs.Prelude.{codes, ℕ, zero, suc, ◌-◌, min, nat_lt, List, [], ◌∷◌, ◌++◌, length, take, slice_get, if◌then◌else◌, Option, Some, None}
use Rattle.std.specs.List.{flat_map}
use Rattle.std.specs.Fmt.{decimal}
use Rattle.cap_core.specs.declared.profile.ProfileName.{ProfileName}
use Rattle.cap_core.specs.declared.capability.Guard.{Guard}
use Rattle.cap_core.specs.Numbers.{word_bits}
use Rattle.kernel_forest.specs.Entries.{cap_at}
use Rattle.cspace_core.specs.Bits.{low_bits}
use Rattle.kernel_abstract.specs.Shown.{Shown}
use Rattle.kernel_checks.specs.declared.hints.Hint.{Hint}
use Rattle.kernel_checks.specs.declared.hints.Hint.TheVariants.{Depth, Number}
use Rattle.kernel_abstract.specs.declared.reason.Held.{Held}
use Rattle.kernel_abstract.specs.declared.reason.Miss.{Miss}
use Rattle.kernel_abstract.specs.declared.reason.Miss.TheVariants.{NoRoot, OtherGuard, TooFewBits, BitsLeft}
use Rattle.kernel_abstract.specs.declared.reason.Word.{Word}
use Rattle.kernel_checks.specs.Hints.{word_hint, index_hint}
use Rattle.kernel_checks.specs.Paths.{path}
use Rattle.setup_report.specs.Naming.{Texts}
use Rattle.command_why.specs.Keys.{KeyWords, key_words}
use Rattle.command_why.specs.Words.{word_key, value_of, depth_key, depth_of, is_whole, root_of}
use Rattle.command_why.specs.Text.{reason_line, slot_and_content, guard_of, radix_of}
use Rattle.command_why.specs.Asked.{AskedView, word_said, depth_said, led_said}

-- ---- where it begins

abbrev pub start_line : Texts → AskedView → Word → Held → List ℕ
start_line texts a word from =
    if is_whole word then reason_line (word_said a word ++ (codes " is looked up from the thread's root " ++ slot_and_content texts from))
    else reason_line (word_said a word ++ (codes " " ++ (depth_said a word ++ (codes " is looked up from " ++ slot_and_content texts from))))

-- it begins at no CNode: the thread has no space, or an index is looked up from another capability
abbrev pub no_root_lines : Texts → AskedView → Word → Held → List ℕ
no_root_lines texts a word from =
    if is_whole word then start_line texts a word from ++ reason_line (codes "the thread has no capability space")
    else reason_line (led_said texts a (root_of word) from) ++ reason_line (word_key word ++ codes " is looked up from a CNode's capability")

-- ---- the way: the slots between the first and the last, and the last with what is in it

abbrev pub by_text : ℕ → List ℕ
by_text zero = codes ""
by_text (suc zero) = codes " by slot"
by_text (suc (suc count)) = codes " by slots"

-- each of some slots after a space
abbrev pub next_slot_text : Texts → Held → List ℕ
next_slot_text texts held = codes " " ++ texts.slot held.slot

abbrev pub held_slots_text : Texts → List Held → List ℕ
held_slots_text texts slots = flat_map (next_slot_text texts) slots

-- to the last of some slots, by those before it
unfoldable pub lookup_text : Texts → List Held → Held → List ℕ
lookup_text texts between last =
    codes "it comes" ++ (by_text (length between) ++ (held_slots_text texts between ++ (codes " to " ++ slot_and_content texts last)))

abbrev pub way_to : Texts → List Held → Option Held → List ℕ
way_to texts between None = codes ""
way_to texts between (Some last) = reason_line (lookup_text texts between last)

abbrev pub way_on : Texts → List Held → List ℕ
way_on texts slots = way_to texts (take (length slots - 1) slots) (slice_get slots (length slots - 1))

-- the slots after the first
abbrev pub lookup_line : Texts → List Held → List ℕ
lookup_line texts [] = codes ""
lookup_line texts (first ∷ rest) = way_on texts rest

-- ---- why it ends

unfoldable pub guard_lookup_text : Guard → ℕ → ℕ → List ℕ
guard_lookup_text guard left read =
    if nat_lt left guard.size then codes "its guard has size " ++ (decimal guard.size ++ (codes "; bits left: " ++ decimal left))
    else codes "its guard is " ++ (decimal guard.value ++ (codes " of size " ++ (decimal guard.size
    ++ (codes "; the next " ++ (decimal guard.size ++ (codes " of the " ++ (decimal left ++ (codes " bits left read " ++ decimal read))))))))

abbrev pub miss_text : Miss → List ℕ
miss_text NoRoot = codes ""
miss_text (OtherGuard node left read) = guard_lookup_text (guard_of node.cap) left read
miss_text (TooFewBits node left) =
    codes "its radix is " ++ (decimal (radix_of node.cap) ++ (codes "; bits left behind the guard: " ++ decimal left))
miss_text (BitsLeft found left) = codes "no CNode is there; bits left over: " ++ decimal left

-- ---- what would lead to a slot

abbrev pub would_text : Word → List ℕ
would_text word = if is_whole word then codes " would lead to slot " else codes " would name slot "

unfoldable pub hint_text : Texts → List ℕ → ℕ → List ℕ → ℕ → List ℕ
hint_text texts key number would slot = key ++ (codes " " ++ (decimal number ++ (would ++ texts.slot slot)))

abbrev pub hint_line : Texts → Word → Option Hint → List ℕ
hint_line texts word None = codes ""
hint_line texts word (Some (Depth depth slot)) = reason_line (hint_text texts (depth_key word) depth (codes " would name slot ") slot)
hint_line texts word (Some (Number number slot)) = reason_line (hint_text texts (word_key word) number (would_text word) slot)

abbrev pub hint_of : ProfileName → Shown → KeyWords → Word → Held → Option Hint
hint_of p v words word from =
    if is_whole word then word_hint p v.derivations from.slot (value_of words word)
    else index_hint p (cap_at v.derivations) from.slot (value_of words word) (depth_of words word)

-- ---- all of it

-- a lookup takes all bits of a word, and as many of an index as its depth says
abbrev pub levels : ProfileName → KeyWords → Word → ℕ
levels p words word = if is_whole word then word_bits p else min (depth_of words word) (word_bits p)

abbrev pub held_path : ProfileName → Shown → KeyWords → Word → Held → List Held
held_path p v words word from = path p (cap_at v.derivations) from.slot (low_bits (levels p words word) (value_of words word))

abbrev pub missed_lines : Texts → ProfileName → Shown → AskedView → Word → Held → Miss → List ℕ
missed_lines texts p v a word from miss =
    start_line texts a word from
    ++ (lookup_line texts (held_path p v (key_words a.call.op) word from)
    ++ (reason_line (miss_text miss)
    ++ hint_line texts word (hint_of p v (key_words a.call.op) word from)))

-- the lines of a lookup that finds no slot
abbrev pub not_found_lines : Texts → ProfileName → Shown → AskedView → Word → Held → Miss → List ℕ
not_found_lines texts p v a word from NoRoot = no_root_lines texts a word from
not_found_lines texts p v a word from miss = missed_lines texts p v a word from miss

-- the lines of a depth that is out of range
abbrev pub no_depth_lines : Texts → ProfileName → Shown → AskedView → Word → Held → ℕ → List ℕ
no_depth_lines texts p v a word from most =
    reason_line (depth_said a word ++ (codes " is not from 1 to " ++ decimal most))
    ++ hint_line texts word (hint_of p v (key_words a.call.op) word from)
