-- The table of format 2 that stands for a table of format 1.
use Rattle.std.specs.Prelude.{codes, ℕ, ◌+◌, pos, List, [], ◌∷◌, ◌++◌, length, map, find, ◌==◌, if◌then◌else◌, Option, Some, None, option_and_then, Result, Ok}
use Rattle.std.specs.Fmt.{decimal}
use Rattle.std.specs.List.{range_with_len}
use Rattle.std.specs.Ordering.{nat_cmp, match_ordering}
use Rattle.std.specs.Cmp.Lexicographic.{slice_cmp}
use Rattle.std.specs.Result.{result_ok}
use Rattle.toml.specs.Data.{Data, string, integer, array, table, Items, no_items, item, Members, no_members, member, same_key}
use Rattle.cap_core.specs.declared.profile.ProfileName.{ProfileName}
use Rattle.kernel_abstract.specs.Plan.{Plan, tcb_place}
use Rattle.setup_values.specs.Names.{Names}
use Rattle.cap_core.specs.Checks.{◌>>=◌}
use Rattle.setup_values.specs.Kinds.{word}
use Rattle.setup_format.specs.Limits.{newest_format}
use Rattle.setup_format.specs.Faults.{Fault}
use Rattle.setup_format.specs.Setups.{document_of, first_format_setup_of}

-- ---- the members of a table

-- a table with a value at a key: in the place of the key's own, or where the order of the keys puts it
abbrev pub with_member : List ℕ → Data → Members → Members
with_member k d no_members = member k d no_members
with_member k d (member l e ms) =
    match_ordering (slice_cmp nat_cmp k l) (member k d (member l e ms)) (member l d ms) (member l e (with_member k d ms))

-- a table with the value at a key changed, if it has the key
abbrev pub with_changed : List ℕ → (Data → Data) → Members → Members
with_changed k f no_members = no_members
with_changed k f (member l d ms) = if same_key k l then member l (f d) ms else member l d (with_changed k f ms)

abbrev pub each_item : (Data → Data) → Items → Items
each_item f no_items = no_items
each_item f (item d ds) = item (f d) (each_item f ds)

-- ---- the names

-- names for so many things: of each the prefix and its number, which counts from 0, and its word
abbrev pub numbered_names : List ℕ → (ℕ → ℕ) → ℕ → Names
numbered_names prefix word count = map (λ i. (prefix ++ decimal i, word i)) (range_with_len 0 count)

-- the slots that a boot fills, from slot 2 on with the threads, then the endpoints, then the untyped regions; and the threads' addresses
abbrev pub boot_names : ProfileName → Plan → Names
boot_names p plan =
    numbered_names (codes "untyped_") (λ k. 2 + plan.threads + plan.endpoints + k) (length plan.untypeds)
    ++ (numbered_names (codes "ep_") (λ j. 2 + plan.threads + j) plan.endpoints
    ++ (numbered_names (codes "tcb_") (λ i. 2 + i) plan.threads
    ++ numbered_names (codes "thread_") (tcb_place p plan) plan.threads))

-- a table with the word of each name
abbrev pub with_words : Names → Members → Members
with_words [] ms = ms
with_words (n ∷ ns) ms = with_words ns (with_member n.0 (integer (pos n.1)) ms)

-- ---- the calls

-- the boot thread at an address
abbrev pub boot_thread_at : ProfileName → Plan → ℕ → Option ℕ
boot_thread_at p plan address = find (λ i. tcb_place p plan i == address) (range_with_len 0 plan.threads)

-- the boot thread whose address a value stands for
abbrev pub boot_thread_of : ProfileName → Plan → Data → Option ℕ
boot_thread_of p plan d = option_and_then (boot_thread_at p plan) (result_ok (word p [] d))

-- a boot thread by its name, and any other value as it is
abbrev pub thread_or : Data → Option ℕ → Data
thread_or d None = d
thread_or d (Some i) = string (codes "@thread_" ++ decimal i)

abbrev pub named_thread : ProfileName → Plan → Data → Data
named_thread p plan d = thread_or d (boot_thread_of p plan d)

abbrev pub named_call : ProfileName → Plan → Data → Data
named_call p plan (table ms) = table (with_changed (codes "thread") (named_thread p plan) ms)
named_call p plan d = d

abbrev pub named_calls : ProfileName → Plan → Data → Data
named_calls p plan (array ds) = array (each_item (named_call p plan) ds)
named_calls p plan d = d

-- ---- the table

-- the table of a set-up with this profile and plan: its format is the newest, it has names, and each call's boot thread stands by its name
abbrev pub migrated : ProfileName → Plan → Members → Members
migrated p plan ms =
    with_changed (codes "call") (named_calls p plan)
    (with_member (codes "names") (table (with_words (boot_names p plan) no_members))
    (with_member (codes "format") (integer (pos newest_format)) ms))

-- the table that the bytes of a set-up of the first format are migrated to, or its first fault
unfoldable pub migrated_bytes : List ℕ → Result Members Fault
migrated_bytes bytes = do
  document ← document_of bytes
  setup ← first_format_setup_of document
  Ok (migrated setup.profile setup.plan document)
