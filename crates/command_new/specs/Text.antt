-- The text of a new set-up, part by part. Nothing is promised of it by itself: where it is written, it is read before.
use Rattle.std.specs.Prelude.{ℕ, ◌+◌, ◌==◌, codes, List, ◌++◌, length, if◌then◌else◌}
use Rattle.std.specs.Fmt.{decimal}
use Rattle.std.specs.List.{flat_map, range_with_len}
use Rattle.cap_core.specs.declared.profile.ProfileName.{ProfileName}
use Rattle.kernel_abstract.specs.Plan.{Plan, tcb_place}
use Rattle.setup_values.specs.Told.{profile_text}
use Rattle.setup_format.specs.Limits.{newest_format}
use Rattle.command_new.specs.Slots.{tcb_slot, endpoint_slot, untyped_slot}

-- the keys of the top table: the format and the profile, and then the sizes
abbrev pub format_text : ProfileName → List ℕ
format_text p = codes "format = " ++ (decimal newest_format ++ (codes "\nprofile = \"" ++ (profile_text p ++ codes "\"\n")))

-- a key with a number
abbrev pub number_line : List ℕ → ℕ → List ℕ
number_line key n = key ++ (codes " = " ++ (decimal n ++ codes "\n"))

abbrev pub sizes_text : Plan → List ℕ
sizes_text plan =
    number_line (codes "memory_bits") plan.memory_bits ++ (number_line (codes "root_radix") plan.root_radix
    ++ (number_line (codes "threads") plan.threads ++ number_line (codes "endpoints") plan.endpoints))

-- the names of a thread's address and of its slot
abbrev pub thread_names : ProfileName → Plan → ℕ → List ℕ
thread_names p plan i =
    codes "thread_" ++ (decimal i ++ (codes " = " ++ (decimal (tcb_place p plan i)
    ++ (codes "\ntcb_" ++ (decimal i ++ (codes " = " ++ (decimal (tcb_slot i) ++ codes "\n")))))))

unfoldable pub new_threads_text : ProfileName → Plan → List ℕ
new_threads_text p plan =
    codes "\n[names]\n# thread_N is the address of thread N, tcb_N the slot of its capability\n" ++ flat_map (thread_names p plan) (range_with_len 0 plan.threads)

-- the name of a slot
abbrev pub slot_name : List ℕ → ℕ → ℕ → List ℕ
slot_name prefix first i = prefix ++ (codes "_" ++ (decimal i ++ (codes " = " ++ (decimal (first + i) ++ codes "\n"))))

-- the names of so many slots, from one on
abbrev pub slots_text : List ℕ → ℕ → ℕ → List ℕ
slots_text prefix first count = flat_map (slot_name prefix first) (range_with_len 0 count)

unfoldable pub objects_text : Plan → List ℕ
objects_text plan =
    codes "# the slots of the endpoints and of the untyped regions\n"
    ++ (slots_text (codes "ep") (endpoint_slot plan 0) plan.endpoints ++ slots_text (codes "untyped") (untyped_slot plan 0) (length plan.untypeds))

-- the table of an untyped region
abbrev pub untyped_text : ℕ × ℕ → List ℕ
untyped_text region = codes "\n[[untyped]]\nbase = " ++ (decimal region.0 ++ (codes "\nbits = " ++ (decimal region.1 ++ codes "\n")))

-- the table of the call
abbrev pub first_call_text : Plan → List ℕ
first_call_text plan =
    if plan.endpoints == 0 then codes "\n[[call]]\nop = \"suspend\"\nthread = \"@thread_0\"\ncap = \"@tcb_0\"\n"
    else codes "\n[[call]]\nop = \"send\"\nthread = \"@thread_0\"\ncap = \"@ep_0\"\nlabel = 7\nwords = [1]\n"

unfoldable pub new_text : ProfileName → Plan → List ℕ
new_text p plan = format_text p ++ (sizes_text plan ++ (new_threads_text p plan ++ (objects_text plan ++ (flat_map untyped_text plan.untypeds ++ first_call_text plan))))
