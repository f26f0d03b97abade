-- The way of each word of a call that is looked up: the CNodes that it leads through, in bits, and why it leads to no slot.
use Rattle.std.specs.Prelude.{codes, ℕ, Bool, cond, if◌then◌else◌, nat_le, ◌&&◌, List, [], ◌∷◌, ◌++◌, take, drop, Option, None, Some, Result, Ok, Err}
use Rattle.std.specs.List.{flat_map}
use Rattle.std.specs.Fmt.{decimal}
use Rattle.cap_core.specs.declared.profile.ProfileName.{ProfileName}
use Rattle.cap_core.specs.declared.capability.Cap.{Cap}
use Rattle.cap_core.specs.declared.capability.Guard.{Guard}
use Rattle.cap_core.specs.Numbers.{word_bits}
use Rattle.kernel_forest.specs.Forest.{Forest}
use Rattle.kernel_forest.specs.Entries.{Entry, cap_at}
use Rattle.cspace_core.specs.Bits.{low_bits}
use Rattle.cspace_core.specs.Resolution.{is_cnode}
use Rattle.kernel_abstract.specs.declared.call.Call.{Call}
use Rattle.kernel_abstract.specs.declared.call.Op.{Op}
use Rattle.kernel_abstract.specs.declared.call.Op.TheVariants.{Retype, CapCopy, CapMint, CapMove, CapMutate, CapDelete, CapRevoke, CancelBadged, Send, NbSend, Recv, NbRecv, SetSpace, Suspend, Resume}
use Rattle.kernel_abstract.specs.declared.call.ThreadState.{ThreadState}
use Rattle.kernel_abstract.specs.declared.call.ThreadState.TheVariants.{Ready}
use Rattle.kernel_abstract.specs.declared.reason.Held.{Held}
use Rattle.kernel_abstract.specs.declared.reason.Miss.{Miss}
use Rattle.kernel_abstract.specs.declared.reason.Miss.TheVariants.{NoRoot}
use Rattle.kernel_abstract.specs.declared.reason.Reason.{Reason}
use Rattle.kernel_abstract.specs.declared.reason.Reason.TheVariants.{NotFound}
use Rattle.kernel_abstract.specs.declared.reason.Word.TheVariants.{Invoked, Index}
use Rattle.kernel_abstract.specs.Lookups.{slot_by_word, slot_by_index}
use Rattle.kernel_abstract.specs.Reasons.{held_at}
use Rattle.kernel_abstract.specs.Shown.{Shown, state_at}
use Rattle.kernel_checks.specs.Paths.{path}
use Rattle.setup_report.specs.Naming.{Texts}
use Rattle.setup_report.specs.Report.{terminated}
use Rattle.command_why.specs.Lookups.{miss_text}
use Rattle.command_why.specs.Text.{guard_of, radix_of}

-- ---- one CNode of a way: behind the bits of its guard come as many as its radix, which choose a slot

abbrev pub behind_guard : Cap → List ℕ → List ℕ
behind_guard node bits = drop (guard_of node).size bits

abbrev pub index_bits : Cap → List ℕ → List ℕ
index_bits node bits = take (radix_of node) (behind_guard node bits)

abbrev pub behind_node : Cap → List ℕ → List ℕ
behind_node node bits = drop (radix_of node) (behind_guard node bits)

-- bits as digits
abbrev pub bits_text : List ℕ → List ℕ
bits_text bits = flat_map decimal bits

-- a guard, the index of a slot in bits, and the slot
unfoldable pub node_text : Texts → Guard → List ℕ → ℕ → List ℕ
node_text texts guard index slot =
    codes " guard " ++ (decimal guard.value ++ (codes " size " ++ (decimal guard.size
    ++ (codes " index " ++ (bits_text index ++ (codes " slot " ++ texts.slot slot))))))

-- each CNode from one on, by the bits that are left there and the slots that the way comes to behind it
abbrev pub nodes_from : Texts → Cap → List ℕ → List Held → List ℕ
nodes_from texts node bits [] = []
nodes_from texts node bits (next ∷ slots) =
    node_text texts (guard_of node) (index_bits node bits) next.slot ++ nodes_from texts next.cap (behind_node node bits) slots

-- the CNodes of a way of bits, by the slots that it comes to
abbrev pub nodes_text : Texts → List ℕ → List Held → List ℕ
nodes_text texts bits [] = []
nodes_text texts bits (first ∷ slots) = nodes_from texts first.cap bits slots

-- ---- a way: the abstract kernel says which slots it comes to, and why it leads to none

abbrev pub missed_for : Reason → Option Miss
missed_for (NotFound word from miss) = Some miss
missed_for reason = None

abbrev pub missed : {X : Type 0} → Result X Reason → Option Miss
missed (Ok found) = None
missed (Err reason) = missed_for reason

abbrev pub miss_said : Miss → List ℕ
miss_said NoRoot = codes "no CNode is there"
miss_said miss = miss_text miss

abbrev pub end_text : Option Miss → List ℕ
end_text None = codes ""
end_text (Some miss) = codes ": " ++ miss_said miss

-- a key with its number, how many of its low bits are looked up, and from which slot
unfoldable pub start_text : Texts → List ℕ → ℕ → ℕ → ℕ → List ℕ
start_text texts key number bits slot =
    codes "  way " ++ (key ++ (codes " " ++ (decimal number ++ (codes " bits " ++ (decimal bits ++ (codes " from " ++ texts.slot slot))))))

unfoldable pub way_line : Texts → ProfileName → Forest Entry → List ℕ → ℕ → ℕ → ℕ → Option Miss → List ℕ
way_line texts p f key number bits slot miss =
    terminated (start_text texts key number bits slot ++ (nodes_text texts (low_bits bits number) (path p (cap_at f) slot (low_bits bits number)) ++ end_text miss))

-- ---- the words of a thread's operation, in the order in which the kernel looks them up

-- a word is looked up whole, from the root slot of the thread
abbrev pub word_found : ProfileName → Forest Entry → ℕ → ℕ → Result ℕ Reason
word_found p f thread number = slot_by_word p f Invoked thread number

abbrev pub word_way : Texts → ProfileName → Forest Entry → ℕ → List ℕ → ℕ → List ℕ
word_way texts p f thread key number = way_line texts p f key number (word_bits p) thread (missed (word_found p f thread number))

-- an index is looked up from the CNode to which a word leads, with a depth that is not out of range
abbrev pub node_in : Held → Option ℕ
node_in held = cond (is_cnode held.cap) (Some held.slot) None

abbrev pub node_led : Forest Entry → Result ℕ Reason → Option ℕ
node_led f (Ok slot) = node_in (held_at (cap_at f) slot)
node_led f (Err reason) = None

abbrev pub index_from : Texts → ProfileName → Forest Entry → List ℕ → ℕ → ℕ → Option ℕ → List ℕ
index_from texts p f key index depth None = codes ""
index_from texts p f key index depth (Some node) =
    if nat_le 1 depth && nat_le depth (word_bits p)
    then way_line texts p f key index depth node (missed (slot_by_index p (cap_at f) Index node index depth))
    else codes ""

abbrev pub index_way : Texts → ProfileName → Forest Entry → ℕ → ℕ → List ℕ → ℕ → ℕ → List ℕ
index_way texts p f thread word key index depth = index_from texts p f key index depth (node_led f (word_found p f thread word))

abbrev pub slot_ways : Texts → ProfileName → Forest Entry → ℕ → ℕ → ℕ → ℕ → List ℕ
slot_ways texts p f thread cap index depth =
    word_way texts p f thread (codes "cap") cap ++ index_way texts p f thread cap (codes "index") index depth

abbrev pub retype_ways : Texts → ProfileName → Forest Entry → ℕ → ℕ → ℕ → ℕ → ℕ → List ℕ
retype_ways texts p f thread cap root index depth =
    word_way texts p f thread (codes "cap") cap
    ++ (word_way texts p f thread (codes "root") root ++ index_way texts p f thread root (codes "index") index depth)

abbrev pub transfer_ways : Texts → ProfileName → Forest Entry → ℕ → ℕ → ℕ → ℕ → ℕ → ℕ → ℕ → List ℕ
transfer_ways texts p f thread cap index depth src_root src_index src_depth =
    word_way texts p f thread (codes "cap") cap
    ++ (word_way texts p f thread (codes "src_root") src_root
    ++ (index_way texts p f thread cap (codes "index") index depth
    ++ index_way texts p f thread src_root (codes "src_index") src_index src_depth))

abbrev pub space_ways : Texts → ProfileName → Forest Entry → ℕ → ℕ → ℕ → List ℕ
space_ways texts p f thread cap root = word_way texts p f thread (codes "cap") cap ++ word_way texts p f thread (codes "root") root

abbrev pub op_ways : Texts → ProfileName → Forest Entry → ℕ → Op → List ℕ
op_ways texts p f thread (Retype cap kind size_bits root index depth offset count) = retype_ways texts p f thread cap root index depth
op_ways texts p f thread (CapCopy cap index depth src_root src_index src_depth rights) = transfer_ways texts p f thread cap index depth src_root src_index src_depth
op_ways texts p f thread (CapMint cap index depth src_root src_index src_depth rights word) = transfer_ways texts p f thread cap index depth src_root src_index src_depth
op_ways texts p f thread (CapMove cap index depth src_root src_index src_depth) = transfer_ways texts p f thread cap index depth src_root src_index src_depth
op_ways texts p f thread (CapMutate cap index depth src_root src_index src_depth word) = transfer_ways texts p f thread cap index depth src_root src_index src_depth
op_ways texts p f thread (CapDelete cap index depth) = slot_ways texts p f thread cap index depth
op_ways texts p f thread (CapRevoke cap index depth) = slot_ways texts p f thread cap index depth
op_ways texts p f thread (CancelBadged cap index depth) = slot_ways texts p f thread cap index depth
op_ways texts p f thread (Send cap message) = word_way texts p f thread (codes "cap") cap
op_ways texts p f thread (NbSend cap message) = word_way texts p f thread (codes "cap") cap
op_ways texts p f thread (Recv cap) = word_way texts p f thread (codes "cap") cap
op_ways texts p f thread (NbRecv cap) = word_way texts p f thread (codes "cap") cap
op_ways texts p f thread (SetSpace cap root word) = space_ways texts p f thread cap root
op_ways texts p f thread (Suspend cap) = word_way texts p f thread (codes "cap") cap
op_ways texts p f thread (Resume cap) = word_way texts p f thread (codes "cap") cap

-- a thread that is not ready looks nothing up
abbrev pub ways_of_ready : Option ThreadState → List ℕ → List ℕ
ways_of_ready (Some Ready) ways = ways
ways_of_ready state ways = codes ""

-- a line for each word of a call that is looked up, as it is in a state; the words behind a check that fails are told as well
abbrev pub ways : Texts → ProfileName → Shown → Call → List ℕ
ways texts p v call = ways_of_ready (state_at v call.thread) (op_ways texts p v.derivations call.thread call.op)

-- they are told where they are asked for
abbrev pub ways_asked : Bool → Texts → ProfileName → Shown → Call → List ℕ
ways_asked asked texts p v call = if asked then ways texts p v call else codes ""
