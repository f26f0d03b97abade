-- The lines of each reason, below the line of the call.
use Rattle.std.specs.Prelude.{codes, ℕ, ◌-◌, nat_lt, List, [], ◌∷◌, ◌++◌, length, take, if◌then◌else◌}
use Rattle.std.specs.Fmt.{decimal}
use Rattle.cap_core.specs.declared.profile.ProfileName.{ProfileName}
use Rattle.kernel_abstract.specs.declared.call.ThreadState.{ThreadState}
use Rattle.kernel_abstract.specs.declared.call.ThreadState.TheVariants.{Ready, Inactive, Sending, Receiving}
use Rattle.kernel_abstract.specs.Shown.{Shown}
use Rattle.setup_report.specs.State.{threads}
use Rattle.setup_report.specs.declared.objects.Object.{Object}
use Rattle.setup_report.specs.Naming.{Texts}
use Rattle.setup_report.specs.Text.{threads_text}
use Rattle.kernel_abstract.specs.declared.reason.Word.TheVariants.{Root, Index, SourceIndex}
use Rattle.kernel_abstract.specs.declared.reason.Reason.{Reason}
use Rattle.kernel_abstract.specs.declared.reason.Reason.TheVariants.{NoThread, NotReady, NotFound, NoDepth, NoCapability, OtherKind, NoRight, IsFull, IsEmpty, HasBadge, LongGuard, HasChildren, NotAllRights, NoSpace}
use Rattle.command_why.specs.Limits.{threads_told}
use Rattle.command_why.specs.Text.{reason_line, name_text, radix_of}
use Rattle.command_why.specs.Asked.{AskedView, asked_thread_name}
use Rattle.command_why.specs.Facts.{nothing_in, fact_lines, kind_lines, right_lines, badge_text, guard_text, children_lines}
use Rattle.command_why.specs.Lookups.{not_found_lines, no_depth_lines}
use Rattle.command_why.specs.Retypes.{retype_lines}

-- ---- the calling thread

-- the thread that makes the call; if objects stand by their addresses, with the name that spells it after it
unfoldable pub asked_thread_text : Texts → AskedView → List ℕ
asked_thread_text texts a =
    texts.object (Object.Thread a.call.thread) ++ (if texts.by_name then codes "" else name_text (asked_thread_name a))

-- the live threads: the first of them, and how many there are besides
abbrev pub more_text : ℕ → List ℕ
more_text count = if nat_lt threads_told count then codes " and " ++ (decimal (count - threads_told) ++ codes " more") else codes ""

-- which threads are live, the first few of them
unfoldable pub live_line : Texts → List ℕ → List ℕ
live_line texts [] = reason_line (codes "no thread is live")
live_line texts (first ∷ rest) =
    reason_line (codes "live threads:" ++ (threads_text texts (take threads_told (first ∷ rest)) ++ more_text (length (first ∷ rest))))

-- no live thread is at the address that makes the call
unfoldable pub no_thread_line : Texts → AskedView → List ℕ
no_thread_line texts a = reason_line (codes "no live thread is at " ++ asked_thread_text texts a)

abbrev pub no_thread_lines : Texts → ProfileName → Shown → AskedView → List ℕ
no_thread_lines texts p v a = no_thread_line texts a ++ live_line texts (threads p v)

abbrev pub does_text : Texts → ThreadState → List ℕ
does_text texts Ready = codes "is ready"
does_text texts Inactive = codes "is inactive"
does_text texts (Sending endpoint) = codes "waits to send on endpoint " ++ texts.object (Object.Endpoint endpoint)
does_text texts (Receiving endpoint) = codes "waits to receive on endpoint " ++ texts.object (Object.Endpoint endpoint)

-- what the thread that makes the call does, if it is not ready
abbrev pub not_ready_lines : Texts → AskedView → ThreadState → List ℕ
not_ready_lines texts a state =
    reason_line (codes "thread " ++ (asked_thread_text texts a ++ (codes " " ++ does_text texts state)))
    ++ reason_line (codes "a call is made by a thread that is ready")

-- ---- each reason

-- of a slot that the call names, or of a retype
abbrev pub named_lines : Texts → AskedView → Reason → List ℕ
named_lines texts a (IsFull held) = fact_lines texts a Index held (codes "the slot to fill has to be empty")
named_lines texts a (IsEmpty slot) = fact_lines texts a SourceIndex (nothing_in slot) (codes "the source has to be full")
named_lines texts a (HasBadge held) = fact_lines texts a SourceIndex held (badge_text a.call.op)
named_lines texts a (NotAllRights held) =
    fact_lines texts a Index held (codes "a cancel_badged names an endpoint's capability with all four rights")
named_lines texts a (NoSpace held) = fact_lines texts a Root held (codes "a thread's capability space begins at a CNode's capability")
named_lines texts a reason = retype_lines texts a reason

-- of the invoked capability, or of any other
abbrev pub capability_lines : Texts → AskedView → Reason → List ℕ
capability_lines texts a (NoCapability slot wanted) = kind_lines texts a (nothing_in slot) wanted
capability_lines texts a (OtherKind found wanted) = kind_lines texts a found wanted
capability_lines texts a (NoRight found needed) = right_lines texts a found needed
capability_lines texts a (LongGuard word node size most) = fact_lines texts a word node (guard_text a size (radix_of node.cap) most)
capability_lines texts a (HasChildren source child) = children_lines texts a source child
capability_lines texts a reason = named_lines texts a reason

-- the lines of a reason why a call is refused
abbrev pub reason_lines : Texts → ProfileName → Shown → AskedView → Reason → List ℕ
reason_lines texts p v a NoThread = no_thread_lines texts p v a
reason_lines texts p v a (NotReady state) = not_ready_lines texts a state
reason_lines texts p v a (NotFound word from miss) = not_found_lines texts p v a word from miss
reason_lines texts p v a (NoDepth word from most) = no_depth_lines texts p v a word from most
reason_lines texts p v a reason = capability_lines texts a reason
