-- The text of the parts of a layout. Numbers are decimal.
use Rattle.std.specs.Prelude.{codes, ℕ, ◌==◌, ◌&&◌, ◌||◌, Bool, not, cond, List, [], ◌∷◌, ◌++◌, map, length, filter, Option, Some, None, is_some}
use Rattle.std.specs.List.{flat_map, list_any}
use Rattle.std.specs.Fmt.{decimal}
use Rattle.cap_core.specs.declared.profile.ProfileName.{ProfileName}
use Rattle.cap_core.specs.Rights.{write_bit, read_bit, grant_bit, grant_reply_bit}
use Rattle.ipc_core.specs.declared.waiter.Offer.{Offer}
use Rattle.kernel_abstract.specs.declared.call.ThreadState.{ThreadState}
use Rattle.kernel_abstract.specs.declared.call.ThreadState.TheVariants.{Ready, Inactive, Sending, Receiving}
use Rattle.kernel_abstract.specs.Decode.{has_right}
use Rattle.kernel_abstract.specs.Shown.{Shown, state_at}
use Rattle.kernel_abstract.specs.Waiting.{offer_at}
use Rattle.query_parts.specs.declared.listed.PartMemory.{PartMemory}
use Rattle.query_parts.specs.declared.listed.PartUse.{PartUse}
use Rattle.query_parts.specs.Listed.{part_at}
use Rattle.query_parts.specs.Order.{owns_endpoint}
use Rattle.setup_values.specs.Told.{profile_text}
use Rattle.setup_format.specs.Views.{SetupView}
use Rattle.setup_report.specs.State.{is_in, rising, threads, endpoints}
use Rattle.setup_report.specs.Text.{rights_text}
use Rattle.setup_report.specs.Report.{terminated, threads_at}
use Rattle.command_parts.specs.declared.takes.PartSlot.{PartSlot}
use Rattle.command_parts.specs.declared.takes.Take.{Take}
use Rattle.setup_report.specs.declared.objects.Object.{Object}
use Rattle.setup_report.specs.Naming.{Texts}
use Rattle.command_parts.specs.Messages.{passes_alone, uses_held}
use Rattle.command_parts.specs.Telling.{PartTexts}
use Rattle.command_parts.specs.Takes.{part_slots, taken_by, takes, taking}
pub use Rattle.command_parts.specs.Takes.{is_part}
use Rattle.command_parts.specs.declared.ways.Way.{Way}
use Rattle.command_parts.specs.declared.ways.Passing.{Passing}
use Rattle.command_parts.specs.declared.ways.Passing.TheVariants.{Message, Grant, Answer}

-- ---- the first lines: the version of the form, how large the set-up is, how many of its calls are made, and how many of these
-- were refused; and the threads that are trusted

abbrev pub refused_text : ℕ → List ℕ
refused_text refused = cond (refused == 0) [] (codes " refused " ++ decimal refused)

abbrev pub calls_text : ℕ → ℕ → ℕ → List ℕ
calls_text calls made refused = codes " calls " ++ (decimal calls ++ (codes " after " ++ (decimal made ++ refused_text refused)))

-- of a text with this name and version, by a set-up of which so many calls are made, and so many of these refused
abbrev pub parts_head_line : List ℕ → SetupView → ℕ → ℕ → List ℕ
parts_head_line title setup made refused =
    terminated (title ++ (codes " " ++ (profile_text setup.profile ++ (codes " memory_bits " ++ (decimal setup.plan.memory_bits
    ++ calls_text (length setup.calls) made refused)))))

-- the word `none` after a trusted thread that is not live
abbrev pub none_text : Bool → List ℕ
none_text live = cond live [] (codes " none")

abbrev pub without_line : Texts → Shown → ℕ → List ℕ
without_line texts v thread = terminated (codes "without " ++ (texts.about thread ++ none_text (is_some (state_at v thread))))

abbrev pub messages_line : Texts → Shown → ℕ → List ℕ
messages_line texts v thread = terminated (codes "messages " ++ (texts.about thread ++ none_text (is_some (state_at v thread))))

-- the first line, the threads that make no more calls, and those that only send and receive
abbrev pub head_lines : List ℕ → Texts → SetupView → ℕ → ℕ → List ℕ → List ℕ → Shown → List ℕ
head_lines title texts setup made refused without messages v =
    parts_head_line title setup made refused ++ (flat_map (without_line texts v) without ++ flat_map (messages_line texts v) messages)

-- ---- a part: its live threads, its memory and the endpoints that it may use

abbrev pub state_word : ThreadState → List ℕ
state_word Ready = codes "ready"
state_word Inactive = codes "inactive"
state_word (Sending endpoint) = codes "sending"
state_word (Receiving endpoint) = codes "receiving"

abbrev pub state_line : List ℕ → Option ThreadState → List ℕ
state_line name None = []
state_line name (Some state) = terminated (codes "  thread " ++ (name ++ (codes " " ++ state_word state)))

abbrev pub part_thread_line : PartTexts → List PartMemory → ℕ → Shown → ℕ → List ℕ
part_thread_line told memory part v thread =
    cond (is_part part (part_at memory thread)) (state_line (told.texts.about thread) (state_at v thread)) []

abbrev pub memory_line : ℕ → PartMemory → List ℕ
memory_line part m =
    cond (m.part == part) (terminated (codes "  memory " ++ (decimal m.first ++ (codes " to " ++ decimal m.last)))) []

-- an endpoint
abbrev pub endpoint_told : PartTexts → ℕ → List ℕ
endpoint_told told endpoint = told.texts.object (Object.Endpoint endpoint)

-- of a part that only passes messages: a line that says so, and what it has
abbrev pub held_line : PartTexts → PartUse → List ℕ
held_line told u =
    terminated (codes "  use " ++ (endpoint_told told u.endpoint ++ (codes " badge " ++ (decimal u.badge.0 ++ (codes " rights " ++ rights_text u.rights)))))

abbrev pub held_lines : PartTexts → List PartSlot → ℕ → List ℕ
held_lines told slots part = terminated (codes "  only messages") ++ flat_map (held_line told) (uses_held slots part)

-- 0 means any badge
abbrev pub any_badge_text : ℕ → List ℕ
any_badge_text badge = cond (badge == 0) (codes "any") (decimal badge)

abbrev pub use_line : PartTexts → ℕ → PartUse → List ℕ
use_line told part u =
    cond (u.part == part)
    (terminated (codes "  use " ++ (endpoint_told told u.endpoint ++ (codes " badge " ++ (any_badge_text u.badge.0 ++ (codes " rights " ++ rights_text u.rights)))))) []

abbrev pub use_lines : PartTexts → List PartSlot → List ℕ → List PartUse → ℕ → List ℕ
use_lines told slots alone uses part = cond (is_in part alone) (held_lines told slots part) (flat_map (use_line told part) uses)

-- some parts only pass messages
abbrev pub part_lines : ProfileName → PartTexts → List PartMemory → List PartUse → Shown → List PartSlot → List ℕ → ℕ → List ℕ
part_lines p told memory uses v slots alone part =
    terminated (codes "part " ++ told.part part)
    ++ (flat_map (part_thread_line told memory part v) (threads p v)
    ++ (flat_map (memory_line part) memory ++ use_lines told slots alone uses part))

-- ---- ways: from one part to another, by an endpoint that the one may send to, and the other receive on

-- the numbers of the parts, each once, by rising number
abbrev pub parts_of : List PartMemory → List ℕ
parts_of memory = rising (map (λ (m : PartMemory). m.part) memory)

abbrev pub endpoints_used : List PartUse → List ℕ
endpoints_used uses = rising (map (λ (u : PartUse). u.endpoint) uses)

-- a use of the part, of the endpoint, with a right
abbrev pub is_use : ℕ → ℕ → ℕ → PartUse → Bool
is_use right part endpoint u = u.part == part && (u.endpoint == endpoint && has_right right u.rights)

abbrev pub sends_with_any : ℕ → ℕ → PartUse → Bool
sends_with_any part endpoint u = is_use write_bit part endpoint u && u.badge.0 == 0

-- with any badge, if the part owns the endpoint, or has a use for any
abbrev pub may_send_any : ProfileName → List PartMemory → List PartUse → ℕ → ℕ → Bool
may_send_any p memory uses part endpoint = owns_endpoint p memory part endpoint || list_any (sends_with_any part endpoint) uses

-- the badges with which a part may send; only 0, which is any
abbrev pub badges : ProfileName → List PartMemory → List PartUse → ℕ → ℕ → List ℕ
badges p memory uses part endpoint =
    cond (may_send_any p memory uses part endpoint) (0 ∷ [])
    (rising (map (λ (u : PartUse). u.badge.0) (filter (is_use write_bit part endpoint) uses)))

abbrev pub may_part_receive : ProfileName → List PartMemory → List PartUse → ℕ → ℕ → Bool
may_part_receive p memory uses endpoint part = owns_endpoint p memory part endpoint || list_any (is_use read_bit part endpoint) uses

-- a use that a part has, and one of an endpoint
abbrev pub is_of_part : ℕ → PartUse → Bool
is_of_part part u = u.part == part

-- a use of the endpoint
abbrev pub is_of_endpoint : ℕ → PartUse → Bool
is_of_endpoint endpoint u = u.endpoint == endpoint

-- the parts that may receive on an endpoint
abbrev pub receivers_on : ProfileName → List PartMemory → List PartUse → ℕ → List ℕ
receivers_on p memory uses endpoint = filter (may_part_receive p memory uses endpoint) (parts_of memory)

-- the other parts that may receive on an endpoint
abbrev pub other_receivers : ProfileName → List PartMemory → List PartUse → ℕ → ℕ → List ℕ
other_receivers p memory uses part endpoint =
    filter (λ other. not (other == part) && may_part_receive p memory uses endpoint other) (parts_of memory)

abbrev pub way : ℕ → ℕ → ℕ → ℕ → Way
way from endpoint badge to = record { from = from; endpoint = endpoint; badge = badge; to = to }

-- what passes by a way: a message; in seL4 also a capability with it, by a use with Write and Grant; and the answer to a call, the
-- other way, by a use with Write and Grant or GrantReply. Who owns the endpoint may have all rights to it
abbrev pub hands_over : ℕ → ℕ → PartUse → Bool
hands_over part endpoint u = is_use write_bit part endpoint u && has_right grant_bit u.rights

abbrev pub is_answered : ℕ → ℕ → PartUse → Bool
is_answered part endpoint u = is_use write_bit part endpoint u && (has_right grant_bit u.rights || has_right grant_reply_bit u.rights)

abbrev pub passes_by : Passing → ℕ → ℕ → PartUse → Bool
passes_by Message part endpoint u = is_use write_bit part endpoint u
passes_by Grant part endpoint u = hands_over part endpoint u
passes_by Answer part endpoint u = is_answered part endpoint u

abbrev pub may_pass : Passing → ProfileName → List PartMemory → List PartUse → ℕ → ℕ → Bool
may_pass passing p memory uses part endpoint = owns_endpoint p memory part endpoint || list_any (passes_by passing part endpoint) uses

-- the badges of ways; if it is not messages that pass, only 0
abbrev pub badges_by : Passing → ProfileName → List PartMemory → List PartUse → ℕ → ℕ → List ℕ
badges_by Message p memory uses part endpoint = badges p memory uses part endpoint
badges_by Grant p memory uses part endpoint = cond (may_pass Grant p memory uses part endpoint) (0 ∷ []) []
badges_by Answer p memory uses part endpoint = cond (may_pass Answer p memory uses part endpoint) (0 ∷ []) []

abbrev pub ways_on : Passing → ProfileName → List PartMemory → List PartUse → ℕ → ℕ → List Way
ways_on passing p memory uses from endpoint =
    flat_map (λ badge. map (way from endpoint badge) (other_receivers p memory uses from endpoint)) (badges_by passing p memory uses from endpoint)

abbrev pub ways_from : Passing → ProfileName → List PartMemory → List PartUse → ℕ → List Way
ways_from passing p memory uses from = flat_map (ways_on passing p memory uses from) (endpoints_used uses)

-- the ways from part to part by endpoints
abbrev pub ways : Passing → ProfileName → List PartMemory → List PartUse → List Way
ways passing p memory uses = flat_map (ways_from passing p memory uses) (parts_of memory)

-- ---- the ways of messages, if some parts only pass messages: these send by what they have

abbrev pub badges_held : List PartUse → ℕ → ℕ → List ℕ
badges_held held part endpoint = rising (map (λ (u : PartUse). u.badge.0) (filter (is_use write_bit part endpoint) held))

abbrev pub held_ways_on : ProfileName → List PartMemory → List PartUse → List PartUse → ℕ → ℕ → List Way
held_ways_on p memory uses held from endpoint =
    flat_map (λ badge. map (way from endpoint badge) (filter (λ other. not (other == from)) (receivers_on p memory uses endpoint))) (badges_held held from endpoint)

abbrev pub held_ways_from : ProfileName → List PartMemory → List PartUse → List PartUse → ℕ → List Way
held_ways_from p memory uses held from = flat_map (held_ways_on p memory uses held from) (endpoints_used uses)

abbrev pub message_ways_from : ProfileName → List PartMemory → List PartUse → List PartSlot → List ℕ → ℕ → List Way
message_ways_from p memory uses slots alone from =
    cond (is_in from alone) (held_ways_from p memory uses (uses_held slots from) from) (ways_from Message p memory uses from)

abbrev pub message_ways : ProfileName → List PartMemory → List PartUse → List PartSlot → List ℕ → List Way
message_ways p memory uses slots alone = flat_map (message_ways_from p memory uses slots alone) (parts_of memory)

abbrev pub way_line : PartTexts → Way → List ℕ
way_line told w =
    terminated (codes "way " ++ (told.part w.from ++ (codes " -> " ++ (endpoint_told told w.endpoint ++ (codes " badge " ++ (any_badge_text w.badge
    ++ (codes " -> " ++ told.part w.to)))))))

abbrev pub passing_line : PartTexts → Passing → Way → List ℕ
passing_line told Message w = way_line told w
passing_line told Grant w =
    terminated (codes "grant " ++ (told.part w.from ++ (codes " -> " ++ (endpoint_told told w.endpoint ++ (codes " -> " ++ told.part w.to)))))
passing_line told Answer w =
    terminated (codes "reply " ++ (told.part w.to ++ (codes " -> " ++ (endpoint_told told w.endpoint ++ (codes " -> " ++ told.part w.from)))))

-- the same of only two parts
abbrev pub between_line : PartTexts → Passing → ProfileName → List PartMemory → List PartUse → ℕ → ℕ → ℕ → List ℕ
between_line told passing p memory uses from to endpoint =
    cond (may_pass passing p memory uses from endpoint && may_part_receive p memory uses endpoint to) (passing_line told passing (way from endpoint 0 to)) []

abbrev pub lines_of_two : PartTexts → Passing → ProfileName → List PartMemory → List PartUse → ℕ → ℕ → List ℕ
lines_of_two told passing p memory uses from to = flat_map (between_line told passing p memory uses from to) (endpoints_used uses)

-- capabilities and answers that pass between two parts in seL4, either way
abbrev pub sel4_lines : PartTexts → ProfileName → List PartMemory → List PartUse → ℕ → ℕ → List ℕ
sel4_lines told p memory uses i j =
    lines_of_two told Grant p memory uses i j ++ (lines_of_two told Grant p memory uses j i
    ++ (lines_of_two told Answer p memory uses i j ++ lines_of_two told Answer p memory uses j i))

-- ---- takes: a part may take slots from another, if full slots of the other stand below its own

abbrev pub take_line : PartTexts → Take → List ℕ
take_line told t = terminated (codes "take " ++ (told.part t.by ++ (codes " -> " ++ told.part t.of)))

-- the same of only two parts
abbrev pub take_of_two : PartTexts → List PartSlot → ℕ → ℕ → List ℕ
take_of_two told list by of = cond (is_in of (taken_by list by)) (take_line told (taking by of)) []

abbrev pub takes_between : PartTexts → List PartMemory → Shown → ℕ → ℕ → List ℕ
takes_between told memory v i j = take_of_two told (part_slots memory v.derivations) i j ++ take_of_two told (part_slots memory v.derivations) j i

-- ---- sends that wait: each may be delivered, whatever the uses are

abbrev pub offer_line : PartTexts → ℕ → ℕ → Option Offer → List ℕ
offer_line told endpoint thread None = []
offer_line told endpoint thread (Some offer) =
    terminated (codes "waiting " ++ (told.texts.about thread ++ (codes " -> " ++ (endpoint_told told endpoint ++ (codes " badge " ++ decimal offer.badge.0)))))

abbrev pub waiting_line : PartTexts → Shown → ℕ → ℕ → List ℕ
waiting_line told v endpoint thread = offer_line told endpoint thread (offer_at v thread)

abbrev pub waiting_lines : PartTexts → Shown → ℕ → List ℕ
waiting_lines told v endpoint = flat_map (waiting_line told v endpoint) (threads_at v endpoint)

abbrev pub parts_count_line : ℕ → ℕ → ℕ → ℕ → ℕ → List ℕ
parts_count_line parts ways grants replies taken =
    terminated (codes "parts " ++ (decimal parts ++ (codes " ways " ++ (decimal ways ++ (codes " grants " ++ (decimal grants
    ++ (codes " replies " ++ (decimal replies ++ (codes " takes " ++ decimal taken)))))))))

abbrev pub held_way_line : PartTexts → Way → List ℕ
held_way_line told w =
    terminated (codes "way " ++ (told.part w.from ++ (codes " -> " ++ (endpoint_told told w.endpoint ++ (codes " badge " ++ (decimal w.badge ++ (codes " -> " ++ told.part w.to)))))))

abbrev pub message_line : PartTexts → List ℕ → Way → List ℕ
message_line told alone w = cond (is_in w.from alone) (held_way_line told w) (way_line told w)

-- ---- all of it

abbrev pub way_lines : PartTexts → Passing → ProfileName → List PartMemory → List PartUse → List ℕ
way_lines told passing p memory uses = flat_map (passing_line told passing) (ways passing p memory uses)

-- the lines by the full slots, and the parts that only pass messages
unfoldable pub lines_by_slots : ProfileName → PartTexts → List PartMemory → List PartUse → Shown → List PartSlot → List ℕ → List ℕ
lines_by_slots p told memory uses v slots alone =
    flat_map (part_lines p told memory uses v slots alone) (parts_of memory)
    ++ (flat_map (message_line told alone) (message_ways p memory uses slots alone)
    ++ (way_lines told Grant p memory uses ++ (way_lines told Answer p memory uses
    ++ (flat_map (take_line told) (takes slots (parts_of memory))
    ++ (flat_map (waiting_lines told v) (endpoints p v)
    ++ parts_count_line (length (parts_of memory)) (length (message_ways p memory uses slots alone)) (length (ways Grant p memory uses))
    (length (ways Answer p memory uses)) (length (takes slots (parts_of memory))))))))

abbrev pub parts_alone : ProfileName → List PartMemory → Shown → List ℕ
parts_alone p memory v = filter (passes_alone p (part_slots memory v.derivations)) (parts_of memory)

unfoldable pub ever_lines : ProfileName → PartTexts → List PartMemory → List PartUse → Shown → List ℕ
ever_lines p told memory uses v = lines_by_slots p told memory uses v (part_slots memory v.derivations) (parts_alone p memory v)

unfoldable pub ever_text : ProfileName → PartTexts → SetupView → ℕ → ℕ → List ℕ → List ℕ → List PartMemory → List PartUse → Shown → List ℕ
ever_text p told setup made refused without messages memory uses v =
    head_lines (codes "ever 3") told.texts setup made refused without messages v ++ ever_lines p told memory uses v
