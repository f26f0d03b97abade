-- What a trace tells of a state: lines of five kinds, each by the address of what it is about. Objects and slots stand as
-- `texts` tells them.
use Rattle.std.specs.Prelude.{codes, ℕ, List, [], ◌∷◌, ◌++◌, map, if◌then◌else◌, Option, Some, None, option_map}
use Rattle.std.specs.List.{flat_map}
use Rattle.std.specs.Fmt.{decimal}
use Rattle.cap_core.specs.declared.profile.ProfileName.{ProfileName}
use Rattle.kernel_forest.specs.Entries.{derivations_of}
use Rattle.ipc_core.specs.declared.waiter.Offer.{Offer}
use Rattle.kernel_abstract.specs.declared.call.ThreadState.{ThreadState}
use Rattle.kernel_abstract.specs.declared.call.Inbox.{Inbox}
use Rattle.kernel_abstract.specs.Shown.{Shown, state_at, inbox_at, waiting_at}
use Rattle.kernel_abstract.specs.Waiting.{offer_at}
use Rattle.setup_report.specs.declared.live.NamedObject.{NamedObject}
use Rattle.setup_report.specs.State.{Derived, slot_of, found, named, holding_themselves, rising}
use Rattle.setup_report.specs.declared.objects.Object.{Object}
use Rattle.setup_report.specs.Naming.{Texts}
use Rattle.setup_report.specs.Text.{cap_text, message_text, state_text}
use Rattle.setup_report.specs.Report.{endpoint_text, first_sends, threads_at}

-- the text of each line, by its address, in rising order
abbrev pub Lines : Type 0
Lines = List (ℕ × List ℕ)

-- the line of an address, if it has one
abbrev pub address_line : ℕ → Option (List ℕ) → Lines
address_line address None = []
address_line address (Some text) = (address, text) ∷ []

abbrev pub line_at : (ℕ → Option (List ℕ)) → ℕ → Lines
line_at text address = address_line address (text address)

-- a line for each of some addresses that has one
abbrev pub lines_at : (ℕ → Option (List ℕ)) → List ℕ → Lines
lines_at text addresses = flat_map (line_at text) (rising addresses)

-- ---- threads: what each live thread does, and what it sends where it waits to send

-- what a thread sends that waits to send: its badge and its message
abbrev pub offer_text : Option Offer → List ℕ
offer_text None = []
offer_text (Some offer) = codes " badge " ++ (decimal offer.badge.0 ++ (codes " " ++ message_text offer.message))

abbrev pub traced_thread_text : Texts → ℕ → ThreadState → Option Offer → List ℕ
traced_thread_text texts address state offer =
    codes "thread " ++ (texts.object (Object.Thread address) ++ (codes " " ++ (state_text texts state ++ offer_text offer)))

abbrev pub thread_text_at : Texts → Shown → ℕ → Option (List ℕ)
thread_text_at texts v address = option_map (λ (s : ThreadState). traced_thread_text texts address s (offer_at v address)) (state_at v address)

abbrev pub traced_thread_lines : Texts → ProfileName → Shown → Lines
traced_thread_lines texts p v = lines_at (thread_text_at texts v) (named p NamedObject.Thread (derivations_of v.derivations))

-- ---- inboxes: the last message that was delivered to a live thread, where there is one

abbrev pub traced_inbox_text : Texts → ℕ → Inbox → List ℕ
traced_inbox_text texts address inbox =
    codes "inbox " ++ (texts.object (Object.Thread address) ++ (codes " badge " ++ (decimal inbox.badge.0 ++ (codes " " ++ message_text inbox.message))))

abbrev pub inbox_line_at : Texts → Shown → ℕ → Option (List ℕ)
inbox_line_at texts v address = option_map (traced_inbox_text texts address) (inbox_at v address)

abbrev pub inbox_lines : Texts → ProfileName → Shown → Lines
inbox_lines texts p v = lines_at (inbox_line_at texts v) (named p NamedObject.Thread (derivations_of v.derivations))

-- ---- endpoints: who waits on each live endpoint

abbrev pub endpoint_text_at : Texts → Shown → ℕ → Option (List ℕ)
endpoint_text_at texts v address = Some (endpoint_text texts address (first_sends (waiting_at v address)) (threads_at v address))

abbrev pub traced_endpoint_lines : Texts → ProfileName → Shown → Lines
traced_endpoint_lines texts p v = lines_at (endpoint_text_at texts v) (named p NamedObject.Endpoint (derivations_of v.derivations))

-- ---- slots: the capability of each full slot, the slot that it stands right below, and whether it is original

abbrev pub parent_text : Texts → Option ℕ → List ℕ
parent_text texts None = []
parent_text texts (Some parent) = codes " under " ++ texts.slot parent

abbrev pub traced_slot_text : Texts → Derived → List ℕ
traced_slot_text texts (e, parent) =
    codes "slot " ++ (texts.slot e.slot ++ (codes " " ++ (cap_text texts e.cap ++ (parent_text texts parent ++ (if e.original then codes " original" else [])))))

abbrev pub slot_at : Texts → List Derived → ℕ → Option (List ℕ)
slot_at texts list slot = option_map (traced_slot_text texts) (found list slot)

abbrev pub traced_slot_lines : Texts → List Derived → Lines
traced_slot_lines texts list = lines_at (slot_at texts list) (map slot_of list)

-- ---- selfheld CNodes, those that slots of their own name and no other slots

abbrev pub selfheld_at : Texts → ℕ → Option (List ℕ)
selfheld_at texts address = Some (codes "selfheld " ++ texts.object (Object.CNode address))

abbrev pub traced_selfheld_lines : Texts → ProfileName → List Derived → Lines
traced_selfheld_lines texts p list = lines_at (selfheld_at texts) (holding_themselves p list)
