-- Where what breaks a policy comes from: slots and threads of the layout, and the calls of the set-up that filled the slots, or by which the
-- threads wait.
use Rattle.std.specs.Prelude.{◌≡◌, codes, ℕ, zero, suc, ◌-◌, ◌^◌, ◌==◌, ◌&&◌, ◌||◌, nat_le, nat_lt, Bool, true, false, not, cond, is_some, List, [], ◌∷◌, ◌++◌, length, map, find, slice_get, Option, Some, None, option_map, option_and_then, string_bytes}
use Rattle.std.specs.Option.{option_or}
use Rattle.std.specs.Fmt.{decimal}
use Rattle.cap_core.specs.declared.profile.ProfileName.{ProfileName}
use Rattle.cap_core.specs.declared.capability.Badge.{Badge}
use Rattle.cap_core.specs.declared.capability.Cap.{Cap}
use Rattle.cap_core.specs.declared.capability.Cap.TheVariants.{Untyped, Endpoint, CNode, Tcb}
use Rattle.cap_core.specs.declared.rights.Rights.{Rights}
use Rattle.cap_core.specs.Numbers.{slot_bits}
use Rattle.cap_core.specs.Objects.{is_null}
use Rattle.cap_core.specs.Rights.{write_bit, read_bit, grant_bit, grant_reply_bit}
use Rattle.kernel_forest.specs.Forest.{Forest}
use Rattle.kernel_forest.specs.Entries.{Entry, cap_at}
use Rattle.kernel_abstract.specs.declared.call.Call.{Call}
use Rattle.kernel_abstract.specs.declared.call.Reply.{Reply}
use Rattle.kernel_abstract.specs.declared.call.Reply.TheVariants.{Waiting}
use Rattle.kernel_abstract.specs.Decode.{has_right}
use Rattle.kernel_abstract.specs.State.{shown}
use Rattle.query_parts.specs.declared.listed.PartMemory.{PartMemory}
use Rattle.query_parts.specs.declared.listed.PartUse.{PartUse}
use Rattle.query_parts.specs.Listed.{part_at}
use Rattle.setup_format.specs.Views.{SetupView, CallView}
use Rattle.setup_report.specs.Behind.{state_behind}
use Rattle.setup_report.specs.Naming.{Texts, lies_in_node, node_of, object_told, slot_told}
use Rattle.setup_report.specs.Report.{terminated}
use Rattle.setup_report.specs.State.{slot_rows}
use Rattle.setup_report.specs.declared.objects.Node.{Node}
use Rattle.setup_report.specs.declared.objects.Object.{Object}
use Rattle.command_parts.specs.declared.takes.PartSlot.{PartSlot}
use Rattle.command_parts.specs.declared.takes.Take.{Take}
use Rattle.command_parts.specs.Takes.{part_slot}
use Rattle.setup_policy.specs.declared.policy.Label.{Label}
use Rattle.setup_policy.specs.declared.policy.Labels.{Labels}
use Rattle.setup_policy.specs.declared.policy.Member.{Member}
use Rattle.setup_policy.specs.declared.policy.Policy.{Policy}
use Rattle.command_policy_breaches.specs.declared.breaches.Hold.{Hold}
use Rattle.command_policy_breaches.specs.declared.held.Block.{Block}
use Rattle.command_policy_breaches.specs.declared.held.HeldRegion.{HeldRegion}
use Rattle.command_policy_breaches.specs.declared.held.Layout.{Layout}
use Rattle.command_policy_breaches.specs.declared.held.Waiting.{Waiting as Wait}
use Rattle.command_policy_breaches.specs.declared.joining.Join.{Join}
use Rattle.command_policy_breaches.specs.declared.ways.Passage.{Passage}
use Rattle.command_policy_breaches.specs.Joins.{all_joined, block_of_part, single_block}
use Rattle.command_policy_places.specs.declared.calls.PlaceCalls.{PlaceCalls}
use Rattle.command_policy_places.specs.declared.calls.Fill.{Fill}
use Rattle.command_policy_places.specs.declared.places.Place.{Place}
use Rattle.command_policy_places.specs.declared.places.Place.TheVariants.{Slot, Thread, Under}
use Rattle.command_policy_places.specs.declared.places.Role.{Role}
use Rattle.command_policy_places.specs.declared.places.Role.TheVariants.{Alone, From, To}
use Rattle.command_policy_places.specs.declared.places.Sited.{Sited}
use Rattle.command_policy_places.specs.declared.searches.Action.{Action}
use Rattle.command_policy_places.specs.declared.searches.Action.TheVariants as action
use Rattle.command_policy_places.specs.declared.searches.Wanted.{Wanted}
use Rattle.command_policy_places.specs.declared.searches.Wanted.TheVariants as wanted
use Rattle.command_policy_places.specs.declared.known.SiteNames.{SiteNames}
use Rattle.command_policy_places.specs.declared.known.Sites.{Sites}

-- ---- what capability is looked for

-- the rights, and to send also the badge, with which something can be done on an endpoint: capabilities are handed over with Grant, and in
-- an answer to a call that has Grant or GrantReply
abbrev pub lets_do : Action → Badge → Rights → Bool
lets_do (action.Send sent) badge rights = has_right write_bit rights && badge.0 == sent
lets_do action.Receive badge rights = has_right read_bit rights
lets_do action.Give badge rights = has_right write_bit rights && has_right grant_bit rights
lets_do action.Answer badge rights = has_right read_bit rights && has_right grant_bit rights
lets_do action.Call badge rights = has_right write_bit rights && (has_right grant_bit rights || has_right grant_reply_bit rights)

-- an address is one of 2^bits from the first on
abbrev pub lies_in : ℕ → ℕ → ℕ → Bool
lies_in first bits address = nat_le first address && nat_lt (address - first) (2 ^ bits)

-- a capability is: just this one to an endpoint; this region; a thread, or a region in which its control block lies; one to an endpoint,
-- by which something can be done there; a region in which an endpoint lies
abbrev pub is_wanted : Wanted → Cap → Bool
is_wanted (wanted.Use endpoint badge rights) (Endpoint base b r) = base == endpoint && (b.0 == badge.0 && r.0 == rights.0)
is_wanted (wanted.Region base bits) (Untyped first size free) = first == base && size == bits
is_wanted (wanted.Thread thread) (Tcb base) = base == thread
is_wanted (wanted.Thread thread) (Untyped first bits free) = lies_in first bits thread
is_wanted (wanted.Doing done endpoint) (Endpoint base badge rights) = base == endpoint && lets_do done badge rights
is_wanted (wanted.Around endpoint) (Untyped first bits free) = lies_in first bits endpoint
is_wanted sought cap = false

-- ---- the first slot, or the first thread that waits

-- a part is one of those that have a number, where joined parts have one; without any joined it is the part with the number
abbrev pub is_of : List Block → ℕ → Option ℕ → Bool
is_of bs number None = false
is_of bs number (Some part) = block_of_part bs part == number

abbrev pub is_found : List Block → ℕ → Wanted → PartSlot → Bool
is_found bs number sought s = is_of bs number s.part && is_wanted sought s.cap

abbrev pub slot_place : PartSlot → Place
slot_place s = Slot s.slot

-- the first slot of the parts, by address, with a capability that is looked for
abbrev pub first_slot : List PartSlot → List Block → ℕ → Wanted → Option Place
first_slot slots bs number sought = option_map slot_place (find (is_found bs number sought) slots)

-- a thread waits to send with the badge, or to receive
abbrev pub waits_to : Action → Wait → Bool
waits_to (action.Send badge) w = w.sends && w.badge == badge
waits_to action.Receive w = not w.sends
waits_to done w = false

abbrev pub is_wait_for : List PartMemory → List Block → ℕ → Action → ℕ → Wait → Bool
is_wait_for memory bs number done endpoint w = w.endpoint == endpoint && (is_of bs number (part_at memory w.thread) && waits_to done w)

abbrev pub wait_place : Wait → Place
wait_place w = Thread w.thread

-- the first thread of the parts, by address, that waits on the endpoint to do so
abbrev pub first_wait : Layout → List Block → ℕ → Action → ℕ → Option Place
first_wait l bs number done endpoint = option_map wait_place (find (is_wait_for l.memory.items bs number done endpoint) l.waits.items)

-- by what the parts can do something on an endpoint: the first slot with such a capability to it; else the first with a region in which it
-- lies; else the first thread that waits to do so
abbrev pub end_at : Layout → List PartSlot → List Block → ℕ → Action → ℕ → Option Place
end_at l slots bs number done endpoint =
    option_or (first_slot slots bs number (wanted.Doing done endpoint))
    (option_or (first_slot slots bs number (wanted.Around endpoint)) (first_wait l bs number done endpoint))

-- ---- the places of each kind of breach

abbrev pub sited : Role → Option Place → List Sited
sited role None = []
sited role (Some place) = record { role = role; place = place } ∷ []

abbrev pub from_and_to : Option Place → Option Place → List Sited
from_and_to from to = sited From from ++ sited To to

-- of a use, of its badge, and of its rights: the first slot of the part that holds just this capability
abbrev pub places_of_use : List PartSlot → PartUse → List Sited
places_of_use slots u = sited Alone (first_slot slots [] u.part (wanted.Use u.endpoint u.badge u.rights))

-- of a region: the first slot of the part that holds just this region
abbrev pub places_of_region : List PartSlot → HeldRegion → List Sited
places_of_region slots r = sited Alone (first_slot slots [] r.part (wanted.Region r.base r.bits))

-- of a hold of a trusted thread: the first slot of the part whose object has its control block
abbrev pub places_of_hold : List PartSlot → Hold → List Sited
places_of_hold slots h = sited Alone (first_slot slots [] h.part (wanted.Thread h.thread))

-- a trusted thread by its number in the policy
abbrev pub actor_place : Policy → ℕ → Option Place
actor_place c actor = option_map (λ (m : Member). Thread m.thread) (find (λ (m : Member). m.actor == actor) c.silent.items)

-- of a passage: by what its part, or the trusted thread, sends with its badge, and by what its receivers receive
abbrev pub passage_from : Policy → Layout → List PartSlot → Passage → Option Place
passage_from c l slots w =
    cond w.from.is_part (end_at l slots [] w.part (action.Send w.badge) w.endpoint) (actor_place c w.from.number)

abbrev pub passage_to : Policy → Layout → List Block → List PartSlot → Passage → Option Place
passage_to c l bs slots w = cond w.to.is_part (end_at l slots bs w.to.number action.Receive w.endpoint) (actor_place c w.to.number)

abbrev pub places_of_passage : Policy → Layout → List Block → List PartSlot → Passage → List Sited
places_of_passage c l bs slots w = from_and_to (passage_from c l slots w) (passage_to c l bs slots w)

-- of a join: by what the one part sends with Grant and the other receives; where that is not so, by what the one receives with Grant, and
-- so answers, and the other sends with Grant or GrantReply
abbrev pub places_if_both : Option Place → Option Place → List Sited → List Sited
places_if_both from to others = cond (is_some from && is_some to) (from_and_to from to) others

abbrev pub places_of_join : Layout → List PartSlot → Join → List Sited
places_of_join l slots j =
    places_if_both (end_at l slots [] j.from action.Give j.endpoint) (end_at l slots [] j.to action.Receive j.endpoint)
    (from_and_to (end_at l slots [] j.from action.Answer j.endpoint) (end_at l slots [] j.to action.Call j.endpoint))

-- of a thread that waits: itself
abbrev pub places_of_wait : Wait → List Sited
places_of_wait w = sited Alone (Some (Thread w.thread))

-- the full slot at an address
abbrev pub slot_above : List PartSlot → Option ℕ → Option PartSlot
slot_above slots None = None
slot_above slots (Some address) = find (λ (s : PartSlot). s.slot == address) slots

-- the nearest slot of a part, from one on and then up, each time to the slot that it stands right below; `steps` bounds how far
abbrev pub nearest : List PartSlot → ℕ → ℕ → Option ℕ → Option ℕ
nearest slots part zero above = None
nearest slots part (suc steps) above =
    option_and_then (λ (s : PartSlot). cond (is_of [] part s.part) (Some s.slot) (nearest slots part steps s.above)) (slot_above slots above)

-- a slot of the part that is taken from, with the nearest slot of the other above it; no way up is longer than there are slots
abbrev pub place_under : List PartSlot → Take → PartSlot → Option Place
place_under slots t s = cond (is_of [] t.of s.part) (option_map (Under s.slot) (nearest slots t.by (length slots) s.above)) None

abbrev pub first_under : List PartSlot → Take → List PartSlot → Option Place
first_under slots t [] = None
first_under slots t (s ∷ rest) = option_or (place_under slots t s) (first_under slots t rest)

-- of a take: the first slot of the one part that stands below one of the other, and the nearest of that one's above it
abbrev pub places_of_take : List PartSlot → Take → List Sited
places_of_take slots t = sited Alone (first_under slots t slots)

-- ---- what is looked at

-- the full slots by rising address, each with the part in which it lies; the numbers of joined parts; and the size of a slot
pub record AreSites (p : ProfileName) (setup : SetupView) (made : ℕ) (l : Layout) (joins : List Join) (s : Sites) : Type 0 where
  pub slots_are : s.slots.items ≡ map (part_slot l.memory.items) (slot_rows (shown (state_behind p setup made)))
  pub blocks_are : s.blocks.items ≡ all_joined (map single_block l.parts.items) joins
  pub slot_bits_is : s.slot_bits ≡ slot_bits p

-- ---- how slots and threads are told

-- the name of the object at an address, if it has one
abbrev pub label_of : List Label → ℕ → Option (List ℕ)
label_of labels base = option_map (λ (l : Label). string_bytes l.text) (find (λ (l : Label). l.base == base) labels)

-- what an object is called
abbrev pub called : Labels → Object → Option (List ℕ)
called n (Object.Thread base) = label_of n.threads.items base
called n (Object.Endpoint base) = label_of n.endpoints.items base
called n (Object.CNode base) = label_of n.nodes.items base
called n (Object.Region base bits) = label_of n.regions.items base

-- a capability names a CNode in which a slot lies
abbrev pub is_around : ℕ → ℕ → Cap → Bool
is_around bits slot (CNode base radix guard) = lies_in_node bits slot (record { base = base; radix = radix })
is_around bits slot cap = false

-- the CNode in which a slot lies, of those that full slots name
abbrev pub node_around : ℕ → List PartSlot → ℕ → Option Node
node_around bits slots slot = option_and_then (λ (s : PartSlot). node_of s.cap) (find (λ (s : PartSlot). is_around bits slot s.cap) slots)

-- a thread by its name; a slot of a CNode that has a name, by its index, and the slot of the CSpace of a thread that has one; or by addresses
abbrev pub texts_by_labels : Labels → ℕ → List PartSlot → Texts
texts_by_labels n bits slots = record {
  about = λ address. object_told (called n) (Object.Thread address);
  object = object_told (called n);
  slot = λ slot. slot_told (called n) bits slot (node_around bits slots slot);
  by_name = true;
}

-- the texts by which the code writes
abbrev pub texts_told : SiteNames → Texts
texts_told t = texts_by_labels t.labels.now t.slot_bits t.slots.now

-- ---- the calls

abbrev pub is_full_in : Forest Entry → ℕ → Bool
is_full_in f slot = not (is_null (cap_at f slot))

abbrev pub is_full_behind : ProfileName → SetupView → ℕ → ℕ → Bool
is_full_behind p setup made slot = is_full_in (state_behind p setup made).derivations slot

-- the last of the first calls that found a slot empty and left it full
abbrev pub filled_by : ProfileName → SetupView → ℕ → ℕ → Option ℕ
filled_by p setup zero slot = None
filled_by p setup (suc n) slot =
    cond (not (is_full_behind p setup n slot) && is_full_behind p setup (suc n) slot) (Some (suc n)) (filled_by p setup n slot)

-- of a slot: whether it is full behind the first calls, and which of them filled it
abbrev pub fill_of : ProfileName → SetupView → ℕ → ℕ → Fill
fill_of p setup made slot = record { slot = slot; is_full = is_full_behind p setup made slot; call = filled_by p setup made slot }

abbrev pub first_looked_at : Forest Entry → ℕ → Fill
first_looked_at f slot = record { slot = slot; is_full = is_full_in f slot; call = None }

-- the same behind one call more
abbrev pub filled_more : ℕ → Bool → Fill → Fill
filled_more made is_full fill =
    record { slot = fill.slot; is_full = is_full; call = cond (not fill.is_full && is_full) (Some made) fill.call }

abbrev pub looked_at : ℕ → Forest Entry → Fill → Fill
looked_at made f fill = filled_more made (is_full_in f fill.slot) fill

-- slots that were looked at
pub record AreFills (p : ProfileName) (setup : SetupView) (made : ℕ) (fills : List Fill) : Type 0 where
  pub slots : List ℕ
  pub are : fills ≡ map (fill_of p setup made) slots

abbrev pub is_waiting : Reply → Bool
is_waiting Waiting = true
is_waiting reply = false

abbrev pub is_wait_of : ℕ → Option Call → Option Reply → Bool
is_wait_of thread None reply = false
is_wait_of thread (Some call) None = false
is_wait_of thread (Some call) (Some reply) = call.thread == thread && is_waiting reply

-- the last of the first calls that is one of the thread, and was answered by waiting
abbrev pub waited_by : List Call → List Reply → ℕ → ℕ → Option ℕ
waited_by calls replies thread zero = None
waited_by calls replies thread (suc n) =
    cond (is_wait_of thread (slice_get calls n) (slice_get replies n)) (Some (suc n)) (waited_by calls replies thread n)

-- the last call of a thread that was answered by waiting
abbrev pub waits_since : List CallView → List Reply → ℕ → Option ℕ
waits_since calls replies thread = waited_by (map (λ (c : CallView). c.call) calls) replies thread (length replies)

abbrev pub calls_at : (ℕ → Option ℕ) → (ℕ → Option ℕ) → Sited → Place → PlaceCalls
calls_at filled waits s (Slot slot) = record { sited = s; call = filled slot; above = None }
calls_at filled waits s (Thread thread) = record { sited = s; call = waits thread; above = None }
calls_at filled waits s (Under slot above) = record { sited = s; call = filled slot; above = filled above }

-- a place with the call that filled its slot, or by which its thread waits; of a slot above another also with the call that filled that
abbrev pub place_calls : (ℕ → Option ℕ) → (ℕ → Option ℕ) → Sited → PlaceCalls
place_calls filled waits s = calls_at filled waits s s.place

abbrev pub slots_in : Place → List ℕ
slots_in (Slot slot) = slot ∷ []
slots_in (Thread thread) = []
slots_in (Under slot above) = slot ∷ above ∷ []

-- the slots that a place names
abbrev pub slots_named : Sited → List ℕ
slots_named s = slots_in s.place

-- ---- the text

-- the number of the call, or that none of the calls did it, but boot
abbrev pub since_text : Option ℕ → List ℕ
since_text None = codes "boot"
since_text (Some call) = codes "call " ++ decimal call

abbrev pub told_place : Texts → Place → Option ℕ → Option ℕ → List ℕ
told_place texts (Slot slot) call other = codes "slot " ++ (texts.slot slot ++ (codes " " ++ since_text call))
told_place texts (Thread thread) call other = codes "thread " ++ (texts.about thread ++ (codes " " ++ since_text call))
told_place texts (Under slot above) call other =
    codes "slot " ++ (texts.slot slot ++ (codes " " ++ (since_text call ++ (codes " under slot " ++ (texts.slot above ++ (codes " " ++ since_text other))))))

abbrev pub role_text : Role → List ℕ
role_text Alone = []
role_text From = codes "from "
role_text To = codes "to "

-- a place with its calls, below the line of a breach
abbrev pub place_text : Texts → PlaceCalls → List ℕ
place_text texts d = codes "  " ++ (role_text d.sited.role ++ told_place texts d.sited.place d.call d.above)

-- the line of a place
abbrev pub place_line : Texts → (ℕ → Option ℕ) → (ℕ → Option ℕ) → Sited → List ℕ
place_line texts filled waits s = terminated (place_text texts (place_calls filled waits s))
