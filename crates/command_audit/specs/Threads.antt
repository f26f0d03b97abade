-- What each live thread can name, and the lines that say so.
use Rattle.std.specs.Prelude.{◌≡◌, ◌==◌, ◌||◌, codes, ℕ, not, Bool, true, false, List, [], ◌++◌, map, filter, All, Option, Some, None}
use Rattle.std.specs.List.{flat_map, list_any}
use Rattle.std.specs.Fmt.{decimal}
use Rattle.cap_core.specs.declared.profile.ProfileName.{ProfileName}
use Rattle.kernel_forest.specs.Forest.{Forest}
use Rattle.kernel_forest.specs.Entries.{Entry, cap_at}
use Rattle.ipc_core.specs.declared.waiter.Offer.{Offer}
use Rattle.kernel_abstract.specs.declared.call.ThreadState.{ThreadState}
use Rattle.kernel_abstract.specs.Shown.{Shown, state_at}
use Rattle.kernel_abstract.specs.Waiting.{offer_at}
use Rattle.query_reach.specs.declared.held.Held.{Held}
use Rattle.query_reach.specs.declared.reached.Reached.{Reached}
use Rattle.query_reach.specs.Holding.{AreHeldSlots}
use Rattle.query_reach.specs.Lists.{AreReached}
use Rattle.setup_values.specs.Names.{Names}
use Rattle.setup_report.specs.State.{is_in, threads as live_threads}
use Rattle.setup_report.specs.Report.{terminated}
use Rattle.command_trace.specs.Lines.{offer_text}
use Rattle.command_trace.specs.Names.{name_lines}
use Rattle.command_audit.specs.declared.threads.ThreadSlots.{ThreadSlots}
use Rattle.command_audit.specs.Spaces.{told_as}
use Rattle.setup_report.specs.declared.objects.Object.{Object}
use Rattle.setup_report.specs.Naming.{Texts}
use Rattle.setup_report.specs.Text.{held_slot_text, state_text}

-- the full slots that a thread can name, by a word, and by an index and a depth alone
pub record AreSlotsOf (p : ProfileName) (f : Forest Entry) (t : ThreadSlots) : Type 0 where
  pub reached : AreReached p f t.thread t.reached.items
  pub held : AreHeldSlots p f t.thread t.held.items

-- those of each live thread that is not trusted to make no more calls, by rising address
pub record AreAllSlots (p : ProfileName) (trusted : List ℕ) (v : Shown) (list : List ThreadSlots) : Type 0 where
  pub threads : map (λ (t : ThreadSlots). t.thread) list ≡ filter (λ thread. not (is_in thread trusted)) (live_threads p v)
  pub slots : All (AreSlotsOf p v.derivations) list

-- a thread can name a slot
abbrev pub can_name : ℕ → ThreadSlots → Bool
can_name slot t = list_any (λ (r : Reached). r.slot == slot) t.reached.items || list_any (λ (h : Held). h.slot == slot) t.held.items

-- ---- before them: what the names are the addresses of, and who is trusted

abbrev pub trusted_line : Texts → ℕ → List ℕ
trusted_line texts thread = terminated (codes "without " ++ texts.about thread)

-- no line tells what a name is the address of, where names stand in place of addresses
abbrev pub naming_lines : Bool → Names → List ℕ
naming_lines false names = name_lines names
naming_lines true names = []

abbrev pub opening : Names → Texts → List ℕ → List ℕ
opening names texts trusted = naming_lines texts.by_name names ++ flat_map (trusted_line texts) trusted

-- ---- the lines: what a thread does, and what it sends where it waits to send; then each slot that it can name

abbrev pub named_thread_text : Texts → ℕ → ThreadState → Option Offer → List ℕ
named_thread_text texts address state offer = codes "thread " ++ (texts.about address ++ (codes " " ++ (state_text texts state ++ offer_text offer)))

abbrev pub named_thread_line : Texts → ℕ → Option ThreadState → Option Offer → List ℕ
named_thread_line texts address None offer = []
named_thread_line texts address (Some state) offer = terminated (named_thread_text texts address state offer)

-- of each live thread a state is shown
abbrev pub live_thread_line : Texts → Shown → ℕ → List ℕ
live_thread_line texts v address = named_thread_line texts address (state_at v address) (offer_at v address)

abbrev pub reach_line : Texts → Forest Entry → ℕ → Reached → List ℕ
reach_line texts f thread r =
    terminated (codes "  reach " ++ (texts.object (Object.Thread thread) ++ (codes " " ++ (decimal r.word ++ (codes " slot " ++ held_slot_text texts r.slot (cap_at f r.slot))))))

abbrev pub hold_line : Texts → Forest Entry → ℕ → Held → List ℕ
hold_line texts f thread h =
    terminated (codes "  hold " ++ (texts.object (Object.Thread thread) ++ (codes " " ++ (decimal h.word ++ (codes " index " ++ (decimal h.index
    ++ (codes " depth " ++ (decimal h.depth ++ (codes " slot " ++ held_slot_text texts h.slot (cap_at f h.slot))))))))))

-- a thread that is told as another one has one line in place of these
abbrev pub named_lines : Texts → Shown → ThreadSlots → Option ℕ → List ℕ
named_lines texts v t None =
    flat_map (reach_line texts v.derivations t.thread) t.reached.items
    ++ flat_map (hold_line texts v.derivations t.thread) t.held.items
named_lines texts v t (Some first) = terminated (codes "  as " ++ texts.about first)

abbrev pub slots_lines : Texts → Shown → List ThreadSlots → ThreadSlots → List ℕ
slots_lines texts v list t = live_thread_line texts v t.thread ++ named_lines texts v t (told_as list t)
