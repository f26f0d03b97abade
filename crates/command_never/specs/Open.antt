-- The text of an answer: whether one thread's part is kept from another's, and what is open between them. Numbers are decimal.
use Rattle.std.specs.Prelude.{◌≡◌, codes, ℕ, ◌==◌, cond, List, [], ◌++◌, Option, Some, None}
use Rattle.std.specs.List.{flat_map}
use Rattle.std.specs.Fmt.{decimal}
use Rattle.cap_core.specs.declared.profile.ProfileName.{ProfileName}
use Rattle.cap_core.specs.Numbers.{endpoint_size}
use Rattle.ipc_core.specs.declared.waiter.Offer.{Offer}
use Rattle.kernel_abstract.specs.Shown.{Shown}
use Rattle.kernel_abstract.specs.Waiting.{offer_at}
use Rattle.query_parts.specs.declared.listed.PartMemory.{PartMemory}
use Rattle.query_parts.specs.declared.listed.PartUse.{PartUse}
use Rattle.query_parts.specs.Listed.{part_at}
use Rattle.setup_report.specs.Text.{rights_text}
use Rattle.setup_report.specs.Report.{terminated}
use Rattle.command_never.specs.declared.parts_kept.waits.Wait.{Wait}
use Rattle.command_never.specs.declared.parts_kept.never.Never.{Never}
use Rattle.command_never.specs.declared.parts_kept.never.Never.TheVariants.{Excluded, ExcludedByFlow, Possible, Decided}
use Rattle.setup_format.specs.Views.{SetupView}
use Rattle.setup_report.specs.State.{is_in, endpoints, threads}
use Rattle.setup_report.specs.Naming.{Texts}
use Rattle.command_parts.specs.declared.telling.PartTold.{PartTold}
use Rattle.command_parts.specs.Telling.{PartTexts, part_texts, part_told_as}
use Rattle.command_parts.specs.Text.{any_badge_text, none_text, endpoint_told, head_lines, sel4_lines, takes_between}
use Rattle.command_never.specs.Waits.{waits}
use Rattle.command_never.specs.Never.{has_some, is_use_of, is_waiting_sender, is_waiting_receiver, is_open, endpoints_met, never}
use Rattle.command_parts.specs.Ever.{AreRightParts}
use Rattle.command_never.specs.Kept.{AreThreadsKept}
use Rattle.command_never.specs.Answer.{is_excluded, IsFounded}
use Rattle.command_never.specs.Chains.{AreChains}

-- ---- the endpoints that are allowed; and the answer: the threads with their parts

-- the line of an endpoint that is allowed; these are the live endpoints
abbrev pub allowed_line : PartTexts → List ℕ → ℕ → List ℕ
allowed_line told live endpoint = terminated (codes "by " ++ (endpoint_told told endpoint ++ none_text (is_in endpoint live)))

-- the text of a part, or that there is none
abbrev pub part_text : (ℕ → List ℕ) → Option ℕ → List ℕ
part_text text None = codes "none"
part_text text (Some part) = text part

-- the same of a part that the code has a text of
abbrev pub part_or_none_told : Option PartTold → List ℕ
part_or_none_told None = codes "none"
part_or_none_told (Some told) = part_told_as told

abbrev pub never_word : Never → List ℕ
never_word Excluded = codes "excluded"
never_word ExcludedByFlow = codes "excluded by flow"
never_word Possible = codes "possible"
never_word Decided = codes "possible decided"

abbrev pub answer_line : PartTexts → List PartMemory → ℕ → ℕ → Never → List ℕ
answer_line told memory from to answer =
    terminated (codes "never " ++ (told.texts.about from ++ (codes " part " ++ (part_text told.part (part_at memory from) ++ (codes " -> "
    ++ (told.texts.about to ++ (codes " part " ++ (part_text told.part (part_at memory to) ++ (codes " " ++ never_word answer)))))))))

-- ---- what a part has of an endpoint that is open: memory, uses, and the threads that wait there

abbrev pub bytes_line : PartTexts → ProfileName → ℕ → ℕ → PartMemory → List ℕ
bytes_line told p part endpoint m =
    cond (has_some part endpoint (endpoint_size p) m)
    (terminated (codes "  part " ++ (told.part part ++ (codes " memory " ++ (decimal m.first ++ (codes " to " ++ decimal m.last)))))) []

abbrev pub used_line : PartTexts → ℕ → ℕ → PartUse → List ℕ
used_line told part endpoint u =
    cond (is_use_of part endpoint u)
    (terminated (codes "  part " ++ (told.part part ++ (codes " use " ++ (endpoint_told told endpoint ++ (codes " badge " ++ (any_badge_text u.badge.0
    ++ (codes " rights " ++ rights_text u.rights)))))))) []

abbrev pub offered_line : PartTexts → ℕ → ℕ → ℕ → Option Offer → List ℕ
offered_line told thread part endpoint None = []
offered_line told thread part endpoint (Some offer) =
    terminated (codes "  part " ++ (told.part part ++ (codes " waiting " ++ (told.texts.about thread ++ (codes " -> " ++ (endpoint_told told endpoint
    ++ (codes " badge " ++ decimal offer.badge.0)))))))

abbrev pub sender_line : PartTexts → List PartMemory → Shown → ℕ → ℕ → Wait → List ℕ
sender_line told memory v part endpoint w =
    cond (is_waiting_sender memory part endpoint w) (offered_line told w.thread part endpoint (offer_at v w.thread)) []

abbrev pub open_receiver_line : PartTexts → List PartMemory → ℕ → ℕ → Wait → List ℕ
open_receiver_line told memory part endpoint w =
    cond (is_waiting_receiver memory part endpoint w)
    (terminated (codes "  part " ++ (told.part part ++ (codes " waiting " ++ (endpoint_told told endpoint ++ (codes " -> " ++ told.texts.about w.thread)))))) []

abbrev pub had_lines : PartTexts → ProfileName → List PartMemory → List PartUse → ℕ → ℕ → List ℕ
had_lines told p memory uses part endpoint =
    flat_map (bytes_line told p part endpoint) memory ++ flat_map (used_line told part endpoint) uses

-- ---- each endpoint that is open

abbrev pub open_endpoint_line : PartTexts → ℕ → List ℕ
open_endpoint_line told endpoint = terminated (codes "open " ++ endpoint_told told endpoint)

abbrev pub open_endpoint_lines : ProfileName → PartTexts → List PartMemory → List PartUse → Shown → ℕ → ℕ → ℕ → List ℕ
open_endpoint_lines p told memory uses v i j endpoint =
    open_endpoint_line told endpoint
    ++ (had_lines told p memory uses i endpoint ++ (flat_map (sender_line told memory v i endpoint) (waits p v)
    ++ (had_lines told p memory uses j endpoint ++ flat_map (open_receiver_line told memory j endpoint) (waits p v))))

abbrev pub open_lines : ProfileName → PartTexts → List PartMemory → List PartUse → Shown → List ℕ → ℕ → ℕ → ℕ → List ℕ
open_lines p told memory uses v by i j endpoint =
    cond (is_open p memory uses (waits p v) by i j endpoint) (open_endpoint_lines p told memory uses v i j endpoint) []

-- between two parts: in one part all is open
abbrev pub lines_between : ProfileName → PartTexts → List PartMemory → List PartUse → Shown → List ℕ → Option ℕ → Option ℕ → List ℕ
lines_between p told memory uses v by None to = []
lines_between p told memory uses v by (Some i) None = []
lines_between p told memory uses v by (Some i) (Some j) =
    cond (i == j) [] (flat_map (open_lines p told memory uses v by i j) (endpoints_met uses (waits p v)))

-- what passes between two parts in seL4 besides messages
abbrev pub sel4_between : PartTexts → ProfileName → List PartMemory → List PartUse → Option ℕ → Option ℕ → List ℕ
sel4_between told p memory uses None to = []
sel4_between told p memory uses (Some i) None = []
sel4_between told p memory uses (Some i) (Some j) = cond (i == j) [] (sel4_lines told p memory uses i j)

-- whether one of two parts may take slots from the other
abbrev pub taken_between : PartTexts → List PartMemory → Shown → Option ℕ → Option ℕ → List ℕ
taken_between told memory v None to = []
taken_between told memory v (Some i) None = []
taken_between told memory v (Some i) (Some j) = cond (i == j) [] (takes_between told memory v i j)

-- ---- all of it

abbrev pub lines_of_answer : ProfileName → PartTexts → List PartMemory → List PartUse → Shown → List ℕ → ℕ → ℕ → Never → List ℕ
lines_of_answer p told memory uses v by from to answer =
    answer_line told memory from to answer
    ++ (lines_between p told memory uses v by (part_at memory from) (part_at memory to)
    ++ (sel4_between told p memory uses (part_at memory from) (part_at memory to)
    ++ taken_between told memory v (part_at memory from) (part_at memory to)))

unfoldable pub never_text : ProfileName → PartTexts → SetupView → ℕ → ℕ → List ℕ → List ℕ → List PartMemory → List PartUse → Shown → List ℕ → ℕ → ℕ → Never → List ℕ
never_text p told setup made refused without messages memory uses v by from to answer =
    head_lines (codes "never 4") told.texts setup made refused without messages v
    ++ (flat_map (allowed_line told (endpoints p v)) by ++ lines_of_answer p told memory uses v by from to answer)

-- that text, with the chains after it
pub record IsNeverText (p : ProfileName) (told : PartTexts) (setup : SetupView) (made refused : ℕ) (without messages : List ℕ) (memory : List PartMemory)
    (uses : List PartUse) (v : Shown) (by : List ℕ) (from to : ℕ) (answer : Never) (text : List ℕ) : Type 0 where
  pub chains : List ℕ
  pub are_chains : AreChains p told.texts memory uses v by from to chains
  pub lines : text ≡ never_text p told setup made refused without messages memory uses v by from to answer ++ chains

-- the text and the answer, of parts that may be written: it is excluded if the parts exclude it, and then the one thread's part is
-- kept from the other's; each other answer has what it rests on
pub record IsNeverOf (p : ProfileName) (texts : Texts) (setup : SetupView) (made refused : ℕ) (without messages : List ℕ) (v : Shown) (by : List ℕ)
    (from to : ℕ) (text : List ℕ) (answer : Never) : Type 0 where
  pub memory : List PartMemory
  pub uses : List PartUse
  pub right : AreRightParts p v (without ++ messages) memory uses
  pub told : IsNeverText p (part_texts texts memory (threads p v)) setup made refused without messages memory uses v by from to answer text
  pub answered : is_excluded answer ≡ is_excluded (never p memory uses (waits p v) by from to)
  pub kept : answer ≡ Excluded → AreThreadsKept p memory uses v by from to
  pub founded : IsFounded p (without ++ messages) memory v by from to answer
