-- What is written of whether one thread's part is kept from another's, and the verdict.
use Rattle.std.specs.Prelude.{◌≡◌, ℕ, ◌&&◌, Bool, true, false, List, [], map, Option, Some, None, is_some, MatchBool}
use Rattle.std.specs.Borrow.{Bor}
use Rattle.cap_core.specs.declared.profile.ProfileName.{ProfileName}
use Rattle.kernel_abstract.specs.Shown.{Shown, state_at}
use Rattle.kernel_abstract.specs.State.{State, shown}
use Rattle.setup_values.specs.Names.{Names}
use Rattle.setup_marks.specs.Marks.{is_for_flows}
use Rattle.setup_format.specs.Views.{SetupView}
use Rattle.command_never.specs.declared.parts_kept.never.Never.{Never}
use Rattle.command_never.specs.declared.parts_kept.never.Never.TheVariants.{Excluded, ExcludedByFlow, Possible, Decided}
use Rattle.kernel_abstract.specs.Plan.{Plan}
use Rattle.setup_report.specs.declared.meanings.meant.ObjectKind.TheVariants.{Thread, Endpoint}
use Rattle.setup_report.specs.Meant.{object_meant, are_meant}
use Rattle.setup_report.specs.Behind.{refused_behind}
use Rattle.setup_report.specs.Naming.{Texts, texts_of}
use Rattle.command_parts.specs.Threads.{Trusted, trusted_by, are_trusted, objects_named}
use Rattle.command_never.specs.Answer.{is_by_flow}
use Rattle.command_never.specs.Open.{IsNeverOf}
use Rattle.command_core.specs.declared.fault.Verdict.{Verdict}
use Rattle.command_core.specs.declared.fault.Verdict.TheVariants.{AllMet, NotMet, Absent}
use Rattle.command_never.specs.declared.asking.Question.{Question}

-- what is asked: which threads are trusted, of which two threads, and but by which endpoints; and whether objects are told by
-- their names
pub record Asked : Type 0 where
  pub trust : Trusted
  pub from : List ℕ
  pub to : List ℕ
  pub by : List (List ℕ)
  pub by_name : Bool

-- a question, with its words as lists of characters
abbrev pub asked_never : Question → Asked
asked_never q = record {
  trust = trusted_by q.trust;
  from = q.from.now;
  to = q.to.now;
  by = map (λ (w : Bor (List ℕ)). w.now) q.by.now;
  by_name = q.names;
}

abbrev pub never_verdict : Never → Verdict
never_verdict Excluded = AllMet
never_verdict ExcludedByFlow = AllMet
never_verdict Possible = NotMet
never_verdict Decided = NotMet

-- nothing is written
abbrev pub IsAbsent : List ℕ → Verdict → Type 0
IsAbsent text verdict = (text ≡ []) × (verdict ≡ Absent)

-- both threads are live
abbrev pub are_live : Shown → ℕ → ℕ → Bool
are_live v from to = is_some (state_at v from) && is_some (state_at v to)

-- the text of an answer of what is shown, and its verdict. Of a set-up in which each object of a layout counts, flows, which go by the
-- words of threads, say nothing
abbrev pub IsAnsweredOf : ProfileName → Texts → Bool → SetupView → ℕ → ℕ → List ℕ → List ℕ → Shown → List ℕ → ℕ → ℕ → List ℕ → Verdict → Type 0
IsAnsweredOf p texts for_flows setup made refused without messages v by from to text verdict =
    MatchBool (are_live v from to)
    ((answer : Never) × (IsNeverOf p texts setup made refused without messages v by from to text answer
    × ((for_flows ≡ true → is_by_flow answer ≡ false) × (verdict ≡ never_verdict answer))))
    (IsAbsent text verdict)

-- of two threads, if each text stands for one
abbrev pub IsNeverAnswered : Texts → ProfileName → Names → SetupView → ℕ → ℕ → Shown → Asked → Option ℕ → Option ℕ → List ℕ → Verdict → Type 0
IsNeverAnswered texts p names setup made refused v asked None to text verdict = IsAbsent text verdict
IsNeverAnswered texts p names setup made refused v asked (Some from) None text verdict = IsAbsent text verdict
IsNeverAnswered texts p names setup made refused v asked (Some from) (Some to) text verdict =
    IsAnsweredOf p texts (is_for_flows names) setup made refused (objects_named Thread p names setup.plan v asked.trust.without) (objects_named Thread p names setup.plan v asked.trust.messages) v
    (objects_named Endpoint p names setup.plan v asked.by) from to text verdict

-- each text for a trusted thread stands for a thread, and each for an endpoint that is allowed for an endpoint
abbrev pub has_asked : ProfileName → Names → Plan → Shown → Asked → Bool
has_asked p names plan v asked = are_trusted p names plan v asked.trust && are_meant Endpoint p names plan v asked.by

-- the text and the verdict of what is shown, if so many calls were refused: nothing, if a word stands for nothing
abbrev pub IsNeverBy : Asked → Texts → ProfileName → Names → SetupView → ℕ → ℕ → Shown → List ℕ → Verdict → Type 0
IsNeverBy asked texts p names setup made refused v text verdict =
    MatchBool (has_asked p names setup.plan v asked)
    (IsNeverAnswered texts p names setup made refused v asked (object_meant Thread p names setup.plan v asked.from) (object_meant Thread p names setup.plan v asked.to) text verdict)
    (IsAbsent text verdict)

-- the text and the verdict of `never`, of the state after the first calls
abbrev pub IsNever : Asked → ProfileName → Names → SetupView → ℕ → State → List ℕ → Verdict → Type 0
IsNever asked p names setup made A text verdict =
    IsNeverBy asked (texts_of asked.by_name p names setup.plan (shown A)) p names setup made (refused_behind p setup made) (shown A) text verdict
