-- What is written of how it could happen, and the verdict.
use Rattle.std.specs.Prelude.{◌≡◌, ◌⊎◌, ⊤, ℕ, ◌==◌, ◌&&◌, Bool, not, List, [], map, Option, Some, None, is_some, unwrap_or, MatchBool}
use Rattle.std.specs.Borrow.{Bor}
use Rattle.cap_core.specs.declared.profile.ProfileName.{ProfileName}
use Rattle.kernel_abstract.specs.Plan.{Plan}
use Rattle.kernel_abstract.specs.Shown.{Shown, state_at}
use Rattle.kernel_abstract.specs.State.{State, shown}
use Rattle.query_parts.specs.declared.listed.PartMemory.{PartMemory}
use Rattle.query_parts.specs.declared.listed.PartUse.{PartUse}
use Rattle.setup_values.specs.Names.{Names}
use Rattle.setup_marks.specs.Marks.{is_for_flows}
use Rattle.setup_format.specs.Views.{SetupView}
use Rattle.setup_report.specs.declared.meanings.meant.ObjectKind.TheVariants.{Thread, Endpoint}
use Rattle.setup_report.specs.Meant.{object_meant, are_meant}
use Rattle.command_parts.specs.Threads.{objects_named}
use Rattle.command_parts.specs.Ever.{AreRightParts}
use Rattle.command_core.specs.declared.fault.Verdict.{Verdict}
use Rattle.command_core.specs.declared.fault.Verdict.TheVariants.{AllMet, NotMet, Absent}
use Rattle.command_how_witness.specs.declared.asked.Happening.{Happening}
use Rattle.command_how_witness.specs.Witness.{Asking}
use Rattle.command_how_witness.specs.Excluded.{IsExcluded, IsOutsideFlow, IsRuledOut, IsInside}
use Rattle.command_how_witness.specs.Text.{IsWitnessText}
use Rattle.command_how.specs.declared.asking.How.{How}
use Rattle.command_how.specs.declared.line.NoWitness.{NoWitness}
use Rattle.command_how.specs.declared.line.NoWitness.TheVariants.{Excluded, ExcludedByFlow, NotFound, NotFoundOf}
use Rattle.command_how.specs.declared.telling.Outcome.{Outcome}
use Rattle.command_how.specs.declared.telling.Outcome.TheVariants.{Witness, Without}
use Rattle.command_how.specs.Line.{how_line}

-- what is asked, by the words of a command line
pub record Words : Type 0 where
  pub what : Happening
  pub from : List ℕ
  pub to : List ℕ
  pub by : List (List ℕ)
  pub badge : Option ℕ
  pub without : List (List ℕ)
  pub states : Option ℕ

-- a question, with its words as lists of characters
abbrev pub how_words : How → Words
how_words h = record {
  what = h.what;
  from = h.from.now;
  to = h.to.now;
  by = map (λ (w : Bor (List ℕ)). w.now) h.by.now;
  badge = h.badge;
  without = map (λ (w : Bor (List ℕ)). w.now) h.without.now;
  states = h.states;
}

-- how many copies of the kernel are tried if no number is given
abbrev pub default_states : ℕ
default_states = 2000

-- how many are tried at most, by the number that is given
abbrev pub most_of : Option ℕ → ℕ
most_of states = unwrap_or states default_states

-- of two threads, with this memory of parts
abbrev pub asking : ProfileName → Names → Plan → Shown → Words → ℕ → ℕ → List PartMemory → Asking
asking p names plan v w from to memory = record {
  what = w.what;
  from = from;
  to = to;
  by = objects_named Endpoint p names plan v w.by;
  badge = w.badge;
  memory = memory;
  without = objects_named Thread p names plan v w.without;
}

-- nothing is written, and what is asked for is not there
abbrev pub IsNothing : List ℕ → Verdict → Type 0
IsNothing text verdict = (text ≡ []) × (verdict ≡ Absent)

-- the line of an answer that is no witness
abbrev pub IsLine : Names → Asking → NoWitness → List ℕ → Verdict → Type 0
IsLine names q answer text verdict = (text ≡ how_line names q answer) × (verdict ≡ NotMet)

-- none is found: if the search ended at a number of copies, it is the one that was asked for
abbrev pub IsNotFound : ℕ → NoWitness → Type 0
IsNotFound most Excluded = ⊥
IsNotFound most ExcludedByFlow = ⊥
IsNotFound most NotFound = ⊤
IsNotFound most (NotFoundOf copies) = copies ≡ most

-- what was looked for, by so many copies of the kernel at most: a witness, or the line that none is found
abbrev pub IsSought : ProfileName → Names → Asking → ℕ → SetupView → ℕ → List ℕ → Verdict → Type 0
IsSought p names q most setup made text verdict =
    ((verdict ≡ AllMet) × IsWitnessText p q setup made text)
    ⊎ ((answer : NoWitness) × (IsNotFound most answer × IsLine names q answer text verdict))

-- the same before it is written: a witness, or that none is found
abbrev pub IsFound : ProfileName → Asking → ℕ → SetupView → ℕ → Outcome → Type 0
IsFound p q most setup made (Witness text) = IsWitnessText p q setup made text.items
IsFound p q most setup made (Without answer) = IsNotFound most answer

-- or it is said that a flow excludes it, if one does
abbrev pub IsFoundUnlessFlow : ProfileName → Asking → ℕ → Shown → SetupView → ℕ → Outcome → Type 0
IsFoundUnlessFlow p q most v setup made outcome =
    ((outcome ≡ Without ExcludedByFlow) × IsOutsideFlow p q v q.what) ⊎ IsFound p q most setup made outcome

-- it is excluded and ruled out; it is not, but excluded by a flow; or it is neither, and none is found
abbrev pub IsWithout : ProfileName → Asking → ℕ → List PartUse → Shown → NoWitness → Type 0
IsWithout p q most uses v Excluded = IsExcluded p q uses v × IsRuledOut p q uses v q.what
IsWithout p q most uses v ExcludedByFlow = IsInside p q v q.what × IsOutsideFlow p q v q.what
IsWithout p q most uses v NotFound = IsInside p q v q.what
IsWithout p q most uses v (NotFoundOf copies) = IsInside p q v q.what × (copies ≡ most)

-- what a question is answered, by so many copies at most: a witness, if it is not excluded; or why there is none
abbrev pub IsOutcome : ProfileName → Asking → ℕ → List PartUse → Shown → SetupView → ℕ → Outcome → Type 0
IsOutcome p q most uses v setup made (Witness text) = IsInside p q v q.what × IsWitnessText p q setup made text.items
IsOutcome p q most uses v setup made (Without answer) = IsWithout p q most uses v answer

-- the line that it is excluded by a flow, if it is; or what was looked for
abbrev pub IsInsideTold : ProfileName → Names → Asking → ℕ → Shown → SetupView → ℕ → List ℕ → Verdict → Type 0
IsInsideTold p names q most v setup made text verdict =
    (IsOutsideFlow p q v q.what × IsLine names q ExcludedByFlow text verdict) ⊎ IsSought p names q most setup made text verdict

-- the line that it is excluded, if it is and is ruled out; if it is not, that it is excluded by a flow, or what was looked for
abbrev pub IsHowTold : ProfileName → Names → Asking → ℕ → List PartUse → Shown → SetupView → ℕ → List ℕ → Verdict → Type 0
IsHowTold p names q most uses v setup made text verdict =
    (IsExcluded p q uses v × (IsRuledOut p q uses v q.what × IsLine names q Excluded text verdict))
    ⊎ (IsInside p q v q.what × IsInsideTold p names q most v setup made text verdict)

-- the same by parts that may be listed
pub record IsToldByParts (p : ProfileName) (w : Words) (names : Names) (setup : SetupView) (made : ℕ) (v : Shown) (from to : ℕ) (text : List ℕ) (verdict : Verdict) : Type 0 where
  pub memory : List PartMemory
  pub uses : List PartUse
  pub right : AreRightParts p v (objects_named Thread p names setup.plan v w.without) memory uses
  pub told : IsHowTold p names (asking p names setup.plan v w from to memory) (most_of w.states) uses v setup made text verdict

-- two threads, and both are live
abbrev pub are_two_live : Shown → ℕ → ℕ → Bool
are_two_live v from to = not (from == to) && (is_some (state_at v from) && is_some (state_at v to))

abbrev pub IsToldOfThreads : ProfileName → Words → Names → SetupView → ℕ → Shown → ℕ → ℕ → List ℕ → Verdict → Type 0
IsToldOfThreads p w names setup made v from to text verdict =
    MatchBool (are_two_live v from to) (IsToldByParts p w names setup made v from to text verdict) (IsNothing text verdict)

-- of two threads, if each text stands for one
abbrev pub IsToldOfMeant : ProfileName → Words → Names → SetupView → ℕ → Shown → Option ℕ → Option ℕ → List ℕ → Verdict → Type 0
IsToldOfMeant p w names setup made v None to text verdict = IsNothing text verdict
IsToldOfMeant p w names setup made v (Some from) None text verdict = IsNothing text verdict
IsToldOfMeant p w names setup made v (Some from) (Some to) text verdict = IsToldOfThreads p w names setup made v from to text verdict

-- each text for a trusted thread stands for a thread, and each for an endpoint that is allowed for an endpoint
abbrev pub has_asked_how : ProfileName → Names → Plan → Shown → Words → Bool
has_asked_how p names plan v w = are_meant Thread p names plan v w.without && are_meant Endpoint p names plan v w.by

-- the text and the verdict of what is shown after so many calls: nothing, if `import --flows` made the set-up, since a thread uses
-- there what no call of it can name; nor if a word stands for nothing
abbrev pub IsHowBy : Words → ProfileName → Names → SetupView → ℕ → Shown → List ℕ → Verdict → Type 0
IsHowBy w p names setup made v text verdict =
    MatchBool (is_for_flows names) (IsNothing text verdict)
    (MatchBool (has_asked_how p names setup.plan v w)
    (IsToldOfMeant p w names setup made v (object_meant Thread p names setup.plan v w.from) (object_meant Thread p names setup.plan v w.to) text verdict)
    (IsNothing text verdict))

-- the text and the verdict of `how`, of the state after the first calls
abbrev pub IsHow : Words → ProfileName → Names → SetupView → ℕ → State → List ℕ → Verdict → Type 0
IsHow w p names setup made A text verdict = IsHowBy w p names setup made (shown A) text verdict
