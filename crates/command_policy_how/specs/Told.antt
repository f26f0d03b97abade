-- What is written of how a breach happens, and the verdict.
use Rattle.std.specs.Prelude.{◌≡◌, ◌⊎◌, codes, ℕ, List, ◌++◌, Option, Some, None, MatchBool}
use Rattle.std.specs.Fmt.{decimal}
use Rattle.cap_core.specs.declared.profile.ProfileName.{ProfileName}
use Rattle.kernel_abstract.specs.State.{shown}
use Rattle.setup_values.specs.Names.{Names}
use Rattle.setup_marks.specs.Marks.{is_for_flows}
use Rattle.setup_format.specs.Views.{SetupView, ReadView}
use Rattle.setup_report.specs.Behind.{state_behind}
use Rattle.setup_report.specs.Report.{terminated}
use Rattle.command_core.specs.declared.fault.Verdict.{Verdict}
use Rattle.command_core.specs.declared.fault.Verdict.TheVariants.{AllMet, NotMet}
use Rattle.command_how.specs.How.{IsNothing, most_of}
use Rattle.command_how.specs.Line.{answer_text}
use Rattle.command_policy.specs.declared.judging.Judged.{Judged}
use Rattle.setup_policy_file.specs.declared.file.PolicyFile.{PolicyFile}
use Rattle.command_policy.specs.Policies.{IsJudgedFirst, IsPast, IsPolicyRefused, breach_lines}
use Rattle.command_policy_text.specs.declared.told.Told.{Told}
use Rattle.command_policy_how.specs.declared.asking.BreachOutcome.{BreachOutcome}
use Rattle.command_policy_how.specs.declared.asking.BreachOutcome.TheVariants.{Witness, Without, NotAsked}
use Rattle.command_policy_how.specs.Breach.{HasLine, asked_breaches, breach_at}
use Rattle.command_policy_how.specs.Asked.{IsAskedOf}

-- the line that no calls are told of a breach, and why
abbrev pub breach_how_line : ℕ → List ℕ → List ℕ
breach_how_line breach why = terminated (codes "how " ++ (decimal breach ++ (codes " " ++ why)))

-- what is written of an outcome
abbrev pub IsOutcomeTold : ℕ → BreachOutcome → List ℕ → Verdict → Type 0
IsOutcomeTold breach (Witness written) text verdict = (text ≡ written.items) × (verdict ≡ AllMet)
IsOutcomeTold breach (Without answer) text verdict = (text ≡ breach_how_line breach (answer_text answer)) × (verdict ≡ NotMet)
IsOutcomeTold breach NotAsked text verdict = (text ≡ breach_how_line breach (codes "not asked")) × (verdict ≡ NotMet)

-- the line with the number is that of a breach of which it is asked
pub record IsBreachAt (n : ℕ) (lines : List (List ℕ)) (j : Judged) (told : Told) : Type 0 where
  pub line : List ℕ
  pub at : breach_at lines n ≡ Some line
  pub is_breach : HasLine j.policy j.layout j.labels j.homes.items (asked_breaches j.policy j.layout j.homes.items j.passages.items) line told

-- the line with the number is that of no breach of which it is asked
pub record IsHeldAlready (n : ℕ) (lines : List (List ℕ)) (j : Judged) : Type 0 where
  pub line : List ℕ
  pub at : breach_at lines n ≡ Some line
  pub none : (told : Told) → HasLine j.policy j.layout j.labels j.homes.items (asked_breaches j.policy j.layout j.homes.items j.passages.items) line told → ⊥

-- no line has the number, or its breach is none of which it is asked
abbrev pub HasNoBreach : ℕ → List (List ℕ) → Judged → Type 0
HasNoBreach n lines j = (breach_at lines n ≡ None) ⊎ IsHeldAlready n lines j

abbrev pub IsFoundIn : ℕ → List (List ℕ) → Judged → Option Told → Type 0
IsFoundIn n lines j None = HasNoBreach n lines j
IsFoundIn n lines j (Some told) = IsBreachAt n lines j told

-- what comes of the questions of a breach is told, by so many copies at most for each
pub record IsToldOfBreach (n most : ℕ) (p : ProfileName) (setup : SetupView) (made : ℕ) (j : Judged) (told : Told) (text : List ℕ) (verdict : Verdict) : Type 0 where
  pub outcome : BreachOutcome
  pub asked : IsAskedOf p j.policy j.layout j.homes.items told most (shown (state_behind p setup made)) setup made outcome
  pub written : IsOutcomeTold n outcome text verdict

-- of the breach with the number
pub record IsBreachTold (n most : ℕ) (p : ProfileName) (setup : SetupView) (made : ℕ) (j : Judged) (text : List ℕ) (verdict : Verdict) : Type 0 where
  pub told : Told
  pub is_breach : IsBreachAt n (breach_lines j setup) j told
  pub is_told : IsToldOfBreach n most p setup made j told text verdict

-- nothing is written, where there is no such breach; or that
abbrev pub IsAnswerOf : ℕ → ℕ → ProfileName → SetupView → ℕ → Judged → List ℕ → Verdict → Type 0
IsAnswerOf n most p setup made j text verdict =
    (IsNothing text verdict × HasNoBreach n (breach_lines j setup) j) ⊎ IsBreachTold n most p setup made j text verdict

-- nothing is written, where `import --flows` made the set-up; or that
abbrev pub IsAnswerUnlessFlows : ℕ → ℕ → ProfileName → Names → SetupView → ℕ → Judged → List ℕ → Verdict → Type 0
IsAnswerUnlessFlows n most p names setup made j text verdict =
    MatchBool (is_for_flows names) (IsNothing text verdict) (IsAnswerOf n most p setup made j text verdict)

-- of the state behind the first calls, held to a policy
pub record IsJudgedTold (n most : ℕ) (policy : List ℕ) (p : ProfileName) (read : ReadView) (after : Option ℕ) (text : List ℕ) (verdict : Verdict) : Type 0 where
  pub made : ℕ
  pub judged : Judged
  pub file : PolicyFile
  pub is_judged : IsJudgedFirst policy p read after made file judged
  pub answered : IsAnswerUnlessFlows n most p read.names read.setup made judged text verdict

-- the policy is refused; or the set-up has fewer calls than are asked for; or it is asked of the breach, by so many copies of the kernel
abbrev pub IsBreachHow : ℕ → List ℕ → Option ℕ → Option ℕ → ProfileName → ReadView → List ℕ → Verdict → Type 0
IsBreachHow n policy after states p read text verdict =
    (IsPolicyRefused text verdict ⊎ IsPast read.setup after text verdict) ⊎ IsJudgedTold n (most_of states) policy p read after text verdict
