-- What is written as the policy that a layout keeps now, and the verdict.
use Rattle.std.specs.Prelude.{◌≡◌, ◌⊎◌, ◌&&◌, not, ℕ, List, [], map, filter, Option, Some}
use Rattle.std.specs.List.{All, Contains}
use Rattle.cap_core.specs.declared.profile.ProfileName.{ProfileName}
use Rattle.kernel_abstract.specs.Shown.{Shown}
use Rattle.kernel_abstract.specs.State.{State, shown}
use Rattle.setup_values.specs.Names.{Names}
use Rattle.setup_report.specs.declared.meanings.meant.ObjectKind.TheVariants.{Thread}
use Rattle.setup_format.specs.Views.{SetupView}
use Rattle.setup_report.specs.Behind.{calls_made}
use Rattle.setup_report.specs.State.{is_in, threads}
use Rattle.command_core.specs.declared.fault.Verdict.{Verdict}
use Rattle.command_core.specs.declared.fault.Verdict.TheVariants.{AllMet, Absent}
use Rattle.command_parts.specs.Threads.{Trusted, objects_named}
use Rattle.setup_policy.specs.declared.policy.Member.{Member}
use Rattle.setup_policy.specs.declared.policy.PolicyVersion.TheVariants.{Two}
use Rattle.command_policy_text.specs.Kinds.{thread_breaches}
use Rattle.command_policy_text.specs.Told.{line_told}
use Rattle.command_policy.specs.declared.judging.Judged.{Judged}
use Rattle.setup_policy_file.specs.declared.file.PolicyFile.{PolicyFile}
use Rattle.setup_policy_file.specs.Files.{IsPolicyText}
use Rattle.command_policy.specs.Policies.{IsJudged, IsPolicyMeantBehind, breach_lines}

-- the lines that tell of the trusted threads whose control blocks parts have: no policy that trusts these threads allows it
abbrev pub thread_lines : Judged → List (List ℕ)
thread_lines judged = map (line_told judged.policy judged.layout judged.labels judged.homes.items) (thread_breaches judged.policy judged.layout)

-- no other line tells of a breach of a policy that is held to a set-up; so no line does where no part has such a control block
abbrev pub IsHeldAsWritten : Judged → SetupView → Type 0
IsHeldAsWritten judged setup = All (Contains (thread_lines judged)) (breach_lines judged setup)

-- such a policy is of version 2, so that takes break it too, and trusts these threads, and no others
pub record IsKeptBy (setup : SetupView) (silent messages : List ℕ) (judged : Judged) : Type 0 where
  pub version_is : judged.policy.version ≡ Two
  pub silent_are : map (λ (m : Member). m.thread) judged.policy.silent.items ≡ silent
  pub messages_are : map (λ (m : Member). m.thread) judged.policy.messages.items ≡ messages
  pub held : IsHeldAsWritten judged setup

-- the policy that a text says and means in the state behind the first calls: the text asks for as many as are asked for, and these
-- are made
pub record IsReadOf (p : ProfileName) (names : Names) (setup : SetupView) (after : Option ℕ) (made : ℕ) (text : List ℕ) (judged : Judged) : Type 0 where
  pub file : PolicyFile
  pub says : IsPolicyText text file
  pub after_is : file.after ≡ after
  pub is_made : calls_made setup after ≡ Some made
  pub meant : IsPolicyMeantBehind p names setup made file judged

-- it is held to the state behind the first calls, as by `policy`
pub record IsKept (p : ProfileName) (names : Names) (setup : SetupView) (after : Option ℕ) (made : ℕ) (silent messages text : List ℕ) : Type 0 where
  pub judged : Judged
  pub is_read : IsReadOf p names setup after made text judged
  pub is_judged : IsJudged p setup made judged
  pub is_kept : IsKeptBy setup silent messages judged

-- such a policy is written; or nothing, where none was found
abbrev pub IsDraftText : ProfileName → Names → SetupView → Option ℕ → ℕ → List ℕ → List ℕ → List ℕ → Verdict → Type 0
IsDraftText p names setup after made silent messages text verdict =
    ((text ≡ []) × (verdict ≡ Absent)) ⊎ (IsKept p names setup after made silent messages text × (verdict ≡ AllMet))

-- those of some threads that are live, and none of others
abbrev pub live_of : List ℕ → List ℕ → List ℕ → List ℕ
live_of some live others = filter (λ thread. is_in thread live && not (is_in thread others)) some

-- the live threads that `--without` and `--messages` trust
abbrev pub silent_of : Trusted → ProfileName → Names → SetupView → Shown → List ℕ
silent_of trust p names setup v = live_of (objects_named Thread p names setup.plan v trust.without) (threads p v) []

abbrev pub messages_of : Trusted → ProfileName → Names → SetupView → Shown → List ℕ
messages_of trust p names setup v =
    live_of (objects_named Thread p names setup.plan v trust.messages) (threads p v) (silent_of trust p names setup v)

-- the policy that a layout keeps, whatever its threads call, but those that are trusted: after so many calls, or after all, where no
-- number is given
abbrev pub IsDraftOf : Trusted → Option ℕ → ProfileName → Names → SetupView → ℕ → Shown → List ℕ → Verdict → Type 0
IsDraftOf trust after p names setup made v text verdict =
    IsDraftText p names setup after made (silent_of trust p names setup v) (messages_of trust p names setup v) text verdict

-- a policy that the layout keeps after the first calls is written, as many as are asked for, or after all; or nothing
abbrev pub IsDraft : Trusted → Option ℕ → ProfileName → Names → SetupView → ℕ → State → List ℕ → Verdict → Type 0
IsDraft trust after p names setup made A text verdict = IsDraftOf trust after p names setup made (shown A) text verdict
