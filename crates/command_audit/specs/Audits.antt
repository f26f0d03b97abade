-- What the program writes of an audit of a state, and its verdict.
use Rattle.std.specs.Prelude.{◌≡◌, ℕ, Bool, List, [], Option, Some, None, MatchBool}
use Rattle.cap_core.specs.declared.profile.ProfileName.{ProfileName}
use Rattle.kernel_abstract.specs.State.{State, shown}
use Rattle.setup_values.specs.Names.{Names}
use Rattle.setup_format.specs.Views.{ReadView, SetupView}
use Rattle.setup_report.specs.declared.meanings.meant.ObjectKind.TheVariants.{Thread}
use Rattle.setup_report.specs.Meant.{are_meant, objects_meant}
use Rattle.setup_report.specs.Slots.{slot_meant}
use Rattle.command_audit.specs.Audit.{IsWholeAudit, slot_answer}
use Rattle.setup_report.specs.Naming.{texts_of}
use Rattle.command_check.specs.Commands.{text_or_absent, IsStateAnswer}
use Rattle.command_core.specs.declared.fault.Verdict.{Verdict}
use Rattle.command_core.specs.declared.fault.Verdict.TheVariants.{AllMet, Absent}

-- the audit of a slot, by addresses or by names; nothing, where the slot is empty
abbrev pub IsAudited : Bool → ℕ → ProfileName → Names → SetupView → ℕ → State → List ℕ → Verdict → Type 0
IsAudited by_name slot p names setup made A text verdict =
    (text, verdict) ≡ text_or_absent (slot_answer p (texts_of by_name p names setup.plan (shown A)) setup made slot A)

abbrev pub IsAuditedAt : Bool → Option ℕ → Option ℕ → ProfileName → ReadView → List ℕ → Verdict → Type 0
IsAuditedAt by_name None after p read text verdict = (text ≡ []) × (verdict ≡ Absent)
IsAuditedAt by_name (Some slot) after p read text verdict = IsStateAnswer (IsAudited by_name slot) after p read text verdict

-- the audit of the slot that a word means; nothing, if it means none
abbrev pub IsSlotAudited : List ℕ → Bool → Option ℕ → ProfileName → ReadView → List ℕ → Verdict → Type 0
IsSlotAudited word by_name after p read text verdict =
    IsAuditedAt by_name (slot_meant p read.names read.setup.plan word) after p read text verdict

-- ---- of a whole state, without the threads that are trusted to make no more calls

-- the audit without the threads that some words mean; nothing, if one means no thread
abbrev pub IsStateAudited : List (List ℕ) → Bool → ProfileName → Names → SetupView → ℕ → State → List ℕ → Verdict → Type 0
IsStateAudited words by_name p names setup made A text verdict =
    MatchBool (are_meant Thread p names setup.plan (shown A) words)
    (IsWholeAudit p names (texts_of by_name p names setup.plan (shown A)) (objects_meant Thread p names setup.plan (shown A) words) setup made A text × (verdict ≡ AllMet))
    ((text ≡ []) × (verdict ≡ Absent))
