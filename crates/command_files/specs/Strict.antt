-- The verdict of a check, strict or not.
use Rattle.std.specs.Prelude.{◌≡◌, ℕ, Bool, true, false, List, [], ◌∷◌}
use Rattle.cap_core.specs.declared.profile.ProfileName.{ProfileName}
use Rattle.setup_format.specs.Setups.{setup_of_bytes}
use Rattle.setup_format.specs.Views.{ReadView}
use Rattle.command_check.specs.Notes.{unexpected_from, unexpected_in}
use Rattle.command_check.specs.Program.{named_report, program, replies_to, verdict_of}
use Rattle.command_core.specs.declared.fault.Verdict.{Verdict}
use Rattle.command_core.specs.declared.fault.Verdict.TheVariants.{AllMet, NotMet}

-- by the calls that are refused and of which nothing was expected: a strict check counts one as a call that is not met
abbrev pub strict_verdict : Bool → List ℕ → Verdict → Verdict
strict_verdict false refused verdict = verdict
strict_verdict true [] verdict = verdict
strict_verdict true (call ∷ calls) AllMet = NotMet
strict_verdict true (call ∷ calls) verdict = verdict

-- what the program writes for the bytes of a file, and the verdict
abbrev pub checked : Bool → List ℕ → List ℕ × Verdict
checked strict bytes = ((program bytes).0, strict_verdict strict (unexpected_in (setup_of_bytes bytes)) (program bytes).1)

-- the verdict on the bytes of a file
abbrev pub check_verdict : Bool → List ℕ → Verdict
check_verdict strict bytes = (checked strict bytes).1

-- the same of a set-up that was read, by the names of its objects
abbrev pub IsNamedCheck : Bool → ProfileName → ReadView → List ℕ → Verdict → Type 0
IsNamedCheck strict p read text verdict =
    (text ≡ named_report p read.names read.setup)
    × (verdict ≡ strict_verdict strict (unexpected_from 1 read.setup.calls (replies_to p read.setup)) (verdict_of read.setup.calls (replies_to p read.setup)))
