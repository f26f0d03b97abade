-- The text and the verdict of a check of one file.
use Rattle.std.proofs.Common.{◌≡◌, ℕ, Bool, List, ap, ap₂, sym}
use Rattle.setup_format.specs.Setups.{setup_of_bytes}
use Rattle.command_check.specs.Notes.{unexpected_in}
use Rattle.command_check.specs.Program.{program}
use Rattle.command_core.specs.declared.fault.Verdict.{Verdict}
use Rattle.command_files.specs.Strict.{checked, strict_verdict}

pub checked_is : (strict : Bool) (bytes text refused : List ℕ) (verdict : Verdict) → (text, verdict) ≡ program bytes
    → refused ≡ unexpected_in (setup_of_bytes bytes) → checked strict bytes ≡ (text, strict_verdict strict refused verdict)
checked_is strict bytes text refused verdict told is =
    ap₂ (λ t v. (t, v)) (ap (λ a. a.0) (sym told)) (ap₂ (strict_verdict strict) (sym is) (ap (λ a. a.1) (sym told)))
