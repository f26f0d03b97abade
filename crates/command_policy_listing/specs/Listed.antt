-- What is written of a policy with `--listing`, and the verdict.
use Rattle.std.specs.Prelude.{◌≡◌, ◌⊎◌, ℕ, List, Option, Some}
use Rattle.std.specs.Option.{option_or}
use Rattle.cap_core.specs.declared.profile.ProfileName.{ProfileName}
use Rattle.setup_format.specs.Views.{ReadView}
use Rattle.setup_report.specs.Behind.{calls_made}
use Rattle.setup_policy_file.specs.Files.{IsPolicyText}
use Rattle.setup_policy_file.specs.declared.file.PolicyFile.{PolicyFile}
use Rattle.command_core.specs.declared.fault.Verdict.{Verdict}
use Rattle.command_core.specs.declared.fault.Verdict.TheVariants.{AllMet}
use Rattle.command_policy.specs.declared.judging.Judged.{Judged}
use Rattle.command_policy.specs.Policies.{IsPast, IsPolicyMeantBehind, IsPolicyRefused}
use Rattle.command_policy_listing.specs.Listing.{listing_text}

-- the listing is of the policy that the text means in the state behind the first calls: as many as are asked for on the command line, or
-- else as the policy says, if it says how many
pub record IsListed (policy : List ℕ) (p : ProfileName) (read : ReadView) (after : Option ℕ) (text : List ℕ) (verdict : Verdict) : Type 0 where
  pub file : PolicyFile
  pub says : IsPolicyText policy file
  pub made : ℕ
  pub is_made : calls_made read.setup (option_or after file.after) ≡ Some made
  pub judged : Judged
  pub meant : IsPolicyMeantBehind p read.names read.setup made file judged
  pub told : text ≡ listing_text judged.policy judged.labels read.setup made
  pub is_met : verdict ≡ AllMet

-- the policy is refused; or the set-up has fewer calls than are asked for; or it is listed
abbrev pub IsPolicyListing : List ℕ → Option ℕ → ProfileName → ReadView → List ℕ → Verdict → Type 0
IsPolicyListing policy after p read text verdict =
    (IsPolicyRefused text verdict ⊎ IsPast read.setup after text verdict) ⊎ IsListed policy p read after text verdict
