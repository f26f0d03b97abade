-- What `policy` promises with status 0, from the bytes of both files on.
use Rattle.std.specs.Prelude.{◌≡◌, ℕ, List, Option, Some}
use Rattle.std.specs.Option.{option_or}
use Rattle.std.specs.List.{AllByRecursion as Each}
use Rattle.cap_core.specs.declared.profile.ProfileName.{ProfileName}
use Rattle.kernel_abstract.specs.declared.call.Call.{Call}
use Rattle.kernel_abstract.specs.Plan.{IsPlan}
use Rattle.query_parts.specs.Listed.{parts_listed}
use Rattle.query_parts.specs.Laws.{IsAllowed}
use Rattle.setup_format.specs.Views.{ReadView}
use Rattle.setup_report.specs.Behind.{calls_made, state_behind}
use Rattle.command_core.specs.declared.fault.Verdict.TheVariants.{AllMet}
use Rattle.setup_policy_file.specs.Files.{IsPolicyText}
use Rattle.setup_policy_file.specs.declared.file.PolicyFile.{PolicyFile}
use Rattle.command_policy.specs.declared.judging.Judged.{Judged}
use Rattle.command_policy.specs.Policies.{IsJudged, IsPolicyMeantBehind, IsPolicyOf}
use Rattle.command_policy_laws.specs.Unbroken.{AreKept, AreNamed}

-- the file of the policy is what its text says, and the policy is what its words mean; so many calls are made as it asks for, or the
-- command line; what is judged is of the state behind them; its threads are of the groups that name them; and it is kept after whatever
-- calls
pub record IsAuditKept (policy : List ℕ) (after : Option ℕ) (p : ProfileName) (read : ReadView) : Type 0 where
  pub file : PolicyFile
  pub says : IsPolicyText policy file
  pub made : ℕ
  pub is_made : calls_made read.setup (option_or after file.after) ≡ Some made
  pub judged : Judged
  pub meant : IsPolicyMeantBehind p read.names read.setup made file judged
  pub is_judged : IsJudged p read.setup made judged
  pub named : AreNamed judged.policy judged.layout
  pub kept : (calls : List Call) → Each (IsAllowed (parts_listed judged.layout.memory.items judged.layout.uses.items)) calls
      → AreKept p judged.policy judged.layout (state_behind p read.setup made) calls

-- if a set-up has a plan and `policy` ends with status 0, the policy is kept, whatever is called
abbrev pub WhatAuditPolicyPromises : List ℕ → Option ℕ → ProfileName → ReadView → List ℕ → Type 0
WhatAuditPolicyPromises policy after p read text =
    IsPlan p read.setup.plan → IsPolicyOf policy after p read text AllMet → IsAuditKept policy after p read
