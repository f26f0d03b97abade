-- The counts of a set-up that was read with its table are those of the set-up that its bytes are.
use Rattle.std.proofs.Common.{◌≡◌, ℕ, List, Option, Result, false, subst}
use Rattle.setup_format.specs.Faults.{Fault}
use Rattle.setup_format.specs.Laws.{setup_in}
use Rattle.setup_format.specs.Setups.{read_of_bytes, setup_of_bytes}
use Rattle.setup_format.specs.Views.{SetupView}
use Rattle.setup_format.proofs.Grammar.Reads.{reads_its_setup}
use Rattle.setup_report.specs.declared.calls.ExpectationCount.{ExpectationCount}
use Rattle.command_check.specs.Program.{verdict_in}
use Rattle.command_files.specs.Files.{HasCountOf}
use Rattle.command_files.specs.Strict.{check_verdict}
use Rattle.command_files.proofs.Tallies.{judged_by_count}

pub counted : (bytes : List ℕ) (count : Option ExpectationCount) → HasCountOf (setup_in (read_of_bytes bytes)) count → HasCountOf (setup_of_bytes bytes) count
counted bytes count has = subst (λ (s : Result SetupView Fault). HasCountOf s count) (reads_its_setup bytes) has

-- the verdict by that count
pub judged : (bytes : List ℕ) (count : Option ExpectationCount) → HasCountOf (setup_of_bytes bytes) count → verdict_in count ≡ check_verdict false bytes
judged bytes count has = judged_by_count bytes count has
