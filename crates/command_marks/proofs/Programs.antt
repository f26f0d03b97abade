-- What the program writes for a text that the table of another is read from.
use Rattle.std.proofs.Common.{◌≡◌, ℕ, List, Ok, ap, ◌∙◌}
use Rattle.toml.specs.Data.{Members}
use Rattle.cap_core.specs.Checks.{◌>>=◌}
use Rattle.setup_format.specs.Setups.{document_of, setup_of, setup_of_bytes}
use Rattle.command_check.specs.Program.{program, outcome_in}

pub same_program : (input text : List ℕ) (table : Members) → document_of text ≡ Ok table → setup_of table ≡ setup_of_bytes input → program text ≡ program input
unfolding program setup_of_bytes
same_program input text table h same = ap outcome_in (ap (λ d. d >>= setup_of) h ∙ same)
