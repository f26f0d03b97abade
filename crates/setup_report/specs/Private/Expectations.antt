-- What a line says of an expectation.
use Rattle.std.specs.Prelude.{codes, ℕ, List, [], ◌++◌}
use Rattle.setup_report.specs.declared.lines.ExpectationText.{ExpectationText}
use Rattle.setup_report.specs.declared.lines.ExpectationText.TheVariants as V

abbrev pub text_of_expectation : ExpectationText → List ℕ
text_of_expectation V.None = []
text_of_expectation V.Met = codes " [met]"
text_of_expectation (V.NotMet expected) = codes " [not met: " ++ (expected.now ++ codes "]")

-- how many expectations are said to be met, and how many there are
abbrev pub met_of_expectation : ExpectationText → ℕ
met_of_expectation V.None = 0
met_of_expectation V.Met = 1
met_of_expectation (V.NotMet expected) = 0

abbrev pub expected_of_expectation : ExpectationText → ℕ
expected_of_expectation V.None = 0
expected_of_expectation V.Met = 1
expected_of_expectation (V.NotMet expected) = 1
