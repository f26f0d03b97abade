-- The calls before a place expect what they are to expect, by their replies.
use Rattle.std.proofs.Common.{◌≡◌, ℕ, ◌<◌, Some}
use Rattle.std.specs.Prelude.{slice_get, nat_le}
use Rattle.kernel_abstract.specs.declared.call.Reply.{Reply}
use Rattle.setup_format.specs.Views.{CallView}
use Rattle.command_how_witness.specs.Text.{later_expectation}
use Rattle.command_how_witness.proofs.text.expect_later.Given as goal

abbrev pub invariant-loop-i : goal.invariant-loop-i
invariant-loop-i l =
    (k : ℕ) → k < l.i → (call : CallView) (reply : Reply) → slice_get l.setup.calls k ≡ Some call → slice_get l.replies k ≡ Some reply
    → call.expect ≡ later_expectation (nat_le l.made k) reply
