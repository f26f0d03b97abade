use Rattle.std.proofs.Common.{◌≡◌, ◌++◌, drop, string_bytes}
use Rattle.command_explore.specs.Numbers.{numbers_text}
use Rattle.command_explore.proofs.report.numbers.add_numbers.Given as goal

abbrev pub invariant-loop-number : goal.invariant-loop-number
invariant-loop-number l = string_bytes l.out ++ numbers_text (drop l.number-index l.numbers) ≡ string_bytes l.fn.out ++ numbers_text l.numbers
