-- The proof of `calls_are_those_of_the_report`: the goals that a search leaves open.
use Rattle.std.proofs.Common.{refl}
use Rattle.command_trace.proofs.Replays.{report_followed, trace_followed}
use Rattle.command_trace.proofs.laws.calls_are_those_of_the_report.Goals as goal

pub returns : goal.returns
returns c = record { report = report_followed; trace = trace_followed; last = λ calls replies. refl }
