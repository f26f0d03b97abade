-- The proof of `lines_are_those_of_the_report`: the goals that a search leaves open.
use Rattle.command_trace_laws.proofs.Reported.{same_threads, same_endpoints, same_slots, same_slot_lines, same_capabilities, same_selfheld}
use Rattle.command_trace_laws.proofs.laws.lines_are_those_of_the_report.Goals as goal

pub returns : goal.returns
returns c = record { threads = same_threads; endpoints = same_endpoints; slots = same_slots; slot_lines = same_slot_lines; capabilities = same_capabilities; selfheld = same_selfheld }
