-- The proof of `siblings_stand_in_the_kernels_order`: the goals that a search leaves open.
use Rattle.command_trace_laws.proofs.Ordered.{children_told, trees_told}
use Rattle.command_trace_laws.proofs.laws.siblings_stand_in_the_kernels_order.Goals as goal

pub returns : goal.returns
returns c = record { children = children_told; trees = trees_told }
