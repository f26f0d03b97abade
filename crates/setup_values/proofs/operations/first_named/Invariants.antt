use Rattle.std.proofs.Common.{◌≡◌, drop}
use Rattle.std.specs.Prelude.{find}
use Rattle.std.specs.Str.{bytes_eq}
use Rattle.setup_values.specs.declared.operations.OpName.{OpName}
use Rattle.setup_values.specs.Operations as spec
use Rattle.setup_values.proofs.operations.first_named.Given as goal

abbrev pub invariant-loop-op : goal.invariant-loop-op
invariant-loop-op l =
    find (λ (op : OpName). bytes_eq (spec.op_text op) l.text) (drop l.op-index l.ops) ≡ find (λ (op : OpName). bytes_eq (spec.op_text op) l.text) l.ops
