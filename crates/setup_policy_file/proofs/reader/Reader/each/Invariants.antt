use Rattle.toml.specs.View.{view}
use Rattle.setup_policy_file.proofs.Loops.{read_before}
use Rattle.setup_policy_file.proofs.reader.Reader.each.Given as goal

abbrev pub invariant-loop-element : goal.invariant-loop-element
invariant-loop-element g l = read_before view g.K.Kind.shown g.K.Kind.reads l.element-index l.elements l.read
