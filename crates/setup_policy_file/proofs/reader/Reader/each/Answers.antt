use Rattle.std.proofs.Common.{◌≡◌, Some, arith, subst}
use Rattle.std.specs.Prelude.{IfSome}
use Rattle.std.proofs.lemmas.List.{drop_all}
use Rattle.toml.specs.declared.value.Value.{Value}
use Rattle.toml.specs.View.{view}
use Rattle.setup_policy_file.proofs.Loops.{goes_on, is_done, taken_is}
use Rattle.setup_policy_file.proofs.reader.Reader.each.Goals as goal

pub loop-element-preserved : goal.loop-element-preserved
loop-element-preserved g c =
    goes_on view g.K.Kind.shown g.K.Kind.reads c.loop-element.element-index c.args.elements.now c.element-item.result c.loop-element.read c.taken-one.result c.added-read.result c.loop-element-test.true
    (subst (λ (e : Value). IfSome c.taken-one.result (λ x. g.K.Kind.reads (view e) ≡ Some (g.K.Kind.shown x))) c.element-item.is
    (taken_is (λ x. g.K.Kind.reads (view c.element-item.result) ≡ Some (g.K.Kind.shown x)) c.taken-one.result c.read.result c.taken-one.ensures c.read.ensures))
    c.added-read.ensures c.loop-element.invariant

pub returns : goal.returns
returns g c =
    is_done view g.K.Kind.shown g.K.Kind.reads c.loop-element.element-index c.args.elements.now c.loop-element.read (drop_all c.loop-element.element-index c.args.elements.now (omega arith)) c.loop-element.invariant
