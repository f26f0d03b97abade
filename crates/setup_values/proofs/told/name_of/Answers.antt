use Rattle.std.proofs.Common.{Some, ap, ◌∙◌}
use Rattle.setup_values.proofs.Named.{no_name, one_name}
use Rattle.setup_values.proofs.told.name_of.Goals as goal

pub returns-in-None : goal.returns-in-None
returns-in-None c = no_name c.args.names.now c.args.value c.in-None.ensures

pub returns-in-Some : goal.returns-in-Some
returns-in-Some c =
    ap Some c.as_str.ensures.value
    ∙ one_name c.args.names.now c.args.value c.count_named.result c.in-Some.name.now c.count_named.ensures c.if-count_named-ne1.false c.in-Some.ensures
