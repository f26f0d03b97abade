use Rattle.std.proofs.Common.{arith}
use Rattle.std.proofs.lemmas.Str.Pattern.{strip_prefix_char}
use Rattle.command_why.proofs.Spelt.{name_in-from}
use Rattle.command_why.proofs.reasons.names.name_in.Goals as goal

pub returns : goal.returns
returns c = name_in-from c.args.text.now c.strip_prefix.result (strip_prefix_char 64 c.args.text.now c.strip_prefix.result c.strip_prefix.ensures.cases (omega arith))
