-- The line of a region that ends is as its definition has it.
use Rattle.std.proofs.Common.{append_assoc}
use Rattle.command_audit.proofs.ends.add_region.Goals as goal

pub returns : goal.returns
returns c = simp append_assoc (simp (append_assoc, c.object-region.ensures) at c.writeln.ensures.bytes)
