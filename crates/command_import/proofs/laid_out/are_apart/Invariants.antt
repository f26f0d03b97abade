use Rattle.std.proofs.Common.{◌≡◌, length}
use Rattle.command_import.specs.Laid.{are_objects_apart}
use Rattle.command_import.proofs.laid_out.are_apart.Given as goal

abbrev pub invariant-loop-object : goal.invariant-loop-object
invariant-loop-object l = are_objects_apart l.rest ≡ are_objects_apart l.objects

abbrev pub decreases-loop-object : goal.decreases-loop-object
decreases-loop-object l = length l.rest
