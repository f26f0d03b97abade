use Rattle.std.proofs.Common.{◌≡◌, true, take}
use Rattle.std.specs.List.{list_all}
use Rattle.command_import.specs.Laid.{stands}
use Rattle.command_import.proofs.laid_out.all_stand.Given as goal

abbrev pub invariant-loop-object : goal.invariant-loop-object
invariant-loop-object g l = list_all (stands l.kernel) (take l.object-index l.objects) ≡ true
