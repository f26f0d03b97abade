use Rattle.std.proofs.Common.{◌≡◌, false, take}
use Rattle.std.specs.List.{list_any}
use Rattle.command_import.specs.Asked.{covers}
use Rattle.command_import.proofs.asked.covers_some.Given as goal

abbrev pub invariant-loop-object : goal.invariant-loop-object
invariant-loop-object l = list_any (covers l.region) (take l.object-index l.objects) ≡ false
