use Rattle.std.proofs.Common.{◌≡◌, true, take}
use Rattle.std.specs.List.{list_all}
use Rattle.setup_layout.specs.declared.layout.Object.{Object}
use Rattle.command_import.specs.Asked.{is_cut}
use Rattle.command_import.proofs.asked.are_cut_to.Given as goal

abbrev pub invariant-loop-object : goal.invariant-loop-object
invariant-loop-object l = list_all (λ (o : Object). is_cut o.kind l.most l.objects o) (take l.object-index l.objects) ≡ true
