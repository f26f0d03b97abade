use Rattle.std.proofs.Common.{◌≡◌, true, take}
use Rattle.std.specs.List.{list_all}
use Rattle.command_import.specs.Told.{has_word}
use Rattle.command_import.proofs.listing.are_words.Given as goal

abbrev pub invariant-loop-object : goal.invariant-loop-object
invariant-loop-object l = list_all has_word (take l.object-index l.objects) ≡ true
