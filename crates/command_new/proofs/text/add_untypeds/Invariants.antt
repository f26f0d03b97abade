use Rattle.std.proofs.Common.{◌≡◌, ◌++◌, take, string_bytes}
use Rattle.std.specs.List.{flat_map}
use Rattle.command_new.specs.Text.{untyped_text}
use Rattle.command_new.proofs.text.add_untypeds.Given as goal

abbrev pub invariant-loop-region : goal.invariant-loop-region
invariant-loop-region l = string_bytes l.out ≡ string_bytes l.initial.out ++ flat_map untyped_text (take l.region-index l.untypeds)
