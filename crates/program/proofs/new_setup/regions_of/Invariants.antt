use Rattle.std.proofs.Common.{map, take}
use Rattle.program.specs.NewWords.{AreRegionWords}
use Rattle.program.proofs.new_setup.regions_of.Given as goal

-- the regions are those of the words so far
abbrev pub invariant-loop-word : goal.invariant-loop-word
invariant-loop-word l = AreRegionWords (map (λ w. w.now) (take l.word-index l.words)) l.regions.items
