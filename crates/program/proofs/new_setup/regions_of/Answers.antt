-- A word more says a region more; one that says none leaves no sizes.
use Rattle.program.proofs.Regions.{more, no_sizes}
use Rattle.program.proofs.new_setup.regions_of.Goals as goal

pub loop-word-preserved : goal.loop-word-preserved
loop-word-preserved c =
    more c.args.words.now c.loop-word.word-index _ c.loop-word.regions.items c.push.new.self.items c.in-Some.region
    c.loop-word-test.true c.loop-word.invariant c.in-Some.ensures c.in_ok-push.ensures.items

pub returns-in_default : goal.returns-in_default
returns-in_default c = no_sizes c.args.words.now c.loop-word.word-index _ c.loop-word-test.true c.in_default.ensures
