-- Where the words say no sizes, no plan fits what the options ask for.
use Rattle.program.proofs.Regions.{no_regions}
use Rattle.program.proofs.new_setup.asked_by.Goals as goal

pub returns-in-None : goal.returns-in-None
returns-in-None c = no_regions c.args.options (rw c.in-None.is at c.in_ok-regions_in.ensures)
