-- The proof of `listings_tell_layouts`: the goals that a search leaves open.
use Rattle.command_import.proofs.Named.{well_named}
use Rattle.command_import.proofs.Told.{same_listings}
use Rattle.command_import.proofs.laws.listings_tell_layouts.Goals as goal

pub returns : goal.returns
returns c = λ prefix a b can also same. same_listings prefix a b (well_named a can) (well_named b also) same
