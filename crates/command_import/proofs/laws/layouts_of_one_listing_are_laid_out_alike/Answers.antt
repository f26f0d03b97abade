-- The proof of `layouts_of_one_listing_are_laid_out_alike`: the goals that a search leaves open.
use Rattle.command_import.proofs.Named.{well_named}
use Rattle.command_import.proofs.Told.{same_listings}
use Rattle.command_import.proofs.Alike.{laid_alike}
use Rattle.command_import.proofs.laws.layouts_of_one_listing_are_laid_out_alike.Goals as goal

pub returns : goal.returns
returns c = λ p plan v place prefix a b ha hb objects wa wb can also same laid.
    laid_alike p plan place a b v ha hb wa wb objects (same_listings prefix a b (well_named a can) (well_named b also) same) laid
