-- The words are those between the commas of the text.
use Rattle.std.proofs.Common.{List, ℕ, IfOk, map, ap, ◌∙◌, subst}
use Rattle.std.specs.Prelude.{MatchOption}
use denote.Ref.{Bor}
use Rattle.program.specs.NewWords.{AreRegionWords}
use Rattle.program.specs.Private.{SayNoSizes}
use Rattle.program.proofs.new_setup.regions_in.Goals as goal

pub returns : goal.returns
returns c =
    subst (λ words. IfOk c.regions_of.result (λ found. MatchOption found (SayNoSizes words) (λ v. AreRegionWords words v.items)))
    (ap (map (λ (w : Bor (List ℕ)). w.now)) c.as_slice.ensures.value ∙ c.in_ok-words.ensures) c.regions_of.ensures
