-- What the options of `new` ask for.
use Rattle.std.specs.Prelude.{◌≡◌, ℕ, List, [], ◌∷◌, ⊤, codes, true, Option, Some, None, option_map, unwrap_or}
use Rattle.std.specs.Str.{bytes_eq}
use Rattle.cap_core.specs.declared.profile.ProfileName.{ProfileName}
use Rattle.cap_core.specs.declared.profile.ProfileName.TheVariants.{Wide, Narrow}
use Rattle.kernel_abstract.specs.Plan.{Plan}
use Rattle.command_line.specs.CommandLine.{Says}
use Rattle.command_line.specs.declared.arguments.Options.{Options}
use Rattle.command_core.specs.declared.fault.Verdict.{Verdict}
use Rattle.command_core.specs.declared.fault.Verdict.TheVariants.{AllMet, NotMet, Refused, Absent}
use Rattle.command_new.specs.New.{Fits, IsNew, NoneFits}
use Rattle.command_new.specs.Text.{new_text}
use Rattle.command_new.specs.declared.asked.NewSetup.{NewSetup}
use Rattle.program.specs.Texts.{before_mark, behind_mark}
use Rattle.program.specs.Commas.{words_in}

-- the profile of a name; the wide one, if none is given
abbrev pub IsProfileNamed : Option (List ℕ) → ProfileName → Type 0
IsProfileNamed None profile = profile ≡ Wide
IsProfileNamed (Some name) Wide = bytes_eq name (codes "wide") ≡ true
IsProfileNamed (Some name) Narrow = bytes_eq name (codes "narrow") ≡ true

-- a word says the base of a region and, after a colon (58), its bits
abbrev pub IsRegionWord : List ℕ → ℕ × ℕ → Type 0
IsRegionWord word region = Says (Some (before_mark 58 word)) (Some region.0) × Says (Some (behind_mark 58 word)) (Some region.1)

abbrev pub AreRegionWords : List (List ℕ) → List (ℕ × ℕ) → Type 0
AreRegionWords [] [] = ⊤
AreRegionWords [] (region ∷ regions) = ⊥
AreRegionWords (word ∷ words) [] = ⊥
AreRegionWords (word ∷ words) (region ∷ regions) = IsRegionWord word region × AreRegionWords words regions

-- the sizes: two threads and one endpoint, if no numbers are given, and the regions between commas
pub record AsksFor (options : Options) (asked : NewSetup) : Type 0 where
  pub profile : IsProfileNamed (option_map (λ s. s.now) options.profile) asked.profile
  pub threads : asked.threads ≡ unwrap_or options.threads 2
  pub endpoints : asked.endpoints ≡ unwrap_or options.endpoints 1
  pub untypeds : AreRegionWords (words_in (option_map (λ s. s.now) options.untyped)) asked.untypeds.items

-- whatever the options ask for, no plan fits it: they may ask for nothing, if a word says no number
abbrev pub NothingFits : Options → Type 0
NothingFits options = (asked : NewSetup) → AsksFor options asked → NoneFits asked

-- a set-up of what is asked for; nothing, if no plan fits; and nothing, if a plan fits whose text is refused
unfoldable pub IsNewOf : Options → List ℕ → Verdict → Type 0
IsNewOf options text AllMet = (asked : NewSetup) × AsksFor options asked × IsNew asked text
IsNewOf options text NotMet = ⊥
IsNewOf options text Refused = (text ≡ []) × ((asked : NewSetup) × AsksFor options asked × ((plan : Plan) × Fits asked.profile asked plan × ¬ IsNew asked (new_text asked.profile plan)))
IsNewOf options text Absent = (text ≡ []) × NothingFits options
