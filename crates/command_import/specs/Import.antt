-- What is written of a layout.
use Rattle.std.specs.Prelude.{◌≡◌, ◌==◌, ◌||◌, ℕ, Bool, true, false, nat_lt, codes, List, [], ◌∷◌, ◌++◌, length, Ok, Option, Some, None, if◌then◌else◌}
use Rattle.std.specs.Fmt.{decimal}
use Rattle.std.specs.List.{flat_map, list_all}
use Rattle.kernel_abstract.specs.State.{shown}
use Rattle.setup_format.specs.Views.{ReadView}
use Rattle.setup_format.specs.Setups.{read_of_bytes}
use Rattle.setup_report.specs.Behind.{state_behind}
use Rattle.setup_layout.specs.declared.layout.Layout.{Layout}
use Rattle.setup_system.specs.declared.languages.Language.TheVariants.{Capdl}
use Rattle.setup_system.specs.Languages.{language_of}
use Rattle.command_core.specs.declared.fault.Verdict.{Verdict}
use Rattle.command_core.specs.declared.fault.Verdict.TheVariants.{AllMet, NotMet, Refused, Absent}
use Rattle.setup_layout.specs.declared.layout.Reading.{Reading}
use Rattle.setup_marks.specs.Marks.{is_for_flows}
use Rattle.command_import.specs.Asked.{IsReadAs}
use Rattle.command_import.specs.Laid.{IsLaidOut}
use Rattle.command_import.specs.Listing.{listing_lines}
use Rattle.command_import.specs.Told.{has_word}

-- a text is read as a set-up of the layout's profile, which has the mark of one in which each object counts just where the layout is so
-- read, the state after its calls is laid out as the layout, and the names of the layout are words, so that lines tell them
pub record ComesTo (layout : Layout) (text : List ℕ) : Type 0 where
  pub read : ReadView
  pub is_read : read_of_bytes text ≡ Ok read
  pub profile : read.setup.profile ≡ layout.profile
  pub marked : is_for_flows read.names ≡ layout.flows
  pub names : list_all has_word layout.objects.items ≡ true
  pub laid_out : IsLaidOut read.setup.profile read.setup.plan layout (shown (state_behind read.setup.profile read.setup (length read.setup.calls)))

-- a byte of a path: `"` (34) and `\` (92) stand behind a `\`, and `?` (63) stands for a control character, which no comment has
abbrev pub path_byte : ℕ → List ℕ
path_byte byte = if byte == 34 || byte == 92 then 92 ∷ byte ∷ [] else (if nat_lt byte 32 || byte == 127 then 63 ∷ [] else byte ∷ [])

abbrev pub path_text : List ℕ → List ℕ
path_text path = flat_map path_byte path

-- the line that tells the path of a layout's file; none of a layout from standard input
abbrev pub layout_line : Option (List ℕ) → List ℕ
layout_line None = []
layout_line (Some path) = codes "# layout \"" ++ (path_text path ++ codes "\"\n")

-- a text lists the slots of a layout at its beginning, as comments, and tells the path of the layout's file right above its format
abbrev pub HasHeadOf : Layout → Option (List ℕ) → List ℕ → Type 0
HasHeadOf layout path text =
    (notes : List ℕ) × (rest : List ℕ)
    × (text ≡ listing_lines (codes "# ") layout ++ (notes ++ (codes "\n" ++ (layout_line path ++ (codes "format = 2\n" ++ rest)))))

-- a text comes to the layout whose slots it lists so
abbrev pub IsSetUpOf : Layout → Option (List ℕ) → List ℕ → Type 0
IsSetUpOf layout path text = ComesTo layout text × HasHeadOf layout path text

-- such a text of some layout that is read as it is asked for; or, if that is asked for, the listing of one
abbrev pub IsImportText : Reading → Option (List ℕ) → Bool → List ℕ → Type 0
IsImportText reading path false text = (layout : Layout) × (IsReadAs reading layout × IsSetUpOf layout path text)
IsImportText reading path true text = (layout : Layout) × (IsReadAs reading layout × (text ≡ listing_lines [] layout))

-- the line of a layout with faults, the first of which stands in some line
abbrev pub IsRefusal : List ℕ → Type 0
IsRefusal text = (line : ℕ) × (text ≡ codes "layout refused at " ++ (decimal line ++ codes "\n"))

-- what is written of an input from the file of a path, if it has one: a set-up of a layout, or the listing that is asked for; nothing,
-- if the set-up that was made does not give the layout; and only its line, if the layout has faults
abbrev pub IsImported : Reading → Option (List ℕ) → Bool → List ℕ → Verdict → Type 0
IsImported reading path listing text AllMet = IsImportText reading path listing text
IsImported reading path listing text NotMet = ⊥
IsImported reading path listing text Refused = IsRefusal text
IsImported reading path listing text Absent = text ≡ []

-- what is written if the capDL text of an input is asked for: capDL text as it is; and only its line, if the layout has faults
abbrev pub IsLayoutText : List ℕ → List ℕ → Verdict → Type 0
IsLayoutText input text AllMet = language_of input ≡ Capdl → text ≡ input
IsLayoutText input text NotMet = ⊥
IsLayoutText input text Refused = IsRefusal text
IsLayoutText input text Absent = ⊥
