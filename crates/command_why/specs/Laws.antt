-- How many lines the text of a reason has.
use Rattle.std.specs.Prelude.{◌≡◌, ◌≤◌, ℕ, List, All, length, Some}
use Rattle.setup_values.specs.Names.{Names}
use Rattle.setup_report.specs.declared.objects.Object.{Object}
use Rattle.setup_report.specs.Naming.{Texts}
use Rattle.std.specs.List.{flat_map}
use Rattle.setup_report_laws.specs.Laws.{IsOneLine}
use Rattle.command_why.specs.Names.{name_at}
use Rattle.command_why.specs.Text.{reason_line}
use Rattle.command_why.specs.Asked.{AskedView}

-- no name by which a call's table spells a value has a line feed
abbrev pub AreOneLineNames : AskedView → Type 0
AreOneLineNames a = (key name : List ℕ) → name_at a.table key ≡ Some name → IsOneLine name

-- no object and no slot is written with a line feed
abbrev pub AreOneLineTexts : Texts → Type 0
AreOneLineTexts texts = ((object : Object) → IsOneLine (texts.object object)) × ((slot : ℕ) → IsOneLine (texts.slot slot))

-- no name of a set-up has a line feed
abbrev pub AreNamesOfOneLine : Names → Type 0
AreNamesOfOneLine names = All (λ (name : List ℕ × ℕ). IsOneLine name.0) names

-- a text is so many lines below that of a call, each after two spaces and with one line feed, which ends it
pub record HasLines (texts : Texts) (a : AskedView) (low high : ℕ) (text : List ℕ) : Type 0 where
  pub lines : List (List ℕ)
  pub is : text ≡ flat_map reason_line lines
  pub apart : AreOneLineTexts texts → AreOneLineNames a → All IsOneLine lines
  pub least : low ≤ length lines
  pub most : length lines ≤ high
