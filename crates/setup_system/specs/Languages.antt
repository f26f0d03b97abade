-- In which language a layout is, and what that says of how it is read.
use Rattle.std.specs.Prelude.{ℕ, Bool, ◌==◌, ◌&&◌, ◌||◌, not, true, false, List, Option, Some, None, if◌then◌else◌}
use Rattle.std.specs.Char.{is_ascii_whitespace}
use Rattle.std.specs.List.{find}
use Rattle.setup_system.specs.declared.languages.Language.{Language}
use Rattle.setup_system.specs.declared.languages.Language.TheVariants.{Capdl, SystemFile, CapdlJson}
use Rattle.setup_layout.specs.declared.layout.Reading.{Reading}

-- a byte that says nothing at the front of a layout: a blank, or one of the mark by which some programs know UTF-8
abbrev pub is_front : ℕ → Bool
is_front byte = is_ascii_whitespace byte || (byte == 239 || (byte == 187 || byte == 191))

abbrev pub is_inside : ℕ → Bool
is_inside byte = not (is_front byte)

-- `"` (34), `-` (45) or `}` (125), one of which comes first behind the `{` of a comment of capDL text, which begins with `{-`, and of JSON
abbrev pub is_mark : ℕ → Bool
is_mark byte = byte == 34 || (byte == 45 || byte == 125)

-- that byte is no `-`
abbrev pub is_json_mark : Option ℕ → Bool
is_json_mark None = true
is_json_mark (Some mark) = not (mark == 45)

-- a layout whose first byte is `<` (60) is a `.system` file, and one whose first byte is `{` (123), which begins no comment, is in the
-- JSON form
abbrev pub language_by : Option ℕ → Option ℕ → Language
language_by None mark = Capdl
language_by (Some byte) mark = if byte == 60 then SystemFile else (if byte == 123 && is_json_mark mark then CapdlJson else Capdl)

-- the language of a layout with these bytes
abbrev pub language_of : List ℕ → Language
language_of bytes = language_by (find is_inside bytes) (find is_mark bytes)

-- the objects that a kernel here lacks count in a layout of that language, if nothing is asked for
abbrev pub counts_all : Language → Bool
counts_all Capdl = false
counts_all SystemFile = true
counts_all CapdlJson = false

-- how a layout with these bytes is read: each object counts if that is asked for, and in a `.system` file, if not the contrary is
abbrev pub reading_of : Reading → List ℕ → Reading
reading_of reading bytes = record reading { flows = reading.flows || (counts_all (language_of bytes) && not reading.plain) }
