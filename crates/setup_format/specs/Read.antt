-- What is seen of a set-up that was read.
use Rattle.std.specs.Prelude.{ℕ, List, Result, Ok, Err}
use Rattle.toml.specs.Data.{Members, no_members}
use Rattle.setup_values.specs.Names.{names_view}
use Rattle.setup_format.specs.declared.setup.ReadSetup.{ReadSetup}
use Rattle.setup_format.specs.Faults.{Fault}
use Rattle.setup_format.specs.Setups.{document_of}
use Rattle.setup_format.specs.Views.{ReadView}

abbrev pub members_in : Result Members Fault → Members
members_in (Ok table) = table
members_in (Err fault) = no_members

-- the table of a text; an empty one, if the text is no document
unfoldable pub table_of_text : List ℕ → Members
table_of_text text = members_in (document_of text)

-- a set-up as it was read: the table of its text, its names, and what it means
abbrev pub read_view : ReadSetup → ReadView
read_view read = record { table = table_of_text read.text.items; names = names_view read.names.items; setup = read.setup }
