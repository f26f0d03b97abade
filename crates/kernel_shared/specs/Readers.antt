-- What a reader saw last.
use Rattle.std.specs.Prelude.{List, [], Option, Some, None}
use Rattle.left_right.specs.declared.reader.Reader.{Reader}
use Rattle.left_right.specs.Sides.{view}
use Rattle.kernel_shared.specs.declared.entry.Entry.{Entry}

module _ {T P A : Type 0} where
  -- what a reader has seen of the history: nothing, without a reader
  abbrev pub seen_of : Option (Reader T (List Entry) P A) → List Entry
  seen_of (Some reader) = view reader.place
  seen_of None = []
