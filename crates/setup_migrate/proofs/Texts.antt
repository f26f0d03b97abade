-- A text that a table is read from.
use Rattle.std.proofs.Common.{◌≡◌, Some, Ok, String, string_bytes, ap, ◌∙◌}
use Rattle.std.proofs.lemmas.Str.{IsUtf8-string_bytes}
use Rattle.toml.specs.Data.{Members}
use Rattle.toml.specs.Parse.{parse_document}
use Rattle.setup_format.specs.Setups.{document_of, document_in}
use Rattle.setup_format.proofs.Grammar.Bytes.{document_of_text}

pub document_of_string : {Z : Type 0} (s : String Z) (ms : Members) → parse_document (string_bytes s) ≡ Some ms → document_of (string_bytes s) ≡ Ok ms
document_of_string s ms h = document_of_text _ (IsUtf8-string_bytes s) ∙ ap document_in h
