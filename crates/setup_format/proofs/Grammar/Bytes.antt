-- Bytes that are text, and bytes that are none.
use Rattle.std.proofs.Common.{◌≡◌, ℕ, List, Err, inl, inr}
use Rattle.std.proofs.lemmas.Bool.{cases_Bool}
use Rattle.std.proofs.lemmas.Str.{IsUtf8-from_is_utf8, is_utf8-from_IsUtf8}
use Rattle.std.specs.Str.{is_utf8, IsUtf8}
use Rattle.toml.specs.Parse.{parse_document}
use Rattle.setup_format.specs.Faults.{text}
use Rattle.setup_format.specs.Setups.{document_of, document_in}

pub document_of_text : (bs : List ℕ) → IsUtf8 bs → document_of bs ≡ document_in (parse_document bs)
unfolding document_of
document_of_text bs h = rw (is_utf8-from_IsUtf8 bs h)

pub document_of_no_text : (bs : List ℕ) → (IsUtf8 bs → ⊥) → document_of bs ≡ Err text
unfolding document_of
document_of_no_text bs h =
    elim (cases_Bool (is_utf8 bs)) [
      | inl valid ↦ absurd (h (IsUtf8-from_is_utf8 bs valid))
      | inr other ↦ rw other
    ]
