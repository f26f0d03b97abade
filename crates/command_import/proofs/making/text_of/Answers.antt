-- The listing, and behind it the rest.
use Rattle.std.proofs.Common.{◌≡◌, ◌∙◌, ◌++◌, ℕ, List, ap, string_bytes}
use Rattle.command_import.proofs.making.text_of.Goals as goal

-- the beginning is the listing
begins_with : (text start listing rest : List ℕ) → text ≡ start ++ rest → start ≡ listing → text ≡ listing ++ rest
begins_with text start listing rest is so = is ∙ ap (λ l. l ++ rest) so

pub returns : goal.returns
returns c =
    let bytes : c.into_bytes-text.result.items ≡ string_bytes c.in_ok-listing.listing = λ i. (c.into_bytes-text.ensures.value i).items in (
      c.as_str-notes.result.now,
      c.as_str-rest.result.now,
      begins_with _ c.into_bytes-text.result.items _ _ c.in_ok-add_setup.ensures (bytes ∙ c.in_ok-listing.ensures),
    )
