-- The text is the listing.
use Rattle.std.proofs.Common.{◌≡◌, ◌∙◌, [], string_bytes}
use Rattle.command_import.specs.Listing.{listing_lines}
use Rattle.command_import.proofs.Made.{as_written}
use Rattle.command_import.proofs.making.listed.Goals as goal

pub returns : goal.returns
returns c =
    let text : c.new.result.text.items ≡ c.into_bytes.result.items = λ i. (c.new.ensures.text i).items in
    let bytes : c.into_bytes.result.items ≡ string_bytes c.in_ok-text.text = λ i. (c.into_bytes.ensures.value i).items in
    as_written (λ t. t ≡ listing_lines [] c.args.layout.now) _ _ (text ∙ (bytes ∙ c.in_ok-text.ensures)) c.new.ensures.verdict
