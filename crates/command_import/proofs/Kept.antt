-- The pairs of rows of a `cdt` that are kept, one row behind another.
use Rattle.std.proofs.Common.{◌≡◌, ◌∙◌, ◌+◌, ◌<◌, ◌++◌, ℕ, List, [], ◌∷◌, get_or, length, take, sym, ap, append_assoc, append-nil}
use Rattle.std.proofs.lemmas.List.{take_more}
use Rattle.std.proofs.lemmas.List.Concat.{flat_map-append}
use Rattle.setup_layout.specs.declared.layout.Row.{Row}
use Rattle.command_import.specs.Asked.{kept_pair, kept_pairs}

-- one row more
pub kept_step : (rows : List Row) (i : ℕ) (d : Row) (derived rest later : List (ℕ × ℕ)) → i < length rows
    → derived ≡ kept_pairs (take i rows) ++ rest → rest ≡ kept_pair (get_or rows i d) ++ later → derived ≡ kept_pairs (take (i + 1) rows) ++ later
kept_step rows i d derived rest later within is so =
    is
    ∙ ap (λ l. kept_pairs (take i rows) ++ l) so
    ∙ sym (append_assoc (kept_pairs (take i rows)) (kept_pair (get_or rows i d)) later)
    ∙ ap (λ l. l ++ later)
    (ap (λ l. kept_pairs (take i rows) ++ l) (sym (append-nil (kept_pair (get_or rows i d))))
    ∙ (sym (flat_map-append kept_pair (take i rows) (get_or rows i d ∷ [])) ∙ ap kept_pairs (sym (take_more rows i d within))))
