-- The rows of new threads, and what is shown of them.
use Rattle.std.proofs.Common.{◌≡◌, ℕ, ◌+◌, List, [], ◌∷◌, ◌++◌, map, refl, ◌∙◌, ap, arith}
use Rattle.std.specs.List.{range_with_len}
use Rattle.std.specs.Ordering.{nat_cmp}
use Rattle.std.specs.FinMap.{FinMap, insert}
use Rattle.std.proofs.lemmas.List.FromFn.{map-range_with_len_more}
use Rattle.mem_core.specs.declared.objects.Placed.{Placed}
use Rattle.mem_core.specs.Plans.{object_at}
use Rattle.kernel_core.specs.declared.rows.ThreadRow.{ThreadRow}
use Rattle.kernel_core.specs.Private.NewRows.{new_row, with_rows}

-- one more thread behind the others
rows-more : (bases : List ℕ) (base : ℕ) (rows : FinMap nat_cmp ThreadRow) → with_rows (bases ++ base ∷ []) rows ≡ insert (with_rows bases rows) base new_row
rows-more [] base rows = refl
rows-more (b ∷ bases) base rows = rows-more bases base (insert rows b new_row)

pub rows-added : (placed : Placed) (i : ℕ) (rows : FinMap nat_cmp ThreadRow) → with_rows (map (object_at placed) (range_with_len 0 (i + 1))) rows ≡ insert (with_rows (map (object_at placed) (range_with_len 0 i)) rows) (object_at placed i) new_row
rows-added placed i rows =
    ap (λ (l : List ℕ). with_rows l rows) (map-range_with_len_more (object_at placed) 0 i i (omega arith))
    ∙ rows-more (map (object_at placed) (range_with_len 0 i)) (object_at placed i) rows
