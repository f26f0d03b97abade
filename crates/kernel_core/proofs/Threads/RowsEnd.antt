-- Where the rows of threads end.
use Rattle.std.proofs.Common.{◌≡◌, ◌<◌, ◌≤◌, ◌+◌, ◌-◌, ◌++◌, ℕ, zero, suc, List, Option, None, length, take, drop, get_or, replicate, ap, sym, subst, ◌∙◌, inl, inr, arith}
use Rattle.std.proofs.lemmas.Bool.{cases_lt}
use Rattle.std.proofs.lemmas.Bool.Decides.{nat_tests}
use Rattle.std.proofs.lemmas.List.{append-nil, get_or-drop, get_or-replicate, get_or_default, get_or_past, length-drop, length-replicate, same_lists, take-append-drop, take-append-le, take_all, replicate-append-replicate}
use Rattle.std.proofs.lemmas.List.FromFn.{get_or-map-range_with_len, length-map-range_with_len}
use Rattle.kernel_core.specs.declared.rows.ThreadRow.{ThreadRow}
use Rattle.kernel_core.specs.declared.rows.LiveRow.{LiveRow}
use Rattle.kernel_core.specs.SavedRows.{rows_with}
use Rattle.kernel_core.specs.Private.BootRows.{boot_row, boot_rows}
use Rattle.kernel_core.specs.Private.RowsEnd.{IsRowsEnd}
use Rattle.kernel_core.proofs.Saved.SavedRows.{AreRowsTo, row_missing}

-- what lies behind the end
rows_behind : (end n : ℕ) (rows : List (Option ThreadRow)) → IsRowsEnd end rows → end ≤ n → drop n rows ≡ replicate (length rows - n) None
rows_behind end n rows h le = same_lists (drop n rows) (replicate (length rows - n) None) (length-drop n rows ∙ sym (length-replicate (length rows - n) None)) at
  where
    at : (k : ℕ) (d : Option ThreadRow) → k < length (drop n rows) → get_or (drop n rows) k d ≡ get_or (replicate (length rows - n) None) k d
    at k d lt =
        let long = length-drop n rows in
        get_or-drop n rows k d ∙ get_or_default rows (n + k) d None (omega arith) ∙ h.none_from (n + k) (omega arith) ∙ sym (get_or-replicate (length rows - n) k None d (omega arith))

-- the rows of boot threads
pub ready_end : (first threads count : ℕ) → first + threads ≤ count → IsRowsEnd (first + threads) (boot_rows first threads count)
ready_end first threads count fit = record {
  within = let long = length-map-range_with_len (boot_row first threads) 0 count in omega arith;
  none_from = λ k le. elim (cases_lt k count) [
    | inl lt ↦ get_or-map-range_with_len (boot_row first threads) 0 count k k None lt (omega arith) ∙ past k le
    | inr over ↦ let long = length-map-range_with_len (boot_row first threads) 0 count in get_or_past (boot_rows first threads count) k None (omega arith)
  ];
}
  where
    past : (k : ℕ) → first + threads ≤ k → boot_row first threads k ≡ None
    past k le = grind (arith, nat_tests)

-- rows that are written over with others, up to the ends of both
pub rows_written : (end end' n : ℕ) (old new : List (Option ThreadRow)) → IsRowsEnd end old → IsRowsEnd end' new → length old ≡ length new → end ≤ n → end' ≤ n → take n new ++ drop n old ≡ new
rows_written end end' n old new a b long le le' =
    ap (λ (l : List (Option ThreadRow)). take n new ++ l) (rows_behind end n old a le ∙ ap (λ (m : ℕ). replicate (m - n) None) long ∙ sym (rows_behind end' n new b le'))
    ∙ take-append-drop n new

-- rows that are taken away up to the end
pub rows_taken : (end count : ℕ) (rows : List (Option ThreadRow)) → IsRowsEnd end rows → length rows ≡ count → replicate end None ++ drop end rows ≡ replicate count None
rows_taken end count rows h long =
    ap (λ (l : List (Option ThreadRow)). replicate end None ++ l) (rows_behind end end rows h (omega arith))
    ∙ replicate-append-replicate end (length rows - end) None
    ∙ ap (λ (n : ℕ). replicate n None) (let within = h.within in let e : end + (length rows - end) ≡ count = omega arith in e)

-- rows that are all written
pub written_back : (len : ℕ) (rows given : List (Option ThreadRow)) → len ≡ length rows → length given ≡ length rows → take len (given ++ drop (length given) rows) ≡ given
written_back len rows given a b = take-append-le len given (drop (length given) rows) (omega arith) ∙ take_all len given (omega arith)

-- the rows up to the end are all
live_from : (m end : ℕ) (rows : List (Option ThreadRow)) (live : List LiveRow) → IsRowsEnd end rows → (place : ℕ) → end ≤ place → place + m ≡ length rows → AreRowsTo place rows live → AreRowsTo (length rows) rows live
live_from zero end rows live h place le long all = let e : place ≡ length rows = omega arith in subst (λ (n : ℕ). AreRowsTo n rows live) e all
live_from (suc m) end rows live h place le long all = live_from m end rows live h (place + 1) (omega arith) (omega arith) (row_missing place rows live (omega arith) (h.none_from place le) all)

pub all_live : (end : ℕ) (rows : List (Option ThreadRow)) (live : List LiveRow) → IsRowsEnd end rows → AreRowsTo end rows live → rows_with (replicate (length rows) None) live ≡ rows
all_live end rows live h all =
    let within = h.within in
    live_from (length rows - end) end rows live h end (omega arith) (omega arith) all
    ∙ ap (λ (l : List (Option ThreadRow)). l ++ replicate (length rows - length rows) None) (take_all (length rows) rows (omega arith))
    ∙ ap (λ (n : ℕ). rows ++ replicate n None) (let e : length rows - length rows ≡ 0 = omega arith in e)
    ∙ append-nil rows
