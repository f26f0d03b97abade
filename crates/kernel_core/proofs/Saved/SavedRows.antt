-- The rows of a kernel that is saved, and of one that is restored.
use Rattle.std.proofs.Common.{◌≡◌, ◌<◌, ◌+◌, ◌-◌, ◌∷◌, ◌++◌, [], ℕ, suc, List, Option, None, Some, length, take, get_or, set, replicate, refl, ap, sym, ◌∙◌, arith}
use Rattle.std.proofs.lemmas.List.{take_more, append_assoc, length-take-le}
use Rattle.std.proofs.Math.Seq.{set-append_seam}
use Rattle.std.proofs.lemmas.List.Sums.{fold-append}
use Rattle.kernel_core.specs.declared.rows.ThreadRow.{ThreadRow}
use Rattle.kernel_core.specs.declared.rows.LiveRow.{LiveRow}
use Rattle.kernel_core.specs.SavedRows.{with_row, rows_with}

-- the rows up to a place are there, and none behind it
abbrev pub AreRowsTo : ℕ → List (Option ThreadRow) → List LiveRow → Type 0
AreRowsTo place rows live = rows_with (replicate (length rows) None) live ≡ take place rows ++ replicate (length rows - place) None

pub row_missing : (place : ℕ) (rows : List (Option ThreadRow)) (live : List LiveRow) → place < length rows → get_or rows place None ≡ None → AreRowsTo place rows live → AreRowsTo (place + 1) rows live
row_missing place rows live lt is before =
    let one : length rows - place ≡ suc (length rows - (place + 1)) = omega arith in
    before ∙ ap (λ (n : ℕ). take place rows ++ replicate n None) one
    ∙ sym (append_assoc (take place rows) (None ∷ []) (replicate (length rows - (place + 1)) None))
    ∙ ap (λ (l : List (Option ThreadRow)). l ++ replicate (length rows - (place + 1)) None) (sym (take_more rows place None lt ∙ ap (λ (x : Option ThreadRow). take place rows ++ x ∷ []) is))

pub row_there : (place : ℕ) (row : ThreadRow) (rows : List (Option ThreadRow)) (live : List LiveRow) → place < length rows → get_or rows place None ≡ Some row → AreRowsTo place rows live →
    AreRowsTo (place + 1) rows (live ++ record { place = place; row = row } ∷ [])
row_there place row rows live lt is before =
    let none = replicate (length rows) None in
    let rest = replicate (length rows - (place + 1)) None in
    let one : length rows - place ≡ suc (length rows - (place + 1)) = omega arith in
    let long : length (take place rows) ≡ place = length-take-le place rows (omega arith) in
    fold-append with_row none live (record { place = place; row = row } ∷ [])
    ∙ ap (λ (l : List (Option ThreadRow)). set l place (Some row)) (before ∙ ap (λ (n : ℕ). take place rows ++ replicate n None) one)
    ∙ ap (λ (n : ℕ). set (take place rows ++ None ∷ rest) n (Some row)) (sym long)
    ∙ set-append_seam (take place rows) None rest (Some row)
    ∙ sym (append_assoc (take place rows) (Some row ∷ []) rest)
    ∙ ap (λ (l : List (Option ThreadRow)). l ++ rest) (sym (take_more rows place None lt ∙ ap (λ (x : Option ThreadRow). take place rows ++ x ∷ []) is))

pub none_there : (row : Option ThreadRow) → ((x : ThreadRow) → row ≡ Some x → ⊥) → row ≡ None
none_there None not = refl
none_there (Some x) not = absurd (not x refl)
