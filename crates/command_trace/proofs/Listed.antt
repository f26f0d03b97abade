-- The lines of what stands at some addresses.
use Rattle.std.proofs.Common.{◌≡◌, ℕ, ◌+◌, ◌<◌, ◌==◌, length, take, get_or, true, false, cond, List, [], ◌∷◌, ◌++◌, map, Some, refl, sym, ap, ◌∙◌, append-nil}
use Rattle.std.proofs.lemmas.Bool.{eqb-true}
use Rattle.std.specs.List.{flat_map, find}
use Rattle.std.proofs.lemmas.List.{map-append, take_more}
use Rattle.std.proofs.lemmas.List.Concat.{flat_map-append}
use Rattle.cap_core.specs.declared.profile.ProfileName.{ProfileName}
use Rattle.slot_core.specs.declared.derivations.Derivation.{Derivation}
use Rattle.slot_core.specs.Calls.{derivation_view}
use Rattle.setup_report.specs.State.{Derived, slot_of, found}
use Rattle.setup_report.specs.Naming.{Texts}
use Rattle.command_trace.specs.Lines.{traced_slot_text}
use Rattle.command_trace.specs.Private.Listed.{derivation_line}

-- lines of one more address
pub told_more : {R : Type 0} (f : ℕ → List (ℕ × List ℕ)) (d : R → ℕ) (yielded : List R) (x : R) (before after : List (ℕ × List ℕ)) →
    before ≡ flat_map f (map d yielded) → after ≡ before ++ f (d x) → after ≡ flat_map f (map d (yielded ++ x ∷ []))
told_more f d yielded x before after is so =
    so ∙ ap (λ l. l ++ f (d x)) is
    ∙ ap (λ l. flat_map f (map d yielded) ++ l) (sym (append-nil (f (d x))))
    ∙ sym (ap (flat_map f) (map-append d yielded (x ∷ [])) ∙ flat_map-append f (map d yielded) (d x ∷ []))

-- the same of a list that is read from place to place
pub told_next : (f : ℕ → List (ℕ × List ℕ)) (xs : List ℕ) (i d : ℕ) (before after : List (ℕ × List ℕ)) → i < length xs →
    before ≡ flat_map f (take i xs) → after ≡ before ++ f (get_or xs i d) → after ≡ flat_map f (take (i + 1) xs)
told_next f xs i d before after within is so =
    so ∙ ap (λ l. l ++ f (get_or xs i d)) is
    ∙ ap (λ l. flat_map f (take i xs) ++ l) (sym (append-nil (f (get_or xs i d))))
    ∙ sym (ap (flat_map f) (take_more xs i d within) ∙ flat_map-append f (take i xs) (get_or xs i d ∷ []))

-- ---- full slots

pub found_is : (list : List Derived) (slot : ℕ) (d : Derived) → found list slot ≡ Some d → slot_of d ≡ slot
found_is [] slot d is = cc
found_is (e ∷ list) slot d is =
    elim (slot_of e == slot) as (λ b. (slot_of e == slot) ≡ b → cond b (Some e) (find (λ (a : Derived). slot_of a == slot) list) ≡ Some d → slot_of d ≡ slot) [
      | true ↦ λ same there. let first : e ≡ d = cc in ap slot_of (sym first) ∙ eqb-true (slot_of e) slot same
      | false ↦ λ other there. found_is list slot d there
    ] refl is

abbrev pub row_line : Texts → Derived → ℕ × List ℕ
row_line texts d = (slot_of d, traced_slot_text texts d)

pub rows_viewed : (texts : Texts) (p : ProfileName) (slots : List Derivation) → map (derivation_line texts p) slots ≡ map (row_line texts) (map (derivation_view p) slots)
rows_viewed texts p [] = refl
rows_viewed texts p (d ∷ slots) = ap (λ l. derivation_line texts p d ∷ l) (rows_viewed texts p slots)
