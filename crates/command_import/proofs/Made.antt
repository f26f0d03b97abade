-- What is written, by its verdict.
use Rattle.std.proofs.Common.{◌≡◌, ℕ, Bool, true, false, List, [], Option, refl, subst, sym}
use Rattle.std.specs.Prelude.{IfOk, Result}
use Rattle.std.proofs.lemmas.Result.{IfOk-weaker}
use Rattle.command_core.specs.declared.answer.Answer.{Answer}
use Rattle.command_core.specs.declared.fault.Verdict.{Verdict}
use Rattle.command_core.specs.declared.fault.Verdict.TheVariants.{AllMet, NotMet, Refused, Absent}
use Rattle.setup_layout.specs.declared.layout.Layout.{Layout}
use Rattle.setup_layout.specs.declared.layout.Reading.{Reading}
use Rattle.command_import.specs.Asked.{IsReadAs}
use Rattle.command_import.specs.Import.{IsImported, IsRefusal, IsSetUpOf}
use Rattle.command_import.specs.Listing.{listing_lines}
use Rattle.command_import.specs.Private.{IsWritten}

pub as_refused : (reading : Reading) (path : Option (List ℕ)) (listing : Bool) (text : List ℕ) (verdict : Verdict) → IsRefusal text → verdict ≡ Refused → IsImported reading path listing text verdict
as_refused reading path listing text verdict line is = subst (IsImported reading path listing text) (sym is) line

pub as_absent : (reading : Reading) (path : Option (List ℕ)) (listing : Bool) (text : List ℕ) (verdict : Verdict) → text ≡ [] → verdict ≡ Absent → IsImported reading path listing text verdict
as_absent reading path listing text verdict none is = subst (IsImported reading path listing text) (sym is) none

pub as_written : (so : List ℕ → Type 0) (text : List ℕ) (verdict : Verdict) → so text → verdict ≡ AllMet → IsWritten so text verdict
as_written so text verdict made is = subst (IsWritten so text) (sym is) made

pub as_nothing : (so : List ℕ → Type 0) (text : List ℕ) (verdict : Verdict) → text ≡ [] → verdict ≡ Absent → IsWritten so text verdict
as_nothing so text verdict none is = subst (IsWritten so text) (sym is) none

as_set_up : (reading : Reading) (path : Option (List ℕ)) (layout : Layout) → IsReadAs reading layout → (text : List ℕ) (verdict : Verdict) → IsWritten (IsSetUpOf layout path) text verdict → IsImported reading path false text verdict
as_set_up reading path layout so text AllMet made = (layout, (so, made))
as_set_up reading path layout so text NotMet made = made
as_set_up reading path layout so text Refused made = absurd made
as_set_up reading path layout so text Absent none = none

as_listing : (reading : Reading) (path : Option (List ℕ)) (layout : Layout) → IsReadAs reading layout → (text : List ℕ) (verdict : Verdict) → IsWritten (λ text. text ≡ listing_lines [] layout) text verdict → IsImported reading path true text verdict
as_listing reading path layout so text AllMet made = (layout, (so, made))
as_listing reading path layout so text NotMet made = made
as_listing reading path layout so text Refused made = absurd made
as_listing reading path layout so text Absent none = none

-- what is written of a layout that is read as it is asked for
pub as_imported : {E : Type 0} (reading : Reading) (path : Option (List ℕ)) (listing : Bool) (layout : Layout) (r : Result Answer E) → IsReadAs reading layout
    → (listing ≡ true → IfOk r (λ made. IsWritten (λ text. text ≡ listing_lines [] layout) made.text.items made.verdict))
    → (listing ≡ false → IfOk r (λ made. IsWritten (IsSetUpOf layout path) made.text.items made.verdict))
    → IfOk r (λ made. IsImported reading path listing made.text.items made.verdict)
as_imported reading path true layout r so listed tested =
    IfOk-weaker r (λ made. IsWritten (λ text. text ≡ listing_lines [] layout) made.text.items made.verdict) (λ made. IsImported reading path true made.text.items made.verdict)
    (λ (made : Answer) is. as_listing reading path layout so made.text.items made.verdict is) (listed refl)
as_imported reading path false layout r so listed tested =
    IfOk-weaker r (λ made. IsWritten (IsSetUpOf layout path) made.text.items made.verdict) (λ made. IsImported reading path false made.text.items made.verdict)
    (λ (made : Answer) is. as_set_up reading path layout so made.text.items made.verdict is) (tested refl)
