-- What the line of a slot tells, and the line of a sibling.
use Rattle.std.proofs.Common.{◌≡◌, ℕ, ◌<◌, ◌^◌, Bool, true, false, cond, List, [], ◌++◌, Option, None, Some, refl, sym, ap, arith}
use Rattle.std.specs.Prelude.{codes}
use Rattle.std.specs.Fmt.{decimal}
use Rattle.std.proofs.lemmas.Fmt.{decimal_injective}
use Rattle.std.proofs.lemmas.List.{append_cancel_left}
use Rattle.kernel_forest.specs.Entries.{Entry}
use Rattle.setup_report.specs.State.{Derived}
use Rattle.setup_report.specs.Naming.{plain}
use Rattle.setup_report.specs.Text.{cap_text}
use Rattle.setup_report_laws.specs.Laws.{Stops, is_digit}
use Rattle.setup_report_laws.proofs.Parts.{numbers_apart}
use Rattle.setup_report_laws.proofs.Capabilities.{capabilities_apart}
use Rattle.command_trace.specs.Lines.{parent_text, traced_slot_text}
use Rattle.command_trace.specs.Siblings.{sibling_text}

-- what is told of a full slot: its address, its capability, and whether it is original
abbrev pub ToldSlot : Type 0
ToldSlot = ℕ × List ℕ × Bool

abbrev pub told_slot : Entry → ToldSlot
told_slot e = (e.slot, cap_text plain e.cap, e.original)

-- a slot's address, where there is one, has no more than 64 bits
abbrev pub IsShort : Option ℕ → Type 0
IsShort None = Unit {0}
IsShort (Some slot) = slot < 2 ^ 64

abbrev original_text : Bool → List ℕ
original_text original = cond original (codes " original") []

original_stops : (original : Bool) → Stops is_digit (original_text original)
original_stops true = refl
original_stops false = tt

parent_stops : (parent : Option ℕ) (original : Bool) → Stops is_digit (parent_text plain parent ++ original_text original)
parent_stops None original = original_stops original
parent_stops (Some slot) original = refl

same_original : (a b : Bool) → original_text a ≡ original_text b → a ≡ b
same_original true true same = refl
same_original true false same = absurd cc
same_original false true same = absurd cc
same_original false false same = refl

not_parent : (original : Bool) (slot : ℕ) (rest : List ℕ) → original_text original ≡ (codes " under " ++ decimal slot) ++ rest → ⊥
not_parent true slot rest same = absurd (let w : ◌≡◌ {A = ℕ} 111 117 = cc in omega (arith, w))
not_parent false slot rest same = absurd cc

same_parent : (parent other : Option ℕ) (a b : Bool) → IsShort parent → IsShort other → parent_text plain parent ++ original_text a ≡ parent_text plain other ++ original_text b → (parent ≡ other) × (a ≡ b)
same_parent None None a b h k same = (refl, same_original a b same)
same_parent None (Some slot) a b h k same = absurd (not_parent a slot (original_text b) same)
same_parent (Some slot) None a b h k same = absurd (not_parent b slot (original_text a) (sym same))
same_parent (Some slot) (Some place) a b h k same =
    let behind : decimal slot ++ original_text a ≡ decimal place ++ original_text b =
    append_cancel_left (codes " under ") (decimal slot ++ original_text a) (decimal place ++ original_text b) same in
    let both = numbers_apart slot place (original_text a) (original_text b) (original_stops a) (original_stops b) behind in
    (ap (λ n. Some n) (decimal_injective slot place h k both.0), same_original a b both.1)

-- equal lines of slots tell the same
pub same_slot_told : (d e : Derived) → IsShort (Some d.0.slot) → IsShort (Some e.0.slot) → IsShort d.1 → IsShort e.1 → traced_slot_text plain d ≡ traced_slot_text plain e → (told_slot d.0 ≡ told_slot e.0) × (d.1 ≡ e.1)
same_slot_told (a, above) (b, over) ha hb k l same =
    let tail = λ (x : Entry) (o : Option ℕ). cap_text plain x.cap ++ (parent_text plain o ++ original_text x.original) in
    let first : (decimal a.slot ≡ decimal b.slot) × (codes " " ++ tail a above ≡ codes " " ++ tail b over) =
    numbers_apart a.slot b.slot (codes " " ++ tail a above) (codes " " ++ tail b over) refl refl
    (append_cancel_left (codes "slot ") (decimal a.slot ++ (codes " " ++ tail a above)) (decimal b.slot ++ (codes " " ++ tail b over)) same) in
    let second = capabilities_apart a.cap b.cap (parent_text plain above ++ original_text a.original) (parent_text plain over ++ original_text b.original)
    (parent_stops above a.original) (parent_stops over b.original) (append_cancel_left (codes " ") (tail a above) (tail b over) first.1) in
    let third = same_parent above over a.original b.original k l second.1 in
    ((λ i. (decimal_injective a.slot b.slot ha hb first.0 i, second.0 i, third.1 i)), third.0)

pub same_sibling_told : (slot before other : ℕ) → before < 2 ^ 64 → other < 2 ^ 64 → sibling_text plain slot before ≡ sibling_text plain slot other → before ≡ other
same_sibling_told slot before other h k same =
    let first : decimal slot ++ (codes " after " ++ decimal before) ≡ decimal slot ++ (codes " after " ++ decimal other) =
    append_cancel_left (codes "sibling ") (decimal slot ++ (codes " after " ++ decimal before)) (decimal slot ++ (codes " after " ++ decimal other)) same in
    let second : codes " after " ++ decimal before ≡ codes " after " ++ decimal other =
    append_cancel_left (decimal slot) (codes " after " ++ decimal before) (codes " after " ++ decimal other) first in
    decimal_injective before other h k (append_cancel_left (codes " after ") (decimal before) (decimal other) second)
