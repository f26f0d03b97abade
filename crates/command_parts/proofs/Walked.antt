-- The walk that finds the parts of what stands below the slots of a part.
use Rattle.std.proofs.Common.{◌≡◌, ℕ, ◌==◌, ◌+◌, ◌<◌, List, [], ◌∷◌, ◌++◌, drop, length, get_or, append_assoc, drop-cons, add-one, refl, sym, ap, ◌∙◌}
use Rattle.std.specs.BTreeSet.{BTreeSet, contains}
use Rattle.std.specs.Ordering.{nat_cmp}
use Rattle.setup_report.specs.State.{is_in, rising}
use Rattle.setup_report.proofs.Addresses.Rising.{any_rising, tied_in}
use Rattle.command_parts.specs.declared.takes.PartSlot.{PartSlot}
use Rattle.command_parts.specs.Takes.{part_below, parts_below, with_slot}

-- what a set has whose numbers are some in rising order
pub contained : (set : BTreeSet ℕ) (all : List ℕ) (q : ℕ) → set.keys ≡ rising all → contains nat_cmp set q ≡ is_in q all
contained set all q h = tied_in q set.keys ∙ ap (is_in q) h ∙ any_rising (λ a. q == a) all

-- one slot more of the walk
pub walked_one : (part : ℕ) (slots : List PartSlot) (i : ℕ) (d : PartSlot) (all before after : List ℕ) → i < length slots →
    before ++ parts_below part all (drop i slots) ≡ parts_below part [] slots →
    after ≡ before ++ part_below all (get_or slots i d) →
    after ++ parts_below part (with_slot part all (get_or slots i d)) (drop (i + 1) slots) ≡ parts_below part [] slots
walked_one part slots i d all before after within is so =
    let rest = parts_below part (with_slot part all (get_or slots i d)) (drop (i + 1) slots) in
    let here : drop i slots ≡ get_or slots i d ∷ drop (i + 1) slots = rw (add-one, drop-cons slots i d) refl in
    ap (λ (l : List ℕ). l ++ rest) so
    ∙ append_assoc before (part_below all (get_or slots i d)) rest
    ∙ ap (λ (l : List PartSlot). before ++ parts_below part all l) (sym here)
    ∙ is
