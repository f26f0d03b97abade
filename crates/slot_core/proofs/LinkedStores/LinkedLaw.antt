-- Derivation without a tree, in a store's own list: what `stands_for_its_forest` says of it.
use Rattle.std.proofs.Common.{◌≡◌, ℕ, ◌*◌, List, ◌∷◌, ◌++◌, Option, ◌∙◌, ap, subst}
use Rattle.cap_core.specs.declared.profile.ProfileName.{ProfileName}
use Rattle.cap_core.specs.Numbers.{slot_size}
use Rattle.slot_core.specs.declared.linked.table.Link.{Link}
use Rattle.kernel_forest.specs.Forest.{descendants}
use Rattle.kernel_forest.specs.Entries.{is_at, first_child}
use Rattle.kernel_forest.specs.Derivation.{is_last}
use Rattle.kernel_forest.specs.Marked.{Marked, forest_of, IsGathered, IsNamedFirst, HasOthersBelow, HasRunsBelow, HasChildrenNext, HasLastsAlone}
use Rattle.slot_core.specs.Links.{order_of, rows_of, IsLinkedStore}
use Rattle.kernel_forest.proofs.Marked.MarkedSteps.{StandsIn}
use Rattle.kernel_forest.proofs.Marked.MarkedEdits.{AreApart, stands_in}
use Rattle.kernel_forest.proofs.Marked.MarkedLaw.{run_below}
use Rattle.kernel_forest.proofs.Marked.MarkedReads.{child_told, last_told}
use Rattle.kernel_forest.proofs.Marked.OneObject.{below_open}
use Rattle.slot_core.proofs.LinkedStores.LinkedSteps.{apart_rows}

stands_there : (p : ProfileName) (links : List Link) (first last : Option ℕ) (value : List Marked) → rows_of links first ≡ value → IsLinkedStore p links first last
    → (pre : List Marked) (s : Marked) (post : List Marked) → value ≡ pre ++ s ∷ post → StandsIn p pre s post
stands_there p links first last value v inv pre s post e = let A : List Marked → Type 0 = AreApart p in stands_in p pre s post (subst A (v ∙ e) (apart_rows p links (order_of links first) inv.linked.apart))

pub run_in_store : (p : ProfileName) (links : List Link) (first last : Option ℕ) (value : List Marked) → rows_of links first ≡ value → IsLinkedStore p links first last → HasRunsBelow p value
run_in_store p links first last value v inv pre s post e =
    ap (λ (l : List Marked). descendants (is_at (s.place * slot_size p)) (forest_of p l)) e ∙ run_below p pre s post (stands_there p links first last value v inv pre s post e)

pub child_in_store : (p : ProfileName) (links : List Link) (first last : Option ℕ) (value : List Marked) → rows_of links first ≡ value → IsLinkedStore p links first last → HasChildrenNext p value
child_in_store p links first last value v inv pre s post e =
    ap (λ (l : List Marked). first_child (s.place * slot_size p) (forest_of p l)) e ∙ child_told p pre s post (stands_there p links first last value v inv pre s post e)

pub last_in_store : (p : ProfileName) (links : List Link) (first last : Option ℕ) (value : List Marked) → rows_of links first ≡ value → IsLinkedStore p links first last → HasLastsAlone p value
last_in_store p links first last value v inv pre s post e =
    let G : List Marked → Type 0 = IsGathered p in
    ap (λ (l : List Marked). is_last (s.place * slot_size p) (forest_of p l)) e
    ∙ last_told p pre s post (subst G (v ∙ e) inv.kept.gathered) (stands_there p links first last value v inv pre s post e)

pub below_in_store : (p : ProfileName) (links : List Link) (first last : Option ℕ) (value : List Marked) → rows_of links first ≡ value → IsLinkedStore p links first last
    → HasOthersBelow (forest_of p value)
below_in_store p links first last value v inv =
    let G : List Marked → Type 0 = IsGathered p in
    let N : List Marked → Type 0 = IsNamedFirst in
    below_open p value (subst G v inv.kept.gathered) (subst N v inv.kept.named_first) (run_in_store p links first last value v inv)
