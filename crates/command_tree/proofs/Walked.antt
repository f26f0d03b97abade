-- The path to each full slot of a forest is found from the slot that it stands right below.
use Rattle.std.proofs.Common.{◌≡◌, ℕ, ◌+◌, ◌<◌, ◌==◌, true, false, not, cond, nat_lt, List, [], ◌∷◌, ◌++◌, map, length, Option, Some, None, option_map, refl, sym, ap, ◌∙◌, append_assoc, append-nil, eq-eqb, arith}
use Rattle.std.specs.List.{AllByRecursion as Each, IsDistinct, prefix_len, position_or_len, position}
use Rattle.std.proofs.Math.Seq.{take-append-add}
use Rattle.std.proofs.lemmas.List.{map-append, length-append}
use Rattle.std.proofs.lemmas.Bool.{lt-ltb}
use Rattle.std.proofs.lemmas.Bool.Decides.{nat_tests}
use Rattle.kernel_forest.specs.Forest.{Forest, none, tree, preorder, parented}
use Rattle.kernel_forest.specs.Entries.{Entry, slots, is_at, slot_of as entry_slot, derivations_of}
use Rattle.kernel_forest.proofs.Trees.Forests.{each-append, each-left_part, each-right_part}
use Rattle.kernel_forest.proofs.Trees.Built.{Absent, Once, once-right_part}
use Rattle.kernel_forest.proofs.Trees.Lines.{once-left_part}
use Rattle.kernel_forest.proofs.Slots.Distinct.{once_at}
use Rattle.setup_report.specs.State.{Derived}
use Rattle.command_tree.specs.Tree.{placed}
use Rattle.command_tree.specs.Private.Path.{path_up_to, kept, slots_with_paths}

-- ---- the first ones of a path, up to a slot that stands in it once

-- no slot of a path is this one
abbrev IsOff : List ℕ → ℕ → Type 0
IsOff path slot = Each (λ t. (t == slot) ≡ false) path

place_of : (slot : ℕ) (path more : List ℕ) → IsOff path slot → position_or_len (λ t. t == slot) (path ++ slot ∷ more) ≡ length path
place_of slot [] more off = ap (λ b. cond (not b) (1 + prefix_len (λ t. not (t == slot)) more) 0) (eq-eqb slot slot refl)
place_of slot (t ∷ path) more off =
    let one : 1 + length path ≡ length (t ∷ path) = omega arith in
    ap (λ b. cond (not b) (1 + prefix_len (λ t. not (t == slot)) (path ++ slot ∷ more)) 0) off.0 ∙ (ap (λ n. 1 + n) (place_of slot path more off.1) ∙ one)

shorter : (path : List ℕ) (slot : ℕ) (more : List ℕ) → nat_lt (length path) (length (path ++ slot ∷ more)) ≡ true
shorter path slot more =
    let behind : length (path ++ slot ∷ more) ≡ length path + length (slot ∷ more) = length-append path (slot ∷ more) in
    let less : length path < length (path ++ slot ∷ more) = omega (arith, behind) in
    lt-ltb (length path) (length (path ++ slot ∷ more)) less

place_is : (slot : ℕ) (path more : List ℕ) → IsOff path slot → position (λ t. t == slot) (path ++ slot ∷ more) ≡ Some (length path)
place_is slot path more off =
    ap (λ n. cond (nat_lt n (length (path ++ slot ∷ more))) (Some n) None) (place_of slot path more off)
    ∙ ap (λ b. cond b (Some (length path)) None) (shorter path slot more)

kept_is : (slot : ℕ) (path more : List ℕ) → IsOff path slot → kept (Some slot) ((path ++ slot ∷ []) ++ more) ≡ path ++ slot ∷ []
kept_is slot path more off =
    ap (kept (Some slot)) (append_assoc path (slot ∷ []) more)
    ∙ (ap (λ place. path_up_to place (path ++ slot ∷ more)) (place_is slot path more off)
    ∙ take-append-add path (slot ∷ more) 1)

-- ---- a forest

abbrev viewed : Entry × Option Entry → Derived
viewed x = (x.0, option_map entry_slot x.1)

-- a path that goes on behind what leads to `above` is cut down to that
abbrev Leads : Option Entry → List ℕ → Type 0
Leads above path = (more : List ℕ) → kept (option_map entry_slot above) (path ++ more) ≡ path

-- no slot of a path is one of the forest
abbrev IsApart : List ℕ → List Entry → Type 0
IsApart path list = Each (λ (e : Entry). IsOff path e.slot) list

abbrev AreDistinct : Forest Entry → Type 0
AreDistinct f = (slot : ℕ) → Once (is_at slot) (preorder f)

other_way : (a b : ℕ) → (a == b) ≡ false → (b == a) ≡ false
other_way a b n = grind (arith, nat_tests)

apart_below : (path : List ℕ) (slot : ℕ) (list : List Entry) → IsApart path list → Absent (is_at slot) list → IsApart (path ++ slot ∷ []) list
apart_below path slot [] apart absent = tt
apart_below path slot (e ∷ list) apart absent =
    (each-append (λ t. (t == e.slot) ≡ false) path (slot ∷ []) apart.0 (other_way e.slot slot absent.0, tt), apart_below path slot list apart.1 absent.1)

-- what is walked of a forest and of a list behind it
abbrev IsWalked : List ℕ → Option Entry → Forest Entry → List ℕ → List Derived → Type 0
IsWalked path above f more rest =
    (left : List ℕ) × (slots_with_paths (path ++ more) (map viewed (parented above f) ++ rest) ≡ placed path f ++ slots_with_paths (path ++ left) rest)

walked_tree : (path : List ℕ) (above : Option Entry) (e : Entry) (under others : Forest Entry) (more below left : List ℕ) (rest : List Derived) → Leads above path →
    slots_with_paths ((path ++ e.slot ∷ []) ++ []) (map viewed (parented (Some e) under) ++ (map viewed (parented above others) ++ rest))
    ≡ placed (path ++ e.slot ∷ []) under ++ slots_with_paths ((path ++ e.slot ∷ []) ++ below) (map viewed (parented above others) ++ rest) →
    slots_with_paths (path ++ e.slot ∷ below) (map viewed (parented above others) ++ rest) ≡ placed path others ++ slots_with_paths (path ++ left) rest →
    slots_with_paths (path ++ more) (map viewed (parented above (tree e under others)) ++ rest) ≡ placed path (tree e under others) ++ slots_with_paths (path ++ left) rest
walked_tree path above e under others more below left rest leads first second =
    let own = path ++ e.slot ∷ [] in
    let mine = map viewed (parented (Some e) under) in
    let theirs = map viewed (parented above others) in
    ap (λ l. slots_with_paths (path ++ more) ((viewed (e, above) ∷ l) ++ rest)) (map-append viewed (parented (Some e) under) (parented above others))
    ∙ (ap (λ l. (e, l) ∷ slots_with_paths (l ++ e.slot ∷ []) ((mine ++ theirs) ++ rest)) (leads more)
    ∙ ap (λ l. (e, path) ∷ l)
    ((λ i. slots_with_paths (sym (append-nil own) i) (append_assoc mine theirs rest i))
    ∙ (first
    ∙ (ap (λ l. placed own under ++ slots_with_paths l (theirs ++ rest)) (append_assoc path (e.slot ∷ []) below)
    ∙ (ap (λ l. placed own under ++ l) second
    ∙ sym (append_assoc (placed own under) (placed path others) (slots_with_paths (path ++ left) rest)))))))

walked_forest : (path : List ℕ) (above : Option Entry) (f : Forest Entry) (more : List ℕ) (rest : List Derived) → Leads above path → AreDistinct f → IsApart path (preorder f) →
    IsWalked path above f more rest
walked_forest path above none more rest leads distinct apart = (more, refl)
walked_forest path above (tree e under others) more rest leads distinct apart =
    let own = path ++ e.slot ∷ [] in
    let theirs = map viewed (parented above others) in
    let once_under : AreDistinct under = λ slot. once-left_part (is_at slot) (preorder under) (preorder others) (distinct slot).1 in
    let once_others : AreDistinct others = λ slot. once-right_part (is_at slot) (preorder under) (preorder others) (distinct slot).1 in
    let absent : Absent (is_at e.slot) (preorder under) =
    each-left_part (λ a. is_at e.slot a ≡ false) (preorder under) (preorder others) ((distinct e.slot).0 (eq-eqb e.slot e.slot refl)) in
    let apart_under : IsApart own (preorder under) =
    apart_below path e.slot (preorder under) (each-left_part (λ (a : Entry). IsOff path a.slot) (preorder under) (preorder others) apart.1) absent in
    let apart_others : IsApart path (preorder others) = each-right_part (λ (a : Entry). IsOff path a.slot) (preorder under) (preorder others) apart.1 in
    let first : IsWalked own (Some e) under [] (theirs ++ rest) =
    walked_forest own (Some e) under [] (theirs ++ rest) (λ tail. kept_is e.slot path tail apart.0) once_under apart_under in
    let second : IsWalked path above others (e.slot ∷ first.0) rest = walked_forest path above others (e.slot ∷ first.0) rest leads once_others apart_others in
    (second.0, walked_tree path above e under others more first.0 second.0 rest leads first.1 second.1)

all_off : (list : List Entry) → IsApart [] list
all_off [] = tt
all_off (e ∷ list) = (tt, all_off list)

-- each full slot stands below the slots of its path
pub walked_is : (f : Forest Entry) → IsDistinct (λ (a b : ℕ). a == b) (slots f) → slots_with_paths [] (derivations_of f) ≡ placed [] f
walked_is f distinct =
    let walk : IsWalked [] None f [] [] = walked_forest [] None f [] [] (λ more. refl) (λ slot. once_at slot (preorder f) distinct) (all_off (preorder f)) in
    ap (slots_with_paths []) (sym (append-nil (derivations_of f))) ∙ (walk.1 ∙ append-nil (placed [] f))
