-- The sibling in front of each full slot of a forest is found in one walk.
use Rattle.std.proofs.Common.{◌≡◌, ℕ, zero, ◌+◌, ◌<◌, ◌==◌, true, false, not, cond, nat_lt, List, [], ◌∷◌, ◌++◌, map, length, take, slice_get, Option, Some, None, option_map, refl, sym, ap, ◌∙◌, append_assoc, append-nil, eq-eqb, arith}
use Rattle.std.specs.List.{AllByRecursion as Each, IsDistinct, prefix_len, position_or_len, position}
use Rattle.std.proofs.lemmas.List.{map-append, length-append}
use Rattle.std.proofs.lemmas.Bool.{lt-ltb}
use Rattle.std.proofs.lemmas.Bool.Decides.{nat_tests}
use Rattle.kernel_forest.specs.Forest.{Forest, none, tree, preorder, parented}
use Rattle.kernel_forest.specs.Entries.{Entry, slots, is_at, slot_of as entry_slot, derivations_of}
use Rattle.kernel_forest.proofs.Trees.Forests.{each-append, each-left_part, each-right_part}
use Rattle.kernel_forest.proofs.Trees.Built.{Absent, Once, once-right_part}
use Rattle.kernel_forest.proofs.Trees.Lines.{once-left_part}
use Rattle.kernel_forest.proofs.Slots.Distinct.{once_at}
use Rattle.setup_report.specs.State.{Derived}
use Rattle.command_trace.specs.Siblings.{Sibling, siblings}
use Rattle.command_trace.specs.Private.Path.{up_to, cut, siblings_walked}

-- ---- the place behind a slot that stands in a path once

-- no slot of a path is this one
abbrev IsOff : List ℕ → ℕ → Type 0
IsOff path slot = Each (λ t. (t == slot) ≡ false) path

place_of : (slot : ℕ) (path more : List ℕ) → IsOff path slot → position_or_len (λ t. t == slot) (path ++ slot ∷ more) ≡ length path
place_of slot [] more off = ap (λ b. cond (not b) (1 + prefix_len (λ t. not (t == slot)) more) 0) (eq-eqb slot slot refl)
place_of slot (t ∷ path) more off =
    let one : 1 + length path ≡ length (t ∷ path) = omega arith in
    ap (λ b. cond (not b) (1 + prefix_len (λ t. not (t == slot)) (path ++ slot ∷ more)) 0) off.0 ∙ (ap (λ n. 1 + n) (place_of slot path more off.1) ∙ one)

shorter : (path : List ℕ) (slot : ℕ) (more : List ℕ) → nat_lt (length path) (length (path ++ slot ∷ more)) ≡ true
shorter path slot more =
    let behind : length (path ++ slot ∷ more) ≡ length path + length (slot ∷ more) = length-append path (slot ∷ more) in
    let less : length path < length (path ++ slot ∷ more) = omega (arith, behind) in
    lt-ltb (length path) (length (path ++ slot ∷ more)) less

place_is : (slot : ℕ) (path more : List ℕ) → IsOff path slot → position (λ t. t == slot) (path ++ slot ∷ more) ≡ Some (length path)
place_is slot path more off =
    ap (λ n. cond (nat_lt n (length (path ++ slot ∷ more))) (Some n) None) (place_of slot path more off)
    ∙ ap (λ b. cond b (Some (length path)) None) (shorter path slot more)

cut_is : (slot : ℕ) (path more : List ℕ) → IsOff path slot → cut (Some slot) ((path ++ slot ∷ []) ++ more) ≡ length (path ++ slot ∷ [])
cut_is slot path more off =
    ap (cut (Some slot)) (append_assoc path (slot ∷ []) more)
    ∙ (ap up_to (place_is slot path more off)
    ∙ sym (length-append path (slot ∷ [])))

-- ---- a path and what it goes on by

front : (path more : List ℕ) → take (length path) (path ++ more) ≡ path
front [] more = refl
front (t ∷ path) more = ap (λ l. t ∷ l) (front path more)

behind : (path more : List ℕ) → slice_get (path ++ more) (length path) ≡ slice_get more zero
behind [] more = refl
behind (t ∷ path) more = behind path more

-- ---- a forest

abbrev viewed : Entry × Option Entry → Derived
viewed x = (x.0, option_map entry_slot x.1)

-- a path that goes on behind what leads to `above` is cut down to that
abbrev Leads : Option Entry → List ℕ → Type 0
Leads above path = (more : List ℕ) → cut (option_map entry_slot above) (path ++ more) ≡ length path

-- no slot of a path is one of the forest
abbrev IsApart : List ℕ → List Entry → Type 0
IsApart path list = Each (λ (e : Entry). IsOff path e.slot) list

abbrev AreDistinct : Forest Entry → Type 0
AreDistinct f = (slot : ℕ) → Once (is_at slot) (preorder f)

other_way : (a b : ℕ) → (a == b) ≡ false → (b == a) ≡ false
other_way a b n = grind (arith, nat_tests)

apart_below : (path : List ℕ) (slot : ℕ) (list : List Entry) → IsApart path list → Absent (is_at slot) list → IsApart (path ++ slot ∷ []) list
apart_below path slot [] apart absent = tt
apart_below path slot (e ∷ list) apart absent =
    (each-append (λ t. (t == e.slot) ≡ false) path (slot ∷ []) apart.0 (other_way e.slot slot absent.0, tt), apart_below path slot list apart.1 absent.1)

-- what is walked of a forest and of a list behind it
abbrev IsWalked : List ℕ → Option Entry → Forest Entry → List ℕ → List Derived → Type 0
IsWalked path above f more rest =
    (left : List ℕ) × (siblings_walked (path ++ more) (map viewed (parented above f) ++ rest) ≡ siblings (slice_get more zero) f ++ siblings_walked (path ++ left) rest)

walked_tree : (path : List ℕ) (above : Option Entry) (e : Entry) (under others : Forest Entry) (more below left : List ℕ) (rest : List Derived) → Leads above path →
    siblings_walked ((path ++ e.slot ∷ []) ++ []) (map viewed (parented (Some e) under) ++ (map viewed (parented above others) ++ rest))
    ≡ siblings None under ++ siblings_walked ((path ++ e.slot ∷ []) ++ below) (map viewed (parented above others) ++ rest) →
    siblings_walked (path ++ e.slot ∷ below) (map viewed (parented above others) ++ rest) ≡ siblings (Some e.slot) others ++ siblings_walked (path ++ left) rest →
    siblings_walked (path ++ more) (map viewed (parented above (tree e under others)) ++ rest) ≡ siblings (slice_get more zero) (tree e under others) ++ siblings_walked (path ++ left) rest
walked_tree path above e under others more below left rest leads first second =
    let own = path ++ e.slot ∷ [] in
    let mine = map viewed (parented (Some e) under) in
    let theirs = map viewed (parented above others) in
    ap (λ l. siblings_walked (path ++ more) ((viewed (e, above) ∷ l) ++ rest)) (map-append viewed (parented (Some e) under) (parented above others))
    ∙ (ap (λ n. (e.slot, slice_get (path ++ more) n) ∷ siblings_walked (take n (path ++ more) ++ e.slot ∷ []) ((mine ++ theirs) ++ rest)) (leads more)
    ∙ ((λ i. (e.slot, behind path more i) ∷ siblings_walked (front path more i ++ e.slot ∷ []) ((mine ++ theirs) ++ rest))
    ∙ ap (λ l. (e.slot, slice_get more zero) ∷ l)
    ((λ i. siblings_walked (sym (append-nil own) i) (append_assoc mine theirs rest i))
    ∙ (first
    ∙ (ap (λ l. siblings None under ++ siblings_walked l (theirs ++ rest)) (append_assoc path (e.slot ∷ []) below)
    ∙ (ap (λ l. siblings None under ++ l) second
    ∙ sym (append_assoc (siblings None under) (siblings (Some e.slot) others) (siblings_walked (path ++ left) rest))))))))

walked_forest : (path : List ℕ) (above : Option Entry) (f : Forest Entry) (more : List ℕ) (rest : List Derived) → Leads above path → AreDistinct f → IsApart path (preorder f) →
    IsWalked path above f more rest
walked_forest path above none more rest leads distinct apart = (more, refl)
walked_forest path above (tree e under others) more rest leads distinct apart =
    let own = path ++ e.slot ∷ [] in
    let theirs = map viewed (parented above others) in
    let once_under : AreDistinct under = λ slot. once-left_part (is_at slot) (preorder under) (preorder others) (distinct slot).1 in
    let once_others : AreDistinct others = λ slot. once-right_part (is_at slot) (preorder under) (preorder others) (distinct slot).1 in
    let absent : Absent (is_at e.slot) (preorder under) =
    each-left_part (λ a. is_at e.slot a ≡ false) (preorder under) (preorder others) ((distinct e.slot).0 (eq-eqb e.slot e.slot refl)) in
    let apart_under : IsApart own (preorder under) =
    apart_below path e.slot (preorder under) (each-left_part (λ (a : Entry). IsOff path a.slot) (preorder under) (preorder others) apart.1) absent in
    let apart_others : IsApart path (preorder others) = each-right_part (λ (a : Entry). IsOff path a.slot) (preorder under) (preorder others) apart.1 in
    let first : IsWalked own (Some e) under [] (theirs ++ rest) =
    walked_forest own (Some e) under [] (theirs ++ rest) (λ tail. cut_is e.slot path tail apart.0) once_under apart_under in
    let second : IsWalked path above others (e.slot ∷ first.0) rest = walked_forest path above others (e.slot ∷ first.0) rest leads once_others apart_others in
    (second.0, walked_tree path above e under others more first.0 second.0 rest leads first.1 second.1)

all_off : (list : List Entry) → IsApart [] list
all_off [] = tt
all_off (e ∷ list) = (tt, all_off list)

-- each full slot, with the sibling right in front of it
pub walked_is : (f : Forest Entry) → IsDistinct (λ (a b : ℕ). a == b) (slots f) → siblings_walked [] (derivations_of f) ≡ siblings None f
walked_is f distinct =
    let walk : IsWalked [] None f [] [] = walked_forest [] None f [] [] (λ more. refl) (λ slot. once_at slot (preorder f) distinct) (all_off (preorder f)) in
    ap (siblings_walked []) (sym (append-nil (derivations_of f))) ∙ (walk.1 ∙ append-nil (siblings None f))

-- their slots are the full slots
slots_behind : (before : Option ℕ) (f : Forest Entry) → map (λ (x : Sibling). x.0) (siblings before f) ≡ slots f
slots_behind before none = refl
slots_behind before (tree e under others) =
    ap (λ l. e.slot ∷ l)
    (map-append (λ (x : Sibling). x.0) (siblings None under) (siblings (Some e.slot) others)
    ∙ ((λ i. slots_behind None under i ++ slots_behind (Some e.slot) others i)
    ∙ sym (map-append (λ (a : Entry). a.slot) (preorder under) (preorder others))))

pub slots_are : (f : Forest Entry) → map (λ (x : Sibling). x.0) (siblings None f) ≡ slots f
slots_are f = slots_behind None f
