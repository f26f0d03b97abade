-- Two layouts that are told alike are laid out by the same states.
use Rattle.std.proofs.Common.{◌≡◌, ℕ, ◌+◌, ◌*◌, ◌^◌, ◌==◌, ◌&&◌, ◌||◌, Bool, true, false, not, List, [], ◌∷◌, ◌++◌, map, Option, Some, None, option_map, string_bytes, All, refl, sym, ap, subst, ◌∙◌, arith}
use Rattle.std.specs.Prelude.{slice_get, nat_lt, is_none}
use Rattle.std.specs.List.{AllByRecursion as Each, flat_map, list_all, list_any}
use Rattle.std.proofs.lemmas.Bool.Decides.{nat_tests}
use Rattle.std.proofs.lemmas.List.Elements.{recursion_from_All}
use Rattle.std.proofs.lemmas.List.Folds.{list_all-append}
use Rattle.cap_core.specs.declared.profile.ProfileName.{ProfileName}
use Rattle.cap_core.specs.declared.capability.Cap.{Cap}
use Rattle.cap_core.specs.declared.capability.Cap.TheVariants as cap
use Rattle.cap_core.specs.declared.capability.Kind.{Kind}
use Rattle.cap_core.specs.declared.capability.Kind.TheVariants.{Untyped, Endpoint, CNode, Tcb}
use Rattle.cap_core.specs.Numbers.{slot_size}
use Rattle.kernel_forest.specs.Forest.{Forest}
use Rattle.kernel_forest.specs.Entries.{Entry, cap_at, derivations_of}
use Rattle.kernel_abstract.specs.Plan.{Plan, first_tcb}
use Rattle.kernel_abstract.specs.Shown.{Shown, state_at, inbox_at, waiting_at}
use Rattle.setup_layout.specs.declared.layout.AssumedRights.{AssumedRights}
use Rattle.setup_layout.specs.declared.layout.AssumedRights.TheVariants.{NoRights, AllRights, LeastRights}
use Rattle.setup_layout.specs.declared.layout.Layout.{Layout}
use Rattle.setup_layout.specs.declared.layout.Object.{Object}
use Rattle.setup_layout.specs.declared.layout.Slot.{Slot}
use Rattle.command_import.specs.Laid.{IsLaidOut, Rows, kind_number, is_state, are_same_object, are_objects_apart, is_capability_of, is_object_live, stands, stands_as, is_cap_with, slot_place, address_in, layout_slot_address, holds, is_slot_filled, is_number, are_slots_known, address_if, is_right_below, is_derived}
use Rattle.command_import.specs.Told.{ToldPlace, ToldLine, HoldsUntyped, HoldsEndpoint, HoldsCNode, HoldsTcb, MakesNoCalls, StandsBelow, AssumesRights, told_number, told_place, told_held, told_of_slot, told_slot, told_state, told_inactive, told_pair, told_derived, told_assumed, listing_tells, AreAtTheirNames, told_object, is_own_slot, has_objects, has_its_objects, are_slots, HasItsParts}
use Rattle.command_import.proofs.Lists.{each_both, each_in, found}

-- ---- parts of a list

-- those that pass a test, before those that do not
parts_apart : {X : Type 0} (is : X → Bool) (xs ys rest more : List X) → Each (λ (x : X). is x ≡ true) xs → Each (λ (x : X). is x ≡ true) ys → Each (λ (x : X). is x ≡ false) rest → Each (λ (x : X). is x ≡ false) more
    → xs ++ rest ≡ ys ++ more → (xs ≡ ys) × (rest ≡ more)
parts_apart is [] [] rest more a b e f same = (refl, same)
parts_apart {X} is [] (y ∷ ys) rest more a b e f same =
    let others : Each (λ (x : X). is x ≡ false) (y ∷ (ys ++ more)) = subst (Each (λ (x : X). is x ≡ false)) same e in
    absurd (let w : true ≡ false = sym b.0 ∙ others.0 in cc)
parts_apart {X} is (x ∷ xs) [] rest more a b e f same =
    let others : Each (λ (x : X). is x ≡ false) (x ∷ (xs ++ rest)) = subst (Each (λ (x : X). is x ≡ false)) (sym same) f in
    absurd (let w : true ≡ false = sym a.0 ∙ others.0 in cc)
parts_apart is (x ∷ xs) (y ∷ ys) rest more a b e f same =
    let first : x ≡ y = cc in
    let others : xs ++ rest ≡ ys ++ more = cc in
    let both = parts_apart is xs ys rest more a.1 b.1 e f others in
    ((λ i. first i ∷ both.0 i), both.1)

-- ---- the lines of slots, of threads, and of pairs

abbrev is_of_slot : ToldLine → Bool
is_of_slot (MakesNoCalls name) = false
is_of_slot (StandsBelow below above) = false
is_of_slot (AssumesRights all) = false
is_of_slot _ = true

abbrev is_of_thread : ToldLine → Bool
is_of_thread (MakesNoCalls name) = true
is_of_thread _ = false

abbrev is_of_pair : ToldLine → Bool
is_of_pair (StandsBelow below above) = true
is_of_pair _ = false

abbrev OfPair : ToldLine → Type 0
OfPair line = is_of_pair line ≡ true

abbrev OfNoPair : ToldLine → Type 0
OfNoPair line = is_of_pair line ≡ false

abbrev OfSlot : ToldLine → Type 0
OfSlot line = is_of_slot line ≡ true

abbrev OfNoSlot : ToldLine → Type 0
OfNoSlot line = is_of_slot line ≡ false

abbrev OfThread : ToldLine → Type 0
OfThread line = is_of_thread line ≡ true

abbrev OfNoThread : ToldLine → Type 0
OfNoThread line = is_of_thread line ≡ false

held_of_slot : (kind : Kind) (place : ToldPlace) (object : Object) (slot : Slot) → OfSlot (told_held kind place object slot)
held_of_slot Untyped place object slot = refl
held_of_slot Endpoint place object slot = refl
held_of_slot CNode place object slot = refl
held_of_slot Tcb place object slot = refl

of_slot : (slot : Slot) (holder object : Option Object) → Each OfSlot (told_of_slot slot holder object)
of_slot slot (Some holder) (Some object) = (held_of_slot object.kind (told_place slot holder) object slot, tt)
of_slot slot (Some holder) None = tt
of_slot slot None (Some object) = tt
of_slot slot None None = tt

state_of_no_slot : (kind : Kind) (is : Bool) (object : Object) → Each OfNoSlot (told_state kind is object)
state_of_no_slot Tcb true object = (refl, tt)
state_of_no_slot _ _ object = tt

state_of_thread : (kind : Kind) (is : Bool) (object : Object) → Each OfThread (told_state kind is object)
state_of_thread Tcb true object = (refl, tt)
state_of_thread _ _ object = tt

pair_of_no_slot : (objects : List Object) (above below : Option Slot) → Each OfNoSlot (told_pair objects above below)
pair_of_no_slot objects (Some above) (Some below) = (refl, tt)
pair_of_no_slot objects (Some above) None = tt
pair_of_no_slot objects None (Some below) = tt
pair_of_no_slot objects None None = tt

pair_of_no_thread : (objects : List Object) (above below : Option Slot) → Each OfNoThread (told_pair objects above below)
pair_of_no_thread objects (Some above) (Some below) = (refl, tt)
pair_of_no_thread objects (Some above) None = tt
pair_of_no_thread objects None (Some below) = tt
pair_of_no_thread objects None None = tt

pair_of_pair : (objects : List Object) (above below : Option Slot) → Each OfPair (told_pair objects above below)
pair_of_pair objects (Some above) (Some below) = (refl, tt)
pair_of_pair objects (Some above) None = tt
pair_of_pair objects None (Some below) = tt
pair_of_pair objects None None = tt

assumed_of_no_slot : (assumed : AssumedRights) → Each OfNoSlot (told_assumed assumed)
assumed_of_no_slot NoRights = tt
assumed_of_no_slot AllRights = (refl, tt)
assumed_of_no_slot LeastRights = (refl, tt)

assumed_of_no_thread : (assumed : AssumedRights) → Each OfNoThread (told_assumed assumed)
assumed_of_no_thread NoRights = tt
assumed_of_no_thread AllRights = (refl, tt)
assumed_of_no_thread LeastRights = (refl, tt)

assumed_of_no_pair : (assumed : AssumedRights) → Each OfNoPair (told_assumed assumed)
assumed_of_no_pair NoRights = tt
assumed_of_no_pair AllRights = (refl, tt)
assumed_of_no_pair LeastRights = (refl, tt)

abbrev slots_told : Layout → List ToldLine
slots_told layout = flat_map (told_slot layout.objects.items) layout.slots.items

abbrev states_told : Layout → List ToldLine
states_told layout = flat_map told_inactive layout.objects.items

abbrev pairs_told : Layout → List ToldLine
pairs_told layout = flat_map (told_derived layout.objects.items layout.slots.items) layout.derived.items

-- the lines behind those of threads
abbrev rest_told : Layout → List ToldLine
rest_told layout = pairs_told layout ++ told_assumed layout.assumed

no_slots : (layout : Layout) → Each OfNoSlot (states_told layout ++ rest_told layout)
no_slots layout =
    each_both OfNoSlot (states_told layout) (rest_told layout)
    (each_in OfNoSlot told_inactive (λ (object : Object). state_of_no_slot object.kind object.is_inactive object) layout.objects.items)
    (each_both OfNoSlot (pairs_told layout) (told_assumed layout.assumed)
    (each_in OfNoSlot (told_derived layout.objects.items layout.slots.items) (λ (pair : ℕ × ℕ). pair_of_no_slot layout.objects.items (slice_get layout.slots.items pair.0) (slice_get layout.slots.items pair.1)) layout.derived.items)
    (assumed_of_no_slot layout.assumed))

all_states : (layout : Layout) → Each OfThread (states_told layout)
all_states layout = each_in OfThread told_inactive (λ (object : Object). state_of_thread object.kind object.is_inactive object) layout.objects.items

no_states : (layout : Layout) → Each OfNoThread (rest_told layout)
no_states layout =
    each_both OfNoThread (pairs_told layout) (told_assumed layout.assumed)
    (each_in OfNoThread (told_derived layout.objects.items layout.slots.items) (λ (pair : ℕ × ℕ). pair_of_no_thread layout.objects.items (slice_get layout.slots.items pair.0) (slice_get layout.slots.items pair.1)) layout.derived.items)
    (assumed_of_no_thread layout.assumed)

all_pairs : (layout : Layout) → Each OfPair (pairs_told layout)
all_pairs layout = each_in OfPair (told_derived layout.objects.items layout.slots.items) (λ (pair : ℕ × ℕ). pair_of_pair layout.objects.items (slice_get layout.slots.items pair.0) (slice_get layout.slots.items pair.1)) layout.derived.items

all_slots : (layout : Layout) → Each OfSlot (slots_told layout)
all_slots layout = each_in OfSlot (told_slot layout.objects.items) (λ (slot : Slot). of_slot slot (slice_get layout.objects.items slot.holder) (slice_get layout.objects.items slot.object)) layout.slots.items

same_parts : (a b : Layout) → listing_tells a ≡ listing_tells b → (slots_told a ≡ slots_told b) × (pairs_told a ≡ pairs_told b)
same_parts a b same =
    let one = parts_apart is_of_slot (slots_told a) (slots_told b) (states_told a ++ rest_told a) (states_told b ++ rest_told b) (all_slots a) (all_slots b) (no_slots a) (no_slots b) same in
    let two = parts_apart is_of_thread (states_told a) (states_told b) (rest_told a) (rest_told b) (all_states a) (all_states b) (no_states a) (no_states b) one.1 in
    let three = parts_apart is_of_pair (pairs_told a) (pairs_told b) (told_assumed a.assumed) (told_assumed b.assumed) (all_pairs a) (all_pairs b) (assumed_of_no_pair a.assumed) (assumed_of_no_pair b.assumed) two.1 in
    (one.0, three.0)

-- ---- what a line says of a state

abbrev AtName : (List ℕ → ℕ) → Object → Type 0
AtName place object = object.place ≡ place (string_bytes object.name)

abbrev AtNameOrNone : (List ℕ → ℕ) → Option Object → Type 0
AtNameOrNone place None = Unit {0}
AtNameOrNone place (Some object) = AtName place object

object_at : (place : List ℕ → ℕ) (objects : List Object) (n : ℕ) → All (AtName place) objects → AtNameOrNone place (slice_get objects n)
object_at place objects n h =
    elim (slice_get objects n) as (λ o. slice_get objects n ≡ o → AtNameOrNone place o) [
      | None ↦ λ e. tt
      | Some object ↦ λ e. found (AtName place) objects n object h e
    ] refl

abbrev address_told : ProfileName → (List ℕ → ℕ) → ToldPlace → ℕ
address_told p place (name, None) = place name
address_told p place (name, Some number) = place name + slot_size p * number

abbrev line_place : ToldLine → ToldPlace
line_place (HoldsUntyped at name bits) = at
line_place (HoldsEndpoint at name badge rights) = at
line_place (HoldsCNode at name radix guard) = at
line_place (HoldsTcb at name) = at
line_place (MakesNoCalls name) = (name, None)
line_place (StandsBelow below above) = ([], None)
line_place (AssumesRights all) = ([], None)

abbrev line_holds : (List ℕ → ℕ) → ToldLine → Cap → Bool
line_holds place (HoldsUntyped at name bits) (cap.Untyped base size free) = (base == place name && size == bits) && true
line_holds place (HoldsEndpoint at name badge rights) (cap.Endpoint base mark letters) = base == place name && (mark.0 == badge && letters.0 == rights.0)
line_holds place (HoldsCNode at name radix guard) (cap.CNode base bits other) = (base == place name && bits == radix) && (other.value == guard.value && other.size == guard.size)
line_holds place (HoldsTcb at name) (cap.Tcb base) = base == place name && true
line_holds place _ _ = false

place_in_line : (kind : Kind) (at : ToldPlace) (object : Object) (slot : Slot) → line_place (told_held kind at object slot) ≡ at
place_in_line Untyped at object slot = refl
place_in_line Endpoint at object slot = refl
place_in_line CNode at object slot = refl
place_in_line Tcb at object slot = refl

held_alike : (kind : Kind) (place : List ℕ → ℕ) (at : ToldPlace) (object : Object) (slot : Slot) (c : Cap) → AtName place object
    → (is_capability_of kind c object && is_cap_with kind c slot) ≡ line_holds place (told_held kind at object slot) c
held_alike Untyped place at object slot (cap.Untyped base size free) e = λ i. (base == e i && size == object.bits) && true
held_alike Endpoint place at object slot (cap.Endpoint base mark letters) e = λ i. base == e i && (mark.0 == slot.badge && letters.0 == slot.rights.0)
held_alike CNode place at object slot (cap.CNode base bits other) e = λ i. (base == e i && bits == object.bits) && (other.value == slot.guard.value && other.size == slot.guard.size)
held_alike Tcb place at object slot (cap.Tcb base) e = λ i. base == e i && true
held_alike _ place at object slot _ e = refl

own_address : (kind : Kind) (p : ProfileName) (place : List ℕ → ℕ) (holder : Object) (slot : Slot) → AtName place holder → is_own_slot kind slot ≡ true
    → slot_place p holder slot ≡ address_told p place (string_bytes holder.name, told_number kind slot)
own_address Untyped p place holder slot e own = λ i. e i + slot_size p * slot.index
own_address Endpoint p place holder slot e own = λ i. e i + slot_size p * slot.index
own_address CNode p place holder slot e own = λ i. e i + slot_size p * slot.index
own_address Tcb p place holder slot e own =
    let first : slot.index ≡ 0 = grind (arith, nat_tests) in
    (λ i. e i + slot_size p * first i) ∙ omega arith

and_true : (b : Bool) → b ≡ (b && true)
and_true true = refl
and_true false = refl

or_false : (b : Bool) → b ≡ (b || false)
or_false true = refl
or_false false = refl

abbrev line_filled : ProfileName → (List ℕ → ℕ) → Forest Entry → ToldLine → Bool
line_filled p place f line = line_holds place line (cap_at f (address_told p place (line_place line)))

filled_alike : (p : ProfileName) (place : List ℕ → ℕ) (f : Forest Entry) (slot : Slot) (holder object : Option Object) → AtNameOrNone place holder → AtNameOrNone place object
    → has_objects slot holder object ≡ true → holds f slot (address_in p slot holder) object ≡ list_all (line_filled p place f) (told_of_slot slot holder object)
filled_alike p place f slot (Some holder) (Some object) e g own =
    let at = told_place slot holder in
    let line = told_held object.kind at object slot in
    let here = own_address holder.kind p place holder slot e own in
    let there = sym (place_in_line object.kind at object slot) in
    (λ i. is_capability_of object.kind (cap_at f (here i)) object && is_cap_with object.kind (cap_at f (here i)) slot)
    ∙ (held_alike object.kind place at object slot (cap_at f (address_told p place at)) g
    ∙ ((λ i. line_holds place line (cap_at f (address_told p place (there i)))) ∙ and_true (line_filled p place f line)))
filled_alike p place f slot (Some holder) None e g own = absurd cc
filled_alike p place f slot None (Some object) e g own = absurd cc
filled_alike p place f slot None None e g own = absurd cc

abbrev line_at : ProfileName → (List ℕ → ℕ) → ℕ → ToldLine → Bool
line_at p place address line = address_told p place (line_place line) == address

known_alike : (p : ProfileName) (place : List ℕ → ℕ) (address : ℕ) (slot : Slot) (holder object : Option Object) → AtNameOrNone place holder
    → has_objects slot holder object ≡ true → is_number address (address_in p slot holder) ≡ list_any (line_at p place address) (told_of_slot slot holder object)
known_alike p place address slot (Some holder) (Some object) e own =
    let at = told_place slot holder in
    let line = told_held object.kind at object slot in
    let here = own_address holder.kind p place holder slot e own in
    let there = sym (place_in_line object.kind at object slot) in
    (λ i. here i == address) ∙ ((λ i. address_told p place (there i) == address) ∙ or_false (line_at p place address line))
known_alike p place address slot (Some holder) None e own = absurd cc
known_alike p place address slot None (Some object) e own = absurd cc
known_alike p place address slot None None e own = absurd cc

any_both : {X : Type 0} (is : X → Bool) (xs ys : List X) → list_any is (xs ++ ys) ≡ (list_any is xs || list_any is ys)
any_both is [] ys = refl
any_both is (x ∷ xs) ys =
    elim (is x) as (λ b. (b || list_any is (xs ++ ys)) ≡ ((b || list_any is xs) || list_any is ys)) [
      | true ↦ refl
      | false ↦ any_both is xs ys
    ]

-- a test of each element, and of the lines that are told of it
all_alike : {X Y : Type 0} (P : X → Type 0) (test : X → Bool) (lines : X → List Y) (told : Y → Bool) → ((x : X) → P x → test x ≡ list_all told (lines x)) → (xs : List X) → Each P xs
    → list_all test xs ≡ list_all told (flat_map lines xs)
all_alike P test lines told same [] h = refl
all_alike P test lines told same (x ∷ xs) h =
    (λ i. same x h.0 i && all_alike P test lines told same xs h.1 i) ∙ sym (list_all-append told (lines x) (flat_map lines xs))

any_alike : {X Y : Type 0} (P : X → Type 0) (test : X → Bool) (lines : X → List Y) (told : Y → Bool) → ((x : X) → P x → test x ≡ list_any told (lines x)) → (xs : List X) → Each P xs
    → list_any test xs ≡ list_any told (flat_map lines xs)
any_alike P test lines told same [] h = refl
any_alike P test lines told same (x ∷ xs) h =
    (λ i. same x h.0 i || any_alike P test lines told same xs h.1 i) ∙ sym (any_both told (lines x) (flat_map lines xs))

slots_told_alike : (p : ProfileName) (place : List ℕ → ℕ) (f : Forest Entry) (a : Layout) → AreAtTheirNames place a → HasItsParts a
    → list_all (is_slot_filled p a.objects.items f) a.slots.items ≡ list_all (line_filled p place f) (slots_told a)
slots_told_alike p place f a h w =
    all_alike (λ (slot : Slot). has_its_objects a.objects.items slot ≡ true) (is_slot_filled p a.objects.items f) (told_slot a.objects.items) (line_filled p place f)
    (λ slot own. filled_alike p place f slot (slice_get a.objects.items slot.holder) (slice_get a.objects.items slot.object) (object_at place a.objects.items slot.holder h) (object_at place a.objects.items slot.object h) own)
    a.slots.items (recursion_from_All (λ (slot : Slot). has_its_objects a.objects.items slot ≡ true) a.slots.items w.slots)

known_told_alike : (p : ProfileName) (place : List ℕ → ℕ) (address : ℕ) (a : Layout) → AreAtTheirNames place a → HasItsParts a
    → list_any (λ (slot : Slot). is_number address (layout_slot_address p a.objects.items slot)) a.slots.items ≡ list_any (line_at p place address) (slots_told a)
known_told_alike p place address a h w =
    any_alike (λ (slot : Slot). has_its_objects a.objects.items slot ≡ true) (λ (slot : Slot). is_number address (layout_slot_address p a.objects.items slot)) (told_slot a.objects.items) (line_at p place address)
    (λ slot own. known_alike p place address slot (slice_get a.objects.items slot.holder) (slice_get a.objects.items slot.object) (object_at place a.objects.items slot.holder h) own)
    a.slots.items (recursion_from_All (λ (slot : Slot). has_its_objects a.objects.items slot ≡ true) a.slots.items w.slots)

-- ---- pairs

abbrev either_address : ProfileName → (List ℕ → ℕ) → Option ToldPlace → Option ℕ
either_address p place None = None
either_address p place (Some at) = Some (address_told p place at)

abbrev line_derived : ProfileName → (List ℕ → ℕ) → Rows → ToldLine → Bool
line_derived p place rows (StandsBelow below above) = is_right_below rows (either_address p place above) (either_address p place below)
line_derived p place rows _ = false

either_alike : (p : ProfileName) (place : List ℕ → ℕ) (slot : Slot) (holder object : Option Object) → AtNameOrNone place holder → has_objects slot holder object ≡ true
    → address_in p slot holder ≡ either_address p place (option_map (told_place slot) holder)
either_alike p place slot (Some holder) (Some object) e own = ap (λ (n : ℕ). Some n) (own_address holder.kind p place holder slot e own)
either_alike p place slot (Some holder) None e own = absurd cc
either_alike p place slot None (Some object) e own = absurd cc
either_alike p place slot None None e own = absurd cc

abbrev WholeOrNone : List Object → Option Slot → Type 0
WholeOrNone objects None = Unit {0}
WholeOrNone objects (Some slot) = has_its_objects objects slot ≡ true

whole_at : (objects : List Object) (slots : List Slot) (n : ℕ) → All (λ (slot : Slot). has_its_objects objects slot ≡ true) slots → WholeOrNone objects (slice_get slots n)
whole_at objects slots n h =
    elim (slice_get slots n) as (λ o. slice_get slots n ≡ o → WholeOrNone objects o) [
      | None ↦ λ e. tt
      | Some slot ↦ λ e. found (λ (s : Slot). has_its_objects objects s ≡ true) slots n slot h e
    ] refl

derived_alike : (p : ProfileName) (place : List ℕ → ℕ) (rows : Rows) (objects : List Object) (above below : Option Slot) → All (AtName place) objects
    → WholeOrNone objects above → WholeOrNone objects below → are_slots above below ≡ true
    → is_right_below rows (address_if p objects above) (address_if p objects below) ≡ list_all (line_derived p place rows) (told_pair objects above below)
derived_alike p place rows objects (Some above) (Some below) h a b there =
    let over = either_alike p place above (slice_get objects above.holder) (slice_get objects above.object) (object_at place objects above.holder h) a in
    let under = either_alike p place below (slice_get objects below.holder) (slice_get objects below.object) (object_at place objects below.holder h) b in
    (λ i. is_right_below rows (over i) (under i))
    ∙ and_true (is_right_below rows (either_address p place (option_map (told_place above) (slice_get objects above.holder))) (either_address p place (option_map (told_place below) (slice_get objects below.holder))))
derived_alike p place rows objects (Some above) None h a b there = absurd cc
derived_alike p place rows objects None (Some below) h a b there = absurd cc
derived_alike p place rows objects None None h a b there = absurd cc

pairs_told_alike : (p : ProfileName) (place : List ℕ → ℕ) (rows : Rows) (a : Layout) → AreAtTheirNames place a → HasItsParts a
    → list_all (is_derived p a.objects.items a.slots.items rows) a.derived.items ≡ list_all (line_derived p place rows) (pairs_told a)
pairs_told_alike p place rows a h w =
    all_alike (λ (pair : ℕ × ℕ). are_slots (slice_get a.slots.items pair.0) (slice_get a.slots.items pair.1) ≡ true) (is_derived p a.objects.items a.slots.items rows)
    (told_derived a.objects.items a.slots.items) (line_derived p place rows)
    (λ pair there. derived_alike p place rows a.objects.items (slice_get a.slots.items pair.0) (slice_get a.slots.items pair.1) h
    (whole_at a.objects.items a.slots.items pair.0 w.slots) (whole_at a.objects.items a.slots.items pair.1 w.slots) there)
    a.derived.items (recursion_from_All (λ (pair : ℕ × ℕ). are_slots (slice_get a.slots.items pair.0) (slice_get a.slots.items pair.1) ≡ true) a.derived.items w.derived)

-- ---- objects

abbrev Told : Type 0
Told = List ℕ × Kind × ℕ × Bool

-- an object at an address, as it is told
abbrev capability_told_of : Kind → Cap → ℕ → ℕ → Bool
capability_told_of Untyped (cap.Untyped base size free) place bits = base == place && size == bits
capability_told_of Endpoint (cap.Endpoint base badge rights) place bits = base == place
capability_told_of CNode (cap.CNode base radix guard) place bits = base == place && radix == bits
capability_told_of Tcb (cap.Tcb base) place bits = base == place
capability_told_of _ _ place bits = false

of_told : (kind : Kind) (c : Cap) (object : Object) → is_capability_of kind c object ≡ capability_told_of kind c object.place object.bits
of_told Untyped (cap.Untyped base size free) object = refl
of_told Endpoint (cap.Endpoint base badge rights) object = refl
of_told CNode (cap.CNode base radix guard) object = refl
of_told Tcb (cap.Tcb base) object = refl
of_told _ _ object = refl

abbrev stands_told : Shown → Kind → ℕ → Bool → Bool
stands_told v Tcb place is = is_state is (state_at v place) && is_none (inbox_at v place)
stands_told v Endpoint place is = is_none (slice_get (waiting_at v place) 0)
stands_told v _ place is = true

stands_alike : (v : Shown) (kind : Kind) (object : Object) → stands_as v kind object ≡ stands_told v kind object.place object.is_inactive
stands_alike v Tcb object = refl
stands_alike v Endpoint object = refl
stands_alike v Untyped object = refl
stands_alike v CNode object = refl

abbrev same_told : (List ℕ → ℕ) → Told → Told → Bool
same_told place x y = kind_number x.1 == kind_number y.1 && (place x.0 == place y.0 && x.2 == y.2)

abbrev apart_told : (List ℕ → ℕ) → List Told → Bool
apart_told place [] = true
apart_told place (x ∷ xs) = not (list_any (same_told place x) xs) && apart_told place xs

any_same : (place : List ℕ → ℕ) (object : Object) (objects : List Object) → AtName place object → Each (AtName place) objects
    → list_any (are_same_object object) objects ≡ list_any (same_told place (told_object object)) (map told_object objects)
any_same place object [] e h = refl
any_same place object (other ∷ others) e h =
    λ i. (kind_number object.kind == kind_number other.kind && (e i == h.0 i && object.bits == other.bits)) || any_same place object others e h.1 i

apart_alike : (place : List ℕ → ℕ) (objects : List Object) → Each (AtName place) objects → are_objects_apart objects ≡ apart_told place (map told_object objects)
apart_alike place [] h = refl
apart_alike place (object ∷ objects) h = λ i. not (any_same place object objects h.0 h.1 i) && apart_alike place objects h.1 i

all_mapped : {X Y : Type 0} (P : X → Type 0) (test : X → Bool) (f : X → Y) (told : Y → Bool) → ((x : X) → P x → test x ≡ told (f x)) → (xs : List X) → Each P xs → list_all test xs ≡ list_all told (map f xs)
all_mapped P test f told same [] h = refl
all_mapped P test f told same (x ∷ xs) h = λ i. same x h.0 i && all_mapped P test f told same xs h.1 i

abbrev live_told : (List ℕ → ℕ) → Rows → Told → Bool
live_told place rows x = list_any (λ (row : Entry × Option ℕ). capability_told_of x.1 row.0.cap (place x.0) x.2) rows

live_alike : (place : List ℕ → ℕ) (rows : Rows) (object : Object) → AtName place object → is_object_live rows object ≡ live_told place rows (told_object object)
live_alike place rows object e =
    (λ i. list_any (λ (row : Entry × Option ℕ). of_told object.kind row.0.cap object i) rows)
    ∙ (λ i. list_any (λ (row : Entry × Option ℕ). capability_told_of object.kind row.0.cap (e i) object.bits) rows)

abbrev told_stands : (List ℕ → ℕ) → Shown → Told → Bool
told_stands place v x = stands_told v x.1 (place x.0) x.3

standing_alike : (place : List ℕ → ℕ) (v : Shown) (object : Object) → AtName place object → stands v object ≡ told_stands place v (told_object object)
standing_alike place v object e = stands_alike v object.kind object ∙ (λ i. stands_told v object.kind (e i) object.is_inactive)

-- ---- all of it

-- a test of two layouts is one of what is told of both
through : {x y : Bool} {T : Type 0} (test : T → Bool) (s t : T) → x ≡ test s → y ≡ test t → s ≡ t → x ≡ true → y ≡ true
through test s t e f same is = f ∙ (ap test (sym same) ∙ (sym e ∙ is))

pub laid_alike : (p : ProfileName) (plan : Plan) (place : List ℕ → ℕ) (a b : Layout) (v : Shown) → AreAtTheirNames place a → AreAtTheirNames place b → HasItsParts a → HasItsParts b
    → map told_object a.objects.items ≡ map told_object b.objects.items → listing_tells a ≡ listing_tells b → IsLaidOut p plan a v → IsLaidOut p plan b v
laid_alike p plan place a b v ha hb wa wb objects same laid =
    let rows = derivations_of v.derivations in
    let parts = same_parts a b same in
    let ea = recursion_from_All (AtName place) a.objects.items ha in
    let eb = recursion_from_All (AtName place) b.objects.items hb in
    let known : (address : ℕ) → list_any (λ (slot : Slot). is_number address (layout_slot_address p a.objects.items slot)) a.slots.items
    ≡ list_any (λ (slot : Slot). is_number address (layout_slot_address p b.objects.items slot)) b.slots.items =
    λ address. known_told_alike p place address a ha wa ∙ (ap (λ (lines : List ToldLine). list_any (line_at p place address) lines) parts.0 ∙ sym (known_told_alike p place address b hb wb)) in
    let all_known : are_slots_known p plan a.objects.items a.slots.items rows ≡ are_slots_known p plan b.objects.items b.slots.items rows =
    λ i. list_all (λ (row : Entry × Option ℕ). nat_lt row.0.slot (slot_size p * 2 ^ plan.root_radix) || (row.0.slot == first_tcb p plan || known row.0.slot i)) rows in
    record {
      apart = through (apart_told place) (map told_object a.objects.items) (map told_object b.objects.items) (apart_alike place a.objects.items ea) (apart_alike place b.objects.items eb) objects laid.apart;
      live = through (list_all (live_told place rows)) (map told_object a.objects.items) (map told_object b.objects.items)
          (all_mapped (AtName place) (is_object_live rows) told_object (live_told place rows) (live_alike place rows) a.objects.items ea)
          (all_mapped (AtName place) (is_object_live rows) told_object (live_told place rows) (live_alike place rows) b.objects.items eb) objects laid.live;
      states = through (list_all (told_stands place v)) (map told_object a.objects.items) (map told_object b.objects.items)
          (all_mapped (AtName place) (stands v) told_object (told_stands place v) (standing_alike place v) a.objects.items ea)
          (all_mapped (AtName place) (stands v) told_object (told_stands place v) (standing_alike place v) b.objects.items eb) objects laid.states;
      slots = through (list_all (line_filled p place v.derivations)) (slots_told a) (slots_told b) (slots_told_alike p place v.derivations a ha wa) (slots_told_alike p place v.derivations b hb wb) parts.0 laid.slots;
      no_others = sym all_known ∙ laid.no_others;
      derived = through (list_all (line_derived p place rows)) (pairs_told a) (pairs_told b) (pairs_told_alike p place rows a ha wa) (pairs_told_alike p place rows b hb wb) parts.1 laid.derived;
    }
