-- Rows of distinct threads are no more than the threads that a memory can hold.
use Rattle.std.proofs.Common.{◌≡◌, ℕ, ◌+◌, ◌-◌, ◌*◌, ◌/◌, ◌%◌, ◌^◌, ◌<◌, ◌≤◌, true, List, [], ◌∷◌, ◌++◌, map, length, get_or, All, None, sym, ap, subst, ◌∙◌, arith, lit<, eqb, length-append, ◌≢◌}
use Rattle.std.proofs.lemmas.Bool.{eqb-true}
use Rattle.std.proofs.lemmas.Bool.Decides.{Decides-eqb}
use Rattle.std.proofs.lemmas.List.{get_or-map, length-map}
use Rattle.std.proofs.lemmas.List.Elements.{All-push}
use Rattle.std.proofs.lemmas.Map.Made.{IsDistinct-from_AllPairs}
use Rattle.std.proofs.lemmas.Map.Steps.{length-le_from_distinct_below}
use Rattle.std.proofs.lemmas.Nat.{pow-add}
use Rattle.std.proofs.Math.Nat.{div-lt_iff_lt-mul, div-add-mod}
use Rattle.std.proofs.lemmas.List.Folds.{Any-from_list_any}
use Rattle.std.specs.List.{list_any, AllPairs}
use Rattle.ipc_core.specs.declared.waiter.Waiter.TheVariants.{Receiver}
use Rattle.cap_core.specs.declared.profile.ProfileName.{ProfileName}
use Rattle.cap_core.specs.declared.profile.ProfileName.TheVariants.{Wide, Narrow}
use Rattle.cap_core.specs.Numbers.{tcb_bits, tcb_size, endpoint_bits}
use Rattle.ipc_core.specs.declared.row.WaitRow.{WaitRow}
use Rattle.ipc_core.specs.Representation.Rows.{row_thread, waits_of, AreDistinct, ArePlaced}
use Rattle.ipc_core.specs.Waits.{IsThreadAddress}
use Rattle.ipc_core.proofs.RowForm.Served.{distinct_push}

-- multiples of a size with one quotient are one
pub quotient_of : (a b size : ℕ) → a % size ≡ 0 → b % size ≡ 0 → a / size ≡ b / size → a ≡ b
quotient_of a b size left right same =
    let whole : size * (a / size) ≡ size * (b / size) = ap (λ q. size * q) same in
    let x = div-add-mod a size in
    let y = div-add-mod b size in
    omega arith

found_below : (xs : List ℕ) (n : ℕ) → All (λ x. x < n) xs → (q : ℕ) → list_any (eqb q) xs ≡ true → q < n
found_below xs n below q found =
    let place = Any-from_list_any (eqb q) xs found in
    let at : eqb q place.1 ≡ true = place.4 in
    let same : q ≡ place.1 = eqb-true q place.1 at in
    let here : get_or xs place.0 place.1 ≡ place.1 = place.3 in
    omega (arith, below place.0 place.1 place.2)

size_positive : (p : ProfileName) → 0 < tcb_size p
size_positive Wide = lit< tt
size_positive Narrow = lit< tt

pub few_rows : (rows : List WaitRow) (p : ProfileName) (memory room : ℕ) → AreDistinct rows → ArePlaced p memory rows → 2 ^ memory ≤ room * tcb_size p → length rows ≤ room
few_rows rows p memory room distinct placed enough =
    let size : ℕ = tcb_size p in
    let f : WaitRow → ℕ = λ row. row_thread row / size in
    let r : WaitRow = record { endpoint = 0; waiter = Receiver 0 } in
    let long : length (map f rows) ≡ length rows = length-map rows f in
    let apart : AllPairs (λ x y. x ≢ y) (map f rows) =
    λ i j d less within same.
    distinct i j r less (omega arith) (quotient_of _ _ size (placed i r (omega arith)).aligned (placed j r (omega arith)).aligned
    (sym (get_or-map f rows i r d (omega arith)) ∙ same ∙ get_or-map f rows j r d (omega arith))) in
    let below : All (λ x. x < room) (map f rows) =
    λ i d within.
    let there : i < length rows = omega arith in
    let thread : ℕ = row_thread (get_or rows i r) in
    let low : thread < room * size = omega (arith, (placed i r there).within) in
    subst (λ (x : ℕ). x < room) (sym (get_or-map f rows i r d there)) ((div-lt_iff_lt-mul {k = size} {x = thread} {y = room} (size_positive p)).1 low) in
    omega (arith, length-le_from_distinct_below (map f rows) room (IsDistinct-from_AllPairs Decides-eqb (map f rows) apart) (found_below (map f rows) room below))

pub room_left : (rows : List WaitRow) (row : WaitRow) (p : ProfileName) (memory room : ℕ) →
    AreDistinct rows → ArePlaced p memory rows → 2 ^ memory ≤ room * tcb_size p →
    IsThreadAddress p memory (row_thread row) → (waits_of rows).role (row_thread row) ≡ None → length rows < room
room_left rows row p memory room distinct placed enough address free =
    let more = few_rows (rows ++ row ∷ []) p memory room (distinct_push rows row free distinct) (All-push (λ r. IsThreadAddress p memory (row_thread r)) rows row placed address) enough in
    omega (arith, length-append rows (row ∷ []))

pub tcb_bits-most : (p : ProfileName) → tcb_bits p ≤ 11
tcb_bits-most Wide = omega arith
tcb_bits-most Narrow = omega arith

pub endpoint_bits-most : (p : ProfileName) → endpoint_bits p ≤ 11
endpoint_bits-most Wide = omega arith
endpoint_bits-most Narrow = omega arith

-- two to the difference of the bits is room for all of them
pub enough_room : (m s room : ℕ) → s ≤ m → room ≡ 2 ^ (m - s) → 2 ^ m ≤ room * 2 ^ s
enough_room m s room h is =
    let bits : (m - s) + s ≡ m = omega arith in
    let all : room * 2 ^ s ≡ 2 ^ m = ap (λ n. n * 2 ^ s) is ∙ sym (pow-add 2 (m - s) s) ∙ ap (λ k. 2 ^ k) bits in
    omega arith
