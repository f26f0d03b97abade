-- Where threads, endpoints and slots can stand.
use Rattle.std.proofs.Common.{◌≡◌, ℕ, suc, ◌+◌, ◌*◌, ◌/◌, ◌^◌, ◌<◌, ◌≤◌, Bool, true, false, cond, ◌==◌, ◌||◌, List, [], ◌∷◌, ◌++◌, map, length, Option, None, Some, IsSome, All, refl, sym, ap, subst, ◌∙◌, arith, inl, inr}
use Rattle.std.proofs.lemmas.Bool.{ne_eqb, false≢true}
use Rattle.std.proofs.lemmas.Bool.Decides.{eqb_tells}
use Rattle.std.proofs.Math.Nat.{div-add-mod, pow-le-pow_right, mul-le-mul_left}
use Rattle.std.specs.List.{list_any, filter_map, cons_option, AllByRecursion}
use Rattle.std.specs.FinMap.{get}
use Rattle.cap_core.specs.declared.profile.ProfileName.{ProfileName}
use Rattle.cap_core.specs.declared.capability.Cap.{Cap}
use Rattle.cap_core.specs.declared.capability.Cap.TheVariants.{Null, Untyped, Endpoint, CNode, Tcb}
use Rattle.cap_core.specs.Numbers.{tcb_size, endpoint_bits}
use Rattle.cap_core.specs.Objects.{IsLawful}
use Rattle.kernel_forest.specs.Forest.{Forest, none, tree, preorder, join, tops, below_those}
use Rattle.kernel_forest.specs.Entries.{Entry, cap_at, cap_in, slots, is_at, first_child, first_slot}
use Rattle.ipc_core.specs.Waits.{IsThreadAddress, IsEndpointAddress}
use Rattle.kernel_core.specs.declared.rows.ThreadRow.{ThreadRow}
use Rattle.kernel_abstract.specs.Shown.{endpoint_base}
use Rattle.kernel_core.specs.Rows.{rows_map}
use Rattle.kernel_core.proofs.Threads.KeyedRows.{row_is_there}
use Rattle.cap_core.proofs.Sizes.{tcb_size-pos}

-- an address below the n-th multiple of a size
below_product : (t size n : ℕ) → t / size < n → 0 < size → t < n * size
below_product t size n lt pos =
    let whole = div-add-mod t size in
    let more : size * (t / size + 1) ≤ size * n = mul-le-mul_left size (omega arith) in
    omega (arith, whole, more)

-- a thread that has a row stands where a thread can
pub row_address : (p : ProfileName) (memory : ℕ) (rows : List (Option ThreadRow)) (t : ℕ) → length rows * tcb_size p ≡ 2 ^ memory → IsSome (get (rows_map (tcb_size p) rows) t) → IsThreadAddress p memory t
row_address p memory rows t fill some =
    let there = row_is_there (tcb_size p) t rows (tcb_size-pos p) some in
    record { aligned = there.0; within = subst (λ (n : ℕ). t < n) fill (below_product t (tcb_size p) (length rows) there.1 (tcb_size-pos p)) }

-- a live endpoint stands where an endpoint can
named_endpoint : (p : ProfileName) (memory e : ℕ) (cap : Cap) → endpoint_base cap ≡ Some e → IsLawful p memory cap → IsEndpointAddress p memory e
named_endpoint p memory e Null h lawful = cc
named_endpoint p memory e (Untyped base bits free) h lawful = cc
named_endpoint p memory e (Endpoint base badge rights) h lawful =
    let same : base ≡ e = cc in
    let pos : 1 ≤ 2 ^ endpoint_bits p = pow-le-pow_right {n = 2} (omega arith) {i = 0} (omega arith) in
    subst (IsEndpointAddress p memory) same (record { aligned = lawful.placed.aligned; within = let w = lawful.placed.within in omega arith })
named_endpoint p memory e (CNode base radix guard) h lawful = cc
named_endpoint p memory e (Tcb base) h lawful = cc

named_or : (p : ProfileName) (memory e : ℕ) (cap : Cap) (o : Option ℕ) (ks : List ℕ) → endpoint_base cap ≡ o → IsLawful p memory cap → list_any (λ k. e == k) (cons_option o ks) ≡ true →
    (list_any (λ k. e == k) ks ≡ true → IsEndpointAddress p memory e) → IsEndpointAddress p memory e
named_or p memory e cap None ks is lawful h rest = rest h
named_or p memory e cap (Some b) ks is lawful h rest = elim (eqb_tells e b) [
  | inl w ↦ named_endpoint p memory e cap (is ∙ ap Some (sym w.1)) lawful
  | inr w ↦ rest (sym (ap (λ (x : Bool). x || list_any (λ k. e == k) ks) w.0) ∙ h)
]

pub live_address : (p : ProfileName) (memory e : ℕ) (caps : List Cap) → list_any (λ k. e == k) (filter_map endpoint_base caps) ≡ true → All (IsLawful p memory) caps → IsEndpointAddress p memory e
live_address p memory e [] h all = absurd (false≢true h)
live_address p memory e (c ∷ cs) h all =
    named_or p memory e c (endpoint_base c) (filter_map endpoint_base cs) refl (all 0 c (omega arith)) h
    (λ k. live_address p memory e cs k (λ i d lt. all (suc i) d (omega arith)))

-- no slot's address
absent_in : (slot : ℕ) (es : List Entry) → (P : ℕ → Type 0) → All P (map (λ (e : Entry). e.slot) es) → (P slot → ⊥) → AllByRecursion (λ (e : Entry). is_at slot e ≡ false) es
absent_in slot [] P all away = tt
absent_in slot (e ∷ es) P all away =
    (ne_eqb e.slot slot (λ same. away (subst P same (all 0 slot (omega arith)))), absent_in slot es P (λ i d lt. all (suc i) d (omega arith)) away)

cap_absent : (slot : ℕ) (es : List Entry) → AllByRecursion (λ (e : Entry). is_at slot e ≡ false) es → cap_in slot es ≡ Null
cap_absent slot [] h = refl
cap_absent slot (e ∷ es) h = ap (λ (b : Bool). cond b e.cap (cap_in slot es)) h.0 ∙ cap_absent slot es h.1

pub no_cap : (f : Forest Entry) (slot : ℕ) (P : ℕ → Type 0) → All P (slots f) → (P slot → ⊥) → cap_at f slot ≡ Null
no_cap f slot P all away = cap_absent slot (preorder f) (absent_in slot (preorder f) P all away)

front : {X : Type 0} (P : X → Type 0) (xs ys : List X) → AllByRecursion P (xs ++ ys) → AllByRecursion P xs
front P [] ys h = tt
front P (x ∷ xs) ys h = (h.0, front P xs ys h.1)

back : {X : Type 0} (P : X → Type 0) (xs ys : List X) → AllByRecursion P (xs ++ ys) → AllByRecursion P ys
back P [] ys h = h
back P (x ∷ xs) ys h = back P xs ys h.1

none_below : (is : Entry → Bool) (f : Forest Entry) → AllByRecursion (λ (e : Entry). is e ≡ false) (preorder f) → below_those is f ≡ none
none_below is none h = refl
none_below is (tree a kids others) h =
    ap (λ (b : Bool). cond b kids (join (below_those is kids) (below_those is others))) h.0
    ∙ ap (λ (x : Forest Entry). join x (below_those is others)) (none_below is kids (front (λ (e : Entry). is e ≡ false) (preorder kids) (preorder others) h.1))
    ∙ none_below is others (back (λ (e : Entry). is e ≡ false) (preorder kids) (preorder others) h.1)

pub no_child : (f : Forest Entry) (slot : ℕ) (P : ℕ → Type 0) → All P (slots f) → (P slot → ⊥) → first_child slot f ≡ None
no_child f slot P all away = ap (λ (x : Forest Entry). first_slot (tops x)) (none_below (is_at slot) f (absent_in slot (preorder f) P all away))
