-- Rows that are kept by address.
use Rattle.std.proofs.Common.{◌≡◌, ◌≢◌, ℕ, suc, zero, ◌+◌, ◌*◌, ◌/◌, ◌%◌, ◌<◌, ◌≤◌, false, cond, ◌==◌, List, [], ◌∷◌, length, get_or, Option, None, Some, refl, sym, ap, subst, ◌∙◌, arith, eq-eqb, get_or-set_same, get_or-set_other, IsSome}
use Rattle.std.proofs.lemmas.List.{get_or_past}
use Rattle.std.proofs.lemmas.Bool.{ne_eqb, cases_lt, false≢true}
use Rattle.std.proofs.lemmas.Bool.Decides.{eqb_tells}
use Rattle.std.proofs.Common.{inl, inr}
use Rattle.std.proofs.Math.Nat.{mul-lt-mul_of_pos_left, mul-mod_right, div-add-mod}
use Rattle.std.proofs.Math.ListN.{set}
use Rattle.std.specs.FinMap.{get, insert}
use Rattle.kernel_core.specs.Rows.{keyed, rows_map}
use Rattle.kernel_abstract.proofs.Lists.Tables.{get_after, same_nat_map, at, get_at}

-- where no row can be
pub at_absent : {X : Type 0} (size i q : ℕ) (rows : List (Option X)) → ((k : ℕ) → i ≤ k → q ≢ size * k) → at q (keyed size i rows) ≡ None
at_absent size i q [] h = refl
at_absent size i q (None ∷ rows) h = at_absent size (i + 1) q rows (λ k le. h k (omega arith))
at_absent size i q (Some x ∷ rows) h =
    let not_here : (q == size * i) ≡ false = ne_eqb q (size * i) (h i (omega arith)) in
    ap (λ b. cond b (Some x) (at q (keyed size (i + 1) rows))) not_here ∙ at_absent size (i + 1) q rows (λ k le. h k (omega arith))

above : (size i j : ℕ) → 0 < size → i < j → size * i < size * j
above size i j h lt = mul-lt-mul_of_pos_left lt h

-- a row is found at its address
pub at_keyed : {X : Type 0} (size i k : ℕ) (rows : List (Option X)) → 0 < size → at (size * (i + k)) (keyed size i rows) ≡ get_or rows k None
at_keyed size i k [] h = refl
at_keyed size i zero (None ∷ rows) h =
    at_absent size (i + 1) (size * (i + 0)) rows (λ k le e. absurd (let lt : size * i < size * k = above size i k h (omega arith) in omega (arith, e)))
at_keyed size i (suc k) (None ∷ rows) h =
    let same : i + 1 + k ≡ i + suc k = omega arith in
    subst (λ (n : ℕ). at (size * n) (keyed size (i + 1) rows) ≡ get_or rows k None) same (at_keyed size (i + 1) k rows h)
at_keyed size i zero (Some x ∷ rows) h =
    ap (λ b. cond b (Some x) (at (size * (i + 0)) (keyed size (i + 1) rows))) (eq-eqb (size * (i + 0)) (size * i) (omega arith))
at_keyed size i (suc k) (Some x ∷ rows) h =
    let same : i + 1 + k ≡ i + suc k = omega arith in
    let lt : size * i < size * (i + suc k) = above size i (i + suc k) h (omega arith) in
    ap (λ b. cond b (Some x) (at (size * (i + suc k)) (keyed size (i + 1) rows))) (ne_eqb (size * (i + suc k)) (size * i) (λ e. absurd (omega (arith, lt, e))))
    ∙ subst (λ (n : ℕ). at (size * n) (keyed size (i + 1) rows) ≡ get_or rows k None) same (at_keyed size (i + 1) k rows h)

-- what rows have at an address
pub get_row : {X : Type 0} (size q : ℕ) (rows : List (Option X)) → 0 < size → q % size ≡ 0 → get (rows_map size rows) q ≡ get_or rows (q / size) None
get_row size q rows h e =
    let whole : size * (0 + q / size) ≡ q = omega (arith, div-add-mod q size) in
    get_at (keyed size 0 rows) q ∙ subst (λ (n : ℕ). at n (keyed size 0 rows) ≡ get_or rows (q / size) None) whole (at_keyed size 0 (q / size) rows h)

pub get_no_row : {X : Type 0} (size q : ℕ) (rows : List (Option X)) → (q % size ≡ 0 → ⊥) → get (rows_map size rows) q ≡ None
get_no_row size q rows h = get_at (keyed size 0 rows) q ∙ at_absent size 0 q rows (λ k le e. h (ap (λ n. n % size) e ∙ mul-mod_right size k))

-- what rows have at an address after one of them was set
pub row_set : {X : Type 0} (size q : ℕ) (rows : List (Option X)) (o : Option X) → 0 < size → q % size ≡ 0 → q / size < length rows → (p : ℕ) →
    get (rows_map size (set rows (q / size) o)) p ≡ cond (p == q) o (get (rows_map size rows) p)
row_set size q rows o h e lt p =
    elim (eqb_tells (p % size) 0) [
      | inl w ↦ get_row size p (set rows (q / size) o) h w.1 ∙ at_row w.1
      | inr w ↦ get_no_row size p (set rows (q / size) o) w.1 ∙ sym (ap (λ b. cond b o (get (rows_map size rows) p)) (ne_eqb p q (λ d. w.1 (ap (λ n. n % size) d ∙ e))) ∙ get_no_row size p rows w.1)
    ]
  where
    same_place : p % size ≡ 0 → p / size ≡ q / size → p ≡ q
    same_place w k = let f : size * (p / size) ≡ size * (q / size) = ap (λ n. size * n) k in omega (arith, div-add-mod p size, div-add-mod q size, f)

    at_row : p % size ≡ 0 → get_or (set rows (q / size) o) (p / size) None ≡ cond (p == q) o (get (rows_map size rows) p)
    at_row w = elim (eqb_tells p q) [
      | inl d ↦ ap (λ n. get_or (set rows (q / size) o) (n / size) None) d.1 ∙ get_or-set_same rows (q / size) o None lt ∙ sym (ap (λ b. cond b o (get (rows_map size rows) p)) d.0)
      | inr d ↦ get_or-set_other rows (q / size) (p / size) o None (λ k. d.1 (same_place w k)) ∙ sym (ap (λ b. cond b o (get (rows_map size rows) p)) d.0 ∙ get_row size p rows h w)
    ]

-- a row is changed
pub row_changed : {X : Type 0} (size q : ℕ) (rows : List (Option X)) (x : X) → 0 < size → q % size ≡ 0 → q / size < length rows → rows_map size (set rows (q / size) (Some x)) ≡ insert (rows_map size rows) q x
row_changed size q rows x h e lt = same_nat_map _ _ (λ p. row_set size q rows (Some x) h e lt p ∙ sym (get_after (rows_map size rows) q x p))

pub get_row_past : {X : Type 0} (size q : ℕ) (rows : List (Option X)) → 0 < size → q % size ≡ 0 → length rows ≤ q / size → get (rows_map size rows) q ≡ None
get_row_past size q rows h e le = get_row size q rows h e ∙ get_or_past rows (q / size) None le

-- an address that has a row
pub row_is_there : {X : Type 0} (size q : ℕ) (rows : List (Option X)) → 0 < size → IsSome (get (rows_map size rows) q) → (q % size ≡ 0) × (q / size < length rows)
row_is_there size q rows h some = elim (eqb_tells (q % size) 0) [
  | inl w ↦ (w.1, elim (cases_lt (q / size) (length rows)) [ inl lt ↦ lt | inr le ↦ absurd (false≢true (subst IsSome (get_row_past size q rows h w.1 le) some)) ])
  | inr w ↦ absurd (false≢true (subst IsSome (get_no_row size q rows w.1) some))
]
