-- The numbers of bits whose rows have places, and the first path among them.
use Rattle.std.proofs.Common.{◌≡◌, ◌⊎◌, inl, inr, ℕ, zero, suc, ◌+◌, ◌<◌, ◌≤◌, refl, sym, ap, arith, List, [], ◌∷◌, ◌++◌, length, get_or, Option, None, Some, unwrap_or}
use Rattle.std.specs.List.{slice_get}
use Rattle.std.proofs.lemmas.Bool.{cases_eq, cases_lt}
use Rattle.std.proofs.lemmas.Option.{slice_get_within, slice_get_past, slice_get-get_or}
use Rattle.query_reach.specs.declared.held.Held.{Held}
use Rattle.query_reach.specs.declared.paths.Path.{Path}
use Rattle.query_reach.specs.Private.Paths.{path_in, path_at}
use Rattle.query_reach.specs.Private.Entries.{AreDepths, IsBest}
use Rattle.query_reach.proofs.HeldSlots.{within_rows}

-- ---- the numbers below one, one more

pub record Below (rows : List (List (Option Path))) (depths : List ℕ) (count : ℕ) : Type 0 where
  pub within : (i depth : ℕ) → slice_get depths i ≡ Some depth → (1 ≤ depth) × ((depth < length rows) × (depth < count))
  pub rising : (i j a b : ℕ) → i < j → slice_get depths i ≡ Some a → slice_get depths j ≡ Some b → a < b
  pub all : (depth place : ℕ) (path : Path) → 1 ≤ depth → depth < count → path_at rows depth place ≡ Some path → (i : ℕ) × (slice_get depths i ≡ Some depth)

pub none_below : (rows : List (List (Option Path))) → Below rows [] 1
none_below rows = record {
  within = λ i depth e. cc;
  rising = λ i j a b less ea eb. cc;
  all = λ depth place path some low e. absurd (omega arith);
}

got_last : (xs : List ℕ) (x i y : ℕ) → slice_get (xs ++ x ∷ []) i ≡ Some y → (slice_get xs i ≡ Some y) ⊎ ((i ≡ length xs) × (y ≡ x))
got_last [] x zero y e = let same : x ≡ y = cc in inr (refl, sym same)
got_last [] x (suc i) y e = cc
got_last (z ∷ xs) x zero y e = inl e
got_last (z ∷ xs) x (suc i) y e = elim (got_last xs x i y e) [
  | inl h ↦ inl h
  | inr h ↦ inr (ap suc h.0, h.1)
]

got_kept : (xs : List ℕ) (x i y : ℕ) → slice_get xs i ≡ Some y → slice_get (xs ++ x ∷ []) i ≡ Some y
got_kept [] x i y e = cc
got_kept (z ∷ xs) x zero y e = e
got_kept (z ∷ xs) x (suc i) y e = got_kept xs x i y e

got_new : (xs : List ℕ) (x : ℕ) → slice_get (xs ++ x ∷ []) (length xs) ≡ Some x
got_new [] x = refl
got_new (z ∷ xs) x = got_new xs x

no_path : (row : List (Option Path)) (k : ℕ) (path : Path) → length row ≡ 0 → path_in row k ≡ Some path → ⊥
no_path [] k path e h = cc
no_path (p ∷ row) k path e h = absurd (omega arith)

pub are_depths : (rows : List (List (Option Path))) (depths : List ℕ) (count : ℕ) → length rows ≤ count → Below rows depths count → AreDepths rows depths
are_depths rows depths count high b = record {
  within = λ i depth e. (let w = b.within i depth e in (w.0, w.1.0));
  rising = b.rising;
  all = λ depth place path least e. b.all depth place path least (let l = within_rows rows depth place path e in omega arith) e;
}

-- ---- the first path, over these numbers alone

-- the next of them, or how many rows there are
abbrev pub bound : List ℕ → ℕ → ℕ → ℕ
bound depths height i = unwrap_or (slice_get depths i) height

-- what some path reads below that is one of those in front
in_front : (rows : List (List (Option Path))) (depths : List ℕ) (i depth : ℕ) → AreDepths rows depths → (w : (j : ℕ) × (slice_get depths j ≡ Some depth)) →
    depth < bound depths (length rows) i → w.0 < i
in_front rows depths i depth d w low = by_next (slice_get depths i) refl low
  where
    by_next : (o : Option ℕ) → slice_get depths i ≡ o → depth < unwrap_or o (length rows) → w.0 < i
    by_next None is low' = elim (cases_lt i (length depths)) [
      | inl less ↦ absurd (let some : slice_get depths i ≡ Some (get_or depths i 0) = slice_get-get_or depths i 0 less in cc)
      | inr more ↦ (let l = slice_get_within depths w.0 depth w.1 in omega arith)
    ]
    by_next (Some x) is low' = elim (cases_lt w.0 i) [
      | inl less ↦ less
      | inr late ↦ elim (cases_eq w.0 i) [
        | inl here ↦ absurd (let at : slice_get depths i ≡ Some depth = rw here at w.1 in let same : x ≡ depth = cc in omega arith)
        | inr other ↦ absurd (let r = d.rising i w.0 x depth (omega arith) is w.1 in omega arith)
      ]
    ]

-- more numbers of bits that no path reads change nothing
wider : (rows : List (List (Option Path))) (place address count more : ℕ) (best : Option Held) → count ≤ more →
    ((depth : ℕ) (path : Path) → 1 ≤ depth → count ≤ depth → depth < more → path_at rows depth place ≡ Some path → ⊥) →
    IsBest rows place address count best → IsBest rows place address more best
wider rows place address count more best le none b = record {
  none = λ e depth path some low is. elim (cases_lt depth count) [
    | inl less ↦ b.none e depth path some less is
    | inr late ↦ none depth path some late low is
  ];
  some = λ h e. (let s = b.some h e in (
    s.0,
    record {
      some = s.1.some;
      within = (let w = s.1.within in omega arith);
      there = s.1.there;
      first = λ deeper other some low is. elim (cases_lt deeper count) [
        | inl less ↦ s.1.first deeper other some less is
        | inr late ↦ absurd (none deeper other some late low is)
      ];
    },
  ));
}

pub best_begins : (rows : List (List (Option Path))) (depths : List ℕ) (place address : ℕ) → AreDepths rows depths → IsBest rows place address (bound depths (length rows) 0) None
best_begins rows depths place address d = record {
  none = λ e depth path some low is. (let w = d.all depth place path some is in let l = in_front rows depths 0 depth d w low in omega arith);
  some = λ h e. cc;
}

-- one of them more: what is known below it, and of it, is known below the next one
pub best_goes_on : (rows : List (List (Option Path))) (depths : List ℕ) (place address i depth : ℕ) (best : Option Held) → AreDepths rows depths → slice_get depths i ≡ Some depth →
    IsBest rows place address (depth + 1) best → IsBest rows place address (bound depths (length rows) (i + 1)) best
best_goes_on rows depths place address i depth best d here b =
    wider rows place address (depth + 1) (bound depths (length rows) (i + 1)) best (above (slice_get depths (i + 1)) refl)
    (λ deeper path some late low is.
    let w = d.all deeper place path some is in
    let less = in_front rows depths (i + 1) deeper d w low in
    between w.0 deeper w.1 less late)
    b
  where
    above : (o : Option ℕ) → slice_get depths (i + 1) ≡ o → depth + 1 ≤ unwrap_or o (length rows)
    above None is = let w = (d.within i depth here).1 in omega arith
    above (Some x) is = let r = d.rising i (i + 1) depth x (omega arith) here is in omega arith

    between : (j deeper : ℕ) → slice_get depths j ≡ Some deeper → j < i + 1 → depth + 1 ≤ deeper → ⊥
    between j deeper at less late = elim (cases_eq j i) [
      | inl same ↦ (let e : slice_get depths i ≡ Some deeper = rw same at at in let one : depth ≡ deeper = cc in omega arith)
      | inr other ↦ (let r = d.rising j i deeper depth (omega arith) at here in omega arith)
    ]

pub bound_at : (depths : List ℕ) (height i depth : ℕ) → slice_get depths i ≡ Some depth → bound depths height i ≡ depth
bound_at depths height i depth e = ap (λ (o : Option ℕ). unwrap_or o height) e

pub bound_past : (depths : List ℕ) (height i : ℕ) → length depths ≤ i → bound depths height i ≡ height
bound_past depths height i past = ap (λ (o : Option ℕ). unwrap_or o height) (slice_get_past depths i past)
