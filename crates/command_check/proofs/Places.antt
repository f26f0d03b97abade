-- Walks over the calls of a set-up, from the front.
use Rattle.std.proofs.Common.{◌≡◌, ℕ, zero, suc, ◌+◌, ◌<◌, ◌==◌, true, false, cond, List, [], ◌∷◌, ◌++◌, map, length, drop, Some, option_map, slice_get, refl, ap, sym, ◌∙◌, append_assoc, add-one, eq-eqb, ne_eqb, arith}
use Rattle.std.proofs.Math.Seq.{drop-cons}
use Rattle.std.proofs.lemmas.List.{map-append}
use Rattle.std.proofs.lemmas.List.FromFn.{map-range_with_len_more}
use Rattle.std.proofs.lemmas.Option.{get_or_from_slice_get}
use Rattle.std.specs.List.{range_with_len}
use Rattle.setup_format.specs.Views.{CallView}
use Rattle.command_check.specs.Numbers.{client_numbers}

-- the call at a place
pub record IsAt (calls : List CallView) (i : ℕ) : Type 0 where
  pub view : CallView
  pub at : slice_get calls i ≡ Some view
  pub there : drop i calls ≡ view ∷ drop (suc i) calls

some_there : {C : Type 0} (zs : List C) (i : ℕ) → i < length zs → (z : C) × (slice_get zs i ≡ Some z)
some_there [] i lt = absurd (omega arith)
some_there (z ∷ zs) zero lt = (z, refl)
some_there (z ∷ zs) (suc i) lt = some_there zs i (omega arith)

pub some_same : {A : Type 0} (x y : A) → Some x ≡ Some y → x ≡ y
some_same x y e = cc

pub is_at : (calls : List CallView) (i : ℕ) → i < length calls → IsAt calls i
is_at calls i lt =
    let r = some_there calls i lt in
    record { view = r.0; at = r.1; there = drop-cons calls i r.0 lt ∙ ap (λ y. y ∷ drop (suc i) calls) (get_or_from_slice_get calls i r.0 r.0 r.1) }

pub client_at : (calls : List CallView) (i who : ℕ) (a : IsAt calls i) → option_map (λ (c : CallView). c.client) (slice_get calls i) ≡ Some who → a.view.client ≡ who
client_at calls i who a from = some_same _ _ (sym (ap (option_map (λ (c : CallView). c.client)) a.at) ∙ from)

-- what a client's calls give, each something, by their numbers
module _ {X : Type 0} (client : ℕ) (given : ℕ → List CallView → List X) (one : ℕ → CallView → X)
    (steps : (n : ℕ) (v : CallView) (vs : List CallView) → given n (v ∷ vs) ≡ cond (v.client == client) (one n v ∷ given (n + 1) vs) (given (n + 1) vs)) where
  pub given_more : (calls : List CallView) (i who : ℕ) (own own' total : List X) (y : X) (a : IsAt calls i) → option_map (λ (c : CallView). c.client) (slice_get calls i) ≡ Some who →
      own ++ given (i + 1) (drop i calls) ≡ total → who ≡ client → y ≡ one (i + 1) a.view → own' ≡ own ++ y ∷ [] → own' ++ given (i + 1 + 1) (drop (i + 1) calls) ≡ total
  given_more calls i who own own' total y a from so same is pushed =
      let t : (a.view.client == client) ≡ true = eq-eqb (a.view).client client (client_at calls i who a from ∙ same) in
      let rest = given (i + 1 + 1) (drop (suc i) calls) in
      ap (λ l. l ++ given (i + 1 + 1) (drop (i + 1) calls)) pushed ∙ append_assoc own (y ∷ []) (given (i + 1 + 1) (drop (i + 1) calls))
      ∙ ap (λ n. own ++ y ∷ given (i + 1 + 1) (drop n calls)) (add-one i)
      ∙ ap (λ (x : X). own ++ x ∷ rest) is
      ∙ ap (λ b. own ++ cond b (one (i + 1) a.view ∷ rest) rest) (sym t)
      ∙ ap (λ l. own ++ l) (sym (steps (i + 1) a.view (drop (suc i) calls)))
      ∙ ap (λ l. own ++ given (i + 1) l) (sym a.there)
      ∙ so

  pub given_not : (calls : List CallView) (i who : ℕ) (own total : List X) (a : IsAt calls i) → option_map (λ (c : CallView). c.client) (slice_get calls i) ≡ Some who →
      own ++ given (i + 1) (drop i calls) ≡ total → (who ≡ client → ⊥) → own ++ given (i + 1 + 1) (drop (i + 1) calls) ≡ total
  given_not calls i who own total a from so other =
      let t : (a.view.client == client) ≡ false = ap (λ k. k == client) (client_at calls i who a from) ∙ ne_eqb who client other in
      let rest = given (i + 1 + 1) (drop (suc i) calls) in
      ap (λ n. own ++ given (i + 1 + 1) (drop n calls)) (add-one i)
      ∙ ap (λ b. own ++ cond b (one (i + 1) a.view ∷ rest) rest) (sym t)
      ∙ ap (λ l. own ++ l) (sym (steps (i + 1) a.view (drop (suc i) calls)))
      ∙ ap (λ l. own ++ given (i + 1) l) (sym a.there)
      ∙ so

-- a list for one client more
pub lists_more : {X L : Type 0} (items : L → X) (f : ℕ → X) (lists lists' : List L) (own : L) (client : ℕ) → map items lists ≡ map f (range_with_len 0 client) → items own ≡ f client → lists' ≡ lists ++ own ∷ []
    → map items lists' ≡ map f (range_with_len 0 (client + 1))
lists_more {X} items f lists lists' own client so is pushed =
    ap (map items) pushed ∙ map-append items lists (own ∷ []) ∙ ap (λ l. l ++ items own ∷ []) so ∙ ap (λ (x : X). map f (range_with_len 0 client) ++ x ∷ []) is
    ∙ sym (map-range_with_len_more f 0 client client (omega arith))

pub numbers_steps : (client n : ℕ) (v : CallView) (vs : List CallView) → client_numbers client n (v ∷ vs) ≡ cond (v.client == client) (n ∷ client_numbers client (n + 1) vs) (client_numbers client (n + 1) vs)
numbers_steps client n v vs = refl
