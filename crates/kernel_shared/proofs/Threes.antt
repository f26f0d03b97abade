-- What holds at each place of three lists: pushed, and of what threads promised.
use Rattle.std.proofs.Common.{◌≡◌, ℕ, zero, suc, ◌<◌, List, [], ◌∷◌, ◌++◌, length, Some, slice_get, slice_index_or, subst, ap, sym, ◌∙◌, arith}
use Rattle.std.proofs.lemmas.Option.{slice_get_within, slice_get_read, get_or_from_slice_get}
use Rattle.std.specs.declared.thread.PromisedHandle.{PromisedHandle}
use Rattle.std.specs.declared.thread.Promise as Promise
use Rattle.std.specs.PromisedHandle.{KeepsEach, KeepsAt}
use Rattle.kernel_shared.specs.Driving.{EachThree}

pub three_pushed : {A B C : Type 0} (P : A → B → C → Type 0) (xs : List A) (ys : List B) (zs : List C) (x : A) (z : C) → length xs ≡ length zs → EachThree xs ys zs P → ((y : B) → slice_get ys (length xs) ≡ Some y → P x y z)
    → EachThree (xs ++ x ∷ []) ys (zs ++ z ∷ []) P
three_pushed P [] ys [] x z l h p zero a b c ea eb ec = let q : x ≡ a = cc in let r : z ≡ c = cc in subst (λ u. P u b c) q (subst (λ u. P x b u) r (p b eb))
three_pushed P [] ys [] x z l h p (suc i) a b c ea eb ec = cc
three_pushed P [] ys (w ∷ zs) x z l h p i a b c ea eb ec = absurd (omega arith)
three_pushed P (v ∷ xs) ys [] x z l h p i a b c ea eb ec = absurd (omega arith)
three_pushed P (v ∷ xs) ys (w ∷ zs) x z l h p zero a b c ea eb ec = h zero a b c ea eb ec
three_pushed P (v ∷ xs) [] (w ∷ zs) x z l h p (suc i) a b c ea eb ec = cc
three_pushed P (v ∷ xs) (u ∷ ys) (w ∷ zs) x z l h p (suc i) a b c ea eb ec = three_pushed P xs ys zs x z (omega arith) (λ j d e f. h (suc j) d e f) p i a b c ea eb ec

module _ {T P : Type 0} (g : Promise.Ghosts P T) where
  pub kept_three : {A B : Type 0} (R : A → B → P → Type 0) (Q : A → B → T → Type 0) (xs : List A) (ys : List B) (n : ℕ) (hs : List (PromisedHandle T P)) (rs : List T)
      → n ≡ length hs → length rs ≡ n → KeepsEach g n hs rs → EachThree xs ys hs (λ x y h. R x y h.promise)
      → ((x : A) (y : B) (p : P) (r : T) → R x y p → g.kept_by p r → Q x y r) → EachThree xs ys rs Q
  kept_three R Q xs ys n hs rs lh lr keeps each step i x y r ex ey er =
      let low : i < n = let w = slice_get_within rs i r er in omega arith in
      let k : KeepsAt g hs i (slice_index_or rs i r) = (keeps i r low).1 in
      let at : slice_get hs i ≡ Some k.handle = slice_get_read hs n i k.handle lh low k.handle_is in
      subst (λ (u : T). Q x y u) (get_or_from_slice_get rs i r r er) (step x y k.handle.promise (slice_index_or rs i r) (each i x y k.handle ex ey at) k.kept)

pub three_pushed_at : {A B C : Type 0} (P : A → B → C → Type 0) (xs : List A) (ys : List B) (zs zs' : List C) (x : A) (z : C) → zs' ≡ zs ++ z ∷ [] → length zs ≡ length xs → EachThree xs ys zs P
    → ((y : B) → slice_get ys (length xs) ≡ Some y → P x y z) → EachThree (xs ++ x ∷ []) ys zs' P
three_pushed_at P xs ys zs zs' x z s l h p i a b c ea eb ec = three_pushed P xs ys zs x z (sym l) h p i a b c ea eb (ap (λ us. slice_get us i) (sym s) ∙ ec)
