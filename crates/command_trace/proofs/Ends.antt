-- Rows between what two lists have in common at both ends.
use Rattle.std.proofs.Common.{◌≡◌, ℕ, ◌+◌, ◌-◌, ◌<◌, List, ◌∷◌, ◌++◌, drop, get_or, length, take, Result, Ok, Err, IfOk, OnOk, sym, ap, subst, ◌∙◌, arith}
use Rattle.std.specs.List.{flat_map}
use Rattle.std.proofs.lemmas.List.{at_drop_more, length-drop, take_all, take-append-drop}
use Rattle.std.proofs.lemmas.List.Concat.{flat_map-append}
use Rattle.command_trace.specs.Lines.{Lines}
use Rattle.command_trace.specs.Changes.{line_changes}
use Rattle.command_trace.specs.Private.Rows.{AreLinesApart}
use Rattle.command_trace.proofs.Alike.{apart_behind, apart_front, ends_apart}

-- what follows where there is a value
pub on_ok : {A E : Type 0} (P Q : Type 0) → (P → Q) → (r : Result A E) → OnOk r P → OnOk r Q
on_ok P Q f (Ok a) h = f h
on_ok P Q f (Err e) h = h

pub on_both : {A E : Type 0} (P Q : A → Type 0) (X : Type 0) → ((a : A) → P a → Q a → X) → (r : Result A E) → IfOk r P → IfOk r Q → OnOk r X
on_both P Q X f (Ok a) h k = f a h k
on_both P Q X f (Err e) h k = tt

module _ {R : Type 0} (f : R → Lines) where
  -- the rows behind the first n, and of these the ones before the last b
  abbrev pub behind : List R → ℕ → List R
  behind xs n = take (length xs - n) (drop n xs)

  abbrev pub between : List R → ℕ → ℕ → List R
  between xs n b = take (length (behind xs n) - b) (behind xs n)

  behind_is : (xs : List R) (n : ℕ) → behind xs n ≡ drop n xs
  behind_is xs n = take_all (length xs - n) (drop n xs) (omega (arith, length-drop n xs))

  in_parts : (xs : List R) (n : ℕ) → flat_map f xs ≡ flat_map f (take n xs) ++ flat_map f (drop n xs)
  in_parts xs n = ap (flat_map f) (sym (take-append-drop n xs)) ∙ flat_map-append f (take n xs) (drop n xs)

  abbrev rest : List R → ℕ → ℕ → Lines
  rest xs n b = flat_map f (drop (length (behind xs n) - b) (behind xs n))

  in_three : (xs : List R) (n b : ℕ) → flat_map f xs ≡ flat_map f (take n xs) ++ (flat_map f (between xs n b) ++ rest xs n b)
  in_three xs n b =
      in_parts xs n
      ∙ ap (λ l. flat_map f (take n xs) ++ l) (ap (flat_map f) (sym (behind_is xs n)) ∙ in_parts (behind xs n) (length (behind xs n) - b))

  pub between_apart : (xs : List R) (n b : ℕ) → AreLinesApart (flat_map f xs) → AreLinesApart (flat_map f (between xs n b))
  between_apart xs n b apart =
      apart_front (flat_map f (between xs n b)) (rest xs n b)
      (apart_behind (flat_map f (take n xs)) (flat_map f (between xs n b) ++ rest xs n b) (subst AreLinesApart (in_three xs n b) apart))

  -- only what stands between is told
  pub between_told : (xs ys : List R) (n b : ℕ) → flat_map f (take n xs) ≡ flat_map f (take n ys) → rest xs n b ≡ rest ys n b → AreLinesApart (flat_map f xs) → AreLinesApart (flat_map f ys) →
      line_changes (flat_map f xs) (flat_map f ys) ≡ line_changes (flat_map f (between xs n b)) (flat_map f (between ys n b))
  between_told xs ys n b front back a c =
      let before = flat_map f (take n xs) in
      let after = rest xs n b in
      let old = flat_map f (between xs n b) in
      let new = flat_map f (between ys n b) in
      let here : flat_map f xs ≡ before ++ (old ++ after) = in_three xs n b in
      let there : flat_map f ys ≡ before ++ (new ++ after) = in_three ys n b ∙ (λ i. sym front i ++ (new ++ sym back i)) in
      (λ i. line_changes (here i) (there i)) ∙ ends_apart before old new after (subst AreLinesApart here a) (subst AreLinesApart there c)

-- the rows that stand last, and the one in front of them
back_parts : {R : Type 0} (f : R → Lines) (xs : List R) (k : ℕ) (x : R) → k < length xs → x ≡ get_or xs (length xs - 1 - k) x →
    flat_map f (drop (length xs - (k + 1)) xs) ≡ f x ++ flat_map f (drop (length xs - k) xs)
back_parts f xs k x within is =
    let there : length xs - 1 - k ≡ length xs - (k + 1) = omega (arith, within) in
    let behind : (length xs - (k + 1)) + 1 ≡ length xs - k = omega (arith, within) in
    at_drop_more (flat_map f) xs (length xs - (k + 1)) x (omega (arith, within))
    ∙ (λ i. flat_map f (sym (is ∙ ap (λ n. get_or xs n x) there) i ∷ drop (behind i) xs))

pub one_more_back : {R : Type 0} (f : R → Lines) (xs ys : List R) (k : ℕ) (x y : R) → k < length xs → k < length ys →
    x ≡ get_or xs (length xs - 1 - k) x → y ≡ get_or ys (length ys - 1 - k) y → f x ≡ f y →
    flat_map f (drop (length xs - k) xs) ≡ flat_map f (drop (length ys - k) ys) →
    flat_map f (drop (length xs - (k + 1)) xs) ≡ flat_map f (drop (length ys - (k + 1)) ys)
one_more_back f xs ys k x y a b here there same back =
    back_parts f xs k x a here ∙ ((λ i. same i ++ back i) ∙ sym (back_parts f ys k y b there))
