-- Where an element passes a test, and where none does.
use Rattle.std.proofs.Common.{◌≡◌, ℕ, suc, ◌+◌, ◌<◌, List, [], ◌∷◌, Bool, true, false, cond, length, refl, arith}
use Rattle.std.specs.Prelude.{◌||◌, not}
use Rattle.std.specs.List.{list_any, position_or_len}

any_here : (b rest : Bool) (place len : ℕ) → (place < len → rest ≡ true) → cond (not b) (1 + place) 0 < suc len → (b || rest) ≡ true
any_here true rest place len so h = refl
any_here false rest place len so h = so (omega arith)

pub is_any : {A : Type 0} (p : A → Bool) (xs : List A) → position_or_len p xs < length xs → list_any p xs ≡ true
is_any p [] h = absurd (omega arith)
is_any p (x ∷ xs) h = any_here (p x) (list_any p xs) (position_or_len p xs) (length xs) (is_any p xs) h

none_here : (b rest : Bool) (place len : ℕ) → (place ≡ len → rest ≡ false) → cond (not b) (1 + place) 0 ≡ suc len → (b || rest) ≡ false
none_here true rest place len so h = absurd (omega arith)
none_here false rest place len so h = so (omega arith)

pub is_none : {A : Type 0} (p : A → Bool) (xs : List A) → position_or_len p xs ≡ length xs → list_any p xs ≡ false
is_none p [] h = refl
is_none p (x ∷ xs) h = none_here (p x) (list_any p xs) (position_or_len p xs) (length xs) (is_none p xs) h
