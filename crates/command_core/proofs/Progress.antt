-- What was read and written so far.
use Rattle.std.proofs.Common.{◌≡◌, ℕ, ◌+◌, ◌≤◌, List, [], ◌++◌, Bool, length, Option, Some, None, refl, ap, ◌∙◌, append_assoc, arith, length-append}
use Rattle.std.specs.Prelude.{IfSome}
use Rattle.std.specs.Io.KnownBytes.{Appends, Consumes}

-- ---- reads

-- these bytes came from the front of what the source had left, no more than the limit, and no read failed
pub record HasRead (limit : ℕ) (bytes : List ℕ) (left_old left_new : Option (List ℕ)) (given_old given_new : ℕ) (failed_old failed_new : Bool) : Type 0 where
  pub consumes : Consumes left_old left_new bytes
  pub given : given_new ≡ given_old + length bytes
  pub within : length bytes ≤ limit
  pub failed : failed_new ≡ failed_old

pub Consumes-refl : (left : Option (List ℕ)) → Consumes left left []
Consumes-refl None = tt
Consumes-refl (Some xs) = refl

pub Consumes-least : (limit : ℕ) (a b : Option (List ℕ)) (bytes : List ℕ) → limit ≤ length bytes → Consumes a b bytes → IfSome a (λ told. limit ≤ length told)
Consumes-least limit None b bytes many first = tt
Consumes-least limit (Some x) None bytes many first = absurd first
Consumes-least limit (Some x) (Some y) bytes many first = omega (arith, ap length first, length-append bytes y)

-- ---- writes

-- the text is what was written and what is left, and the sink has taken what was written
pub record HasWritten (text rest : List ℕ) (old new : Option (List ℕ)) (written_old written_new : ℕ) (failed_old failed_new : Bool) : Type 0 where
  pub front : List ℕ
  pub is_front : text ≡ front ++ rest
  pub appends : Appends old new front
  pub written : written_new ≡ written_old + length front
  pub failed : failed_new ≡ failed_old

pub Appends-trans : (a b c : Option (List ℕ)) (front piece : List ℕ) → Appends a b front → Appends b c piece → Appends a c (front ++ piece)
Appends-trans None b c front piece first second = tt
Appends-trans (Some x) None c front piece first second = absurd first
Appends-trans (Some x) (Some y) None front piece first second = absurd second
Appends-trans (Some x) (Some y) (Some z) front piece first second =
    second ∙ ap (λ r. r ++ piece) first ∙ append_assoc x front piece

-- a piece that was counted after what was counted before it
pub written-trans : (a b c n : ℕ) (front piece : List ℕ) → length piece ≡ n → b ≡ a + length front → c ≡ b + n → c ≡ a + length (front ++ piece)
written-trans a b c n front piece is first second = omega (arith, is, first, second, length-append front piece)
