-- Numbers that may be missing.
use Rattle.std.proofs.Common.{rules, ◌≡◌, ℕ, Bool, false, not, Option, nat_eq}
use Rattle.std.specs.Option.{option_eq}

-- two that do not differ are the same
pub same_number : (a b : Option ℕ) (differ : Bool) → differ ≡ not (option_eq nat_eq a b) → differ ≡ false → a ≡ b
same_number a b differ is same = search rules
