-- Where the text of a capability ends, what it has no byte of, and what it says.
use Rattle.std.specs.Prelude.{◌≡◌, ℕ, ◌<◌, ◌≤◌, ◌^◌, ◌==◌, ◌&&◌, Bool, true, false, not, nat_le, List, [], ◌∷◌, ◌++◌, ⊤}
use Rattle.std.specs.List.{list_all}
use Rattle.cap_core.specs.declared.capability.Cap.{Cap}
use Rattle.cap_core.specs.declared.capability.Cap.TheVariants.{Null, Untyped, Endpoint, CNode, Tcb}
use Rattle.cap_core.specs.Rights.{all_rights}
use Rattle.setup_report.specs.Naming.{plain}
use Rattle.setup_report.specs.Text.{cap_text}

-- a byte from `0` to `9`
abbrev pub is_digit : ℕ → Bool
is_digit byte = nat_le 48 byte && nat_le byte 57

-- a text that does not go on with a byte that passes a test: it is empty, or its first byte does not pass
abbrev pub Stops : (ℕ → Bool) → List ℕ → Type 0
Stops test [] = ⊤
Stops test (byte ∷ rest) = test byte ≡ false

-- two texts begin with those of two capabilities, and no digit follows there: they are equal only if these are, and what
-- comes after them
abbrev pub EndByThemselves : Cap → Cap → Type 0
EndByThemselves a b =
    (rest more : List ℕ) → Stops is_digit rest → Stops is_digit more → cap_text plain a ++ rest ≡ cap_text plain b ++ more → (cap_text plain a ≡ cap_text plain b) × (rest ≡ more)

-- no byte of a text is a line feed
abbrev pub IsOneLine : List ℕ → Type 0
IsOneLine text = list_all (λ byte. not (byte == 10)) text ≡ true

-- each number of a capability has at most 64 bits, and its rights are among the four
abbrev pub IsWithinWords : Cap → Type 0
IsWithinWords Null = ⊤
IsWithinWords (Untyped base bits free) = (base < 2 ^ 64) × (bits < 2 ^ 64) × (free < 2 ^ 64)
IsWithinWords (Endpoint base badge rights) = (base < 2 ^ 64) × (badge.0 < 2 ^ 64) × (rights.0 ≤ all_rights.0)
IsWithinWords (CNode base radix guard) = (base < 2 ^ 64) × (radix < 2 ^ 64) × (guard.value < 2 ^ 64) × (guard.size < 2 ^ 64)
IsWithinWords (Tcb base) = base < 2 ^ 64
