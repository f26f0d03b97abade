-- What a run of reads gave, and what a run of writes took: counted for every device, and byte for byte if a device shows its bytes.
use Rattle.std.specs.Prelude.{◌≡◌, ◌+◌, ◌≤◌, ℕ, Bool, List, ◌++◌, Option, length, IfSome}
use Rattle.std.specs.Io.KnownBytes.{Appends}

-- the source gave as many bytes as the input has, and had just the input to give, if it shows what it has
abbrev pub Gave : {S : Type 0} → (S → Option (List ℕ)) → (S → ℕ) → S → S → List ℕ → Type 0
Gave left given old new input = (given new ≡ given old + length input) × IfSome (left old) (λ told. told ≡ input)

-- the source gave that many bytes and may have more; it has no fewer, if it shows what it has
abbrev pub GaveAsMany : {S : Type 0} → (S → Option (List ℕ)) → (S → ℕ) → S → S → ℕ → Type 0
GaveAsMany left given old new limit = (given new ≡ given old + limit) × IfSome (left old) (λ told. limit ≤ length told)

-- the sink took as many bytes as the text has, and just the text, if it shows what it took
abbrev pub Took : {K : Type 0} → (K → Option (List ℕ)) → (K → ℕ) → K → K → List ℕ → Type 0
Took taken written old new text = (written new ≡ written old + length text) × Appends (taken old) (taken new) text

-- the sink took a front of the text
abbrev pub TookFront : {K : Type 0} → (K → Option (List ℕ)) → (K → ℕ) → K → K → List ℕ → Type 0
TookFront taken written old new text = (front rest : List ℕ) × (text ≡ front ++ rest) × Took taken written old new front

-- a reader or a writer of std, how many bytes went through it, and whether one of its reads or writes has failed
pub record Counted (T : Type 0) : Type 0 where
  pub device : T
  pub count : ℕ
  pub failed : Bool
