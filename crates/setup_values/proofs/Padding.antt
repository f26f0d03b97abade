-- A message's words, of which the first are given and the others are 0.
use Rattle.std.proofs.Common.{◌≡◌, ℕ, ◌+◌, ◌-◌, ◌<◌, ◌≤◌, ◌++◌, List, take, drop, replicate, length, sym, ap, ◌∙◌, arith, slice_set}
use Rattle.std.proofs.lemmas.List.{drop-set-lt, drop-drop, drop-replicate, take-append-drop, length-take-le}
use Rattle.cap_core.specs.declared.limits.TheConstants.{MAX_MESSAGE_WORDS}
use Rattle.setup_values.specs.declared.values.Words.{Words}
use Rattle.setup_values.specs.Kinds.{filled}

abbrev pub words_record : List ℕ → ℕ → Words
words_record ws n = record { words = ws; count = n }

pub rest_after : (ws : List ℕ) (i n y : ℕ) → i < length ws → drop i ws ≡ replicate (n - i) 0 → drop (i + 1) (slice_set ws i y) ≡ replicate (n - (i + 1)) 0
rest_after ws i n y lt rest =
    let fewer : n - i - 1 ≡ n - (i + 1) = omega arith in
    drop-set-lt (i + 1) ws i y (omega arith) ∙ (sym (drop-drop 1 i ws) ∙ (ap (drop 1) rest ∙ (drop-replicate 1 (n - i) 0 ∙ ap (λ k. replicate k 0) fewer)))

pub filled_is : (ws : List ℕ) (i : ℕ) → i ≤ length ws → drop i ws ≡ replicate (MAX_MESSAGE_WORDS - i) 0 → filled (take i ws) ≡ words_record ws i
filled_is ws i le rest =
    let given : length (take i ws) ≡ i = length-take-le i ws le in
    let whole : take i ws ++ replicate (MAX_MESSAGE_WORDS - i) 0 ≡ ws = ap (λ zs. take i ws ++ zs) (sym rest) ∙ take-append-drop i ws in
    rw (given, whole)
