-- What is expected of the call with a number.
use Rattle.std.proofs.Common.{◌≡◌, ℕ, zero, suc, ◌+◌, ◌<◌, ◌≤◌, List, length, slice_get, Option, Some, None, option_map, option_and_then, refl, ap, sym, ◌∙◌, arith}
use Rattle.std.proofs.lemmas.Option.{slice_get_past}
use Rattle.setup_format.specs.Views.{CallView}
use Rattle.command_check.specs.Numbers.{expectation_of}

there : (call : Option CallView) (expected : Option (List ℕ)) → option_map (λ (c : CallView). c.expect) call ≡ Some expected
    → expected ≡ option_and_then (λ (c : CallView). c.expect) call
there None expected e = absurd cc
there (Some c) expected e = cc

pub expected_at : (calls : List CallView) (number i : ℕ) (expected : Option (List ℕ)) → number ≡ i + 1
    → option_map (λ (c : CallView). c.expect) (slice_get calls i) ≡ Some expected → expected ≡ expectation_of calls number
expected_at calls zero i expected n e = absurd (omega arith)
expected_at calls (suc k) i expected n e =
    there (slice_get calls k) expected (ap (λ j. option_map (λ (c : CallView). c.expect) (slice_get calls j)) (omega arith) ∙ e)

pub none_expected_past : (calls : List CallView) (number i : ℕ) → number ≡ i + 1 → length calls ≤ i → None ≡ expectation_of calls number
none_expected_past calls zero i n past = absurd (omega arith)
none_expected_past calls (suc k) i n past = ap (option_and_then (λ (c : CallView). c.expect)) (sym (slice_get_past calls k (omega arith)))

pub none_expected_of_none : (calls : List CallView) (number : ℕ) → number < 1 → None ≡ expectation_of calls number
none_expected_of_none calls zero h = refl
none_expected_of_none calls (suc k) h = absurd (omega arith)
