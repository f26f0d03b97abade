-- How many calls at the front are the same, counted from the front.
use Rattle.std.proofs.Common.{◌≡◌, ℕ, ◌+◌, ◌<◌, ◌≤◌, min, List, length, drop, get_or, Bool, true, false, sym, ◌∙◌, arith}
use Rattle.std.proofs.lemmas.List.{length-drop}
use Rattle.std.proofs.lemmas.List.Sums.{common_prefix_len-le, common_prefix_len-drop_yes, common_prefix_len-drop_no}
use Rattle.kernel_abstract.specs.declared.call.Call.{Call}
use Rattle.kernel_abstract.specs.contracts.call.CallPartialEq.TheImpl as call_eq
use Rattle.command_marks.specs.Differences.{same_front}

-- another call that is the same
pub front_goes : (a b : List Call) (i total : ℕ) (c d : Call) (same : Bool) → i < min (length a) (length b) → same ≡ call_eq.ghosts.eq (get_or a i c) (get_or b i d) → same ≡ true
    → i + same_front (drop i a) (drop i b) ≡ total → i + 1 + same_front (drop (i + 1) a) (drop (i + 1) b) ≡ total
front_goes a b i total c d same within is so e =
    let step : same_front (drop i a) (drop i b) ≡ 1 + same_front (drop (i + 1) a) (drop (i + 1) b) =
    common_prefix_len-drop_yes call_eq.ghosts.eq a b i c d (omega arith) (omega arith) (sym is ∙ so) in
    omega arith

-- a call that is another one
pub front_stops : (a b : List Call) (i total : ℕ) (c d : Call) (same : Bool) → i < min (length a) (length b) → same ≡ call_eq.ghosts.eq (get_or a i c) (get_or b i d) → same ≡ false
    → i + same_front (drop i a) (drop i b) ≡ total → i ≡ total
front_stops a b i total c d same within is other e =
    let step : same_front (drop i a) (drop i b) ≡ 0 =
    common_prefix_len-drop_no call_eq.ghosts.eq a b i c d (omega arith) (omega arith) (sym is ∙ other) in
    omega arith

-- one of the two has no more calls
pub front_ends : (a b : List Call) (i total : ℕ) → min (length a) (length b) ≤ i → i + same_front (drop i a) (drop i b) ≡ total → i ≡ total
front_ends a b i total past e =
    let most : (same_front (drop i a) (drop i b) ≤ length (drop i a)) × (same_front (drop i a) (drop i b) ≤ length (drop i b)) =
    common_prefix_len-le call_eq.ghosts.eq (drop i a) (drop i b) in
    omega (arith, most.0, most.1, length-drop i a, length-drop i b)
