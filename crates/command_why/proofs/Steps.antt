-- Runs of a set-up's calls that go on by one call.
use Rattle.std.proofs.Common.{◌≡◌, ℕ, zero, suc, ◌+◌, ◌<◌, ◌≤◌, List, [], ◌∷◌, ◌++◌, map, take, drop, length, slice_get, get_or, Option, Some, option_map, refl, sym, ap, ◌∙◌, append_assoc, arith}
use Rattle.toml.specs.Data.{Members}
use Rattle.cap_core.specs.declared.profile.ProfileName.{ProfileName}
use Rattle.kernel_abstract.specs.declared.call.Call.{Call}
use Rattle.kernel_abstract.specs.State.{State, shown}
use Rattle.kernel_abstract.specs.Step.{step}
use Rattle.setup_format.specs.Views.{CallView}
use Rattle.setup_report.specs.Naming.{Texts}
use Rattle.command_why.specs.Tables.{call_table}
use Rattle.command_why.specs.Why.{why_call_lines, calls_lines, reason_lines_of}

-- ---- the call at a place of a set-up

pub call_is : (calls : List CallView) (items : List Call) (i : ℕ) (d : Call) (call : CallView) → items ≡ map (λ (c : CallView). c.call) calls → slice_get calls i ≡ Some call → get_or items i d ≡ call.call
call_is calls items i d call same there = ap (λ l. get_or l i d) same ∙ got calls i there
  where
    got : (calls : List CallView) (i : ℕ) → slice_get calls i ≡ Some call → get_or (map (λ (c : CallView). c.call) calls) i d ≡ call.call
    got [] i is = cc
    got (x ∷ calls) zero is = let e : x ≡ call = cc in ap (λ (c : CallView). c.call) e
    got (x ∷ calls) (suc i) is = got calls i is

pub expected_is : (calls : List CallView) (i : ℕ) (expected : Option (List ℕ)) (call : CallView) → option_map (λ (c : CallView). c.expect) (slice_get calls i) ≡ Some expected → slice_get calls i ≡ Some call → expected ≡ call.expect
expected_is calls i expected call is there =
    let e : Some expected ≡ Some call.expect = sym is ∙ ap (option_map (λ (c : CallView). c.expect)) there in
    let d : expected ≡ call.expect = cc in
    d

from_place : (l : List CallView) (i : ℕ) (x : CallView) → slice_get l i ≡ Some x → drop i l ≡ x ∷ drop (suc i) l
from_place [] i x is = cc
from_place (y ∷ l) zero x is = let e : y ≡ x = cc in ap (λ (z : CallView). z ∷ l) e
from_place (y ∷ l) (suc i) x is = from_place l i x is

from_next : (l : List CallView) (i : ℕ) (x : CallView) → slice_get l i ≡ Some x → drop i l ≡ x ∷ drop (i + 1) l
from_next l i x is = let n : suc i ≡ i + 1 = omega arith in from_place l i x is ∙ ap (λ k. x ∷ drop k l) n

-- ---- the calls one by one

pub call_next : (texts : Texts) (p : ProfileName) (table : Members) (chosen : Option ℕ) (calls : List CallView) (i : ℕ) (call : CallView) (A : State) → slice_get calls i ≡ Some call →
    calls_lines texts p table chosen i A (drop i calls)
    ≡ why_call_lines texts chosen (i + 1) call (step p A call.call).reply (reason_lines_of texts p (shown A) (record { call = call.call; table = call_table table i }))
    ++ calls_lines texts p table chosen (i + 1) (step p A call.call).state (drop (i + 1) calls)
unfolding calls_lines
call_next texts p table chosen calls i call A there = ap (calls_lines texts p table chosen i A) (from_next calls i call there)

pub take_next : (calls : List CallView) (i : ℕ) (call : CallView) → slice_get calls i ≡ Some call → map (λ (c : CallView). c.call) (take (i + 1) calls) ≡ map (λ (c : CallView). c.call) (take i calls) ++ call.call ∷ []
take_next calls i call there = let n : i + 1 ≡ suc i = omega arith in ap (λ k. map (λ (c : CallView). c.call) (take k calls)) n ∙ by calls i there
  where
    by : (calls : List CallView) (i : ℕ) → slice_get calls i ≡ Some call → map (λ (c : CallView). c.call) (take (suc i) calls) ≡ map (λ (c : CallView). c.call) (take i calls) ++ call.call ∷ []
    by [] i is = cc
    by (x ∷ calls) zero is = let e : x ≡ call = cc in ap (λ (c : CallView). c.call ∷ []) e
    by (x ∷ calls) (suc i) is = ap (λ l. x.call ∷ l) (by calls i is)

-- the call at a place within
pub there_is : (calls : List CallView) (i : ℕ) → i < length calls → (call : CallView) × (slice_get calls i ≡ Some call)
there_is [] i h = absurd (omega (arith, h))
there_is (x ∷ calls) zero h = (x, refl)
there_is (x ∷ calls) (suc i) h = there_is calls i (omega (arith, h))

pub none_left : (texts : Texts) (p : ProfileName) (table : Members) (chosen : Option ℕ) (n : ℕ) (A : State) (calls : List CallView) (i : ℕ) → length calls ≤ i → calls_lines texts p table chosen n A (drop i calls) ≡ []
unfolding calls_lines
none_left texts p table chosen n A [] zero h = refl
none_left texts p table chosen n A [] (suc i) h = refl
none_left texts p table chosen n A (x ∷ calls) zero h = absurd (omega (arith, h))
none_left texts p table chosen n A (x ∷ calls) (suc i) h = none_left texts p table chosen n A calls i (omega (arith, h))

-- what was written, and what is left to be written, is the same all along
pub written : (before after start part rest left all : List ℕ) → after ≡ before ++ part → left ≡ part ++ rest → before ++ left ≡ start ++ all → after ++ rest ≡ start ++ all
written before after start part rest left all wrote is so =
    ap (λ t. t ++ rest) wrote ∙ append_assoc before part rest ∙ ap (λ t. before ++ t) (sym is) ∙ so
