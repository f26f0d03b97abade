-- The text of a trace, part by part.
use Rattle.std.proofs.Common.{◌≡◌, ℕ, zero, suc, ◌+◌, Bool, List, [], ◌∷◌, ◌++◌, drop, length, slice_get, Some, ◌≤◌, refl, ap, ◌∙◌, append_assoc, arith}
use Rattle.toml.specs.Data.{Members}
use Rattle.cap_core.specs.declared.profile.ProfileName.{ProfileName}
use Rattle.kernel_abstract.specs.State.{State, shown}
use Rattle.kernel_abstract.specs.Step.{step}
use Rattle.setup_format.specs.Views.{CallView}
use Rattle.setup_report.specs.Naming.{Texts}
use Rattle.command_trace.specs.Told.{told_lines}
use Rattle.command_trace.proofs.Differences.{from_next}
use Rattle.command_trace.specs.Ways.{ways_asked}
use Rattle.command_trace.specs.Trace.{traced_call_lines, traced_calls_lines, why_at}

pub five_parts : (out first second third fourth last a b c d e : List ℕ) → first ≡ out ++ a → second ≡ first ++ b → third ≡ second ++ c → fourth ≡ third ++ d → last ≡ fourth ++ e →
    last ≡ out ++ (a ++ (b ++ (c ++ (d ++ e))))
five_parts out first second third fourth last a b c d e f g h k m =
    m ∙ ap (λ l. l ++ e) (k ∙ ap (λ l. l ++ d) (h ∙ ap (λ l. l ++ c) (g ∙ ap (λ l. l ++ b) f)))
    ∙ append_assoc (((out ++ a) ++ b) ++ c) d e
    ∙ append_assoc ((out ++ a) ++ b) c (d ++ e)
    ∙ append_assoc (out ++ a) b (c ++ (d ++ e))
    ∙ append_assoc out a (b ++ (c ++ (d ++ e)))

-- ---- the calls one by one

pub call_next : (ways : Bool) (texts : Texts) (p : ProfileName) (table : Members) (calls : List CallView) (i : ℕ) (call : CallView) (A : State) → slice_get calls i ≡ Some call →
    traced_calls_lines ways texts p table i A (drop i calls)
    ≡ traced_call_lines texts (i + 1) call (step p A call.call).reply (ways_asked ways texts p (shown A) call.call) (why_at texts p table i A call.call) (told_lines texts p (shown A)) (told_lines texts p (shown (step p A call.call).state))
    ++ traced_calls_lines ways texts p table (i + 1) (step p A call.call).state (drop (i + 1) calls)
unfolding traced_calls_lines
call_next ways texts p table calls i call A there = ap (traced_calls_lines ways texts p table i A) (from_next calls i call there)

pub none_left : (ways : Bool) (texts : Texts) (p : ProfileName) (table : Members) (n : ℕ) (A : State) (calls : List CallView) (i : ℕ) → length calls ≤ i → traced_calls_lines ways texts p table n A (drop i calls) ≡ []
unfolding traced_calls_lines
none_left ways texts p table n A [] zero h = refl
none_left ways texts p table n A [] (suc i) h = refl
none_left ways texts p table n A (x ∷ calls) zero h = absurd (omega (arith, h))
none_left ways texts p table n A (x ∷ calls) (suc i) h = none_left ways texts p table n A calls i (omega (arith, h))

-- ---- the whole text

pub whole_text : (first second third fourth last a b c d e : List ℕ) → first ≡ a → second ≡ first ++ b → third ≡ second ++ c → fourth ≡ third ++ d → last ≡ fourth ++ e → last ≡ a ++ ((b ++ c) ++ (d ++ e))
whole_text first second third fourth last a b c d e f g h k m =
    m ∙ ap (λ l. l ++ e) (k ∙ ap (λ l. l ++ d) (h ∙ ap (λ l. l ++ c) (g ∙ ap (λ l. l ++ b) f)))
    ∙ ap (λ l. (l ++ d) ++ e) (append_assoc a b c)
    ∙ append_assoc (a ++ (b ++ c)) d e
    ∙ append_assoc a (b ++ c) (d ++ e)
