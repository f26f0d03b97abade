-- The breach that is found has the line.
use Rattle.std.proofs.Common.{rules, ◌≡◌, ℕ, ◌<◌, List, Some, sym, ◌∙◌, length, get_or, arith, true, false, ◌==◌}
use Rattle.std.specs.Prelude.{slice_get, string_bytes}
use Rattle.std.proofs.lemmas.Option.{slice_get-get_or, slice_get_within}
use Rattle.std.specs.Str.{bytes_eq}
use Rattle.std.proofs.lemmas.Slice.Eq.{bytes_eq-Decides}
use Rattle.command_policy_text.specs.Told.{line_told}
use Rattle.command_policy_text.specs.declared.told.Told.{Told}
use Rattle.command_policy_how.proofs.Merged.{contrary, each_before}
use Rattle.std.proofs.lemmas.Grind.{common_steps}
use Rattle.command_policy_how.proofs.breach.told_by.Goals as goal

pub returns-then-eq : goal.returns-then-eq
returns-then-eq c =
    let same : c.as_str.result.now ≡ c.args.line.now = search rules in
    record {
      place = c.loop-told.told-index;
      is = slice_get-get_or c.args.breaches.now c.loop-told.told-index _ (omega (arith, c.loop-told-test.true));
      line_is = sym same ∙ (c.as_str.ensures.value ∙ c.in_ok-text.ensures);
    }

pub loop-told-preserved : goal.loop-told-preserved
loop-told-preserved c =
    let i = c.loop-told.told-index in
    let h = c.args.held in
    let differs : bytes_eq c.as_str.result.now c.args.line.now ≡ false = search rules in
    each_before (λ (other : Told). c.args.line.now ≡ line_told h.policy.now h.layout.now h.labels.now h.homes.now other → ⊥) c.args.breaches.now i _
    (slice_get-get_or c.args.breaches.now i _ (omega (arith, c.loop-told-test.true)))
    (λ same. contrary (bytes_eq c.as_str.result.now c.args.line.now) differs
    ((bytes_eq-Decides c.as_str.result.now c.args.line.now).1 ((c.as_str.ensures.value ∙ c.in_ok-text.ensures) ∙ sym same)))
    c.loop-told.invariant

pub returns : goal.returns
returns c = λ told has.
    let within = slice_get_within c.args.breaches.now has.place told has.is in
    c.loop-told.invariant has.place (omega (arith, within, c.loop-told-test.false)) told has.is has.line_is
