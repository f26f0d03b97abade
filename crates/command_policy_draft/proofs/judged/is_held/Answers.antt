-- Each line is one of those of the threads.
use Rattle.std.proofs.Common.{◌<◌, ℕ, List, String, length, map, get_or, subst, ◌∙◌, arith, string_bytes, take_all}
use Rattle.std.specs.declared.alloc.Global.{Global}
use Rattle.std.specs.List.{All, Contains}
use Rattle.std.proofs.lemmas.List.Elements.{All-map, All-more}
use Rattle.command_policy.specs.Policies.{breach_lines}
use Rattle.command_policy_draft.proofs.Lines.{found_by}
use Rattle.command_policy_draft.proofs.judged.is_held.Goals as goal

pub loop-line-preserved : goal.loop-line-preserved
loop-line-preserved c =
    let lines = c.deref-line-items.result.now in
    let line = c.line-item.result in
    let i = c.loop-line.line-index in
    let within : i < length lines = omega arith in
    let found = c.if-not-contains.ensures.cases in
    let among = found_by c.deref.result.now line found.0 found.1 (found.2 line) in
    All-more (λ (one : String Global). Contains (map string_bytes c.in_ok-threads.threads.items) (string_bytes one)) lines i line within c.loop-line.invariant
    (subst (λ (some : List (String Global)). Contains (map string_bytes some) (string_bytes (get_or lines i line))) c.deref.ensures.value
    (subst (λ (one : String Global). Contains (map string_bytes c.deref.result.now) (string_bytes one)) c.line-item.is among))

pub returns : goal.returns
returns c = λ _.
    let threads : List (List ℕ) = map (string_bytes {Z = Global}) c.in_ok-threads.threads.items in
    let whole = subst (All (λ (line : String Global). Contains threads (string_bytes line)))
    (take_all c.loop-line.line-index c.deref-line-items.result.now c.loop-line-test.false ∙ c.deref-line-items.ensures.value) c.loop-line.invariant in
    subst (λ (some : List (List ℕ)). All (Contains some) (breach_lines c.args.judged.now c.args.setup.now)) c.in_ok-threads.ensures
    (subst (All (Contains threads)) c.in_ok-lines.ensures (All-map (Contains threads) (string_bytes {Z = Global}) c.in_ok-lines.lines.items whole))
