-- The proof of `endpoints_met`: the goals that a search leaves open.
use Rattle.std.proofs.Common.{◌≡◌, ◌∙◌, ◌++◌, ℕ, List, IfOk, Vec, Global, map, ap, subst, arith}
use Rattle.std.proofs.lemmas.List.{take_all}
use Rattle.query_parts.specs.declared.listed.PartUse.{PartUse}
use Rattle.setup_report.specs.State.{rising}
use Rattle.command_never.specs.declared.parts_kept.waits.Wait.{Wait}
use Rattle.command_never.proofs.parts_kept.never.endpoints_met.Goals as goal

pub returns : goal.returns
returns c =
    let uses = c.args.layout.now.uses.now in
    let waits = c.args.layout.now.waits.now in
    let all : c.as_slice.result.now ≡ map (λ (u : PartUse). u.endpoint) uses ++ map (λ (w : Wait). w.endpoint) waits =
    c.as_slice.ensures.value ∙ c.loop-wait.invariant
    ∙ ap (λ (l : List Wait). c.loop-allowed.endpoints.items ++ map (λ (w : Wait). w.endpoint) l) (take_all c.loop-wait.wait-index waits (omega arith))
    ∙ ap (λ (l : List ℕ). l ++ map (λ (w : Wait). w.endpoint) waits)
    (c.loop-allowed.invariant ∙ ap (map (λ (u : PartUse). u.endpoint)) (take_all c.loop-allowed.allowed-index uses (omega arith))) in
    subst (λ (l : List ℕ). IfOk c.rising.result (λ (v : Vec ℕ Global). v.items ≡ rising l)) all c.rising.ensures
