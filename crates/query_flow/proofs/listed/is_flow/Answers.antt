-- The proof of `is_flow`: the goals that a search leaves open.
use Rattle.std.proofs.Common.{◌∙◌, sym, ap}
use Rattle.std.specs.List.{list_all}
use Rattle.std.proofs.lemmas.Bool.{false≢true}
use Rattle.slot_core.specs.declared.derivations.Derivation.{Derivation}
use Rattle.slot_core.specs.Calls.{derivation_view}
use Rattle.query_parts.proofs.Closed.{all_told}
use Rattle.query_flow.specs.Listed as spec
use Rattle.query_flow.proofs.Settled.{flow_ever}
use Rattle.query_flow.proofs.listed.is_flow.Goals.{then-settled, else-settled}
use Rattle.query_flow.proofs.listed.is_flow.Goals as goal

pub returns : goal.returns
returns g c =
    let p = g.P.Profile.profile in
    let flows = c.args.flows.now in
    let v = c.args.kernel.now in
    elim c.if-settled.branch [
      | then-settled w ↦
          let settled = sym c.in_ok-settled.ensures ∙ w.if-settled.true in
          let told = sym (
          w.are_told.ensures
          ∙ ap (list_all (λ (d : Derivation). spec.is_entry_told p flows.memory.items flows.standing.items (derivation_view p d).0)) w.as_slice.ensures.value
          ∙ all_told (spec.is_entry_told p flows.memory.items flows.standing.items) p v.derivations c.in_ok-derivations.derivations.items c.in_ok-derivations.ensures.list
          ) ∙ sym w.result-is in
          record {
            test = λ is. record { settled = settled; told = told ∙ is };
            ever = λ is. flow_ever p flows v settled (told ∙ is);
          }
      | else-settled w ↦ record {
        test = λ is. absurd (false≢true (sym w.if-settled.false ∙ sym w.result-is ∙ is));
        ever = λ is. absurd (false≢true (sym w.if-settled.false ∙ sym w.result-is ∙ is));
      }
    ]
