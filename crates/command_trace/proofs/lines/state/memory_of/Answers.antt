use Rattle.std.proofs.Common.{List, map, ap, ◌∙◌}
use Rattle.std.specs.List.{flat_map}
use Rattle.slot_core.specs.declared.derivations.Derivation.{Derivation}
use Rattle.slot_core.specs.Calls.{derivation_view}
use Rattle.setup_report.specs.declared.live.NamedObject.{NamedObject}
use Rattle.setup_report.specs.State.{named, holding_themselves, rising}
use Rattle.setup_report.specs.Naming.{naming_view}
use Rattle.command_trace.specs.Lines.{line_at, selfheld_at}
use Rattle.command_trace.proofs.lines.state.memory_of.Goals as goal

pub returns : goal.returns
returns g c =
    let p = g.P.Profile.profile in
    let view = derivation_view p in
    λ v is apart.
    record {
      threads = c.in_ok-threads.ensures ∙ ap (λ (list : List Derivation). rising (named p NamedObject.Thread (map view list))) c.as_slice.ensures.value ∙ ap (λ list. rising (named p NamedObject.Thread list)) is;
      endpoints = c.in_ok-endpoints.ensures ∙ ap (λ (list : List Derivation). rising (named p NamedObject.Endpoint (map view list))) c.as_slice-2.ensures.value ∙ ap (λ list. rising (named p NamedObject.Endpoint list)) is;
      slots = is;
      apart = apart;
      selfheld = c.in_ok-selfheld.ensures
          ∙ ap (flat_map (line_at (selfheld_at (naming_view c.args.naming.now))))
          (c.as_slice-4.ensures.value ∙ c.in_ok-nodes.ensures ∙ ap (λ (list : List Derivation). rising (holding_themselves p (map view list))) c.as_slice-3.ensures.value
          ∙ ap (λ list. rising (holding_themselves p list)) is);
    }
