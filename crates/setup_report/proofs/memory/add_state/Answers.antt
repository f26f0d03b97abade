use Rattle.std.proofs.Common.{string_bytes, ◌++◌, map, ap, sym, ◌∙◌}
use Rattle.std.proofs.lemmas.List.Folds.{flat_map-map}
use Rattle.slot_core.specs.Calls.{derivation_view}
use Rattle.setup_report.specs.Naming.{naming_view}
use Rattle.setup_report.specs.Report.{thread_line, endpoint_line, slot_line, selfheld_line}
use Rattle.setup_report.proofs.Addresses.Rising.{four_parts, added_lines}
use Rattle.setup_report.proofs.memory.add_state.Goals as goal

pub returns : goal.returns
returns g c =
    let p = g.P.Profile.profile in
    let v = c.args.kernel.now in
    let texts = naming_view c.args.naming.now in
    let rows = c.in_ok-rows.ensures in
    four_parts (string_bytes c.args.out.now) (string_bytes c.add_threads.new.out) (string_bytes c.add_endpoints.new.out) (string_bytes c.add_slots.new.out) (string_bytes c.add_selfheld.new.out) _ _ _ _
    (added_lines (thread_line texts v) _ _ _ _ c.in_ok-add_threads.ensures rows.threads)
    (added_lines (endpoint_line texts v) _ _ _ _ c.in_ok-add_endpoints.ensures rows.endpoints)
    (added_lines (slot_line texts v) _ _ _ _
    (c.in_ok-add_slots.ensures ∙ ap (λ l. string_bytes c.add_endpoints.new.out ++ l) (sym (flat_map-map (slot_line texts v) (derivation_view p) c.as_slice.result.now)))
    (ap (map (derivation_view p)) c.as_slice.ensures.value ∙ rows.slots))
    (added_lines (selfheld_line texts) _ _ _ _ c.in_ok-add_selfheld.ensures (c.as_slice-2.ensures.value ∙ rows.selfheld))
