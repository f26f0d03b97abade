use Rattle.std.proofs.Common.{◌≡◌, ◌++◌, Some, map, string_bytes, sym, ap, ◌∙◌, rules}
use Rattle.slot_core.specs.Calls.{derivation_view}
use Rattle.setup_report.specs.Naming.{naming_view}
use Rattle.command_trace.proofs.Derives.{child_changes, slots_changes, rows_before}
use Rattle.command_trace.proofs.Ends.{on_ok}
use Rattle.command_trace.proofs.lines.derived.add_derived.Goals as goal

pub returns-then-eq : goal.returns-then-eq
returns-then-eq g c =
    let texts = naming_view c.args.naming.now in
    let p = g.P.Profile.profile in
    let child : c.first_child.result ≡ Some c.args.new.placement.slot = search rules in
    on_ok _ _
    (λ is. λ v step. is ∙ ap (λ t. string_bytes c.args.out.now ++ t) (sym (child_changes texts p v c.args.kernel.now c.args.new step (sym c.first_child.ensures ∙ child))))
    c.add_child.result c.add_child.ensures

pub add_slots_changes-requires : goal.add_slots_changes-requires
add_slots_changes-requires g c =
    let texts = naming_view c.args.naming.now in
    let p = g.P.Profile.profile in
    let there = ap (map (derivation_view p)) c.as_slice.ensures.value ∙ c.in_ok-after.ensures.list in
    let before = c.as_slice-2.ensures.value ∙ c.in_ok-before.ensures in (
      c.requires.0.derivations,
      c.args.kernel.now.derivations,
      rows_before texts p c.requires.0 c.args.kernel.now c.args.new c.requires.1 c.as_slice.result.now c.as_slice-2.result.now before there,
      record { list = ap (map (derivation_view p)) c.as_slice-3.ensures.value ∙ c.in_ok-after.ensures.list; apart = c.in_ok-after.ensures.apart },
    )

pub returns : goal.returns
returns g c =
    let texts = naming_view c.args.naming.now in
    let p = g.P.Profile.profile in
    let w = c.args.kernel.now in
    let there = ap (map (derivation_view p)) c.as_slice.ensures.value ∙ c.in_ok-after.ensures.list in
    let before = c.as_slice-2.ensures.value ∙ c.in_ok-before.ensures in
    on_ok _ _
    (λ so. λ v step.
    so v.derivations w.derivations (rows_before texts p v w c.args.new step c.as_slice.result.now c.as_slice-2.result.now before there)
    (record { list = ap (map (derivation_view p)) c.as_slice-3.ensures.value ∙ c.in_ok-after.ensures.list; apart = c.in_ok-after.ensures.apart })
    ∙ ap (λ t. string_bytes c.args.out.now ++ t) (sym (slots_changes texts p v w c.args.new step)))
    c.add_slots_changes.result c.add_slots_changes.ensures
