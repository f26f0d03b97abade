use Rattle.std.proofs.Common.{◌++◌, map, string_bytes, ap, ◌∙◌}
use Rattle.slot_core.specs.Calls.{derivation_view}
use Rattle.setup_report.specs.Naming.{naming_view}
use Rattle.command_trace.proofs.Kept.{kept_changes, slots_stay, told_apart}
use Rattle.command_trace.proofs.Ends.{on_ok, on_both}
use Rattle.command_trace.proofs.lines.told.tell_done.Goals as goal

pub tell_messages-requires : goal.tell_messages-requires
tell_messages-requires g c =
    let p = g.P.Profile.profile in
    let there = ap (map (derivation_view p)) c.as_slice-2.ensures.value ∙ c.in_ok-slots.ensures.list in
    let same = c.are_same_slots.ensures c.if-are_same_slots.true in (
      c.requires.0,
      c.requires.1,
      slots_stay (naming_view c.args.naming.now) p c.requires.0 c.args.kernel.now c.args.old c.as_slice.result.now c.as_slice-2.result.now c.requires.1 c.as_slice.ensures.value same there c.in_ok-slots.ensures.apart,
    )

pub returns-then-are_same_slots-clause-text : goal.returns-then-are_same_slots-clause-text
returns-then-are_same_slots-clause-text g c =
    let p = g.P.Profile.profile in
    let there = ap (map (derivation_view p)) c.as_slice-2.ensures.value ∙ c.in_ok-slots.ensures.list in
    let same = c.are_same_slots.ensures c.if-are_same_slots.true in
    on_ok _ _
    (λ so. λ v told. so v told (slots_stay (naming_view c.args.naming.now) p v c.args.kernel.now c.args.old c.as_slice.result.now c.as_slice-2.result.now told c.as_slice.ensures.value same there c.in_ok-slots.ensures.apart))
    c.tell_messages.result c.tell_messages.ensures.text

pub tell_anew-requires : goal.tell_anew-requires
tell_anew-requires g c =
    record {
      old = told_apart (naming_view c.args.naming.now) g.P.Profile.profile c.requires.0 c.args.old c.requires.1;
      list = c.in_ok-slots.ensures.list;
      apart = c.in_ok-slots.ensures.apart;
    }

pub returns-clause-text : goal.returns-clause-text
returns-clause-text g c =
    let p = g.P.Profile.profile in
    on_both _ _ _
    (λ new is shows. λ v told. is ∙ ap (λ t. string_bytes c.args.out.now ++ t) (kept_changes (naming_view c.args.naming.now) p v c.args.kernel.now c.args.old new told shows))
    c.tell_anew.result c.tell_anew.ensures.text c.tell_anew.ensures.told
