use Rattle.std.proofs.Common.{map, rules, ap, ◌∙◌}
use Rattle.slot_core.specs.declared.derivations.Derivation.{Derivation}
use Rattle.slot_core.specs.Calls.{derivation_view}
use Rattle.setup_report.specs.State.{slot_rows}
use Rattle.command_parts.specs.Takes.{part_slot}
use Rattle.command_policy_places.proofs.Rows.{mapped_twice}
use Rattle.command_policy_places.proofs.known.Sites.of.Goals as goal

pub returns : goal.returns
returns g c =
    let p = g.P.Profile.profile in
    let memory = c.args.layout.now.memory.items in
    let shows = c.in_ok-kernel.ensures.shows in
    record {
      slots_are = c.in_ok-slots.ensures
          ∙ ((λ k. map (λ (d : Derivation). part_slot (c.as_slice.ensures.value k) (derivation_view p d)) (c.as_slice-2.ensures.value k))
          ∙ (mapped_twice p memory c.in_ok-rows.rows.slots.items ∙ ap (map (part_slot memory)) (c.in_ok-rows.ensures.slots ∙ ap slot_rows shows)));
      blocks_are = search rules;
      slot_bits_is = c.SLOT_BITS.ensures ∙ g.met.P.Profile.slot_bits_is;
    }
