-- The proof of `layout_of`: the goals that a search leaves open.
use Rattle.std.proofs.Common.{rules, ap, sym, ◌∙◌}
use Rattle.std.specs.List.{filter_map}
use Rattle.slot_core.specs.Calls.{derivation_view}
use Rattle.command_policy_breaches.specs.Layouts.{region_of}
use Rattle.command_policy_breaches.proofs.Shown.{found_as_shown}
use Rattle.command_policy_breaches.proofs.layout.layout_of.Goals as goal

pub returns : goal.returns
returns g c =
    let p = g.P.Profile.profile in
    let memory = c.args.parts.memory.items in
    record {
      right = c.requires.parts;
      numbers = search rules;
      agree = c.waiting-agree.ensures.agree;
      met = search rules;
      size = search rules;
      homes_are = search rules;
      waits_are = search rules;
      regions_are = rw c.as_slice-6.ensures.value at (rw c.as_slice-7.ensures.value at c.in_ok-regions.ensures)
          ∙ sym (found_as_shown (region_of memory) (derivation_view p) c.args.rows.now.slots.items)
          ∙ ap (λ l. filter_map (region_of memory) l) c.requires.slots;
      takes_are = search rules;
    }
