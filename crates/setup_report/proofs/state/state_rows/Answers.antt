use Rattle.setup_report.proofs.Addresses.Slots.{slots_apart}
use Rattle.setup_report.proofs.state.state_rows.Goals as goal

pub sort_by_address-requires : goal.sort_by_address-requires
sort_by_address-requires g c =
    record {
      apart = slots_apart g.P.Profile.profile c.in_ok-slots.slots.items c.as_mut_slice.result.now c.args.kernel.now.derivations c.as_mut_slice.ensures.value
          c.in_ok-slots.ensures.list c.in_ok-slots.ensures.apart;
    }
