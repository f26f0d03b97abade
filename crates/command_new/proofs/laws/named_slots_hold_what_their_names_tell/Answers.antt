-- Each slot holds its capability.
use Rattle.command_new.proofs.Slots.{tcb_in_slot, endpoint_in_slot, untyped_in_slot}
use Rattle.command_new.proofs.laws.named_slots_hold_what_their_names_tell.Goals as goal

pub returns : goal.returns
returns c = record { tcbs = tcb_in_slot; endpoints = endpoint_in_slot; untypeds = untyped_in_slot }
