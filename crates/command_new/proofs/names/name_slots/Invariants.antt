use Rattle.setup_values.specs.Names.{names_view}
use Rattle.command_new.specs.Private.{NameSlots}
use Rattle.command_new.proofs.names.name_slots.Given as goal

-- the names so far stand for their slots
abbrev pub invariant-loop-number : goal.invariant-loop-number
invariant-loop-number l = NameSlots (names_view l.known) l.prefix l.first l.number-counter
