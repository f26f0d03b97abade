-- The objects of the kernel lie in its memory, so no control block ends past the last address.
use Rattle.command_how.proofs.telling.excludes.Goals as goal

pub unreachable-requires : goal.unreachable-requires
unreachable-requires g c = c.in-Err-Block.ensures.fault c.in-Err-Block.field-0-is c.requires.0 c.requires.1
