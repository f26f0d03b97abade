use Rattle.command_explore.proofs.Texts.{text_replayed}
use Rattle.command_explore.proofs.laws.texts_of_witnesses_come_to_what_is_told.Goals as goal

pub returns : goal.returns
returns c = text_replayed
