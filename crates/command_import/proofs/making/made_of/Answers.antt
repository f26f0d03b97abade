-- What is written of a layout that is read as it is asked for.
use Rattle.std.proofs.Common.{option_map, rules}
use Rattle.command_import.specs.Asked.{IsReadAs}
use Rattle.command_import.proofs.Made.{as_imported}
use Rattle.command_import.proofs.making.made_of.Goals as goal

pub returns : goal.returns
returns g =
    let layout = g.args.read.now.layout in
    let so : IsReadAs g.args.reading layout = search rules in
    as_imported g.args.reading (option_map (λ s. s.now) g.args.path) g.args.listing layout g.written.result so g.written.ensures.listed g.written.ensures.tested
