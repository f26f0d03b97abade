-- The lines and the tally are those of the files so far.
use Rattle.std.proofs.Common.{map, take}
use Rattle.command_files.specs.Files.{IsInput}
use Rattle.command_files.proofs.Sequences.{SoFar}
use Rattle.command_files.proofs.telling.tell_each.Given as goal

abbrev pub invariant-loop-name : goal.invariant-loop-name
invariant-loop-name g l =
    SoFar (g.T.Telling.verdict l.telling) (g.T.Telling.head l.telling) (g.T.Telling.line l.telling)
    (IsInput (g.I.Inputs.is_standard l.inputs) (g.I.Inputs.is_file l.inputs) (g.I.Inputs.is_fault l.inputs) g.I.Standard.Source g.I.File.Source)
    (map (λ s. s.now) (take l.name-index l.names)) l.name-index l.out.items l.tally
