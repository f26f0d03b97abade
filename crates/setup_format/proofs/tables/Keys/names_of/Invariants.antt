use Rattle.std.proofs.Common.{◌≡◌, []}
use Rattle.setup_values.specs.Names.{names_view}
use Rattle.setup_format.proofs.Grammar.Entries.{so_far}
use Rattle.setup_format.proofs.tables.Keys.names_of.Given as goal

abbrev pub invariant-loop-text : goal.invariant-loop-text
invariant-loop-text g l = so_far g.P.Profile.profile (names_view l.names.items) l.text-iterator ≡ so_far g.P.Profile.profile [] l.table.entries
