use Rattle.std.specs.Prelude.{All}
use Rattle.setup_values.specs.Names.{names_view}
use Rattle.setup_policy_meaning.specs.Meant.{IsLabel}
use Rattle.setup_policy_meaning.proofs.objects.Meaning.labels_of.Given as goal

abbrev pub invariant-loop-object : goal.invariant-loop-object
invariant-loop-object g l = All (IsLabel l.kind g.P.Profile.profile (names_view l.self.objects.names.now) l.self.setup.now.plan l.self.kernel.now) l.labels.items

abbrev pub invariant-loop-object-2 : goal.invariant-loop-object-2
invariant-loop-object-2 g l = All (IsLabel l.kind g.P.Profile.profile (names_view l.self.objects.names.now) l.self.setup.now.plan l.self.kernel.now) l.labels.items
