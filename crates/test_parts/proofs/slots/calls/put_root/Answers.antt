use Rattle.std.proofs.Common.{sym, subst}
use Rattle.kernel_forest.specs.Forest.{Forest}
use Rattle.kernel_forest.specs.Entries.{Entry}
use Rattle.slot_core.specs.Places.{address_of}
use Rattle.test_parts.specs.TestForests.{IsTestForest}
use Rattle.test_parts.proofs.KeptForests.{apart_from_all, kept_rooted}
use Rattle.test_parts.proofs.slots.calls.put_root.Goals as goal

pub put_root-requires-clause-unnamed : goal.put_root-requires-clause-unnamed
put_root-requires-clause-unnamed g c = apart_from_all g.P.Profile.profile c.args.cap (g.S.CapStore.forest c.args.store.now) (c.is_apart.ensures c.if-not-is_apart.false)

pub put_root-requires-clause-disjoint : goal.put_root-requires-clause-disjoint
put_root-requires-clause-disjoint g c =
    (kept_rooted g.P.Profile.profile (address_of g.P.Profile.profile c.slot-at.result) c.args.cap (g.S.CapStore.forest c.args.store.now) c.requires.forest c.requires.lawful
    (c.args.target, c.requires.target, c.slot-at.ensures) (c.is_empty.ensures c.if-not-is_empty.false) (c.is_apart.ensures c.if-not-is_apart.false)).disjoint

pub returns-clause-forest : goal.returns-clause-forest
returns-clause-forest g c =
    let Q : Forest Entry → Type 0 = IsTestForest g.P.Profile.profile in
    subst Q (sym c.put_root.ensures.forest)
    (kept_rooted g.P.Profile.profile (address_of g.P.Profile.profile c.slot-at.result) c.args.cap (g.S.CapStore.forest c.args.store.now) c.requires.forest c.requires.lawful
    (c.args.target, c.requires.target, c.slot-at.ensures) (c.is_empty.ensures c.if-not-is_empty.false) (c.is_apart.ensures c.if-not-is_apart.false))
