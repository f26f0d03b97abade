use Rattle.std.proofs.Common.{ℕ, List, ap}
use Rattle.kernel_forest.specs.Marked.{Marked}
use Rattle.slot_core.specs.Links.{place_in}
use Rattle.kernel_forest.proofs.Marked.MarkedLaw.{stands_for, no_other}
use Rattle.slot_core.proofs.LinkedStores.LinkedLaw.{run_in_store, child_in_store, last_in_store, below_in_store}
use Rattle.slot_core.proofs.linked.LinkedStore.stands_for_its_forest.Goals as goal

pub returns-clause-stands : goal.returns-clause-stands
returns-clause-stands g c = stands_for g.P.Profile.profile c.args.self.now.0

pub returns-clause-alone : goal.returns-clause-alone
returns-clause-alone g c f h = no_other g.P.Profile.profile c.args.self.now.0 f h

pub returns-clause-descendants : goal.returns-clause-descendants
returns-clause-descendants g c =
    run_in_store g.P.Profile.profile c.self.inside.links.items (place_in c.self.inside.first) (place_in c.self.inside.last) c.args.self.now.0
    (ap (λ (v : List Marked × ℕ). v.0) c.self.view_is) c.self.invariant

pub returns-clause-children : goal.returns-clause-children
returns-clause-children g c =
    child_in_store g.P.Profile.profile c.self.inside.links.items (place_in c.self.inside.first) (place_in c.self.inside.last) c.args.self.now.0
    (ap (λ (v : List Marked × ℕ). v.0) c.self.view_is) c.self.invariant

pub returns-clause-lasts : goal.returns-clause-lasts
returns-clause-lasts g c =
    last_in_store g.P.Profile.profile c.self.inside.links.items (place_in c.self.inside.first) (place_in c.self.inside.last) c.args.self.now.0
    (ap (λ (v : List Marked × ℕ). v.0) c.self.view_is) c.self.invariant

pub returns-clause-below : goal.returns-clause-below
returns-clause-below g c =
    below_in_store g.P.Profile.profile c.self.inside.links.items (place_in c.self.inside.first) (place_in c.self.inside.last) c.args.self.now.0
    (ap (λ (v : List Marked × ℕ). v.0) c.self.view_is) c.self.invariant
