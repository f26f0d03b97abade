use Rattle.std.proofs.Common.{rules, ◌≡◌, List, length, take, ◌∙◌, subst, ap, sym}
use Rattle.kernel_shared.specs.declared.entry.Entry.{Entry}
use Rattle.left_right.specs.Sides.{view}
use Rattle.kernel_shared.specs.Fronts.{StartsWith}
use Rattle.kernel_shared.specs.Readers.{seen_of}
use Rattle.kernel_shared.specs.ClientStates.{ClientState}
use Rattle.kernel_shared.proofs.Keeping.{turns, starts_refl, starts_by}
use Rattle.kernel_shared.proofs.Clients.{looks_later}
use Rattle.kernel_shared.proofs.client.Client.look.Goals as goal

pub enter_as-requires : goal.enter_as-requires
enter_as-requires g c x views h at = turns _ _ views _ _ (starts_refl _) h at

pub returns-in-Ok-clause-later : goal.returns-in-Ok-clause-later
returns-in-Ok-clause-later g c =
    let sees = (rw c.in-Ok.is at c.enter_as.ensures).1 in
    let was : seen_of c.self.inside.reader ≡ view c.in-Some.reader.place = ap seen_of (sym c.take.ensures.value ∙ c.in-Some.is) in
    let s = starts_by _ (view c.leave.result.place) _ (seen_of c.self.inside.reader) c.leave.ensures.1 was sees.later in
    let n : c.length-self-inside.result ≡ length (view c.leave.result.place) = search rules in
    subst (λ (h : List Entry). StartsWith (take c.length-self-inside.result (view c.leave.result.place)) h) (ap (λ (t : ClientState). t.front) c.self.view_is) (looks_later c.self.inside.seen _ (seen_of c.self.inside.reader) (view c.leave.result.place) s n)
