-- The proof of `add_between`: the goals that a search leaves open.
use Rattle.std.proofs.Common.{◌≡◌, ◌∙◌, ◌++◌, ℕ, List, OnOk, string_bytes, ap, subst}
use Rattle.command_parts.specs.Telling.{part_naming_view}
use Rattle.command_never.specs.declared.parts_kept.waits.Wait.{Wait}
use Rattle.command_never.specs.Never.{open_endpoints}
use Rattle.command_never.proofs.OpenOnes.{between_two}
use Rattle.command_never.proofs.parts_kept.open.Telling.add_between.Goals as goal

pub returns : goal.returns
returns g c =
    let layout = c.args.self.now.layout.now in
    subst (λ (t : List ℕ). OnOk c.add_all_open.result (string_bytes c.add_all_open.new.out ≡ string_bytes c.args.out.now ++ t))
    (between_two g.P.Profile.profile (part_naming_view c.args.self.now.told.now) layout.memory.now layout.uses.now c.args.self.now.kernel.now c.args.self.now.by.now c.args.from c.args.to
    c.in-Some-Some.from c.in-Some-Some.to c.in-Some-Some.is-0 c.in-Some-Some.is-1 c.if-from-to.false c.as_slice.result.now (c.as_slice.ensures.value ∙ (c.in_ok-open.ensures
    ∙ ap (λ (w : List Wait). open_endpoints g.P.Profile.profile layout.memory.now layout.uses.now w c.args.self.now.by.now c.in-Some-Some.from c.in-Some-Some.to) c.args.self.now.waiting)))
    c.add_all_open.ensures
