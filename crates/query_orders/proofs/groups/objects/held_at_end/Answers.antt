use Rattle.std.proofs.Common.{◌-◌, List, length, slice_get, ap, ◌∙◌}
use Rattle.kernel_abstract.specs.declared.reason.Held.{Held}
use Rattle.query_orders.proofs.Grouped.Ways.{way_last}
use Rattle.query_orders.proofs.groups.objects.held_at_end.Goals as goal

pub returns : goal.returns
returns g c =
    let p = g.P.Profile.profile in
    let f = c.args.kernel.now.derivations in
    c.copied.ensures ∙ c.last.ensures.value
    ∙ ap (λ (l : List Held). slice_get l (length l - 1)) (c.as_slice.ensures.value ∙ c.in_ok-way.ensures)
    ∙ way_last p f c.args.slot c.args.address c.args.bits
