use Rattle.std.proofs.Common.{◌≡◌, ℕ, List, ap, ◌∙◌}
use Rattle.cap_core.specs.Numbers.{word_bits}
use Rattle.kernel_forest.specs.Entries.{cap_at}
use Rattle.cspace_core.specs.Bits.{low_bits}
use Rattle.kernel_abstract.specs.declared.reason.Held.{Held}
use Rattle.kernel_abstract.specs.Decode.{service_word}
use Rattle.kernel_abstract.specs.Shown.{endpoint_base}
use Rattle.kernel_checks.specs.Paths.{path}
use Rattle.query_orders.specs.Private.Ways.{base_behind}
use Rattle.query_orders.proofs.Grouped.Ways.{endpoint_by_way}
use Rattle.query_orders.proofs.groups.objects.endpoint_invoked.Goals as goal

pub returns : goal.returns
returns g c =
    let p = g.P.Profile.profile in
    let f = c.args.kernel.now.derivations in
    let thread = c.args.call.now.thread in
    let bits : c.WORD_BITS.result ≡ word_bits p = c.WORD_BITS.ensures ∙ g.met.P.Profile.word_bits_is in
    c.endpoint_at_end.ensures
    ∙ ap (λ (l : List Held). base_behind endpoint_base l) (c.as_slice.ensures.value ∙ c.in_ok-way.ensures)
    ∙ ap (λ (n : ℕ). base_behind endpoint_base (path p (cap_at f) thread (low_bits n c.service_word-word.result))) bits
    ∙ ap (λ (n : ℕ). base_behind endpoint_base (path p (cap_at f) thread (low_bits (word_bits p) n))) c.service_word-word.ensures
    ∙ endpoint_by_way p f thread (service_word c.args.call.now.op)
