-- The parts of the text, one behind the other.
use Rattle.std.proofs.Common.{List, ℕ, ◌++◌, string_bytes, ap, ◌∙◌}
use Rattle.std.specs.List.{flat_map}
use Rattle.command_new.specs.Text.{new_text, format_text, sizes_text, new_threads_text, objects_text, untyped_text, first_call_text}
use Rattle.command_new.proofs.Appended.{both}
use Rattle.command_new.proofs.text.whole_text.Goals as goal

pub returns : goal.returns
unfolding new_text
returns g c =
    let p = g.P.Profile.profile in
    let plan = c.args.plan.now in
    let untypeds = c.in_ok-add_untypeds.ensures ∙ ap (λ (us : List (ℕ × ℕ)). string_bytes c.add_objects.new.out ++ flat_map untyped_text us) c.untypeds.ensures in
    both (string_bytes c.new-out.result) (format_text p) _ _ _ c.in_ok-add_format.ensures
    (both _ (sizes_text plan) _ _ _ c.in_ok-add_sizes.ensures
    (both _ (new_threads_text p plan) _ _ _ c.in_ok-add_threads.ensures
    (both _ (objects_text plan) _ _ _ c.in_ok-add_objects.ensures
    (both _ (flat_map untyped_text plan.untypeds) (first_call_text plan) _ _ untypeds c.in_ok-add_call.ensures))))
    ∙ ap (λ (l : List ℕ). l ++ new_text p plan) c.new-out.ensures.bytes
