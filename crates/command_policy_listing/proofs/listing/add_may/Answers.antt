-- The lines of each kind stand behind those of the kinds before.
use Rattle.std.proofs.Common.{◌≡◌, ◌++◌, ◌∙◌, ap, map, string_bytes}
use Rattle.command_policy_text.specs.Order.{in_order}
use Rattle.command_policy_text.specs.Texts.{all_lines_text}
use Rattle.command_policy_listing.specs.Listing.{region_line, way_line, use_line, take_line}
use Rattle.command_policy_listing.proofs.Pieces.{on_ok, four}
use Rattle.command_policy_listing.proofs.listing.add_may.Goals as goal

pub returns : goal.returns
returns c =
    let p = c.args.held.policy.now in
    let n = c.args.held.labels.now in
    let start = string_bytes c.args.out.now in
    let one = string_bytes c.add_kind.new.out in
    let two = string_bytes c.add_kind-2.new.out in
    let behind = string_bytes c.add_kind-3.new.out in
    let all = string_bytes c.add_kind-4.new.out in
    let regions = in_order (map (region_line p n) p.regions.items) in
    let ways = in_order (map (way_line p n) p.ways.items) in
    let uses = in_order (map (use_line p n) p.uses.items) in
    let takes = in_order (map (take_line p) p.takes.items) in
    on_ok (all ≡ behind ++ all_lines_text (in_order (map (take_line p) c.as_slice-4.result.now))) (all ≡ start ++ all_lines_text (regions ++ (ways ++ (uses ++ takes))))
    (λ is. four regions ways uses takes start one two behind all
    (c.in_ok-add_kind.ensures ∙ ap (λ l. start ++ all_lines_text (in_order (map (region_line p n) l))) c.as_slice.ensures.value)
    (c.in_ok-add_kind-2.ensures ∙ ap (λ l. one ++ all_lines_text (in_order (map (way_line p n) l))) c.as_slice-2.ensures.value)
    (c.in_ok-add_kind-3.ensures ∙ ap (λ l. two ++ all_lines_text (in_order (map (use_line p n) l))) c.as_slice-3.ensures.value)
    (is ∙ ap (λ l. behind ++ all_lines_text (in_order (map (take_line p) l))) c.as_slice-4.ensures.value))
    c.add_kind-4.result c.add_kind-4.ensures
