-- The lines of each kind stand behind those of the kinds before.
use Rattle.std.proofs.Common.{◌≡◌, ◌++◌, ◌∙◌, ap, map, string_bytes}
use Rattle.command_policy_text.specs.Order.{in_order}
use Rattle.command_policy_text.specs.Told.{group_text}
use Rattle.command_policy_text.specs.Texts.{all_lines_text}
use Rattle.command_policy_listing.specs.Listing.{silent_line, messages_line}
use Rattle.command_policy_listing.proofs.Pieces.{on_ok, three}
use Rattle.command_policy_listing.proofs.listing.add_who.Goals as goal

pub returns : goal.returns
returns c =
    let p = c.args.held.policy.now in
    let n = c.args.held.labels.now in
    let start = string_bytes c.args.out.now in
    let one = string_bytes c.add_kind.new.out in
    let two = string_bytes c.add_kind-2.new.out in
    let all = string_bytes c.add_kind-3.new.out in
    let silent = in_order (map (silent_line n) p.silent.items) in
    let messages = in_order (map (messages_line n) p.messages.items) in
    let groups = in_order (map (group_text p n) p.groups.items) in
    on_ok (all ≡ two ++ all_lines_text (in_order (map (group_text p n) c.as_slice-3.result.now))) (all ≡ start ++ all_lines_text (silent ++ (messages ++ groups)))
    (λ is. three silent messages groups start one two all
    (c.in_ok-add_kind.ensures ∙ ap (λ l. start ++ all_lines_text (in_order (map (silent_line n) l))) c.as_slice.ensures.value)
    (c.in_ok-add_kind-2.ensures ∙ ap (λ l. one ++ all_lines_text (in_order (map (messages_line n) l))) c.as_slice-2.ensures.value)
    (is ∙ ap (λ l. two ++ all_lines_text (in_order (map (group_text p n) l))) c.as_slice-3.ensures.value))
    c.add_kind-3.result c.add_kind-3.ensures
