use Rattle.std.proofs.Common.{◌≡◌, [], ap, ◌∙◌, rules, string_bytes, sym}
use Rattle.setup_policy_meaning.specs.Policies.{group_name}
use Rattle.setup_policy_meaning.proofs.Groups.{one_name_more}
use Rattle.setup_policy_meaning.proofs.resolve.group_names.Goals as goal

pub loop-group-preserved : goal.loop-group-preserved
loop-group-preserved c =
    let text : string_bytes c.in_ok-name.name ≡ group_name c.group-item.result = search rules in
    rw c.in_ok-push.ensures.items (one_name_more group_name c.loop-group.names.items c.in_ok-name.name c.args.groups.now c.loop-group.group-index c.group-item.result [] c.loop-group-test.true
    (text ∙ ap group_name c.group-item.is) c.loop-group.invariant)
