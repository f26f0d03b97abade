use Rattle.std.proofs.Common.{rules, ◌≡◌, length, refl, sym, ◌∙◌}
use Rattle.command_threads.proofs.Beginnings.{begun, many_begun}
use Rattle.command_threads.proofs.beginning.begin.Goals as goal

pub returns-clause-begun : goal.returns-clause-begun
returns-clause-begun g c =
    begun g.P.Profile.profile c.args.setup.now c.args.first c.first_count.result c.plan.result.now c.calls.result.now _ _ c.run.new.replies.items c.in_ok-kernel.kernel c.run.new.self
    c.requires c.plan.ensures.plan c.first_count.ensures c.calls.ensures refl c.in_ok-kernel.ensures.shows c.in_ok-replies.ensures.items c.run.ensures.replies c.run.ensures.stands

pub returns-clause-many : goal.returns-clause-many
returns-clause-many g c =
    let long : length c.run.new.replies.items ≡ c.run.new.replies.len = search rules in
    sym long ∙ many_begun g.P.Profile.profile c.args.setup.now c.args.first c.run.new.replies.items c.run.new.self (returns-clause-begun g c)
