-- Where the threads live tells the parts.
use Rattle.std.proofs.Common.{Bool, [], cond, ap, ◌∙◌}
use Rattle.std.specs.List.{filter_map}
use Rattle.setup_report.specs.Naming.{naming_view}
use Rattle.command_parts.specs.Telling.{home_of}
use Rattle.command_parts.proofs.Homes.{told_at_home}
use Rattle.command_parts.proofs.telling.PartNaming.new.Goals as goal

pub returns : goal.returns
returns c =
    told_at_home (naming_view c.args.naming.now) c.args.memory.now c.args.threads.now c.in_ok-homes.homes.items
    (c.in_ok-homes.ensures ∙ ap (λ (b : Bool). cond b (filter_map (home_of c.args.memory.now) c.args.threads.now) []) c.is_by_name.ensures)
