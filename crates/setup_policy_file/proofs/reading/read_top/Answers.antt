use Rattle.std.proofs.Common.{rules, ap, ◌∙◌, Some}
use Rattle.setup_policy_file.proofs.Said.{same_given}
use Rattle.setup_policy_file.proofs.reading.read_top.Goals as goal

pub returns : goal.returns
returns c =
    record {
      version = c.requires.version;
      only = search rules;
      after = c.in_ok-after.ensures ∙ ap Some (same_given c.in_ok-after.field-0);
      silent = c.in_ok-silent.ensures;
      messages = c.in_ok-messages.ensures;
      grant = c.in_ok-grant.ensures;
      calls = c.in_ok-calls.ensures;
      alone = c.in_ok-groups.groups.items;
      told = c.in_ok-told.told.items;
      groups = search rules;
      alone_are = c.in_ok-groups.ensures;
      told_are = c.in_ok-told.ensures;
      ways = rw c.way_form.ensures.name at c.in_ok-ways.ensures;
      uses = c.in_ok-uses.ensures;
      takes = c.in_ok-takes.ensures;
    }
