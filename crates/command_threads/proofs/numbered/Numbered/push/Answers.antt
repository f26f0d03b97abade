use Rattle.std.proofs.Common.{[], ◌∷◌, ◌++◌, ap, ◌∙◌}
use Rattle.kernel_shared.specs.Laws.{client_entry}
use Rattle.kernel_shared.proofs.Grows.{counts_grow}
use Rattle.command_threads.proofs.Growing.{numbered_more}
use Rattle.command_threads.proofs.numbered.Numbered.push.Goals as goal

pub invariant_of-self-2-clause-numbered : goal.invariant_of-self-2-clause-numbered
invariant_of-self-2-clause-numbered c =
    numbered_more c.args.self.now.entries.items _ c.push_reserved.new.self.items _ c.args.self.now.numbered c.in_ok-reserve.ensures.items c.push_reserved.ensures.items c.made_by-number.ensures

pub invariant_of-self-2-clause-counted : goal.invariant_of-self-2-clause-counted
invariant_of-self-2-clause-counted c =
    let h = c.args.self.now.entries.items in
    let number = c.made_by-number.result in
    let pushed = c.push_reserved.ensures.items ∙ ap (λ l. l ++ client_entry c.args.client number c.args.call c.args.reply ∷ []) c.in_ok-reserve.ensures.items in
    counts_grow c.args.self.now.counts c.set_count.new.counts h c.push_reserved.new.self.items c.args.client number c.args.call c.args.reply pushed c.args.self.now.counted c.made_by-number.ensures c.set_count.ensures
