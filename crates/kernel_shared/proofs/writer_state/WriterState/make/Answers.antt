use Rattle.std.proofs.Common.{rules, ◌≡◌, ◌≢◌, ◌+◌, List, [], ◌∷◌, length, drop, ap, sym, ◌∙◌}
use Rattle.kernel_shared.specs.declared.entry.Entry.{Entry}
use Rattle.kernel_shared.specs.Laws.{count_of}
use Rattle.kernel_shared.proofs.Keeping.{turns}
use Rattle.kernel_shared.proofs.Publishing.{folded, starts_after, one_longer, pending_is}
use Rattle.kernel_shared.proofs.writer_state.WriterState.make.Goals as goal

pub publish_as-writer-requires : goal.publish_as-writer-requires
publish_as-writer-requires g c next is views h at =
    let w = c.append.new.self in
    let hist = g.T.Absorb.state w.desk.shown.value in
    let one : drop w.behind w.log.items ≡ c.args.request ∷ [] = pending_is c.append.result c.args.request _ _ _ c.if-is_err.ensures.value c.append.ensures.pending c.args.self.published in
    let grown = folded g.N.Naming.profile g.N.Naming.start g.N.Naming.limit hist c.args.request g.T.Absorb.applied _ (g.T.Absorb.state next) g.met.T.HistoryCopy.applies one is in
    turns _ _ views _ _ (starts_after g.N.Naming.profile g.N.Naming.start g.N.Naming.limit hist c.args.request (g.T.Absorb.state next) grown) h at

pub invariant_of-result-2-clause-counted : goal.invariant_of-result-2-clause-counted
invariant_of-result-2-clause-counted g c =
    let w = c.append.new.self in
    let hist : List Entry = g.T.Absorb.state w.desk.shown.value in
    let d : hist ≡ g.T.Absorb.state c.args.self.writer.desk.shown.value = λ i. g.T.Absorb.state (c.append.ensures.desk i).shown.value in
    let p2 : hist ≡ g.T.Absorb.state c.published-2.result.now = d ∙ sym (λ i. g.T.Absorb.state (c.published-2.ensures i)) in
    let p3 : hist ≡ g.T.Absorb.state c.published-3.result.now = d ∙ sym (λ i. g.T.Absorb.state (c.published-3.ensures i)) in
    let one : drop w.behind w.log.items ≡ c.args.request ∷ [] = pending_is c.append.result c.args.request _ _ _ c.if-is_err.ensures.value c.append.ensures.pending c.args.self.published in
    let v = rw c.in-Ok.is at c.publish_as-writer.ensures.values in
    let grown = folded g.N.Naming.profile g.N.Naming.start g.N.Naming.limit hist c.args.request g.T.Absorb.applied _ (g.T.Absorb.state c.publish_as-writer.result.0.desk.shown.value) g.met.T.HistoryCopy.applies one v.0 in
    let n : length hist ≢ g.N.Naming.limit = λ e. (let f : length (g.T.Absorb.state c.published-2.result.now) ≡ g.N.Naming.limit = ap length (sym p2) ∙ e in let t = c.if-is_full.ensures.1 f in search rules) in
    let q : c.args.request.number ≡ count_of c.args.request.client (g.T.Absorb.state c.published-3.result.now) = search rules in
    let m : c.args.request.number ≡ count_of c.args.request.client hist = q ∙ ap (count_of c.args.request.client) (sym p3) in
    let l = one_longer g.N.Naming.profile g.N.Naming.start g.N.Naming.limit hist c.args.request (g.T.Absorb.state c.publish_as-writer.result.0.desk.shown.value) grown n m in
    let e : length hist ≡ c.args.self.made.total = ap length d ∙ c.args.self.counted in
    l ∙ (ap (λ x. x + 1) (e ∙ sym c.audit.ensures.total) ∙ sym c.add.ensures.total)

pub invariant_of-result-2-clause-published : goal.invariant_of-result-2-clause-published
invariant_of-result-2-clause-published g c = let v = rw c.in-Ok.is at c.publish_as-writer.ensures.values in v.1
