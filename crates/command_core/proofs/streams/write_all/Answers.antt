-- What a write took comes behind what was written before.
use Rattle.std.proofs.Common.{◌≡◌, ◌∙◌, ◌++◌, take, drop, sym, ap, append_assoc, rules}
use Rattle.std.proofs.lemmas.List.{length-take-le, take-append-drop}
use Rattle.command_core.proofs.Progress.{Appends-trans, written-trans}
use Rattle.command_core.proofs.streams.write_all.Goals as goal

pub loop-rest-preserved : goal.loop-rest-preserved
loop-rest-preserved g c =
    let rest = c.loop-rest.rest.now in
    let n = c.in-Ok.n in
    let so_far = c.loop-rest.invariant in
    let whole : c.args.text.now ≡ (so_far.front ++ take n rest) ++ drop n rest =
    so_far.is_front ∙ ap (λ r. so_far.front ++ r) (sym (take-append-drop n rest)) ∙ sym (append_assoc so_far.front (take n rest) (drop n rest)) in
    let after : c.split_at.result.1.now ≡ drop n rest = search rules in
    record {
      front = so_far.front ++ take n rest;
      is_front = rw after whole;
      appends = Appends-trans _ _ _ so_far.front (take n rest) so_far.appends c.in-Ok.ensures.bytes;
      written = written-trans _ _ _ n so_far.front (take n rest) (length-take-le n rest (c.in-Ok.ensures.count).1) so_far.written c.in-Ok.ensures.written;
      failed = c.in-Ok.ensures.ok ∙ so_far.failed;
    }
