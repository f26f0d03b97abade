use Rattle.std.proofs.Common.{◌≡◌, ◌+◌, Some, map, drop, slice_get, string_bytes, sym, ◌∙◌, arith}
use Rattle.command_trace.specs.Changes.{line_changes, removed_line, added, change}
use Rattle.command_trace.specs.Views.{line_view}
use Rattle.command_trace.proofs.Differences.{viewed, written, step_old, step_new, step_both}
use Rattle.command_trace.proofs.lines.changes.add_changes.Goals as goal

pub loop-i-preserved-in-Less : goal.loop-i-preserved-in-Less
loop-i-preserved-in-Less c =
    let o = map line_view c.args.old.now in
    let n = map line_view c.args.new.now in
    let a = line_view c.index-old-i.result in
    let here : slice_get o c.loop-i.i ≡ Some a = viewed line_view c.args.old.now c.loop-i.i c.index-old-i.result (c.in-Less.ensures.old (λ is. cc)) c.index-old-i.is in
    let order = sym c.order_at.ensures.order ∙ c.in-Less.is in
    record {
      old = omega (arith, (c.in-Less.ensures.old (λ is. cc)));
      new = c.loop-i.invariant.new;
      text = written _ _ (string_bytes c.args.out.now) (removed_line (Some a.1)) (line_changes (drop (c.loop-i.i + 1) o) (drop c.loop-i.j n)) _ _
          c.in_ok-add_removed-in-Less.ensures
          (step_old o n c.loop-i.i c.loop-i.j c.requires.old c.requires.new a here order)
          c.loop-i.invariant.text;
    }

pub loop-i-preserved-in-Greater : goal.loop-i-preserved-in-Greater
loop-i-preserved-in-Greater c =
    let o = map line_view c.args.old.now in
    let n = map line_view c.args.new.now in
    let b = line_view c.index-new-j.result in
    let here : slice_get n c.loop-i.j ≡ Some b = viewed line_view c.args.new.now c.loop-i.j c.index-new-j.result (c.in-Greater.ensures.new (λ is. cc)) c.index-new-j.is in
    let order = sym c.order_at.ensures.order ∙ c.in-Greater.is in
    record {
      old = c.loop-i.invariant.old;
      new = omega (arith, (c.in-Greater.ensures.new (λ is. cc)));
      text = written _ _ (string_bytes c.args.out.now) (added (Some b.1)) (line_changes (drop c.loop-i.i o) (drop (c.loop-i.j + 1) n)) _ _
          c.in_ok-add_added-in-Greater.ensures
          (step_new o n c.loop-i.i c.loop-i.j c.requires.old c.requires.new b here order)
          c.loop-i.invariant.text;
    }

pub loop-i-preserved : goal.loop-i-preserved
loop-i-preserved c =
    let o = map line_view c.args.old.now in
    let n = map line_view c.args.new.now in
    let a = line_view c.index-old-i-in-Equal.result in
    let b = line_view c.index-new-j-in-Equal.result in
    let here : slice_get o c.loop-i.i ≡ Some a = viewed line_view c.args.old.now c.loop-i.i c.index-old-i-in-Equal.result (c.in-Equal.ensures.old (λ is. cc)) c.index-old-i-in-Equal.is in
    let there : slice_get n c.loop-i.j ≡ Some b = viewed line_view c.args.new.now c.loop-i.j c.index-new-j-in-Equal.result (c.in-Equal.ensures.new (λ is. cc)) c.index-new-j-in-Equal.is in
    let order = sym c.order_at.ensures.order ∙ c.in-Equal.is in
    record {
      old = omega (arith, (c.in-Equal.ensures.old (λ is. cc)));
      new = omega (arith, (c.in-Equal.ensures.new (λ is. cc)));
      text = written _ _ (string_bytes c.args.out.now) (change (Some a.1) (Some b.1)) (line_changes (drop (c.loop-i.i + 1) o) (drop (c.loop-i.j + 1) n)) _ _
          c.in_ok-add_altered-in-Equal.ensures
          (step_both o n c.loop-i.i c.loop-i.j c.requires.old c.requires.new a b here there order)
          c.loop-i.invariant.text;
    }
