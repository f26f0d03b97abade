use Rattle.std.proofs.Common.{◌≡◌, ◌++◌, Some, map, arith, subst}
use Rattle.std.specs.Prelude.{IfSome, option_map}
use Rattle.std.proofs.lemmas.List.{drop_all}
use Rattle.toml.specs.declared.value.Value.{Value}
use Rattle.toml.specs.View.{view}
use Rattle.setup_policy_file.proofs.Loops.{entries_done, entries_on, entries_start}
use Rattle.setup_policy_file.proofs.arrays.tables.Goals as goal

pub loop-value-init : goal.loop-value-init
loop-value-init g c = λ are. entries_start view g.K.EntryKind.shown (g.K.EntryKind.reads c.args.top.version) c.in_ok-elements.elements.now c.new-entries.result.items c.new-entries.ensures.items

pub loop-value-preserved : goal.loop-value-preserved
loop-value-preserved g c =
    let reads = g.K.EntryKind.reads c.args.top.version in
    let old = c.loop-value.entries.items in
    let new = c.read-read.new.entries.items in
    rw c.is_some-are_read.ensures (entries_on view g.K.EntryKind.shown reads c.loop-value.value-index c.in_ok-elements.elements.now c.value-item.result old new c.loop-value.are_read c.read-read.result c.loop-value-test.true
    (subst (λ (e : Value). IfSome c.read-read.result (λ _. option_map (λ es. map g.K.EntryKind.shown old ++ es) (reads (view e)) ≡ Some (map g.K.EntryKind.shown new))) c.value-item.is c.read-read.ensures) c.loop-value.invariant)

pub returns-then-are_read : goal.returns-then-are_read
returns-then-are_read g c =
    let reads = g.K.EntryKind.reads c.args.top.version in
    let found = rw c.in_ok-elements.ensures at c.elements.ensures in
    rw found (entries_done view g.K.EntryKind.shown reads c.loop-value.value-index c.in_ok-elements.elements.now c.loop-value.entries.items
    (drop_all c.loop-value.value-index c.in_ok-elements.elements.now (omega arith)) (c.loop-value.invariant c.if-are_read.true))
