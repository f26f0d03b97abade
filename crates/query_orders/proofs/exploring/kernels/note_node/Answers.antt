use Rattle.std.proofs.Common.{◌≡◌, ◌<◌, ◌++◌, ◌∷◌, [], List, length, ap, sym, subst, ◌∙◌, arith}
use Rattle.kernel_abstract.specs.Shown.{Shown}
use Rattle.query_orders.specs.declared.exploring.node.Node.{Node}
use Rattle.query_orders.specs.Private.Kernels.{AreKernels}
use Rattle.query_orders.specs.Private.Tables.{with_node}
use Rattle.query_orders.proofs.Exploration.Kept.{kernels_stay, kernel_kept, kernel_saved}
use Rattle.query_orders.proofs.exploring.kernels.note_node.Goals as goal

pub returns-then-count-nodes-clause-kernels : goal.returns-then-count-nodes-clause-kernels
returns-then-count-nodes-clause-kernels g c p own w is all =
    let kernels = c.args.nodes.now.kernels.items in
    let layer = c.args.nodes.now.layer in
    let n = c.args.node in
    let noted : c.note.new.self ≡ with_node layer n = c.in_ok-note.ensures in
    let before : length c.nodes-count.result.now ≡ length layer = ap (λ (l : List Node). length l) c.nodes-count.ensures in
    let after : length c.nodes.result.now ≡ length (with_node layer n) = ap (λ (l : List Node). length l) (c.nodes.ensures ∙ noted) in
    let lt : length c.nodes-count.result.now < length c.nodes.result.now = c.if-count-nodes.true in
    let more : length layer < length (with_node layer n) = omega arith in
    subst (λ (l : List Node). AreKernels p own w c.keep.new.kernels.items l) (sym noted)
    (kernel_saved p own w kernels c.keep.new.kernels.items layer n c.args.at all is (c.has_room-keeps.ensures c.if-keeps.true) more c.keep.ensures)

pub returns-clause-kernels : goal.returns-clause-kernels
returns-clause-kernels g c p own w is all =
    let kernels = c.args.nodes.now.kernels.items in
    subst (λ (l : List Node). AreKernels p own w kernels l) (sym c.in_ok-note.ensures) (kernels_stay p own w kernels c.args.nodes.now.layer c.args.node all)
