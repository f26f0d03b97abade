use Rattle.std.proofs.Common.{◌≡◌, ◌++◌, ◌∷◌, [], ◌+◌, ℕ, List, string_bytes, take, ap, sym, ◌∙◌, append_assoc, append-nil}
use Rattle.std.specs.List.{flat_map}
use Rattle.std.proofs.lemmas.List.{take_all, take_more}
use Rattle.std.proofs.lemmas.List.Concat.{flat_map-append}
use Rattle.std.proofs.lemmas.List.Folds.{flat_map-map}
use Rattle.query_orders.specs.declared.groups.exploring.GroupExplored.{GroupExplored}
use Rattle.command_explore.specs.Groups.{group_view, group_line}
use Rattle.command_explore.proofs.report.groups.add_groups.Goals as goal

pub loop-group-preserved : goal.loop-group-preserved
loop-group-preserved c =
    let explored = c.args.explored.now in
    let i = c.loop-group.group-index in
    let line = λ (g : GroupExplored). group_line c.args.first c.args.limit c.args.groups.now (group_view g) in
    let out = string_bytes c.args.out.now in
    let item = c.group-item.result in
    let longer : take (i + 1) explored ≡ take i explored ++ item ∷ [] =
    take_more explored i _ c.loop-group-test.true ∙ ap (λ (g : GroupExplored). take i explored ++ g ∷ []) (sym c.group-item.is) in
    c.in_ok-add_group.ensures
    ∙ ap (λ (l : List ℕ). l ++ line item) c.loop-group.invariant
    ∙ append_assoc out (flat_map line (take i explored)) (line item)
    ∙ ap (λ (l : List ℕ). out ++ (flat_map line (take i explored) ++ l)) (sym (append-nil (line item)))
    ∙ ap (λ (l : List ℕ). out ++ l) (sym (ap (flat_map line) longer ∙ flat_map-append line (take i explored) (item ∷ [])))

pub returns : goal.returns
returns c =
    let explored = c.args.explored.now in
    let line = group_line c.args.first c.args.limit c.args.groups.now in
    let out = string_bytes c.args.out.now in
    c.loop-group.invariant
    ∙ ap (λ (l : List GroupExplored). out ++ flat_map (λ (g : GroupExplored). line (group_view g)) l) (take_all c.loop-group.group-index explored c.loop-group-test.false)
    ∙ ap (λ (l : List ℕ). out ++ l) (sym (flat_map-map line group_view explored))
