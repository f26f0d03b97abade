use Rattle.std.proofs.Common.{◌≡◌, arith, length, map, List, Option, ◌∙◌}
use Rattle.std.proofs.lemmas.List.{length-map}
use Rattle.std.proofs.lemmas.Option.{slice_get_within}
use Rattle.cap_core.specs.Numbers.{word_bits}
use Rattle.query_reach.specs.Private.Tables.{left_row}
use Rattle.query_reach.specs.Private.Search.{IsSearch}
use Rattle.query_reach.proofs.FullSlots.{all_lawful}
use Rattle.query_reach.proofs.Listed.{none_reached, root_null, first_search, any_same, are_reached, only_row}
use Rattle.query_reach.proofs.reached.reached_slots.Goals as goal

pub returns-in_default : goal.returns-in_default
returns-in_default g c f are =
    rw c.new.ensures.items (none_reached g.P.Profile.profile f c.args.thread (root_null f c.args.thread c.args.filled.now are c.in_default.ensures.none))

pub first_rows-requires : goal.first_rows-requires
first_rows-requires g c =
    let at = c.in-Some.ensures.some in
    let within = slice_get_within c.args.filled.now c.in-Some.root at.0 at.1.0 in
    omega (arith, within)

pub returns : goal.returns
returns g c f are =
    let rows : List (List (Option _)) = map (λ r. r.items) c.search.new.rows.items in
    let at = c.in-Some.ensures.some in
    let start : IsSearch g.P.Profile.profile f c.args.thread c.args.filled.now (map (λ r. r.items) c.in_ok-rows.rows.items) =
    first_search g.P.Profile.profile f c.args.thread (length c.args.filled.now) c.in-Some.root c.args.filled.now (map (λ r. r.items) c.in_ok-rows.rows.items) at.0
    c.in_ok-rows.ensures.first at.1.0 at.1.1 in
    let searched : IsSearch g.P.Profile.profile f c.args.thread c.args.filled.now rows =
    c.in_ok-search.ensures.found (word_bits g.P.Profile.profile) f c.args.thread (all_lawful g.P.Profile.profile f c.args.filled.now are c.requires.lawful) are start in
    let one : length c.search.new.rows.items ≡ 1 = omega (arith, c.in_ok-search.ensures.one, c.search.new.rows.ok.0) in
    let one' : length rows ≡ 1 = rw length-map one in
    let row : c.as_slice.result.now ≡ left_row rows 0 = c.as_slice.ensures.value ∙ only_row (λ r. r.items) c.search.new.rows.items c.index.result.now one c.index.ensures in
    are_reached g.P.Profile.profile f c.args.thread c.args.filled.now rows c.in_ok-list.list.items c.put_in_order.new.list.items
    are c.requires.rising one' c.in_ok-search.ensures.bounded searched
    (rw row at c.in_ok-list.ensures.only) (rw row at c.in_ok-list.ensures.all)
    (λ r h. any_same r c.put_in_order.new.list.items (c.in_ok-put_in_order.ensures.kept r h)) c.in_ok-put_in_order.ensures.only c.in_ok-put_in_order.ensures.order
