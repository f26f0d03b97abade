use Rattle.std.proofs.Common.{◌≡◌, ◌<◌, length, map, arith, refl}
use Rattle.std.proofs.lemmas.List.{length-map}
use Rattle.query_reach.proofs.Tabled.{noted_opened, shape_opened}
use Rattle.query_reach.proofs.table.note.Goals as goal

pub returns-clause-noted : goal.returns-clause-noted
returns-clause-noted c =
    let m : length (map (λ r. r.items) c.args.rows.now.items) ≡ length c.args.rows.now.items = rw length-map refl in
    let within : c.args.left < length (map (λ r. r.items) c.args.rows.now.items) = omega (arith, m, c.requires.left, c.args.rows.now.ok.0) in
    rw c.note_at.ensures (noted_opened _ _ c.args.left c.args.width c.args.place c.args.word c.in_ok-open_row.ensures within c.requires.place)

pub returns-clause-shape : goal.returns-clause-shape
returns-clause-shape c =
    let m : length (map (λ r. r.items) c.args.rows.now.items) ≡ length c.args.rows.now.items = rw length-map refl in
    let within : c.args.left < length (map (λ r. r.items) c.args.rows.now.items) = omega (arith, m, c.requires.left, c.args.rows.now.ok.0) in
    rw c.note_at.ensures (shape_opened _ _ c.args.left c.args.width c.args.place c.args.word c.in_ok-open_row.ensures within)
