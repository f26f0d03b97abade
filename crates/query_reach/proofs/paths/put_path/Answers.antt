use Rattle.std.proofs.Common.{◌≡◌, ◌<◌, length, map, arith, refl}
use Rattle.std.proofs.lemmas.List.{length-map}
use Rattle.query_reach.proofs.PathTables.{put_opened, wide_opened}
use Rattle.query_reach.proofs.paths.put_path.Goals as goal

pub returns-clause-put : goal.returns-clause-put
returns-clause-put c =
    let o = c.in_ok-open_row.ensures in
    let was = c.requires.wide.1.high in
    let high = (o.wide c.requires.wide.0 c.requires.wide.1).high in
    let m : length (map (λ r. r.items) c.args.rows.now.items) ≡ length c.args.rows.now.items = rw length-map refl in
    let within : c.args.read < length (map (λ r. r.items) c.open_row.new.rows.items) = omega (arith, was, high, m, c.requires.read, c.args.rows.now.ok.0) in
    rw c.put_at.ensures (put_opened _ _ c.args.read c.args.width c.args.place c.args.path o within c.requires.place)

pub returns-clause-wide : goal.returns-clause-wide
returns-clause-wide c height is =
    let o = c.in_ok-open_row.ensures in
    let was = c.requires.wide.1.high in
    let high = (o.wide c.requires.wide.0 c.requires.wide.1).high in
    let m : length (map (λ r. r.items) c.args.rows.now.items) ≡ length c.args.rows.now.items = rw length-map refl in
    let within : c.args.read < length (map (λ r. r.items) c.open_row.new.rows.items) = omega (arith, was, high, m, c.requires.read, c.args.rows.now.ok.0) in
    rw c.put_at.ensures (wide_opened _ _ c.args.read c.args.width c.args.place c.args.path o within height is)
