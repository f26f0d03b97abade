use Rattle.std.proofs.Common.{◌≡◌, ◌+◌, arith, length, map, List, Option, refl, ◌∙◌}
use Rattle.std.proofs.lemmas.List.{length-map}
use Rattle.cap_core.specs.Numbers.{word_bits}
use Rattle.query_reach.specs.declared.paths.Path.{Path}
use Rattle.query_reach.proofs.FullSlots.{all_lawful}
use Rattle.query_reach.proofs.Explored.{bits_more, explored_more, explored_first, starts_within}
use Rattle.query_reach.proofs.explore.explore.Goals as goal

pub loop-read-init : goal.loop-read-init
loop-read-init g c = record {
  wide = c.requires.wide;
  bits = starts_within (map (λ r. r.items) c.args.rows.now.items) c.requires.starts;
  front = λ place. refl;
  explored = λ f are. explored_first g.P.Profile.profile f c.args.filled.now (map (λ r. r.items) c.args.rows.now.items) c.requires.starts;
}

pub loop-read-preserved : goal.loop-read-preserved
loop-read-preserved g c =
    let first : List (List (Option Path)) = map (λ r. r.items) c.args.rows.now.items in
    let old : List (List (Option Path)) = map (λ r. r.items) c.loop-read.rows.items in
    let new : List (List (Option Path)) = map (λ r. r.items) c.extend_row.new.rows.items in
    let s = c.in_ok-extend_row.ensures.extends in
    record {
      wide = c.in_ok-extend_row.ensures.wide;
      bits = bits_more g.P.Profile.profile c.args.filled.now c.loop-read.read (length c.args.filled.now) old new c.requires.lawful c.loop-read.invariant.bits s;
      front = λ place. s.front 0 place (omega arith) ∙ c.loop-read.invariant.front place;
      explored = λ f are. explored_more g.P.Profile.profile (word_bits g.P.Profile.profile) f c.args.filled.now first old new c.loop-read.read
          (all_lawful g.P.Profile.profile f c.args.filled.now are c.requires.lawful) are s (c.loop-read.invariant.explored f are);
    }

pub returns-clause-explored : goal.returns-clause-explored
returns-clause-explored g c f are =
    let done : word_bits g.P.Profile.profile + 1 ≡ c.loop-read.read =
    (let h = c.requires.wide.high in let m : length (map (λ r. r.items) c.args.rows.now.items) ≡ length c.args.rows.now.items = rw length-map refl in
    omega (arith, h, m, c.len-read-end.ensures, c.args.rows.now.ok.0, c.loop-read-test.false, c.loop-read.auto.read-end)) in
    rw done (c.loop-read.invariant.explored f are)
