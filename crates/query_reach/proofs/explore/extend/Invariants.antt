use Rattle.std.proofs.Common.{◌+◌, length, map}
use Rattle.cap_core.specs.Numbers.{word_bits}
use Rattle.query_reach.specs.Private.Paths.{IsWide}
use Rattle.query_reach.specs.Private.Exploring.{ExtendsExplored}
use Rattle.query_reach.proofs.explore.extend.Given as goal

abbrev pub invariant-loop-place : goal.invariant-loop-place
invariant-loop-place g l = record {
  wide : IsWide (word_bits g.P.Profile.profile + 1) (length l.filled) (map (λ r. r.items) l.rows.items);
  extends : ExtendsExplored g.P.Profile.profile l.from l.read l.path l.filled l.place (map (λ r. r.items) l.fn.rows.items) (map (λ r. r.items) l.rows.items);
}
