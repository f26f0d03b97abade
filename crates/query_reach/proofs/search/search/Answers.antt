use Rattle.std.proofs.Common.{rules, inl, inr, ◌≡◌, ℕ, ◌+◌, ◌<◌, ◌≤◌, arith, length, map, List, ◌∷◌, [], ◌++◌, ◌∙◌, sym, vec_len, Option}
use Rattle.std.proofs.lemmas.List.{length-map}
use Rattle.cap_core.specs.Numbers.{word_bits}
use Rattle.query_reach.specs.Private.Search.{RowSpreads}
use Rattle.query_reach.proofs.Searched.{popped, popped_words, popped_width, popped_wide, bounded_more, search_more}
use Rattle.query_reach.proofs.search.search.Goals as goal

pub expand_row-requires-clause-width : goal.expand_row-requires-clause-width
expand_row-requires-clause-width g c =
    rw c.as_slice.ensures.value (popped_width (map (λ r. r.items) c.loop-alloc.rows.items) (map (λ r. r.items) c.pop.new.self.items) c.in-Some.row.items (length c.args.filled.now)
    (popped (λ r. r.items) c.loop-alloc.rows.items c.pop.new.self.items c.in-Some.row c.in-Some.ensures.items) c.loop-alloc.invariant.wide)

pub expand_row-requires-clause-wide : goal.expand_row-requires-clause-wide
expand_row-requires-clause-wide g c =
    popped_wide (map (λ r. r.items) c.loop-alloc.rows.items) (map (λ r. r.items) c.pop.new.self.items) c.in-Some.row.items (length c.args.filled.now)
    (popped (λ r. r.items) c.loop-alloc.rows.items c.pop.new.self.items c.in-Some.row c.in-Some.ensures.items) c.loop-alloc.invariant.wide

pub loop-alloc-preserved : goal.loop-alloc-preserved
loop-alloc-preserved g c =
    let old : List (List (Option ℕ)) = map (λ r. r.items) c.pop.new.self.items in
    let new : List (List (Option ℕ)) = map (λ r. r.items) c.expand_row.new.rows.items in
    let row : List (Option ℕ) = c.in-Some.row.items in
    let eq : map (λ r. r.items) c.loop-alloc.rows.items ≡ old ++ row ∷ [] = popped (λ r. r.items) c.loop-alloc.rows.items c.pop.new.self.items c.in-Some.row c.in-Some.ensures.items in
    let height : length old ≡ vec_len c.pop.new.self = rw length-map (omega (arith, c.pop.new.self.ok.0)) in
    let height' : length new ≡ vec_len c.expand_row.new.rows = rw length-map (omega (arith, c.expand_row.new.rows.ok.0)) in
    let fewer : vec_len c.pop.new.self + 1 ≡ vec_len c.loop-alloc.rows = search rules in
    let left : c.len-in-loop-alloc.result ≡ length old = c.len-in-loop-alloc.ensures ∙ sym height in
    let some : 0 < length old = omega (arith, height, fewer, c.loop-alloc-test.true) in
    let short : length old ≤ word_bits g.P.Profile.profile = omega (arith, height, fewer, c.loop-alloc.invariant.rows) in
    let spreads : RowSpreads g.P.Profile.profile row (length old) c.args.filled.now (length c.args.filled.now) old new = rw (c.as_slice.ensures.value, left) at c.in_ok-expand_row.ensures.spreads in
    record {
      some = omega (arith, some, height', c.in_ok-expand_row.ensures.shape.height);
      rows = omega (arith, short, height', c.in_ok-expand_row.ensures.shape.height);
      bounded = bounded_more g.P.Profile.profile c.args.filled.now old new row (length c.args.filled.now) c.requires.lawful short (rw eq at c.loop-alloc.invariant.bounded) spreads;
      wide = c.in_ok-expand_row.ensures.shape.wide;
      found = λ memory f thread all are was.
          search_more g.P.Profile.profile memory f thread c.args.filled.now old new row all are some (rw eq at (c.loop-alloc.invariant.found memory f thread all are was)) spreads;
    }

pub returns-clause-width : goal.returns-clause-width
returns-clause-width g c = elim (c.loop-alloc.invariant.wide 0) [ inl none ↦ omega (arith, none) | inr is ↦ omega (arith, is) ]

pub expand_row-requires-clause-words : goal.expand_row-requires-clause-words
expand_row-requires-clause-words g c =
    let old : List (List (Option ℕ)) = map (λ r. r.items) c.pop.new.self.items in
    let height : length old ≡ vec_len c.pop.new.self = rw length-map (omega (arith, c.pop.new.self.ok.0)) in
    let left : c.len-in-loop-alloc.result ≡ length old = c.len-in-loop-alloc.ensures ∙ sym height in
    rw (c.as_slice.ensures.value, left) (popped_words g.P.Profile.profile (map (λ r. r.items) c.loop-alloc.rows.items) old c.in-Some.row.items
    (popped (λ r. r.items) c.loop-alloc.rows.items c.pop.new.self.items c.in-Some.row c.in-Some.ensures.items) c.loop-alloc.invariant.bounded)
