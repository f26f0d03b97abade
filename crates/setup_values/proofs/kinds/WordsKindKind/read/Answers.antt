use Rattle.std.proofs.Common.{◌≡◌, ℕ, ◌+◌, ◌<◌, ◌++◌, ◌∷◌, [], take, length, Ok, map, sym, ap, ◌∙◌, arith, slice_set}
use Rattle.std.proofs.lemmas.Result.{err_from_is_err_and}
use Rattle.std.proofs.lemmas.List.{take_more_set, length-set, drop_all}
use Rattle.toml.specs.View.{view}
use Rattle.cap_core.specs.declared.limits.TheConstants.{MAX_MESSAGE_WORDS}
use Rattle.cap_core.specs.Checks.{◌>>=◌}
use Rattle.setup_values.specs.Kinds.{word, each, filled}
use Rattle.setup_values.specs.Names.{names_view}
use Rattle.setup_values.proofs.Loops.{goes_on, ends, is_done, words_are}
use Rattle.setup_values.proofs.Padding.{rest_after, filled_is, words_record}
use Rattle.setup_values.proofs.kinds.WordsKindKind.read.Goals as goal

pub loop-i-preserved : goal.loop-i-preserved
loop-i-preserved g c =
    let i = c.loop-i.i in
    let read = word g.P.Profile.profile (names_view c.args.names.now) in
    let y = c.in_ok-words.field-0 in
    let xs = c.in_ok-elements.elements.now in
    let within : i < length c.loop-i.words = omega (arith, c.loop-i.invariant.size, c.in_ok-elements.ensures.length) in
    let next : take (i + 1) (slice_set c.loop-i.words i y) ≡ take i c.loop-i.words ++ y ∷ [] = take_more_set c.loop-i.words i y within in
    record {
      size = omega (arith, c.loop-i.invariant.size, length-set c.loop-i.words i y);
      rest = rest_after c.loop-i.words i MAX_MESSAGE_WORDS y within c.loop-i.invariant.rest;
      so_far = rw next (goes_on view (λ _. read) (take i c.loop-i.words) 0 i xs c.index-elements-i.result y (each (λ _. read) 0 (map view xs)) c.loop-i-test.true
          (ap (λ v. read (view v)) (sym c.index-elements-i.is) ∙ sym c.in_ok-words.ensures.means) c.loop-i.invariant.so_far);
    }

pub returns-in_err-words-clause-means : goal.returns-in_err-words-clause-means
returns-in_err-words-clause-means g c =
    let p = err_from_is_err_and c.from_residual-in_err-words.result c.from_residual-in_err-words.ensures.1 in
    let read = word g.P.Profile.profile (names_view c.args.names.now) in
    let xs = c.in_ok-elements.elements.now in
    let i = c.loop-i.i in
    let bad = ends view (λ _. read) (take i c.loop-i.words) 0 i xs c.index-elements-i.result c.in_err-words.field-0.0 (each (λ _. read) 0 (map view xs)) c.loop-i-test.true
    (ap (λ v. read (view v)) (sym c.index-elements-i.is) ∙ sym c.in_err-words.ensures.means) c.loop-i.invariant.so_far in
    rw (p.1, p.2) (sym (words_are g.P.Profile.profile (names_view c.args.names.now) (view c.args.value.now) (map view xs) c.in_ok-elements.ensures.elements ∙ ap (λ r. r >>= λ ws. Ok (filled ws)) bad))

pub returns-clause-means : goal.returns-clause-means
returns-clause-means g c =
    let read = word g.P.Profile.profile (names_view c.args.names.now) in
    let xs = c.in_ok-elements.elements.now in
    let i = c.loop-i.i in
    let all : i ≡ length xs = omega arith in
    let done = is_done view (λ _. read) (take i c.loop-i.words) 0 i xs (each (λ _. read) 0 (map view xs)) (drop_all i xs (omega arith)) c.loop-i.invariant.so_far in
    let is = words_are g.P.Profile.profile (names_view c.args.names.now) (view c.args.value.now) (map view xs) c.in_ok-elements.ensures.elements in
    let counted : filled (take i c.loop-i.words) ≡ words_record c.loop-i.words (length xs) =
    filled_is c.loop-i.words i (omega (arith, c.loop-i.invariant.size, c.in_ok-elements.ensures.length)) c.loop-i.invariant.rest ∙ ap (λ (n : ℕ). words_record c.loop-i.words n) all in
    sym (is ∙ (ap (λ r. r >>= λ ws. Ok (filled ws)) done ∙ ap Ok counted))
