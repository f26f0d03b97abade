use Rattle.std.proofs.Common.{◌≡◌, ◌++◌, ◌∷◌, [], Ok, string_bytes, refl, sym, ap, ◌∙◌, rules}
use Rattle.std.proofs.lemmas.List.{map_push}
use Rattle.std.proofs.lemmas.Result.{err_from_is_err_and}
use Rattle.toml.specs.View.{view}
use Rattle.setup_values.specs.declared.names.Name.{Name}
use Rattle.setup_values.specs.Names.{names_view}
use Rattle.setup_values.specs.Kinds.{seen as seen_result, entry}
use Rattle.setup_format.specs.Tables.{at_key}
use Rattle.setup_format.proofs.Grammar.Entries.{Entry, seen, so_far, names_in_turn, one_more, at_fault, all_read, fails_at}
use Rattle.setup_format.proofs.tables.Keys.names_of.Goals as goal

pub loop-text-init : goal.loop-text-init
loop-text-init g c = rw (c.new-names.ensures.items, c.into_iter-text-iterator.ensures.into_iter_gives, c.iter-text-items.ensures.rest) refl

pub returns-in_err-word : goal.returns-in_err-word
returns-in_err-word g c =
    let p = g.P.Profile.profile in
    let e : Entry = (c.in-Some.text.now, c.in-Some.value.now) in
    let left = c.next.new.self in
    let front = names_view c.loop-text.names.items in
    let es = c.args.table.now.entries in
    let text : c.as_str.result.now ≡ string_bytes e.0 = search rules in
    let read : entry p (seen e) ≡ seen_result (λ n. (c.as_str.result.now, n)) c.named_word.result = ap (λ t. entry p (t, view e.1)) (sym text) ∙ sym c.named_word.ensures in
    let before : so_far p front (e ∷ left) ≡ so_far p [] es = ap (so_far p front) (sym c.in-Some.ensures.steps) ∙ c.loop-text.invariant in
    let error = err_from_is_err_and c.from_residual.result c.from_residual.ensures.1 in
    rw (error.1, error.2) (fails_at c.in_err-word.field-0.0 c.args.self.now.place c.args.key.now c.named_word.result _
    (λ w is. names_in_turn p es c.iter-text-items.ensures.ordered ∙ at_fault p front e left w (so_far p [] es) (read ∙ ap (seen_result (λ n. (c.as_str.result.now, n))) is) before) c.in_err-word.ensures.read)

pub loop-text-preserved : goal.loop-text-preserved
loop-text-preserved g c =
    let p = g.P.Profile.profile in
    let e : Entry = (c.in-Some.text.now, c.in-Some.value.now) in
    let left = c.next.new.self in
    let front = names_view c.loop-text.names.items in
    let es = c.args.table.now.entries in
    let text : c.as_str.result.now ≡ string_bytes e.0 = search rules in
    let is : c.named_word.result ≡ Ok c.in_ok-word.word = c.in_ok-word.ensures.same in
    let read : entry p (seen e) ≡ Ok (string_bytes e.0, c.in_ok-word.word) = ap (λ t. entry p (t, view e.1)) (sym text) ∙ (sym c.named_word.ensures ∙ rw (is, text) refl) in
    let name : Name = record { text = c.in_ok-text.text; word = c.in_ok-word.word } in
    let cloned : string_bytes c.in_ok-text.text ≡ string_bytes e.0 = c.in_ok-text.ensures.cases in
    let pushed : names_view c.push.new.self.items ≡ front ++ (string_bytes e.0, c.in_ok-word.word) ∷ [] =
    ap names_view c.in_ok-push.ensures.items ∙ (map_push _ c.loop-text.names.items name ∙ ap (λ t. front ++ (t, c.in_ok-word.word) ∷ []) cloned) in
    let before : so_far p front (e ∷ left) ≡ so_far p [] es = ap (so_far p front) (sym c.in-Some.ensures.steps) ∙ c.loop-text.invariant in
    rw pushed (one_more p front e left (string_bytes e.0, c.in_ok-word.word) (so_far p [] es) read before)

pub returns : goal.returns
returns g c =
    let p = g.P.Profile.profile in
    let front = names_view c.loop-text.names.items in
    let es = c.args.table.now.entries in
    let before : so_far p front [] ≡ so_far p [] es = ap (so_far p front) (sym c.in-None.ensures.steps.0) ∙ c.loop-text.invariant in
    ap (at_key c.args.self.now.place c.args.key.now) (names_in_turn p es c.iter-text-items.ensures.ordered ∙ all_read p front (so_far p [] es) before)
