-- A name more at the front of those that are behind: the table tells its word, and of other texts what it told.
use Rattle.std.proofs.Common.{◌≡◌, ℕ, ◌+◌, ◌-◌, ◌<◌, Option, Some, cond, drop, length, string_bytes, sym, ap, ◌∙◌, arith}
use Rattle.std.specs.Str.{bytes_eq}
use Rattle.std.specs.HashMap.{get_by}
use Rattle.std.proofs.lemmas.Map.Text.{hash_map_updates_str}
use Rattle.setup_values.specs.declared.names.Name.{Name}
use Rattle.setup_values.specs.Names.{names_view, word_named}
use Rattle.setup_values.proofs.LookUp.{one_more}
use Rattle.setup_values.proofs.names.words_of.Goals as goal

pub loop-behind-preserved : goal.loop-behind-preserved
loop-behind-preserved c = λ text.
    let names = c.args.names.now in
    let behind = c.loop-behind.behind in
    let name = c.index-names-names.result in
    let at = (length names - 1) - behind in
    let left : length names - behind ≡ at + 1 = omega (arith, c.loop-behind-test.true) in
    let now_left : at ≡ length names - (behind + 1) = omega (arith, c.loop-behind-test.true) in
    let within : at < length names = omega (arith, c.loop-behind-test.true) in
    let word : ℕ → Option ℕ = λ l. word_named (names_view (drop l names)) text in
    let front : Name → Option ℕ → Option ℕ = λ n rest. cond (bytes_eq (string_bytes n.text) text) (Some n.word) rest in
    hash_map_updates_str c.as_bytes.result.now c.loop-behind.words c.insert.new.self _ c.in_ok-insert.ensures.updates text
    ∙ (ap (λ bytes. cond (bytes_eq bytes text) (Some name.word) (get_by (λ k. bytes_eq text k.now) c.loop-behind.words)) c.as_bytes.ensures.value
    ∙ (ap (front name) (c.loop-behind.invariant text ∙ ap word left)
    ∙ (ap (λ n. front n (word (at + 1))) c.index-names-names.is
    ∙ (sym (one_more names at name text within) ∙ ap word now_left))))
