use Rattle.std.proofs.Common.{◌≡◌, map, not, Some, None, string_bytes, ap, ◌∙◌, rules}
use Rattle.setup_format.specs.Tables.{is_one_of, no_unknown}
use Rattle.setup_format.proofs.Grammar.Keys.{unknown_is}
use Rattle.setup_format.proofs.tables.Keys.known_only.Goals as goal

pub returns-in-None : goal.returns-in-None
returns-in-None g c =
    ap (no_unknown c.args.self.now.place) (unknown_is (λ key. not (is_one_of (map (λ k. k.now) c.args.known.now) key)) c.args.self.now.table.now.entries None c.in-None.ensures.ascending c.in-None.ensures.first)

pub returns-in_ok-clone-in-Some : goal.returns-in_ok-clone-in-Some
returns-in_ok-clone-in-Some g c =
    let same : string_bytes c.in-Some.key.now ≡ string_bytes c.in_ok-clone-in-Some.field-0 = search rules in
    ap (no_unknown c.args.self.now.place) (unknown_is (λ key. not (is_one_of (map (λ k. k.now) c.args.known.now) key)) c.args.self.now.table.now.entries (Some c.in-Some.key.now) c.in-Some.ensures.ascending c.in-Some.ensures.first)
    ∙ ap (λ t. no_unknown c.args.self.now.place (Some t)) same
