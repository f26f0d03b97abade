use Rattle.std.proofs.Common.{◌≡◌, ℕ, ◌+◌, ◌*◌, ◌^◌, ◌<◌, ◌≤◌, ◌++◌, pos, string_bytes, sym, ap, ◌∙◌, arith, w64}
use Rattle.std.proofs.Math.Nat.{mul-le-mul_left}
use Rattle.std.proofs.lemmas.Int.{to_z_pos}
use Rattle.std.specs.Fmt.{decimal}
use Rattle.toml.specs.Data.{integer}
use Rattle.toml.specs.View.{view, members_view}
use Rattle.setup_migrate.specs.Migration.{with_member}
use Rattle.setup_migrate.proofs.Law.Names.{numbered-more}
use Rattle.setup_migrate.proofs.names.add_names.Goals as goal

pub loop-i-preserved : goal.loop-i-preserved
loop-i-preserved c =
    let prefix = c.args.prefix.now in
    let first = c.args.first in
    let step = c.args.step in
    let i = c.loop-i.i-counter in
    let word = λ (k : ℕ). first + step * k in
    let members = members_view c.loop-i.names.entries in
    let name : string_bytes c.in_ok-name.name ≡ prefix ++ decimal i = c.in_ok-name.ensures.ok in
    let before : step * c.from.result ≤ step * c.args.count = mul-le-mul_left step (omega arith) in
    let small : first + step * c.from.result < 2 ^ 63 = omega arith in
    let value : view c.from-in-loop-i.result ≡ integer (pos (word i)) =
    c.from-in-loop-i.ensures ∙ ap integer (to_z_pos w64 (first + step * c.from.result) small ∙ ap (λ n. pos (first + step * n)) c.from.ensures) in
    record {
      named =
          c.in_ok-put.ensures
          ∙ (ap (λ k. with_member k (view c.from-in-loop-i.result) members) name
          ∙ (ap (λ d. with_member (prefix ++ decimal i) d members) value
          ∙ (ap (with_member (prefix ++ decimal i) (integer (pos (word i)))) c.loop-i.invariant.named
          ∙ sym (numbered-more prefix word i (members_view c.args.names.now.entries)))));
    }
