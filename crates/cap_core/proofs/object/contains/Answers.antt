use Rattle.std.proofs.Common.{rules, arith, ◌≡◌, ◌<◌, ◌≤◌, ◌-◌, ◌^◌, sym, inl, inr, ◌∙◌}
use Rattle.std.proofs.Math.Pow.{pow-lt}
use Rattle.std.proofs.Math.Nat.{pow-le-pow_right}
use Rattle.std.proofs.lemmas.Bool.{cases_lt, lt-ltb, le-ltb}
use Rattle.cap_core.proofs.Ranges.{starts_before, ends_after, lies_within, wide_range}
use Rattle.cap_core.proofs.object.contains.Goals as goal
use Rattle.cap_core.proofs.object.contains.Goals.{then-b-a-via-then-b-a, then-b-a-via-else-b-a+then-b-a-2}

pub returns-then-b-a : goal.returns-then-b-a
returns-then-b-a c =
    elim c.then-b-a.branch [
      | then-b-a-via-then-b-a w ↦ sym (starts_before _ _ c.args.a.bits c.args.b.bits w.if-b-a.true)
      | then-b-a-via-else-b-a+then-b-a-2 w ↦
          let more : 2 ^ c.args.a.bits < 2 ^ c.args.b.bits = pow-lt w.if-b-a-2.true in
          sym (ends_after _ _ c.args.a.bits c.args.b.bits (omega (arith, w.if-b-a.false)) (omega (arith, w.if-b-a.false)))
    ]

pub returns-then-offset-eq0 : goal.returns-then-offset-eq0
returns-then-offset-eq0 c =
    let most : 2 ^ c.args.b.bits ≤ 2 ^ c.args.a.bits = pow-le-pow_right {n = 2} (omega arith) {i = c.args.b.bits} {j = c.args.a.bits} (omega (arith, c.if-b-a-2.false)) in
    rw c.if-offset-eq0.true
    (sym (lies_within _ _ c.args.a.bits c.args.b.bits (omega (arith, c.if-b-a.false)) (omega (arith, c.if-b-a.false, c.if-offset-eq0.true))))

pub returns-else-offset-eq0 : goal.returns-else-offset-eq0
returns-else-offset-eq0 c =
    elim (cases_lt c.args.b.bits c.args.a.bits) [
      | inl smaller ↦
          let room = wide_range c.args.b.bits c.args.a.bits (c.args.b.first - c.args.a.first) smaller c.if-a.true (search rules) in
          lt-ltb _ _ smaller ∙
          (sym (lies_within _ _ c.args.a.bits c.args.b.bits (omega (arith, c.if-b-a.false)) (omega (arith, c.if-b-a.false))))
      | inr most ↦
          let same : c.args.b.bits ≡ c.args.a.bits = omega (arith, c.if-b-a-2.false) in
          le-ltb _ _ most ∙ rw same
          (sym (ends_after _ _ c.args.a.bits c.args.a.bits (omega (arith, c.if-b-a.false)) (omega (arith, c.if-b-a.false, c.if-offset-eq0.false))))
    ]
