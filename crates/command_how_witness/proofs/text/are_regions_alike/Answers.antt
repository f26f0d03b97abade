-- Equal regions have the same base and the same bits, so equal lists of them are the same.
use Rattle.std.proofs.Common.{◌≡◌, ℕ, ◌==◌, ◌&&◌, Bool, true, false, ap, ap₂, refl}
use Rattle.std.specs.Bool.{Decides}
use Rattle.std.proofs.lemmas.Bool.Decides.{Decides-eqb}
use Rattle.std.proofs.lemmas.Slice.Eq.{slice_eq-Decides}
use Rattle.command_how_witness.proofs.text.are_regions_alike.Goals as goal

both : (b c : Bool) → (b && c) ≡ true → (b ≡ true) × (c ≡ true)
both true c h = (refl, h)
both false c h = cc

same : (a b : ℕ × ℕ) → Decides (a.0 == b.0 && a.1 == b.1) (a ≡ b)
same a b = (
  λ h. let t = both (a.0 == b.0) (a.1 == b.1) h in let x = (Decides-eqb a.0 b.0).0 t.0 in let y = (Decides-eqb a.1 b.1).0 t.1 in λ i. (x i, y i),
  λ e. ap₂ (λ c d. c && d) ((Decides-eqb a.0 b.0).1 (ap (λ (p : ℕ × ℕ). p.0) e)) ((Decides-eqb a.1 b.1).1 (ap (λ (p : ℕ × ℕ). p.1) e)),
)

pub returns : goal.returns
returns c = λ is. (slice_eq-Decides same c.args.some.now c.args.others.now c.eq.result c.eq.ensures).0 is
