-- The proof of `read_below`: nothing is read at first, and a loop that ends has read as many bytes as the limit.
use Rattle.std.proofs.Common.{◌≡◌, ℕ, ◌+◌, List, length, inr, refl, sym, ap, subst, ◌∙◌, arith}
use Rattle.std.specs.Io.KnownBytes.{Consumes}
use Rattle.command_core.proofs.Progress.{Consumes-refl, Consumes-least}
use Rattle.command_core.proofs.streams.read_below.Goals as goal

pub loop-piece-init : goal.loop-piece-init
loop-piece-init g c =
    let none = c.new-bytes.ensures.items in
    record {
      consumes = subst (λ (bytes : List ℕ). Consumes (g.S.Source.left c.args.source.now) (g.S.Source.left c.args.source.now) bytes) (sym none) (Consumes-refl (g.S.Source.left c.args.source.now));
      given = omega (arith, ap length none);
      within = omega (arith, ap length none);
      failed = refl;
    }

pub returns : goal.returns
returns g c =
    let many : length c.loop-piece.bytes.items ≡ c.args.limit = omega arith in
    record {
      all = tt;
      end = tt;
      short = tt;
      reading = λ is. inr (
        c.loop-piece.invariant.given ∙ ap (λ (n : ℕ). g.S.Source.given c.args.source.now + n) many,
        Consumes-least c.args.limit (g.S.Source.left c.args.source.now) (g.S.Source.left c.loop-piece.source) c.loop-piece.bytes.items (omega arith) c.loop-piece.invariant.consumes,
      );
      marked = λ failed. refl;
      never_writing = λ is. cc;
      never_thread = λ is. cc;
    }
