use Rattle.std.proofs.Common.{◌≡◌, ◌+◌, ◌-◌, map, take, drop, replicate, length}
use Rattle.toml.specs.View.{view}
use Rattle.cap_core.specs.declared.limits.TheConstants.{MAX_MESSAGE_WORDS}
use Rattle.setup_values.specs.Kinds.{each, word}
use Rattle.setup_values.specs.Names.{names_view}
use Rattle.setup_values.proofs.Loops.{with_front}
use Rattle.setup_values.proofs.kinds.WordsKindKind.read.Given as goal

abbrev pub invariant-loop-i : goal.invariant-loop-i
invariant-loop-i g l = record {
  size : length l.words ≡ MAX_MESSAGE_WORDS;
  rest : drop l.i l.words ≡ replicate (MAX_MESSAGE_WORDS - l.i) 0;
  so_far : with_front (take l.i l.words) (each (λ _. word g.P.Profile.profile (names_view l.names)) (0 + l.i) (map view (drop l.i l.elements)))
      ≡ each (λ _. word g.P.Profile.profile (names_view l.names)) 0 (map view l.elements);
}
