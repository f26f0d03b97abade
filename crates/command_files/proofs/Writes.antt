-- A write that failed.
use Rattle.std.proofs.Common.{◌≡◌, ℕ, List, Option, Result, Err, true, refl, sym, subst, inl}
use Rattle.command_core.specs.Devices.{TookFront}
use Rattle.command_core.specs.declared.fault.RunFault.{RunFault}
use Rattle.command_core.specs.declared.fault.Verdict.{Verdict}
use Rattle.command_core.specs.declared.fault.RunFault.TheVariants.{Writing, Memory}
use Rattle.command_core.specs.declared.sink.Sink.{Ghosts as SinkGhosts}
use Rattle.command_files.specs.Files.{Each, IsToldOf}
use Rattle.command_files.specs.declared.tally.Tally.{Tally}

no_memory : (A : Type 0) → ◌≡◌ {A = Result Tally RunFault} (Err Writing) (Err Memory) → A
no_memory A e = absurd cc

-- the sink took a front of the text
pub failed : {K : Type 0} (verdict : List ℕ → Verdict) (text : List (List ℕ) → List (Option (List ℕ)) → List ℕ) (Is : List ℕ → Option (List ℕ) → Type 0) (to : SinkGhosts K) (names : List (List ℕ))
    (old new : K) (result : Result Tally RunFault) (files : List (Option (List ℕ))) (out : List ℕ) → Each Is names files → out ≡ text names files → result ≡ Err Writing
    → to.failed new ≡ true → TookFront to.taken to.written old new out → IsToldOf verdict text Is to names old new result
failed verdict text Is to names old new result files out each written is marked front =
    subst (λ r. IsToldOf verdict text Is to names old new r) (sym is) (record {
      ok = tt;
      writing = λ w. marked;
      writing_front = λ w. (files, each, subst (λ t. TookFront to.taken to.written old new t) written front);
      sink_marked = λ m. refl;
      memory_keeps = λ m. no_memory _ m;
      faults = inl refl;
    })
