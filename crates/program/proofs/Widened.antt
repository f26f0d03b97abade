-- A run by a meaning is a run by each meaning that holds wherever this one does; and it writes a text of that meaning.
use Rattle.std.proofs.Common.{List, ℕ, Result, Ok, Err}
use Rattle.std.specs.Prelude.{IfOk}
use Rattle.command_core.specs.Runs.{IsRun}
use Rattle.command_core.specs.declared.fault.Verdict.{Verdict}
use Rattle.command_core.specs.declared.fault.RunFault.{RunFault}
use Rattle.command_core.specs.declared.sink.Sink.{Ghosts as SinkGhosts}
use Rattle.command_core.specs.declared.source.Source.{Ghosts as SourceGhosts}
use Rattle.program.specs.Ends.{IsWriting}

pub if_ok : {A E : Type 0} (r : Result A E) (P Q : A → Type 0) → ((v : A) → P v → Q v) → IfOk r P → IfOk r Q
if_ok (Ok v) P Q f h = f v h
if_ok (Err e) P Q f h = tt

pub widened : {S K : Type 0} (A B : List ℕ → List ℕ → Verdict → Type 0) (from : SourceGhosts S) (to : SinkGhosts K) (a b : S) (d e : K) (r : Result Verdict RunFault)
    → ((i t : List ℕ) (v : Verdict) → A i t v → B i t v) → IsRun A from to a b d e r → IsRun B from to a b d e r
widened A B from to a b d e r f run = record {
  ok = if_ok r _ _ (λ v h. (h.0, h.1, h.2, h.3, f h.0 h.1 v h.4)) run.ok;
  end = run.end;
  short = run.short;
  reading = run.reading;
  reading_keeps = run.reading_keeps;
  source_marked = run.source_marked;
  writing = run.writing;
  writing_front = λ is. let h = run.writing_front is in (h.0, h.1, h.2, h.3, h.4, f h.0 h.1 h.2 h.5);
  sink_marked = run.sink_marked;
  memory_keeps = run.memory_keeps;
  thread_keeps = run.thread_keeps;
}

pub written : {S K : Type 0} (A : List ℕ → List ℕ → Verdict → Type 0) (B : List ℕ → Verdict → Type 0) (from : SourceGhosts S) (to : SinkGhosts K) (a b : S) (d e : K) (r : Result Verdict RunFault)
    → ((i t : List ℕ) (v : Verdict) → A i t v → B t v) → IsRun A from to a b d e r → IsWriting B to d e r
written A B from to a b d e r f run = record {
  ok = if_ok r _ _ (λ v h. (h.1, h.3, f h.0 h.1 v h.4)) run.ok;
  writing = run.writing;
  writing_front = λ is. let h = run.writing_front is in (h.1, h.2, h.4, f h.0 h.1 h.2 h.5);
  sink_marked = run.sink_marked;
  reading_keeps = run.reading_keeps;
  memory_keeps = run.memory_keeps;
  thread_keeps = run.thread_keeps;
}
