-- The end is that of the run over a sink to which nothing was written.
use Rattle.program.proofs.host.run_texts.Goals as goal

pub returns : goal.returns
returns g c = (
  c.run_words-ended.result,
  c.new-sink.result,
  c.run_words-ended.new.sink,
  c.new-sink.ensures.written,
  c.new-sink.ensures.failed,
  c.run_words-ended.ensures,
  c.status.ensures,
)
