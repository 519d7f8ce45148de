use Rattle.fast_run.proofs.runs.Run.feed.Goals as goal

pub returns-clause-fed : goal.returns-clause-fed
returns-clause-fed g c text b es so taken = record {
  bytes = c.bytes_of-bytes.result.now;
  taken = c.bytes_of-bytes.ensures.taken text b taken;
  few = c.bytes_of-bytes.ensures.few;
  carried = c.feed.ensures.carried b es so;
}
