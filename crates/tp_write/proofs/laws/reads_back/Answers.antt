use Rattle.tp_write.proofs.ReadsBack.Whole.{written_reads_back}
use Rattle.tp_write.proofs.laws.reads_back.Goals as goal

pub returns : goal.returns
returns c = written_reads_back
