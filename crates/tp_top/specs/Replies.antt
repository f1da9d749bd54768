-- What a reply and the end of a run stand for.
use Rattle.std.specs.Prelude.{ℕ, List, string_bytes}
use Rattle.tp_engine.specs.declared.run.Ended.{Ended}
use Rattle.tp_top.specs.declared.report.Reply.{Reply}
use Rattle.tp_top.specs.declared.report.Wording.{Wording}
use Rattle.tp_top.specs.declared.report.Wording.TheVariants.{Fixed, Made}
use Rattle.tp_top.specs.Report.{Counts}
use Rattle.tp_top.specs.Expected.{Answer, alone}

-- the bytes of a text
abbrev pub bytes_of : Wording → List ℕ
bytes_of (Fixed text) = text.now
bytes_of (Made text) = string_bytes text

-- the status and the bytes of a reply, which prints no answer
abbrev pub view_of : Reply → Answer
view_of reply = alone reply.status (bytes_of reply.text)

-- the counts of a search that ended
abbrev pub counts_in : Ended → Counts
counts_in e = record {
  steps = e.steps;
  found = e.found;
  failed = e.failed;
  deadlock = e.deadlock;
  late = e.late;
}
