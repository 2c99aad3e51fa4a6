-- The check is closed at the end of the input, and ends short otherwise.
use Rattle.line_serving.proofs.Judged.{clears-front, clears-short, clears-whole}
use Rattle.line_serving.proofs.judge.Judge.clear.Goals as goal

pub returns-in-Ok-clause-cleared : goal.returns-in-Ok-clause-cleared
returns-in-Ok-clause-cleared g c =
    clears-whole _ _ _ _ _ _ _ _ _ c.in-All.ensures.served c.in-Ok.ensures.written

pub returns-in-Err-clause-cleared : goal.returns-in-Err-clause-cleared
returns-in-Err-clause-cleared g c =
    clears-front _ _ _ _ _ _ _ _ _ c.in-All.ensures.served c.in-Err.ensures.written

pub returns-in_default : goal.returns-in_default
returns-in_default g c = record {
  cleared = clears-short _ _ _ _ _ _ _ _ c.judge_lines.result c.in_default.not-All c.judge_lines.ensures.served;
  source_count = c.judge_lines.ensures.source_count;
  sink_count = c.judge_lines.ensures.sink_count;
}
