-- Rounds go on until no line waits, or the sink fails.
use Rattle.std.proofs.Common.{◌≡◌, [], ◌++◌, map, refl, ◌∙◌, arith}
use Rattle.std.proofs.lemmas.List.{nil_from_length}
use Rattle.std.proofs.lemmas.Result.{err_from_is_err_and}
use Rattle.line_reader.specs.Reading.{kept}
use Rattle.shared_callers.specs.Lanes.{waiting_in}
use Rattle.line_serving.proofs.Durable.{owes-durable}
use Rattle.line_serving.specs.Hosts.{TakesMore}
use Rattle.line_serving.proofs.TogetherSteps.{none-waits, rounds-none, rounds-more, rounds-broken, rounds-end, on-ok, takes-more}
use Rattle.line_serving.proofs.together.write_together.Goals as goal

pub loop-block-init : goal.loop-block-init
loop-block-init g c = record {
  rounds = λ first lines text waiting so_far.
      rounds-none first c.args.host.now c.args.reader.now _ lines text waiting so_far c.requires.none_due;
  empty = (nil_from_length _ (omega (arith, c.args.block.now.fits, c.requires.no_lines)), c.requires.no_lines);
  read = omega arith;
  durable = owes-durable c.args.host.now c.requires.answered c.requires.answers [] c.requires.waiting c.requires.served;
  sink_stood = refl;
}

pub loop-block-preserved : goal.loop-block-preserved
loop-block-preserved g c = record {
  rounds = λ first lines text waiting so_far.
      let before = c.loop-block.invariant.rounds first lines text waiting so_far in
      rounds-more first c.loop-block.host c.answer_and_write.new.host c.args.reader.now c.loop-block.reader
      c.answer_and_write.new.reader _ _ _ lines text waiting before c.in_ok-answer_and_write.ensures.host
      (c.in_ok-answer_and_write.ensures.served before.answered before.answers before.due before.left before.served);
  empty = c.in_ok-answer_and_write.ensures.block;
  read = omega (arith, c.loop-block.invariant.read, c.in_ok-answer_and_write.ensures.reader);
  durable =
      let before = c.loop-block.invariant.durable in
      let round = c.in_ok-answer_and_write.ensures.served before.lines before.answers before.due before.waiting before.served in
      owes-durable c.answer_and_write.new.host (before.lines ++ before.waiting) (before.answers ++ round.more) round.more (map kept round.taken)
      round.served;
  sink_stood = c.in_ok-answer_and_write.ensures.faults.counted ∙ c.loop-block.invariant.sink_stood;
}

pub returns-in_err-answer_and_write-clause-written : goal.returns-in_err-answer_and_write-clause-written
returns-in_err-answer_and_write-clause-written g c = λ first lines text waiting so_far.
    let before = c.loop-block.invariant.rounds first lines text waiting so_far in
    let none = nil_from_length _ (omega (arith, c.args.block.now.fits, c.requires.no_lines)) in
    let fault = err_from_is_err_and c.from_residual.result c.from_residual.ensures.1 in
    rw fault.1
    (rounds-broken first c.loop-block.host c.answer_and_write.new.host c.args.reader.now c.loop-block.reader
    c.answer_and_write.new.reader _ _ _ lines text waiting before c.in_err-answer_and_write.ensures.host _ _ none
    (c.in_err-answer_and_write.ensures.served before.answered before.answers before.due before.left before.served))

pub returns-clause-written : goal.returns-clause-written
returns-clause-written g c = λ first lines text waiting so_far.
    let before = c.loop-block.invariant.rounds first lines text waiting so_far in
    let none = nil_from_length _ (omega (arith, c.args.block.now.fits, c.requires.no_lines)) in
    rounds-end first c.loop-block.host c.write_due.new.host c.args.reader.now c.loop-block.reader c.loop-block.reader
    _ _ _ lines text waiting before c.write_due.ensures.host _ _ none
    (none-waits c.loop-block.host before.answered before.answers before.due before.left before.served
    c.loop-block-test.ensures) refl
    (c.write_due.ensures.served before.answered before.answers before.due before.left before.served)

pub returns-clause-settled : goal.returns-clause-settled
returns-clause-settled g c =
    let before = c.loop-block.invariant.durable in
    let written = c.write_due.ensures.served before.lines before.answers before.due before.waiting before.served in
    let waits : waiting_in c.loop-block.host ≡ 0 = c.loop-block-test.ensures in
    let none = c.write_due.ensures.counts.1 ∙ waits in (
      none,
      on-ok (TakesMore c.write_due.new.host c.write_due.new.self.lines) c.write_due.result
          (takes-more c.write_due.new.host c.write_due.new.self.lines before.lines before.answers before.waiting written.0
          c.write_due.ensures.block.1 c.write_due.ensures.counts.0 none),
    )
