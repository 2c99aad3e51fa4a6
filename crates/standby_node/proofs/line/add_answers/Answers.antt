-- A line and what was looked up for it stand at the same index.
use Rattle.std.proofs.Common.{ℕ, List, Result, arith, ap, get_or, length, subst, sym, ◌∙◌}
use Rattle.std.proofs.lemmas.Slice.Zip.{AllZip-long}
use Rattle.arpc_methods.specs.Batch.{Batch, answers_at}
use Rattle.arpc_methods.proofs.Counted.{answers-none, counts-more, length-with_answer}
use Rattle.issuer_base.specs.declared.answer.Refusal.{Refusal}
use Rattle.line_checks.specs.declared.looked_up.LookedUp.{LookedUp}
use Rattle.line_checks.proofs.Again.{zip-at}
use Rattle.standby_node.specs.declared.line.ReadLine.{ReadLine}
use Rattle.standby_node.specs.ReadLines.{IsReady, answer_of_line}
use Rattle.standby_node.proofs.line.add_answers.Goals as goal

pub bounds-found-i : goal.bounds-found-i
bounds-found-i c = omega (arith, AllZip-long (IsReady c.args.issuer.now) c.args.lines.now c.args.found.now c.requires.ready)

pub add_answer_of-requires-clause-line : goal.add_answer_of-requires-clause-line
add_answer_of-requires-clause-line c =
    let issuer = c.args.issuer.now in
    let lines : List ReadLine = c.args.lines.now in
    let all : List (Result LookedUp Refusal) = c.args.found.now in
    let i : ℕ = c.loop-i.i in
    let line : ReadLine = c.index-lines-i.result in
    let found : Result LookedUp Refusal = c.index-found-i.result in
    subst (IsReady issuer line) (sym c.index-found-i.is)
    (subst (λ (line : ReadLine). IsReady issuer line (get_or all i found)) (sym c.index-lines-i.is)
    (zip-at (IsReady issuer) lines all i line found c.requires.ready (omega arith)))

pub loop-i-preserved : goal.loop-i-preserved
loop-i-preserved c =
    let issuer = c.args.issuer.now in
    let lines : List ReadLine = c.args.lines.now in
    let all : List (Result LookedUp Refusal) = c.args.found.now in
    let i : ℕ = c.loop-i.i in
    let line : ReadLine = c.index-lines-i.result in
    let found : Result LookedUp Refusal = c.index-found-i.result in
    let long = AllZip-long (IsReady issuer) lines all c.requires.ready in
    let longer = ap (λ (batch : Batch). length batch.answers) c.add_answer_of.ensures ∙ length-with_answer (answer_of_line issuer line found) c.loop-i.batch in
    record {
      all = omega (arith, longer, c.loop-i.invariant.all);
      count =
          counts-more (answer_of_line issuer) lines all i line found c.loop-i.batch c.add_answer_of.new.batch
          (answers_at (answer_of_line issuer) lines all) (omega arith) (omega (arith, long)) c.index-lines-i.is c.index-found-i.is
          c.add_answer_of.ensures c.loop-i.invariant.count;
    }

pub returns-clause-count : goal.returns-clause-count
returns-clause-count c =
    let none = answers-none (answer_of_line c.args.issuer.now) c.args.lines.now c.args.found.now c.loop-i.i (omega arith) in
    omega (arith, none, c.loop-i.invariant.count)
