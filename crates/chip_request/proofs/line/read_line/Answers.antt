-- A line is parsed as what it says, and as nothing else.
use Rattle.std.proofs.Common.{◌≡◌, ℕ, List, Result, Ok, Err, sym, ap, ◌∙◌, subst}
use Rattle.std.proofs.lemmas.Result.{err_from_is_err_and}
use Rattle.chip_request.specs.declared.line.LineKind.{LineKind}
use Rattle.chip_request.specs.Lines.{ReadsAs}
use Rattle.chip_request.specs.LineParts.{line_of}
use Rattle.chip_request.proofs.LineLaws.{line_reads, reads_once}
use Rattle.chip_request.proofs.line.read_line.Goals as goal

reads_so : (line : List ℕ) (answer : Result LineKind ℕ) → answer ≡ line_of line → ReadsAs line answer
reads_so line answer same = subst (ReadsAs line) (sym same) (line_reads line)

only_so : (line : List ℕ) (answer : Result LineKind ℕ) → answer ≡ line_of line → (other : Result LineKind ℕ) → ReadsAs line other → other ≡ answer
only_so line answer same other also = reads_once line other answer also (reads_so line answer same)

pub returns-in_err-form-clause-reads : goal.returns-in_err-form-clause-reads
returns-in_err-form-clause-reads c =
    let p = err_from_is_err_and c.from_residual.result c.from_residual.ensures.1 in
    reads_so c.args.line.now c.from_residual.result (p.1 ∙ ap Err p.2 ∙ c.in_err-form.ensures.same)

pub returns-in_err-form-clause-only : goal.returns-in_err-form-clause-only
returns-in_err-form-clause-only c =
    let p = err_from_is_err_and c.from_residual.result c.from_residual.ensures.1 in
    only_so c.args.line.now c.from_residual.result (p.1 ∙ ap Err p.2 ∙ c.in_err-form.ensures.same)

pub returns-clause-reads : goal.returns-clause-reads
returns-clause-reads c = reads_so c.args.line.now (Ok c.kind_of.result) (ap Ok c.kind_of.ensures ∙ c.in_ok-form.ensures.same)

pub returns-clause-only : goal.returns-clause-only
returns-clause-only c = only_so c.args.line.now (Ok c.kind_of.result) (ap Ok c.kind_of.ensures ∙ c.in_ok-form.ensures.same)
