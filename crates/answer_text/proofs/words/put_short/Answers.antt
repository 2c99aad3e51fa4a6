-- A number of one, two or three digits.
use Rattle.std.proofs.Common.{arith}
use Rattle.std.proofs.lemmas.Fmt.{decimal_digit}
use Rattle.std.proofs.lemmas.Grind.{common_steps}
use Rattle.answer_text.proofs.Numbers.{decimal-two, decimal-three}
use Rattle.answer_text.proofs.words.put_short.Goals.{then-number-ge100, else-number-ge100, then-number-ge10, else-number-ge10}
use Rattle.answer_text.proofs.words.put_short.Goals as goal

pub returns-clause-text : goal.returns-clause-text
returns-clause-text c = elim c.if-number-ge100.branch [
  | then-number-ge100 w ↦ elim c.if-number-ge10.branch [
    | then-number-ge10 v ↦
        let digits = decimal-three c.args.number (omega arith) (omega (arith, c.requires.short)) in
        grind (arith, common_steps)
    | else-number-ge10 v ↦ absurd (omega arith)
  ]
  | else-number-ge100 w ↦ elim c.if-number-ge10.branch [
    | then-number-ge10 v ↦
        let digits = decimal-two c.args.number (omega arith) (omega arith) in
        grind (arith, common_steps)
    | else-number-ge10 v ↦
        let digits = decimal_digit c.args.number (omega arith) in
        grind (arith, common_steps)
  ]
]
