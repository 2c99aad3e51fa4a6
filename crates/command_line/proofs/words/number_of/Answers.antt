-- A word that is refused says no number below 2^32.
use Rattle.std.proofs.Common.{◌≡◌, Ok, sym, ap, ◌∙◌, rules, arith}
use Rattle.std.specs.Fmt.{decimal}
use Rattle.std.proofs.lemmas.Fmt.{parse-decimal}
use Rattle.command_line.proofs.words.number_of.Goals as goal

pub returns-in_default : goal.returns-in_default
returns-in_default c = λ number below is.
    let read : c.parse.result ≡ Ok number = parse-decimal 32 number c.args.word.now c.parse.result below
    (omega (arith, below)) is c.parse.ensures.value.0 in
    search (rules, read)

pub returns-else-eq : goal.returns-else-eq
returns-else-eq c = λ number below is.
    let read : c.parse.result ≡ Ok number = parse-decimal 32 number c.args.word.now c.parse.result below
    (omega (arith, below)) is c.parse.ensures.value.0 in
    let same : c.in-Ok.number ≡ number = (let other = c.in-Ok.is in cc) in
    let text : c.format.result.now ≡ c.args.word.now = c.format.ensures.text ∙ ap decimal same ∙ sym is in
    search (rules, text)
