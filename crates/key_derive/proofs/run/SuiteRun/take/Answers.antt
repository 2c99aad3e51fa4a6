use Rattle.std.proofs.Common.{take, ap, ◌∙◌}
use Rattle.key_derive.proofs.Suites.{triple-taken, aes-taken, triple-again, aes-again}
use Rattle.key_derive.proofs.run.SuiteRun.take.Goals as goal

pub returns-in-TripleDes-clause-mac : goal.returns-in-TripleDes-clause-mac
returns-in-TripleDes-clause-mac c = rw (c.in-TripleDes.is) (triple-taken c.in-TripleDes.run' c.take.result c.take.ensures.mac)

pub returns-in-TripleDes-clause-again : goal.returns-in-TripleDes-clause-again
returns-in-TripleDes-clause-again c = rw (c.in-TripleDes.is) (triple-again c.in-TripleDes.run' c.take.new.self c.take.ensures.again)

pub returns-in-Aes-clause-mac : goal.returns-in-Aes-clause-mac
returns-in-Aes-clause-mac c =
    rw (c.in-Aes.is)
    (aes-taken c.in-Aes.run' c.first_half.result
    (λ key text is. c.first_half.ensures ∙ ap (take 8) (c.take-in-Aes.ensures.mac key text is)))

pub returns-in-Aes-clause-again : goal.returns-in-Aes-clause-again
returns-in-Aes-clause-again c = rw (c.in-Aes.is) (aes-again c.in-Aes.run' c.take-in-Aes.new.self c.take-in-Aes.ensures.again)
