use Rattle.key_derive.proofs.Suites.{triple-more, aes-more}
use Rattle.key_derive.proofs.run.SuiteRun.update.Goals as goal

pub returns-in-TripleDes : goal.returns-in-TripleDes
returns-in-TripleDes c = rw (c.in-TripleDes.is) (triple-more c.in-TripleDes.run' c.update.new.self c.args.piece.now c.update.ensures)

pub returns-in-Aes : goal.returns-in-Aes
returns-in-Aes c = rw (c.in-Aes.is) (aes-more c.in-Aes.run' c.update-in-Aes.new.self c.args.piece.now c.update-in-Aes.ensures)
