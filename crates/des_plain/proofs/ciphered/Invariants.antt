-- The halves are those after as many rounds as keys so far.
use Rattle.des_plain.proofs.PlainSteps.{Ciphers}
use Rattle.des_plain.proofs.ciphered.Given as goal

abbrev pub invariant-loop-key : goal.invariant-loop-key
invariant-loop-key l = Ciphers l.keys l.initial.left l.initial.right l.key-index l.left l.right
