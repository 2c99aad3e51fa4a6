-- The keys so far are the key's, and the halves are rotated as far as so many rounds rotate them.
use Rattle.des_plain.proofs.PlainSteps.{MakesKeys}
use Rattle.des_plain.proofs.round_keys.Given as goal

abbrev pub invariant-loop-i : goal.invariant-loop-i
invariant-loop-i l = MakesKeys l.key l.i l.left l.right l.keys
