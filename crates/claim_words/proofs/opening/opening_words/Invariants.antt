-- The words are the initial ones for the recorded ATCs so far.
use Rattle.std.proofs.Common.{take}
use Rattle.claim_words.specs.Opening.{AreOpening}
use Rattle.claim_words.proofs.opening.opening_words.Given as goal

abbrev pub invariant-loop-card : goal.invariant-loop-card
invariant-loop-card l = AreOpening l.cards (take l.card-index l.recorded) l.words.items
