-- The last seat is whole, so what it knows of claims and tops is all that the words hold.
use Rattle.claim_words.proofs.KeepsClaims.{whole_found, whole_tops, whole_once}
use Rattle.claim_words.proofs.claim_words.ClaimWords.close.Goals as goal

pub returns-clause-found : goal.returns-clause-found
returns-clause-found c = let last = c.close_with.ensures.values.2 in whole_found _ last.0 last.1.0 _ _ last.1.1 c.requires.whole

pub returns-clause-tops : goal.returns-clause-tops
returns-clause-tops c = let last = c.close_with.ensures.values.2 in whole_tops _ last.0 last.1.0 _ _ last.1.1 c.requires.whole

pub returns-clause-once : goal.returns-clause-once
returns-clause-once c = let last = c.close_with.ensures.values.2 in whole_once _ last.0 last.1.0 _ _ last.1.1 c.requires.whole
