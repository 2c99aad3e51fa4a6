-- The mask of an ATC has exactly the ATC's bit of its word.
use Rattle.claim_words.proofs.ClaimBits.{mask_is}
use Rattle.claim_words.proofs.layout.claim_mask.Goals as goal

pub returns : goal.returns
returns c = mask_is c.args.counter
