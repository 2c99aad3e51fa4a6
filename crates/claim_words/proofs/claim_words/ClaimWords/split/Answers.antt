-- A seat may always split off another, which holds nothing.
use Rattle.std.proofs.Common.{rules, arith}
use Rattle.claim_words.proofs.KeepsClaims.{splits_allowed}
use Rattle.claim_words.proofs.WordPlaces.{top-within}
use Rattle.claim_words.proofs.claim_words.ClaimWords.split.Goals as goal

pub split_seat-requires : goal.split_seat-requires
split_seat-requires c = (search rules, omega (arith, top-within c.args.self.now.table.shared.key.cards 0 c.args.self.now.some_card), splits_allowed _ _ _ c.args.seat.now.named)
