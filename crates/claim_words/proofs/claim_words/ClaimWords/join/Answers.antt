-- A seat may always be joined with the claims of another.
use Rattle.std.proofs.Common.{rules, arith}
use Rattle.claim_words.proofs.KeepsClaims.{joins_allowed, no_slots}
use Rattle.claim_words.proofs.WordPlaces.{top-within}
use Rattle.claim_words.proofs.claim_words.ClaimWords.join.Goals as goal

pub join_seat-requires : goal.join_seat-requires
join_seat-requires c = (search rules, search rules, no_slots _ c.args.other.slotless, omega (arith, top-within c.args.self.now.table.shared.key.cards 0 c.args.self.now.some_card), joins_allowed _ _ _ _ _ c.args.seat.now.named)
