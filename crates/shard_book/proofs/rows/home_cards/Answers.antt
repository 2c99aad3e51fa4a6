-- The numbers of a shard's cards are counted.
use Rattle.std.proofs.Common.{◌≡◌, ◌↔◌, ℕ, ◌+◌, ◌-◌, ◌/◌, ◌<◌, ap, sym, ◌∙◌, subst}
use Rattle.shard_book.proofs.Places.{home-count}
use Rattle.shard_book.proofs.rows.home_cards.Goals as goal

pub returns : goal.returns
returns c number home =
    let cards = c.args.cards in
    let count : (cards + c.from.result - 1 - c.from-2.result) / c.from-3.result ≡ (cards + c.args.shards - 1 - c.args.shard) / c.args.shards =
    ap (λ (n : ℕ). (cards + n - 1 - c.from-2.result) / c.from-3.result) c.from.ensures
    ∙ ap (λ (n : ℕ). (cards + c.args.shards - 1 - n) / c.from-3.result) c.from-2.ensures
    ∙ ap (λ (n : ℕ). (cards + c.args.shards - 1 - c.args.shard) / n) c.from-3.ensures in
    subst (λ (n : ℕ). (number < cards) ↔ (number / c.args.shards < n)) (sym count)
    (home-count cards c.args.shards c.args.shard number c.requires.inside home)
