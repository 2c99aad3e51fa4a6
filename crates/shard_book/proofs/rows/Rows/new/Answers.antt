-- Rows that were made one after another stand for no records.
use Rattle.std.proofs.Common.{◌≡◌, ◌↔◌, ℕ, ◌<◌, ◌/◌, ◌%◌, sym, subst, arith}
use Rattle.shard_book.specs.ShardRows.{ShardRows, AreRowsOf, Covers}
use Rattle.shard_book.proofs.Places.{empty-covers, empty-stands}
use Rattle.shard_book.proofs.rows.Rows.new.Goals.{In_ok-bits}
use Rattle.shard_book.proofs.rows.Rows.new.Goals as goal

-- the rows that are made
abbrev made : In_ok-bits → ShardRows
made c = record {
  shard = c.args.shard;
  shards = c.shards-shards.result;
  cards = c.cards-cards.result;
  rows = c.in_ok-rows.rows.items;
  bits = c.in_ok-bits.bits;
}

-- are those of the issuer's cards, and cover the shard's
covers : (c : In_ok-bits) → AreRowsOf c.args.issuer.now (made c) × Covers (made c)
covers c =
    let rows = made c in
    let of_issuer : AreRowsOf c.args.issuer.now rows = record { shards_are = c.shards-shards.ensures.count; cards_are = c.cards-cards.ensures.count } in
    let inside : rows.shard < rows.shards = omega (arith, c.requires, c.shards-shards.ensures.count) in
    let sets = subst (λ (count : ℕ). (number : ℕ) → number % rows.shards ≡ rows.shard → ((number < rows.cards) ↔ (number / rows.shards < count)))
    (sym c.in_ok-bits.ensures.cards) c.home_cards.ensures in
    (of_issuer, empty-covers c.args.issuer.now rows inside c.cards-cards.type_inv of_issuer c.in_ok-rows.ensures sets)

pub invariant_of-result : goal.invariant_of-result
invariant_of-result c = (covers (goal.at.invariant_of-result c).In_ok-bits).1

pub returns-clause-empty : goal.returns-clause-empty
returns-clause-empty c =
    let made_in = (goal.at.returns-clause-empty c).In_ok-bits in
    empty-stands c.args.issuer.now (made made_in) (covers made_in).1 (covers made_in).0 c.in_ok-rows.ensures c.in_ok-bits.ensures.empty
