-- One more part was replayed.
use Rattle.std.proofs.Common.{◌≡◌, refl, sym, subst, ◌∙◌, arith, Option, IfSome, List, ℕ, length, take, drop, false}
use Rattle.shard_book.proofs.BothStores.{reads-nothing, reads-on}
use Rattle.journal_rec.specs.RecordText.{IsUnbroken}
use Rattle.shard_book.proofs.Loaded.{front-step, stops-step, rest-none}
use Rattle.shard_book.specs.Loading.{IsWithin}
use Rattle.shard_book.proofs.rows.Rows.adopt_parts.Goals as goal

pub parts-init : goal.parts-init
parts-init g c = record {
  rows = c.requires.rows;
  same = record { shard_is = refl; shards_are = refl; cards_are = refl };
  within = c.requires.within;
  front = λ first front. front;
  read = reads-nothing g.S.Store _;
}

pub returns-then-more-taken-clause-read : goal.returns-then-more-taken-clause-read
returns-then-more-taken-clause-read g c = reads-on g.S.Store false _ _ _ c.parts.invariant.read c.in-Ok.ensures.read

pub returns-in-Err-clause-read : goal.returns-in-Err-clause-read
returns-in-Err-clause-read g c = reads-on g.S.Store _ _ _ _ c.parts.invariant.read c.in-Err.ensures.read

pub parts-preserved : goal.parts-preserved
parts-preserved g c =
    let before = c.parts.invariant in
    let one = c.adopt_part.ensures.same in
    record {
      rows = record { shards_are = one.shards_are ∙ before.rows.shards_are; cards_are = one.cards_are ∙ before.rows.cards_are };
      same = record {
        shard_is = one.shard_is ∙ before.same.shard_is;
        shards_are = one.shards_are ∙ before.same.shards_are;
        cards_are = one.cards_are ∙ before.same.cards_are;
      };
      within =
          subst (λ (size : ℕ). IsWithin c.in-Ok.more size) (let same : g.S.Store.size c.parts.store ≡ g.S.Store.size c.adopt_part.new.store =
          sym c.in-Ok.ensures.read.only.size_is in same) c.in-Ok.ensures.within.1;
      front = λ first reads.
          front-step c.args.version c.args.issuer.now c.args.self.now.shard c.parts.self.shard first _ _ c.parts.self c.adopt_part.new.self c.parts.taken
          c.in-Ok.more before.same.shard_is before.read.only.bytes_are (c.in-Ok.ensures.front first) (before.front first reads);
      read = reads-on g.S.Store false _ _ _ before.read c.in-Ok.ensures.read;
    }

pub returns-clause-end : goal.returns-clause-end
returns-clause-end g c =
    subst (λ (bytes : Option (List ℕ)). IfSome bytes (λ text. IsUnbroken (take (length c.args.buffer.now) (drop c.parts.taken.bytes text))))
    c.parts.invariant.read.only.bytes_are
    (rest-none _ c.parts.taken.bytes (length c.args.buffer.now) (g.S.Store.size c.parts.store) (g.met.S.Store.told_size c.parts.store)
    (omega (arith, c.parts-test.false, c.len.ensures.size)))

pub returns-in-Err-clause-front : goal.returns-in-Err-clause-front
returns-in-Err-clause-front g c first reads =
    let before = c.parts.invariant in
    stops-step c.args.version c.args.issuer.now c.args.self.now.shard c.parts.self.shard first _ _ c.parts.self c.parts.taken c.in-Err.fault
    before.same.shard_is before.read.only.bytes_are (c.in-Err.ensures.front first) (before.front first reads)
