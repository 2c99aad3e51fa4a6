-- A line is read: what it is for, and what follows.
use Rattle.std.proofs.Common.{◌≡◌, ◌<◌, ℕ, Bool, List, [], ◌∷◌, length, length-append, Some, inl, inr, refl, subst, arith}
use Rattle.std.proofs.lemmas.Option.{slice_get_read}
use Rattle.std.specs.List.{slice_get}
use Rattle.issuer_base.specs.declared.entry.Entry.{Entry}
use Rattle.shard_book.specs.Shards.{places_in}
use Rattle.standby_node.specs.FeedLines.{IsFor}
use Rattle.standby_node.specs.Standing.{Hold}
use Rattle.standby_node.proofs.Shards.{history-at}
use Rattle.standby_node.proofs.line.read_line.Given.{Over}
use Rattle.standby_node.proofs.line.read_line.Goals.{After-index}
use Rattle.standby_node.proofs.line.read_line.Goals as goal

-- the shard that the line names
at : (g : Over) (c : After-index g) → slice_get c.args.shards.now.items c.in-Some.head.shard ≡ Some c.index.result.now
at g c =
    let within : c.from-2.result < length c.args.shards.now.items =
    omega (arith, c.if-head-from.false, c.from.ensures, c.shards.ensures.count, c.from-2.ensures, c.requires.count_is) in
    subst (λ (number : ℕ). slice_get c.args.shards.now.items number ≡ Some c.index.result.now) c.from-2.ensures
    (slice_get_read _ _ c.from-2.result _ refl within c.index.ensures)

pub returns-then-line-ge-MOST_FEED_BYTES-clause-read : goal.returns-then-line-ge-MOST_FEED_BYTES-clause-read
returns-then-line-ge-MOST_FEED_BYTES-clause-read g c in_doubt histories hold =
    let size = length-append c.args.line.now (10 ∷ []) in
    inl (omega (arith, size, c.if-line-ge-MOST_FEED_BYTES.true))

pub returns-in_default-clause-read : goal.returns-in_default-clause-read
returns-in_default-clause-read g c in_doubt histories hold = inr (inl c.in_default.ensures)

pub returns-then-head-from-clause-read : goal.returns-then-head-from-clause-read
returns-then-head-from-clause-read g c in_doubt histories hold =
    let count = hold.count_is in
    inr (inr (record {
      shard = c.in-Some.head.shard;
      place = c.in-Some.head.place;
      rest = c.in-Some.head.rest.now;
      head = c.in-Some.ensures;
      none = omega (arith, count, c.if-head-from.true, c.from.ensures, c.shards.ensures.count, c.requires.count_is);
    }))

-- it has this history, and as many records
found : (g : Over) (c : After-index g) → (in_doubt : ℕ → Bool) (histories : List (List Entry))
    → Hold c.args.issuer.now in_doubt c.args.shards.now.items histories
    → (history : List Entry)
    × IsFor histories c.args.line.now c.in-Some.head.shard c.in-Some.head.place c.in-Some.head.rest.now history
    × (places_in c.index.result.now ≡ length history)
found g c in_doubt histories hold =
    let its = history-at c.args.issuer.now c.args.shards.now.items in_doubt histories hold c.in-Some.head.shard c.index.result.now (at g c) in
    let size = length-append c.args.line.now (10 ∷ []) in (
      its.0,
      record { short = omega (arith, size, c.if-line-ge-MOST_FEED_BYTES.false); head = c.in-Some.ensures; history_is = its.1 },
      its.2,
    )

pub returns-then-head-places-clause-read : goal.returns-then-head-places-clause-read
returns-then-head-places-clause-read g c in_doubt histories hold =
    let its = found g (goal.at.returns-then-head-places-clause-read g c).After-index in_doubt histories hold in
    record {
      shard = c.in-Some.head.shard;
      place = c.in-Some.head.place;
      rest = c.in-Some.head.rest.now;
      history = its.0;
      is_for = its.1;
      behind = omega (arith, c.if-head-places.true, c.places.ensures.places, its.2);
    }

pub returns-in_default-read_entry-clause-read : goal.returns-in_default-read_entry-clause-read
returns-in_default-read_entry-clause-read g c in_doubt histories hold =
    let its = found g (goal.at.returns-in_default-read_entry-clause-read g c).After-index in_doubt histories hold in
    record {
      rest = c.in-Some.head.rest.now;
      history = its.0;
      is_for = its.1;
      rest_is = λ entry line_is. c.in_default-read_entry.not-Ok entry ((c.read_entry.ensures entry).1 line_is);
    }

pub returns-clause-read : goal.returns-clause-read
returns-clause-read g c in_doubt histories hold =
    let its = found g (goal.at.returns-clause-read g c).After-index in_doubt histories hold in
    record {
      rest = c.in-Some.head.rest.now;
      history = its.0;
      is_for = its.1;
      rest_is = (c.in-Ok.ensures c.in-Ok.entry).0 refl;
    }
