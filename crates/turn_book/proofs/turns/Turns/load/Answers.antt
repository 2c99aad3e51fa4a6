-- The invariant holds of a table with these values and opening logs, and a failed load returns the values.
use Rattle.std.proofs.Common.{arith, ◌≡◌, ◌*◌, length, map, Some, All, IsSome, ap, ◌∙◌, sym, subst}
use Rattle.std.proofs.lemmas.List.{length-map}
use Rattle.turn_book.specs.declared.layout.TheConstants.{SHARD_WORDS}
use Rattle.turn_book.proofs.BeginsAndEnds.{opening_holds, counts-length, stand-length}
use Rattle.turn_book.proofs.ValueLemmas.{all_some, same_values}
use Rattle.turn_book.proofs.turns.Turns.load.Goals as goal

pub take_ground-requires : goal.take_ground-requires
take_ground-requires g c =
    let long : length c.args.counts.now ≡ length c.args.values.items = ap length c.requires.counts ∙ counts-length g.J.OpeningLogs.opening
    ∙ sym (stand-length g.V.Logged.stands c.args.values.items g.J.OpeningLogs.opening c.requires.values) in
    (c.requires.shards.1, omega (arith, long, c.args.values.ok))

pub new-requires : goal.new-requires
new-requires g c =
    rw (c.in-Ok.ensures.key, c.as_slice.ensures.value)
    (opening_holds g.V.Logged.stands g.J.OpeningLogs.opening c.args.counts.now c.in-Ok.ground.words.items c.args.values.items c.fill_slots.new.slots.items
    c.requires.counts c.in-Ok.ensures.words c.requires.values (c.fill_slots.ensures.slots ∙ ap (map Some) c.take_ground.ensures.values))

pub invariant_of-turns : goal.invariant_of-turns
invariant_of-turns g c =
    let made = c.in-Ok-new.ensures.ok in
    let key : c.in-Ok-new.table.shared.key.view ≡ g.J.OpeningLogs.opening = ap (λ k. k.view) made.5 ∙ c.in-Ok.ensures.key in
    let long : length c.args.values.items ≡ length c.in-Ok-new.table.shared.key.view =
    stand-length g.V.Logged.stands c.args.values.items g.J.OpeningLogs.opening c.requires.values ∙ sym (ap length key) in
    let counts : length c.args.counts.now ≡ length c.in-Ok-new.table.shared.key.view =
    ap length c.requires.counts ∙ counts-length g.J.OpeningLogs.opening ∙ sym (ap length key) in
    let slots : length c.fill_slots.new.slots.items ≡ length c.args.values.items =
    ap length c.fill_slots.ensures.slots ∙ length-map c.take_ground.new.values.items Some ∙ ap length c.take_ground.ensures.values in
    record {
      some_shard = omega (arith, long, c.args.values.ok, c.requires.shards.0);
      few = omega (arith, long, c.args.values.ok, c.requires.shards.1);
      sized = made.0 ∙ ap length c.as_slice.ensures.value ∙ c.in-Ok.ensures.words.wide ∙ ap (λ n. SHARD_WORDS * n) counts;
      slots = made.1 ∙ slots ∙ long;
      counted = omega (arith, long, c.args.values.ok, c.in-Ok.ensures.sleepers);
    }

pub empty_slots-requires-clause-full : goal.empty_slots-requires-clause-full
empty_slots-requires-clause-full g c =
    subst (All IsSome) (sym (c.in-Err.ensures.err ∙ c.fill_slots.ensures.slots)) (all_some c.take_ground.new.values.items)

pub returns-clause-refused : goal.returns-clause-refused
returns-clause-refused g c =
    same_values c.empty_slots.new.values.items c.args.values.items
    (c.empty_slots.ensures ∙ c.in-Err.ensures.err ∙ c.fill_slots.ensures.slots
    ∙ ap (map Some) c.take_ground.ensures.values)
