-- A full slot gives its value.
use Rattle.std.proofs.Common.{rules, arith, ◌≡◌, ℕ, false, IsSome, get_or, set, get_or-set_other, sym, ◌∙◌, subst, inl, inr}
use Rattle.std.proofs.lemmas.Bool.{cases_eq}
use Rattle.std.specs.Mem.Slots.{slots_items, slots_filled}
use mathlib.Core.Option.{some}
use lib.ListN.{get_elem?}
use Rattle.turn_book.proofs.ValueLemmas.{all_at, values_more, filled-none}
use Rattle.turn_book.proofs.values.take_values.Goals as goal

pub unwrap-requires : goal.unwrap-requires
unwrap-requires g c =
    all_at IsSome (slots_items c.args.closed.now.slots) c.loop-shard.shard c.take.result c.requires.full.1
    (subst (λ items. get_elem? items c.loop-shard.shard ≡ some c.take.result) c.loop-shard.invariant.items c.take.ensures.value)

pub loop-shard-preserved : goal.loop-shard-preserved
loop-shard-preserved g c =
    let i : ℕ = c.loop-shard.shard in
    let at = subst (λ items. get_elem? items i ≡ some c.take.result) c.loop-shard.invariant.items c.take.ensures.value in
    let others = c.take.ensures.others in
    record {
      values = rw c.push_reserved.ensures.items
          (values_more c.loop-shard.values.items c.unwrap.result c.take.result (slots_items c.args.closed.now.slots) i c.loop-shard.invariant.values at
          c.unwrap.ensures);
      count = search rules;
      room = search rules;
      items = others.0 ∙ c.loop-shard.invariant.items;
      long = others.2 ∙ c.loop-shard.invariant.long;
      full = λ k above below.
          rw others.1 (get_or-set_other (slots_filled c.loop-shard.closed.slots) i k false false (λ same. omega arith)
          ∙ c.loop-shard.invariant.full k (omega arith) (omega (arith, others.2)));
      taken = λ k below.
          rw others.1 (elim (cases_eq k i) [
            | inl same ↦
                let fs = slots_filled c.loop-shard.closed.slots in
                subst (λ (n : ℕ). get_or (set fs i false) n false ≡ false) (sym same) (filled-none fs i)
            | inr apart ↦ get_or-set_other (slots_filled c.loop-shard.closed.slots) i k false false apart ∙ c.loop-shard.invariant.taken k (omega arith)
          ]);
    }
