-- Records go into messages, some after others.
use Rattle.std.proofs.Common.{◌≡◌, ℕ, ◌+◌, List, [], ◌∷◌, ◌++◌, refl, ap, sym, subst, ◌∙◌}
use Rattle.std.specs.List.{flat_map, range_with_len}
use Rattle.one_history.specs.Streams.{Indexed}
use Rattle.bridge_lines.specs.Acts.{Act}
use Rattle.bridge_turns.specs.Publishing.{Begun, Batch, batch_of, added, all_added}
use Rattle.bridge_turns.specs.Saying.{IsBatch}
use Rattle.bridge_turns.proofs.Shards.{flat-range-more}

pub added-append : (batch : Batch) (some others : List Indexed) → all_added batch (some ++ others) ≡ all_added (all_added batch some) others
added-append batch [] others = refl
added-append batch (one ∷ some) others = added-append (added batch one) some others

-- and those that are made of the next number
pub added-more : (batch before after : Batch) (f : ℕ → List Indexed) (a n m j : ℕ) → a + n ≡ j → m ≡ n + 1
    → before ≡ all_added batch (flat_map f (range_with_len a n)) → after ≡ all_added before (f j)
    → after ≡ all_added batch (flat_map f (range_with_len a m))
added-more batch before after f a n m j is more first next =
    next ∙ ap (λ (b : Batch). all_added b (f j)) first ∙ sym (added-append batch (flat_map f (range_with_len a n)) (f j))
    ∙ ap (all_added batch) (sym (flat-range-more f a n j is))
    ∙ ap (λ (k : ℕ). all_added batch (flat_map f (range_with_len a k))) (sym more)

-- and what a message and what was said are after those of the next number
pub batch-more : (was_said : List Act → Type 0) (batch : Batch) (begun later : Begun) (f : ℕ → List Indexed) (a n m j : ℕ) → a + n ≡ j → m ≡ n + 1
    → begun ≡ (all_added batch (flat_map f (range_with_len a n))).begun
    → IsBatch later was_said (all_added (batch_of begun (all_added batch (flat_map f (range_with_len a n))).said) (f j))
    → IsBatch later was_said (all_added batch (flat_map f (range_with_len a m)))
batch-more was_said batch begun later f a n m j is more first next =
    let before = all_added batch (flat_map f (range_with_len a n)) in
    subst (IsBatch later was_said)
    (added-more batch (batch_of begun before.said) (all_added (batch_of begun before.said) (f j)) f a n m j is more
    (ap (λ (b : Begun). batch_of b before.said) first) refl) next
