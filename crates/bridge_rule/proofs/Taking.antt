-- The records of a message, taken one after another.
use Rattle.std.proofs.Common.{◌≡◌, ℕ, ◌+◌, ◌<◌, List, [], ◌∷◌, ◌++◌, length, take, drop, set, map, get_or, ap, sym, ◌∙◌, subst, append_assoc}
use Rattle.std.proofs.lemmas.List.{drop_more, drop-map, take_more_set, get_or_default}
use Rattle.one_history.specs.Streams.{Indexed}
use Rattle.bridge_rule.specs.declared.log.Step.{Step}
use Rattle.bridge_rule.specs.declared.record.Placed.{Placed}
use Rattle.bridge_rule.specs.Logs.{LogState, new_log, taken_log, step_of}
use Rattle.bridge_rule.specs.Bridges.{indexed, with_taken, all_taken, steps_of, log_at}

-- how far the records of a message are taken: what is left of them gives the logs and the steps of all
pub record AreTaken (before logs : List LogState) (records : List Placed) (steps : List Step) (index : ℕ) : Type 0 where
  pub logs_are : all_taken logs (drop index (map indexed records)) ≡ all_taken before (map indexed records)
  pub steps_are : take index steps ++ steps_of logs (drop index (map indexed records)) ≡ steps_of before (map indexed records)

-- the records that are left, one by one
left-more : (records : List Placed) (index : ℕ) (one : Placed) → index < length records → one ≡ get_or records index one
    → drop index (map indexed records) ≡ indexed one ∷ drop (index + 1) (map indexed records)
left-more records index one within is =
    drop-map indexed index records
    ∙ ap (map indexed) (drop_more records index one within)
    ∙ (λ i. indexed (is' i) ∷ map indexed (drop (index + 1) records))
    ∙ ap (λ (l : List Indexed). indexed one ∷ l) (sym (drop-map indexed (index + 1) records))
  where
    is' : get_or records index one ≡ one
    is' = sym is

pub taken_more : (before logs : List LogState) (records : List Placed) (steps : List Step) (index : ℕ) (one : Placed)
    → index < length records → length steps ≡ length records → one ≡ get_or records index one → AreTaken before logs records steps index
    → AreTaken before (with_taken logs (indexed one)) records
    (set steps index (step_of (log_at logs one.shard) one.index (indexed one).text)) (index + 1)
taken_more before logs records steps index one within same is taken = record {
  logs_are = ap (all_taken logs) (sym (left-more records index one within is)) ∙ taken.logs_are;
  steps_are =
      ap (λ (l : List Step). l ++ steps_of (with_taken logs (indexed one)) (drop (index + 1) (map indexed records)))
      (take_more_set steps index (step_of (log_at logs one.shard) one.index (indexed one).text) (subst (λ (n : ℕ). index < n) (sym same) within))
      ∙ append_assoc (take index steps) (step_of (log_at logs one.shard) one.index (indexed one).text ∷ [])
      (steps_of (with_taken logs (indexed one)) (drop (index + 1) (map indexed records)))
      ∙ ap (λ (l : List Indexed). take index steps ++ steps_of logs l) (sym (left-more records index one within is))
      ∙ taken.steps_are;
}

-- the same, as the code takes one
pub taken_once : (before logs : List LogState) (records : List Placed) (steps : List Step) (index : ℕ) (one : Placed)
    → index < length records → length steps ≡ length records → one ≡ get_or records index one → AreTaken before logs records steps index
    → (shard : ℕ) (old new : LogState) (step : Step) → shard ≡ one.shard → shard < length logs → old ≡ get_or logs shard old
    → new ≡ taken_log old one.index (indexed one).text → step ≡ step_of old one.index (indexed one).text
    → AreTaken before (set logs shard new) records (set steps index step) (index + 1)
taken_once before logs records steps index one within same is taken shard old new step here below old_is new_is step_is =
    let log : old ≡ log_at logs one.shard =
    old_is ∙ get_or_default logs shard old (new_log 0 0) below ∙ ap (log_at logs) here in
    let logs_same : set logs one.shard (taken_log (log_at logs one.shard) one.index (indexed one).text) ≡ set logs shard new =
    λ i. set logs (sym here i) ((ap (λ (l : LogState). taken_log l one.index (indexed one).text) (sym log) ∙ sym new_is) i) in
    let step_same : step_of (log_at logs one.shard) one.index (indexed one).text ≡ step =
    ap (λ (l : LogState). step_of l one.index (indexed one).text) (sym log) ∙ sym step_is in
    subst (λ (other : Step). AreTaken before (set logs shard new) records (set steps index other) (index + 1)) step_same
    (subst (λ (others : List LogState). AreTaken before others records
    (set steps index (step_of (log_at logs one.shard) one.index (indexed one).text)) (index + 1)) logs_same
    (taken_more before logs records steps index one within same is taken))
