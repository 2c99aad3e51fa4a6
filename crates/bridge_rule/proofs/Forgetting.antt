-- All logs forget what they know beyond the records that count.
use Rattle.std.proofs.Common.{◌≡◌, ℕ, ◌+◌, ◌<◌, List, [], ◌∷◌, ◌++◌, length, take, drop, set, map, get_or, refl, ap, sym, ◌∙◌, arith, zero, suc}
use Rattle.std.proofs.lemmas.List.{take_more, take_more_set, get_or-map, get_or-drop, drop-set-lt, drop-drop, length-map}
use Rattle.bridge_rule.specs.declared.role.Turn.{Turn}
use Rattle.bridge_rule.specs.declared.role.Turn.TheVariants.{Nothing, Starts, Ends, Yields}
use Rattle.bridge_rule.specs.Logs.{LogState, forgotten}
use Rattle.bridge_rule.specs.Bridges.{log_at, logs_at}

-- how far the logs have forgotten
pub record AreForgotten (before logs : List LogState) (index : ℕ) : Type 0 where
  pub front : take index logs ≡ take index (map forgotten before)
  pub rest : drop index logs ≡ drop index before

pub forgotten_more : (before logs : List LogState) (index : ℕ) (old new : LogState) → index < length logs → length logs ≡ length before
    → old ≡ get_or logs index old → new ≡ forgotten old → AreForgotten before logs index
    → AreForgotten before (set logs index new) (index + 1)
forgotten_more before logs index old new within same old_is new_is so_far =
    let within_before : index < length before = omega arith in
    let within_map : index < length (map forgotten before) = let long = length-map before forgotten in omega arith in
    let at : get_or logs index old ≡ get_or before index old =
    ap (λ (n : ℕ). get_or logs n old) (let none : index ≡ index + 0 = omega arith in none) ∙ sym (get_or-drop index logs 0 old)
    ∙ ap (λ (l : List LogState). get_or l 0 old) so_far.rest ∙ get_or-drop index before 0 old
    ∙ ap (λ (n : ℕ). get_or before n old) (let none : index + 0 ≡ index = omega arith in none) in
    record {
      front =
          take_more_set logs index new within
          ∙ ap (λ (l : List LogState). l ++ new ∷ []) so_far.front
          ∙ ap (λ (log : LogState). take index (map forgotten before) ++ log ∷ [])
          (new_is ∙ ap forgotten (old_is ∙ at) ∙ sym (get_or-map forgotten before index old old within_before))
          ∙ sym (take_more (map forgotten before) index old within_map);
      rest =
          drop-set-lt (index + 1) logs index new (omega arith) ∙ sym (drop-drop 1 index logs) ∙ ap (drop 1) so_far.rest
          ∙ drop-drop 1 index before;
    }

-- a log after all have forgotten
forgotten-at : (logs : List LogState) (shard : ℕ) → log_at (map forgotten logs) shard ≡ forgotten (log_at logs shard)
forgotten-at [] shard = refl
forgotten-at (log ∷ logs) zero = refl
forgotten-at (log ∷ logs) (suc shard) = forgotten-at logs shard

-- a log after a turn
abbrev pub log_after : Turn → LogState → LogState
log_after Nothing log = log
log_after Starts log = forgotten log
log_after Ends log = log
log_after Yields log = log

pub turned-at : (turn : Turn) (logs : List LogState) (shard : ℕ) → log_at (logs_at turn logs) shard ≡ log_after turn (log_at logs shard)
turned-at Nothing logs shard = refl
turned-at Starts logs shard = forgotten-at logs shard
turned-at Ends logs shard = refl
turned-at Yields logs shard = refl
