-- What waits after the last records of some logs were held.
use Rattle.std.proofs.Common.{◌≡◌, ℕ, zero, suc, ◌+◌, ◌-◌, ◌<◌, ◌≤◌, List, ◌++◌, length, length-append, refl, ap, sym, ◌∙◌, zero-add, append_assoc, arith}
use Rattle.std.specs.List.{flat_map, range_with_len}
use Rattle.bridge_rule.specs.declared.held.Held.{Held}
use Rattle.bridge_rule.specs.Bridges.{BridgeState, with_held}
use Rattle.bridge_turns.specs.Turns.{last_of}
use Rattle.bridge_turns.proofs.Shards.{flat-range-more}

pub held-more : (start before after : BridgeState) (n : ℕ)
    → before ≡ with_held start (start.held ++ flat_map (last_of start.logs) (range_with_len 0 n))
    → after ≡ with_held before (before.held ++ last_of before.logs n)
    → after ≡ with_held start (start.held ++ flat_map (last_of start.logs) (range_with_len 0 (n + 1)))
held-more start before after n first next =
    next ∙ ap (λ (b : BridgeState). with_held b (b.held ++ last_of b.logs n)) first
    ∙ ap (with_held start) (append_assoc start.held (flat_map (last_of start.logs) (range_with_len 0 n)) (last_of start.logs n)
    ∙ ap (λ (l : List Held). start.held ++ l) (sym (flat-range-more (last_of start.logs) 0 n n (zero-add n))))

-- what is made of more numbers is no shorter
longer : {A : Type 0} (f : ℕ → List A) (n k m : ℕ) → n + k ≡ m
    → length (flat_map f (range_with_len 0 n)) ≤ length (flat_map f (range_with_len 0 m))
longer f n zero m is =
    let same : n ≡ m = omega arith in
    let at : length (flat_map f (range_with_len 0 n)) ≡ length (flat_map f (range_with_len 0 m)) =
    ap (λ (j : ℕ). length (flat_map f (range_with_len 0 j))) same in
    omega arith
longer f n (suc k) m is =
    let more : (n + k) + 1 ≡ m = omega arith in
    let before : length (flat_map f (range_with_len 0 n)) ≤ length (flat_map f (range_with_len 0 (n + k))) = longer f n k (n + k) refl in
    let at : length (flat_map f (range_with_len 0 m)) ≡ length (flat_map f (range_with_len 0 (n + k))) + length (f (n + k)) =
    ap (λ (j : ℕ). length (flat_map f (range_with_len 0 j))) (sym more) ∙ ap length (flat-range-more f 0 (n + k) (n + k) (zero-add (n + k)))
    ∙ length-append (flat_map f (range_with_len 0 (n + k))) (f (n + k)) in
    omega arith

-- where there is no room for the last records of one more log, there is none for those of all
pub none-for-all : (start before : BridgeState) (n m : ℕ) → n < m
    → before ≡ with_held start (start.held ++ flat_map (last_of start.logs) (range_with_len 0 n))
    → before.room < length before.held + length (last_of before.logs n)
    → start.room < length start.held + length (flat_map (last_of start.logs) (range_with_len 0 m))
none-for-all start before n m less first none =
    let lasts = last_of start.logs in
    let room : before.room ≡ start.room = ap (λ (b : BridgeState). b.room) first in
    let held : length before.held ≡ length start.held + length (flat_map lasts (range_with_len 0 n)) =
    ap (λ (b : BridgeState). length b.held) first ∙ length-append start.held (flat_map lasts (range_with_len 0 n)) in
    let here : length (last_of before.logs n) ≡ length (lasts n) = ap (λ (b : BridgeState). length (last_of b.logs n)) first in
    let one : length (flat_map lasts (range_with_len 0 (n + 1))) ≡ length (flat_map lasts (range_with_len 0 n)) + length (lasts n) =
    ap length (flat-range-more lasts 0 n n (zero-add n)) ∙ length-append (flat_map lasts (range_with_len 0 n)) (lasts n) in
    let rest : length (flat_map lasts (range_with_len 0 (n + 1))) ≤ length (flat_map lasts (range_with_len 0 m)) =
    longer lasts (n + 1) (m - (n + 1)) m (omega arith) in
    omega arith
