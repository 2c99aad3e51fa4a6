-- A round with each key in turn, and the last one.
use Rattle.std.proofs.Common.{◌≡◌, ℕ, List, length, map, sym, refl, arith, ◌∙◌}
use Rattle.std.proofs.lemmas.List.{get_or-map, length-map}
use Rattle.aes_cipher.specs.Columns.{state_bytes}
use Rattle.aes_cipher.specs.declared.rounds.Columns.{Columns}
use Rattle.aes_cipher.proofs.RoundSteps.{Runs, Runs_none, Runs_more, Runs_all}
use Rattle.aes_cipher.proofs.rounds.enciphered.Goals as goal

pub returns : goal.returns
returns c =
    let keys : List Columns = c.args.keys.now in
    let all : List (List ℕ) = map state_bytes keys in
    let len : length all ≡ 11 = length-map keys state_bytes ∙ omega arith in
    let start : List ℕ = state_bytes c.xor-start.result in
    let r0 : Runs all start 1 start = Runs_none all start in
    let r1 : Runs all start 2 (state_bytes c.round-first.result) =
    Runs_more all start 1 start (state_bytes c.round-first.result) _ r0 (omega arith) (omega arith)
    (sym (get_or-map state_bytes keys 1 _ _ (omega arith))) c.round-first.ensures in
    let r2 : Runs all start 3 (state_bytes c.round-second.result) =
    Runs_more all start 2 (state_bytes c.round-first.result) (state_bytes c.round-second.result) _ r1 (omega arith)
    (omega arith) (sym (get_or-map state_bytes keys 2 _ _ (omega arith))) c.round-second.ensures in
    let r3 : Runs all start 4 (state_bytes c.round-third.result) =
    Runs_more all start 3 (state_bytes c.round-second.result) (state_bytes c.round-third.result) _ r2 (omega arith)
    (omega arith) (sym (get_or-map state_bytes keys 3 _ _ (omega arith))) c.round-third.ensures in
    let r4 : Runs all start 5 (state_bytes c.round-fourth.result) =
    Runs_more all start 4 (state_bytes c.round-third.result) (state_bytes c.round-fourth.result) _ r3 (omega arith)
    (omega arith) (sym (get_or-map state_bytes keys 4 _ _ (omega arith))) c.round-fourth.ensures in
    let r5 : Runs all start 6 (state_bytes c.round-fifth.result) =
    Runs_more all start 5 (state_bytes c.round-fourth.result) (state_bytes c.round-fifth.result) _ r4 (omega arith)
    (omega arith) (sym (get_or-map state_bytes keys 5 _ _ (omega arith))) c.round-fifth.ensures in
    let r6 : Runs all start 7 (state_bytes c.round-sixth.result) =
    Runs_more all start 6 (state_bytes c.round-fifth.result) (state_bytes c.round-sixth.result) _ r5 (omega arith)
    (omega arith) (sym (get_or-map state_bytes keys 6 _ _ (omega arith))) c.round-sixth.ensures in
    let r7 : Runs all start 8 (state_bytes c.round-seventh.result) =
    Runs_more all start 7 (state_bytes c.round-sixth.result) (state_bytes c.round-seventh.result) _ r6 (omega arith)
    (omega arith) (sym (get_or-map state_bytes keys 7 _ _ (omega arith))) c.round-seventh.ensures in
    let r8 : Runs all start 9 (state_bytes c.round-eighth.result) =
    Runs_more all start 8 (state_bytes c.round-seventh.result) (state_bytes c.round-eighth.result) _ r7 (omega arith)
    (omega arith) (sym (get_or-map state_bytes keys 8 _ _ (omega arith))) c.round-eighth.ensures in
    let r9 : Runs all start 10 (state_bytes c.round-ninth.result) =
    Runs_more all start 9 (state_bytes c.round-eighth.result) (state_bytes c.round-ninth.result) _ r8 (omega arith)
    (omega arith) (sym (get_or-map state_bytes keys 9 _ _ (omega arith))) c.round-ninth.ensures in
    Runs_all all (state_bytes c.args.block.now) start 10 (state_bytes c.round-ninth.result) _ _ _ r9 refl
    (sym (get_or-map state_bytes keys 0 _ _ (omega arith))) (sym (get_or-map state_bytes keys 10 _ _ (omega arith)))
    c.xor-start.ensures c.last_round.ensures
