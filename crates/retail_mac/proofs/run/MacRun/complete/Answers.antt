-- A partial block is completed, or stays partial.
use Rattle.std.proofs.Common.{◌≡◌, ◌-◌, ◌/◌, ◌*◌, ◌++◌, List, ℕ, length, take, drop, fold, sym, ap, ◌∙◌, subst, arith, length-append}
use Rattle.std.proofs.lemmas.List.{take_all, drop_all}
use Rattle.des_block.specs.Cipher.{word_bytes}
use Rattle.retail_mac.specs.Mac.{blocks, chained}
use Rattle.retail_mac.specs.Run.{IsRun}
use Rattle.retail_mac.proofs.Pieces.{IsRun-more}
use Rattle.retail_mac.proofs.run.MacRun.complete.Goals as goal

pub returns-then-begun-piece-lt8-clause-taken : goal.returns-then-begun-piece-lt8-clause-taken
unfolding blocks
returns-then-begun-piece-lt8-clause-taken c = λ key text is.
    let piece : List ℕ = c.args.piece.now in
    let part : List ℕ = c.args.self.now.part.items in
    let none : length (part ++ piece) / 8 ≡ 0 = omega (arith, length-append part piece) in
    let start : List ℕ = word_bytes c.args.self.now.chain in
    let same : start ≡ fold (chained (take 8 key)) start (blocks (length (part ++ piece) / 8) (part ++ piece)) =
    ap (λ k. fold (chained (take 8 key)) start (blocks k (part ++ piece))) (sym none) in
    let all : take (length piece - 0) piece ≡ piece = take_all (length piece - 0) piece (omega arith) in
    let held : c.try_extend_from_slice.new.self.items ≡ part ++ piece = rw c.unwrap.ensures at c.try_extend_from_slice.ensures.ok in
    subst (λ taken. IsRun (record c.args.self.now { part = c.try_extend_from_slice.new.self }) key (text ++ taken)) (sym all)
    (IsRun-more c.args.self.now key text piece c.args.self.now.chain c.try_extend_from_slice.new.self is same
    (held ∙ ap (λ k. drop (8 * k) (part ++ piece)) (sym none)))

pub returns-clause-taken : goal.returns-clause-taken
unfolding blocks
returns-clause-taken c = λ key text is.
    let piece : List ℕ = c.args.piece.now in
    let part : List ℕ = c.args.self.now.part.items in
    let front : List ℕ = c.split_at.result.0.now in
    let whole : length (part ++ front) ≡ 8 = omega (arith, length-append part front) in
    let start : List ℕ = word_bytes c.args.self.now.chain in
    let block : c.joined-block.result ≡ part ++ front = c.joined-block.ensures ∙ ap (λ p. p ++ front) c.as_slice.ensures.value in
    let stepped : word_bytes c.chained.new.chain ≡ fold (chained (take 8 key)) start (blocks (length (part ++ front) / 8) (part ++ front)) =
    c.chained.ensures (take 8 key) (c.left.ensures key is.keyed) ∙ ap (λ b. fold (chained (take 8 key)) start (blocks (length b / 8) b)) block in
    let count : 8 - c.len-begun.result ≡ length piece - length c.split_at.result.1.now = omega arith in
    let taken : front ≡ take (length piece - length c.split_at.result.1.now) piece =
    c.split_at.ensures.front ∙ ap (λ k. take k piece) count in
    subst (λ taken. IsRun (record c.args.self.now { chain = c.chained.new.chain; part = c.clear.new.self }) key (text ++ taken)) taken
    (IsRun-more c.args.self.now key text front c.chained.new.chain c.clear.new.self is stepped
    (c.clear.ensures ∙ sym (drop_all (8 * (length (part ++ front) / 8)) (part ++ front) (omega arith))))
