-- The text of the numbers of records, one shard more.
use Rattle.std.proofs.Common.{◌≡◌, ℕ, ◌+◌, zero, suc, List, [], ◌∷◌, ◌++◌, length, take, None, Some, sym, ap, ◌∙◌, arith}
use Rattle.std.proofs.Common.{append-nil, append_assoc}
use Rattle.std.proofs.lemmas.Option.{same_Some}
use Rattle.std.specs.List.{enumerate_from, flat_map, slice_get}
use Rattle.issuer_base.specs.declared.entry.Entry.{Entry}
use Rattle.answer_text.specs.CountText.{count_text}
use Rattle.line_serving.specs.Following.{counts_text}

-- what is made of each element and its number: one element more
numbered-more : {X Y : Type 0} (f : ℕ × X → List Y) (start n : ℕ) (xs : List X) (x : X) → slice_get xs n ≡ Some x
    → flat_map f (enumerate_from start (take (suc n) xs))
    ≡ flat_map f (enumerate_from start (take n xs)) ++ f (start + n, x)
numbered-more f start n [] x is = absurd (let e : None ≡ Some x = is in cc)
numbered-more f start zero (first ∷ xs) x is =
    append-nil (f (start, first))
    ∙ ap (λ y. f (start, y)) (same_Some first x is)
    ∙ ap (λ k. f (k, x)) (let same : start ≡ start + 0 = omega arith in same)
numbered-more f start (suc n) (first ∷ xs) x is =
    let more = numbered-more f (start + 1) n xs x is in
    let same : (start + 1) + n ≡ start + suc n = omega arith in
    ap (λ l. f (start, first) ++ l) more
    ∙ sym (append_assoc (f (start, first)) (flat_map f (enumerate_from (start + 1) (take n xs))) (f ((start + 1) + n, x)))
    ∙ ap (λ k. (f (start, first) ++ flat_map f (enumerate_from (start + 1) (take n xs))) ++ f (k, x)) same

pub counts-more : (histories : List (List Entry)) (shard : ℕ) (history : List Entry)
    → slice_get histories shard ≡ Some history
    → counts_text (take (suc shard) histories) ≡ counts_text (take shard histories) ++ count_text shard (length history)
counts-more histories shard history is =
    numbered-more (λ (numbered : ℕ × List Entry). count_text numbered.0 (length numbered.1)) 0 shard histories history is
    ∙ ap (λ k. counts_text (take shard histories) ++ count_text k (length history))
    (let same : 0 + shard ≡ shard = omega arith in same)
