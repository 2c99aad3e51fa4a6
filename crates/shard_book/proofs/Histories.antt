-- Histories that extend others.
use Rattle.std.proofs.Common.{ℕ, List, ◌++◌, [], take, drop, sym, ap, ◌∙◌, append-nil, append_assoc}
use Rattle.std.proofs.lemmas.List.{take-append-drop}
use Rattle.issuer_base.specs.declared.entry.Entry.{Entry}
use Rattle.shard_book.specs.Histories.{GoesOn}

-- nothing is added
pub goes-none : (history : List Entry) → GoesOn history history
goes-none history = ([], sym (append-nil history))

-- records, and then more records
pub goes-then : (first second third : List Entry) → GoesOn first second → GoesOn second third → GoesOn first third
goes-then first second third on more =
    (on.0 ++ more.0, more.1 ∙ ap (λ (l : List Entry). l ++ more.0) on.1 ∙ append_assoc first on.0 more.0)

-- a history extends its first records
pub goes-from : (count : ℕ) (history : List Entry) → GoesOn (take count history) history
goes-from count history = (drop count history, sym (take-append-drop count history))
