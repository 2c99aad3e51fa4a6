-- What a crash leaves while a record is appended: first what is in doubt is truncated, then the record is written.
use Rattle.std.proofs.Common.{◌≡◌, ◌⊎◌, ◌+◌, ◌++◌, [], None, inr, Result, Ok, Err, MatchResult}
use Rattle.journal_store.specs.Holding.{Holds}
use Rattle.journal_store.proofs.Passing.{crash-clear, crash-put}
use Rattle.journal_store.proofs.journal.Journal.put.Goals as goal

pub returns-in_err-clear-clause-crash : goal.returns-in_err-clear-clause-crash
returns-in_err-clear-clause-crash g c count text tail holds =
    crash-clear text tail c.args.piece.now _ _ None holds.disk_is (c.clear.ensures.passes count text tail holds)

pub returns-clause-crash : goal.returns-clause-crash
returns-clause-crash g c count text tail holds =
    crash-put text tail c.args.piece.now _ _ _ holds.disk_is (c.clear.ensures.passes count text tail holds)
    (c.write.ensures.passes count text (c.in_ok-clear.ensures.holds count text tail holds))

pub returns-in_err-clear-clause-room : goal.returns-in_err-clear-clause-room
returns-in_err-clear-clause-room g c spare has = absurd (c.in_err-clear.ensures.room _ has)

-- what holds of a result at `Ok`, and what at `Err`, whose one part is known
one-part : {A B : Type 0} (P : A → Type 0) (Q R : Type 0) (result : Result A B) → MatchResult result P (λ _. R) → MatchResult result P (λ _. Q ⊎ R)
one-part P Q R (Ok value) holds = holds
one-part P Q R (Err fault) holds = inr holds

pub returns-clause-put : goal.returns-clause-put
returns-clause-put g c count text tail holds =
    let new = c.write.new.self in
    one-part (λ place. (place ≡ count) × Holds new (count + 1) (text ++ c.args.piece.now) []) (Holds new count text tail)
    (Holds new count text c.args.piece.now) c.write.result (c.write.ensures.put count text (c.in_ok-clear.ensures.holds count text tail holds))
