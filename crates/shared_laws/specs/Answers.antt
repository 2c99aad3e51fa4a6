-- What is sure of the answers to lines: those of one caller, and those of several.
use Rattle.std.specs.Prelude.{◌≡◌, ℕ, ◌+◌, ◌-◌, ◌^◌, ◌<◌, ◌≤◌, suc, zero, List, slice_get, Some}
use Rattle.issuer_base.specs.declared.answer.Answer.{Answer}
use Rattle.issuer_setup.specs.IssuerSetup.{Setup}
use Rattle.host_loading.specs.Books.{ShardBook, histories_of}
use Rattle.one_caller.specs.Turns.{Run}
use Rattle.one_caller.specs.OneHistory.{HasFailed, IsOneHistory}
use Rattle.shared_laws.specs.Shares.{Share, AreDealt, history_in, faults_reported_in}
use Rattle.shared_laws.specs.Explained.{AreExplained}
use Rattle.shared_laws.specs.OwnPlaces.{AreOwnPlaces, all_faults_reported}
use Rattle.shared_laws.specs.Settled.{AreSettled}

-- one caller's answers to these lines, one turn after another from the first books to the last: each shard's history is
-- one legal history, no counter of a card was decided twice, and each request has one reply
pub record AreAnswered (issuer : Setup) (first last : List ShardBook) (asked : List (List ℕ))
    (answers : List Answer) : Type 0 where
  pub run : Run issuer first asked answers last
  pub law : IsOneHistory issuer asked answers first last

-- the answers to these lines, which were dealt in turns to so many callers of one host: each is explained by the
-- histories at opening and at close, and each record between them is one answer's; no counter of a card was decided
-- twice, and each request has one reply
pub record AreAnsweredTogether (count : ℕ) (issuer : Setup) (first last : List ShardBook) (asked : List (List ℕ))
    (answers : List Answer) : Type 0 where
  pub shares : List Share
  pub dealt : AreDealt count asked answers shares
  pub explained : AreExplained issuer (history_in first) (history_in last) (histories_of last) shares
  pub each_record_is_one_answers : AreOwnPlaces issuer (history_in first) (history_in last) (faults_reported_in last) shares
  -- at most as many answers are that a shard's store failed as its fault counter increased, unless that is saturated
  pub faults_are_counted : (shard : ℕ) (was is : ShardBook) → slice_get first shard ≡ Some was
      → slice_get last shard ≡ Some is → is.faults < 2 ^ 64 - 1
      → was.faults + all_faults_reported issuer shard shares ≤ is.faults
  -- where no store's fault counter increased, no answer is that one failed, and each counter that a request names is
  -- settled
  pub settled : (HasFailed first last → ⊥) → AreSettled issuer (history_in first) shares

-- with one caller the one holds, and with more the other
abbrev pub ByCallers : ℕ → Type 0 → Type 0 → Type 0
ByCallers (suc zero) Alone Together = Alone
ByCallers count Alone Together = Together

-- so many callers' answers to these lines, from the first books to the last
abbrev pub AreAnsweredBy : ℕ → Setup → List ShardBook → List ShardBook → List (List ℕ) → List Answer → Type 0
AreAnsweredBy count issuer first last asked answers =
    ByCallers count (AreAnswered issuer first last asked answers)
    (AreAnsweredTogether count issuer first last asked answers)

-- no line was answered: the histories are as they were, and no fault was told; with one caller so are the books
pub record AnswersNone (count : ℕ) (first last : List ShardBook) : Type 0 where
  pub same_histories : histories_of last ≡ histories_of first
  pub none_reported : (shard : ℕ) (book : ShardBook) → slice_get last shard ≡ Some book → book.reported ≡ 0
  pub alone : count ≡ 1 → last ≡ first
