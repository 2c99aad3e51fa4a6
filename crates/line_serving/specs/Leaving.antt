-- What a host leaves of its journals, by what it answered.
use Rattle.std.specs.Prelude.{◌≡◌, ℕ, List}
use Rattle.std.specs.List.{flat_map}
use Rattle.issuer_base.specs.declared.answer.Answer.{Answer}
use Rattle.issuer_setup.specs.IssuerSetup.{Setup}
use Rattle.answer_text.specs.AnswerText.{printed}
use Rattle.host_loading.specs.Books.{ShardBook}
use Rattle.shared_laws.specs.Answers.{AreAnsweredBy, AnswersNone}
use Rattle.desk_host.specs.Kept.{KeepJournals, HoldOwnTails}
use Rattle.desk_host.specs.Lawful.{IsLawful}
use Rattle.desk_host.specs.Left.{LeaveJournals}
use Rattle.desk_host.specs.SeenStores.{Logged, SeenJournals}

-- what a host of so many callers leaves that answered these lines since its journals were loaded
pub record LeavesAnswered (count : ℕ) (issuer : Setup) (prefix : List ℕ) (logs : Logged)
    (journals : SeenJournals) (lines : List (List ℕ)) (text : List ℕ) : Type 0 where
  pub first : List ShardBook
  pub last : List ShardBook
  pub kept : KeepJournals issuer prefix logs journals first last
  pub lawful : IsLawful issuer first last
  pub answers : List Answer
  pub answered : AreAnsweredBy count issuer first last lines answers
  pub own_tails : count ≡ 1 → HoldOwnTails issuer lines answers journals last
  pub text_is : text ≡ flat_map printed answers

-- what it leaves where it answered none
pub record LeavesLoaded (count : ℕ) (issuer : Setup) (prefix : List ℕ) (logs : Logged)
    (journals : SeenJournals) : Type 0 where
  pub first : List ShardBook
  pub last : List ShardBook
  pub kept : KeepJournals issuer prefix logs journals first last
  pub lawful : IsLawful issuer first last
  pub none : AnswersNone count first last
  pub left : count ≡ 1 → LeaveJournals prefix logs journals
