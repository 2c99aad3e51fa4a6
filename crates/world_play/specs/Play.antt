-- A run of many cards: what each move does, and what the whole run comes to.
use Rattle.std.specs.Prelude.{◌≡◌, ℕ, zero, suc, ◌+◌, ◌%◌, Bool, true, false, if◌then◌else◌, List, [], ◌∷◌, length}
use Rattle.std.specs.Prelude.{take, map, replicate}
use Rattle.std.specs.Prelude.{Option, None, Some, slice_get, slice_set, slice_index, slice_index_or, bit_xor, sum_by}
use Rattle.std.specs.List.{range_with_len}
use Rattle.issuer_base.specs.declared.answer.Answer.{Answer}
use Rattle.issuer_base.specs.declared.answer.Answer.TheVariants.{Fresh, Kept, Queued, Set, Refused}
use Rattle.issuer_base.specs.declared.answer.Reply.{Reply}
use Rattle.issuer_base.specs.declared.request.Parts.{Parts}
use Rattle.card_history.specs.OneReply.{reply_in}
use Rattle.card_model.specs.Application.{CardState}
use Rattle.card_model.specs.CardSteps.{new_card, tapped, authenticated}
use Rattle.key_derive.specs.CardKey.{des_keys}
use Rattle.issuer_setup.specs.declared.card.CardInfo.{CardInfo}
use Rattle.issuer_setup.specs.CardList.{name_of}
use Rattle.issuer_setup.specs.IssuerSetup.{Setup, shard_of}
use Rattle.line_checks.specs.Reading.{reading}
use Rattle.shard_book.specs.Answering.{is_store_fault}
use Rattle.card_history.specs.declared.card_view.CardView.{CardView}
use Rattle.terminal_kernel.specs.ChipText.{request_line}
use Rattle.host_loading.specs.Books.{ShardBook, histories_of}
use Rattle.one_caller.specs.Turns.{Turn}
use Rattle.card_history.specs.CardViews.{card_shown}
use Rattle.world_net.specs.Fate.{fate_of}
use Rattle.world_play.specs.declared.moves.Move.{Move}
use Rattle.world_play.specs.declared.moves.Move.TheVariants.{Queue, Tap, Ask, AskSpoiled, Hold, TakeHeld, Hand}
use Rattle.world_play.specs.declared.moves.Move.TheVariants.{HandFirst, HandSpoiled}
use Rattle.world_play.specs.declared.player.Player.{Player}
use Rattle.world_play.specs.declared.setting.Step.{Step}
use Rattle.world_play.specs.declared.summary.Summary.{Summary}
use Rattle.world_play.specs.Handing.{answer_in, commands_in, spoil_first, after_answer}
use Rattle.world_play.specs.Moves.{moves_of}
use Rattle.world_play.specs.Setting.{key_set, card_info, issuer, step_of, terminal_of, queue_line}

-- ---- what is counted

-- one count after an answer of the host
abbrev pub with_answer : Summary → Answer → Summary
with_answer tally (Fresh shard place reply) =
    record tally { fresh = tally.fresh + 1; approved = if reply.approve then tally.approved + 1 else tally.approved }
with_answer tally (Kept shard place reply) = record tally { kept = tally.kept + 1 }
with_answer tally (Queued shard place) = record tally { queued = tally.queued + 1 }
with_answer tally (Set shard place) = tally
with_answer tally (Refused refusal) = record tally { refused = tally.refused + 1 }

-- after a card found an answer right or not
abbrev pub with_finding : Summary → Bool → Summary
with_finding tally true = record tally { authenticated = tally.authenticated + 1 }
with_finding tally false = record tally { unauthenticated = tally.unauthenticated + 1 }

-- after a tap that gave a request or none
abbrev pub with_tap : Summary → Option Parts → Summary
with_tap tally None = tally
with_tap tally (Some request) = record tally { taps = tally.taps + 1 }

-- ---- one move

-- a card with its requests and reply, the books of the host, and the counts so far
pub record Stage : Type 0 where
  pub player : Player
  pub books : List ShardBook
  pub tally : Summary

-- a request with the last bit of its cryptogram changed
abbrev pub spoiled : Parts → Parts
spoiled request = record request { ac = slice_set request.ac 7 (bit_xor (slice_index request.ac 7) 0x01) }

-- the stage after an answer
abbrev pub answered : Stage → Answer → List ShardBook → Stage
answered stage answer books = record {
  player = record stage.player { reply = reply_in answer };
  books = books;
  tally = with_answer stage.tally answer;
}

-- a line is answered, and no store fails
pub record IsAnswered (setup : Setup) (line : List ℕ) (before after : Stage) : Type 0 where
  pub answer : Answer
  pub books : List ShardBook
  pub turn : Turn setup before.books (reading setup line) answer books
  pub works : is_store_fault answer ≡ false
  pub after_is : after ≡ answered before answer books

-- the line of the request in hand, changed so, is answered; nothing is, where none is in hand
abbrev pub IsAsked : Setup → (Parts → Parts) → Option Parts → Stage → Stage → Type 0
IsAsked setup change None before after = after ≡ before
IsAsked setup change (Some request) before after = IsAnswered setup (request_line (change request)) before after

-- the stage after a tap at a terminal: the request is in hand, and nothing was replied to it
abbrev pub after_tap : Step → Stage → Stage
after_tap step stage =
    let next = tapped stage.player.card (terminal_of step) in
    record stage {
      player = record stage.player { card = next.1; request = next.0; reply = None };
      tally = with_tap stage.tally next.0;
    }

-- the card after it was given the issuer's answer of a reply, changed so, and the chosen commands of the reply; as it
-- was, if the reply has no answer
abbrev pub given_card : (List ℕ → List ℕ) → (List (List ℕ) → List (List ℕ)) → Reply → Option (List ℕ) → CardState
    → CardState
given_card change choose reply None card = card
given_card change choose reply (Some answer) card = after_answer card (change answer) reply.arc
    (choose (commands_in reply.bytes.items))

-- and the counts then
abbrev pub given_tally : (List ℕ → List ℕ) → Reply → Option (List ℕ) → CardState → Summary → Summary
given_tally change reply None card tally = tally
given_tally change reply (Some answer) card tally = with_finding tally (authenticated card (change answer) reply.arc).0

-- the stage after the last reply arrived so; nothing arrives, where there is none
abbrev pub handed : (List ℕ → List ℕ) → (List (List ℕ) → List (List ℕ)) → Option Reply → Stage → Stage
handed change choose None stage = stage
handed change choose (Some reply) stage = record stage {
  player = record stage.player {
    card = given_card change choose reply
        (answer_in reply.bytes.items) stage.player.card;
  };
  tally = given_tally change reply (answer_in reply.bytes.items) stage.player.card stage.tally;
}

-- one move at a step leads from a stage to a stage
abbrev pub Makes : Setup → Step → Move → Stage → Stage → Type 0
Makes setup step (Queue number) before after = IsAnswered setup (queue_line step number) before after
Makes setup step Tap before after = after ≡ after_tap step before
Makes setup step Ask before after = IsAsked setup (λ request. request) before.player.request before after
Makes setup step AskSpoiled before after = IsAsked setup spoiled before.player.request before after
Makes setup step Hold before after =
    after ≡ record before { player = record before.player { held = before.player.request; request = None } }
Makes setup step TakeHeld before after =
    after ≡ record before { player = record before.player { request = before.player.held; reply = None; held = None } }
Makes setup step Hand before after = after ≡ handed (λ answer. answer) (λ commands. commands) before.player.reply before
Makes setup step HandFirst before after = after ≡ handed (λ answer. answer) (take 1) before.player.reply before
Makes setup step HandSpoiled before after = after ≡ handed spoil_first (λ commands. commands) before.player.reply before

-- moves, one after another
abbrev pub MakesAll : Setup → Step → List Move → Stage → Stage → Type 0
MakesAll setup step [] before after = after ≡ before
MakesAll setup step (next ∷ moves) before after =
    (between : Stage) × Makes setup step next before between × MakesAll setup step moves between after

-- ---- the run

-- all cards, the books, and the counts so far
pub record State : Type 0 where
  pub players : List Player
  pub books : List ShardBook
  pub tally : Summary

-- a card that did nothing yet
abbrev pub new_player : ℕ → Player
new_player number =
    let info = card_info number in
    record {
      card = new_card info.pan info.psn key_set.dki info.method (des_keys key_set info.pan info.psn);
      request = None;
      reply = None;
      held = None;
    }

-- no counts
abbrev pub no_counts : Summary
no_counts = record {
  taps = 0;
  fresh = 0;
  approved = 0;
  kept = 0;
  refused = 0;
  authenticated = 0;
  unauthenticated = 0;
  queued = 0;
  done = 0;
  ran = 0;
  halted = 0;
}

-- a shard without records, whose store never failed
abbrev pub empty_book : ShardBook
empty_book = record { history = []; faults = 0; reported = 0 }

-- before the first step
abbrev pub first_state : ℕ → State
first_state cards = record {
  players = map new_player (range_with_len 0 cards);
  books = replicate 4 empty_book;
  tally = no_counts;
}

-- the step's card makes the moves of its fate
pub record IsStep (cards seed index : ℕ) (before after : State) : Type 0 where
  pub player : Player
  pub last : Stage
  pub player_is : slice_get before.players (index % cards) ≡ Some player
  pub moves : MakesAll (issuer cards) (step_of index cards seed) (moves_of (fate_of index cards seed))
      (record { player = player; books = before.books; tally = before.tally }) last
  pub after_is : after ≡ record {
    players = slice_set before.players
        (index % cards) last.player;
    books = last.books;
    tally = last.tally;
  }

-- the run is in this state after so many steps
abbrev pub IsAfter : ℕ → ℕ → ℕ → State → Type 0
IsAfter cards seed zero state = state ≡ first_state cards
IsAfter cards seed (suc steps) state = (before : State) × IsAfter cards seed steps before
    × IsStep cards seed steps before state

-- what the host shows of a card
abbrev pub shown : Setup → List ShardBook → CardInfo → CardView
shown setup books info = card_shown (name_of info) (slice_index_or (histories_of books)
    (shard_of setup (name_of info)) [])

-- one where it is so, and else none
abbrev pub one_if : Bool → ℕ
one_if true = 1
one_if false = 0

-- the counts at the end: the commands that are done and the halted cards as the host shows them, and the commands that
-- the cards ran
abbrev pub summed : Setup → State → Summary
summed setup state = record state.tally {
  done = sum_by (λ info. (shown setup state.books info).done) setup.cards;
  ran = sum_by (λ player. length player.card.ran) state.players;
  halted = sum_by (λ info. one_if (shown setup state.books info).halted) setup.cards;
}

-- what a run of so many cards and steps with this seed comes to
pub record ComesTo (cards steps seed : ℕ) (summary : Summary) : Type 0 where
  pub last : State
  pub is_after : IsAfter cards seed steps last
  pub summary_is : summary ≡ summed (issuer cards) last
