-- The rows of a world's cards, cleared and then given the records of each shard again.
use Rattle.std.proofs.Common.{◌≡◌, ◌≢◌, ℕ, zero, suc, ◌+◌, ◌%◌, ◌<◌, ◌≤◌, List, [], ◌∷◌, ◌++◌, length, take, get_or, set, replicate, Some, None, Result, Bool}
use Rattle.std.proofs.Common.{refl, ap, sym, ◌∙◌, subst, inl, inr, arith, length-set, IsTrue, ◌↔◌, IsOk, IfOk}
use Rattle.std.proofs.lemmas.Bool.{cases_eq, cases_lt}
use Rattle.std.proofs.lemmas.List.{get_or-set_same, get_or-set_other, set-set, take_more, length-replicate, length-take-le, take_all, take-take}
use Rattle.std.proofs.lemmas.Option.{same_Some, slice_get_within, slice_get-get_or}
use Rattle.std.specs.List.{slice_get}
use Rattle.issuer_base.specs.declared.command.Command.{Command}
use Rattle.issuer_base.specs.declared.entry.Entry.{Entry}
use Rattle.issuer_base.specs.declared.answer.Reply.{Reply}
use Rattle.issuer_base.specs.declared.limits.TheConstants.{WINDOW}
use Rattle.issuer_base.specs.declared.request.Request.{Request}
use Rattle.issuer_base.specs.declared.entry.Entry.TheVariants.{Decided, Queued, Status}
use Rattle.card_history.specs.LegalRecords.{Grounds, IsLegal, IsLegalDecision, IsLegalCommand, IsLegalStatus, IsLegalHistory}
use Rattle.issuer_base.specs.CardNames.{named}
use Rattle.card_history.specs.Records.{card_in, card_of}
use Rattle.card_history.specs.Scripts.{scripts_of, waiting}
use Rattle.issuer_setup.specs.declared.card.CardInfo.{CardInfo}
use Rattle.issuer_setup.specs.CardList.{name_of, number_of}
use Rattle.issuer_setup.specs.IssuerSetup.{Setup}
use Rattle.issuer_setup.proofs.CardListLemmas.{number_of-found}
use Rattle.issuer_setup.proofs.Shards.{are_shards-range}
use Rattle.line_checks.specs.AtHand.{IsRequestAtHand}
use Rattle.line_checks.specs.declared.checked.CheckedRequest.{CheckedRequest}
use Rattle.row_core.specs.Accepting.{IsValidSuccessor}
use Rattle.row_core.specs.CardRow.{CardRow, KeptScripts, StandsFor}
use Rattle.script_queue.specs.CommandQueue.{TakesOneMore}
use Rattle.shard_book.specs.Grounds.{grounds_of}
use Rattle.shard_book.proofs.RowsAfter.{ok-then}
use Rattle.world_model.specs.Replaying.{AreRowsOf, AreLegalHistories, AreCleared, Replays, ReplaysAll, with_entry}
use Rattle.world_model.specs.Stepping.{RowsStand}
use Rattle.world_net.specs.WorldRuns.{IsIssuer}
use Rattle.world_net.specs.WorldState.{ShardState, no_shard}
use Rattle.world_model.specs.FallBack.{all_truncated}
use Rattle.world_model.proofs.Truncated.{take-left, truncated-at}
use Rattle.world_net.proofs.Hosts.{AreLawful, at, home-within, legal-home, none-at}
use Rattle.world_model.proofs.NetWrites.{rows-join}
use Rattle.world_model.proofs.NetRows.{put-read, put-stays, row-there, row-stands, rows-record, rows-doubt}

-- rows that stand are rows of the issuer's cards
pub stand-rows : (issuer : Setup) (rows : List CardRow) (shards : List ShardState) → RowsStand issuer rows shards → AreRowsOf issuer rows
stand-rows issuer rows shards stand = record {
  count = elim (cases_lt (length rows) (length issuer.cards)) [
    | inl few ↦ let there = row-there issuer rows shards stand (length rows) few in absurd (omega (arith, there))
    | inr enough ↦ enough
  ];
  each = λ number info row info_is row_is.
      let found = stand.each number info info_is in
      ap (λ (r : CardRow). r.method) (same_Some _ _ (sym row_is ∙ found.1)) ∙ found.2.method_is;
}

-- rows that stand for some shards stand for others with the same histories
pub stand-alike : (issuer : Setup) (rows : List CardRow) (shards others : List ShardState) → IsIssuer issuer → RowsStand issuer rows shards
    → ((shard : ℕ) → shard < issuer.shards → (at shards shard).history ≡ (at others shard).history) → RowsStand issuer rows others
stand-alike issuer rows shards others valid stand alike = record {
  each = λ number info info_is.
      let found = stand.each number info info_is in
      let some = (are_shards-range issuer.shards valid.shards).0 in
      (found.0, found.1, subst (StandsFor info found.0) (alike (number % issuer.shards) (omega arith)) found.2);
}

-- there is a row below their number
card-read : (rows : List CardRow) (number : ℕ) → number < length rows → (row : CardRow) × (slice_get rows number ≡ Some row)
card-read [] number below = absurd (omega (arith, below))
card-read (row ∷ rows) zero below = (row, refl)
card-read (row ∷ rows) (suc number) below = card-read rows number (omega arith)

-- cleared rows stand for no records
pub cleared-stand : (issuer : Setup) (old new : List CardRow) (count : ℕ) → AreRowsOf issuer old → AreCleared old new
    → RowsStand issuer new (replicate count no_shard)
cleared-stand issuer old new count rows cleared = record {
  each = λ number info info_is.
      let within = slice_get_within issuer.cards number info info_is in
      let enough = rows.count in
      let below : number < length old = omega arith in
      let there = card-read old number below in
      let it = cleared.each number there.0 info there.1 (rows.each number info there.0 info_is there.1) in
      (it.0, it.1, subst (λ (state : ShardState). StandsFor info it.0 state.history) (sym (none-at count (number % issuer.shards))) it.2);
}

-- one more record that is a valid successor
module _ (issuer : Setup) (valid : IsIssuer issuer) (rows : List CardRow) (shards : List ShardState) (shard : ℕ)
    (stand : RowsStand issuer rows shards) (count : length shards ≡ issuer.shards) where
  legal-within : (entry : Entry) → IsLegal (grounds_of issuer) shard (at shards shard).history entry → shard < length shards
  legal-within entry legal =
      let below = home-within issuer shard (card_in entry) valid (legal-home issuer shard (at shards shard).history entry legal) in
      omega (arith, count, below)

  -- the row of the card that it is of, with the record, at its place
  pub rows-put : (number : ℕ) (info : CardInfo) (entry : Entry) (new : CardRow) → shard < length shards → number % issuer.shards ≡ shard
      → slice_get issuer.cards number ≡ Some info → card_in entry ≡ name_of info
      → StandsFor info new ((at shards shard).history ++ entry ∷ []) → RowsStand issuer (set rows number new) (with_entry shards shard entry)
  rows-put number info entry new within home info_is its stands =
      subst (λ shard. RowsStand issuer (set rows number new) (with_entry shards shard entry)) home
      (rows-record issuer rows shards stand number info entry new valid.cards count (subst (λ n. n < length shards) (sym home) within) info_is its
      (subst (λ n. StandsFor info new ((at shards n).history ++ entry ∷ [])) (sym home) stands))

  -- a command of a card
  pub rows-command : (number : ℕ) (pan : List ℕ) (psn : ℕ) (command : Command) (row new : CardRow) {E : Type 0} (result : Result ℕ E)
      → number_of (named pan psn) issuer.cards ≡ Some number
      → IsLegalCommand (grounds_of issuer) shard (at shards shard).history (named pan psn) command
      → row ≡ get_or rows number row
      → (IsOk result ↔ TakesOneMore row.scripts.commands)
      → IfOk result (λ _. (card : CardInfo) (history : List Entry) → StandsFor card row history
      → StandsFor card new (history ++ Queued card.pan card.psn command ∷ []))
      → RowsStand issuer (set rows number new) (with_entry shards shard (Queued pan psn command))
  rows-command number pan psn command row new result known legal row_is takes queued =
      let info = number_of-found (named pan psn) issuer.cards number known in
      let home : number % issuer.shards ≡ shard =
      ap (λ n. n % issuer.shards) (same_Some _ _ (sym known ∙ legal.of_a_card.number_is)) ∙ legal.of_a_card.home in
      let history = (at shards shard).history in
      let stands : StandsFor info.0 row history =
      subst (λ n. StandsFor info.0 row (at shards n).history) home (row-stands issuer rows shards stand number info.0 row info.1 row_is) in
      let room : TakesOneMore (waiting (scripts_of (name_of info.0) history)) =
      subst (λ name. TakesOneMore (waiting (scripts_of name history))) (sym info.2) legal.room in
      let ok : IsOk result = takes.1 (subst TakesOneMore (sym (ap (λ (kept : KeptScripts). kept.commands) stands.scripts_are)) room) in
      let there = ok-then result _ queued ok info.0 history stands in
      let row_there : StandsFor info.0 new (history ++ Queued pan psn command ∷ []) =
      subst (λ name. StandsFor info.0 new (history ++ Queued name.pan name.psn command ∷ [])) info.2 there in
      rows-put number info.0 (Queued pan psn command) new (legal-within (Queued pan psn command) legal) home info.1 (sym info.2) row_there

  -- a status of a card
  pub rows-status : (number : ℕ) (pan : List ℕ) (psn status : ℕ) (row new : CardRow)
      → number_of (named pan psn) issuer.cards ≡ Some number
      → IsLegalStatus (grounds_of issuer) shard (named pan psn) status
      → row ≡ get_or rows number row
      → ((card : CardInfo) (history : List Entry) → StandsFor card row history → StandsFor card new (history ++ Status card.pan card.psn status ∷ []))
      → RowsStand issuer (set rows number new) (with_entry shards shard (Status pan psn status))
  rows-status number pan psn status row new known legal row_is given =
      let info = number_of-found (named pan psn) issuer.cards number known in
      let home : number % issuer.shards ≡ shard =
      ap (λ n. n % issuer.shards) (same_Some _ _ (sym known ∙ legal.of_a_card.number_is)) ∙ legal.of_a_card.home in
      let history = (at shards shard).history in
      let stands : StandsFor info.0 row history =
      subst (λ n. StandsFor info.0 row (at shards n).history) home (row-stands issuer rows shards stand number info.0 row info.1 row_is) in
      let row_there : StandsFor info.0 new (history ++ Status pan psn status ∷ []) =
      subst (λ name. StandsFor info.0 new (history ++ Status name.pan name.psn status ∷ [])) info.2 (given info.0 history stands) in
      rows-put number info.0 (Status pan psn status) new (legal-within (Status pan psn status) legal) home info.1 (sym info.2) row_there

-- a shard with the first records of a history
abbrev pub filled_to : List ShardState → ℕ → List Entry → ℕ → List ShardState
filled_to shards shard history count = set shards shard (record { history = take count history; doubt = None })

-- at first it has none
pub filled-none : (issuer : Setup) (rows : List CardRow) (shards : List ShardState) (shard : ℕ) (history : List Entry) → RowsStand issuer rows shards
    → shard < length shards → (at shards shard).history ≡ [] → RowsStand issuer rows (filled_to shards shard history 0)
filled-none issuer rows shards shard history stand within none =
    subst (λ (l : List Entry). RowsStand issuer rows (set shards shard (record { history = l; doubt = None }))) none
    (rows-doubt issuer rows shards stand shard None within)

-- then one more
filled-history : (shards : List ShardState) (shard count : ℕ) (history : List Entry) → shard < length shards
    → (at (filled_to shards shard history count) shard).history ≡ take count history
filled-history shards shard count history within =
    ap (λ (s : ShardState). s.history) (get_or-set_same shards shard (record { history = take count history; doubt = None }) no_shard within)

filled-entry : (shards : List ShardState) (shard count : ℕ) (history : List Entry) (entry : Entry) → shard < length shards → count < length history
    → entry ≡ get_or history count entry
    → with_entry (filled_to shards shard history count) shard entry ≡ filled_to shards shard history (count + 1)
filled-entry shards shard count history entry within below entry_is =
    let before = filled-history shards shard count history within in
    let more : take (count + 1) history ≡ take count history ++ entry ∷ [] =
    take_more history count entry below ∙ ap (λ (e : Entry). take count history ++ e ∷ []) (sym entry_is) in
    ap (λ (l : List Entry). set (filled_to shards shard history count) shard (record { history = l ++ entry ∷ []; doubt = None })) before
    ∙ set-set shards shard (record { history = take count history; doubt = None }) (record { history = take count history ++ entry ∷ []; doubt = None })
    ∙ ap (λ (l : List Entry). set shards shard (record { history = l; doubt = None })) (sym more)

pub filled-more : (issuer : Setup) (old new : List CardRow) (shards : List ShardState) (shard count : ℕ) (history : List Entry) (entry : Entry)
    → shard < length shards → length shards ≡ issuer.shards → count < length history → entry ≡ get_or history count entry
    → IsLegalHistory (grounds_of issuer) shard history
    → Replays issuer entry count old new → RowsStand issuer old (filled_to shards shard history count)
    → RowsStand issuer new (filled_to shards shard history (count + 1))
filled-more issuer old new shards shard count history entry within long below entry_is legal replays stand =
    let before = filled-history shards shard count history within in
    let there : slice_get history count ≡ Some entry = slice_get-get_or history count entry below ∙ ap Some (sym entry_is) in
    let next : IsLegal (grounds_of issuer) shard (at (filled_to shards shard history count) shard).history entry =
    subst (λ (l : List Entry). IsLegal (grounds_of issuer) shard l entry) (sym before) (legal count entry there) in
    let at_end : count ≡ length (at (filled_to shards shard history count) shard).history =
    sym (length-take-le count history (omega (arith, below))) ∙ ap (λ (l : List Entry). length l) (sym before) in
    subst (RowsStand issuer new) (filled-entry shards shard count history entry within below entry_is)
    (replays (filled_to shards shard history count) shard stand
    (length-set shards shard (record { history = take count history; doubt = None }) ∙ long) next at_end)

-- at last all
pub filled-all : (issuer : Setup) (rows : List CardRow) (shards : List ShardState) (shard count : ℕ) (history : List Entry) → length history ≤ count
    → RowsStand issuer rows (filled_to shards shard history count)
    → RowsStand issuer rows (set shards shard (record { history = history; doubt = None }))
filled-all issuer rows shards shard count history past stand =
    subst (λ (l : List Entry). RowsStand issuer rows (set shards shard (record { history = l; doubt = None }))) (take_all count history past) stand

-- the rows stand for the histories of the first shards, and for none of the others
pub record StandTo (issuer : Setup) (rows : List CardRow) (shards : List ShardState) (count : ℕ) : Type 0 where
  pub now : List ShardState
  pub size : length now ≡ issuer.shards
  pub stand : RowsStand issuer rows now
  pub done : (shard : ℕ) → shard < count → (at now shard).history ≡ (at shards shard).history
  pub empty : (shard : ℕ) → count ≤ shard → (at now shard).history ≡ []

pub stand-none : (issuer : Setup) (old new : List CardRow) (shards : List ShardState) → AreRowsOf issuer old → AreCleared old new
    → StandTo issuer new shards 0
stand-none issuer old new shards rows cleared = record {
  now = replicate issuer.shards no_shard;
  size = length-replicate issuer.shards no_shard;
  stand = cleared-stand issuer old new issuer.shards rows cleared;
  done = λ shard below. absurd (omega (arith, below));
  empty = λ shard above. ap (λ (s : ShardState). s.history) (none-at issuer.shards shard);
}

pub stand-more : (issuer : Setup) (old new : List CardRow) (shards : List ShardState) (count : ℕ) (history : List Entry) → count < issuer.shards
    → history ≡ (at shards count).history → IsLegalHistory (grounds_of issuer) count history
    → ReplaysAll issuer history old new → StandTo issuer old shards count → StandTo issuer new shards (count + 1)
stand-more issuer old new shards count history below history_is legal replays to =
    let put : ShardState = record { history = history; doubt = None } in
    let size = to.size in
    let within : count < length to.now = omega (arith, below, size) in
    record {
      now = set to.now count put;
      size = length-set to.now count put ∙ to.size;
      stand = replays to.now count to.stand to.size below legal (to.empty count (omega arith));
      done = λ shard under. elim (cases_eq shard count) [
        | inl same ↦
            ap (λ n. (at (set to.now count put) n).history) same
            ∙ ap (λ (s : ShardState). s.history) (get_or-set_same to.now count put no_shard within)
            ∙ history_is ∙ ap (λ n. (at shards n).history) (sym same)
        | inr apart ↦
            ap (λ (s : ShardState). s.history) (get_or-set_other to.now count shard put no_shard apart) ∙ to.done shard (omega arith)
      ];
      empty = λ shard above.
          let apart : shard ≢ count = omega arith in
          ap (λ (s : ShardState). s.history) (get_or-set_other to.now count shard put no_shard apart) ∙ to.empty shard (omega arith);
    }

pub stand-all : (issuer : Setup) (rows : List CardRow) (shards : List ShardState) (count : ℕ) → IsIssuer issuer → issuer.shards ≤ count
    → StandTo issuer rows shards count → RowsStand issuer rows shards
stand-all issuer rows shards count valid past to =
    stand-alike issuer rows to.now shards valid to.stand (λ shard below. to.done shard (omega arith))

-- the first so many rows are cleared
pub record ClearedTo (old now : List CardRow) (count : ℕ) : Type 0 where
  pub size : length now ≡ length old
  pub done : (number : ℕ) (row : CardRow) (info : CardInfo) → number < count → slice_get old number ≡ Some row → row.method ≡ info.method
      → (cleared : CardRow) × (slice_get now number ≡ Some cleared) × StandsFor info cleared []
  pub left : (number : ℕ) (row : CardRow) → count ≤ number → slice_get old number ≡ Some row → slice_get now number ≡ Some row

pub cleared-start : (old : List CardRow) → ClearedTo old old 0
cleared-start old = record { size = refl; done = λ number row info below. absurd (omega (arith, below)); left = λ number row above row_is. row_is }

pub cleared-more : (old now : List CardRow) (count : ℕ) (was new : CardRow) → count < length now → was ≡ get_or now count was
    → ((info : CardInfo) → was.method ≡ info.method → StandsFor info new []) → ClearedTo old now count → ClearedTo old (set now count new) (count + 1)
cleared-more old now count was new below was_is clears to = record {
  size = length-set now count new ∙ to.size;
  done = λ number row info under row_is method_is.
      elim (cases_eq number count) [
        | inl same ↦
            let row_there : slice_get now count ≡ Some row = to.left count row (omega arith) (ap (slice_get old) (sym same) ∙ row_is) in
            let there : slice_get now count ≡ Some was = slice_get-get_or now count was below ∙ ap Some (sym was_is) in
            let its : row ≡ was = same_Some _ _ (sym row_there ∙ there) in (
              new,
              ap (slice_get (set now count new)) same ∙ put-read now count was new there,
              clears info (ap (λ (r : CardRow). r.method) (sym its) ∙ method_is),
            )
        | inr apart ↦
            let it = to.done number row info (omega arith) row_is method_is in
            (it.0, put-stays now count number new it.0 apart it.1, it.2)
      ];
  left = λ number row above row_is. put-stays now count number new row (omega arith) (to.left number row (omega arith) row_is);
}

pub cleared-end : (old now : List CardRow) (count : ℕ) → length old ≤ count → ClearedTo old now count → AreCleared old now
cleared-end old now count past to = record {
  count = to.size;
  each = λ number row info row_is method_is.
      let within = slice_get_within old number row row_is in
      to.done number row info (omega (arith, within, past)) row_is method_is;
}

-- the first records of a legal history are legal
legal-take : (grounds : Grounds) (shard : ℕ) (history : List Entry) (count : ℕ) → IsLegalHistory grounds shard history
    → IsLegalHistory grounds shard (take count history)
legal-take grounds shard history count legal place entry is =
    let left = take-left count history place entry is in
    let below = left.1 in
    subst (λ (before : List Entry). IsLegal grounds shard before entry) (sym (take-take place count history (omega (arith, below))))
    (legal place entry left.0)

-- so are those of each shard that was truncated
pub legal-truncated : (issuer : Setup) (keep : List ℕ) (shards : List ShardState) → length keep ≡ length shards → AreLawful issuer shards
    → AreLegalHistories issuer (all_truncated shards keep)
legal-truncated issuer keep shards long lawful shard =
    subst (λ (state : ShardState). IsLegalHistory (grounds_of issuer) shard state.history) (sym (truncated-at shards keep shard long))
    (legal-take (grounds_of issuer) shard (at shards shard).history (get_or keep shard 0) (lawful.legal shard))

-- a decision of a card
pub rows-decision : (issuer : Setup) → IsIssuer issuer → (rows : List CardRow) (shards : List ShardState) (shard : ℕ) → RowsStand issuer rows shards
    → length shards ≡ issuer.shards → (found : CheckedRequest) (request : Request) (reply given : Reply) (place : ℕ) (row new : CardRow) (accepted : Bool)
    → IsRequestAtHand issuer found → found.request ≡ request → given ≡ reply
    → IsLegalDecision (grounds_of issuer) shard (at shards shard).history request reply
    → place ≡ length (at shards shard).history → row ≡ get_or rows found.card row
    → ((card : CardInfo) (history : List Entry) → StandsFor card row history → card_of found.request ≡ name_of card
    → (IsTrue accepted ↔ IsValidSuccessor WINDOW card.method found.keys history found.request given))
    → (IsTrue accepted → (card : CardInfo) (history : List Entry) → StandsFor card row history → card_of found.request ≡ name_of card
    → place ≡ length history → StandsFor card new (history ++ Decided found.request given ∷ []))
    → RowsStand issuer (set rows found.card new) (with_entry shards shard (Decided request reply))
rows-decision issuer valid rows shards shard stand count found request reply given place row new accepted at_hand same same_reply legal at_end row_is exact
    adopted =
    let number_is : number_of (card_of request) issuer.cards ≡ Some found.card =
    ap (λ (q : Request). number_of (card_of q) issuer.cards) (sym same) ∙ at_hand.card_is.number_is in
    let home : found.card % issuer.shards ≡ shard =
    ap (λ n. n % issuer.shards) (same_Some _ _ (sym number_is ∙ legal.of_a_card.number_is)) ∙ legal.of_a_card.home in
    let within = legal-within issuer valid rows shards shard stand count (Decided request reply) legal in
    subst (λ shard. RowsStand issuer (set rows found.card new) (with_entry shards shard (Decided request reply))) home
    (rows-join issuer rows shards stand count found request reply given place row new accepted at_hand same same_reply
    (subst (λ n. n < length shards) (sym home) within)
    (subst (λ n. IsLegalDecision (grounds_of issuer) n (at shards n).history request reply) (sym home) legal)
    (at_end ∙ ap (λ n. length (at shards n).history) (sym home)) row_is exact adopted)
