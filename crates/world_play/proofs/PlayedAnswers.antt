-- What the host's answer to a request makes of a world of a played run: a new decision is claimed, written and sent, and a kept reply is sent again.
use Rattle.std.proofs.Common.{◌≡◌, ℕ, zero, suc, ◌<◌, true, false, List, [], ◌∷◌, ◌++◌, length, set, get_or, Option, Some, None, IsTrue}
use Rattle.std.proofs.Common.{Contains, refl, ap, sym, ◌∙◌, subst}
use Rattle.std.specs.Prelude.{slice_get, slice_set}
use Rattle.std.specs.Option.{option_map, option_map_or}
use Rattle.std.proofs.lemmas.Bool.{true≢false}
use Rattle.std.proofs.lemmas.List.{map-set}
use Rattle.std.proofs.lemmas.List.Elements.{Contains-push}
use Rattle.std.proofs.lemmas.Option.{same_Some, none-some, slice_get-map, get_or_from_slice_get}
use Rattle.issuer_base.specs.declared.request.Request.{Request}
use Rattle.issuer_base.specs.declared.answer.Method.{Method}
use Rattle.issuer_base.specs.declared.answer.Reply.{Reply}
use Rattle.issuer_base.specs.declared.answer.Answer.{Answer}
use Rattle.issuer_base.specs.declared.answer.Answer.TheVariants.{Fresh, Kept, Queued as IsQueuedAnswer, Set as IsSetAnswer, Refused}
use Rattle.issuer_base.specs.declared.answer.Refusal.{Refusal}
use Rattle.issuer_base.specs.declared.answer.Refusal.TheVariants.{BadLine, BadTlv, Missing, BadField, Repeated, UnknownCard, NotArqc, UnknownKey, BadCryptogram}
use Rattle.issuer_base.specs.declared.answer.Refusal.TheVariants.{Below, Taken, Pending, QueueFull, BadCommand, StoreFault}
use Rattle.issuer_base.specs.declared.entry.Entry.{Entry}
use Rattle.issuer_base.specs.declared.entry.Entry.TheVariants.{Decided}
use Rattle.issuer_base.specs.declared.limits.TheConstants.{WINDOW}
use Rattle.issuer_base.specs.ChipData.{amount_value}
use Rattle.issuer_base.proofs.ChipDataLemmas.{amount_value-below}
use Rattle.card_history.specs.LegalRecords.{IsLegalDecision}
use Rattle.card_history.specs.OneReply.{reply_in}
use Rattle.issuer_base.specs.CardNames.{CardName}
use Rattle.card_history.specs.Records.{card_of, status_of}
use Rattle.card_history.specs.Scripts.{scripts_of}
use Rattle.card_history.specs.Turns.{IsUnused, decided_for}
use Rattle.card_history.proofs.RecordPlaces.{decided-recorded}
use Rattle.decision_table.specs.declared.row.TableRow.{TableRow}
use Rattle.decision_table.specs.Fitting.{decision}
use Rattle.decision_table.specs.Tables.{is_table, tells_approval, takes_all}
use Rattle.decision_table.proofs.DecisionLemmas.{decides, decision-table}
use Rattle.issuer_setup.specs.declared.card.CardInfo.{CardInfo}
use Rattle.issuer_setup.specs.CardList.{number_of}
use Rattle.issuer_setup.specs.IssuerSetup.{Setup, shard_of, keys_of}
use Rattle.issuer_setup.proofs.Shards.{shard_of-known}
use Rattle.cryptogram_in.specs.Cryptogram.{application_cryptogram, cryptogram_under}
use Rattle.key_derive.specs.CardKey.{des_keys}
use Rattle.key_derive.specs.SuiteMac.{mac_of}
use Rattle.retail_mac.proofs.Blocks.{length-retail_mac}
use Rattle.key_derive.specs.declared.card.CardKeys.{CardKeys}
use Rattle.row_core.specs.Accepting.{IsMade as IsMadeReply}
use Rattle.row_core.specs.Replying.{reply_to, reply_of_card, reply_by, reply_by_row, no_reply}
use Rattle.terminal_kernel.proofs.FieldsOf.{has_fields}
use Rattle.shard_book.specs.Answering.{is_store_fault, AnswersClaimed}
use Rattle.shard_book.specs.Grounds.{IsMadeBy, grounds_of}
use Rattle.shard_book.proofs.LegalDecisions.{legal-by}
use Rattle.shard_book.proofs.OwnDecisions.{row-made}
use Rattle.host_loading.specs.Books.{ShardBook, histories_of as book_histories}
use Rattle.one_caller.specs.Turns.{AnswersIn}
use Rattle.host_loading.proofs.Places.{write-same}
use Rattle.world_net.specs.declared.parts.MadeRequest.{MadeRequest}
use Rattle.world_net.specs.declared.parts.Exchange.{Exchange}
use Rattle.world_net.specs.WorldState.{WorldState, ShardState, shard_at, record_in, histories_of, with_record}
use Rattle.world_net.specs.WorldRuns.{IsIssuer}
use Rattle.world_net.proofs.Hosts.{histories-at}
use Rattle.world_net.proofs.Worlds.{shard-within}
use Rattle.world_play.specs.Setting.{key_set, table, row_from, card_info, issuer}
use Rattle.world_play.proofs.PlayedCards.{card-at, number-known}
use Rattle.world_play.specs.Cards.{IsRight}
use Rattle.world_play.proofs.PlayedWorlds.{IsPlayed, played-sound, played-written, played-sent, after_written, after_sent, record-there}

-- ---- the issuer's own decision

record IsWhole (row : TableRow) : Type 0 where
  arc : length row.arc ≡ 2
  told : tells_approval row ≡ true

first-whole : IsWhole (row_from 500000 (0x30 ∷ 0x35 ∷ []) false (0 ∷ 0 ∷ 0 ∷ 0 ∷ []))
unfolding tells_approval
first-whole = record { arc = refl; told = refl }

second-whole : IsWhole (row_from 0 (0x30 ∷ 0x30 ∷ []) true (0x00 ∷ 0x80 ∷ 0x00 ∷ 0x00 ∷ []))
unfolding tells_approval
second-whole = record { arc = refl; told = refl }

row-whole : (place : ℕ) (row : TableRow) → slice_get table place ≡ Some row → IsWhole row
row-whole zero row is = subst IsWhole (same_Some _ _ is) first-whole
row-whole (suc zero) row is = subst IsWhole (same_Some _ _ is) second-whole
row-whole (suc (suc place)) row is = absurd (none-some row is)

table-whole : IsTrue (is_table table)
unfolding is_table tells_approval takes_all
table-whole = refl

-- a cryptogram with triple DES has eight bytes
cryptogram-whole : (pan : List ℕ) (request : Request) → length (application_cryptogram (des_keys key_set pan 0) request) ≡ 8
unfolding application_cryptogram cryptogram_under mac_of
cryptogram-whole pan request = length-retail_mac _ _

found-made : (method : Method) (keys : CardKeys) (history : List Entry) (request : Request) (found : Option TableRow)
    → length (application_cryptogram keys request) ≡ 8 → amount_value request < 1000000000000
    → decision table (status_of (card_of request) history) request ≡ found
    → IsMadeReply method keys (scripts_of (card_of request) history) request
    (option_map_or (reply_by_row method keys (scripts_of (card_of request) history) request) found no_reply)
found-made method keys history request None ac_whole below is =
    absurd (decision-table table (status_of (card_of request) history) request below table-whole is)
found-made method keys history request (Some row) ac_whole below is =
    let at = decides table (status_of (card_of request) history) request row table-whole is in
    let whole = row-whole at.place row at.stands in
    row-made keys (scripts_of (card_of request) history) request row whole.arc ac_whole whole.told method

module _ (cards number : ℕ) (request : Request) (right : IsRight cards number request) (valid : IsIssuer (issuer cards)) where
  -- the request's card is known
  pub right-known : number_of (card_of request) (issuer cards).cards ≡ Some number
  right-known = ap (λ (name : CardName). number_of name (issuer cards).cards) right.its ∙ number-known cards number valid right.below

  -- the issuer makes its own decision of a request
  pub own-made : (history : List Entry) → IsMadeBy (issuer cards) history request (reply_to (issuer cards) history request)
  own-made history =
      let info = card_info number in
      let keys = des_keys key_set info.pan 0 in
      let amount = (has_fields request right.held).amount.size in
      let below = amount_value-below request right.held.has_form amount in
      let made : reply_to (issuer cards) history request
      ≡ option_map_or (reply_by_row info.method keys (scripts_of (card_of request) history) request)
      (decision table (status_of (card_of request) history) request) no_reply =
      ap (λ (number : Option ℕ). reply_of_card (issuer cards) number history request) right-known
      ∙ ap (λ (card : Option CardInfo). reply_by card (keys_of (issuer cards) number request) table history request) (card-at cards number right.below)
      ∙ ap (λ (keys : Option CardKeys). reply_by (Some info) keys table history request) right.keys_are in
      record {
        number = number;
        card = info;
        keys = keys;
        number_is = right-known;
        card_is = card-at cards number right.below;
        keys_are = right.keys_are;
        made = subst (IsMadeReply info.method keys (scripts_of (card_of request) history) request) (sym made)
            (found-made info.method keys history request (decision table (status_of (card_of request) history) request)
            (cryptogram-whole info.pan request) below refl);
      }

-- ---- histories and books

-- a shard's history is that of its book
pub book-history : (world : WorldState) (books : List ShardBook) → histories_of world ≡ book_histories books → (shard : ℕ) (book : ShardBook)
    → slice_get books shard ≡ Some book → (shard_at world shard).history ≡ book.history
book-history world books same shard book is =
    sym (histories-at world.shards shard)
    ∙ ap (λ (histories : List (List Entry)). get_or histories shard []) same
    ∙ get_or_from_slice_get (book_histories books) shard book.history []
    (slice_get-map (λ (b : ShardBook). b.history) books shard ∙ ap (λ (found : Option ShardBook). option_map (λ (b : ShardBook). b.history) found) is)

-- one more record in a shard is one more in its book
pub histories-more : (world : WorldState) (books : List ShardBook) → histories_of world ≡ book_histories books → (shard : ℕ) (old new : ShardBook) (entry : Entry)
    → slice_get books shard ≡ Some old → new.history ≡ old.history ++ entry ∷ []
    → histories_of (with_record world shard entry) ≡ book_histories (slice_set books shard new)
histories-more world books same shard old new entry is grown =
    let state : ShardState = record { history = (shard_at world shard).history ++ entry ∷ []; doubt = None } in
    let history : state.history ≡ new.history =
    ap (λ (history : List Entry). history ++ entry ∷ []) (book-history world books same shard old is) ∙ sym grown in
    map-set (λ (s : ShardState). s.history) world.shards shard state
    ∙ (λ i. set (same i) shard (history i))
    ∙ sym (map-set (λ (b : ShardBook). b.history) books shard new)

-- and a book that didn't grow leaves the histories
pub histories-stay : (books : List ShardBook) (shard : ℕ) (old new : ShardBook) → slice_get books shard ≡ Some old → new.history ≡ old.history
    → book_histories books ≡ book_histories (slice_set books shard new)
histories-stay books shard old new is same =
    sym (write-same (book_histories books) shard old.history new.history
    (slice_get-map (λ (b : ShardBook). b.history) books shard ∙ ap (λ (found : Option ShardBook). option_map (λ (b : ShardBook). b.history) found) is) same)
    ∙ sym (map-set (λ (b : ShardBook). b.history) books shard new)

-- ---- the answer to a request

-- the world after an answer to a request, with the books after it
pub record IsAfterAnswer (cards : ℕ) (world : WorldState) (request : Request) (answer : Answer) (books : List ShardBook) (after : WorldState) : Type 0 where
  pub played : IsPlayed cards after
  pub histories : histories_of after ≡ book_histories books
  pub cards_are : after.cards ≡ world.cards
  pub made : (made : MadeRequest) → Contains world.made made → Contains after.made made
  pub sent : (reply : Reply) → reply_in answer ≡ Some reply → Contains after.sent (record { request = request; reply = reply })

abbrev pub HasAfter : ℕ → WorldState → Request → Answer → List ShardBook → Type 0
HasAfter cards world request answer books = (after : WorldState) × IsAfterAnswer cards world request answer books after

module _ (cards number : ℕ) (valid : IsIssuer (issuer cards)) (world : WorldState) (played : IsPlayed cards world) (books after : List ShardBook)
    (same : histories_of world ≡ book_histories books) (request : Request) (made : Contains world.made (record { card = number; request = request })) where
  -- what may be answered
  abbrev pub MayAnswer : Answer → Type 0
  MayAnswer answer =
      AnswersIn (issuer cards) books (card_of request) answer
      (λ shard old new. AnswersClaimed shard (reply_to (issuer cards)) true old request answer new) after

  right : IsRight cards number request
  right = played.made number request made

  -- no event, where nothing is told that is a reply
  nothing : (answer : Answer) (it : MayAnswer answer) → reply_in answer ≡ None → it.new.history ≡ it.old.history → HasAfter cards world request answer after
  nothing answer it none stays = (
    world,
    record {
      played = played;
      histories = same ∙ histories-stay books (shard_of (issuer cards) (card_of request)) it.old it.new it.old_is stays
          ∙ ap book_histories (sym it.after_is);
      cards_are = refl;
      made = λ made here. here;
      sent = λ reply is. absurd (none-some reply (sym none ∙ is));
    },
  )

  -- a new decision
  fresh : (at place : ℕ) (reply : Reply) → MayAnswer (Fresh at place reply) → HasAfter cards world request (Fresh at place reply) after
  fresh at place reply it =
      let shard = shard_of (issuer cards) (card_of request) in
      let told = it.changes.1 in
      let history = book-history world books same shard it.old it.old_is in
      let known = right-known cards number request right valid in
      let unused : IsUnused (decided_for request (shard_at world shard).history) request =
      subst (λ (history : List Entry). IsUnused (decided_for request history) request) (sym history) told.0 in
      let legal : IsLegalDecision (grounds_of (issuer cards)) shard (shard_at world shard).history request reply =
      legal-by (issuer cards) WINDOW (IsMadeBy (issuer cards)) shard (shard_at world shard).history request reply
      (record { number = number; number_is = known; home = sym (shard_of-known (issuer cards) (card_of request) number known) })
      right.checks unused.in_window unused.unrecorded
      (subst (λ (history : List Entry). IsMadeBy (issuer cards) history request reply) (sym history)
      (subst (IsMadeBy (issuer cards) it.old.history request) (sym told.3)
      (own-made cards number request right valid it.old.history))) in
      let here : IsLegalDecision (grounds_of world.issuer) (shard_of world.issuer (card_of request))
      (shard_at world (shard_of world.issuer (card_of request))).history request reply =
      subst (λ (setup : Setup). IsLegalDecision (grounds_of setup) (shard_of setup (card_of request))
      (shard_at world (shard_of setup (card_of request))).history request reply)
      (sym played.issuer_is) legal in
      let home = shard_of world.issuer (card_of request) in
      let entry = Decided request reply in
      let number_is = ap (λ (setup : Setup). number_of (card_of request) setup.cards) played.issuer_is ∙ known in
      let done = played-written cards valid world played number request reply made number_is here in
      let between = after_written cards valid world played request reply in
      let within = shard-within world (played-sound cards world valid played) home entry here in
      let sent = played-sent cards valid between done home (length (shard_at world home).history) request reply (record-there world home entry within) in
      let exchange : Exchange = record { request = request; reply = reply } in (
        after_sent cards valid between done request reply,
        record {
          played = sent;
          histories = ap (λ shard. histories_of (with_record world shard entry)) (ap (λ (setup : Setup). shard_of setup (card_of request)) played.issuer_is)
              ∙ histories-more world books same shard it.old it.new entry it.old_is told.4
              ∙ ap book_histories (sym it.after_is);
          cards_are = refl;
          made = λ made here. here;
          sent = λ other is. subst (λ (reply : Reply). Contains (world.sent ++ exchange ∷ []) (record { request = request; reply = reply }))
              (same_Some _ _ is) (Contains-push world.sent exchange);
        },
      )

  -- a kept reply
  kept : (at place : ℕ) (reply : Reply) → MayAnswer (Kept at place reply) → HasAfter cards world request (Kept at place reply) after
  kept at place reply it =
      let shard = shard_of (issuer cards) (card_of request) in
      let told = it.changes in
      let history = book-history world books same shard it.old it.old_is in
      let found = decided-recorded (card_of request) it.old.history (record { request = request; reply = reply; place = place }) told.0.recorded in
      let there : record_in world shard place ≡ Some (Decided request reply) =
      ap (λ (history : List Entry). slice_get history place) history ∙ found.0 in
      let exchange : Exchange = record { request = request; reply = reply } in (
        after_sent cards valid world played request reply,
        record {
          played = played-sent cards valid world played shard place request reply there;
          histories = same ∙ histories-stay books shard it.old it.new it.old_is told.2 ∙ ap book_histories (sym it.after_is);
          cards_are = refl;
          made = λ made here. here;
          sent = λ other is. subst (λ (reply : Reply). Contains (world.sent ++ exchange ∷ []) (record { request = request; reply = reply }))
              (same_Some _ _ is) (Contains-push world.sent exchange);
        },
      )

  refused : (refusal : Refusal) → is_store_fault (Refused refusal) ≡ false → MayAnswer (Refused refusal) → HasAfter cards world request (Refused refusal) after
  refused (BadLine column) works it = absurd it.changes
  refused (BadTlv place) works it = absurd it.changes
  refused (Missing tag) works it = absurd it.changes
  refused (BadField tag) works it = absurd it.changes
  refused (Repeated tag) works it = absurd it.changes
  refused UnknownCard works it = absurd it.changes
  refused NotArqc works it = absurd it.changes
  refused (UnknownKey index) works it = absurd it.changes
  refused BadCryptogram works it = absurd it.changes
  refused (Below top) works it = nothing (Refused (Below top)) it refl it.changes.1
  refused (Taken at place) works it = nothing (Refused (Taken at place)) it refl it.changes.2
  refused Pending works it = absurd (true≢false it.changes.0)
  refused QueueFull works it = absurd it.changes
  refused BadCommand works it = absurd it.changes
  refused StoreFault works it = absurd (true≢false works)

  -- each answer but that the store failed
  pub answered-world : (answer : Answer) → is_store_fault answer ≡ false → MayAnswer answer → HasAfter cards world request answer after
  answered-world (Fresh at place reply) works it = fresh at place reply it
  answered-world (Kept at place reply) works it = kept at place reply it
  answered-world (IsQueuedAnswer at place) works it = absurd it.changes
  answered-world (IsSetAnswer at place) works it = absurd it.changes
  answered-world (Refused refusal) works it = refused refusal works it
