-- Each list of legal histories is that of a run: each decided record is a claim and a write of its own bytes, each other record a queue or
-- a status.
use Rattle.std.proofs.Common.{◌≡◌, ◌≢◌, ℕ, zero, suc, ◌%◌, ◌<◌, ◌≤◌, true, List, [], ◌∷◌, ◌++◌, length, take, map, replicate, get_or, set, None, Some}
use Rattle.std.proofs.Common.{All, Ok, refl, ap, sym, ◌∙◌, subst, inl, inr, arith, append-nil, append_assoc}
use Rattle.std.proofs.lemmas.Bool.{cases_eq}
use Rattle.std.proofs.lemmas.List.{get_or-set_same, get_or-set_other, take_at, length-map}
use Rattle.std.proofs.lemmas.List.Elements.{All-append, All-cons, All-nil}
use Rattle.std.proofs.lemmas.Option.{get_or_from_slice_get, slice_get_within}
use Rattle.std.specs.List.{slice_get}
use Rattle.issuer_base.specs.declared.limits.TheConstants.{MAX_CHIP_BYTES}
use Rattle.issuer_base.specs.declared.request.Request.{Request}
use Rattle.issuer_base.specs.declared.answer.Reply.{Reply}
use Rattle.issuer_base.specs.declared.entry.Entry.{Entry}
use Rattle.issuer_base.specs.declared.entry.Entry.TheVariants.{Decided, Queued as IsQueued, Status as IsStatus}
use Rattle.card_history.specs.LegalRecords.{IsLegal, IsLegalDecision, IsLegalCommand, IsLegalStatus, IsLegalHistory}
use Rattle.issuer_base.specs.CardNames.{CardName, named}
use Rattle.issuer_setup.specs.IssuerSetup.{Setup}
use Rattle.issuer_setup.proofs.CardListLemmas.{number_of-found}
use Rattle.issuer_setup.specs.KeyList.{AreKeys}
use Rattle.key_derive.specs.declared.card.KeySet.{KeySet}
use Rattle.card_model.specs.Application.{CardState}
use Rattle.chip_request.specs.Reading.{request_of}
use Rattle.journal_rec.specs.Record.{IsEntry}
use Rattle.terminal_kernel.specs.Requested.{chip_data}
use Rattle.terminal_kernel.proofs.LineRequestRead.{request_of-chip_data, length-chip_data}
use Rattle.shard_book.specs.Grounds.{grounds_of}
use Rattle.shard_book.proofs.LegalDecisions.{legal-checked}
use Rattle.world_net.specs.declared.event.Event.{Event}
use Rattle.world_net.specs.declared.event.Event.TheVariants.{Claim, Write, Queue, Status}
use Rattle.world_net.specs.declared.parts.OpenClaim.{OpenClaim}
use Rattle.world_net.specs.WorldState.{WorldState, ShardState, no_shard, home_of, history_for, histories_of}
use Rattle.world_net.specs.WorldRuns.{IsIssuer, IsRunFrom}
use Rattle.world_net.specs.Histories.{AreLegal, AreHeld, HasRoom, HasRun}
use Rattle.world_net.proofs.Hosts.{at, recorded, AreLawful, lawful-record, home-within, legal-home, histories-at, none-at, none-lawful}
use Rattle.world_net.proofs.Worlds.{home-shard}
use Rattle.world_net.proofs.NewWorlds.{new-world, des_card, des_cards-under}
use Rattle.issuer_base.specs.declared.request.Suite.TheVariants.{TripleDes}

-- chip data say the request, as many as an event holds
record IsSaid (request : Request) : Type 0 where
  bytes : List ℕ
  few : length bytes ≤ MAX_CHIP_BYTES
  read : request_of bytes ≡ Ok request

-- so do those that are written for it
said-held : (request : Request) (reply : Reply) (entry : Entry) → IsEntry entry → entry ≡ Decided request reply → IsSaid request
said-held request reply entry held is =
    let decided : IsEntry (Decided request reply) = subst IsEntry is held in
    let few = (length-chip_data request decided.0).1 in
    record { bytes = chip_data request; few = omega arith; read = request_of-chip_data request decided.0 }

-- what is known of each element is known of the one at a place
held-at : (history : List Entry) (place : ℕ) (entry : Entry) → All IsEntry history → slice_get history place ≡ Some entry → IsEntry entry
held-at history place entry held there =
    subst IsEntry (get_or_from_slice_get history place entry entry there) (held place entry (slice_get_within history place entry there))

-- two runs, one after the other, are a run
pub run-append : (first middle last : WorldState) (events more : List Event) → IsRunFrom first events middle → IsRunFrom middle more last
    → IsRunFrom first (events ++ more) last
run-append first middle last [] more run rest = subst (λ (w : WorldState). IsRunFrom w more last) run rest
run-append first middle last (event ∷ events) more (between, step, run) rest = (between, step, run-append between middle last events more run rest)

-- the element behind a front
slice_get-middle : (before : List Entry) (entry : Entry) (rest : List Entry) → slice_get (before ++ entry ∷ rest) (length before) ≡ Some entry
slice_get-middle [] entry rest = refl
slice_get-middle (first ∷ before) entry rest = slice_get-middle before entry rest

-- lists that are alike at each place are the same
same-lists : (xs ys : List (List Entry)) → length xs ≡ length ys → ((k : ℕ) → k < length xs → get_or xs k [] ≡ get_or ys k []) → xs ≡ ys
same-lists [] [] long alike = refl
same-lists [] (y ∷ ys) long alike = absurd (omega (arith, long))
same-lists (x ∷ xs) [] long alike = absurd (omega (arith, long))
same-lists (x ∷ xs) (y ∷ ys) long alike =
    let rest = same-lists xs ys (omega (arith, long)) (λ k below. alike (suc k) (omega arith)) in
    ap (λ (z : List Entry). z ∷ xs) (alike 0 (omega arith)) ∙ ap (λ (zs : List (List Entry)). y ∷ zs) rest

module _ (issuer : Setup) (cards : List CardState) (valid : IsIssuer issuer) where
  -- the world with these shards, in which no card was tapped and nothing was sent
  abbrev filled : List ShardState → WorldState
  filled shards = record { issuer = issuer; cards = cards; made = []; shards = shards; claims = []; sent = [] }

  -- a run from some shards to others
  record Fills (before after : List ShardState) : Type 0 where
    events : List Event
    room : All HasRoom events
    run : IsRunFrom (filled before) events (filled after)

  -- one decision: a claim and a write of the request's own bytes
  fills-decision : (shards : List ShardState) (shard : ℕ) (request : Request) (reply : Reply) → IsSaid request
      → IsLegalDecision (grounds_of issuer) shard (at shards shard).history request reply
      → Fills shards (recorded shards shard (Decided request reply))
  fills-decision shards shard request reply said legal =
      let before = filled shards in
      let claim : OpenClaim = record { caller = 0; request = request } in
      let claimed : WorldState = record before { claims = claim ∷ [] } in
      let home : home_of before request ≡ shard = home-shard before request shard legal.of_a_card in
      let legal_home : IsLegalDecision (grounds_of issuer) (home_of before request) (history_for before request) request reply =
      subst (λ shard. IsLegalDecision (grounds_of issuer) shard (at shards shard).history request reply) (sym home) legal in
      record {
        events = Claim 0 (record { items = said.bytes }) ∷ Write 0 true ∷ [];
        room = All-cons HasRoom (Claim 0 (record { items = said.bytes })) (Write 0 true ∷ []) said.few
            (All-cons HasRoom (Write 0 true) [] tt (All-nil HasRoom));
        run = (
          claimed,
          record {
            can = record {
              request = request;
              idle = refl;
              read = said.read;
              checked = legal-checked issuer legal;
              free = record { unrecorded = legal_home.unrecorded; unclaimed = λ k claim below. absurd (omega arith) };
            };
            after_is = refl;
          },
          (
            filled (recorded shards shard (Decided request reply)),
            record {
              claim = claim;
              reply = reply;
              claim_is = refl;
              legal = legal_home;
              after_is = ap (λ shard. filled (recorded shards shard (Decided request reply))) (sym home);
            },
            refl,
          ),
        );
      }

  -- one record of a shard
  fills-record : (shards : List ShardState) (shard : ℕ) (entry : Entry)
      → ((request : Request) (reply : Reply) → entry ≡ Decided request reply → IsSaid request)
      → IsLegal (grounds_of issuer) shard (at shards shard).history entry → Fills shards (recorded shards shard entry)
  fills-record shards shard (Decided request reply) said legal = fills-decision shards shard request reply (said request reply refl) legal
  fills-record shards shard (IsQueued pan psn command) said legal =
      let number = legal.of_a_card.number in
      let info = number_of-found (named pan psn) issuer.cards number legal.of_a_card.number_is in
      let home : number % issuer.shards ≡ shard = legal.of_a_card.home in
      record {
        events = Queue number command ∷ [];
        room = All-cons HasRoom (Queue number command) [] tt (All-nil HasRoom);
        run = (
          filled (recorded shards shard (IsQueued pan psn command)),
          record {
            can = record {
              card = info.0;
              card_is = info.1;
              legal = subst (λ (name : CardName). IsLegalCommand (grounds_of issuer) (number % issuer.shards)
                  (at shards (number % issuer.shards)).history name command) (sym info.2)
                  (subst (λ shard. IsLegalCommand (grounds_of issuer) shard (at shards shard).history (named pan psn) command) (sym home) legal);
            };
            after_is = ap (λ shard. filled (recorded shards shard (IsQueued pan psn command))) (sym home)
                ∙ ap (λ (name : CardName). filled (recorded shards (number % issuer.shards) (IsQueued name.pan name.psn command))) (sym info.2);
          },
          refl,
        );
      }
  fills-record shards shard (IsStatus pan psn status) said legal =
      let number = legal.of_a_card.number in
      let info = number_of-found (named pan psn) issuer.cards number legal.of_a_card.number_is in
      let home : number % issuer.shards ≡ shard = legal.of_a_card.home in
      record {
        events = Status number status ∷ [];
        room = All-cons HasRoom (Status number status) [] tt (All-nil HasRoom);
        run = (
          filled (recorded shards shard (IsStatus pan psn status)),
          record {
            can = record {
              card = info.0;
              card_is = info.1;
              legal = subst (λ (name : CardName). IsLegalStatus (grounds_of issuer) (number % issuer.shards) name status) (sym info.2)
                  (subst (λ shard. IsLegalStatus (grounds_of issuer) shard (named pan psn) status) (sym home) legal);
            };
            after_is = ap (λ shard. filled (recorded shards shard (IsStatus pan psn status))) (sym home)
                ∙ ap (λ (name : CardName). filled (recorded shards (number % issuer.shards) (IsStatus name.pan name.psn status))) (sym info.2);
          },
          refl,
        );
      }

  fills-none : (shards : List ShardState) → Fills shards shards
  fills-none shards = record { events = []; room = All-nil HasRoom; run = refl }

  fills-then : (first middle last : List ShardState) → Fills first middle → Fills middle last → Fills first last
  fills-then first middle last one other = record {
    events = one.events ++ other.events;
    room = All-append HasRoom one.events other.events one.room other.room;
    run = run-append (filled first) (filled middle) (filled last) one.events other.events one.run other.run;
  }

  -- the shards once one of them has this history
  record IsFilledAt (shards : List ShardState) (shard : ℕ) (history : List Entry) : Type 0 where
    after : List ShardState
    fills : Fills shards after
    lawful : AreLawful issuer after
    here : (at after shard).history ≡ history
    others : (other : ℕ) → other ≢ shard → at after other ≡ at shards other

  -- the rest of a shard's history, record by record
  fill-rest : (history : List Entry) (shard : ℕ) → IsLegalHistory (grounds_of issuer) shard history
      → All IsEntry history
      → (before rest : List Entry) → before ++ rest ≡ history → (shards : List ShardState) → AreLawful issuer shards
      → (at shards shard).history ≡ before → IsFilledAt shards shard history
  fill-rest history shard legal held before [] whole shards lawful is = record {
    after = shards;
    fills = fills-none shards;
    lawful = lawful;
    here = is ∙ sym (append-nil before) ∙ whole;
    others = λ other apart. refl;
  }
  fill-rest history shard legal held before (entry ∷ rest) whole shards lawful is =
      let there : slice_get history (length before) ≡ Some entry =
      ap (λ (l : List Entry). slice_get l (length before)) (sym whole) ∙ slice_get-middle before entry rest in
      let front : take (length before) history ≡ before = ap (take (length before)) (sym whole) ∙ take_at before (entry ∷ rest) (length before) refl in
      let next : IsLegal (grounds_of issuer) shard (at shards shard).history entry =
      subst (λ (l : List Entry). IsLegal (grounds_of issuer) shard l entry) (front ∙ sym is) (legal (length before) entry there) in
      let below = home-within issuer shard _ valid (legal-home issuer shard (at shards shard).history entry next) in
      let count = lawful.count in
      let within : shard < length shards = omega arith in
      let new : ShardState = record { history = (at shards shard).history ++ entry ∷ []; doubt = None } in
      let more = recorded shards shard entry in
      let one = fills-record shards shard entry
      (λ request reply its. said-held request reply entry (held-at history (length before) entry held there) its) next in
      let read : (at more shard).history ≡ before ++ entry ∷ [] =
      ap (λ (s : ShardState). s.history) (get_or-set_same shards shard new no_shard within) ∙ ap (λ (l : List Entry). l ++ entry ∷ []) is in
      let rec = fill-rest history shard legal held (before ++ entry ∷ []) rest (append_assoc before (entry ∷ []) rest ∙ whole) more
      (lawful-record issuer shards shard entry valid lawful next) read in
      record {
        after = rec.after;
        fills = fills-then shards more rec.after one rec.fills;
        lawful = rec.lawful;
        here = rec.here;
        others = λ other apart. rec.others other apart ∙ get_or-set_other shards shard other new no_shard apart;
      }

  -- the shards once the first so many of them have their histories
  record IsFilledTo (histories : List (List Entry)) (count : ℕ) : Type 0 where
    after : List ShardState
    fills : Fills (replicate issuer.shards no_shard) after
    lawful : AreLawful issuer after
    done : (shard : ℕ) → shard < count → (at after shard).history ≡ get_or histories shard []
    empty : (shard : ℕ) → count ≤ shard → at after shard ≡ no_shard

  fill-to : (histories : List (List Entry)) → AreLegal issuer histories → AreHeld histories → (count : ℕ) → IsFilledTo histories count
  fill-to histories legal held zero = record {
    after = replicate issuer.shards no_shard;
    fills = fills-none (replicate issuer.shards no_shard);
    lawful = none-lawful issuer;
    done = λ shard below. absurd (omega arith);
    empty = λ shard above. none-at issuer.shards shard;
  }
  fill-to histories legal held (suc count) =
      let before = fill-to histories legal held count in
      let none : (at before.after count).history ≡ [] = ap (λ (s : ShardState). s.history) (before.empty count (omega arith)) in
      let it = fill-rest (get_or histories count []) count (legal.each count) (held count)
      [] (get_or histories count []) refl before.after before.lawful none in
      record {
        after = it.after;
        fills = fills-then (replicate issuer.shards no_shard) before.after it.after before.fills it.fills;
        lawful = it.lawful;
        done = λ shard below. elim (cases_eq shard count) [
          | inl same ↦ ap (λ n. (at it.after n).history) same ∙ it.here ∙ ap (λ n. get_or histories n []) (sym same)
          | inr apart ↦ ap (λ (s : ShardState). s.history) (it.others shard apart) ∙ before.done shard (omega arith)
        ];
        empty = λ shard above.
            let apart : shard ≢ count = omega arith in
            it.others shard apart ∙ before.empty shard (omega arith);
      }

  -- the histories of the shards that are filled are the histories
  filled-histories : (histories : List (List Entry)) → AreLegal issuer histories → (to : IsFilledTo histories issuer.shards)
      → histories_of (filled to.after) ≡ histories
  filled-histories histories legal to =
      let long : length (map (λ (s : ShardState). s.history) to.after) ≡ length histories =
      length-map to.after (λ (s : ShardState). s.history) ∙ to.lawful.count ∙ sym legal.count in
      let count = legal.count in
      same-lists (map (λ (s : ShardState). s.history) to.after) histories long
      (λ k below. histories-at to.after k ∙ to.done k (omega arith))

first-key : (keys : List KeySet) → 1 ≤ length keys → (set : KeySet) × (slice_get keys 0 ≡ Some set)
first-key [] some = absurd (omega arith)
first-key (set ∷ keys) some = (set, refl)

-- so there is a run with these histories
pub histories-run : (issuer : Setup) (histories : List (List Entry)) → IsIssuer issuer → AreKeys issuer.keys → AreLegal issuer histories → AreHeld histories
    → HasRun issuer histories
histories-run issuer histories valid keys legal held =
    let set = first-key issuer.keys keys.some in
    let cards = map (des_card set.0) issuer.cards in
    let to = fill-to issuer cards valid histories legal held issuer.shards in
    record {
      events = to.fills.events;
      room = to.fills.room;
      world = filled issuer cards valid to.after;
      run = (
        filled issuer cards valid (replicate issuer.shards no_shard),
        new-world issuer TripleDes cards (replicate issuer.shards no_shard) [] [] []
            (record { set = set.0; first = set.1; cards_are = des_cards-under set.0 issuer.cards }) refl refl refl refl,
        to.fills.run,
      );
      histories_are = filled-histories issuer cards valid histories legal to;
    }
