-- The worlds of an issuer's machines.
use Rattle.std.proofs.Common.{◌≡◌, ℕ, ◌<◌, List, [], ◌∷◌, length, get_or, Some, Contains, refl, ap, sym, ◌∙◌, subst, arith}
use Rattle.std.specs.List.{slice_get}
use Rattle.std.proofs.lemmas.List.{append-nil, length-map, get_or-map, length_push}
use Rattle.std.proofs.lemmas.Option.{same_Some, slice_get_within, get_or_from_slice_get}
use Rattle.issuer_base.specs.declared.request.Request.{Request}
use Rattle.issuer_base.specs.declared.answer.Reply.{Reply}
use Rattle.issuer_base.specs.declared.entry.Entry.{Entry}
use Rattle.issuer_base.specs.declared.entry.Entry.TheVariants.{Decided}
use Rattle.card_history.specs.OneReply.{record_at, IsOncePerCounter}
use Rattle.issuer_setup.specs.IssuerSetup.{Setup}
use Rattle.issuer_setup.specs.KeyList.{AreKeys}
use Rattle.one_history.specs.Prefixes.{IsPrefix}
use Rattle.one_history.specs.Streams.{Text, Word}
use Rattle.one_history.specs.Machines.{Answer, up_to, World, count_at, count_of}
use Rattle.one_history.specs.Events.{Event, IsRun, end_of, IsLegal as AreSuccessors}
use Rattle.one_history.specs.Promises.{IsSafe as MachinesAreSafe}
use Rattle.one_history.proofs.Prefixed.{prefix-up_to, prefix-trans, prefix-append, prefix-one, prefix-length}
use Rattle.one_history.proofs.Runs.{sound-run as machines-run}
use Rattle.one_history.proofs.KeptPromises.{sound-safe as machines-safe}
use Rattle.world_net.specs.declared.parts.Exchange.{Exchange}
use Rattle.world_net.specs.WorldState.{WorldState, ShardState, no_shard, shard_at, histories_of}
use Rattle.world_net.specs.WorldRuns.{IsIssuer}
use Rattle.world_net.proofs.FilledRuns.{histories-run}
use Rattle.world_net.proofs.Worlds.{sound-run, sound-safe}
use Rattle.world_model.specs.FallBack.{CanFallBack, fallen_back}
use Rattle.world_model.proofs.FallenRuns.{fallen-reached, fallen-genuine, falls-safe}
use Rattle.machine_cards.specs.CardRecords.{IsSuccessor, AreRecords}
use Rattle.machine_cards.specs.CardLaws.{HasWorld, HaveWorlds, Names, HasOneReply, IsWorldOf, AreCounted, FallsBack, MayFallBack}
use Rattle.machine_cards.proofs.Lines.{lines-one, line-at, lines-length, records-of}
use Rattle.machine_cards.proofs.Tables.{all-shards}

module _ (issuer : Setup) (valid : IsIssuer issuer) (keys : AreKeys issuer.keys) where
  -- legal texts of each shard have a world
  has-world : (texts : ℕ → List Text) → ((shard : ℕ) → AreSuccessors (IsSuccessor issuer) shard (texts shard)) → HasWorld issuer texts
  has-world texts legal =
      let all = all-shards issuer texts (λ shard within. records-of issuer shard within (texts shard) (legal shard)) in
      let ran = histories-run issuer all.histories valid keys all.legal all.held in
      record {
        histories = all.histories;
        records = all.records;
        ran = ran;
        safe = sound-safe ran.world (sound-run issuer ran.events ran.world valid ran.run);
      }

  -- no two of its decided records are on one ATC of a card
  world-once : (texts : ℕ → List Text) (world : HasWorld issuer texts) → IsOncePerCounter world.histories
  world-once texts world = subst IsOncePerCounter world.ran.histories_are world.safe.once

  module _ (base : ℕ → List Text) (events : List Event) (run : IsRun (IsSuccessor issuer) base events) where
    abbrev machines : World
    machines = end_of base events

    safe : MachinesAreSafe (IsSuccessor issuer) machines
    safe = let it = machines-run (IsSuccessor issuer) base events run in machines-safe (IsSuccessor issuer) machines it.0 it.1

    counted-world : (place : ℕ) → HasWorld issuer (count_at machines place).histories
    counted-world place = has-world (count_at machines place).histories (λ shard. safe.legal place shard)

    journals-world : (name : Word) → HasWorld issuer (machines.machines name).journals
    journals-world name = has-world (machines.machines name).journals (λ shard. safe.recorded name shard)

    pub machines-worlds : HaveWorlds issuer machines
    machines-worlds = record { counted = counted-world; journals = journals-world }

    -- the record that a reply names, among records of texts that begin with what counts
    named-record : (texts : ℕ → List Text) (histories : List (List Entry)) → AreRecords issuer texts histories
        → ((shard : ℕ) → IsPrefix ((count_of machines).histories shard) (texts shard)) → (answer : Answer) (request : Request) (reply : Reply)
        → Contains machines.sent answer → Names issuer answer request reply
        → record_at histories answer.shard (length answer.before) ≡ Some (Decided request reply)
    named-record texts histories records has answer request reply sent names =
        line-at (texts answer.shard) (get_or histories answer.shard []) (length answer.before) answer.text (Decided request reply)
        (records.lines answer.shard names.shard)
        (prefix-up_to answer.before (texts answer.shard) answer.text
        (prefix-trans (up_to answer) ((count_of machines).histories answer.shard) (texts answer.shard) (safe.replies answer sent) (has answer.shard)))
        names.line

    pub machines-one_reply : HasOneReply issuer machines
    machines-one_reply = record {
      same = λ first second request other reply other_reply first_sent second_sent first_names second_names cards atcs.
          let texts = (count_of machines).histories in
          let world = counted-world (length machines.stream) in
          let itself : (shard : ℕ) → IsPrefix (texts shard) (texts shard) = λ shard. record { remainder = []; is = append-nil (texts shard) } in
          let both = world-once texts world first.shard second.shard (length first.before) (length second.before) request other reply other_reply
          (named-record texts world.histories world.records itself first request reply first_sent first_names)
          (named-record texts world.histories world.records itself second other other_reply second_sent second_names) cards atcs in
          same-answer texts first second both.0 (safe.replies first first_sent) (safe.replies second second_sent) both.1;
    }
      where
        same-answer : (texts : ℕ → List Text) (one other : Answer) → one.shard ≡ other.shard → IsPrefix (up_to one) (texts one.shard)
            → IsPrefix (up_to other) (texts other.shard) → length one.before ≡ length other.before → one ≡ other
        same-answer texts one other shards first_is other_is same =
            let second_is : IsPrefix (up_to other) (texts one.shard) =
            subst (λ (shard : ℕ). IsPrefix (up_to other) (texts shard)) (sym shards) other_is in
            let before : one.before ≡ other.before =
            prefix-one one.before other.before (texts one.shard)
            (prefix-trans one.before (up_to one) (texts one.shard) (prefix-append one.before (one.text ∷ [])) first_is)
            (prefix-trans other.before (up_to other) (texts one.shard) (prefix-append other.before (other.text ∷ [])) second_is) same in
            let text : one.text ≡ other.text =
            same_Some one.text other.text
            (sym (prefix-up_to one.before (texts one.shard) one.text first_is) ∙ ap (slice_get (texts one.shard)) same
            ∙ prefix-up_to other.before (texts one.shard) other.text second_is) in
            λ i. record { shard = shards i; before = before i; text = text i }

    -- the journals of a lost machine
    module _ (name : Word) (world : WorldState) (keep : List ℕ)
        (has : (shard : ℕ) → IsPrefix ((count_of machines).histories shard) ((machines.machines name).journals shard))
        (of : IsWorldOf issuer machines name world) (counted : AreCounted issuer machines keep) where
      abbrev journals : ℕ → List Text
      journals = (machines.machines name).journals

      shards-count : length world.shards ≡ issuer.shards
      shards-count = sym (length-map world.shards (λ (shard : ShardState). shard.history)) ∙ of.records.count

      history-is : (shard : ℕ) → shard < issuer.shards → (shard_at world shard).history ≡ get_or (histories_of world) shard []
      history-is shard within =
          let size = shards-count in
          sym (get_or-map (λ (state : ShardState). state.history) world.shards shard no_shard [] (omega arith))

      lost-unsent : (shard count : ℕ) → shard < issuer.shards → length ((count_of machines).histories shard) ≡ count
          → (exchange : Exchange) (place : ℕ) (reply : Reply) → Contains world.sent exchange
          → slice_get (shard_at world shard).history place ≡ Some (Decided exchange.request reply) → place < count
      lost-unsent shard count within long exchange place reply sent is =
          let own = journals-world name in
          let answered = of.sent exchange sent in
          let answer = answered.0 in
          let same : get_or (histories_of world) shard [] ≡ get_or own.histories shard [] =
          lines-one (journals shard) (get_or (histories_of world) shard []) (get_or own.histories shard []) (of.records.lines shard within)
          (own.records.lines shard within) in
          let here : record_at own.histories shard place ≡ Some (Decided exchange.request reply) =
          ap (λ (history : List Entry). slice_get history place) (sym same ∙ sym (history-is shard within)) ∙ is in
          let there = named-record journals own.histories own.records has answer exchange.request exchange.reply answered.1 answered.2 in
          let both = world-once journals own shard answer.shard place (length answer.before) exchange.request exchange.request reply exchange.reply
          here there refl refl in
          let fits = prefix-length (up_to answer) ((count_of machines).histories answer.shard) (safe.replies answer answered.1) in
          let up = length_push answer.before answer.text in
          let place_is = both.1 in
          let length_is : length ((count_of machines).histories answer.shard) ≡ count =
          ap (λ (n : ℕ). length ((count_of machines).histories n)) (sym both.0) ∙ long in
          omega arith

      can-fall : CanFallBack world keep
      can-fall = record {
        one_each = counted.count ∙ sym shards-count;
        each = λ shard count is.
            let size = counted.count in
            let below = slice_get_within keep shard count is in
            let within : shard < issuer.shards = omega arith in
            let long : length ((count_of machines).histories shard) ≡ count =
            sym (counted.each shard within) ∙ get_or_from_slice_get keep shard count 0 is in
            record {
              within =
                  (let fits = prefix-length ((count_of machines).histories shard) (journals shard) (has shard) in
                  let lines = lines-length (journals shard) (get_or (histories_of world) shard []) (of.records.lines shard within) in
                  let history = ap (λ (l : List Entry). length l) (history-is shard within) in
                  omega arith);
              unsent = lost-unsent shard count within long;
            };
      }

      falls : FallsBack world keep
      falls = record {
        can = can-fall;
        reached = fallen-reached keep world can-fall;
        genuine = fallen-genuine keep world can-fall;
        laws = λ reached. falls-safe world (fallen_back keep world) (record {
          reached = fallen-reached keep world can-fall reached;
          genuine = fallen-genuine keep world can-fall;
        });
      }

    pub machines-fall_back : MayFallBack issuer machines
    machines-fall_back = record { falls = falls }
