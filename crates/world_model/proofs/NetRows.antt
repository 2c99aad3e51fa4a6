-- The rows of a world's cards, before and after one more record of a shard.
use Rattle.std.proofs.Common.{◌≡◌, ◌≢◌, ℕ, ◌%◌, ◌<◌, List, [], ◌∷◌, ◌++◌, length, get_or, set, Some}
use Rattle.std.proofs.Common.{refl, ap, sym, ◌∙◌, subst, inl, inr, arith, length-set, Option, None, IsTrue, ◌≤◌}
use Rattle.std.proofs.lemmas.Bool.{cases_eq}
use Rattle.std.proofs.lemmas.List.{get_or-set_same, get_or-set_other}
use Rattle.std.proofs.lemmas.Option.{same_Some, slice_get_within, slice_get-get_or, get_or_from_slice_get, slice_get_cases}
use Rattle.std.specs.List.{slice_get}
use Rattle.issuer_base.specs.declared.command.Command.{Command}
use Rattle.issuer_base.specs.declared.limits.TheConstants.{MAX_STATUS}
use Rattle.issuer_base.specs.ScriptCommand.{is_command}
use Rattle.issuer_base.specs.declared.entry.Entry.{Entry}
use Rattle.issuer_base.specs.declared.entry.Entry.TheVariants.{Queued, Status}
use Rattle.card_history.specs.Records.{card_in}
use Rattle.card_history.specs.Scripts.{waiting, scripts_of}
use Rattle.issuer_setup.specs.declared.card.CardInfo.{CardInfo}
use Rattle.issuer_setup.specs.CardList.{AreCards, name_of, number_of}
use Rattle.issuer_setup.specs.IssuerSetup.{Setup}
use Rattle.script_queue.specs.CommandQueue.{TakesOneMore}
use Rattle.row_core.specs.CardRow.{CardRow, StandsFor}
use Rattle.row_core.proofs.OtherCards.{stands-other}
use Rattle.world_net.specs.declared.parts.Exchange.{Exchange}
use Rattle.world_net.specs.Allowed.{CanQueue, CanSet}
use Rattle.world_net.specs.WorldSteps.{Queues, Sets}
use Rattle.world_net.specs.WorldState.{WorldState, ShardState, no_shard, history_at}
use Rattle.world_model.specs.Stepping.{RowsStand}
use Rattle.world_net.proofs.Hosts.{at, recorded, doubted}
use Rattle.world_net.proofs.KeptWorlds.{number_of-own}

-- what was put at a place is there
pub put-read : {X : Type 0} (xs : List X) (place : ℕ) (old new : X) → slice_get xs place ≡ Some old → slice_get (set xs place new) place ≡ Some new
put-read xs place old new old_is =
    let within = slice_get_within xs place old old_is in
    let long = length-set xs place new in
    slice_get-get_or (set xs place new) place new (omega arith) ∙ ap Some (get_or-set_same xs place new new within)

-- and each other place stays
pub put-stays : {X : Type 0} (xs : List X) (place other : ℕ) (new x : X) → other ≢ place → slice_get xs other ≡ Some x → slice_get (set xs place new) other ≡ Some x
put-stays xs place other new x apart is =
    let within = slice_get_within xs other x is in
    let long = length-set xs place new in
    slice_get-get_or (set xs place new) other x (omega arith)
    ∙ ap Some (get_or-set_other xs place other new x apart ∙ get_or_from_slice_get xs other x x is)

-- there is a card for each number below their count
pub card-there : (cards : List CardInfo) (number : ℕ) → number < length cards → (info : CardInfo) × (slice_get cards number ≡ Some info)
card-there cards number within =
    elim (slice_get_cases cards number).1 [
      | inl found ↦ (found.0, found.2)
      | inr past ↦ let few = past.0 in absurd (omega arith)
    ]

module _ (issuer : Setup) (rows : List CardRow) (shards : List ShardState) (stand : RowsStand issuer rows shards) where
  -- and a row
  pub row-there : (number : ℕ) → number < length issuer.cards → number < length rows
  row-there number within =
      let info = card-there issuer.cards number within in
      let row = stand.each number info.0 info.1 in
      slice_get_within rows number row.0 row.1

  -- which stands for the history of the card's shard
  pub row-stands : (number : ℕ) (info : CardInfo) (row : CardRow) → slice_get issuer.cards number ≡ Some info → row ≡ get_or rows number row
      → StandsFor info row (at shards (number % issuer.shards)).history
  row-stands number info row info_is row_is =
      let found = stand.each number info info_is in
      subst (λ (r : CardRow). StandsFor info r (at shards (number % issuer.shards)).history)
      (sym (get_or_from_slice_get rows number found.0 row found.1) ∙ sym row_is) found.2

  -- one more record of the shard of the card with this number, for which its row is another one
  pub rows-record : (number : ℕ) (info : CardInfo) (entry : Entry) (new : CardRow) → AreCards issuer.cards → length shards ≡ issuer.shards
      → number % issuer.shards < length shards → slice_get issuer.cards number ≡ Some info → card_in entry ≡ name_of info
      → StandsFor info new ((at shards (number % issuer.shards)).history ++ entry ∷ [])
      → RowsStand issuer (set rows number new) (recorded shards (number % issuer.shards) entry)
  rows-record number info entry new valid count within info_is its stands =
      let home = number % issuer.shards in
      let longer : ShardState = record { history = (at shards home).history ++ entry ∷ []; doubt = None } in
      record {
        each = λ other other_info other_is.
            let found = stand.each other other_info other_is in
            elim (cases_eq other number) [
              | inl same ↦
                  let info_same : info ≡ other_info = same_Some _ _ (sym info_is ∙ ap (slice_get issuer.cards) (sym same) ∙ other_is) in
                  let read : at (recorded shards home entry) (other % issuer.shards) ≡ longer =
                  ap (λ n. at (recorded shards home entry) (n % issuer.shards)) same ∙ get_or-set_same shards home longer no_shard within in (
                    new,
                    ap (slice_get (set rows number new)) same ∙ put-read rows number found.0 new (ap (slice_get rows) (sym same) ∙ found.1),
                    subst (λ (state : ShardState). StandsFor other_info new state.history) (sym read)
                        (subst (λ (i : CardInfo). StandsFor i new ((at shards home).history ++ entry ∷ [])) info_same stands),
                  )
              | inr apart ↦
                  let name : name_of other_info ≢ card_in entry =
                  λ same. apart (same_Some _ _ (sym (number_of-own issuer.cards other other_info valid other_is)
                  ∙ ap (λ name. number_of name issuer.cards) (same ∙ its) ∙ number_of-own issuer.cards number info valid info_is)) in (
                    found.0,
                    put-stays rows number other new found.0 apart found.1,
                    elim (cases_eq (other % issuer.shards) home) [
                      | inl same ↦
                          let read : at (recorded shards home entry) (other % issuer.shards) ≡ longer =
                          ap (at (recorded shards home entry)) same ∙ get_or-set_same shards home longer no_shard within in
                          subst (λ (state : ShardState). StandsFor other_info found.0 state.history) (sym read)
                          (stands-other other_info found.0 (at shards home).history entry name
                          (subst (λ n. StandsFor other_info found.0 (at shards n).history) same found.2))
                      | inr away ↦
                          subst (λ (state : ShardState). StandsFor other_info found.0 state.history)
                          (sym (get_or-set_other shards home (other % issuer.shards) longer no_shard away)) found.2
                    ],
                  )
            ];
      }

  -- what is in doubt doesn't matter
  pub rows-doubt : (shard : ℕ) (doubt : Option Exchange) → shard < length shards → RowsStand issuer rows (doubted shards shard doubt)
  rows-doubt shard doubt within = record {
    each = λ other info info_is.
        let found = stand.each other info info_is in
        let new : ShardState = record { history = (at shards shard).history; doubt = doubt } in (
          found.0,
          found.1,
          elim (cases_eq (other % issuer.shards) shard) [
            | inl same ↦
                let read : at (doubted shards shard doubt) (other % issuer.shards) ≡ new =
                ap (at (doubted shards shard doubt)) same ∙ get_or-set_same shards shard new no_shard within in
                subst (λ (state : ShardState). StandsFor info found.0 state.history) (sym read)
                (subst (λ n. StandsFor info found.0 (at shards n).history) same found.2)
            | inr away ↦
                subst (λ (state : ShardState). StandsFor info found.0 state.history)
                (sym (get_or-set_other shards shard (other % issuer.shards) new no_shard away)) found.2
          ],
        );
  }

-- a shard that was read, among the shards
pub shard-read : (shards : List ShardState) (place : ℕ) (shard : ShardState) → place < length shards → shard ≡ get_or shards place shard
    → shard ≡ at shards place
shard-read shards place shard within shard_is =
    sym (get_or_from_slice_get shards place shard no_shard (slice_get-get_or shards place shard within ∙ ap Some (sym shard_is)))

-- and one that got one more record
pub shards-record : (shards : List ShardState) (home place : ℕ) (entry made : Entry) (old new : ShardState) → home ≡ place → home < length shards
    → old ≡ get_or shards home old → made ≡ entry → new ≡ record { history = old.history ++ made ∷ []; doubt = None }
    → set shards home new ≡ recorded shards place entry
shards-record shards home place entry made old new at_home within old_is made_is new_is =
    let read : old ≡ at shards home = shard-read shards home old within old_is in
    let new_here : new ≡ record { history = (at shards home).history ++ entry ∷ []; doubt = None } =
    new_is ∙ (λ i. record { history = (read i).history ++ made_is i ∷ []; doubt = None }) in
    ap (set shards home) new_here ∙ ap (λ n. recorded shards n entry) at_home

-- a card's command is queued
pub queue-taken : (world : WorldState) (number : ℕ) (command : Command) (info : CardInfo) (shards : List ShardState) → AreCards world.issuer.cards
    → slice_get world.issuer.cards number ≡ Some info → IsTrue (is_command command)
    → TakesOneMore (waiting (scripts_of (name_of info) (history_at world number)))
    → shards ≡ recorded world.shards (number % world.issuer.shards) (Queued info.pan info.psn command)
    → CanQueue world number command × Queues world number command (record world { shards = shards })
queue-taken world number command info shards valid info_is form takes shards_are =
    let can : CanQueue world number command = record {
      card = info;
      card_is = info_is;
      legal = record {
        of_a_card = record { number = number; number_is = number_of-own world.issuer.cards number info valid info_is; home = refl };
        form = form;
        room = takes;
      };
    } in
    (can, record { can = can; after_is = ap (λ (shards : List ShardState). record world { shards = shards }) shards_are })

-- a card is given a status
pub set-taken : (world : WorldState) (number status : ℕ) (info : CardInfo) (shards : List ShardState) → AreCards world.issuer.cards
    → slice_get world.issuer.cards number ≡ Some info → status ≤ MAX_STATUS
    → shards ≡ recorded world.shards (number % world.issuer.shards) (Status info.pan info.psn status)
    → CanSet world number status × Sets world number status (record world { shards = shards })
set-taken world number status info shards valid info_is within shards_are =
    let can : CanSet world number status = record {
      card = info;
      card_is = info_is;
      legal = record {
        of_a_card = record { number = number; number_is = number_of-own world.issuer.cards number info valid info_is; home = refl };
        within = within;
      };
    } in
    (can, record { can = can; after_is = ap (λ (shards : List ShardState). record world { shards = shards }) shards_are })
