-- What the line that queues a command makes of a world of a played run.
use Rattle.std.proofs.Common.{◌≡◌, ℕ, ◌%◌, ◌<◌, false, List, Option, Some, Ok}
use Rattle.std.proofs.Common.{Contains, refl, ap, sym, ◌∙◌, subst, lit<}
use Rattle.std.specs.Prelude.{slice_get}
use Rattle.std.specs.Int.{w32, to_be_bytes}
use Rattle.std.proofs.lemmas.Bool.{true≢false}
use Rattle.hex.specs.Hex.{encode_lower}
use Rattle.issuer_base.specs.ScriptCommand.{is_command}
use Rattle.issuer_base.specs.declared.answer.Answer.{Answer}
use Rattle.issuer_base.specs.declared.answer.Answer.TheVariants.{Fresh, Kept, Queued as IsQueuedAnswer, Set as IsSetAnswer, Refused}
use Rattle.issuer_base.specs.declared.answer.Refusal.{Refusal}
use Rattle.issuer_base.specs.declared.answer.Refusal.TheVariants.{BadLine, BadTlv, Missing, BadField, Repeated, UnknownCard, NotArqc, UnknownKey, BadCryptogram}
use Rattle.issuer_base.specs.declared.answer.Refusal.TheVariants.{Below, Taken, Pending, QueueFull, BadCommand, StoreFault}
use Rattle.issuer_base.specs.declared.command.Command.{Command}
use Rattle.issuer_base.specs.declared.entry.Entry.{Entry}
use Rattle.issuer_base.specs.declared.entry.Entry.TheVariants.{Queued}
use Rattle.card_history.specs.declared.decision.Asked.TheVariants.{Queue}
use Rattle.card_history.specs.LegalRecords.{IsLegalCommand}
use Rattle.card_history.specs.Scripts.{waiting, scripts_of}
use Rattle.script_queue.specs.CommandQueue.{TakesOneMore}
use Rattle.chip_request.specs.Lines.{Says}
use Rattle.chip_request.specs.LineParts.{line_of}
use Rattle.chip_request.specs.declared.line.LineKind.TheVariants.{Queue as IsQueueLine}
use Rattle.chip_request.proofs.LineLaws.{line_reads, reads_once}
use Rattle.script_commands.specs.Commands.{command_of}
use Rattle.issuer_setup.specs.CardList.{name_of}
use Rattle.issuer_setup.specs.IssuerSetup.{Setup, shard_of}
use Rattle.issuer_setup.proofs.Shards.{shard_of-known}
use Rattle.line_checks.specs.Reading.{said_by, command_for, reading}
use Rattle.shard_book.specs.Answering.{is_store_fault, AnswersQueueing}
use Rattle.shard_book.specs.Grounds.{grounds_of}
use Rattle.host_loading.specs.Books.{ShardBook, histories_of as book_histories}
use Rattle.one_caller.specs.Turns.{AnswersIn}
use Rattle.terminal_kernel.proofs.LineRead.{spells-encode_lower}
use Rattle.world_net.specs.declared.parts.MadeRequest.{MadeRequest}
use Rattle.world_net.specs.Allowed.{CanQueue}
use Rattle.world_net.specs.WorldState.{WorldState, shard_at, histories_of, with_record}
use Rattle.world_net.specs.WorldRuns.{IsIssuer}
use Rattle.world_play.specs.declared.setting.Step.{Step}
use Rattle.world_play.specs.Setting.{card_info, issuer, queued_bytes, queue_line}
use Rattle.world_play.proofs.PlayedCards.{card-at, number-known}
use Rattle.world_play.proofs.PlayedRequests.{AreBytes, more-bytes, bytes-four, card-pan, zero-bcd}
use Rattle.world_play.proofs.PlayedWorlds.{IsPlayed, IsSendable, played-queued}
use Rattle.world_play.proofs.PlayedAnswers.{book-history, histories-more, histories-stay}

-- the command that is queued at a step
abbrev pub queued_command : Step → ℕ → Command
queued_command step k = record { cla = 0x04; ins = 0xDA; p1 = 0x00; p2 = k; body = record { items = to_be_bytes w32 step.index } }

command-read : (step : Step) (k : ℕ) → command_of (queued_bytes step k) ≡ Some (queued_command step k)
unfolding command_of is_command
command-read step k = refl

pub command-sendable : (step : Step) (k : ℕ) → IsSendable (queued_command step k)
unfolding is_command
command-sendable step k = record { form = refl; room = lit< tt }

-- the line says so
line-said : (step : Step) (k : ℕ) → k < 256
    → line_of (queue_line step k) ≡ Ok (IsQueueLine (card_info step.card).pan 0 (record { items = queued_bytes step k }))
line-said step k small =
    let bytes : AreBytes (queued_bytes step k) =
    more-bytes 0x04 _ (lit< tt) (more-bytes 0xDA _ (lit< tt) (more-bytes 0x00 _ (lit< tt) (more-bytes k _ small (bytes-four step.index)))) in
    let says : Says (queue_line step k) (IsQueueLine (card_info step.card).pan 0 (record { items = queued_bytes step k })) = (
      encode_lower (queued_bytes step k),
      refl,
      record { number = card-pan step.card; sequence = zero-bcd },
      record { spelled = spells-encode_lower (queued_bytes step k) bytes.each; some = lit< tt; within = lit< tt },
    ) in
    reads_once (queue_line step k) (line_of (queue_line step k)) _ (line_reads (queue_line step k)) says

-- and is read as this command for the step's card
pub line-queues : (cards : ℕ) → IsIssuer (issuer cards) → (step : Step) (k : ℕ) → k < 256 → step.card < cards
    → reading (issuer cards) (queue_line step k) ≡ Ok (Queue (card_info step.card).pan 0 (queued_command step k))
line-queues cards valid step k small below =
    ap (said_by (issuer cards)) (line-said step k small)
    ∙ ap (λ (found : Option ℕ). command_for (name_of (card_info step.card)) found (command_of (queued_bytes step k))) (number-known cards step.card valid below)
    ∙ ap (λ (command : Option Command). command_for (name_of (card_info step.card)) (Some step.card) command) (command-read step k)

-- the world after the answer to it
pub record IsAfterQueue (cards : ℕ) (world : WorldState) (books : List ShardBook) (after : WorldState) : Type 0 where
  pub played : IsPlayed cards after
  pub histories : histories_of after ≡ book_histories books
  pub cards_are : after.cards ≡ world.cards
  pub made : (made : MadeRequest) → Contains world.made made → Contains after.made made

abbrev pub HasQueue : ℕ → WorldState → List ShardBook → Type 0
HasQueue cards world books = (after : WorldState) × IsAfterQueue cards world books after

module _ (cards number : ℕ) (valid : IsIssuer (issuer cards)) (below : number < cards) (world : WorldState) (played : IsPlayed cards world)
    (books after : List ShardBook) (same : histories_of world ≡ book_histories books) (command : Command) (sendable : IsSendable command) where
  abbrev pub MayQueue : Answer → Type 0
  MayQueue answer =
      AnswersIn (issuer cards) books (name_of (card_info number)) answer
      (λ shard old new. AnswersQueueing shard old (name_of (card_info number)) command answer new) after

  nothing : (answer : Answer) (it : MayQueue answer) → it.new.history ≡ it.old.history → HasQueue cards world after
  nothing answer it stays = (
    world,
    record {
      played = played;
      histories = same ∙ histories-stay books (shard_of (issuer cards) (name_of (card_info number))) it.old it.new it.old_is stays
          ∙ ap book_histories (sym it.after_is);
      cards_are = refl;
      made = λ made here. here;
    },
  )

  abbrev CanAt : Setup → Type 0
  CanAt setup =
      (slice_get setup.cards number ≡ Some (card_info number))
      × IsLegalCommand (grounds_of setup) (number % setup.shards) (shard_at world (number % setup.shards)).history (name_of (card_info number)) command

  queued : (at place : ℕ) → MayQueue (IsQueuedAnswer at place) → HasQueue cards world after
  queued at place it =
      let name = name_of (card_info number) in
      let shard = shard_of (issuer cards) name in
      let known = number-known cards number valid below in
      let home : shard ≡ number % 4 = shard_of-known (issuer cards) name number known in
      let told = it.changes in
      let room : TakesOneMore (waiting (scripts_of name (shard_at world (number % 4)).history)) =
      subst (λ shard. TakesOneMore (waiting (scripts_of name (shard_at world shard).history))) home
      (subst (λ (history : List Entry). TakesOneMore (waiting (scripts_of name history)))
      (sym (book-history world books same shard it.old it.old_is)) told.0) in
      let at_issuer : CanAt (issuer cards) =
      (card-at cards number below, record { of_a_card = record { number = number; number_is = known; home = refl }; form = sendable.form; room = room }) in
      let here = subst CanAt (sym played.issuer_is) at_issuer in
      let can : CanQueue world number command = record { card = card_info number; card_is = here.0; legal = here.1 } in
      let entry = Queued (card_info number).pan (card_info number).psn command in (
        with_record world (number % world.issuer.shards) entry,
        record {
          played = played-queued cards valid world played number command can sendable;
          histories = ap (λ shard. histories_of (with_record world shard entry)) (ap (λ (setup : Setup). number % setup.shards) played.issuer_is ∙ sym home)
              ∙ histories-more world books same shard it.old it.new entry it.old_is told.3
              ∙ ap book_histories (sym it.after_is);
          cards_are = refl;
          made = λ made here. here;
        },
      )

  refused : (refusal : Refusal) → is_store_fault (Refused refusal) ≡ false → MayQueue (Refused refusal) → HasQueue cards world after
  refused (BadLine column) works it = absurd it.changes
  refused (BadTlv place) works it = absurd it.changes
  refused (Missing tag) works it = absurd it.changes
  refused (BadField tag) works it = absurd it.changes
  refused (Repeated tag) works it = absurd it.changes
  refused UnknownCard works it = absurd it.changes
  refused NotArqc works it = absurd it.changes
  refused (UnknownKey index) works it = absurd it.changes
  refused BadCryptogram works it = absurd it.changes
  refused (Below top) works it = absurd it.changes
  refused (Taken at place) works it = absurd it.changes
  refused Pending works it = absurd it.changes
  refused QueueFull works it = nothing (Refused QueueFull) it it.changes.1
  refused BadCommand works it = absurd it.changes
  refused StoreFault works it = absurd (true≢false works)

  -- each answer but that the store failed
  pub queued-world : (answer : Answer) → is_store_fault answer ≡ false → MayQueue answer → HasQueue cards world after
  queued-world (Fresh at place reply) works it = absurd it.changes
  queued-world (Kept at place reply) works it = absurd it.changes
  queued-world (IsQueuedAnswer at place) works it = queued at place it
  queued-world (IsSetAnswer at place) works it = absurd it.changes
  queued-world (Refused refusal) works it = refused refusal works it
