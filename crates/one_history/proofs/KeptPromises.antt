-- The promises follow from the invariant.
use Rattle.std.proofs.Common.{◌≡◌, ℕ, ◌+◌, ◌<◌, List, [], ◌∷◌, length, take, Some, ap, sym, ◌∙◌, subst, arith, inl, inr}
use Rattle.std.proofs.Common.{Contains}
use Rattle.std.specs.List.{slice_get}
use Rattle.std.proofs.lemmas.Bool.{cases_order, cases_lt}
use Rattle.std.proofs.lemmas.List.{length-take-le}
use Rattle.std.proofs.lemmas.List.Elements.{All-contains}
use Rattle.std.proofs.lemmas.Option.{same_Some, slice_get_within, get_or_from_slice_get}
use Rattle.one_history.specs.Prefixes.{IsPrefix}
use Rattle.one_history.specs.Streams.{Text, Word, Barrier, Count, next_count}
use Rattle.one_history.specs.Machines.{Answer, up_to, World, count_at, count_of, next_message}
use Rattle.one_history.specs.Events.{Successors, IsLegal, CanRead}
use Rattle.one_history.specs.Keys.{Keys, IsFirst, IsFirstWith, IsFirstOf}
use Rattle.one_history.specs.Promises.{IsSafe, HasOneReply, MayFallBack, CutsUnanswered, KeepsReplies}
use Rattle.one_history.proofs.Prefixed.{prefix-trans, prefix-append, prefix-take, prefix-shorter, prefix-up_to, prefix-one, prefix-get, prefix-get_before}
use Rattle.one_history.proofs.Counts.{histories-later, count-next}
use Rattle.one_history.proofs.Sound.{Logs, IsSound, sound-legal}
use Rattle.one_history.proofs.Moves.{in-service}
use Rattle.one_history.proofs.Runs.{GoesOn, goes-counts}

module _ (MayFollow : Successors) (world : World) (logs : Logs) (sound : IsSound MayFollow world logs) where
  pub sound-replies : (answer : Answer) → Contains world.sent answer → IsPrefix (up_to answer) ((count_of world).histories answer.shard)
  sound-replies answer sent =
      All-contains (λ other. IsPrefix (up_to other) ((count_of world).histories other.shard)) world.sent answer sound.sent sent

  pub sound-safe : IsSafe MayFollow world
  sound-safe = record {
    prefixes = λ first second shard later. histories-later world.base world.stream first second shard later;
    replies = sound-replies;
    serving = λ name barrier is.
        let facts = in-service (count_at world) world.made logs name (world.machines name) (world.machines name).stage barrier is
        (sound.machines name).stage in
        record { own = facts.own; named = sound.names.not_empty barrier facts.called; last = facts.last };
    active = λ name barrier is last shard.
        let facts = in-service (count_at world) world.made logs name (world.machines name) (world.machines name).stage barrier is
        (sound.machines name).stage in
        prefix-trans ((count_of world).histories shard) (take ((world.machines name).known shard) ((world.machines name).journals shard))
        ((world.machines name).journals shard)
        (subst (IsPrefix ((count_of world).histories shard)) (ap (λ (b : Barrier). logs b.name shard) last ∙ facts.log_is shard)
        (sound.logged.logged (length world.stream) shard))
        (prefix-take ((world.machines name).known shard) ((world.machines name).journals shard));
    journals = λ name. (sound.machines name).journals;
    kept = λ name. (sound.machines name).kept;
    legal = sound-legal MayFollow world logs sound;
    recorded = λ name. (sound.machines name).legal;
  }

  -- a reply's record counts for ever
  pub sound-keeps_replies : (new : World) → GoesOn world new → KeepsReplies world new
  sound-keeps_replies new goes = record {
    sent = goes.sent;
    count = λ answer sent. prefix-trans (up_to answer) ((count_of world).histories answer.shard) ((count_of new).histories answer.shard)
        (sound-replies answer sent) (goes-counts world new goes answer.shard);
  }

  -- what is truncated was never answered
  pub sound-cuts : (name : Word) (journals : ℕ → List Text) → CanRead world name journals → CutsUnanswered world name journals
  sound-cuts name journals can = record {
    stays = λ answer sent has.
        let machine = world.machines name in
        let counts = (next_count (count_at world machine.read) (next_message world machine)).histories answer.shard in
        let end : IsPrefix counts ((count_of world).histories answer.shard) =
        subst (λ (count : Count). IsPrefix (count.histories answer.shard) ((count_of world).histories answer.shard))
        (count-next world.base world.stream machine.read can.unread)
        (histories-later world.base world.stream (machine.read + 1) (length world.stream) answer.shard (let unread = can.unread in omega arith)) in
        let replied = sound-replies answer sent in
        elim (can.settled answer.shard) [
          | inl stays ↦ subst (IsPrefix (up_to answer)) (sym stays.1) has
          | inr becomes ↦ elim (cases_lt (length counts) (length (up_to answer))) [
            | inl shorter ↦ absurd (becomes.0 (prefix-trans counts (up_to answer) (machine.journals answer.shard)
                (prefix-shorter counts (up_to answer) ((count_of world).histories answer.shard) end replied (omega arith)) has))
            | inr longer ↦ subst (IsPrefix (up_to answer)) (sym becomes.1)
                (prefix-shorter (up_to answer) counts ((count_of world).histories answer.shard) replied end longer)
          ]
        ];
  }

module _ (MayFollow : Successors) (keys : Keys)
    (first : (shard : ℕ) (history : List Text) (text : Text) → MayFollow shard history text → IsFirst keys shard history text) where
  -- a record of a legal history that has a key is of the key's shard, and the first one there
  keyed : (shard : ℕ) (history : List Text) (index : ℕ) (text : Text) (key : Word) → IsLegal MayFollow shard history
      → slice_get history index ≡ Some text → keys.key_of shard text ≡ Some key → IsFirstOf keys shard (take index history) key
  keyed shard history index text key legal is has =
      subst (IsFirstWith keys shard (take index history)) has (first shard (take index history) text (legal index text is))

  -- no two records of a legal history have one key
  not-before : (shard : ℕ) (history : List Text) (index other : ℕ) (text later : Text) (key : Word) → IsLegal MayFollow shard history
      → slice_get history index ≡ Some text → slice_get history other ≡ Some later → keys.key_of shard text ≡ Some key
      → keys.key_of shard later ≡ Some key → index < other → ⊥
  not-before shard history index other text later key legal is there has also before =
      let within = slice_get_within history other later there in
      let it = keyed shard history other later key legal there also in
      let long = length-take-le other history (omega arith) in
      let below : index < length (take other history) = omega arith in
      let here = prefix-get_before (take other history) history index text (prefix-take other history) below is in
      it.first index text below
      (ap (keys.key_of shard) (get_or_from_slice_get (take other history) index text text here) ∙ has)

  one-index : (shard : ℕ) (history : List Text) (index other : ℕ) (text later : Text) (key : Word) → IsLegal MayFollow shard history
      → slice_get history index ≡ Some text → slice_get history other ≡ Some later → keys.key_of shard text ≡ Some key
      → keys.key_of shard later ≡ Some key → index ≡ other
  one-index shard history index other text later key legal is there has also = elim (cases_order index other) [
    | inl same ↦ same
    | inr apart ↦ elim apart [
      | inl before ↦ absurd (not-before shard history index other text later key legal is there has also before)
      | inr after ↦ absurd (not-before shard history other index later text key legal there is also has after)
    ]
  ]

  module _ (world : World) (logs : Logs) (sound : IsSound MayFollow world logs) where
    -- the record of a reply, where it counts
    reply-record : (answer : Answer) → Contains world.sent answer
        → slice_get ((count_of world).histories answer.shard) (length answer.before) ≡ Some answer.text
    reply-record answer sent =
        prefix-up_to answer.before ((count_of world).histories answer.shard) answer.text (sound-replies MayFollow world logs sound answer sent)

    counts-legal : (shard : ℕ) → IsLegal MayFollow shard ((count_of world).histories shard)
    counts-legal = sound-legal MayFollow world logs sound (length world.stream)

    -- it is in the key's shard
    reply-home : (answer : Answer) (key : Word) → Contains world.sent answer → keys.key_of answer.shard answer.text ≡ Some key
        → answer.shard ≡ keys.shard_of key
    reply-home answer key sent has =
        (keyed answer.shard ((count_of world).histories answer.shard) (length answer.before) answer.text key (counts-legal answer.shard)
        (reply-record answer sent) has).home

    -- two answers whose records are the same record of a shard
    same-answer : (history : ℕ → List Text) (one other : Answer) (shards : one.shard ≡ other.shard)
        → IsPrefix (up_to one) (history one.shard) → IsPrefix (up_to other) (history one.shard) → length one.before ≡ length other.before
        → one ≡ other
    same-answer history one other shards first_is second_is same =
        let before : one.before ≡ other.before =
        prefix-one one.before other.before (history one.shard)
        (prefix-trans one.before (up_to one) (history one.shard) (prefix-append one.before (one.text ∷ [])) first_is)
        (prefix-trans other.before (up_to other) (history one.shard) (prefix-append other.before (other.text ∷ [])) second_is) same in
        let text : one.text ≡ other.text =
        same_Some one.text other.text
        (sym (prefix-up_to one.before (history one.shard) one.text first_is) ∙ ap (slice_get (history one.shard)) same
        ∙ prefix-up_to other.before (history one.shard) other.text second_is) in
        λ i. record { shard = shards i; before = before i; text = text i }

    pub sound-one_reply : HasOneReply keys world
    sound-one_reply = record {
      same = λ one other key one_sent other_sent one_has other_has.
          let shards : one.shard ≡ other.shard = reply-home one key one_sent one_has ∙ sym (reply-home other key other_sent other_has) in
          let there : slice_get ((count_of world).histories one.shard) (length other.before) ≡ Some other.text =
          subst (λ (shard : ℕ). slice_get ((count_of world).histories shard) (length other.before) ≡ Some other.text) (sym shards)
          (reply-record other other_sent) in
          let has : keys.key_of one.shard other.text ≡ Some key =
          subst (λ (shard : ℕ). keys.key_of shard other.text ≡ Some key) (sym shards) other_has in
          same-answer (count_of world).histories one other shards (sound-replies MayFollow world logs sound one one_sent)
          (subst (λ (shard : ℕ). IsPrefix (up_to other) ((count_of world).histories shard)) (sym shards)
          (sound-replies MayFollow world logs sound other other_sent))
          (one-index one.shard ((count_of world).histories one.shard) (length one.before) (length other.before) one.text other.text key
          (counts-legal one.shard) (reply-record one one_sent) there one_has has);
    }

    pub sound-fall_back : MayFallBack keys world
    sound-fall_back = record {
      unsent = λ name shard index text key answer all is has sent replied.
          let machine = world.machines name in
          let legal = (sound.machines name).legal shard in
          let home : answer.shard ≡ shard =
          reply-home answer key sent replied ∙ sym ((keyed shard (machine.journals shard) index text key legal is has).home) in
          let there : slice_get ((count_of world).histories shard) (length answer.before) ≡ Some answer.text =
          subst (λ (other : ℕ). slice_get ((count_of world).histories other) (length answer.before) ≡ Some answer.text) home
          (reply-record answer sent) in
          let also : keys.key_of shard answer.text ≡ Some key = subst (λ (other : ℕ). keys.key_of other answer.text ≡ Some key) home replied in
          let same : index ≡ length answer.before =
          one-index shard (machine.journals shard) index (length answer.before) text answer.text key legal is
          (prefix-get ((count_of world).histories shard) (machine.journals shard) (length answer.before) answer.text (all shard) there) has also in
          let within = slice_get_within ((count_of world).histories shard) (length answer.before) answer.text there in
          omega arith;
    }
