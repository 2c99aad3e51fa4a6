-- Every event preserves the invariant, so it holds after every run.
use Rattle.std.proofs.Common.{◌≡◌, ℕ, List, [], ◌∷◌, length, refl, ap, sym, ◌∙◌, subst, arith, inl}
use Rattle.std.proofs.Common.{Contains}
use Rattle.std.proofs.lemmas.List.Elements.{All-nil}
use Rattle.one_history.specs.Prefixes.{IsPrefix}
use Rattle.one_history.specs.Streams.{Text, OfBarrier, OfRecords, Count, first_count, count_in}
use Rattle.one_history.specs.Machines.{up_to, World, count_at, count_of, new_world}
use Rattle.one_history.specs.Events.{Successors, Event, Write, Intrude, Read, Call, Record, Look, Publish, Hold, Reply, End, Part, Keep, Crash, Copy}
use Rattle.one_history.specs.Events.{IsLegal, IsAllowed, next, after, AreAllowed, IsRun, end_of}
use Rattle.one_history.proofs.Prefixed.{prefix-refl, prefix-append, prefix-trans}
use Rattle.one_history.proofs.Counts.{count-past, stream-grows}
use Rattle.one_history.proofs.Sound.{Logs, IsSound}
use Rattle.one_history.proofs.StreamGrows.{sound-write, sound-nothing}
use Rattle.one_history.proofs.Moves.{sound-part, sound-keep, sound-start, sound-record, sound-hold, sound-end, sound-reply}
use Rattle.one_history.proofs.Making.{sound-call, sound-publish, sound-look, looked-logs}
use Rattle.one_history.proofs.Reading.{sound-read}

-- nothing is in an empty list
none-here : {X : Type 0} {P : Type 0} (x : X) → Contains [] x → P
none-here x here = absurd (omega (arith, here.1))

module _ (MayFollow : Successors) where
  -- each event
  sound-next : (world : World) (logs : Logs) → IsSound MayFollow world logs → (event : Event) → IsAllowed MayFollow world event
      → (others : Logs) × IsSound MayFollow (next world event) others
  sound-next world logs sound (Write message) can = sound-write MayFollow world logs sound message can
  sound-next world logs sound (Intrude message) can = (logs, sound-nothing MayFollow world logs sound message can)
  sound-next world logs sound (Read name journals) can = (logs, sound-read MayFollow world logs sound name journals can)
  sound-next world logs sound (Call name number barrier) can =
      (logs, sound-call MayFollow world logs sound name (record { number = number; name = barrier; machine = name }) refl can)
  sound-next world logs sound (Record name shard text) can = (logs, sound-record MayFollow world logs sound name shard text can)
  sound-next world logs sound (Look name known) can =
      (looked-logs MayFollow world logs sound name known can, sound-look MayFollow world logs sound name known can)
  sound-next world logs sound (Publish name records) can = (logs, sound-publish MayFollow world logs sound name records can)
  sound-next world logs sound (Hold name answer) can = (logs, sound-hold MayFollow world logs sound name answer can)
  sound-next world logs sound (Reply name answer) can = (logs, sound-reply MayFollow world logs sound name answer can)
  sound-next world logs sound (End name keep) can = (logs, sound-end MayFollow world logs sound name keep can)
  sound-next world logs sound (Part name) can = (logs, sound-part MayFollow world logs sound name)
  sound-next world logs sound (Keep name place) can = (logs, sound-keep MayFollow world logs sound name place can)
  sound-next world logs sound (Crash name keep) can = (logs, sound-start MayFollow world logs sound name name keep can)
  sound-next world logs sound (Copy name other keep) can = (logs, sound-start MayFollow world logs sound name other keep can)

  pub sound-after : (world : World) (logs : Logs) → IsSound MayFollow world logs → (events : List Event) → AreAllowed MayFollow world events
      → (others : Logs) × IsSound MayFollow (after world events) others
  sound-after world logs sound [] allowed = (logs, sound)
  sound-after world logs sound (event ∷ events) allowed =
      let it = sound-next world logs sound event allowed.0 in
      sound-after (next world event) it.0 it.1 events allowed.1

  -- at first each log has the records that all began with
  first-logs : (ℕ → List Text) → Logs
  first-logs base name = base

  sound-new : (base : ℕ → List Text) → ((shard : ℕ) → IsLegal MayFollow shard (base shard)) → IsSound MayFollow (new_world base) (first-logs base)
  unfolding first-logs
  sound-new base legal =
      let counts : (place : ℕ) → count_at (new_world base) place ≡ first_count base = λ place. count-past base [] place (omega arith) in
      record {
        names = record {
          named = λ barrier here. none-here (OfBarrier barrier) here;
          not_empty = λ barrier here. none-here (OfBarrier barrier) here;
          one = λ first second here there same. none-here (OfBarrier first) here;
        };
        logged = record {
          known = λ name records here. none-here (OfRecords name records) here;
          opened = λ name records here. none-here (OfRecords name records) here;
          barriers = λ place. inl (ap (λ (count : Count). count.barrier) (counts place));
          logged = λ place shard.
              subst (λ (count : Count). IsPrefix (count.histories shard) (base shard)) (sym (counts place)) (prefix-refl (base shard));
          legal = λ name shard. legal shard;
        };
        sent = All-nil (λ answer. IsPrefix (up_to answer) ((count_of (new_world base)).histories answer.shard));
        machines = λ name. record {
          kept = omega arith;
          read = omega arith;
          journals = λ shard. prefix-refl (base shard);
          legal = legal;
          stage = tt;
        };
      }

  -- so the invariant holds at the end of every run
  pub sound-run : (base : ℕ → List Text) (events : List Event) → IsRun MayFollow base events
      → (logs : Logs) × IsSound MayFollow (end_of base events) logs
  sound-run base events run = sound-after (new_world base) (first-logs base) (sound-new base run.legal) events run.allowed

-- the second world has the first journals of the first one, and more messages and replies
pub record GoesOn (old new : World) : Type 0 where
  pub base : new.base ≡ old.base
  pub stream : IsPrefix old.stream new.stream
  pub sent : IsPrefix old.sent new.sent

-- no event takes anything of the stream or of the replies away
goes-next : (world : World) (event : Event) → GoesOn world (next world event)
goes-next world (Write message) =
    record { base = refl; stream = prefix-append world.stream (message ∷ []); sent = prefix-refl world.sent }
goes-next world (Intrude message) =
    record { base = refl; stream = prefix-append world.stream (message ∷ []); sent = prefix-refl world.sent }
goes-next world (Read name journals) = record { base = refl; stream = prefix-refl world.stream; sent = prefix-refl world.sent }
goes-next world (Call name number barrier) = record { base = refl; stream = prefix-refl world.stream; sent = prefix-refl world.sent }
goes-next world (Record name shard text) = record { base = refl; stream = prefix-refl world.stream; sent = prefix-refl world.sent }
goes-next world (Look name known) = record { base = refl; stream = prefix-refl world.stream; sent = prefix-refl world.sent }
goes-next world (Publish name records) = record { base = refl; stream = prefix-refl world.stream; sent = prefix-refl world.sent }
goes-next world (Hold name answer) = record { base = refl; stream = prefix-refl world.stream; sent = prefix-refl world.sent }
goes-next world (Reply name answer) =
    record { base = refl; stream = prefix-refl world.stream; sent = prefix-append world.sent (answer ∷ []) }
goes-next world (End name keep) = record { base = refl; stream = prefix-refl world.stream; sent = prefix-refl world.sent }
goes-next world (Part name) = record { base = refl; stream = prefix-refl world.stream; sent = prefix-refl world.sent }
goes-next world (Keep name place) = record { base = refl; stream = prefix-refl world.stream; sent = prefix-refl world.sent }
goes-next world (Crash name keep) = record { base = refl; stream = prefix-refl world.stream; sent = prefix-refl world.sent }
goes-next world (Copy name other keep) = record { base = refl; stream = prefix-refl world.stream; sent = prefix-refl world.sent }

pub goes-after : (world : World) (events : List Event) → GoesOn world (after world events)
goes-after world [] = record { base = refl; stream = prefix-refl world.stream; sent = prefix-refl world.sent }
goes-after world (event ∷ events) =
    let once = goes-next world event in
    let more = goes-after (next world event) events in
    record {
      base = more.base ∙ once.base;
      stream = prefix-trans world.stream (next world event).stream (after world (event ∷ events)).stream once.stream more.stream;
      sent = prefix-trans world.sent (next world event).sent (after world (event ∷ events)).sent once.sent more.sent;
    }

-- what counts in a stream is a prefix of what counts in a longer one
pub goes-counts : (old new : World) → GoesOn old new → (shard : ℕ) → IsPrefix ((count_of old).histories shard) ((count_of new).histories shard)
goes-counts old new goes shard =
    subst (λ (base : ℕ → List Text). IsPrefix ((count_of old).histories shard) ((count_in base new.stream (length new.stream)).histories shard))
    (sym goes.base)
    (stream-grows old.base old.stream new.stream goes.stream shard)
