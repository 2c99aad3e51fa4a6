-- Ways from one partition to another: of no event, of one, and one after another.
use Rattle.std.proofs.Common.{◌≡◌, ℕ, List, [], ◌∷◌, ◌++◌, refl, ap, sym, ◌∙◌, subst, append_assoc}
use Rattle.std.specs.List.{Contains}
use Rattle.std.proofs.lemmas.List.{append-nil, map-append}
use Rattle.std.proofs.lemmas.List.Elements.{Contains-append_left}
use Rattle.one_history.specs.Streams.{Text, Word, Message}
use Rattle.one_history.specs.Machines.{Answer, World}
use Rattle.one_history.specs.Events.{Event, Write, Intrude, Read, Call, Record, Look, Publish, Hold, Reply, End, Part, Keep, Crash, Copy, IsAllowed}
use Rattle.one_history.specs.Events.{AreAllowed, next, after}
use Rattle.bridge_rule.specs.declared.held.Held.{Held}
use Rattle.bridge_rule.specs.declared.held.Place.{Place}
use Rattle.bridge_rule.specs.Bridges.{places_of, place_of, waits_for}
use Rattle.bridge_lines.specs.Acts.{Act, Put, Cut, PublishBarrier, PublishRecords, PublishMark, PublishNothing, Position, Count, Ready, Begin, End as EndHost}
use Rattle.bridge_lines.specs.Acts.{Reply as SendReply, Stop, Over}
use Rattle.bridge_turns.specs.Partitions.{Outcome}
use Rattle.bridge_turns.specs.Laws.{NothingFollows, Stands, carried, all_carried, IsOfMade, AreOfMade, AreReplies, Does}

pub after-append : (world : World) (some others : List Event) → after world (some ++ others) ≡ after (after world some) others
after-append world [] others = refl
after-append world (event ∷ some) others = after-append (next world event) some others

pub allowed-append : (world : World) (some others : List Event) → AreAllowed NothingFollows world some
    → AreAllowed NothingFollows (after world some) others → AreAllowed NothingFollows world (some ++ others)
allowed-append world [] others first second = second
allowed-append world (event ∷ some) others first second = (first.0, allowed-append (next world event) some others first.1 second)

pub carried-append : (shard : ℕ) (some others : List Act) (journal : List Text)
    → all_carried shard (some ++ others) journal ≡ all_carried shard others (all_carried shard some journal)
carried-append shard [] others journal = refl
carried-append shard (act ∷ some) others journal = carried-append shard some others (carried shard act journal)

pub places-append : (some others : List Held) → places_of (some ++ others) ≡ places_of some ++ places_of others
places-append [] others = refl
places-append (one ∷ some) others =
    ap (λ (l : List Place). waits_for one.reply one.place ++ l) (places-append some others)
    ∙ sym (append_assoc (waits_for one.reply one.place) (places_of some) (places_of others))

-- what was made stays made
made-stays : (world : World) (event : Event) (message : Message) → Contains world.made message → Contains (next world event).made message
made-stays world (Write other) message made = made
made-stays world (Intrude other) message made = made
made-stays world (Read name journals) message made = made
made-stays world (Call name number barrier) message made = Contains-append_left world.made _ message made
made-stays world (Record name shard text) message made = made
made-stays world (Look name known) message made = made
made-stays world (Publish name records) message made = Contains-append_left world.made _ message made
made-stays world (Hold name answer) message made = made
made-stays world (Reply name answer) message made = made
made-stays world (End name keep) message made = made
made-stays world (Part name) message made = made
made-stays world (Keep name place) message made = made
made-stays world (Crash name keep) message made = made
made-stays world (Copy name other keep) message made = made

pub made-after : (events : List Event) (world : World) (message : Message) → Contains world.made message
    → Contains (after world events).made message
made-after [] world message made = made
made-after (event ∷ events) world message made = made-after events (next world event) message (made-stays world event message made)

of-made-after : (events : List Event) (world : World) (act : Act) → IsOfMade world act → IsOfMade (after world events) act
of-made-after events world (Put one) made = tt
of-made-after events world (Cut shard length) made = tt
of-made-after events world (PublishBarrier barrier) made = made-after events world _ made
of-made-after events world (PublishRecords name sequence records) made = made-after events world _ made
of-made-after events world (PublishMark word) made = tt
of-made-after events world PublishNothing made = absurd made
of-made-after events world (Position barrier) made = tt
of-made-after events world (Count shard number) made = tt
of-made-after events world Ready made = tt
of-made-after events world Begin made = tt
of-made-after events world EndHost made = tt
of-made-after events world (SendReply number) made = tt
of-made-after events world (Stop why) made = tt
of-made-after events world Over made = tt

pub all-made-after : (events : List Event) (world : World) (acts : List Act) → AreOfMade world acts → AreOfMade (after world events) acts
all-made-after events world [] made = tt
all-made-after events world (act ∷ acts) made = (of-made-after events world act made.0, all-made-after events world acts made.1)

pub made-append : (world : World) (some others : List Act) → AreOfMade world some → AreOfMade world others → AreOfMade world (some ++ others)
made-append world [] others first second = second
made-append world (act ∷ some) others first second = (first.0, made-append world some others first.1 second)

-- nobody is answered
pub no-replies : (old new : World) → new.sent ≡ old.sent → AreReplies old new []
no-replies old new same = record { answers = []; sent = same ∙ sym (append-nil old.sent); places = refl }

pub joined-replies : (first second third : World) (some others : List Held) → AreReplies first second some → AreReplies second third others
    → AreReplies first third (some ++ others)
joined-replies first second third some others one other = record {
  answers = one.answers ++ other.answers;
  sent = other.sent ∙ ap (λ (l : List Answer). l ++ other.answers) one.sent ∙ append_assoc first.sent one.answers other.answers;
  places = map-append place_of one.answers other.answers ∙ (λ i. one.places i ++ other.places i) ∙ sym (places-append some others);
}

-- one way and then another
pub joined : (name : Word) (old between new : Outcome) (some others : List Held) (world : World) (first : Does name old between some world)
    → Does name between new others (after world first.events) → Does name old new (some ++ others) world
joined name old between new some others world first second =
    let same = after-append world first.events second.events in
    record {
      acts = first.acts ++ second.acts;
      said = second.said ∙ ap (λ (l : List Act). l ++ second.acts) first.said ∙ append_assoc old.said first.acts second.acts;
      events = first.events ++ second.events;
      allowed = allowed-append world first.events second.events first.allowed second.allowed;
      stands = subst (Stands new.state) (sym same) second.stands;
      journals = λ shard. ap (λ (w : World). (w.machines name).journals shard) same ∙ second.journals shard
          ∙ ap (all_carried shard second.acts) (first.journals shard)
          ∙ sym (carried-append shard first.acts second.acts ((world.machines name).journals shard));
      made = subst (λ (w : World). AreOfMade w (first.acts ++ second.acts)) (sym same)
          (made-append (after (after world first.events) second.events) first.acts second.acts
          (all-made-after second.events (after world first.events) first.acts first.made) second.made);
      replies = subst (λ (w : World). AreReplies world w (some ++ others)) (sym same)
          (joined-replies world (after world first.events) (after (after world first.events) second.events) some others first.replies
          second.replies);
    }

-- what changes no journal and makes nothing
pub record AreQuiet (acts : List Act) : Type 0 where
  pub carry : (shard : ℕ) (journal : List Text) → all_carried shard acts journal ≡ journal
  pub make : (world : World) → AreOfMade world acts

pub quiet-append : (some others : List Act) → AreQuiet some → AreQuiet others → AreQuiet (some ++ others)
quiet-append some others first second = record {
  carry = λ shard journal. carried-append shard some others journal ∙ ap (all_carried shard others) (first.carry shard journal)
      ∙ second.carry shard journal;
  make = λ world. made-append world some others (first.make world) (second.make world);
}

pub nothing-quiet : AreQuiet []
nothing-quiet = record { carry = λ shard journal. refl; make = λ world. tt }

-- something is said, and no event happens
pub says-quiet : (name : Word) (old new : Outcome) (acts : List Act) (world : World) → new.said ≡ old.said ++ acts → AreQuiet acts
    → Stands new.state world → Does name old new [] world
says-quiet name old new acts world said quiet stands = record {
  acts = acts;
  said = said;
  events = [];
  allowed = tt;
  stands = stands;
  journals = λ shard. sym (quiet.carry shard ((world.machines name).journals shard));
  made = quiet.make world;
  replies = no-replies world world refl;
}

-- nothing is said, and no event happens
pub stays : (name : Word) (old new : Outcome) (world : World) → new.said ≡ old.said → Stands new.state world → Does name old new [] world
stays name old new world said stands =
    says-quiet name old new [] world (said ∙ sym (append-nil old.said)) nothing-quiet stands

-- one event happens
pub happens : (name : Word) (old new : Outcome) (acts : List Act) (world : World) (event : Event) → new.said ≡ old.said ++ acts
    → IsAllowed NothingFollows world event → Stands new.state (next world event)
    → ((shard : ℕ) → ((next world event).machines name).journals shard ≡ all_carried shard acts ((world.machines name).journals shard))
    → AreOfMade (next world event) acts → (next world event).sent ≡ world.sent → Does name old new [] world
happens name old new acts world event said may stands journals made sent = record {
  acts = acts;
  said = said;
  events = event ∷ [];
  allowed = (may, tt);
  stands = stands;
  journals = journals;
  made = made;
  replies = no-replies world (next world event) sent;
}
