-- Records are published in messages that the machine may make.
use Rattle.std.proofs.Common.{◌≡◌, ℕ, zero, suc, ◌-◌, ◌==◌, ◌≤◌, Bool, true, false, List, [], ◌∷◌, ◌++◌, length, map, max, nat_lt, Option, Some, None, refl}
use Rattle.std.proofs.Common.{sym, ◌∙◌, subst, append_assoc, if◌then◌else◌, arith}
use Rattle.std.specs.List.{AllByRecursion, Contains, flat_map, slice_get, slice_index, range_with_len}
use Rattle.std.proofs.lemmas.Bool.{cond-false, ltb-false, ne_eqb}
use Rattle.std.proofs.lemmas.List.{append-nil}
use Rattle.std.proofs.lemmas.List.Elements.{All-from_recursion, Contains-push}
use Rattle.std.proofs.lemmas.Option.{none-some}
use Rattle.one_history.specs.Streams.{Text, Word, Indexed, OfRecords}
use Rattle.one_history.specs.Machines.{Machine, World, Knows, count_at}
use Rattle.one_history.specs.Events.{Event, Publish, AreAllowed, IsServing as Serving-in, name_of, next, after}
use Rattle.bridge_rule.specs.declared.limits.TheConstants.{LOGS}
use Rattle.bridge_rule.specs.declared.role.Role.{Role}
use Rattle.bridge_rule.specs.declared.role.Role.TheVariants.{Untold, Following, Beginning, Serving}
use Rattle.bridge_rule.specs.Roles.{stage_of}
use Rattle.bridge_rule.specs.Logs.{LogState, known_at, known_of}
use Rattle.bridge_rule.specs.Bridges.{BridgeState, StandsIn, IsKnown, IsServing, log_at, served_name}
use Rattle.bridge_lines.specs.declared.limits.TheConstants.{MAX_RECORDS}
use Rattle.bridge_lines.specs.Acts.{Act, PublishRecords}
use Rattle.bridge_turns.specs.Publishing.{Batch, batch_of, next_sequence, longer, flushed, all_added, closed}
use Rattle.bridge_turns.specs.Partitions.{found, text_found, news_of, news}
use Rattle.bridge_turns.specs.Laws.{NothingFollows, AreOfMade, all_carried}
use Rattle.bridge_turns.proofs.Ways.{made-after}

-- ---- what is said

-- these messages of this name are said, whatever their numbers
pub data AreSaid (name : Word) : List Act → List (List Indexed) → Type 0 where
  said_none : AreSaid name [] []
  said_one : (sequence : ℕ) (records : List Indexed) (acts : List Act) (others : List (List Indexed)) → AreSaid name acts others
      → AreSaid name (PublishRecords name sequence records ∷ acts) (records ∷ others)

pub record Speaks (Is : Indexed → Type 0) (batch result : Batch) : Type 0 where
  pub acts : List Act
  pub messages : List (List Indexed)
  pub said : result.said ≡ batch.said ++ acts
  pub are_said : AreSaid batch.begun.name acts messages
  pub each : AllByRecursion (AllByRecursion Is) messages
  pub ended : result.begun.records ≡ []

module _ (Is : Indexed → Type 0) where
  is-append : (some others : List Indexed) → AllByRecursion Is some → AllByRecursion Is others → AllByRecursion Is (some ++ others)
  is-append [] others first second = second
  is-append (one ∷ some) others first second = (first.0, is-append some others first.1 second)

  -- what is begun is published
  closes-by : (batch : Batch) (records : List Indexed) → batch.begun.records ≡ records → AllByRecursion Is records
      → (result : Batch) → (if length records == 0 then batch else flushed batch) ≡ result → Speaks Is batch result
  closes-by batch [] is each result result_is = subst (Speaks Is batch) result_is (record {
    acts = [];
    messages = [];
    said = sym (append-nil batch.said);
    are_said = said_none;
    each = tt;
    ended = is;
  })
  closes-by batch (one ∷ records) is each result result_is =
      let some : (length (one ∷ records) == 0) ≡ false = ne_eqb (length (one ∷ records)) 0 (λ none. absurd (omega arith)) in
      subst (Speaks Is batch) (sym (cond-false (length (one ∷ records) == 0) batch (flushed batch) some) ∙ result_is) (record {
        acts = PublishRecords batch.begun.name (next_sequence batch.begun.sequence) batch.begun.records ∷ [];
        messages = batch.begun.records ∷ [];
        said = refl;
        are_said = said_one (next_sequence batch.begun.sequence) batch.begun.records [] [] said_none;
        each = (subst (AllByRecursion Is) (sym is) each, tt);
        ended = refl;
      })

  closes : (batch : Batch) → AllByRecursion Is batch.begun.records → Speaks Is batch (closed batch)
  closes batch each = closes-by batch batch.begun.records refl each (closed batch) refl

  -- one more record, of a message that is full or isn't
  full-or-not : (batch : Batch) (record_of : Indexed) (records : List Indexed) → AllByRecursion Is batch.begun.records → Is record_of
      → ((other : Batch) → AllByRecursion Is other.begun.records → Speaks Is other (closed (all_added other records)))
      → (full : Bool)
      → Speaks Is batch (closed (all_added (if full then flushed (batch_of (longer batch.begun record_of) batch.said)
      else batch_of (longer batch.begun record_of) batch.said) records))
  full-or-not batch record_of records begun here rest true =
      let message = batch.begun.records ++ record_of ∷ [] in
      let sequence = next_sequence batch.begun.sequence in
      let more = rest (flushed (batch_of (longer batch.begun record_of) batch.said)) tt in
      record {
        acts = PublishRecords batch.begun.name sequence message ∷ more.acts;
        messages = message ∷ more.messages;
        said = more.said ∙ append_assoc batch.said (PublishRecords batch.begun.name sequence message ∷ []) more.acts;
        are_said = said_one sequence message more.acts more.messages more.are_said;
        each = (is-append batch.begun.records (record_of ∷ []) begun (here, tt), more.each);
        ended = more.ended;
      }
  full-or-not batch record_of records begun here rest false =
      let more = rest (batch_of (longer batch.begun record_of) batch.said)
      (is-append batch.begun.records (record_of ∷ []) begun (here, tt)) in
      record {
        acts = more.acts;
        messages = more.messages;
        said = more.said;
        are_said = more.are_said;
        each = more.each;
        ended = more.ended;
      }

  pub speaks : (records : List Indexed) (batch : Batch) → AllByRecursion Is batch.begun.records → AllByRecursion Is records
      → Speaks Is batch (closed (all_added batch records))
  speaks [] batch begun each = closes batch begun
  speaks (record_of ∷ records) batch begun each =
      full-or-not batch record_of records begun each.0 (λ other others. speaks records other others each.1)
      (length (longer batch.begun record_of).records == MAX_RECORDS)

-- ---- what the machine makes

abbrev pub events_of : Word → List (List Indexed) → List Event
events_of name messages = map (Publish name) messages

pub may-publish : (messages : List (List Indexed)) (world : World) (name : Word) → Serving-in world name
    → AllByRecursion (AllByRecursion (Knows (world.machines name))) messages → AreAllowed NothingFollows world (events_of name messages)
may-publish [] world name serves known = tt
may-publish (message ∷ messages) world name serves known = (
  record { serving = serves; known = All-from_recursion (Knows (world.machines name)) message known.0 },
  may-publish messages (next world (Publish name message)) name (record { barrier = serves.barrier; stage_is = serves.stage_is }) known.1,
)

pub published-machines : (messages : List (List Indexed)) (world : World) (name : Word)
    → (after world (events_of name messages)).machines ≡ world.machines
published-machines [] world name = refl
published-machines (message ∷ messages) world name = published-machines messages (next world (Publish name message)) name

pub published-sent : (messages : List (List Indexed)) (world : World) (name : Word) → (after world (events_of name messages)).sent ≡ world.sent
published-sent [] world name = refl
published-sent (message ∷ messages) world name = published-sent messages (next world (Publish name message)) name

pub published-stands : (messages : List (List Indexed)) (world : World) (bridge : BridgeState) → StandsIn bridge world
    → StandsIn bridge (after world (events_of bridge.machine messages))
published-stands [] world bridge stands = stands
published-stands (message ∷ messages) world bridge stands =
    published-stands messages (next world (Publish bridge.machine message)) bridge stands

pub published-made : (by : Word) (acts : List Act) (messages : List (List Indexed)) → AreSaid by acts messages → (world : World) (name : Word)
    → by ≡ name_of (world.machines name).stage → AreOfMade (after world (events_of name messages)) acts
published-made by acts messages said_none world name is = tt
published-made by acts messages (said_one sequence records others more said) world name is = (
  made-after (events_of name more) (next world (Publish name records)) (OfRecords by records)
      (subst (λ (w : Word). Contains (world.made ++ OfRecords w records ∷ []) (OfRecords by records)) is
      (Contains-push world.made (OfRecords by records))),
  published-made by others more said (next world (Publish name records)) name is,
)

pub said-quiet : (by : Word) (acts : List Act) (messages : List (List Indexed)) → AreSaid by acts messages
    → (shard : ℕ) (journal : List Text) → all_carried shard acts journal ≡ journal
said-quiet by acts messages said_none shard journal = refl
said-quiet by acts messages (said_one sequence records others more said) shard journal = said-quiet by others more said shard journal

-- ---- what the bridge knows

get-behind : (some others : List Text) (index : ℕ) (text : Text) → length some ≤ index → slice_get others (index - length some) ≡ Some text
    → slice_get (some ++ others) index ≡ Some text
get-behind [] others index text past is = subst (λ (n : ℕ). slice_get others n ≡ Some text) (let at : index - 0 ≡ index = omega arith in at) is
get-behind (first ∷ some) others zero text past is = absurd (omega arith)
get-behind (first ∷ some) others (suc index) text past is =
    get-behind some others index text (omega arith)
    (subst (λ (n : ℕ). slice_get others n ≡ Some text) (let at : suc index - suc (length some) ≡ index - length some = omega arith in at) is)

known-by : (log : LogState) (history : List Text) (index : ℕ) (text : Text) → log.count ≡ length history → (before : Bool)
    → nat_lt index log.count ≡ before → (if before then None else slice_get log.beyond (index - log.count)) ≡ Some text
    → slice_get (history ++ log.beyond) index ≡ Some text
known-by log history index text count true before is = absurd (none-some text is)
known-by log history index text count false before is =
    let past : log.count ≤ index = ltb-false index log.count before in
    get-behind history log.beyond index text (omega arith)
    (subst (λ (n : ℕ). slice_get log.beyond (index - n) ≡ Some text) count is)

knows-text : (role : Role) → IsServing role → (log : LogState) (history : List Text) (machine : Machine) (shard index : ℕ) (text : Text)
    → log.count ≡ length history → IsKnown role log history machine shard → known_at log index ≡ Some text
    → Knows machine (record { shard = shard; index = index; text = text })
knows-text Untold serves log history machine shard index text count known is = absurd serves
knows-text Following serves log history machine shard index text count known is = absurd serves
knows-text (Beginning own) serves log history machine shard index text count known is = absurd serves
knows-text (Serving own) serves log history machine shard index text count known is =
    subst (λ (l : List Text). slice_get l index ≡ Some text) (sym known.0)
    (known-by log history index text count (nat_lt index log.count) refl is)

knows-found : (machine : Machine) (shard index : ℕ) (text : Option Text)
    → ((known : Text) → text ≡ Some known → Knows machine (record { shard = shard; index = index; text = known }))
    → AllByRecursion (Knows machine) (text_found shard index text)
knows-found machine shard index None knows = tt
knows-found machine shard index (Some text) knows = (knows text refl, tt)

flat-known : (machine : Machine) (f : ℕ → List Indexed) → ((number : ℕ) → AllByRecursion (Knows machine) (f number)) → (numbers : List ℕ)
    → AllByRecursion (Knows machine) (flat_map f numbers)
flat-known machine f each [] = tt
flat-known machine f each (number ∷ numbers) =
    is-append (Knows machine) (f number) (flat_map f numbers) (each number) (flat-known machine f each numbers)

pub knows-news : (bridge : BridgeState) (world : World) (published : List ℕ) → IsServing bridge.role → StandsIn bridge world
    → AllByRecursion (Knows (world.machines bridge.machine)) (news bridge.logs published)
unfolding news
knows-news bridge world published serves stands =
    let machine = world.machines bridge.machine in
    let count = count_at world machine.read in
    flat-known machine (news_of bridge.logs published)
    (λ shard. flat-known machine (found (log_at bridge.logs shard) shard)
    (λ index. knows-found machine shard index (known_at (log_at bridge.logs shard) index)
    (λ text is. knows-text bridge.role serves (log_at bridge.logs shard) (count.histories shard) machine shard index text (stands.counts shard)
    (stands.known shard) is))
    (range_with_len (max (slice_index published shard) (log_at bridge.logs shard).count)
    (known_of (log_at bridge.logs shard) - max (slice_index published shard) (log_at bridge.logs shard).count)))
    (range_with_len 0 LOGS)

-- the name by which the machine serves
pub served-name : (role : Role) → IsServing role → served_name role ≡ name_of (stage_of role)
served-name Untold serves = absurd serves
served-name Following serves = absurd serves
served-name (Beginning own) serves = absurd serves
served-name (Serving own) serves = refl
