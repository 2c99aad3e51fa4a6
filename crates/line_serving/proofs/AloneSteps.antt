-- The host of one caller: a line more, and what it leaves.
use Rattle.std.proofs.Common.{◌≡◌, ◌+◌, ◌<◌, ℕ, List, [], ◌∷◌, ◌++◌, length, drop, map, get_or, Result}
use Rattle.std.proofs.Common.{refl, sym, ap, subst, ◌∙◌, inl, inr, append-nil, append_assoc, arith}
use Rattle.std.specs.Prelude.{IfSome, Option, None, Some}
use Rattle.std.proofs.lemmas.List.{drop_more, flat_map_more, length-map}
use Rattle.std.proofs.lemmas.Slice.Zip.{all_zipped_more}
use Rattle.std.proofs.lemmas.Option.{get_or_from_slice_get, same_Some, slice_get-get_or, slice_get_within}
use Rattle.std.specs.Option.{IsSome, option_map}
use Rattle.std.specs.List.{flat_map, slice_get}
use Rattle.issuer_base.specs.declared.answer.Answer.{Answer}
use Rattle.issuer_base.specs.declared.answer.Refusal.{Refusal}
use Rattle.issuer_base.specs.declared.entry.Entry.{Entry}
use Rattle.issuer_base.specs.declared.outside.store.Store.{Ghosts}
use Rattle.line_reader.specs.Reading.{kept}
use Rattle.line_checks.specs.LookedUp.{IsLookUp, AreLookUps}
use Rattle.line_checks.specs.Reading.{reading}
use Rattle.line_checks.specs.declared.looked_up.LookedUp.{LookedUp}
use Rattle.line_checks.proofs.KeptLines.{reading-kept}
use Rattle.issuer_setup.specs.IssuerSetup.{Setup}
use Rattle.answer_text.specs.AnswerText.{printed}
use Rattle.shard_book.specs.declared.shard.Shard.{Shard}
use Rattle.shard_book.specs.Shards.{store_in}
use Rattle.shard_book.proofs.OwnDecisions.{legal-then}
use Rattle.one_caller.specs.declared.solo.Solo.{Solo}
use Rattle.host_loading.specs.Books.{ShardBook}
use Rattle.host_loading.specs.Hosts.{AreShards, Stand}
use Rattle.host_loading.proofs.Places.{read-map}
use Rattle.one_caller.specs.Runs.{HasRun, LeavesAnswering}
use Rattle.one_caller.specs.OwnTails.{IsOwnTail}
use Rattle.one_caller.specs.Turns.{Run, Turn}
use Rattle.one_caller.proofs.OneRun.{run-one_history}
use Rattle.one_caller.proofs.Running.{begins-legal, run-on}
use Rattle.desk_host.specs.Configuration.{HasSoundParts}
use Rattle.desk_host.specs.Journals.{IsReadySolo}
use Rattle.line_blocks.specs.Serving.{TakesLine, Settles}
use Rattle.line_serving.specs.Leaving.{LeavesAnswered, LeavesLoaded}
use Rattle.line_serving.specs.declared.alone.AloneHost.{AloneHost}
use Rattle.line_serving.specs.declared.hosts.LineHost.TheVariants.{Alone}
use Rattle.line_serving.specs.Durable.{IsRecordedText}
use Rattle.line_serving.specs.Hosts.{HasAnswered, MaySettleAlone, IsIdle}
use Rattle.desk_host.specs.Left.{LeaveJournals}
use Rattle.desk_host.specs.Kept.{HoldOwnTails}
use Rattle.desk_host.specs.SeenStores.{Logged, SeenJournals, journals_seen}
use Rattle.desk_host.proofs.HostRuns.{run-line, recorded}
use Rattle.desk_host.proofs.KeptSteps.{begins, hold-own_tails, keep-journals}
use Rattle.desk_host.proofs.SeenSteps.{at-place}
use Rattle.desk_host.proofs.LeftSteps.{closed-left}
use Rattle.desk_host.proofs.LoadedLaws.{lawful-loaded}
use Rattle.desk_host.proofs.WorldLaws.{is-lawful}

-- a run over lines cut to what is kept of them is one over the lines
run-kept : (issuer : Setup) (first : List ShardBook) (asked : List (List ℕ)) (answers : List Answer) (last : List ShardBook)
    → Run issuer first (map kept asked) answers last → Run issuer first asked answers last
run-kept issuer first [] [] last run = run
run-kept issuer first (line ∷ asked) (answer ∷ answers) last run = (
  run.0,
  subst (λ says. Turn issuer first says answer run.0) (reading-kept issuer line) run.1,
  run-kept issuer run.0 asked answers last run.2,
)
run-kept issuer first [] (answer ∷ answers) last run = absurd run
run-kept issuer first (line ∷ asked) [] last run = absurd run

-- what is in doubt as the record of a line cut to what is kept of it is so as that of the line
own-kept : (issuer : Setup) (shard : ℕ) (asked : List (List ℕ)) (answers : List Answer) (history : List Entry)
    (tail : List ℕ) → IsOwnTail issuer shard (map kept asked) answers history tail
    → IsOwnTail issuer shard asked answers history tail
own-kept issuer shard asked answers history tail own = elim own [
  | inl none ↦ inl none
  | inr its ↦
      let below = slice_get_within (map kept asked) its.index its.line its.line_is in
      let at = at-place asked its.index (omega (arith, below, length-map asked kept)) in
      let same : kept at.0 ≡ its.line =
      same_Some (kept at.0) its.line (sym (read-map kept asked its.index at.0 at.1) ∙ its.line_is) in
      inr (record {
        index = its.index;
        line = at.0;
        asked = its.asked;
        line_is = at.1;
        answer_is = its.answer_is;
        asked_is = sym (reading-kept issuer at.0) ∙ ap (reading issuer) same ∙ its.asked_is;
        home = its.home;
        text_is = its.text_is;
      })
]

own-tails_kept : (issuer : Setup) (asked : List (List ℕ)) (answers : List Answer) (journals : SeenJournals)
    (last : List ShardBook) → HoldOwnTails issuer (map kept asked) answers journals last
    → HoldOwnTails issuer asked answers journals last
own-tails_kept issuer asked answers journals last own shard is store is_at store_at =
    let its = own shard is store is_at store_at in
    record {
      tail = its.tail;
      own = own-kept issuer shard asked answers is.history its.tail its.own;
      bytes_are = its.bytes_are;
      leaves = its.leaves;
    }

-- the text of one answer more
pub texts-more : (answers : List Answer) (answer : Answer)
    → flat_map printed (answers ++ answer ∷ []) ≡ flat_map printed answers ++ printed answer
texts-more answers answer = sym (flat_map_more printed [] answers answer)

-- the first of the look-ups is that of the first line
pub record HasFirst (issuer : Setup) (lines : List (List ℕ)) (found : Result LookedUp Refusal)
    (more : List (Result LookedUp Refusal)) : Type 0 where
  pub line : List ℕ
  pub left : List (List ℕ)
  pub lines_are : lines ≡ line ∷ left
  pub first : IsLookUp issuer line found
  pub others : AreLookUps issuer left more

pub first-of : (issuer : Setup) (lines : List (List ℕ)) (found : Result LookedUp Refusal)
    (all more : List (Result LookedUp Refusal)) → all ≡ found ∷ more → AreLookUps issuer lines all
    → HasFirst issuer lines found more
first-of issuer lines found all more all_are are =
    parted lines (subst (AreLookUps issuer lines) all_are are)
  where
    parted : (lines : List (List ℕ)) → AreLookUps issuer lines (found ∷ more) → HasFirst issuer lines found more
    parted [] are = absurd are
    parted (line ∷ left) are = record { line = line; left = left; lines_are = refl; first = are.0; others = are.1 }

-- the look-ups from a place on are the one there and those after it
pub parted-at : (all : List (Result LookedUp Refusal)) (place : ℕ) (found : Result LookedUp Refusal)
    → slice_get all place ≡ Some found → drop place all ≡ found ∷ drop (place + 1) all
parted-at all place found is =
    drop_more all place found (slice_get_within all place found is)
    ∙ ap (λ first. first ∷ drop (place + 1) all) (get_or_from_slice_get all place found found is)

-- a line that waits was looked up
pub found-there : {R : Type 0} (now : R → Result LookedUp Refusal) (found : Option R) (all : List (Result LookedUp Refusal))
    (place : ℕ) → option_map now found ≡ slice_get all place → place < length all → IsSome found
found-there now (Some found) all place is within = refl
found-there now None [] place is within = absurd (omega (arith, within))
found-there now None (first ∷ all) place is within =
    absurd (let both : None ≡ Some (get_or (first ∷ all) place first) = is ∙ slice_get-get_or (first ∷ all) place first within in cc)

-- no look-up is that of no line
none-of : (issuer : Setup) (lines : List (List ℕ)) (all : List (Result LookedUp Refusal)) → all ≡ []
    → AreLookUps issuer lines all → lines ≡ []
none-of issuer [] all none are = refl
none-of issuer (line ∷ lines) all none are = absurd (subst (AreLookUps issuer (line ∷ lines)) none are)

-- one more
pub look-ups-more : (issuer : Setup) (lines : List (List ℕ)) (line : List ℕ) (old new : List (Result LookedUp Refusal))
    (found : Result LookedUp Refusal) → new ≡ old ++ found ∷ [] → IsLookUp issuer line found
    → AreLookUps issuer lines old → AreLookUps issuer (lines ++ line ∷ []) new
look-ups-more issuer lines line old new found new_is its are =
    subst (AreLookUps issuer (lines ++ line ∷ [])) (sym new_is)
    (all_zipped_more (IsLookUp issuer) lines old line found are its)

module _ {S : Type 0} {G : Ghosts S} where
  -- no line is answered yet
  pub answered-none : (host : AloneHost S G) → host.ahead ≡ [] → HasAnswered host.host [] [] [] host
  answered-none host none = record {
    waits = subst (AreLookUps host.host.issuer []) (sym none) tt;
    issuer_is = refl;
    answers = [];
    text_is = refl;
    run = λ books begun. (books, begun);
  }

  -- the shards stay, and these wait now
  moved : (first : Solo S G) (old new : AloneHost S G) → new.host.issuer ≡ old.host.issuer
      → new.host.shards.items ≡ old.host.shards.items → (lines : List (List ℕ)) (text : List ℕ)
      (waiting left : List (List ℕ))
      → AreLookUps first.issuer left new.ahead → HasAnswered first lines text waiting old
      → HasAnswered first lines text left new
  moved first old new same_issuer same_shards lines text waiting left waits so_far = record {
    waits = waits;
    issuer_is = same_issuer ∙ so_far.issuer_is;
    answers = so_far.answers;
    text_is = so_far.text_is;
    run = λ books begun.
        let r = so_far.run books begun in (
          r.0,
          subst (λ (shards : List (Shard S G)). HasRun first.issuer first.shards.items books lines so_far.answers
              shards r.0) (sym same_shards) r.1,
        );
  }

  -- one more line waits
  pub waits-more : (first : Solo S G) (old new : AloneHost S G) (line : List ℕ) (found : Result LookedUp Refusal)
      → new.ahead ≡ old.ahead ++ found ∷ [] → new.host.issuer ≡ old.host.issuer
      → new.host.shards.items ≡ old.host.shards.items → IsLookUp old.host.issuer line found
      → (lines : List (List ℕ)) (text : List ℕ) (waiting : List (List ℕ)) → HasAnswered first lines text waiting old
      → HasAnswered first lines text (waiting ++ line ∷ []) new
  waits-more first old new line found ahead_is same_issuer same_shards its lines text waiting so_far =
      moved first old new same_issuer same_shards lines text waiting (waiting ++ line ∷ [])
      (look-ups-more first.issuer waiting line old.ahead new.ahead found ahead_is
      (subst (λ (issuer : Setup). IsLookUp issuer line found) so_far.issuer_is its) so_far.waits) so_far

  -- a line is answered, and these wait then
  pub answers-more : (first : Solo S G) (old new : AloneHost S G) (line : List ℕ) (answer : Answer)
      → new.host.issuer ≡ old.host.issuer
      → ((books : List ShardBook) → Stand old.host.issuer old.host.shards.items books
      → (after : List ShardBook) × Stand new.host.issuer new.host.shards.items after
      × Turn old.host.issuer books (reading old.host.issuer line) answer after)
      → ((books : List ShardBook) → Stand old.host.issuer old.host.shards.items books
      → LeavesAnswering old.host.issuer (reading old.host.issuer line) answer books old.host.shards.items
      new.host.shards.items)
      → (lines : List (List ℕ)) (text : List ℕ) (waiting left : List (List ℕ))
      → HasAnswered first lines text waiting old → AreLookUps first.issuer left new.ahead
      → HasAnswered first (lines ++ line ∷ []) (text ++ printed answer) left new
  answers-more first old new line answer same turn leaves lines text waiting left so_far waits = record {
    waits = waits;
    issuer_is = same ∙ so_far.issuer_is;
    answers = so_far.answers ++ answer ∷ [];
    text_is = ap (λ (t : List ℕ). t ++ printed answer) so_far.text_is ∙ sym (texts-more so_far.answers answer);
    run = λ books begun.
        let r = so_far.run books begun in
        run-line first.issuer first.shards.items books lines so_far.answers old.host.shards.items new.host.shards.items
        r.0 line answer r.1
        (subst (λ (i : Setup). (books : List ShardBook) → Stand i old.host.shards.items books
        → (after : List ShardBook) × Stand i new.host.shards.items after
        × Turn i books (reading i line) answer after) so_far.issuer_is
        (λ books stands. let t = turn books stands in
        (t.0, subst (λ (i : Setup). Stand i new.host.shards.items t.0) same t.1, t.2)))
        (subst (λ (i : Setup). (books : List ShardBook) → Stand i old.host.shards.items books
        → LeavesAnswering i (reading i line) answer books old.host.shards.items new.host.shards.items)
        so_far.issuer_is leaves);
  }

  -- a line is answered at once
  pub takes-alone : (first : Solo S G) (old new : AloneHost S G) (line was_due is_due : List ℕ) (answer : Answer)
      → old.ahead ≡ [] → new.ahead ≡ [] → is_due ≡ was_due ++ printed answer
      → new.host.issuer ≡ old.host.issuer
      → ((books : List ShardBook) → Stand old.host.issuer old.host.shards.items books
      → (after : List ShardBook) × Stand new.host.issuer new.host.shards.items after
      × Turn old.host.issuer books (reading old.host.issuer line) answer after)
      → ((books : List ShardBook) → Stand old.host.issuer old.host.shards.items books
      → LeavesAnswering old.host.issuer (reading old.host.issuer line) answer books old.host.shards.items
      new.host.shards.items)
      → (lines : List (List ℕ)) (text : List ℕ) (waiting : List (List ℕ)) → HasAnswered first lines text waiting old
      → TakesLine (λ lines text waiting. HasAnswered first lines text waiting new) lines text waiting line was_due
      is_due
  takes-alone first old new line was_due is_due answer none_old none_new due same turn leaves lines text waiting so_far =
      let none : waiting ≡ [] = none-of first.issuer waiting old.ahead none_old so_far.waits in
      record {
        answered = lines ++ line ∷ [];
        left = [];
        more = printed answer;
        all = append-nil (lines ++ line ∷ [])
            ∙ ap (λ (ls : List (List ℕ)). ls ++ line ∷ [])
            (sym (ap (λ (ls : List (List ℕ)). lines ++ ls) none ∙ append-nil lines));
        due = due;
        served =
            answers-more first old new line answer same turn leaves lines text waiting [] so_far
            (subst (AreLookUps first.issuer []) (sym none_new) tt);
      }

  -- a line waits
  pub takes-waiting : (first : Solo S G) (new : AloneHost S G) (line due : List ℕ)
      → (lines : List (List ℕ)) (text : List ℕ) (waiting : List (List ℕ))
      → HasAnswered first lines text (waiting ++ line ∷ []) new
      → TakesLine (λ lines text waiting. HasAnswered first lines text waiting new) lines text waiting line due due
  takes-waiting first new line due lines text waiting waits = record {
    answered = lines;
    left = waiting ++ line ∷ [];
    more = [];
    all = sym (append_assoc lines waiting (line ∷ []));
    due = sym (append-nil due);
    served = subst (λ (t : List ℕ). HasAnswered first lines t (waiting ++ line ∷ []) new) (sym (append-nil text)) waits;
  }

  -- and all that wait are then answered
  pub takes-settled : (first : Solo S G) (new : AloneHost S G) (line was_due is_due : List ℕ)
      (lines : List (List ℕ)) (text : List ℕ) (waiting : List (List ℕ))
      → Settles (λ lines text waiting. HasAnswered first lines text waiting new) lines text (waiting ++ line ∷ []) was_due
      is_due
      → TakesLine (λ lines text waiting. HasAnswered first lines text waiting new) lines text waiting line was_due
      is_due
  takes-settled first new line was_due is_due lines text waiting settled = record {
    answered = lines ++ (waiting ++ line ∷ []);
    left = [];
    more = settled.more;
    all = append-nil (lines ++ (waiting ++ line ∷ [])) ∙ sym (append_assoc lines waiting (line ∷ []));
    due = settled.due;
    served = settled.served;
  }

  -- ---- settling the lines that wait

  -- the host, without the lines before this place
  abbrev pub from-place : AloneHost S G → ℕ → AloneHost S G
  from-place host place = record { host = host.host; ahead = drop place host.ahead; first = host.first }

  -- of the lines that waited these were answered since, with this text, and the others wait
  pub record IsSettling (first : Solo S G) (lines : List (List ℕ)) (text : List ℕ) (waiting : List (List ℕ))
      (was_due is_due : List ℕ) (now : AloneHost S G) : Type 0 where
    pub done : List (List ℕ)
    pub left : List (List ℕ)
    pub more : List ℕ
    pub all : done ++ left ≡ waiting
    pub due : is_due ≡ was_due ++ more
    pub served : HasAnswered first (lines ++ done) (text ++ more) left now

  -- none was answered: what was looked up was checked
  pub settling-none : (first : Solo S G) (old new : AloneHost S G) → new.host ≡ old.host
      → ((lines : List (List ℕ)) → AreLookUps old.host.issuer lines old.ahead
      → AreLookUps old.host.issuer lines new.ahead)
      → (due : List ℕ) (lines : List (List ℕ)) (text : List ℕ) (waiting : List (List ℕ))
      → HasAnswered first lines text waiting old → IsSettling first lines text waiting due due new
  settling-none first old new same checked due lines text waiting so_far =
      let waits = subst (λ (issuer : Setup). AreLookUps issuer waiting old.ahead → AreLookUps issuer waiting new.ahead)
      so_far.issuer_is (checked waiting) so_far.waits in
      record {
        done = [];
        left = waiting;
        more = [];
        all = refl;
        due = sym (append-nil due);
        served =
            subst (λ (t : List ℕ). HasAnswered first (lines ++ []) t waiting new) (sym (append-nil text))
            (subst (λ (ls : List (List ℕ)). HasAnswered first ls text waiting new) (sym (append-nil lines))
            (moved first old new (ap (λ (host : Solo S G). host.issuer) same)
            (ap (λ (host : Solo S G). host.shards.items) same) lines text waiting waiting waits so_far));
      }

  -- one more is answered, by its look-up
  pub settling-more : (first : Solo S G) (old new : AloneHost S G) (found : Result LookedUp Refusal) (answer : Answer)
      → old.ahead ≡ found ∷ new.ahead → new.host.issuer ≡ old.host.issuer
      → ((line : List ℕ) → IsLookUp old.host.issuer line found
      → (books : List ShardBook) → Stand old.host.issuer old.host.shards.items books
      → (after : List ShardBook) × Stand new.host.issuer new.host.shards.items after
      × Turn old.host.issuer books (reading old.host.issuer line) answer after)
      → ((line : List ℕ) → IsLookUp old.host.issuer line found
      → (books : List ShardBook) → Stand old.host.issuer old.host.shards.items books
      → LeavesAnswering old.host.issuer (reading old.host.issuer line) answer books old.host.shards.items
      new.host.shards.items)
      → (was_due mid_due is_due : List ℕ) → is_due ≡ mid_due ++ printed answer
      → (lines : List (List ℕ)) (text : List ℕ) (waiting : List (List ℕ))
      → IsSettling first lines text waiting was_due mid_due old
      → IsSettling first lines text waiting was_due is_due new
  settling-more first old new found answer taken same turn leaves was_due mid_due is_due due lines text waiting so_far =
      let its = first-of first.issuer so_far.left found old.ahead new.ahead taken so_far.served.waits in
      let looked_up = subst (λ (issuer : Setup). IsLookUp issuer its.line found) (sym so_far.served.issuer_is) its.first in
      let more = answers-more first old new its.line answer same (turn its.line looked_up) (leaves its.line looked_up) (lines ++ so_far.done)
      (text ++ so_far.more) so_far.left its.left so_far.served its.others in
      record {
        done = so_far.done ++ its.line ∷ [];
        left = its.left;
        more = so_far.more ++ printed answer;
        all = append_assoc so_far.done (its.line ∷ []) its.left
            ∙ ap (λ (ls : List (List ℕ)). so_far.done ++ ls) (sym its.lines_are) ∙ so_far.all;
        due = due ∙ ap (λ (t : List ℕ). t ++ printed answer) so_far.due
            ∙ append_assoc was_due so_far.more (printed answer);
        served =
            subst (λ (ls : List (List ℕ)). HasAnswered first ls (text ++ (so_far.more ++ printed answer)) its.left new)
            (append_assoc lines so_far.done (its.line ∷ []))
            (subst (λ (t : List ℕ). HasAnswered first ((lines ++ so_far.done) ++ its.line ∷ []) t its.left new)
            (append_assoc text so_far.more (printed answer)) more);
      }

  -- none is left
  pub settles-alone : (first : Solo S G) (old new : AloneHost S G) → new.host ≡ old.host → old.ahead ≡ []
      → new.ahead ≡ []
      → (was_due is_due : List ℕ) (lines : List (List ℕ)) (text : List ℕ) (waiting : List (List ℕ))
      → IsSettling first lines text waiting was_due is_due old
      → Settles (λ lines text waiting. HasAnswered first lines text waiting new) lines text waiting was_due is_due
  settles-alone first old new same none_old none_new was_due is_due lines text waiting so_far =
      let no_line : so_far.left ≡ [] = none-of first.issuer so_far.left old.ahead none_old so_far.served.waits in
      let all : so_far.done ≡ waiting =
      sym (append-nil so_far.done) ∙ ap (λ (ls : List (List ℕ)). so_far.done ++ ls) (sym no_line) ∙ so_far.all in
      record {
        more = so_far.more;
        due = so_far.due;
        served =
            subst (λ (ls : List (List ℕ)). HasAnswered first (lines ++ ls) (text ++ so_far.more) [] new) all
            (moved first old new (ap (λ (host : Solo S G). host.issuer) same)
            (ap (λ (host : Solo S G). host.shards.items) same) (lines ++ so_far.done) (text ++ so_far.more) so_far.left []
            (subst (AreLookUps first.issuer []) (sym none_new) tt) so_far.served);
      }

  -- ---- a host that was loaded

  -- it is idle
  pub idle-alone : (alone : AloneHost S G) → alone.ahead ≡ [] → IsRecordedText alone.host [] → IsIdle (Alone alone) 0
  idle-alone alone none recorded =
      let count : length alone.ahead ≡ 0 = ap length none in
      let may : MaySettleAlone alone 0 [] = record {
        waiting = [];
        looked_up = subst (AreLookUps alone.host.issuer []) (sym none) tt;
        few = omega (arith, count);
        fit = omega (arith, count);
        recorded = recorded;
      } in
      record { room = record { may_settle = may; fits = omega (arith, count) }; may_settle = may; settled = none }

  -- ---- what it leaves

  module _ (told : (store : S) → IfSome (G.disk store) (λ disk. G.bytes store ≡ Some disk.now.bytes)) (issuer : Setup)
      (prefix : List ℕ)
      (logs : Logged) (olds : List S) (first : Solo S G) (ready : IsReadySolo issuer prefix logs olds first) where
    -- its shards, under the issuer
    shards : AreShards issuer first.shards.items
    shards = subst (λ (i : Setup). AreShards i first.shards.items) ready.issuer_is first.are_shards

    module _ (sound : HasSoundParts issuer) (now : AloneHost S G) (asked : List (List ℕ)) (text : List ℕ)
        (so_far : HasAnswered first (map kept asked) text [] now) (stores : List S)
        (stores_are : stores ≡ map store_in now.host.shards.items) where
      pub leaves-alone : LeavesAnswered 1 issuer prefix logs (journals_seen G olds stores) asked text
      leaves-alone =
          let begun = begins issuer prefix logs olds first.shards.items ready.shards in
          let same : first.issuer ≡ issuer = ready.issuer_is in
          let ended =
          subst (λ (i : Setup). HasRun i first.shards.items begun.books [] [] first.shards.items begun.books
          → (last : List ShardBook) × HasRun i first.shards.items begun.books (map kept asked) so_far.answers
          now.host.shards.items last) same
          (so_far.run begun.books) begun.has_run in
          let last = ended.0 in
          let run = run-kept issuer begun.books asked so_far.answers last ended.1.run in
          let legal = begins-legal issuer ready.shards.old_stores olds ready.shards.stores first.shards.items
          ready.shards.loaded begun in
          let count = begun.has_run.stand.count_is ∙ shards.count_is in
          let after = subst (λ (i : Setup). AreShards i now.host.shards.items) (so_far.issuer_is ∙ same) now.host.are_shards in
          let one = run-one_history issuer (legal-then issuer) begun.books last asked so_far.answers legal
          (recorded ended.1.stand) run in
          record {
            first = begun.books;
            last = last;
            kept =
                keep-journals issuer prefix logs olds first.shards.items now.host.shards.items ready.shards shards after
                told (journals_seen G olds stores) (ap (journals_seen G olds) stores_are) last ended.1.stand
                ended.1.leave;
            lawful =
                is-lawful issuer begun.books last sound count
                (run-on issuer begun.books asked so_far.answers last run).count_is one.goes_on
                (recorded ended.1.stand);
            answers = so_far.answers;
            answered = record { run = run; law = one };
            own_tails = λ count.
                own-tails_kept issuer asked so_far.answers (journals_seen G olds stores) last
                (subst (λ (ss : List S). HoldOwnTails issuer (map kept asked) so_far.answers (journals_seen G olds ss) last)
                (sym stores_are)
                (hold-own_tails issuer (map kept asked) so_far.answers olds now.host.shards.items last ended.1.stand
                ended.1.own_tails));
            text_is = so_far.text_is;
          }

    pub leaves-loaded_alone : HasSoundParts issuer → (stores : List S) → stores ≡ map store_in first.shards.items
        → LeavesLoaded 1 issuer prefix logs (journals_seen G olds stores)
    leaves-loaded_alone sound stores stores_are =
        let begun = begins issuer prefix logs olds first.shards.items ready.shards in
        record {
          first = begun.books;
          last = begun.books;
          kept =
              keep-journals issuer prefix logs olds first.shards.items first.shards.items ready.shards shards shards
              told (journals_seen G olds stores) (ap (journals_seen G olds) stores_are) begun.books
              begun.has_run.stand begun.has_run.leave;
          lawful = lawful-loaded issuer prefix logs olds first.shards.items ready.shards shards sound;
          none = record {
            same_histories = refl;
            none_reported = λ shard book is.
                let within = slice_get_within begun.books shard book is in
                let count = begun.has_run.stand.count_is in
                let opened = ready.shards.loaded.count_is in
                let olds_opened = ready.shards.loaded.olds_are in
                let store = at-place ready.shards.stores shard (omega (arith, within, count, opened)) in
                let old = at-place ready.shards.old_stores shard (omega (arith, within, count, opened, olds_opened)) in
                let one = at-place first.shards.items shard (omega (arith, within, count)) in
                (begun.books_are shard old.0 store.0 one.0 book old.1 store.1 one.1 is).untold;
            alone = λ one. refl;
          };
          left = λ one. subst (λ (ss : List S). LeaveJournals prefix logs (journals_seen G olds ss)) (sym stores_are)
              (closed-left told issuer prefix logs olds first.shards.items ready.shards);
        }
