-- The host of several callers: a line more, and what it leaves.
use Rattle.std.proofs.Common.{◌≡◌, ℕ, ◌≤◌, List, [], ◌∷◌, ◌++◌, length, map, Option, Some, Result, Ok, Err}
use Rattle.std.proofs.Common.{refl, sym, ap, subst, ◌∙◌, append-nil, append_assoc, arith, OnOk}
use Rattle.std.specs.Prelude.{IfSome}
use Rattle.std.proofs.lemmas.List.{length-map, map-append, nil_from_length}
use Rattle.std.proofs.lemmas.Bool.{ne_eqb}
use Rattle.std.proofs.lemmas.Grind.{flat_map-append}
use Rattle.std.specs.List.{flat_map}
use Rattle.std.specs.Io.KnownBytes.{Appends}
use Rattle.std.proofs.KnownBytes.{Appends-nil, Appends-trans}
use Rattle.issuer_base.specs.Sink.{AppendsFront, WritesAll}
use Rattle.issuer_base.specs.declared.faults.WriteFault.{WriteFault}
use Rattle.issuer_base.proofs.ManyCalls.{AppendsFront-after, AppendsFront-more, WritesAll-after}
use Rattle.issuer_base.specs.declared.answer.Answer.{Answer}
use Rattle.issuer_base.specs.declared.outside.store.Store.{Ghosts}
use Rattle.issuer_setup.specs.IssuerSetup.{Setup}
use Rattle.line_reader.specs.declared.limits.TheConstants.{MAX_LINES}
use Rattle.line_reader.specs.Reading.{Reading, TakesInHand, kept}
use Rattle.line_reader.proofs.WholeLines.{TakesInHand-no_call, TakesInHand-then}
use Rattle.answer_text.specs.AnswerText.{printed}
use Rattle.turn_book.specs.declared.logs.Log.{Log}
use Rattle.shared_shards.specs.declared.logs.LogItem.{LogItem}
use Rattle.shared_shards.specs.declared.logs.LogHead.{LogHead}
use Rattle.shared_callers.specs.declared.lanes.Lanes.{Lanes}
use Rattle.shared_callers.specs.Lanes.{issuer_in, opening_logs, callers_in, waiting_in, due_in, HasSameHost, HasClosed}
use Rattle.shared_callers.specs.Lanes.{LanesServe}
use Rattle.shared_callers.specs.Rounds.{AnswersRound}
use Rattle.desk_host.specs.Configuration.{HasSoundParts}
use Rattle.line_blocks.specs.Serving.{TakesLine, TakesAndWrites, WritesAnswers}
use Rattle.line_serving.specs.Hosts.{IsReadyTogether, HaveAnswered, OwesNone, TakesMore}
use Rattle.desk_host.specs.SeenStores.{Logged, journals_seen}
use Rattle.line_serving.specs.Leaving.{LeavesAnswered, LeavesLoaded}
use Rattle.line_serving.proofs.LogBooks.{leaves-together, leaves-loaded_together}

-- ---- what it leaves, by what its close says

module _ {S : Type 0} {G : Ghosts S} (told_bytes : (store : S)
    → IfSome (G.disk store) (λ disk. G.bytes store ≡ Some disk.now.bytes))
    (issuer : Setup) (prefix : List ℕ) (told : Logged) where
  -- a host under the issuer that it was loaded for was closed
  module _ (olds : List S) (first now : Lanes S G) (back : List S)
      (ready : IsReadyTogether issuer prefix told olds first)
      (same : HasSameHost first now)
      (asked : List (List ℕ)) (answers : List Answer) where
    closed-under : HasClosed G.bytes G.disk G.faults (issuer_in now) (opening_logs now) (callers_in now) asked answers
        back
        → HasClosed G.bytes G.disk G.faults issuer (opening_logs first) (callers_in first) asked answers back
    closed-under closed =
        subst (λ (i : Setup). HasClosed G.bytes G.disk G.faults i (opening_logs first) (callers_in first) asked answers
        back)
        (same.same_issuer ∙ ready.issuer_is)
        (subst (λ (o : List (Log LogItem LogHead)).
        HasClosed G.bytes G.disk G.faults (issuer_in now) o (callers_in first) asked answers back)
        same.same_opening
        (subst (λ (n : ℕ). HasClosed G.bytes G.disk G.faults (issuer_in now) (opening_logs now) n asked answers back)
        same.same_callers closed))

  pub closes-together : (olds : List S) (first now : Lanes S G) (back : List S)
      → IsReadyTogether issuer prefix told olds first → HasSoundParts issuer
      → (asked : List (List ℕ)) (text : List ℕ) → length asked ≤ MAX_LINES
      → HaveAnswered first (map kept asked) text [] now
      → ((lines : List (List ℕ)) (answers due : List Answer) → LanesServe now (map kept lines) answers due []
      → HasClosed G.bytes G.disk G.faults (issuer_in now) (opening_logs now) (callers_in now) lines answers back)
      → LeavesAnswered (callers_in first) issuer prefix told (journals_seen G olds back) asked text
  closes-together olds first now back ready sound asked text within so_far closes =
      let c = closed-under olds first now back ready so_far.same asked so_far.answers
      (closes asked so_far.answers so_far.due so_far.served) in
      leaves-together (callers_in first) issuer prefix told ready.old_stores olds ready.stores back
      (opening_logs first) c.logs ready.opened ready.only_read ready.opening c.same_count c.closed told_bytes
      ready.several sound asked so_far.answers c.shares c.dealt c.lawful within text so_far.text_is

  pub closes-loaded_together : (olds : List S) (host : Lanes S G) (back : List S)
      → IsReadyTogether issuer prefix told olds host → HasSoundParts issuer
      → ((lines : List (List ℕ)) (answers due : List Answer) → LanesServe host (map kept lines) answers due []
      → HasClosed G.bytes G.disk G.faults (issuer_in host) (opening_logs host) (callers_in host) lines answers back)
      → LeavesLoaded (callers_in host) issuer prefix told (journals_seen G olds back)
  closes-loaded_together olds host back ready sound closes =
      let c = closed-under olds host host back ready
      (record { same_issuer = refl; same_opening = refl; same_callers = refl }) [] []
      (closes [] [] [] ready.none) in
      leaves-loaded_together (callers_in host) issuer prefix told ready.old_stores olds ready.stores back
      (opening_logs host) c.logs ready.opened ready.only_read ready.opening
      c.same_count c.closed told_bytes ready.several sound c.shares c.dealt c.lawful

-- ---- a line more

module _ {S : Type 0} {G : Ghosts S} where
  same-again : (a b c : Lanes S G) → HasSameHost a b → HasSameHost b c → HasSameHost a c
  same-again a b c one two = record {
    same_issuer = two.same_issuer ∙ one.same_issuer;
    same_opening = two.same_opening ∙ one.same_opening;
    same_callers = two.same_callers ∙ one.same_callers;
  }

  -- no line is answered yet
  pub answer-none : (host : Lanes S G) → LanesServe host [] [] [] [] → HaveAnswered host [] [] [] host
  answer-none host none = record {
    same = record { same_issuer = refl; same_opening = refl; same_callers = refl };
    answers = [];
    due = [];
    text_is = refl;
    served = none;
  }

  -- a line waits
  pub takes-together : (first old new : Lanes S G) (line due : List ℕ) → HasSameHost old new
      → ((lines : List (List ℕ)) (answers due : List Answer) (waiting : List (List ℕ))
      → LanesServe old lines answers due waiting
      → LanesServe new lines answers due (waiting ++ line ∷ []))
      → (lines : List (List ℕ)) (text : List ℕ) (waiting : List (List ℕ)) → HaveAnswered first lines text waiting old
      → TakesLine (λ lines text waiting. HaveAnswered first lines text waiting new) lines text waiting line due due
  takes-together first old new line due same deals lines text waiting so_far = record {
    answered = lines;
    left = waiting ++ line ∷ [];
    more = [];
    all = sym (append_assoc lines waiting (line ∷ []));
    due = sym (append-nil due);
    served = record {
      same = same-again first old new so_far.same same;
      answers = so_far.answers;
      due = so_far.due;
      text_is = append-nil text ∙ so_far.text_is;
      served = deals lines so_far.answers so_far.due waiting so_far.served;
    };
  }

  -- ---- what is due and what waits, by the counts

  -- no answer is due
  none-due : (host : Lanes S G) (lines : List (List ℕ)) (answers due : List Answer) (waiting : List (List ℕ))
      → LanesServe host lines answers due waiting → due_in host ≡ 0 → due ≡ []
  none-due host lines answers due waiting served none = nil_from_length due (sym (length-map due printed) ∙ sym served.dealt.dues.count_is ∙ none)

  -- no line waits
  pub none-waits : (host : Lanes S G) (lines : List (List ℕ)) (answers due : List Answer) (waiting : List (List ℕ))
      → LanesServe host lines answers due waiting → waiting_in host ≡ 0 → waiting ≡ []
  none-waits host lines answers due waiting served none = nil_from_length waiting (sym served.dealt.waits.count_is ∙ none)

  -- the answers were all taken
  pub all-taken : (first host : Lanes S G) (lines : List (List ℕ)) (text : List ℕ) (waiting : List (List ℕ))
      (so_far : HaveAnswered first lines text waiting host) → due_in host ≡ 0
      → LanesServe host lines so_far.answers [] waiting
  all-taken first host lines text waiting so_far none =
      subst (λ (due : List Answer). LanesServe host lines so_far.answers due waiting)
      (none-due host lines so_far.answers so_far.due waiting so_far.served none) so_far.served

  -- ---- rounds

  -- since the lines waited, these lines were taken in hand; of all of them these were answered, and the others wait; of
  -- the answers this text was written, and the others are due
  pub record AreInRounds (first now : Lanes S G) (reader_was reader_is : Reading)
      (held_before held_after : Option (List ℕ)) (lines : List (List ℕ)) (text : List ℕ) (waiting : List (List ℕ))
      : Type 0 where
    pub taken : List (List ℕ)
    pub in_hand : TakesInHand reader_was taken reader_is
    pub answered : List (List ℕ)
    pub left : List (List ℕ)
    pub all : answered ++ left ≡ lines ++ (waiting ++ map kept taken)
    pub same : HasSameHost first now
    pub answers : List Answer
    pub due : List Answer
    pub early : List ℕ
    pub text_is : text ++ (early ++ flat_map printed due) ≡ flat_map printed answers
    pub written : Appends held_before held_after early
    pub served : LanesServe now answered answers due left

  -- there was no round
  pub rounds-none : (first now : Lanes S G) (reader : Reading) (held : Option (List ℕ)) (lines : List (List ℕ))
      (text : List ℕ) (waiting : List (List ℕ)) → HaveAnswered first lines text waiting now → due_in now ≡ 0
      → AreInRounds first now reader reader held held lines text waiting
  rounds-none first now reader held lines text waiting so_far none = record {
    taken = [];
    in_hand = TakesInHand-no_call reader;
    answered = lines;
    left = waiting;
    all = ap (λ (ls : List (List ℕ)). lines ++ ls) (sym (append-nil waiting));
    same = so_far.same;
    answers = so_far.answers;
    due = [];
    early = [];
    text_is = append-nil text ∙ so_far.text_is;
    written = Appends-nil held;
    served = all-taken first now lines text waiting so_far none;
  }

  module _ (first old now : Lanes S G) (reader_was reader_mid reader_is : Reading)
      (held_before held held_after : Option (List ℕ)) (lines : List (List ℕ)) (text : List ℕ)
      (waiting : List (List ℕ))
      (so_far : AreInRounds first old reader_was reader_mid held_before held lines text waiting)
      (same : HasSameHost old now) where
    same-first : HasSameHost first now
    same-first = same-again first old now so_far.same same

    -- the text of all answers, with those that came since
    text-on : (more : List Answer)
        → text ++ ((so_far.early ++ flat_map printed so_far.due) ++ flat_map printed more)
        ≡ flat_map printed (so_far.answers ++ more)
    text-on more =
        sym (append_assoc text (so_far.early ++ flat_map printed so_far.due) (flat_map printed more))
        ∙ ap (λ (t : List ℕ). t ++ flat_map printed more) so_far.text_is
        ∙ sym (flat_map-append printed so_far.answers more)

    -- one more round
    pub rounds-more : AnswersRound now reader_mid reader_is held held_after (Ok tt) so_far.answered so_far.answers
        so_far.due so_far.left
        → AreInRounds first now reader_was reader_is held_before held_after lines text waiting
    rounds-more round = record {
      taken = so_far.taken ++ round.taken;
      in_hand =
          TakesInHand-then reader_was reader_mid reader_is so_far.taken round.taken so_far.in_hand round.in_hand;
      answered = so_far.answered ++ so_far.left;
      left = map kept round.taken;
      all =
          ap (λ (ls : List (List ℕ)). ls ++ map kept round.taken) so_far.all
          ∙ append_assoc lines (waiting ++ map kept so_far.taken) (map kept round.taken)
          ∙ ap (λ (ls : List (List ℕ)). lines ++ ls)
          (append_assoc waiting (map kept so_far.taken) (map kept round.taken)
          ∙ ap (λ (ls : List (List ℕ)). waiting ++ ls) (sym (map-append kept so_far.taken round.taken)));
      same = same-first;
      answers = so_far.answers ++ round.more;
      due = round.more;
      early = so_far.early ++ flat_map printed so_far.due;
      text_is = text-on round.more;
      written = Appends-trans held_before held held_after so_far.early (flat_map printed so_far.due) so_far.written
          round.written;
      served = round.served;
    }

    -- the sink failed in a round: the lines that waited in it are answered all the same
    pub rounds-broken : (was_due : List ℕ) (fault : WriteFault) → was_due ≡ []
        → AnswersRound now reader_mid reader_is held held_after (Err fault) so_far.answered so_far.answers so_far.due
        so_far.left
        → TakesAndWrites (λ lines text waiting. HaveAnswered first lines text waiting now) lines text waiting was_due
        reader_was reader_is held_before held_after (Err fault)
    rounds-broken was_due fault none_due round =
        let text_due = so_far.early ++ flat_map printed so_far.due in
        let in_round = subst (λ (ls : List (List ℕ)). TakesInHand reader_mid ls reader_is) round.failed round.in_hand in
        let front = AppendsFront-more held_before held_after text_due (flat_map printed round.more)
        (AppendsFront-after held_before held held_after so_far.early (flat_map printed so_far.due) so_far.written
        round.written) in
        record {
          taken = so_far.taken;
          in_hand = subst (λ (ls : List (List ℕ)). TakesInHand reader_was ls reader_is) (append-nil so_far.taken)
              (TakesInHand-then reader_was reader_mid reader_is so_far.taken [] so_far.in_hand in_round);
          writes = record {
            more = text_due ++ flat_map printed round.more;
            served = record {
              same = same-first;
              answers = so_far.answers ++ round.more;
              due = round.more;
              text_is = text-on round.more;
              served =
                  subst (λ (ls : List (List ℕ)). LanesServe now ls (so_far.answers ++ round.more) round.more [])
                  so_far.all
                  (subst (λ (ls : List (List ℕ)). LanesServe now (so_far.answered ++ so_far.left)
                  (so_far.answers ++ round.more) round.more (map kept ls)) round.failed round.served);
            };
            written = subst (λ (t : List ℕ). AppendsFront held_before held_after
                (t ++ (text_due ++ flat_map printed round.more))) (sym none_due) front;
          };
        }

    -- no line waits any more, and the answers that were due are written
    pub rounds-end : (was_due : List ℕ) (result : Result (Unit {0}) WriteFault) → was_due ≡ [] → so_far.left ≡ []
        → reader_is ≡ reader_mid
        → LanesServe now so_far.answered so_far.answers [] so_far.left
        × WritesAll held held_after result (flat_map printed so_far.due)
        → TakesAndWrites (λ lines text waiting. HaveAnswered first lines text waiting now) lines text waiting was_due
        reader_was reader_is held_before held_after result
    rounds-end was_due result none_due none_waits same_reader written =
        let text_due = so_far.early ++ flat_map printed so_far.due in
        let answered : so_far.answered ≡ lines ++ (waiting ++ map kept so_far.taken) =
        sym (append-nil so_far.answered) ∙ ap (λ (ls : List (List ℕ)). so_far.answered ++ ls) (sym none_waits)
        ∙ so_far.all in
        record {
          taken = so_far.taken;
          in_hand = subst (TakesInHand reader_was so_far.taken) (sym same_reader) so_far.in_hand;
          writes = record {
            more = text_due;
            served = record {
              same = same-first;
              answers = so_far.answers;
              due = [];
              text_is = so_far.text_is;
              served =
                  subst (λ (ls : List (List ℕ)). LanesServe now ls so_far.answers [] []) answered
                  (subst (λ (ls : List (List ℕ)). LanesServe now so_far.answered so_far.answers [] ls) none_waits
                  written.0);
            };
            written = subst (λ (t : List ℕ). WritesAll held_before held_after result (t ++ text_due)) (sym none_due)
                (WritesAll-after held_before held held_after result so_far.early (flat_map printed so_far.due)
                so_far.written written.1);
          };
        }

  -- ---- the last lines

  -- the lines that wait are answered, and then their answers are written
  pub writes-last : (first old mid now : Lanes S G) (was_due : List ℕ) (held_before held_after : Option (List ℕ))
      (result : Result (Unit {0}) WriteFault) (lines : List (List ℕ)) (text : List ℕ) (waiting : List (List ℕ))
      (so_far : HaveAnswered first lines text waiting old) → was_due ≡ [] → HasSameHost old mid → HasSameHost mid now
      → (more : List Answer)
      → LanesServe now (lines ++ waiting) (so_far.answers ++ more) [] []
      × WritesAll held_before held_after result (flat_map printed more)
      → WritesAnswers (λ lines text waiting. HaveAnswered first lines text waiting now) lines text waiting was_due
      held_before held_after result
  writes-last first old mid now was_due held_before held_after result lines text waiting so_far none_due one two more
      written = record {
        more = flat_map printed more;
        served = record {
          same = same-again first old now so_far.same (same-again old mid now one two);
          answers = so_far.answers ++ more;
          due = [];
          text_is =
              ap (λ (t : List ℕ). t ++ flat_map printed more) so_far.text_is
              ∙ sym (flat_map-append printed so_far.answers more);
          served = written.0;
        };
        written = subst (λ (t : List ℕ). WritesAll held_before held_after result (t ++ flat_map printed more))
            (sym none_due) written.1;
      }

  -- ---- a host that owes no answer

  -- a line more waits
  pub owes-none : (old new : Lanes S G) (lines : ℕ) (line : List ℕ) → due_in new ≡ due_in old
      → ((lines : List (List ℕ)) (answers due : List Answer) (waiting : List (List ℕ)) → LanesServe old lines answers due waiting
      → LanesServe new lines answers due (waiting ++ line ∷ []))
      → OwesNone old lines → OwesNone new lines
  owes-none old new lines line same deals owes = record {
    no_lines = owes.no_lines;
    none_due = same ∙ owes.none_due;
    answered = owes.answered;
    answers = owes.answers;
    waiting = owes.waiting ++ line ∷ [];
    served = deals owes.answered owes.answers [] owes.waiting owes.served;
  }

  -- no line waits, and one may be taken
  pub takes-more : (host : Lanes S G) (lines : ℕ) (answered : List (List ℕ)) (answers : List Answer) (waiting : List (List ℕ))
      → LanesServe host answered answers [] waiting → lines ≡ 0 → due_in host ≡ 0 → waiting_in host ≡ 0 → TakesMore host lines
  takes-more host lines answered answers waiting served no_lines none_due none_waits = record {
    owes_none = record {
      no_lines = no_lines;
      none_due = none_due;
      answered = answered;
      answers = answers;
      waiting = waiting;
      served = served;
    };
    not_full = ne_eqb _ _ (λ same. let room = host.some_room in absurd (omega (arith, same, room, none_waits)));
  }

-- what holds anyway holds where a call succeeded
pub on-ok : {X E : Type 0} (P : Type 0) (result : Result X E) → P → OnOk result P
on-ok P (Ok x) holds = holds
on-ok P (Err error) holds = tt
