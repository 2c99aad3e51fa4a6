-- A round: the lanes get the lines, answer them, and their texts come back.
use Rattle.std.proofs.Common.{◌≡◌, ℕ, ◌%◌, ◌<◌, List, ◌++◌, length, map, refl, sym, ap, ◌∙◌, arith}
use Rattle.std.proofs.lemmas.List.{length-append, length-map}
use Rattle.std.proofs.Math.Logic.{∥∥₁_map}
use Rattle.issuer_base.specs.declared.answer.Answer.{Answer}
use Rattle.issuer_base.specs.declared.outside.store.Store.{Ghosts}
use Rattle.turn_book.specs.declared.logs.Log.{Log}
use Rattle.shared_shards.specs.declared.logs.LogItem.{LogItem}
use Rattle.shared_shards.specs.declared.logs.LogHead.{LogHead}
use Rattle.answer_text.specs.AnswerText.{printed}
use Rattle.host_calls.specs.declared.host.Host.{Host}
use Rattle.host_calls.specs.declared.pass.Pass.{Pass}
use Rattle.shared_laws.specs.Dealing.{HaveTurns}
use Rattle.shared_callers.specs.Dealt.{HasDealt}
use Rattle.shared_callers.specs.Halves.{HasDue, HasWaiting}
use Rattle.shared_callers.specs.OneLane.{waiting_lines, answer_texts, passes_of, LanesAnswer}
use Rattle.shared_callers.specs.Seated.{AreSeated}
use Rattle.shared_callers.specs.Turns.{AreDue, AreWaiting, IsDue, IsWaiting}
use Rattle.shared_callers.specs.declared.half_block.HalfBlock.{HalfBlock}
use Rattle.shared_callers.specs.declared.lane.Lane.{Lane}
use Rattle.shared_callers.specs.declared.part.Part.{Part}
use Rattle.shared_callers.proofs.Serving.{had-alike, had-more, more-answers, more-long, more-texts, seated-alike, seated-answered, texts-answered}

module _ {S : Type 0} {G : Ghosts S} (host : Host S G) (old mid done new : List Lane) (given : passes_of mid ≡ passes_of old)
    (answered : LanesAnswer host mid done) (back : passes_of new ≡ passes_of done) where
  pub seated-round : (first : Pass) → AreSeated host first old → AreSeated host first new
  seated-round first seated =
      seated-alike host first done new back (seated-answered host first mid done answered (seated-alike host first old mid given seated))

  module _ (opening : List (Log LogItem LogHead)) (half : HalfBlock) (lines waiting : List (List ℕ)) (answers due : List Answer)
      (dealt : HasDealt host.issuer opening old half lines answers due waiting) (turns : HaveTurns waiting_lines mid lines waiting)
      (some : 0 < length mid) (as_many : length mid ≡ length half.parts.items) where
    -- the answers to the lines that waited
    abbrev pub more : List Answer
    more = more-answers host mid done answered some lines waiting turns answers dealt.answered

    -- their texts are due in the lanes
    pub texts-due : (first count : ℕ) → first ≡ half.first → count ≡ half.waiting
        → AreDue answer_texts done first count (map printed answers) (map printed more)
    texts-due first count first_is count_is =
        let long : length half.parts.items ≡ length done = sym as_many ∙ sym answered.count_is in
        let told : length lines ≡ length (map printed answers) = sym dealt.answered ∙ sym (length-map answers printed) in
        record {
          count_is =
              count_is ∙ dealt.waits.count_is
              ∙ sym (more-long host mid done answered some lines waiting turns answers dealt.answered) ∙ sym (length-map more printed);
          from_is =
              first_is ∙ dealt.waits.first_is ∙ ap (λ n. length lines % n) long
              ∙ ap (λ n. n % length done) told;
          turns = more-texts host mid done answered some lines waiting turns answers dealt.answered;
        }

    pub dealt-round : (half_now : HalfBlock) (next : List (List ℕ)) → HasWaiting half_now (lines ++ waiting) next
        → HasDue half_now (map printed answers) (map printed more)
        → HasDealt host.issuer opening new half_now (lines ++ waiting) (answers ++ more) more next
    dealt-round half_now next waits dues = record {
      taken = answers;
      answers_are = refl;
      answered = omega (
        arith,
        length-append answers more,
        length-append lines waiting,
        dealt.answered,
        more-long host mid done answered some lines waiting turns answers dealt.answered,
      );
      waits = waits;
      dues = dues;
      had = had-alike host.issuer opening done new (lines ++ waiting) (answers ++ more) back
          (had-more host mid done answered some lines waiting turns answers dealt.answered opening
          (had-alike host.issuer opening old mid lines answers given dealt.had));
    }

-- the texts of lanes that answered are due, whatever was dealt before
pub due-answered : {S : Type 0} {G : Ghosts S} (host : Host S G) (mid done : List Lane) (answered : LanesAnswer host mid done) (parts : List Part)
    (first next count first_given count_given : ℕ) → first_given ≡ first → count_given ≡ count → 0 < length mid → length mid ≡ length parts
    → ((before waiting : List (List ℕ)) → AreWaiting parts first next count before waiting → HaveTurns waiting_lines mid before waiting)
    → ∥ IsWaiting parts first next count ∥₁ → ∥ IsDue answer_texts done first_given count_given ∥₁
due-answered host mid done answered parts first next count first_given count_given first_is count_is some as_many gives there =
    ∥∥₁_map there (λ is.
    let texts = texts-answered host mid done answered some is.before is.waiting (gives is.before is.waiting is.are) in
    record {
      taken = is.before;
      due = texts.0;
      are = record {
        count_is = count_is ∙ is.are.count_is ∙ sym texts.1;
        from_is = first_is ∙ is.are.first_is ∙ ap (λ n. length is.before % n) (sym as_many ∙ sym answered.count_is);
        turns = texts.2;
      };
    })
