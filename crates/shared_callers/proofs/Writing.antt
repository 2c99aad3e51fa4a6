-- Texts that are appended to a block one after another, and lines that are taken so.
use Rattle.std.proofs.Common.{◌≡◌, ℕ, List, [], ◌∷◌, ◌++◌, length, map, Option, Result, Ok, Err, refl, sym, ap, subst, ◌∙◌, arith, append_assoc, append-nil}
use Rattle.std.specs.Result.{IsErr}
use Rattle.std.proofs.lemmas.List.{map-append}
use Rattle.std.proofs.lemmas.List.Concat.{flat_map-append}
use Rattle.std.specs.List.{flat_map}
use Rattle.issuer_base.specs.Sink.{WritesAll}
use Rattle.issuer_base.specs.declared.faults.WriteFault.{WriteFault}
use Rattle.line_reader.specs.Reading.{Reading, TakesInHand, kept}
use Rattle.line_reader.specs.NextLine.{GivesInHand, GivesNone}
use Rattle.line_reader.proofs.WholeLines.{TakesInHand-line, TakesInHand-no_call, TakesInHand-none, TakesInHand-then}
use Rattle.shared_callers.specs.Halves.{HasDue, HasExchanged, HasSameRooms, HasWaiting}
use Rattle.shared_callers.specs.declared.half_block.HalfBlock.{HalfBlock}

pub same-rooms : (old mid new : HalfBlock) → HasSameRooms old mid → HasSameRooms mid new → HasSameRooms old new
same-rooms old mid new first then = record { rooms = then.rooms ∙ first.rooms; room = then.room ∙ first.room }

none-left : {A : Type 0} (items : List A) → 0 ≡ length items → items ≡ []
none-left [] long = refl
none-left (item ∷ items) long = absurd (omega arith)

-- ---- texts

-- of the texts that were due, the first ones were appended, and the others are due
pub record AreAppended (half : HalfBlock) (taken due : List (List ℕ)) (text : List ℕ) : Type 0 where
  pub done : List (List ℕ)
  pub rest : List (List ℕ)
  pub all : due ≡ done ++ rest
  pub left : HasDue half (taken ++ done) rest
  pub text_is : text ≡ flat_map (λ text. text) done

pub appended-none : (half : HalfBlock) (taken due : List (List ℕ)) (text : List ℕ) → text ≡ [] → HasDue half taken due → AreAppended half taken due text
appended-none half taken due text none are = record {
  done = [];
  rest = due;
  all = refl;
  left = subst (λ (taken : List (List ℕ)). HasDue half taken due) (sym (append-nil taken)) are;
  text_is = none;
}

-- one more was
pub appended-more : (half after : HalfBlock) (taken due : List (List ℕ)) (text now : List ℕ)
    → ((taken due : List (List ℕ)) → HasDue half taken due
    → (first : List ℕ) × (rest : List (List ℕ)) × (due ≡ first ∷ rest) × HasDue after (taken ++ first ∷ []) rest × (now ≡ text ++ first))
    → AreAppended half taken due text → AreAppended after taken due now
appended-more half after taken due text now more so_far =
    let next = more (taken ++ so_far.done) so_far.rest so_far.left in
    let first : List ℕ = next.0 in
    record {
      done = so_far.done ++ first ∷ [];
      rest = next.1;
      all =
          so_far.all ∙ ap (λ (rest : List (List ℕ)). so_far.done ++ rest) next.2
          ∙ sym (append_assoc so_far.done (first ∷ []) next.1);
      left = subst (λ (taken : List (List ℕ)). HasDue after taken next.1) (append_assoc taken so_far.done (first ∷ [])) next.3;
      text_is =
          next.4 ∙ ap (λ (text : List ℕ). text ++ first) so_far.text_is
          ∙ ap (λ (text : List ℕ). flat_map (λ text. text) so_far.done ++ text) (sym (append-nil first))
          ∙ sym (flat_map-append (λ (text : List ℕ). text) so_far.done (first ∷ []));
    }

-- all were
pub appended-all : (half : HalfBlock) (taken due : List (List ℕ)) (text : List ℕ) → half.due ≡ 0 → AreAppended half taken due text
    → HasDue half (taken ++ due) [] × (text ≡ flat_map (λ text. text) due)
appended-all half taken due text none so_far =
    let nothing : so_far.rest ≡ [] = none-left so_far.rest (sym none ∙ so_far.left.count_is) in
    let whole : so_far.done ≡ due =
    sym (append-nil so_far.done) ∙ ap (λ (rest : List (List ℕ)). so_far.done ++ rest) (sym nothing) ∙ sym so_far.all in (
      subst (λ (done : List (List ℕ)). HasDue half (taken ++ done) []) whole
          (subst (λ (rest : List (List ℕ)). HasDue half (taken ++ so_far.done) rest) nothing so_far.left),
      so_far.text_is ∙ ap (flat_map (λ (text : List ℕ). text)) whole,
    )

-- ---- lines

-- after those that waited, these lines were taken, and wait
pub record AreTaken (half : HalfBlock) (before waiting : List (List ℕ)) (was now : Reading) : Type 0 where
  pub taken : List (List ℕ)
  pub waits : HasWaiting half before (waiting ++ map kept taken)
  pub in_hand : TakesInHand was taken now

pub taken-none : (half : HalfBlock) (before waiting : List (List ℕ)) (was now : Reading) → TakesInHand was [] now → HasWaiting half before waiting
    → AreTaken half before waiting was now
taken-none half before waiting was now in_hand are = record {
  taken = [];
  waits = subst (HasWaiting half before) (sym (append-nil waiting)) are;
  in_hand = in_hand;
}

-- none was taken at last
pub taken-last : (half : HalfBlock) (before waiting : List (List ℕ)) (was then now : Reading) → now.ahead ≡ then.ahead → GivesNone then now
    → AreTaken half before waiting was then → AreTaken half before waiting was now
taken-last half before waiting was then now same none so_far = record {
  taken = so_far.taken;
  waits = so_far.waits;
  in_hand = subst (λ (taken : List (List ℕ)). TakesInHand was taken now) (append-nil so_far.taken)
      (TakesInHand-then was then now so_far.taken [] so_far.in_hand (TakesInHand-none then now same none));
}

-- one more was
pub taken-more : (half after : HalfBlock) (before waiting : List (List ℕ)) (was then now : Reading) (line : List ℕ) → GivesInHand then line now
    → ((before waiting : List (List ℕ)) → HasWaiting half before waiting → HasWaiting after before (waiting ++ now.line ∷ []))
    → AreTaken half before waiting was then → AreTaken after before waiting was now
taken-more half after before waiting was then now line gives deals so_far =
    let all : (waiting ++ map kept so_far.taken) ++ now.line ∷ [] ≡ waiting ++ map kept (so_far.taken ++ line ∷ []) =
    append_assoc waiting (map kept so_far.taken) (now.line ∷ [])
    ∙ ap (λ (kept_line : List ℕ). waiting ++ (map kept so_far.taken ++ kept_line ∷ [])) gives.counted.in_hand
    ∙ ap (λ (lines : List (List ℕ)). waiting ++ lines) (sym (map-append kept so_far.taken (line ∷ []))) in
    record {
      taken = so_far.taken ++ line ∷ [];
      waits = subst (HasWaiting after before) all (deals before (waiting ++ map kept so_far.taken) so_far.waits);
      in_hand = TakesInHand-then was then now so_far.taken (line ∷ []) so_far.in_hand (TakesInHand-line then line now gives);
    }

-- ---- both

-- the sink failed, and no line was taken
pub exchanged-failed : (old new : HalfBlock) (reading : Reading) (held_before held_after : Option (List ℕ)) (was : Result (Unit {0}) WriteFault)
    (fault : WriteFault) (result : Result (Unit {0}) WriteFault) → was ≡ Err fault → IsErr result
    → ((taken due : List (List ℕ)) → HasDue old taken due
    → HasDue new (taken ++ due) [] × WritesAll held_before held_after was (flat_map (λ text. text) due))
    → ((before waiting : List (List ℕ)) → HasWaiting old before waiting → HasWaiting new before waiting) → new.due ≡ 0 → new.waiting ≡ 0
    → HasSameRooms old new → HasExchanged old new reading reading held_before held_after result
exchanged-failed old new reading held_before held_after was fault (Ok done) was_is failed written waits none none_waits rooms = absurd (cc)
exchanged-failed old new reading held_before held_after was fault (Err other) was_is failed written waits none none_waits rooms = record {
  written = λ taken due are.
      let all = written taken due are in (
        all.0,
        subst (λ (was : Result (Unit {0}) WriteFault). WritesAll held_before held_after was (flat_map (λ text. text) due)) was_is all.1,
      );
  dealt = λ before are. ([], waits before [] are, TakesInHand-no_call reading, refl);
  none_due = none;
  fewer = none_waits;
  read = omega arith;
  rooms = rooms;
}
