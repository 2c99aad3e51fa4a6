-- Turns are answered, and more is read.
use Rattle.std.proofs.Common.{◌≡◌, ℕ, Bool, false, List, [], ◌∷◌, ◌++◌, take, drop, Option, Some, None, ◌⊎◌, inl, inr, refl, sym, ap, subst, ◌∙◌, append-nil}
use Rattle.std.proofs.Common.{append_assoc, take-append-drop}
use Rattle.std.proofs.lemmas.List.{nil_from_length}
use Rattle.std.specs.Io.KnownBytes.{Consumes}
use Rattle.std.proofs.KnownBytes.{Consumes-nil, Consumes-trans}
use Rattle.bridge_lines.specs.declared.action.Why.{Why}
use Rattle.bridge_lines.specs.Acts.{Act, Over, Stop}
use Rattle.bridge_lines.specs.TurnReading.{turn_end}
use Rattle.bridge_lines.specs.Starts.{no_start}
use Rattle.issuer_base.specs.OutsideFaults.{CountsFaults}
use Rattle.bridge_serve.specs.Runs.{DeskState, run_begins, run_goes_on, Answers, IsRefused, desk_of}
use Rattle.bridge_serve.specs.Reading.{ReadsMore}
use Rattle.bridge_serve.specs.declared.ended.Ended.{Ended}
use Rattle.bridge_serve.specs.declared.ended.Ended.TheVariants.{AtEnd, Stopped, WriteFault, NoMemory, TooMany}
use Rattle.bridge_serve.specs.Ends.{Serves, MayStop, Stops, HasEnded, Ends}

-- nothing is read yet
pub serves-first : (before : List Act) (all : Option (List ℕ)) → Serves before all all [] (desk_of no_start None) before
serves-first before all = record { read = []; run = run_begins; consumed = Consumes-nil all }

pub serves-new : (before : List Act) (all : Option (List ℕ)) (ahead : List ℕ) (desk : DeskState) → ahead ≡ [] → desk ≡ desk_of no_start None
    → Serves before all all ahead desk before
serves-new before all ahead desk none new =
    subst (λ (l : List ℕ). Serves before all all l desk before) (sym none)
    (subst (λ (d : DeskState). Serves before all all [] d before) (sym new) (serves-first before all))

-- one more turn is answered
pub serves-answered : (before : List Act) (all left : Option (List ℕ)) (ahead : List ℕ) (old new : DeskState) (said after : List Act) (end : ℕ)
    → Serves before all left ahead old said → Answers (take end ahead) old said new after
    → Serves before all left (drop end ahead) new (after ++ Over ∷ [])
serves-answered before all left ahead old new said after end serves answers = record {
  read = serves.read ++ take end ahead;
  run = run_goes_on serves.read old said serves.run (take end ahead) new after answers;
  consumed =
      subst (Consumes all left)
      (sym (append_assoc serves.read (take end ahead) (drop end ahead) ∙ ap (λ (l : List ℕ). serves.read ++ l) (take-append-drop end ahead)))
      serves.consumed;
}

-- more is read
pub serves-more : (before : List Act) (all left now : Option (List ℕ)) (old new : List ℕ) (desk : DeskState) (said : List Act) (count : ℕ)
    → Serves before all left old desk said → ReadsMore left now old new count → Serves before all now new desk said
serves-more before all left now old new desk said count serves reads = record {
  read = serves.read;
  run = serves.run;
  consumed =
      subst (Consumes all now)
      (append_assoc serves.read old reads.piece ∙ ap (λ (l : List ℕ). serves.read ++ l) (sym reads.joined))
      (Consumes-trans all left now (serves.read ++ old) reads.piece serves.consumed reads.consumed);
}

-- the turn is that of the bytes, and these are left
pub serves-on : (before : List Act) (all left : Option (List ℕ)) (ahead turn rest : List ℕ) (old new : DeskState) (said after : List Act) (end : ℕ)
    → Serves before all left ahead old said → turn ≡ take end ahead → rest ≡ drop end ahead → Answers turn old said new after
    → Serves before all left rest new (after ++ Over ∷ [])
serves-on before all left ahead turn rest old new said after end serves turn_is rest_is answers =
    subst (λ (l : List ℕ). Serves before all left l new (after ++ Over ∷ [])) (sym rest_is)
    (serves-answered before all left ahead old new said after end serves
    (subst (λ (l : List ℕ). Answers l old said new after) turn_is answers))

-- it stops, and says why
pub stops : (before : List Act) (all left : Option (List ℕ)) (ahead : List ℕ) (desk : DeskState) (said : List Act) (why : Why) (ended : Ended)
    → Serves before all left ahead desk said → MayStop ahead desk why → (ended ≡ Stopped) ⊎ (ended ≡ WriteFault)
    → Ends before all left ended (said ++ Stop why ∷ [])
stops before all left ahead desk said why ended serves may_stop which = record {
  ahead = ahead;
  desk = desk;
  said = said;
  serves = serves;
  has_ended = by which;
}
  where
    stop : Stops ahead desk said (said ++ Stop why ∷ [])
    stop = record { why = why; may_stop = may_stop; final_is = refl }

    by : (ended ≡ Stopped) ⊎ (ended ≡ WriteFault) → HasEnded ended left ahead desk said (said ++ Stop why ∷ [])
    by (inl is) = subst (λ (e : Ended). HasEnded e left ahead desk said (said ++ Stop why ∷ [])) (sym is) stop
    by (inr is) = subst (λ (e : Ended). HasEnded e left ahead desk said (said ++ Stop why ∷ [])) (sym is) (inr stop)

-- the first turn of the bytes is refused
pub refused : (ahead turn : List ℕ) (desk : DeskState) (why : Why) (end : ℕ) → turn_end ahead ≡ Some end → turn ≡ take end ahead → IsRefused turn desk why
    → MayStop ahead desk why
refused ahead turn desk why end at turn_is is = inr (end, at, subst (λ (l : List ℕ). IsRefused l desk why) turn_is is)

-- no more is read, and the input is at its end
pub ends-at-end : (before : List Act) (all left now : Option (List ℕ)) (old new : List ℕ) (desk : DeskState) (said : List Act) (count : ℕ)
    → Serves before all left old desk said → ReadsMore left now old new count → count ≡ 0 → turn_end old ≡ None → Ends before all now AtEnd said
ends-at-end before all left now old new desk said count serves reads none at =
    let piece : reads.piece ≡ [] = nil_from_length reads.piece (sym reads.counted ∙ none) in
    let same : new ≡ old = reads.joined ∙ ap (λ (l : List ℕ). old ++ l) piece ∙ append-nil old in
    record {
      ahead = new;
      desk = desk;
      said = said;
      serves = serves-more before all left now old new desk said count serves reads;
      has_ended = (reads.at_end none, ap turn_end same ∙ at, refl);
    }

-- nothing more is said, and that is passed on or isn't
pub ends-too-many : (before : List Act) (all left : Option (List ℕ)) (ahead : List ℕ) (desk : DeskState) (said : List Act) (ended : Ended)
    → Serves before all left ahead desk said → (ended ≡ TooMany) ⊎ (ended ≡ WriteFault) → Ends before all left ended said
ends-too-many before all left ahead desk said ended serves which =
    record { ahead = ahead; desk = desk; said = said; serves = serves; has_ended = by which }
  where
    by : (ended ≡ TooMany) ⊎ (ended ≡ WriteFault) → HasEnded ended left ahead desk said said
    by (inl is) = subst (λ (e : Ended). HasEnded e left ahead desk said said) (sym is) refl
    by (inr is) = subst (λ (e : Ended). HasEnded e left ahead desk said said) (sym is) (inl refl)

pub ends-without-memory : (before : List Act) (all : Option (List ℕ)) (ended : Ended) → (ended ≡ NoMemory) ⊎ (ended ≡ WriteFault)
    → Ends before all all ended before
ends-without-memory before all ended which =
    record { ahead = []; desk = desk_of no_start None; said = before; serves = serves-first before all; has_ended = by which }
  where
    by : (ended ≡ NoMemory) ⊎ (ended ≡ WriteFault) → HasEnded ended all [] (desk_of no_start None) before before
    by (inl is) = subst (λ (e : Ended). HasEnded e all [] (desk_of no_start None) before before) (sym is) refl
    by (inr is) = subst (λ (e : Ended). HasEnded e all [] (desk_of no_start None) before before) (sym is) (inl refl)

-- no call failed, and then these did or didn't
pub counts-on : (a b c : ℕ) (failed : Bool) → CountsFaults a b false → CountsFaults b c failed → CountsFaults a c failed
counts-on a b c failed first next = subst (λ (n : ℕ). CountsFaults n c failed) first.counted next
