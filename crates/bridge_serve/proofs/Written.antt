-- What is written of a text, and of more.
use Rattle.std.proofs.Common.{◌≡◌, ℕ, List, [], ◌++◌, take, drop, Option, Some, None, Bool, true, false, Result, Ok, Err, refl, ap, sym, subst, ◌∙◌}
use Rattle.std.proofs.Common.{append-nil, append_assoc, take-append-drop, arith}
use Rattle.std.specs.Result.{is_err}
use Rattle.std.specs.Io.KnownBytes.{Appends, Keeps}
use Rattle.std.proofs.KnownBytes.{Appends-nil, Appends-trans, Keeps-trans}
use Rattle.issuer_base.specs.Sink.{WritesAll}
use Rattle.bridge_serve.specs.declared.ended.Ended.{Ended}
use Rattle.bridge_serve.specs.declared.ended.Ended.TheVariants.{AtEnd, Stopped, NoInput, ReadFault, WriteFault, NoMemory, TooMany}
use Rattle.issuer_base.specs.OutsideFaults.{CountsFaults}
use Rattle.bridge_serve.specs.Printing.{CountsOnce, Prints, Writes, Fails}
use Rattle.bridge_serve.specs.Ends.{is_write_fault}
use Rattle.bridge_serve.specs.Written.{IsWritten}

prints-by : {T E : Type 0} (old new : Option (List ℕ)) (answer : Result T E) (text : List ℕ) → WritesAll old new answer text
    → Prints old new text [] false (is_err answer)
prints-by old new (Ok x) text all = record { written = text; appended = all; all = sym (append-nil text) }
prints-by old new (Err e) text front = record {
  lost = drop front.0 text;
  writes = record { written = take front.0 text; appended = front.2; all = sym (take-append-drop front.0 text) };
}

-- a whole text is written, or the first bytes of it
pub prints : {T E : Type 0} (old new : Option (List ℕ)) (answer : Result T E) (text piece : List ℕ) (before now : Bool) → piece ≡ text → before ≡ false
    → now ≡ is_err answer → WritesAll old new answer piece → Prints old new text [] before now
prints old new answer text piece before now same worked failed written =
    subst (λ (b : Bool). Prints old new text [] b now) (sym worked)
    (subst (Prints old new text [] false) (sym failed) (prints-by old new answer text (subst (WritesAll old new answer) same written)))

Appends-kept : (a b c : Option (List ℕ)) (bytes : List ℕ) → Appends a b bytes → Keeps b c → Appends a c bytes
Appends-kept None b c bytes p q = tt
Appends-kept (Some x) None c bytes p q = absurd p
Appends-kept (Some x) (Some y) None bytes p q = absurd q
Appends-kept (Some x) (Some y) (Some z) bytes p q = q ∙ p

writes-more : (a b c : Option (List ℕ)) (bytes more waiting left : List ℕ) → Writes a b bytes waiting → Writes b c (waiting ++ more) left
    → Writes a c (bytes ++ more) left
writes-more a b c bytes more waiting left first next = record {
  written = first.written ++ next.written;
  appended = Appends-trans a b c first.written next.written first.appended next.appended;
  all =
      ap (λ (l : List ℕ). l ++ more) first.all ∙ append_assoc first.written waiting more ∙ ap (λ (l : List ℕ). first.written ++ l) next.all
      ∙ sym (append_assoc first.written next.written left);
}

-- and more bytes after it
pub prints-more : (a b c : Option (List ℕ)) (bytes more waiting left : List ℕ) (f g h : Bool) → Prints a b bytes waiting f g
    → Prints b c (waiting ++ more) left g h → Prints a c (bytes ++ more) left f h
prints-more a b c bytes more waiting left false false false first next = writes-more a b c bytes more waiting left first next
prints-more a b c bytes more waiting left false false true first next =
    record { lost = next.lost; writes = writes-more a b c bytes more waiting next.lost first next.writes }
prints-more a b c bytes more waiting left false true false first next = absurd next
prints-more a b c bytes more waiting left false true true first next =
    let w = first.writes in
    record {
      lost = first.lost ++ more;
      writes = record {
        written = w.written;
        appended = Appends-kept a b c w.written w.appended next;
        all = ap (λ (l : List ℕ). l ++ more) w.all ∙ append_assoc w.written first.lost more;
      };
    }
prints-more a b c bytes more waiting left true false h first next = absurd first
prints-more a b c bytes more waiting left true true false first next = absurd next
prints-more a b c bytes more waiting left true true true first next = Keeps-trans a b c first next

-- and nothing after it
pub prints-all : (a b c : Option (List ℕ)) (bytes waiting left : List ℕ) (f g h : Bool) → Prints a b bytes waiting f g → Prints b c waiting left g h
    → Prints a c bytes left f h
prints-all a b c bytes waiting left f g h first next =
    subst (λ (l : List ℕ). Prints a c l left f h) (append-nil bytes)
    (prints-more a b c bytes [] waiting left f g h first (subst (λ (l : List ℕ). Prints b c l left g h) (sym (append-nil waiting)) next))

-- ---- all of a run

-- nothing was written yet
pub prints-none : (a : Option (List ℕ)) (text : List ℕ) (failed : Bool) → text ≡ [] → failed ≡ false → Prints a a (text ++ []) text failed failed
prints-none a text failed none works =
    subst (λ (l : List ℕ). Prints a a (l ++ []) l failed failed) (sym none)
    (subst (λ (b : Bool). Prints a a [] [] b b) (sym works) (record { written = []; appended = Appends-nil a; all = refl }))

abbrev IsOther : Ended → Type 0
IsOther AtEnd = Unit {0}
IsOther Stopped = Unit {0}
IsOther NoInput = Unit {0}
IsOther ReadFault = Unit {0}
IsOther WriteFault = ⊥
IsOther NoMemory = Unit {0}
IsOther TooMany = Unit {0}

all-written : (a b : Option (List ℕ)) (lines waiting : List ℕ) (failed : Bool) → Prints a b lines waiting false failed
    → (waiting ≡ []) × (failed ≡ false) → Appends a b lines
all-written a b lines waiting failed prints passed =
    let h : Prints a b lines [] false false =
    subst (λ (f : Bool). Prints a b lines [] false f) passed.1 (subst (λ (l : List ℕ). Prints a b lines l false failed) passed.0 prints) in
    subst (Appends a b) (sym (h.all ∙ append-nil h.written)) h.appended

some-written : (a b : Option (List ℕ)) (lines waiting : List ℕ) (failed : Bool) → Prints a b lines waiting false failed → Fails a b lines
some-written a b lines waiting false prints = record { lost = waiting; writes = prints }
some-written a b lines waiting true prints = prints

by-end : (ended : Ended) (a b : Option (List ℕ)) (lines waiting : List ℕ) (failed : Bool) → Prints a b lines waiting false failed
    → ((ended ≡ WriteFault → ⊥) → (waiting ≡ []) × (failed ≡ false)) → IsWritten ended a b lines
by-end AtEnd a b lines waiting failed prints passed = all-written a b lines waiting failed prints (passed (λ is. subst IsOther is tt))
by-end Stopped a b lines waiting failed prints passed = all-written a b lines waiting failed prints (passed (λ is. subst IsOther is tt))
by-end NoInput a b lines waiting failed prints passed = all-written a b lines waiting failed prints (passed (λ is. subst IsOther is tt))
by-end ReadFault a b lines waiting failed prints passed = all-written a b lines waiting failed prints (passed (λ is. subst IsOther is tt))
by-end WriteFault a b lines waiting failed prints passed = some-written a b lines waiting failed prints
by-end NoMemory a b lines waiting failed prints passed = all-written a b lines waiting failed prints (passed (λ is. subst IsOther is tt))
by-end TooMany a b lines waiting failed prints passed = all-written a b lines waiting failed prints (passed (λ is. subst IsOther is tt))

-- what was said since nothing was
pub is-written : (ended : Ended) (a b old new : Option (List ℕ)) (text lines waiting : List ℕ) (first failed : Bool) → a ≡ old → new ≡ b → text ≡ []
    → first ≡ false → Prints a b (text ++ lines) waiting first failed
    → ((ended ≡ WriteFault → ⊥) → (waiting ≡ []) × (failed ≡ false)) → IsWritten ended old new lines
is-written ended a b old new text lines waiting first failed old_is new_is none works prints passed =
    let h : Prints a b lines waiting false failed =
    subst (λ (f : Bool). Prints a b lines waiting f failed) works (subst (λ (l : List ℕ). Prints a b (l ++ lines) waiting first failed) none prints) in
    subst (λ (o : Option (List ℕ)). IsWritten ended old o lines) (sym new_is)
    (subst (λ (o : Option (List ℕ)). IsWritten ended o b lines) old_is (by-end ended a b lines waiting failed h passed))

-- ---- the output's faults

pub counts-once : (a b c : ℕ) (f g h : Bool) → CountsOnce a b f g → CountsOnce b c g h → CountsOnce a c f h
counts-once a b c false false h first next = subst (λ (n : ℕ). CountsFaults n c h) first.counted next
counts-once a b c false true h first next =
    subst (λ (n : ℕ). CountsFaults a n h) (sym next.0) (subst (CountsFaults a b) (sym next.1) first)
counts-once a b c true g h first next =
    let rest : CountsOnce b c true h = subst (λ (t : Bool). CountsOnce b c t h) first.1 next in
    (rest.0 ∙ first.0, rest.1)

pub counts-none : (a : ℕ) (failed : Bool) → failed ≡ false → CountsOnce a a failed failed
counts-none a failed works =
    subst (λ (b : Bool). CountsOnce a a b b) (sym works) (record { below = λ within. within; never_falls = omega arith; counted = refl })

failed-is : (ended : Ended) (failed : Bool) → ((ended ≡ WriteFault → ⊥) → failed ≡ false) → (ended ≡ WriteFault → failed ≡ true)
    → failed ≡ is_write_fault ended
failed-is AtEnd failed works fails = works (λ is. subst IsOther is tt)
failed-is Stopped failed works fails = works (λ is. subst IsOther is tt)
failed-is NoInput failed works fails = works (λ is. subst IsOther is tt)
failed-is ReadFault failed works fails = works (λ is. subst IsOther is tt)
failed-is WriteFault failed works fails = fails refl
failed-is NoMemory failed works fails = works (λ is. subst IsOther is tt)
failed-is TooMany failed works fails = works (λ is. subst IsOther is tt)

-- the output counts a fault where the program ends by one
pub counts-all : (ended : Ended) (a b old new : ℕ) (first failed : Bool) → a ≡ old → new ≡ b → first ≡ false → CountsOnce a b first failed
    → ((ended ≡ WriteFault → ⊥) → failed ≡ false) → (ended ≡ WriteFault → failed ≡ true) → CountsFaults old new (is_write_fault ended)
counts-all ended a b old new first failed old_is new_is worked counts works fails =
    let h : CountsFaults a b failed = subst (λ (t : Bool). CountsOnce a b t failed) worked counts in
    subst (λ (n : ℕ). CountsFaults old n (is_write_fault ended)) (sym new_is)
    (subst (λ (n : ℕ). CountsFaults n b (is_write_fault ended)) old_is (subst (CountsFaults a b) (failed-is ended failed works fails) h))
