-- Laws of sequences of calls: of fault counts, of a piece written in parts, and of an input read in parts.
use Rattle.std.proofs.Common.{◌≡◌, ℕ, ◌+◌, ◌<◌, ◌≤◌, Bool, true, false, ◌||◌, List, ◌++◌, length}
use Rattle.std.proofs.Common.{Option, None, Some, Result, Ok, Err, take, drop, refl, subst, sym, ap, ◌∙◌, arith}
use Rattle.std.proofs.Math.Seq.{take-add, take-append-add}
use Rattle.std.proofs.lemmas.List.{append-nil, take-append-le, length-append}
use Rattle.std.specs.Io.KnownBytes.{Appends, Consumes, IsAtEnd}
use Rattle.std.proofs.KnownBytes.{Appends-trans}
use Rattle.issuer_base.specs.OutsideFaults.{Rose, CountsFaults}
use Rattle.issuer_base.specs.Sink.{AppendsFront, WritesAll}
use Rattle.issuer_base.specs.Tells.{Tells}

-- ---- counts of faults

-- a count that rose from none is above none
pub Rose-from_none : (n : ℕ) → Rose 0 n → 0 < n
Rose-from_none n rose = omega arith

-- what rose since a later moment rose since an earlier one
pub Rose-since : (a b c : ℕ) → a ≤ b → Rose b c → Rose a c
Rose-since a b c earlier rose = grind arith

-- no call was made
pub CountsFaults-no_call : (n : ℕ) → CountsFaults n n false
CountsFaults-no_call n = record { below = λ h. h; never_falls = omega arith; counted = refl }

-- calls, and then more calls: one failed where one of the first or of the second did
pub CountsFaults-then : (a b c : ℕ) (first second : Bool) → CountsFaults a b first → CountsFaults b c second → CountsFaults a c (first || second)
CountsFaults-then a b c true true p q =
    record { below = λ h. q.below (p.below h); never_falls = omega arith; counted = Rose-since a b c p.never_falls q.counted }
CountsFaults-then a b c true false p q =
    record { below = λ h. q.below (p.below h); never_falls = omega arith; counted = subst (Rose a) (sym q.counted) p.counted }
CountsFaults-then a b c false true p q =
    record { below = λ h. q.below (p.below h); never_falls = omega arith; counted = subst (λ n. Rose n c) p.counted q.counted }
CountsFaults-then a b c false false p q =
    record { below = λ h. q.below (p.below h); never_falls = omega arith; counted = q.counted ∙ p.counted }

-- ---- what was written

-- a front of the piece was appended, and then a front of what was left of it
pub Appends-more : (a b c : Option (List ℕ)) (piece : List ℕ) (written n : ℕ) → Appends a b (take written piece) → Appends b c (take n (drop written piece))
    → Appends a c (take (written + n) piece)
Appends-more a b c piece written n first second = subst (Appends a c) (sym (take-add written n piece)) (Appends-trans a b c _ _ first second)

-- a whole piece was appended, and then a front of the next
pub AppendsFront-after : (a b c : Option (List ℕ)) (xs ys : List ℕ) → Appends a b xs → AppendsFront b c ys → AppendsFront a c (xs ++ ys)
AppendsFront-after a b c xs ys first (n, short, second) =
    (length xs + n, simp length-append (omega arith), subst (Appends a c) (sym (take-append-add xs ys n)) (Appends-trans a b c _ _ first second))

-- a front of a piece is a front of the piece and what was due after it
pub AppendsFront-more : (a b : Option (List ℕ)) (xs ys : List ℕ) → AppendsFront a b xs → AppendsFront a b (xs ++ ys)
AppendsFront-more a b xs ys (n, short, front) =
    let within : n ≤ length xs = omega arith in
    (n, simp length-append (omega arith), subst (Appends a b) (sym (take-append-le n xs ys within)) front)

-- one piece was written whole, and then the next one was written, all of it or a front
pub WritesAll-after : {T E : Type 0} (a b c : Option (List ℕ)) (answer : Result T E) (xs ys : List ℕ)
    → Appends a b xs → WritesAll b c answer ys → WritesAll a c answer (xs ++ ys)
WritesAll-after a b c (Ok x) xs ys first second = Appends-trans a b c xs ys first second
WritesAll-after a b c (Err e) xs ys first second = AppendsFront-after a b c xs ys first second

-- ---- what an input gave

-- what was read to the end is all that the input had left
pub Tells-whole : (was now : Option (List ℕ)) (bytes : List ℕ) → Consumes was now bytes → IsAtEnd now → Tells was bytes
Tells-whole None now bytes read end = tt
Tells-whole (Some file) None bytes read end = absurd read
Tells-whole (Some file) (Some rest) bytes read end = read ∙ ap (λ xs. bytes ++ xs) end ∙ append-nil bytes

-- what an input that a desk gave has left is what the desk exposes of its name
pub Tells-from_left : (told : Option (Option (List ℕ))) (left : Option (List ℕ)) (content : List ℕ) → (told ≡ Some None → ⊥)
    → Tells told left → Tells left content → Tells told (Some content)
Tells-from_left None left content stands given left_is = tt
Tells-from_left (Some None) left content stands given left_is = absurd (stands refl)
Tells-from_left (Some (Some bytes)) None content stands given left_is = cc
Tells-from_left (Some (Some bytes)) (Some other) content stands given left_is = given ∙ ap Some left_is
