-- A message is read of a text exactly if the text says it.
use Rattle.std.proofs.Common.{◌≡◌, ℕ, zero, suc, ◌<◌, ◌≤◌, Bool, true, false, nat_lt, cond, List, [], ◌∷◌, ◌++◌, length, Some, None, refl, sym}
use Rattle.std.proofs.Common.{ap, subst, ◌∙◌, arith, append_assoc, codes, ◌⊎◌, inl, inr, ⊎_elim}
use Rattle.std.proofs.lemmas.Bool.{ltb-false}
use Rattle.std.proofs.lemmas.List.{length-append, nil_from_length}
use Rattle.std.proofs.lemmas.Option.{none-some, same_Some}
use Rattle.std.proofs.lemmas.Slice.Eq.{bytes_eq-Decides}
use Rattle.std.specs.Fmt.{decimal}
use Rattle.std.specs.List.{AllByRecursion}
use Rattle.std.specs.Str.{bytes_eq}
use Rattle.one_history.specs.Streams.{Barrier, Indexed, Word}
use Rattle.bridge_lines.specs.declared.limits.TheConstants.{MAX_RECORDS}
use Rattle.bridge_lines.specs.Parts.{◌>>=◌, cut, lacks, name_in, number_in, record_in}
use Rattle.bridge_lines.specs.Reading.{barrier_in, line_said, message_in, records_in, records_said, said_in}
use Rattle.bridge_lines.specs.Texts.{Said, SaysBarrier, SaysRecords, SaysMark, Says, IsSaid, IsSaidBarrier, IsSaidRecord, barrier_words, ended}
use Rattle.bridge_lines.specs.Texts.{feed_line, feed_lines, text_of}
use Rattle.bridge_lines.proofs.Texting.{bind-some, cut-again, cut-joined, decimal-lacks, feed_line-lacks, lacks-append, name-again, name-is}
use Rattle.bridge_lines.proofs.Texting.{name-lacks, number-again, number-is, record-again, record-is}

-- which way a test went
pub chosen : {A : Type 0} (test : Bool) (x y z : A) → cond test x y ≡ z → ((test ≡ true) × (x ≡ z)) ⊎ ((test ≡ false) × (y ≡ z))
chosen true x y z is = inl (refl, is)
chosen false x y z is = inr (refl, is)

pub none-is : {A : Type 0} (x : A) → None ≡ Some x → ⊥
none-is x is = none-some x is

-- ---- barriers

abbrev barrier-of : ℕ → Word → Word → Barrier
barrier-of number name machine = record { number = number; name = name; machine = machine }

pub barrier-is : (words : List ℕ) (barrier : Barrier) → barrier_in words ≡ Some barrier → IsSaidBarrier barrier × (words ≡ barrier_words barrier)
unfolding barrier_in
barrier-is words barrier is =
    let a = bind-some (cut 32 words) (λ first. number_in first.0 >>= λ number. cut 32 first.1 >>= λ second. name_in second.0
    >>= λ name. name_in second.1 >>= λ machine. Some (barrier-of number name machine)) barrier is in
    let b = bind-some (number_in a.0.0) (λ number. cut 32 a.0.1 >>= λ second. name_in second.0 >>= λ name. name_in second.1 >>= λ machine. Some
    (barrier-of number name machine)) barrier a.2 in
    let d = bind-some (cut 32 a.0.1) (λ second. name_in second.0 >>= λ name. name_in second.1 >>= λ machine. Some
    (barrier-of b.0 name machine)) barrier b.2 in
    let e = bind-some (name_in d.0.0) (λ name. name_in d.0.1 >>= λ machine. Some (barrier-of b.0 name machine)) barrier d.2 in
    let f = bind-some (name_in d.0.1) (λ machine. Some (barrier-of b.0 e.0 machine)) barrier e.2 in
    let barrier_is : barrier-of b.0 e.0 f.0 ≡ barrier = same_Some _ _ f.2 in
    let number = number-is a.0.0 b.0 b.1 in
    let name = name-is d.0.0 e.0 e.1 in
    let machine = name-is d.0.1 f.0 f.1 in
    let names : a.0.1 ≡ e.0 ++ 32 ∷ f.0 = cut-joined 32 a.0.1 d.0.0 d.0.1 d.1 ∙ ap (λ word. word ++ 32 ∷ d.0.1) name.1 ∙ ap
    (λ word. e.0 ++ 32 ∷ word) machine.1 in
    let whole : words ≡ barrier_words (barrier-of b.0 e.0 f.0) =
    cut-joined 32 words a.0.0 a.0.1 a.1 ∙ ap (λ word. word ++ 32 ∷ a.0.1) number.1 ∙ ap (λ rest. decimal b.0 ++ 32 ∷ rest) names in
    subst (λ barrier. IsSaidBarrier barrier × (words ≡ barrier_words barrier)) barrier_is
    (record { number = number.0; name = name.0; machine = machine.0 }, whole)

pub barrier-again : (barrier : Barrier) → IsSaidBarrier barrier → barrier_in (barrier_words barrier) ≡ Some barrier
unfolding barrier_in
barrier-again barrier said =
    let first = cut-again 32 (decimal barrier.number) (barrier.name ++ 32 ∷ barrier.machine) (decimal-lacks barrier.number said.number).0 in
    let second = cut-again 32 barrier.name barrier.machine (name-lacks barrier.name said.name).0 in
    rw (first, number-again barrier.number said.number, second, name-again barrier.name said.name, name-again barrier.machine said.machine) refl

pub barrier-lacks : (barrier : Barrier) → IsSaidBarrier barrier → lacks 10 (barrier_words barrier) ≡ true
barrier-lacks barrier said =
    let names = lacks-append 10 barrier.name (32 ∷ barrier.machine) (name-lacks barrier.name said.name).1 (name-lacks barrier.machine said.machine).1 in
    lacks-append 10 (decimal barrier.number) (32 ∷ (barrier.name ++ 32 ∷ barrier.machine)) (decimal-lacks barrier.number said.number).1 names

-- ---- records

record AreRead (room : ℕ) (lines : List ℕ) (records : List Indexed) : Type 0 where
  each : AllByRecursion IsSaidRecord records
  most : length records ≤ room
  text_is : lines ≡ feed_lines records

ended-then : (line rest : List ℕ) → line ++ 10 ∷ rest ≡ ended line ++ rest
ended-then line rest = sym (append_assoc line (10 ∷ []) rest)

records-are : (room : ℕ) (lines : List ℕ) (records : List Indexed) → records_in room lines ≡ Some records → AreRead room lines records
unfolding records_in
records-are room [] records is =
    subst (AreRead room []) (same_Some _ _ is) (record { each = tt; most = omega arith; text_is = refl })
records-are zero (byte ∷ bytes) records is = absurd cc
records-are (suc room) (byte ∷ bytes) records is =
    let a = bind-some (cut 10 (byte ∷ bytes)) (λ line. record_in line.0 >>= λ one. records_in room line.1 >>= λ more. Some (one ∷ more)) records is in
    let b = bind-some (record_in a.0.0) (λ one. records_in room a.0.1 >>= λ more. Some (one ∷ more)) records a.2 in
    let d = bind-some (records_in room a.0.1) (λ more. Some (b.0 ∷ more)) records b.2 in
    let one = record-is a.0.0 b.0 b.1 in
    let more = records-are room a.0.1 d.0 d.1 in
    let whole : byte ∷ bytes ≡ feed_lines (b.0 ∷ d.0) =
    cut-joined 10 (byte ∷ bytes) a.0.0 a.0.1 a.1 ∙ ended-then a.0.0 a.0.1
    ∙ ap (λ line. ended line ++ a.0.1) one.1 ∙ ap (λ rest. ended (feed_line b.0) ++ rest) more.text_is in
    let size = more.most in
    subst (AreRead (suc room) (byte ∷ bytes)) (same_Some _ _ d.2)
    (record { each = (one.0, more.each); most = omega (arith, size); text_is = whole })

some-first : (room : ℕ) (lines : List ℕ) → 0 < length lines → records_in (suc room) lines
    ≡ (cut 10 lines >>= λ line. record_in line.0 >>= λ one. records_in room line.1 >>= λ more. Some (one ∷ more))
unfolding records_in
some-first room [] some = absurd (omega (arith, some))
some-first room (byte ∷ bytes) some = refl

records-again : (room : ℕ) (records : List Indexed) → AllByRecursion IsSaidRecord records → length records ≤ room → records_in room
    (feed_lines records) ≡ Some records
unfolding records_in
records-again room [] each most = refl
records-again zero (one ∷ records) each most = absurd (omega (arith, most))
records-again (suc room) (one ∷ records) each most =
    let text : feed_lines (one ∷ records) ≡ feed_line one ++ 10 ∷ feed_lines records = sym (ended-then (feed_line one) (feed_lines records)) in
    let size = length-append (feed_line one) (10 ∷ feed_lines records) in
    let first = cut-again 10 (feed_line one) (feed_lines records) (feed_line-lacks one each.0) in
    let here = record-again one each.0 in
    let more = records-again room records each.1 (omega (arith, most)) in
    ap (records_in (suc room)) text
    ∙ some-first room (feed_line one ++ 10 ∷ feed_lines records) (omega (arith, size))
    ∙ rw (first, here, more) refl

-- ---- messages

pub same-word : (word other : List ℕ) → bytes_eq word other ≡ true → word ≡ other
same-word word other is = (bytes_eq-Decides word other).0 is

abbrev words-of : List ℕ → List ℕ → List ℕ → List ℕ
words-of kind words lines = (kind ++ 32 ∷ words) ++ 10 ∷ lines

line-is : (kind words : List ℕ) (said : Said) → line_said kind words ≡ Some said → Says (words-of kind words []) said
unfolding line_said
line-is kind words said is =
    let mark = cond (bytes_eq kind (codes "mark")) (name_in words >>= λ word. Some (SaysMark word)) None in
    ⊎_elim
    (λ (here : (bytes_eq kind (codes "barrier") ≡ true) × ((barrier_in words >>= λ barrier. Some (SaysBarrier barrier)) ≡ Some said)).
    let found = bind-some (barrier_in words) (λ barrier. Some (SaysBarrier barrier)) said here.1 in
    let barrier = barrier-is words found.0 found.1 in
    subst (Says (words-of kind words [])) (same_Some _ _ found.2)
    (record {
      is_said = barrier.0;
      text_is = ap (λ kind. words-of kind words []) (same-word kind (codes "barrier") here.0)
          ∙ ap (λ words. words-of (codes "barrier") words []) barrier.1;
    }))
    (λ (there : (bytes_eq kind (codes "barrier") ≡ false) × (mark ≡ Some said)).
    ⊎_elim
    (λ (here : (bytes_eq kind (codes "mark") ≡ true) × ((name_in words >>= λ word. Some (SaysMark word)) ≡ Some said)).
    let found = bind-some (name_in words) (λ word. Some (SaysMark word)) said here.1 in
    let name = name-is words found.0 found.1 in
    subst (Says (words-of kind words [])) (same_Some _ _ found.2)
    (record {
      is_said = name.0;
      text_is = ap (λ kind. words-of kind words []) (same-word kind (codes "mark") here.0)
          ∙ ap (λ words. words-of (codes "mark") words []) name.1;
    }))
    (λ (none : (bytes_eq kind (codes "mark") ≡ false) × (None ≡ Some said)). absurd (none-is said none.1))
    (chosen (bytes_eq kind (codes "mark")) (name_in words >>= λ word. Some (SaysMark word)) None (Some said) there.1))
    (chosen (bytes_eq kind (codes "barrier")) (barrier_in words >>= λ barrier. Some (SaysBarrier barrier)) mark (Some said) is)

records_said-is : (words lines : List ℕ) (said : Said) → records_said words lines ≡ Some said → Says (words-of (codes "records") words lines) said
unfolding records_said
records_said-is words lines said is =
    let a = bind-some (cut 32 words) (λ first. name_in first.0 >>= λ name. number_in first.1 >>= λ sequence. records_in MAX_RECORDS lines
    >>= λ records. Some (SaysRecords name sequence records)) said is in
    let b = bind-some (name_in a.0.0) (λ name. number_in a.0.1 >>= λ sequence. records_in MAX_RECORDS lines >>= λ records. Some
    (SaysRecords name sequence records)) said a.2 in
    let d = bind-some (number_in a.0.1) (λ sequence. records_in MAX_RECORDS lines >>= λ records. Some (SaysRecords b.0 sequence records)) said b.2 in
    let e = bind-some (records_in MAX_RECORDS lines) (λ records. Some (SaysRecords b.0 d.0 records)) said d.2 in
    let name = name-is a.0.0 b.0 b.1 in
    let sequence = number-is a.0.1 d.0 d.1 in
    let records = records-are MAX_RECORDS lines e.0 e.1 in
    let head : words ≡ b.0 ++ 32 ∷ decimal d.0 = cut-joined 32 words a.0.0 a.0.1 a.1 ∙ ap (λ word. word ++ 32 ∷ a.0.1) name.1 ∙ ap
    (λ word. b.0 ++ 32 ∷ word) sequence.1 in
    subst (Says (words-of (codes "records") words lines)) (same_Some _ _ e.2)
    (record {
      is_said = record { is_name = name.0; is_number = sequence.0; are_records = record { each = records.each; most = records.most } };
      text_is = ap (λ words. words-of (codes "records") words lines) head
          ∙ ap (words-of (codes "records") (b.0 ++ 32 ∷ decimal d.0)) records.text_is;
    })

said-is : (kind words lines : List ℕ) (said : Said) → said_in kind words lines ≡ Some said → Says (words-of kind words lines) said
unfolding said_in
said-is kind words lines said is =
    ⊎_elim
    (λ (here : (bytes_eq kind (codes "records") ≡ true) × (records_said words lines ≡ Some said)).
    subst (λ kind. Says (words-of kind words lines) said) (sym (same-word kind (codes "records") here.0)) (records_said-is words lines said here.1))
    (λ (there : (bytes_eq kind (codes "records") ≡ false) × (cond (nat_lt 0 (length lines)) None (line_said kind words) ≡ Some said)).
    ⊎_elim
    (λ (more : (nat_lt 0 (length lines) ≡ true) × (None ≡ Some said)). absurd (none-is said more.1))
    (λ (none : (nat_lt 0 (length lines) ≡ false) × (line_said kind words ≡ Some said)).
    let empty = ltb-false 0 (length lines) none.0 in
    let lines_are : lines ≡ [] = nil_from_length lines (omega (arith, empty)) in
    subst (λ lines. Says (words-of kind words lines) said) (sym lines_are) (line-is kind words said none.1))
    (chosen (nat_lt 0 (length lines)) None (line_said kind words) (Some said) there.1))
    (chosen (bytes_eq kind (codes "records")) (records_said words lines) (cond (nat_lt 0 (length lines)) None (line_said kind words)) (Some said) is)

pub message-is : (text : List ℕ) (said : Said) → message_in text ≡ Some said → Says text said
unfolding message_in
message-is text said is =
    let a = bind-some (cut 10 text) (λ lines. cut 32 lines.0 >>= λ head. said_in head.0 head.1 lines.1) said is in
    let b = bind-some (cut 32 a.0.0) (λ head. said_in head.0 head.1 a.0.1) said a.2 in
    let whole : text ≡ words-of b.0.0 b.0.1 a.0.1 = cut-joined 10 text a.0.0 a.0.1 a.1 ∙ ap (λ line. line ++ 10 ∷ a.0.1)
    (cut-joined 32 a.0.0 b.0.0 b.0.1 b.1) in
    subst (λ text. Says text said) (sym whole) (said-is b.0.0 b.0.1 a.0.1 said b.2)

message-again : (kind words lines : List ℕ) → lacks 32 kind ≡ true → lacks 10 kind ≡ true → lacks 10 words ≡ true
    → message_in (words-of kind words lines) ≡ said_in kind words lines
unfolding message_in
message-again kind words lines no_space no_newline one_line =
    let line = lacks-append 10 kind (32 ∷ words) no_newline one_line in
    let first = cut-again 10 (kind ++ 32 ∷ words) lines line in
    let second = cut-again 32 kind words no_space in
    rw (first, second) refl

text-again : (said : Said) → IsSaid said → message_in (text_of said) ≡ Some said
unfolding said_in line_said records_said
text-again (SaysBarrier barrier) said =
    message-again (codes "barrier") (barrier_words barrier) [] refl refl (barrier-lacks barrier said)
    ∙ ap (λ found. found >>= λ barrier. Some (SaysBarrier barrier)) (barrier-again barrier said)
text-again (SaysRecords name sequence records) said =
    let words_lack = lacks-append 10 name (32 ∷ decimal sequence) (name-lacks name said.is_name).1 (decimal-lacks sequence said.is_number).1 in
    let first = cut-again 32 name (decimal sequence) (name-lacks name said.is_name).0 in
    let each = records-again MAX_RECORDS records said.are_records.each said.are_records.most in
    message-again (codes "records") (name ++ 32 ∷ decimal sequence) (feed_lines records) refl refl words_lack
    ∙ rw (first, name-again name said.is_name, number-again sequence said.is_number, each) refl
text-again (SaysMark word) said =
    message-again (codes "mark") word [] refl refl (name-lacks word said).1
    ∙ ap (λ found. found >>= λ word. Some (SaysMark word)) (name-again word said)

-- a text that says this is read as it
pub message-read : (text : List ℕ) (said : Said) → Says text said → message_in text ≡ Some said
message-read text said says = ap message_in says.text_is ∙ text-again said says.is_said
