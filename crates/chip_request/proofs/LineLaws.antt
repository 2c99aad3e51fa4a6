-- What a line is parsed as, and that it is parsed as nothing else.
use Rattle.std.proofs.Common.{◌≡◌, ℕ, suc, ◌+◌, ◌-◌, ◌*◌, ◌<◌, ◌≤◌, List, [], ◌∷◌, ◌++◌, length, take, Result, Ok, Err, refl, sym, ap, subst, ◌∙◌}
use Rattle.std.proofs.Common.{inl, inr, append_assoc, length-append, arith}
use Rattle.std.proofs.Math.Seq.{take-append_seam, take-append-add}
use Rattle.std.proofs.lemmas.Bool.{cases_lt}
use Rattle.std.proofs.lemmas.List.{length-map, length-take-le, take_all, take-take}
use Rattle.issuer_base.specs.ChipData.{digits_of}
use Rattle.issuer_base.specs.declared.limits.TheConstants.{MAX_CHIP_BYTES}
use Rattle.issuer_base.proofs.CardNumberLemmas.{length-pan}
use Rattle.chip_request.specs.declared.line.LineKind.{LineKind}
use Rattle.chip_request.specs.declared.line.LineKind.TheVariants.{Ask, Queue, Set}
use Rattle.chip_request.specs.Lines.{Spells, digits_text, Says, BeginsSomeLine, IsLongestStart, StopsAt, ReadsAs}
use Rattle.chip_request.specs.LineParts.{Part, kind_at, with_column, line_of}
use Rattle.chip_request.proofs.Readings.{StartAlike, Stops, Reads}
use Rattle.chip_request.proofs.LineForms.{Reads-line}

start_alike : (text : List ℕ) → StartAlike text text
start_alike [] = tt
start_alike (b ∷ bs) = refl

-- a longer front of a text goes on as what is behind a shorter one
goes_on : (front rest more : List ℕ) (n : ℕ) → length front < n → n ≤ length (front ++ rest) → (next : List ℕ) × StartAlike next rest
    × (take n (front ++ rest) ++ more ≡ front ++ next)
goes_on front [] more n longer within = absurd (omega (arith, length-append front []))
goes_on front (b ∷ rest) more n longer within =
    let size : n ≡ length front + suc (n - length front - 1) = omega arith in
    let cut : take n (front ++ b ∷ rest) ≡ front ++ b ∷ take (n - length front - 1) rest =
    ap (λ (i : ℕ). take i (front ++ b ∷ rest)) size ∙ take-append-add front (b ∷ rest) (suc (n - length front - 1)) in (
      b ∷ take (n - length front - 1) rest ++ more,
      refl,
      ap (λ (others : List ℕ). others ++ more) cut
          ∙ append_assoc front (b ∷ take (n - length front - 1) rest) more,
    )

-- where reading stops is the longest front that begins some line
longest_start : (line rest : List ℕ) (stops : Stops Says line rest) → IsLongestStart line (length stops.front)
longest_start line rest stops =
    let size = ap length stops.joined ∙ length-append stops.front rest in
    let cut : take (length stops.front) line ≡ stops.front = ap (take (length stops.front)) stops.joined ∙ take-append_seam stops.front rest in
    record {
      within = omega (arith, size);
      begins = record {
        rest = stops.more;
        kind = stops.kind;
        says =
            subst (λ (front : List ℕ). Says (front ++ stops.more) stops.kind) (sym cut) stops.begins;
      };
      longest = no_longer size;
    }
  where
    too_long : (n : ℕ) → n ≤ length line → BeginsSomeLine (take n line) → length stops.front < n → ⊥
    too_long n within begins longer =
        let on = goes_on stops.front rest begins.rest n longer (subst (λ (text : List ℕ). n ≤ length text) stops.joined within) in
        stops.no_other on.0 begins.kind on.1
        (subst (λ (text : List ℕ). Says text begins.kind) (ap (λ (text : List ℕ). take n text ++ begins.rest) stops.joined ∙ on.2) begins.says)

    no_longer : length line ≡ length stops.front + length rest → (n : ℕ) → n ≤ length line → BeginsSomeLine (take n line) → n ≤ length stops.front
    no_longer size n within begins = elim (cases_lt (length stops.front) n) [ inl longer ↦ absurd (too_long n within begins longer) | inr shorter ↦ shorter ]

stops_at : (line rest : List ℕ) → Stops Says line rest → StopsAt line (length line - length rest + 1)
stops_at line rest stops =
    let size = ap length stops.joined ∙ length-append stops.front rest in
    record {
      size = length stops.front;
      longest = longest_start line rest stops;
      behind = omega (arith, size);
      says_nothing = λ kind says. stops.no_other rest kind (start_alike rest) (subst (λ (text : List ℕ). Says text kind) stops.joined says);
    }

-- a line is read as what it says, or as nothing, with the column where it stops
pub line_reads : (line : List ℕ) → ReadsAs line (line_of line)
unfolding line_of
line_reads line = by_read (kind_at line) (Reads-line line)
  where
    by_read : (read : Part LineKind) → Reads Says line read → ReadsAs line (with_column (length line) read)
    by_read (Ok kind) finds = finds.here
    by_read (Err rest) stops = stops_at line rest stops

-- a line says one thing at most
says_once : (line : List ℕ) (kind other : LineKind) → Says line kind → Says line other → kind ≡ other
says_once line kind other says also = by_read (kind_at line) (Reads-line line)
  where
    by_read : (read : Part LineKind) → Reads Says line read → kind ≡ other
    by_read (Ok found) finds = finds.only kind says ∙ sym (finds.only other also)
    by_read (Err rest) stops = absurd (stops.no_other rest kind (start_alike rest) (subst (λ (text : List ℕ). Says text kind) stops.joined says))

one_longest : (line : List ℕ) (a b : ℕ) → IsLongestStart line a → IsLongestStart line b → a ≡ b
one_longest line a b here there = let less = there.longest a here.within here.begins in let more = here.longest b there.within there.begins in omega arith

-- and is read as one thing alone
pub reads_once : (line : List ℕ) (read other : Result LineKind ℕ) → ReadsAs line read → ReadsAs line other → read ≡ other
reads_once line (Ok kind) (Ok other) says also = ap Ok (says_once line kind other says also)
reads_once line (Ok kind) (Err column) says stops = absurd (stops.says_nothing kind says)
reads_once line (Err column) (Ok kind) stops says = absurd (stops.says_nothing kind says)
reads_once line (Err column) (Err other) stops also =
    let same = one_longest line stops.size also.size stops.longest also.longest in ap Err (omega (arith, stops.behind, also.behind, same))

-- two digits spell a byte
length-spelled : (text bytes : List ℕ) → Spells text bytes → length text ≡ 2 * length bytes
length-spelled [] [] spelled = refl
length-spelled [] (byte ∷ bytes) spelled = absurd spelled
length-spelled (digit ∷ []) bytes spelled = absurd spelled
length-spelled (high ∷ low ∷ text) [] spelled = absurd spelled
length-spelled (high ∷ low ∷ text) (byte ∷ bytes) spelled = let others = length-spelled text bytes spelled.1 in omega arith

-- no line is longer than that of a request with the most bytes
abbrev pub longest_line : ℕ
longest_line = 2 + 2 * MAX_CHIP_BYTES

pub length-line : (line : List ℕ) (kind : LineKind) → Says line kind → length line ≤ longest_line
length-line line (Ask bytes) says =
    let size = ap length says.1 in
    let digits = length-spelled says.0 bytes.items says.2.spelled in
    omega (arith, size, digits, says.2.within)
length-line line (Queue pan psn bytes) says =
    let size = ap length says.1 in
    let joined = length-append (digits_text pan) (32 ∷ (digits_text (digits_of psn) ++ 32 ∷ says.0)) in
    let number = length-map pan (λ (digit : ℕ). 48 + digit) in
    let most = (length-pan pan says.2.number).1 in
    let digits = length-spelled says.0 bytes.items says.3.spelled in
    omega (arith, size, joined, number, most, digits, says.3.within)
length-line line (Set pan psn status) says =
    let size = ap length says.0 in
    let joined = length-append (digits_text pan) (32 ∷ (digits_text (digits_of psn) ++ 32 ∷ digits_text (status ∷ []))) in
    let number = length-map pan (λ (digit : ℕ). 48 + digit) in
    let most = (length-pan pan says.1.number).1 in
    omega (arith, size, joined, number, most)

length-begins : (front : List ℕ) → BeginsSomeLine front → length front ≤ longest_line
length-begins front begins = let whole = length-line _ begins.kind begins.says in let joined = length-append front begins.rest in omega arith

-- what is left where reading stops
pub left_of_line : (line rest : List ℕ) → kind_at line ≡ Err rest → (length rest ≤ length line) × (length line ≤ length rest + longest_line)
left_of_line line rest read =
    let stops : Stops Says line rest = subst (Reads Says line) read (Reads-line line) in
    let size = ap length stops.joined ∙ length-append stops.front rest in
    let front = length-append stops.front stops.more in
    let whole = length-line _ stops.kind stops.begins in
    (omega (arith, size), omega (arith, size))

-- a line reads as a front of it that is longer than any line of these forms
pub line_of-kept : (size : ℕ) (line : List ℕ) → longest_line < size → line_of (take size line) ≡ line_of line
line_of-kept size line long = elim (cases_lt size (length line)) [ inl longer ↦ cut longer | inr whole ↦ ap line_of (take_all size line whole) ]
  where
    cut_reads : size < length line → (read : Result LineKind ℕ) → ReadsAs (take size line) read → ReadsAs line read
    cut_reads longer (Ok kind) says =
        let most = length-line _ kind says in
        let cut = length-take-le size line (omega arith) in
        absurd (omega arith)
    cut_reads longer (Err column) stops =
        let longest = stops.longest in
        let cut = length-take-le size line (omega arith) in
        let within = longest.within in
        record {
          size = stops.size;
          longest = record {
            within = omega arith;
            begins = subst BeginsSomeLine (take-take stops.size size line (omega arith)) longest.begins;
            longest = λ n inside begins.
                let front = length-begins _ begins in
                let is_n = length-take-le n line inside in
                longest.longest n (omega arith) (subst BeginsSomeLine (sym (take-take n size line (omega arith))) begins);
          };
          behind = stops.behind;
          says_nothing = λ kind says. let most = length-line line kind says in absurd (omega arith);
        }

    cut : size < length line → line_of (take size line) ≡ line_of line
    cut longer = reads_once line _ _ (cut_reads longer (line_of (take size line)) (line_reads (take size line))) (line_reads line)
