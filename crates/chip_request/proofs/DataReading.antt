-- Reading the bytes of pairs of hexadecimal digits, up to the end of a text.
use Rattle.std.proofs.Common.{◌≡◌, ℕ, zero, suc, ◌+◌, ◌*◌, ◌≤◌, List, [], ◌∷◌, ◌++◌, length, Ok, Err, refl, sym, ap, subst, arith}
use Rattle.hex.specs.Hex.{hex_digit_value}
use Rattle.chip_request.specs.Lines.{SpellsByte, Spells, SpellsData}
use Rattle.chip_request.specs.LineParts.{Part, ◌>>=◌, value_at, hex_digit_at, pair_at, data_at}
use Rattle.chip_request.proofs.Readings.{StartAlike, Example, Reads, stops_here, Reads-same, Made, Reads-made, Behind, behind_example, Reads-behind, then_then}

-- two hexadecimal digits, and a text with a meaning behind them
abbrev pub BehindPair : {K : Type 0} → (ℕ → List ℕ → K → Type 0) → List ℕ → K → Type 0
BehindPair F = Behind hex_digit_value (λ high. Behind hex_digit_value (λ low. F (16 * high + low)))

pub Reads-pair : {K : Type 0} (F : ℕ → List ℕ → K → Type 0) → ((byte : ℕ) → Example (F byte)) → (text : List ℕ) (next : ℕ × List ℕ → Part K)
    → ((byte : ℕ) (rest : List ℕ) → Reads (F byte) rest (next (byte, rest))) → Reads (BehindPair F) text (pair_at text >>= next)
unfolding pair_at hex_digit_at
Reads-pair {K} F example text next reads =
    subst (Reads (BehindPair F) text) (sym (then_then (value_at hex_digit_value text) high_at next))
    (Reads-behind hex_digit_value _ (behind_example hex_digit_value _ 48 0 refl (behind_example hex_digit_value _ 48 0 refl (example 0))) text _ (λ high rest.
    subst (Reads (Behind hex_digit_value (λ low. F (16 * high + low))) rest) (sym (then_then (value_at hex_digit_value rest) (low_at high) next))
    (Reads-behind hex_digit_value _ (behind_example hex_digit_value _ 48 0 refl (example (16 * high + 0))) rest _ (λ low left. reads (16 * high + low) left))))
  where
    low_at : ℕ → ℕ × List ℕ → Part (ℕ × List ℕ)
    low_at high low = Ok (16 * high + low.0, low.1)

    high_at : ℕ × List ℕ → Part (ℕ × List ℕ)
    high_at high = value_at hex_digit_value high.1 >>= low_at high.0

-- what follows a byte of data: the end, or more of it
abbrev pub More : ℕ → ℕ → List ℕ → List ℕ → Type 0
More room byte [] bytes = bytes ≡ byte ∷ []
More room byte (digit ∷ rest) bytes = Made (λ others. byte ∷ others) (SpellsData room) (digit ∷ rest) bytes

-- data aren't empty
spelled_more : (digit : ℕ) (text bytes : List ℕ) → Spells (digit ∷ text) bytes → 1 ≤ length bytes
spelled_more digit [] bytes spelled = absurd spelled
spelled_more digit (low ∷ text) [] spelled = absurd spelled
spelled_more digit (low ∷ text) (byte ∷ bytes) spelled = omega arith

spelled_some : (room : ℕ) (bytes : List ℕ) → SpellsData room [] bytes → ⊥
spelled_some room [] data_of = absurd (omega (arith, data_of.some))
spelled_some room (byte ∷ bytes) data_of = data_of.spelled

More-made : (room byte : ℕ) (text bytes : List ℕ) → Made (λ others. byte ∷ others) (SpellsData room) text bytes → More room byte text bytes
More-made room byte [] bytes made = absurd (spelled_some room made.0 made.1)
More-made room byte (digit ∷ rest) bytes made = made

-- a byte of data and more of it are data
pub Data-pair : (room : ℕ) (text bytes : List ℕ) → BehindPair (More room) text bytes → SpellsData (suc room) text bytes
Data-pair room [] bytes behind = absurd behind
Data-pair room (high ∷ []) bytes behind = absurd behind.2
Data-pair room (high ∷ low ∷ []) bytes behind =
    let pair : SpellsByte high low (16 * behind.0 + behind.2.0) =
    record { high_value = behind.0; low_value = behind.2.0; is_high = behind.1; is_low = behind.2.1; joined = refl } in
    subst (SpellsData (suc room) (high ∷ low ∷ [])) (sym behind.2.2) (record { spelled = (pair, tt); some = omega arith; within = omega arith })
Data-pair room (high ∷ low ∷ digit ∷ rest) bytes behind =
    let pair : SpellsByte high low (16 * behind.0 + behind.2.0) =
    record { high_value = behind.0; low_value = behind.2.0; is_high = behind.1; is_low = behind.2.1; joined = refl } in
    let others = behind.2.2 in
    subst (SpellsData (suc room) (high ∷ low ∷ digit ∷ rest)) (sym others.2)
    (record { spelled = (pair, others.1.spelled); some = omega arith; within = omega (arith, others.1.within) })

pub pair-Data : (room : ℕ) (text bytes : List ℕ) → SpellsData (suc room) text bytes → BehindPair (More room) text bytes
pair-Data room [] bytes data_of = absurd (spelled_some (suc room) bytes data_of)
pair-Data room (digit ∷ []) bytes data_of = absurd data_of.spelled
pair-Data room (high ∷ low ∷ text) [] data_of = absurd data_of.spelled
pair-Data room (high ∷ low ∷ []) (byte ∷ []) data_of =
    let pair = data_of.spelled.0 in (pair.high_value, pair.is_high, (pair.low_value, pair.is_low, ap (λ (b : ℕ). b ∷ []) pair.joined))
pair-Data room (high ∷ low ∷ []) (byte ∷ other ∷ bytes) data_of = absurd data_of.spelled.1
pair-Data room (high ∷ low ∷ digit ∷ text) (byte ∷ bytes) data_of =
    let pair = data_of.spelled.0 in (
      pair.high_value,
      pair.is_high,
      (
        pair.low_value,
        pair.is_low,
        (
          bytes,
          record {
            spelled = data_of.spelled.1;
            some = spelled_more digit text bytes data_of.spelled.1;
            within =
                omega (arith, data_of.within);
          },
          ap (λ (b : ℕ). b ∷ bytes) pair.joined,
        ),
      ),
    )

-- what is read behind a byte
abbrev pub more_at : (List ℕ → Part (List ℕ)) → ℕ × List ℕ → Part (List ℕ)
more_at others pair = elim (pair.1) [ [] ↦ Ok (pair.0 ∷ []) | byte ∷ rest ↦ others (byte ∷ rest) >>= λ bytes. Ok (pair.0 ∷ bytes) ]

ended : (room byte : ℕ) → Example (More room byte)
ended room byte = record { text = []; kind = byte ∷ []; means = refl }

-- no more than there is room for
Reads-full : (byte : ℕ) (rest : List ℕ) → Reads (More 0 byte) rest (more_at (data_at 0) (byte, rest))
unfolding data_at
Reads-full byte [] = record { here = refl; only = λ other means. means }
Reads-full byte (digit ∷ rest) = stops_here (More 0 byte) (ended 0 byte) (digit ∷ rest) none
  where
    none : (other bytes : List ℕ) → StartAlike other (digit ∷ rest) → More 0 byte other bytes → ⊥
    none [] bytes alike means = alike
    none (b ∷ bs) bytes alike means = absurd (omega (arith, means.1.some, means.1.within))

-- more, and then the end
Reads-more : (room byte : ℕ) (rest : List ℕ) → ((text : List ℕ) → Reads (SpellsData room) text (data_at room text))
    → Reads (More room byte) rest (more_at (data_at room) (byte, rest))
Reads-more room byte [] reads = record { here = refl; only = λ other means. means }
Reads-more room byte (digit ∷ rest) reads = to_more _ (Reads-made _ (SpellsData room) (digit ∷ rest) (data_at room (digit ∷ rest)) (reads (digit ∷ rest)))
  where
    made_of : (front left other bytes : List ℕ) → digit ∷ rest ≡ front ++ left → StartAlike other left
        → More room byte (front ++ other) bytes → Made (λ others. byte ∷ others) (SpellsData room) (front ++ other) bytes
    made_of [] left [] bytes joined alike means = absurd (subst (StartAlike []) (sym joined) alike)
    made_of [] left (b ∷ other) bytes joined alike means = means
    made_of (f ∷ front) left other bytes joined alike means = means

    to_more : (read : Part (List ℕ)) → Reads (Made (λ others. byte ∷ others) (SpellsData room)) (digit ∷ rest) read
        → Reads (More room byte) (digit ∷ rest) read
    to_more (Ok bytes) finds = record { here = finds.here; only = finds.only }
    to_more (Err left) stops = record {
      front = stops.front;
      joined = stops.joined;
      more = stops.more;
      kind = stops.kind;
      begins = More-made _ _ _ _ stops.begins;
      no_other = λ other bytes alike means. stops.no_other other bytes alike (made_of stops.front left other bytes stops.joined alike means);
    }

-- the bytes that are read are those that the text spells
pub Reads-data : (room : ℕ) (text : List ℕ) → Reads (SpellsData (suc room)) text (data_at (suc room) text)
unfolding data_at
Reads-data zero text =
    Reads-same (BehindPair (More 0)) (SpellsData 1) (Data-pair 0) (pair-Data 0) text _ (Reads-pair (More 0) (ended 0) text (more_at (data_at 0)) Reads-full)
Reads-data (suc room) text =
    Reads-same (BehindPair (More (suc room))) (SpellsData (suc (suc room))) (Data-pair (suc room)) (pair-Data (suc room)) text _
    (Reads-pair (More (suc room)) (ended (suc room)) text (more_at (data_at (suc room))) (λ byte rest. Reads-more (suc room) byte rest (Reads-data room)))
