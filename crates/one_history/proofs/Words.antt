-- Tests of words and barriers.
use Rattle.std.proofs.Common.{◌≡◌, true, false, inl, inr, ◌⊎◌, ◌==◌, ◌&&◌}
use Rattle.std.proofs.lemmas.Bool.{and_parts, eqb-true, cases_Bool}
use Rattle.std.proofs.lemmas.Slice.Eq.{bytes_eq-Decides}
use Rattle.one_history.specs.Streams.{Word, is_word, Barrier, is_barrier}

pub word-same : (one other : Word) → is_word one other ≡ true → one ≡ other
word-same one other is = (bytes_eq-Decides one other).0 is

pub word-is : (one other : Word) → one ≡ other → is_word one other ≡ true
word-is one other same = (bytes_eq-Decides one other).1 same

pub word-apart : (one other : Word) → is_word one other ≡ false → one ≡ other → ⊥
word-apart one other apart same = let is = word-is one other same in cc

-- two words are equal or not
pub cases_word : (one other : Word) → (one ≡ other) ⊎ (one ≡ other → ⊥)
cases_word one other = elim (cases_Bool (is_word one other)) [
  | inl is ↦ inl (word-same one other is)
  | inr apart ↦ inr (word-apart one other apart)
]

pub barrier-same : (one other : Barrier) → is_barrier one other ≡ true → one ≡ other
barrier-same one other is =
    let parts = and_parts (one.number == other.number && is_word one.name other.name) (is_word one.machine other.machine) is in
    let first = and_parts (one.number == other.number) (is_word one.name other.name) parts.0 in
    λ i. record {
      number = eqb-true one.number other.number first.0 i;
      name = word-same one.name other.name first.1 i;
      machine = word-same one.machine other.machine parts.1 i;
    }
