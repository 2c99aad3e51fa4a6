-- The values so far, and those of the ATCs after them.
use Rattle.std.proofs.Common.{◌≡◌, ◌++◌, map, drop, replicate, slice_set}
use Rattle.arrayvec.specs.ArrayVec.{array_vec_len}
use Rattle.key_derive.specs.SessionKey.{counter_bytes}
use Rattle.cryptogram_in.proofs.sessions.values.Given as goal

abbrev pub invariant-loop-counter : goal.invariant-loop-counter
invariant-loop-counter l = record {
  so_far : l.values.items ++ map (λ atc. slice_set (counter_bytes atc ++ replicate 6 0) 2 l.third) (drop l.counter-index l.counters) ≡ map (λ atc. slice_set (counter_bytes atc ++ replicate 6 0) 2 l.third) l.counters;
  len : array_vec_len l.values ≡ l.counter-index;
}
