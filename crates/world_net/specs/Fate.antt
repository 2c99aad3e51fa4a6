-- The fates of the steps of a large run, which visits all cards in rounds.
use Rattle.std.specs.Prelude.{ℕ, ◌+◌, ◌/◌, ◌%◌}

-- the fate of a step: its round, the number of its card and the seed, modulo 8
abbrev pub fate_of : ℕ → ℕ → ℕ → ℕ
fate_of index cards seed = (index / cards + index % cards + seed) % 8
