-- Fault counts: how a device outside the host reports that a fault was its own.
use Rattle.std.specs.Prelude.{◌≡◌, ℕ, ◌-◌, ◌^◌, ◌<◌, ◌≤◌, ◌⊎◌, Bool, MatchBool}

-- the fault count increased: the new one is greater than the old one, or saturated
abbrev pub Rose : ℕ → ℕ → Type 0
Rose old new = (old < new) ⊎ (new ≡ 2 ^ 64 - 1)

-- how calls change a fault count: it never falls, stays below 2^64, increased if one failed, and else is the same
pub record CountsFaults (old new : ℕ) (failed : Bool) : Type 0 where
  pub below : old < 2 ^ 64 → new < 2 ^ 64
  pub never_falls : old ≤ new
  pub counted : MatchBool failed (Rose old new) (new ≡ old)
