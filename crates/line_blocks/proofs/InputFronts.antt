-- What an input had, by what was read of it and what it has left.
use Rattle.std.proofs.Common.{ℕ, List, [], ◌++◌, Option, None, Some, refl}
use Rattle.std.specs.Io.KnownBytes.{Consumes}
use Rattle.issuer_base.specs.Tells.{Tells}

-- what was read of an input is a front of what it had, and the rest is what it has left
pub record IsFrontOf (was now : Option (List ℕ)) (read : List ℕ) : Type 0 where
  pub rest : List ℕ
  pub content : Tells was (read ++ rest)
  pub left : Tells now rest

pub front-read : (was now : Option (List ℕ)) (read : List ℕ) → Consumes was now read → IsFrontOf was now read
front-read None None read consumed = record { rest = []; content = tt; left = tt }
front-read None (Some rest) read consumed = record { rest = rest; content = tt; left = refl }
front-read (Some file) None read consumed = absurd consumed
front-read (Some file) (Some rest) read consumed = record { rest = rest; content = consumed; left = refl }
