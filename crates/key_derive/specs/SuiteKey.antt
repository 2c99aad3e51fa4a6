-- A key and its suite.
use Rattle.std.specs.Prelude.{ℕ, List}
use Rattle.issuer_base.specs.declared.request.Suite.{Suite}

-- a key of sixteen bytes and the suite that it is for
pub record SuiteKey : Type 0 where
  pub suite : Suite
  pub key : List ℕ
