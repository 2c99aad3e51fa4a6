-- A MAC of a suite over a text, computed incrementally.
use Rattle.std.specs.Prelude.{ℕ, List}
use Rattle.issuer_base.specs.declared.request.Suite.{Suite}
use Rattle.issuer_base.specs.declared.request.Suite.TheVariants.{TripleDes, Aes}
use Rattle.retail_mac.specs.Run.{IsRun as IsRetailRun}
use Rattle.aes_cipher.specs.Run.{IsRun as IsCmacRun}
use Rattle.key_derive.specs.declared.run.SuiteRun.{SuiteRun}
use Rattle.key_derive.specs.declared.run.SuiteRun.TheVariants.{TripleDes as TripleDesRun, Aes as AesRun}

-- the run has this key of this suite, and this text so far
abbrev pub IsRun : SuiteRun → Suite → List ℕ → List ℕ → Type 0
IsRun (TripleDesRun run) TripleDes key text = IsRetailRun run key text
IsRun (AesRun run) Aes key text = IsCmacRun run key text
IsRun _ _ key text = ⊥
