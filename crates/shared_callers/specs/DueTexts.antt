-- The texts of a caller's answers that are due.
use Rattle.std.specs.Prelude.{◌≡◌, ℕ, List, ◌∷◌, ◌++◌}

-- the texts, in their order, how many slots are used for them and for those that were removed, and how many there are
pub record DueTexts : Type 0 where
  pub texts : List (List ℕ)
  pub used : ℕ
  pub room : ℕ

-- the first text was removed, and appended to this text of a block
pub record MovesFirst (old new : DueTexts) (block_was block_is : List ℕ) : Type 0 where
  pub text : List ℕ
  pub first : old.texts ≡ text ∷ new.texts
  pub appended : block_is ≡ block_was ++ text
  pub same_room : new.room ≡ old.room
