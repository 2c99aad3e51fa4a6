-- The name of a card.
use Rattle.std.specs.Prelude.{ℕ, List}

-- a card is named by its primary account number and its sequence number: EMV 4.3 Book 3 Annex A, tags 5A and 5F34
pub record CardName : Type 0 where
  pub pan : List ℕ
  pub psn : ℕ

-- the card with these numbers
abbrev pub named : List ℕ → ℕ → CardName
named pan psn = record { pan = pan; psn = psn }
