-- What a run is set up with: its own issuer, the issuer's cards, what its terminals give, and the lines that queue
-- commands.
use Rattle.std.specs.Prelude.{ℕ, ◌+◌, ◌/◌, ◌%◌, ◌^◌, ◌==◌, Bool, false, true, if◌then◌else◌, List, [], ◌∷◌, ◌++◌, map}
use Rattle.std.specs.Prelude.{replicate, codes, None}
use Rattle.std.specs.Int.{w32, to_be_bytes}
use Rattle.std.specs.List.{range_with_len}
use Rattle.hex.specs.Hex.{encode_lower}
use Rattle.issuer_base.specs.ChipData.{digits_of}
use Rattle.issuer_base.specs.declared.answer.MasterOption.TheVariants.{A}
use Rattle.issuer_base.specs.declared.answer.Method.TheVariants.{One, Two}
use Rattle.decision_table.specs.declared.row.TableRow.{TableRow}
use Rattle.key_derive.specs.declared.card.KeySet.{KeySet}
use Rattle.issuer_setup.specs.declared.card.CardInfo.{CardInfo}
use Rattle.issuer_setup.specs.IssuerSetup.{Setup}
use Rattle.chip_request.specs.Lines.{spaced, digits_text}
use Rattle.card_model.specs.declared.terminal.Terminal.{Terminal}
use Rattle.world_play.specs.declared.setting.Step.{Step}

-- the only key set: index 1, option A, the bytes 00 to 0F for application cryptograms and 10 to 1F for secure messaging
abbrev pub key_set : KeySet
key_set = record {
  dki = 1;
  option = A;
  ac = record { 0 = range_with_len 0x00 16 };
  smi = record { 0 = range_with_len 0x10 16 };
  aes = None;
  smc = None;
}

-- a row for every terminal, card and status, for amounts from this one on
abbrev pub row_from : ℕ → List ℕ → Bool → List ℕ → TableRow
row_from least arc approve csu = record {
  tvr_mask = replicate 5 0;
  tvr_value = replicate 5 0;
  cvr_mask = replicate 5 0;
  cvr_value = replicate 5 0;
  least = least;
  most = 999999999999;
  status = None;
  arc = arc;
  approve = approve;
  csu = csu;
}

-- amounts from 5,000.00 on are declined, all others approved
abbrev pub table : List TableRow
table =
    row_from 500000 (0x30 ∷ 0x35 ∷ []) false (replicate 4 0)
    ∷ row_from 0 (0x30 ∷ 0x30 ∷ []) true (0x00 ∷ 0x80 ∷ 0x00 ∷ 0x00 ∷ [])
    ∷ []

-- the last six digits of a number
abbrev pub six_digits : ℕ → List ℕ
six_digits n = n / 100000 % 10 ∷ n / 10000 % 10 ∷ n / 1000 % 10 ∷ n / 100 % 10 ∷ n / 10 % 10 ∷ n % 10 ∷ []

-- the card with this number: account number 4000000000 and the number in six digits, sequence number 00, method 1 where
-- the number is even
abbrev pub card_info : ℕ → CardInfo
card_info number = record {
  pan = 4 ∷ replicate 9 0 ++ six_digits number;
  psn = 0;
  method = if number % 2 == 0 then One else Two;
}

-- the issuer of so many cards, which has four shards
abbrev pub issuer : ℕ → Setup
issuer cards = record { shards = 4; keys = key_set ∷ []; cards = map card_info (range_with_len 0 cards); table = table }

-- the step with this number: its card, and the round in which it is that card's turn
abbrev pub step_of : ℕ → ℕ → ℕ → Step
step_of index cards seed = record { index = index; card = index % cards; round = index / cards; seed = seed }

-- what the terminal of a step gives: the amount is 10.00 in even rounds and 9,000.00 in odd ones
abbrev pub terminal_of : Step → Terminal
terminal_of step = record {
  tvr = 0x00 ∷ 0x00 ∷ 0x00 ∷ 0x80 ∷ 0x00 ∷ [];
  date = 0x26 ∷ 0x01 ∷ 0x15 ∷ [];
  kind = 0x00;
  amount =
      if step.round % 2 == 0 then 0x00 ∷ 0x00 ∷ 0x00 ∷ 0x00 ∷ 0x10 ∷ 0x00 ∷ []
      else 0x00 ∷ 0x00 ∷ 0x00 ∷ 0x90 ∷ 0x00 ∷ 0x00 ∷ [];
  other = replicate 6 0;
  country = 0x02 ∷ 0x76 ∷ [];
  currency = 0x09 ∷ 0x78 ∷ [];
  un = to_be_bytes w32 ((step.seed + step.index) % 2 ^ 32);
}

-- command number `number` that is queued at a step: put data, of the step's number in four bytes
abbrev pub queued_bytes : Step → ℕ → List ℕ
queued_bytes step number = 0x04 ∷ 0xDA ∷ 0x00 ∷ number ∷ to_be_bytes w32 step.index

-- the line that queues it for the step's card
abbrev pub queue_line : Step → ℕ → List ℕ
queue_line step number =
    let card = card_info step.card in
    spaced (codes "Q" ∷ digits_text card.pan ∷ digits_text (digits_of card.psn)
    ∷ encode_lower (queued_bytes step number) ∷ [])
