-- The words of the commands to export journals and to take a feed are no other command, and have one name each.
use Rattle.std.proofs.Common.{◌≡◌, ℕ, List, Option, None, Some, sym, ◌∙◌}
use Rattle.command_line.specs.declared.words.Command.{Command}
use Rattle.command_line.specs.declared.words.Command.TheVariants.{Serve, Show, World, Fill, Pin, Clear, Export, Standby}
use Rattle.command_line.specs.Command.{RequestFile, PinOrder, IsClear, IsCommand, IsWorld, IsFill, IsPin, IsExport}
use Rattle.command_line.specs.Command.{IsStandby}
use Rattle.command_line.specs.Pairs.{Asks}
use Rattle.command_line.proofs.CommandWords.{export-gives, one-asked, standby-gives}

module _ (words : List (List ℕ)) (config journal : List ℕ) (export : IsExport words config journal) where
  asks-export : (other : Command) → Asks other words → Export ≡ other
  asks-export other asks = one-asked words Export other (config, journal, export) asks

  pub export-no_command : (other : List ℕ) (requests : Option RequestFile) (prefix : List ℕ)
      → IsCommand words other requests prefix → ⊥
  export-no_command other None prefix show = let same = asks-export Show (other, prefix, show) in absurd (cc)
  export-no_command other (Some requests) prefix serve =
      let same = asks-export Serve (other, requests, prefix, serve) in absurd (cc)

  pub export-no_world : (cards steps seed : ℕ) → IsWorld words cards steps seed → ⊥
  export-no_world cards steps seed world = let same = asks-export World (cards, steps, seed, world) in absurd (cc)

  pub export-no_fill : (dol given : List ℕ) → IsFill words dol given → ⊥
  export-no_fill dol given fill = let same = asks-export Fill (dol, given, fill) in absurd (cc)

  pub export-no_pin : (order : PinOrder) → IsPin words order → ⊥
  export-no_pin order pin = let same = asks-export Pin (order, pin) in absurd (cc)

  pub export-no_clear : (other clearing prefix : List ℕ) → IsClear words other clearing prefix → ⊥
  export-no_clear other clearing prefix clear =
      let same = asks-export Clear (other, clearing, prefix, clear) in absurd (cc)

module _ (words : List (List ℕ)) (config feed journal : List ℕ) (standby : IsStandby words config feed journal) where
  asks-standby : (other : Command) → Asks other words → Standby ≡ other
  asks-standby other asks = one-asked words Standby other (config, feed, journal, standby) asks

  pub standby-no_command : (other : List ℕ) (requests : Option RequestFile) (prefix : List ℕ)
      → IsCommand words other requests prefix → ⊥
  standby-no_command other None prefix show = let same = asks-standby Show (other, prefix, show) in absurd (cc)
  standby-no_command other (Some requests) prefix serve =
      let same = asks-standby Serve (other, requests, prefix, serve) in absurd (cc)

  pub standby-no_world : (cards steps seed : ℕ) → IsWorld words cards steps seed → ⊥
  standby-no_world cards steps seed world = let same = asks-standby World (cards, steps, seed, world) in absurd (cc)

  pub standby-no_fill : (dol given : List ℕ) → IsFill words dol given → ⊥
  standby-no_fill dol given fill = let same = asks-standby Fill (dol, given, fill) in absurd (cc)

  pub standby-no_pin : (order : PinOrder) → IsPin words order → ⊥
  standby-no_pin order pin = let same = asks-standby Pin (order, pin) in absurd (cc)

  pub standby-no_clear : (other clearing prefix : List ℕ) → IsClear words other clearing prefix → ⊥
  standby-no_clear other clearing prefix clear =
      let same = asks-standby Clear (other, clearing, prefix, clear) in absurd (cc)

  pub standby-no_export : (other prefix : List ℕ) → IsExport words other prefix → ⊥
  standby-no_export other prefix export = let same = asks-standby Export (other, prefix, export) in absurd (cc)

-- the commands have one name for each option
pub record AreSameExport (config other_config journal other_journal : List ℕ) : Type 0 where
  pub config_is : config ≡ other_config
  pub journal_is : journal ≡ other_journal

pub record AreSameStandby (config other_config feed other_feed journal other_journal : List ℕ) : Type 0 where
  pub config_is : config ≡ other_config
  pub feed_is : feed ≡ other_feed
  pub journal_is : journal ≡ other_journal

one-value : (value : Option (List ℕ)) (x y : List ℕ) → value ≡ Some x → value ≡ Some y → x ≡ y
one-value value x y one two = let e : Some x ≡ Some y = sym one ∙ two in cc

pub one-export : (words : List (List ℕ)) (config journal other_config other_journal : List ℕ)
    → IsExport words config journal → IsExport words other_config other_journal
    → AreSameExport config other_config journal other_journal
one-export words config journal other_config other_journal export other =
    let one = export-gives words config journal export in
    let two = export-gives words other_config other_journal other in
    record {
      config_is = one-value _ config other_config one.config_is two.config_is;
      journal_is = one-value _ journal other_journal one.journal_is two.journal_is;
    }

pub one-standby : (words : List (List ℕ)) (config feed journal other_config other_feed other_journal : List ℕ)
    → IsStandby words config feed journal → IsStandby words other_config other_feed other_journal
    → AreSameStandby config other_config feed other_feed journal other_journal
one-standby words config feed journal other_config other_feed other_journal standby other =
    let one = standby-gives words config feed journal standby in
    let two = standby-gives words other_config other_feed other_journal other in
    record {
      config_is = one-value _ config other_config one.config_is two.config_is;
      feed_is = one-value _ feed other_feed one.feed_is two.feed_is;
      journal_is = one-value _ journal other_journal one.journal_is two.journal_is;
    }
