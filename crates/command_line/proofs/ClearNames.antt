-- The words of the command to check clearing lines are no other command, and have one name each.
use Rattle.std.proofs.Common.{◌≡◌, ℕ, List, Option, None, Some, sym, ◌∙◌}
use Rattle.command_line.specs.declared.words.Command.TheVariants.{Serve, Show, World, Fill, Pin, Clear}
use Rattle.command_line.specs.Command.{RequestFile, PinOrder, IsClear, IsCommand, IsWorld, IsFill, IsPin}
use Rattle.command_line.proofs.CommandWords.{asks-words, clear-gives, one-command}

module _ (words : List (List ℕ)) (config clearing journal : List ℕ) (clear : IsClear words config clearing journal) where
  pub clear-no_command : (other : List ℕ) (requests : Option RequestFile) (prefix : List ℕ)
      → IsCommand words other requests prefix → ⊥
  clear-no_command other None prefix show =
      let same : Clear ≡ Show = one-command words Clear Show (asks-words words Clear (config, clearing, journal, clear))
      (asks-words words Show (other, prefix, show)) in
      absurd (cc)
  clear-no_command other (Some requests) prefix serve =
      let same : Clear ≡ Serve = one-command words Clear Serve (asks-words words Clear (config, clearing, journal, clear))
      (asks-words words Serve (other, requests, prefix, serve)) in
      absurd (cc)

  pub clear-no_world : (cards steps seed : ℕ) → IsWorld words cards steps seed → ⊥
  clear-no_world cards steps seed world =
      let same : Clear ≡ World = one-command words Clear World (asks-words words Clear (config, clearing, journal, clear))
      (asks-words words World (cards, steps, seed, world)) in
      absurd (cc)

  pub clear-no_fill : (dol given : List ℕ) → IsFill words dol given → ⊥
  clear-no_fill dol given fill =
      let same : Clear ≡ Fill = one-command words Clear Fill (asks-words words Clear (config, clearing, journal, clear))
      (asks-words words Fill (dol, given, fill)) in
      absurd (cc)

  pub clear-no_pin : (order : PinOrder) → IsPin words order → ⊥
  clear-no_pin order pin =
      let same : Clear ≡ Pin = one-command words Clear Pin (asks-words words Clear (config, clearing, journal, clear))
      (asks-words words Pin (order, pin)) in
      absurd (cc)

-- the command has one name for each option
pub record AreSameNames (config other_config clearing other_clearing journal other_journal : List ℕ) : Type 0 where
  pub config_is : config ≡ other_config
  pub clearing_is : clearing ≡ other_clearing
  pub journal_is : journal ≡ other_journal

one-value : (value : Option (List ℕ)) (x y : List ℕ) → value ≡ Some x → value ≡ Some y → x ≡ y
one-value value x y one two = let e : Some x ≡ Some y = sym one ∙ two in cc

pub one-clear : (words : List (List ℕ)) (config clearing journal other_config other_clearing other_journal : List ℕ)
    → IsClear words config clearing journal → IsClear words other_config other_clearing other_journal
    → AreSameNames config other_config clearing other_clearing journal other_journal
one-clear words config clearing journal other_config other_clearing other_journal clear other =
    let one = clear-gives words config clearing journal clear in
    let two = clear-gives words other_config other_clearing other_journal other in
    record {
      config_is = one-value _ config other_config one.config_is two.config_is;
      clearing_is = one-value _ clearing other_clearing one.clearing_is two.clearing_is;
      journal_is = one-value _ journal other_journal one.journal_is two.journal_is;
    }
