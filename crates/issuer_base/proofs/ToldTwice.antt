-- Laws of what is observable before and after a call, or neither time: how its facts carry over.
use Rattle.std.proofs.Common.{Option, None, Some, IfSome}
use Rattle.issuer_base.specs.Stores.{BothTold}

module _ {T : Type 0} where
  -- less is said
  pub BothTold-weaker : (R Q : T → T → Type 0) (old new : Option T) → ((a b : T) → R a b → Q a b) → BothTold R old new → BothTold Q old new
  BothTold-weaker R Q None None weaker told = tt
  BothTold-weaker R Q None (Some b) weaker told = absurd told
  BothTold-weaker R Q (Some a) None weaker told = absurd told
  BothTold-weaker R Q (Some a) (Some b) weaker told = weaker a b told

  -- with what is known of the first
  pub BothTold-given : (K : T → Type 0) (R Q : T → T → Type 0) (old new : Option T) → ((a b : T) → K a → R a b → Q a b) → IfSome old K
      → BothTold R old new → BothTold Q old new
  BothTold-given K R Q None None given known told = tt
  BothTold-given K R Q None (Some b) given known told = absurd told
  BothTold-given K R Q (Some a) None given known told = absurd told
  BothTold-given K R Q (Some a) (Some b) given known told = given a b known told

  -- what is known of the second
  pub BothTold-second : (K : T → Type 0) (R : T → T → Type 0) (old new : Option T) → ((a b : T) → R a b → K b) → BothTold R old new → IfSome new K
  BothTold-second K R None None known told = tt
  BothTold-second K R None (Some b) known told = absurd told
  BothTold-second K R (Some a) None known told = absurd told
  BothTold-second K R (Some a) (Some b) known told = known a b told

  -- calls, and then more calls
  pub BothTold-then : (P Q R : T → T → Type 0) (first second third : Option T) → ((a b c : T) → P a b → Q b c → R a c)
      → BothTold P first second → BothTold Q second third → BothTold R first third
  BothTold-then P Q R None None None joined p q = tt
  BothTold-then P Q R None None (Some c) joined p q = absurd q
  BothTold-then P Q R None (Some b) third joined p q = absurd p
  BothTold-then P Q R (Some a) None third joined p q = absurd p
  BothTold-then P Q R (Some a) (Some b) None joined p q = absurd q
  BothTold-then P Q R (Some a) (Some b) (Some c) joined p q = joined a b c p q
