-- When a list is a prefix of another.
use Rattle.std.specs.Prelude.{◌≡◌, List, ◌++◌}

-- the whole list is the prefix and then the remainder
pub record IsPrefix {A : Type 0} (first whole : List A) : Type 0 where
  pub remainder : List A
  pub is : first ++ remainder ≡ whole
