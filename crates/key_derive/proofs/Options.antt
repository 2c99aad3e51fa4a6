-- Option B by the number of digits of the account number.
use Rattle.std.proofs.Common.{◌≡◌, ℕ, ◌<◌, ◌≤◌, List, length, if◌then◌else◌, ap, le-leb}
use Rattle.std.proofs.lemmas.Bool.{lt-leb}
use Rattle.sha1.specs.Sha1.{sha1}
use Rattle.key_derive.specs.Digits.{packed, card_digits, evened, decimal16}
use Rattle.key_derive.specs.MasterKey.{diversified, option_a, option_b}

-- for at most sixteen digits the two options give the same key
pub option_b-short : (imk pan : List ℕ) (psn : ℕ) → length pan ≤ 16 → option_b imk pan psn ≡ option_a imk pan psn
unfolding option_b
option_b-short imk pan psn short = ap (λ is_short. if is_short then option_a imk pan psn else diversified imk (decimal16 (sha1 (packed (evened
    (card_digits pan psn)))))) (le-leb (length pan) 16 short)

-- for more, the digits are hashed
pub option_b-long : (imk pan : List ℕ) (psn : ℕ) → 16 < length pan → option_b imk pan psn
    ≡ diversified imk (decimal16 (sha1 (packed (evened (card_digits pan psn)))))
unfolding option_b
option_b-long imk pan psn long = ap (λ is_short. if is_short then option_a imk pan psn else diversified imk (decimal16 (sha1 (packed (evened
    (card_digits pan psn)))))) (lt-leb (length pan) 16 long)
