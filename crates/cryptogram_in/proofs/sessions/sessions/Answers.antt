-- The two blocks of each session key.
use Rattle.std.proofs.Common.{◌≡◌, ℕ, List, [], ◌++◌, ◌<◌, map, length, get_or, replicate, slice_set, ap, ap₂, ◌∙◌, arith}
use Rattle.std.proofs.lemmas.List.{length-map, get_or-map}
use Rattle.des_block.specs.Cipher.{tdes_encipher}
use Rattle.des_lanes.specs.Lanes.{key_in}
use Rattle.key_derive.specs.SessionKey.{counter_bytes, session_key, session_ac}
use Rattle.cryptogram_in.proofs.sessions.sessions.Goals as goal

pub returns : goal.returns
unfolding key_in session_ac session_key
returns c = λ lane h.
    let counters : List ℕ = c.args.counters.now in
    let value : ℕ → ℕ → List ℕ = λ third atc. slice_set (counter_bytes atc ++ replicate 6 0) 2 third in
    let within : lane < length counters = omega (arith, c.requires.paired) in
    let at : (third : ℕ) (blocks : List (List ℕ)) → blocks ≡ map (value third) counters → get_or blocks lane [] ≡ value third (get_or counters lane 0) =
    λ third blocks e. ap (λ vs. get_or vs lane []) e ∙ get_or-map (value third) counters lane 0 [] within in
    let long : (third : ℕ) (blocks : List (List ℕ)) → blocks ≡ map (value third) counters → lane < length blocks =
    λ third blocks e. omega (arith, ap length e, length-map counters (value third)) in
    let left = c.as_slice.ensures.value ∙ c.values.ensures in
    let right = c.as_slice-2.ensures.value ∙ c.values-2.ensures in
    ap₂ (λ x y. x ++ y)
    (c.encipher.ensures lane ∙ ap₂ tdes_encipher (c.new-master.ensures lane h) (c.new-left.ensures lane (long 0xF0 _ left) ∙ at 0xF0 _ left))
    (c.encipher-2.ensures lane ∙ ap₂ tdes_encipher (c.new-master.ensures lane h) (c.new-right.ensures lane (long 0x0F _ right) ∙ at 0x0F _ right))
