-- A text opens exactly if it deciphers to a padded message, and then that is the one that was enciphered.
use Rattle.std.proofs.Common.{◌≡◌, ◌+◌, ◌-◌, ◌/◌, ◌%◌, ℕ, List, length, take, None, Some, refl, sym, ap, ◌∙◌, ◌++◌, arith, length-take}
use Rattle.std.proofs.lemmas.Bool.{false≢true}
use Rattle.retail_mac.specs.Mac.{blocks, padded, zero_block}
use Rattle.retail_mac.specs.Opening.{AreBytes, cbc_back, IsEnciphered}
use Rattle.retail_mac.proofs.CbcBack.{opened_right, opened_whole, length-opened, whole_blocks}
use Rattle.retail_mac.proofs.Padding.{padded_once}
use Rattle.retail_mac.proofs.opening.cbc_open.Goals as goal

pub returns-then-text-ne0-clause-exact : goal.returns-then-text-ne0-clause-exact
returns-then-text-ne0-clause-exact c =
    (λ t. absurd (false≢true t), λ h. absurd (c.if-text-ne0.true (whole_blocks c.args.key.now.0 h.0 c.args.text.now h.1)))

pub returns-then-text-ne0-clause-appended : goal.returns-then-text-ne0-clause-appended
returns-then-text-ne0-clause-appended c = λ message is.
    absurd (c.if-text-ne0.true (whole_blocks c.args.key.now.0 message c.args.text.now is))

pub unpadded_len-requires : goal.unpadded_len-requires
unpadded_len-requires c =
    let plain = c.deciphered-plain.ensures c.args.key.now.0 c.new.ensures in
    omega (
      arith,
      ap length c.as_slice.ensures.value,
      c.if-text-ne0.false,
      length-opened c.args.key.now.0 c.args.text.now c.deciphered-plain.result.items (λ i. omega (arith, c.type_inv.text i)) (omega arith) plain,
    )

pub returns-in_default-clause-exact : goal.returns-in_default-clause-exact
returns-in_default-clause-exact c =
    let plain = c.deciphered-plain.ensures c.args.key.now.0 c.new.ensures in (
      λ t. absurd (false≢true t),
      λ h. absurd (let e : None ≡ Some (length h.0) = c.in_default.ensures.found h.0 (c.as_slice.ensures.value ∙ opened_whole c.args.key.now.0 h.0
          c.args.text.now c.deciphered-plain.result.items h.1 plain) in cc),
    )

pub returns-in_default-clause-appended : goal.returns-in_default-clause-appended
returns-in_default-clause-appended c = λ message is. absurd (false≢true ((returns-in_default-clause-exact c).1 (message, is)))

pub unwrap-requires : goal.unwrap-requires
unwrap-requires c =
    let plain = c.deciphered-plain.ensures c.args.key.now.0 c.new.ensures in
    c.try_extend_from_slice.ensures.variant.1 (omega (
      arith,
      c.requires,
      c.in-Some.ensures.within,
      ap length c.as_slice.ensures.value,
      ap length c.as_slice-2.ensures.value,
      length-take {A = ℕ},
      length-opened c.args.key.now.0 c.args.text.now c.deciphered-plain.result.items (λ i. omega (arith, c.type_inv.text i)) (omega arith) plain,
    ))

pub returns-clause-exact : goal.returns-clause-exact
returns-clause-exact c =
    let plain = c.deciphered-plain.ensures c.args.key.now.0 c.new.ensures in
    let text : List ℕ = c.args.text.now in (
      λ t. (
        take c.in-Some.len c.deciphered-plain.result.items,
        opened_right c.args.key.now.0 text c.deciphered-plain.result.items c.in-Some.len (λ i. omega (arith, c.type_inv.text i)) (omega arith) plain
            (sym c.as_slice.ensures.value ∙ c.in-Some.ensures.padded ∙ ap (λ p. padded (take c.in-Some.len p)) c.as_slice.ensures.value),
      ),
      λ h. refl,
    )

pub returns-clause-appended : goal.returns-clause-appended
returns-clause-appended c = λ message is.
    let plain = c.deciphered-plain.ensures c.args.key.now.0 c.new.ensures in
    let ok = rw c.unwrap.ensures at c.try_extend_from_slice.ensures.ok in
    let same : take c.in-Some.len c.deciphered-plain.result.items ≡ message =
    padded_once (take c.in-Some.len c.deciphered-plain.result.items) message
    (sym (sym c.as_slice.ensures.value ∙ c.in-Some.ensures.padded ∙ ap (λ p. padded (take c.in-Some.len p)) c.as_slice.ensures.value)
    ∙ opened_whole c.args.key.now.0 message c.args.text.now c.deciphered-plain.result.items is plain) in
    ok ∙ ap (λ p. c.args.out.now.items ++ p) (ap (take c.in-Some.len) c.as_slice-2.ensures.value ∙ same)
