-- The data are R and the enciphered block, so the command is a PIN change to this PIN.
use Rattle.std.proofs.Common.{◌≡◌, ◌++◌, length, refl, ap, ◌∙◌, arith, List, ℕ}
use Rattle.issuer_base.specs.ScriptCommand.{is_command}
use Rattle.retail_mac.specs.Mac.{cbc}
use Rattle.retail_mac.proofs.Blocks.{length-padded}
use Rattle.secure_msg.specs.PinChange.{pin_body}
use Rattle.secure_msg.proofs.PinBlocks.{length-pin, length-pin_block}
use Rattle.secure_msg.proofs.PinChanges.{ok-unless_err, length-enciphered, body-written}
use Rattle.secure_msg.proofs.pin_change.pin_command.Goals as goal
use Rattle.secure_msg.proofs.pin_change.pin_command.Goals.{After-unwrap-3}

pub unwrap-requires : goal.unwrap-requires
unwrap-requires c =
    let few = length-pin c.args.pin.now c.pin_block.ensures.valid in
    let eight : length c.pin_block.result ≡ 8 = ap length c.pin_block.ensures.exact ∙ length-pin_block c.args.pin.now (omega (arith, few.1)) in
    ok-unless_err c.cbc_encipher.result (λ err. absurd (omega (
      arith,
      c.cbc_encipher.ensures.full.0 err,
      length-padded c.pin_block.result,
      eight,
      ap length c.new-enciphered.ensures,
    )))

pub unwrap-requires-3 : goal.unwrap-requires-3
unwrap-requires-3 c =
    let out = rw c.unwrap.ensures at c.cbc_encipher.ensures.appended in
    let front = rw c.unwrap-2.ensures at c.try_extend_from_slice.ensures.ok in
    let long : length (cbc c.session_sm-key.result.0 c.pin_block.result) ≡ 16 =
    ap (λ b. length (cbc c.session_sm-key.result.0 b)) c.pin_block.ensures.exact
    ∙ length-enciphered c.session_sm-key.result.0 c.args.pin.now c.pin_block.ensures.valid in
    c.try_extend_from_slice-2.ensures.variant.1 (omega (
      arith,
      ap length c.as_slice.ensures.value,
      ap length (out ∙ ap (λ o. o ++ cbc c.session_sm-key.result.0 c.pin_block.result) c.new-enciphered.ensures),
      long,
      ap length (front ∙ ap (λ o. o ++ c.args.r) c.new-body.ensures),
    ))

-- the data of the command
body_is : (c : After-unwrap-3) → c.try_extend_from_slice-2.new.self.items ≡ pin_body c.args.smc.now.0 c.args.r c.args.pin.now
body_is c =
    let out = rw c.unwrap.ensures at c.cbc_encipher.ensures.appended in
    let front = rw c.unwrap-2.ensures at c.try_extend_from_slice.ensures.ok in
    let body = rw c.unwrap-3.ensures at c.try_extend_from_slice-2.ensures.ok in
    body-written c.args.smc.now.0 c.args.r c.args.pin.now c.session_sm-key.result.0 c.pin_block.result c.as_slice.result.now
    c.try_extend_from_slice.new.self.items c.try_extend_from_slice-2.new.self.items c.session_sm-key.ensures c.pin_block.ensures.exact
    (c.as_slice.ensures.value ∙ out ∙ ap (λ o. o ++ cbc c.session_sm-key.result.0 c.pin_block.result) c.new-enciphered.ensures)
    (front ∙ ap (λ o. o ++ c.args.r) c.new-body.ensures) body

pub returns-clause-sets : goal.returns-clause-sets
returns-clause-sets c = record {
  valid = c.pin_block.ensures.valid;
  r = c.args.r;
  eight = omega arith;
  instruction = refl;
  first_parameter = refl;
  second_parameter = refl;
  body_is = body_is c;
}

pub returns-clause-exact : goal.returns-clause-exact
returns-clause-exact c =
    ap (λ (items : List ℕ). record { cla = 0x84; ins = 0x24; p1 = 0x00; p2 = 0x02; body = record { items = items } }) (body_is c)

pub returns-clause-sendable : goal.returns-clause-sendable
unfolding is_command
returns-clause-sendable c = refl
