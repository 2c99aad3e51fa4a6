-- One more sealed command is appended, and its MAC is the next chain.
use Rattle.std.proofs.Common.{◌≡◌, ◌+◌, ℕ, List, ◌∷◌, length, drop, sum_by, ap, ◌∙◌, sym, arith, length-append}
use Rattle.std.proofs.lemmas.List.{drop_more}
use Rattle.std.proofs.lemmas.List.Sums.{sum_by-cons}
use Rattle.issuer_base.specs.declared.command.Command.{Command}
use Rattle.tlv_objects.specs.Writing.{object_text}
use Rattle.issuer_base.specs.ScriptTemplate.{sealed_size}
use Rattle.secure_msg.proofs.Batches.{batch_objects, Writes-more, Writes-all, object-86}
use Rattle.secure_msg.proofs.batch.write_sealed.Goals as goal

pub loop-command-preserved : goal.loop-command-preserved
loop-command-preserved c =
    let commands : List Command = c.args.commands.now in
    let i : ℕ = c.loop-command.command-index in
    let command : Command = c.command-item.result in
    let sealed : List ℕ = c.as_slice.result.now in
    let left : drop i commands ≡ command ∷ drop (i + 1) commands =
    drop_more commands i command (omega arith) ∙ ap (λ first. first ∷ drop (i + 1) commands) (sym c.command-item.is) in
    let size : length sealed ≡ 13 + length command.body.items = ap length c.as_slice.ensures.value ∙ c.seal_in-sealed.ensures.len in
    let object : length (object_text 0x86 sealed) ≡ 2 + length sealed = ap length (object-86 sealed (omega arith)) ∙ omega arith in
    let rest : sum_by sealed_size (drop i commands) ≡ sealed_size command + sum_by sealed_size (drop (i + 1) commands) =
    ap (sum_by sealed_size) left ∙ sum_by-cons sealed_size command (drop (i + 1) commands) in
    record {
      len = omega (arith, ap length c.write.ensures, length-append c.loop-command.value.items (object_text 0x86 sealed), c.loop-command.invariant.len);
      again = λ suite key is. c.seal_in-sealed.ensures.again suite key (c.loop-command.invariant.again suite key is);
      writes = λ suite key is.
          let run = c.loop-command.invariant.again suite key is in
          Writes-more suite key _ _ commands i _ _ command sealed _ _ (c.loop-command.invariant.writes suite key is) left
          (c.as_slice.ensures.value ∙ c.seal_in-sealed.ensures.sealed suite key run) (c.seal_in-sealed.ensures.next suite key run) c.write.ensures;
    }

pub returns-clause-written : goal.returns-clause-written
unfolding batch_objects
returns-clause-written c = λ suite key is.
    (Writes-all suite key _ _ c.args.commands.now c.loop-command.command-index _ _ (c.loop-command.invariant.writes suite key is) c.loop-command-test.false).0
