-- The batch's number, the front commands and then the back ones, all in one chain, are the template's value.
use Rattle.std.proofs.Common.{◌≡◌, ℕ, List, ◌++◌, fold, ap, ap₂, ◌∙◌, sym, append_assoc}
use Rattle.std.specs.Int.{w32, to_be_bytes}
use Rattle.issuer_base.specs.declared.request.Suite.{Suite}
use Rattle.tlv_objects.specs.Writing.{object_text}
use Rattle.secure_msg.specs.Sealing.{command_mac}
use Rattle.secure_msg.specs.Batch.{template_bytes}
use Rattle.secure_msg.proofs.Batches.{batch_objects, batch_objects-append}
use Rattle.secure_msg.proofs.batch.template_of.Goals as goal

pub returns : goal.returns
unfolding template_bytes batch_objects
returns c =
    let suite : Suite = c.args.suite in
    let key : List ℕ = c.args.key.now.0 in
    let ac : List ℕ = c.args.ac.now in
    let front = c.args.front.now in
    let back = c.args.back.now in
    let number : List ℕ = object_text 0x9F18 (to_be_bytes w32 c.args.first) in
    let identified : c.write.new.bytes.items ≡ number =
    c.write.ensures ∙ ap₂ (λ before first. before ++ object_text 0x9F18 first) c.new-value.ensures c.to_be_bytes.ensures in
    let first_part : c.write_sealed-chain.new.value.items ≡ number ++ batch_objects suite key ac front =
    c.write_sealed-chain.ensures.written suite key c.new-run.ensures ∙ ap (λ before. before ++ batch_objects suite key ac front) identified in
    let chain : c.write_sealed-chain.result ≡ fold (command_mac suite key) ac front = c.write_sealed-chain.ensures.chain suite key c.new-run.ensures in
    let both : c.write_sealed.new.value.items ≡ number ++ batch_objects suite key ac (front ++ back) =
    c.write_sealed.ensures.written suite key (c.write_sealed-chain.ensures.again suite key c.new-run.ensures)
    ∙ ap₂ (λ before chain. before ++ batch_objects suite key chain back) first_part chain
    ∙ append_assoc number (batch_objects suite key ac front) (batch_objects suite key (fold (command_mac suite key) ac front) back)
    ∙ ap (λ objects. number ++ objects) (sym (batch_objects-append suite key ac front back)) in
    let ok : c.try_extend_from_slice.new.self.items ≡ c.new-template.result.items ++ c.as_slice-2.result.now =
    rw c.unwrap.ensures at c.try_extend_from_slice.ensures.ok in
    ok ∙ ap₂ (λ before bytes. before ++ bytes) c.new-template.ensures c.as_slice-2.ensures.value
    ∙ c.write-2.ensures ∙ ap₂ (λ before value. before ++ object_text 0x72 value) c.new-bytes.ensures (c.as_slice.ensures.value ∙ both)
