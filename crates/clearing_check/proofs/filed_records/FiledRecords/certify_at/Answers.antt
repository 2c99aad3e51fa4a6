-- The first record of the ATC is certified in its place.
use Rattle.std.proofs.Common.{List, length, set, get_or, ap, sym, ◌∙◌, subst, arith}
use Rattle.std.specs.List.{position_or_len}
use Rattle.clearing_check.specs.declared.filed.Filed.{Filed}
use Rattle.clearing_check.specs.Records.{has_atc, certify, certified}
use Rattle.std.proofs.lemmas.List.{length-set}
use Rattle.clearing_check.specs.Inside.{AreFiled}
use Rattle.clearing_check.proofs.Numbers.{numbers-certified}
use Rattle.clearing_check.proofs.FirstPlace.{certify-at, certify-none}
use Rattle.clearing_check.proofs.filed_records.FiledRecords.certify_at.Goals as goal

pub invariant_of-self : goal.invariant_of-self
invariant_of-self c =
    let items = c.self.inside.records.items in
    let n = c.args.number in
    let found = c.index_mut.result.now in
    let after = set items n (certified (get_or items n found)) in
    let old = c.self.invariant in
    let same = length-set items n (certified (get_or items n found)) in
    let few = old.few in
    let filed : AreFiled (record { records = after; pages = c.self.inside.pages }) =
    record {
      few = omega (arith, few, same);
      numbers = numbers-certified c.self.inside.pages items n found old.numbers;
    } in
    subst (λ (records : List Filed). AreFiled (record { records = records; pages = c.self.inside.pages }))
    (ap (λ (x : Filed). set items n (certified x)) (sym c.index_mut.ensures.value)) filed

pub returns-then-number-len : goal.returns-then-number-len
returns-then-number-len c = λ card atc is.
    let within = c.if-number-len.true in
    let len = c.len.ensures in
    let place = is ∙ ap (position_or_len (has_atc card atc)) (sym c.self.view_is) in
    certify-at card atc c.self.inside.records.items c.args.number c.index_mut.result.now place
    (omega (arith, within, len)) c.index_mut.ensures.value
    ∙ ap (certify card atc) c.self.view_is

pub returns-else-number-len : goal.returns-else-number-len
returns-else-number-len c = λ card atc is.
    let past = c.if-number-len.false in
    let len = c.len.ensures in
    let records = ap length c.self.view_is in
    certify-none card atc c.args.self.now (omega (arith, past, len, is, records))
