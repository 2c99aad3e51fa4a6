-- The card's fields are those of a request, and the cryptogram in it is the card's own.
use Rattle.std.proofs.Common.{◌≡◌, is_some, IsTrue, Some, ap, sym, ◌∙◌}
use Rattle.issuer_base.proofs.ChipDataLemmas.{request_from-some}
use Rattle.issuer_base.specs.ChipData.{is_bcd, request_from}
use Rattle.issuer_base.specs.declared.request.Parts.{Parts}
use Rattle.key_derive.specs.SessionKey.{session_of}
use Rattle.cryptogram_in.specs.Cryptogram.{cryptogram_under, application_cryptogram}
use Rattle.card_model.specs.Application.{CardState}
use Rattle.card_model.proofs.Requests.{request_from-fields, next_request-made, next_request-valid_ac}
use Rattle.card_model.proofs.card.Card.next_request.Goals as goal

pub unwrap-unsigned-requires : goal.unwrap-unsigned-requires
unwrap-unsigned-requires c =
    let psn : IsTrue (is_bcd c.args.self.now.psn) = ap (λ (card : CardState). is_bcd card.psn) (sym c.self.view_is) ∙ c.self.invariant.0 in
    ap is_some (c.new.ensures ∙ request_from-fields _ c.args.terminal.now _ _ psn c.requires.decimal c.next_fields.ensures)

pub unwrap-requires : goal.unwrap-requires
unwrap-requires c =
    let psn : IsTrue (is_bcd c.args.self.now.psn) = ap (λ (card : CardState). is_bcd card.psn) (sym c.self.view_is) ∙ c.self.invariant.0 in
    let first : request_from c.next_fields.result ≡ Some c.unwrap-unsigned.result = sym c.new.ensures ∙ c.unwrap-unsigned.ensures in
    let own = c.parts-parts.ensures.same ∙ sym (request_from-some _ _ first).1 ∙ c.next_fields.ensures in
    ap is_some (c.new-2.ensures ∙ request_from-fields _ c.args.terminal.now _ _ psn c.requires.decimal own)

pub returns-clause-exact : goal.returns-clause-exact
unfolding application_cryptogram
returns-clause-exact c =
    let unsigned = c.unwrap-unsigned.result in
    let first : request_from c.next_fields.result ≡ Some unsigned = sym c.new.ensures ∙ c.unwrap-unsigned.ensures in
    let same : c.parts-parts.result.now ≡ unsigned = c.parts-parts.ensures.same in
    let own = same ∙ sym (request_from-some _ _ first).1 in
    let session = c.for_cryptograms-session.ensures ∙ ap (λ (parts : Parts). session_of c.self.inside.keys parts.atc) same in
    let signed =
    c.expected-parts.ensures ∙ ap (λ key. cryptogram_under key unsigned) session
    ∙ ap (λ (card : CardState). application_cryptogram card.keys unsigned) c.self.view_is in
    next_request-made c.args.self.now c.args.terminal.now _ _ _ _ (own ∙ c.next_fields.ensures) (ap request_from own ∙ first) signed
    (sym c.new-2.ensures ∙ c.unwrap.ensures)

pub returns-clause-has_valid_ac : goal.returns-clause-has_valid_ac
returns-clause-has_valid_ac c = rw (returns-clause-exact c) (next_request-valid_ac c.args.self.now c.args.terminal.now)
