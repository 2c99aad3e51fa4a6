-- The issuer application data have the two bytes of the register, big-endian.
use Rattle.std.proofs.Common.{◌/◌, ◌%◌, get_or, ap, ◌∙◌, arith}
use Rattle.cryptogram_in.proofs.Pieces.{to_be_bytes-counter}
use Rattle.card_model.specs.Application.{CardState, core_identifier}
use Rattle.card_model.proofs.Requests.{application_data-bytes}
use Rattle.card_model.proofs.card.Card.application_data.Goals as goal

pub returns : goal.returns
returns c =
    let bytes = c.to_be_bytes.ensures ∙ to_be_bytes-counter _ (omega arith) in
    let register = ap (λ (card : CardState). card.register) c.self.view_is in
    let identified = c.core_identifier-identifier.ensures ∙ ap (λ (card : CardState). core_identifier card.keys.suite) c.self.view_is in
    application_data-bytes c.args.self.now _ _ _ _ _ identified (ap (λ (card : CardState). card.dki) c.self.view_is) c.script_results-results.ensures
    (ap (λ list. get_or list 0 0) bytes ∙ ap (λ n. n / 256) register) (ap (λ list. get_or list 1 0) bytes ∙ ap (λ n. n % 256) register)
