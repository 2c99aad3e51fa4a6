-- The laws of machines and of worlds, of the records of cards.
use Rattle.machine_cards.proofs.CardWorlds.{machines-worlds, machines-one_reply, machines-fall_back}
use Rattle.machine_cards.proofs.law.cards_keep_their_laws_on_machines.Goals as goal

pub returns-clause-worlds : goal.returns-clause-worlds
returns-clause-worlds c issuer valid keys base events run = machines-worlds issuer valid keys base events run

pub returns-clause-one_reply : goal.returns-clause-one_reply
returns-clause-one_reply c issuer valid keys base events run = machines-one_reply issuer valid keys base events run

pub returns-clause-fall_back : goal.returns-clause-fall_back
returns-clause-fall_back c issuer valid keys base events run = machines-fall_back issuer valid keys base events run
