-- What happens at a step, by its fate.
use Rattle.std.specs.Prelude.{ℕ, ◌==◌, List, [], ◌∷◌, if◌then◌else◌}
use Rattle.world_play.specs.declared.moves.Move.{Move}
use Rattle.world_play.specs.declared.moves.Move.TheVariants.{Queue, Tap, Ask, AskSpoiled, Hold, TakeHeld, Hand}
use Rattle.world_play.specs.declared.moves.Move.TheVariants.{HandFirst, HandSpoiled}

-- the moves of each fate, 0 to 7
abbrev pub moves_of : ℕ → List Move
moves_of fate =
    -- three commands are queued; the reply is lost
    if fate == 0 then Queue 0 ∷ Queue 1 ∷ Queue 2 ∷ Tap ∷ Ask ∷ []
    -- the request is lost
    else if fate == 1 then Tap ∷ []
    -- the reply arrives, and the first command alone is run
    else if fate == 2 then Tap ∷ Ask ∷ HandFirst ∷ []
    -- the first reply is lost; the same line again, and that reply arrives
    else if fate == 3 then Tap ∷ Ask ∷ Ask ∷ Hand ∷ []
    -- the request is held back
    else if fate == 4 then Tap ∷ Hold ∷ []
    -- the reply arrives, and then a request that was held back, with its reply
    else if fate == 5 then Tap ∷ Ask ∷ Hand ∷ TakeHeld ∷ Ask ∷ Hand ∷ []
    -- the reply arrives with a spoiled answer
    else if fate == 6 then Tap ∷ Ask ∷ HandSpoiled ∷ []
    -- the line is spoiled; then the right one, and its reply arrives
    else Tap ∷ AskSpoiled ∷ Ask ∷ Hand ∷ []
