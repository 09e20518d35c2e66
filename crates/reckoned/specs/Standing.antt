-- Runs of both ends: a list that stays in force for as long as one likes, and what a listener answers that hears some of its tables.
-- Within the bound of demand 3 they show what it promises; beyond it, what the bound is for.
use Rattle.std.specs.Prelude.{ℕ, List, [], ◌∷◌, replicate}
use Rattle.desk.specs.Desks.{base_rest}
use Rattle.listener.specs.Listeners.{carries}
use Rattle.listener.specs.Answers.{Told}
use Rattle.claims.specs.Demand3.{fleet_binding}
use Rattle.claims.specs.Ends.{answer_to}
use Rattle.claims.specs.Hearings.{Item}
use Rattle.reckoned.specs.Reckoned.{order_bytes, order_list}

-- so many lists with the one order 1
unfoldable pub standing_lists : ℕ → List (List ℕ)
standing_lists k = replicate k (order_bytes 1)

-- and then one with the orders 1 to 5
unfoldable pub then_five : ℕ → List (List ℕ)
then_five k = order_list 5 1 ∷ standing_lists k

-- the answers of the listener that heard these, the newest first
unfoldable pub answers : List (List ℕ) → List (Item (List ℕ)) → List Told
answers calls [] = []
answers calls (item ∷ earlier) = answer_to base_rest carries fleet_binding calls item earlier ∷ answers calls earlier
