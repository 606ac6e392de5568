-- All histories of so many accepted events, in the dictionary order of their events: document 02, [6].
-- That these are all, each once, in order, and that no other list is: proofs/Theorems.antt.
use Rattle.std.specs.Prelude.{ℕ, zero, suc, Bool, true, cond, ◌&&◌, List, [], ◌∷◌, ◌++◌, map}
use Rattle.calls.specs.History.{History}
use Rattle.protocol.specs.Network.{Network}
use Rattle.protocol.specs.Refusal.{accepts, next}
use Rattle.protocol.specs.Step.{Event, up, down, receive}
use Rattle.text.specs.Text.{in_turn}

-- each event is accepted where it stands
unfoldable pub all_accepted : ℕ → Network → List Event → Bool
all_accepted n p [] = true
all_accepted n p (e ∷ es) = accepts n p e && all_accepted n (next n p e) es

-- the events of a history, oldest first
unfoldable pub happened : History → List Event
happened [] = []
happened (e ∷ h) = happened h ++ (e.event ∷ [])

-- ---- the list

unfoldable pub pairs_of : ℕ → (ℕ → ℕ → Event) → List Event
pairs_of n f = in_turn n (λ u. in_turn n (λ v. f u v ∷ []))

-- every kind with every two of 1 to n, in order
unfoldable pub candidates : ℕ → List Event
candidates n = pairs_of n up ++ (pairs_of n down ++ pairs_of n receive)

-- e before each history from there, if it is accepted
abbrev pub begun_with : (Network → List (List Event)) → ℕ → Network → Event → List (List Event)
begun_with rest n p e = cond (accepts n p e) (map (λ h. e ∷ h) (rest (next n p e))) []

-- for each event of the list
unfoldable pub begun : (Network → List (List Event)) → ℕ → Network → List Event → List (List Event)
begun rest n p [] = []
begun rest n p (e ∷ es) = begun_with rest n p e ++ begun rest n p es

-- the histories of k accepted events from p on
unfoldable pub histories : ℕ → ℕ → Network → List (List Event)
histories n zero p = [] ∷ []
histories n (suc k) p = begun (histories n k) n p (candidates n)
