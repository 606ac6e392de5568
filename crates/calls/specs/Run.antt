-- Lists of calls: document 01, "Lists of calls". Events, saves and restores, refused ones among them; every call brings its own numbers.
-- What calls are made on (lent tables, or a network), and what each answers and leaves there, are parameters (`Calls`).
use Rattle.std.specs.Prelude.{ℕ, Bool, true, false, cond, List, [], ◌∷◌, ◌≡◌, eqb}
use Rattle.basics.specs.Bytes.{same_bytes}
use Rattle.basics.specs.Functions.{after_all}
use Rattle.protocol.specs.Answer.{Said}
use Rattle.protocol.specs.Step.{Event, home}
use Rattle.refusal.specs.Outcome.{Outcome}
use Rattle.calls.specs.History.{History, entered}

pub data Call : Type 0 where
  event : ℕ → Event → Call  -- event m e: e on tables said to be of m nodes
  save : ℕ → List ℕ → Call  -- save m out: of m nodes, into these lent bytes
  restore : List ℕ → Call  -- restore bytes (document 01: resume)

-- no restore
abbrev pub is_plain : Call → Bool
is_plain (event m e) = true
is_plain (save m out) = true
is_plain (restore b) = false

-- ---- what calls are made on

-- what an event says and leaves, and each node's clock there; the number that a save or a restore returns, and the bytes that the one wrote,
-- what the other leaves
pub record Calls (A : Type 0) : Type 0 where
  pub stepped : ℕ → Event → A → Outcome Said A
  pub clock : ℕ → A → ℕ → ℕ
  pub written : ℕ → List ℕ → A → Outcome ℕ (List ℕ)
  pub resumed : List ℕ → A → Outcome ℕ A

-- ---- the run

-- an accepted save: the bytes that it wrote, what it was made on, and the history then
pub record Saved (A : Type 0) : Type 0 where
  pub bytes : List ℕ
  pub at : A
  pub history : History

-- what the next call is made on, the history, and the accepted saves so far, newest first
pub record RunState (A : Type 0) : Type 0 where
  pub now : A
  pub history : History
  pub saves : List (Saved A)

abbrev pub start_of_run : {A : Type 0} → A → RunState A
start_of_run a = record { now = a; history = []; saves = [] }

-- the last save that wrote these bytes; of no restore that is allowed and accepted it is `never`
pub data Earlier (A : Type 0) : Type 0 where
  never : Earlier A
  saved_at : Saved A → Earlier A

abbrev pub last_save : {A : Type 0} → List ℕ → List (Saved A) → Earlier A
last_save b [] = never
last_save b (s ∷ ss) = cond (same_bytes b s.bytes) (saved_at s) (last_save b ss)

abbrev pub history_at : {A : Type 0} → Earlier A → History
history_at never = []
history_at (saved_at s) = s.history

-- an accepted event enters the history, with its node's clock
abbrev pub stepped_to : {A : Type 0} → (A → ℕ → ℕ) → RunState A → Event → Outcome Said A → RunState A
stepped_to clock w e o =
    record { now = o.after; history = entered e o.said (clock o.after (home e)) w.history; saves = w.saves }

-- an accepted save is kept
abbrev pub keeping : {A : Type 0} → RunState A → Outcome ℕ (List ℕ) → List (Saved A)
keeping w o = cond (eqb o.said 0) (record { bytes = o.after; at = w.now; history = w.history } ∷ w.saves) w.saves

abbrev pub saved_to : {A : Type 0} → RunState A → Outcome ℕ (List ℕ) → RunState A
saved_to w o = record { now = w.now; history = w.history; saves = keeping w o }

-- an accepted restore returns to the history of the youngest save with these bytes
abbrev pub restored : {A : Type 0} → RunState A → List ℕ → Outcome ℕ A → RunState A
restored w b o =
    record { now = o.after; history = cond (eqb o.said 0) (history_at (last_save b w.saves)) w.history; saves = w.saves }

module _ {A : Type 0} (calls : Calls A) where
  abbrev pub act : RunState A → Call → RunState A
  act w (event m e) = stepped_to (calls.clock m) w e (calls.stepped m e w.now)
  act w (save m out) = saved_to w (calls.written m out w.now)
  act w (restore b) = restored w b (calls.resumed b w.now)

  abbrev pub perform : RunState A → List Call → RunState A
  perform w cs = after_all act w cs

  -- a restore gets either the bytes of an accepted save before it in the list, or bytes to which it says no
  pub data Fair (w : RunState A) : Call → Type 0 where
    fair_event : (m : ℕ) (e : Event) → Fair w (event m e)
    fair_save : (m : ℕ) (out : List ℕ) → Fair w (save m out)
    fair_saved : (b : List ℕ) (s : Saved A) → last_save b w.saves ≡ saved_at s → Fair w (restore b)
    fair_refused : (b : List ℕ) → ((calls.resumed b w.now).said ≡ 0 → ⊥) → Fair w (restore b)

  pub data AllFair : RunState A → List Call → Type 0 where
    fair_nil : {w : RunState A} → AllFair w []
    fair_cons : {w : RunState A} {c : Call} {cs : List Call} → Fair w c → AllFair (act w c) cs → AllFair w (c ∷ cs)
