-- A node's heights while an event is decided, and its height after a rule: the new one, or refusal 8.
use Rattle.std.specs.Prelude.{ℕ, Bool, cond, ◌||◌, List, Result, Ok, Err}
use Rattle.basics.specs.Functions.{update}
use Rattle.height.specs.declared.Height.{Height}
use Rattle.nodeset.specs.NodeSet.{member}
use Rattle.protocol.specs.Refusal.{too_deep}
use Rattle.protocol.specs.Step.{height_after, sends}
use Rattle.protocol.specs.declared.Rule.{Rule}
use Rattle.tables.specs.Row.{height_in}
use Rattle.refusal.specs.declared.Refusal.TheVariants.{DeltaEnd}
use Rattle.refusal.specs.declared.Refusal.{Refusal}

-- the row's heights, with this view of v
abbrev pub seen : List ℕ → ℕ → Height → ℕ → Height
seen row v view = update (height_in row) v view

-- the height after the rule, unless 8
unfoldable pub after_rule : ℕ → (ℕ → Bool) → (ℕ → Height) → ℕ → ℕ → ℕ → Rule → Result Height Refusal
after_rule n N row u v t rule =
    cond (too_deep rule (height_after n N row u v t rule).delta) (Err DeltaEnd) (Ok (height_after n N row u v t rule))

-- the nodes that the rule sends to
unfoldable pub sends_to : ℕ → Rule → ℕ → ℕ → ℕ → Bool
sends_to v rule N F w = sends v rule w (member N w || member F w)
