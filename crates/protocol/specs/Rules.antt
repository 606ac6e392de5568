-- Which rule a down or a receipt applies: document 01, "The three events".
-- N and `row` are u's as they stand when the rule is chosen: v has left them after a down, and is stored after a receipt.
use Rattle.std.specs.Prelude.{ℕ, zero, suc, Bool, not, cond, ◌&&◌, ◌||◌, List, [], ◌∷◌, eqb, ltb, ℤ, pos}
use Rattle.std.specs.Int.Signed.{lt_z}
use Rattle.basics.specs.Functions.{every}
use Rattle.height.specs.Height.{level_key, pair_key, zero_level}
use Rattle.height.specs.Order.{before, same}
use Rattle.height.specs.declared.Height.{Height}
use Rattle.height.specs.declared.ReferenceLevel.{ReferenceLevel}
use Rattle.protocol.specs.Sink.{sink}
use Rattle.protocol.specs.declared.Rule.TheVariants.{ElectSelf, StartNewRefLevel, NoChange}
use Rattle.protocol.specs.declared.Rule.TheVariants.{ReflectRefLevel, PropagateLargestRefLevel, AdoptLpIfPriority, Reply}
use Rattle.protocol.specs.declared.Rule.{Rule}

-- ---- a down

unfoldable pub absent : (ℕ → Bool) → ℕ → Bool
absent N v = not (N v)

-- N empty: E; a sink: S; otherwise Q
unfoldable pub down_rule : ℕ → (ℕ → Bool) → (ℕ → Height) → ℕ → Rule
down_rule n N row u = cond (every n (absent N)) ElectSelf (cond (sink n N row u) StartNewRefLevel NoChange)

-- ---- the largest level, and the smallest depth with it

unfoldable pub larger : ReferenceLevel → ReferenceLevel → ReferenceLevel
larger l m = cond (before (level_key l) (level_key m)) m l

-- the largest level of the views in N
unfoldable pub largest : ℕ → (ℕ → Bool) → (ℕ → Height) → ReferenceLevel
largest zero N row = zero_level
largest (suc n) N row = cond (N (suc n)) (larger (largest n N row) (row (suc n)).level) (largest n N row)

-- the depths of the views in N with the level l, and of no others
unfoldable pub deltas : ℕ → (ℕ → Bool) → (ℕ → Height) → ReferenceLevel → List ℤ
deltas zero N row l = []
deltas (suc n) N row l =
    cond (N (suc n) && same (level_key (row (suc n)).level) (level_key l)) ((row (suc n)).delta ∷ deltas n N row l) (deltas n N row l)

abbrev pub smaller : ℤ → ℤ → ℤ
smaller d e = cond (lt_z d e) d e

abbrev pub smallest_from : ℤ → List ℤ → ℤ
smallest_from d [] = d
smallest_from d (x ∷ xs) = smallest_from (smaller d x) xs

abbrev pub smallest : List ℤ → ℤ
smallest [] = pos 0
smallest (x ∷ xs) = smallest_from x xs

-- ---- a receipt from v, whose view is stored in row and who is in N

-- if w is in N, its view has the level l
unfoldable pub of_level : (ℕ → Bool) → (ℕ → Height) → ReferenceLevel → ℕ → Bool
of_level N row l w = not (N w) || same (level_key (row w).level) (level_key l)

-- u a sink, all views in N with the one level l: τ above 0 and bit 0: F; bit 1 and originator u: E; otherwise S
unfoldable pub one_level_rule : ℕ → ReferenceLevel → Rule
one_level_rule u l =
    cond (ltb 0 l.tau.0 && eqb l.r 0) ReflectRefLevel (cond (eqb l.r 1 && eqb l.oid u) ElectSelf StartNewRefLevel)

-- pairs equal. No sink: Q; one level (v's, as v is in N): above; levels differ: P
unfoldable pub equal_pairs_rule : ℕ → (ℕ → Bool) → (ℕ → Height) → ℕ → ℕ → Rule
equal_pairs_rule n N row u v =
    cond (not (sink n N row u)) NoChange
    (cond (every n (of_level N row (row v).level)) (one_level_rule u (row v).level) (PropagateLargestRefLevel (largest n N row)))

-- pairs equal: above; v's pair smaller: A; v's pair larger: R
unfoldable pub receipt_rule : ℕ → (ℕ → Bool) → (ℕ → Height) → ℕ → ℕ → Rule
receipt_rule n N row u v =
    cond (same (pair_key (row v).pair) (pair_key (row u).pair)) (equal_pairs_rule n N row u v)
    (cond (before (pair_key (row v).pair) (pair_key (row u).pair)) (AdoptLpIfPriority v) Reply)
