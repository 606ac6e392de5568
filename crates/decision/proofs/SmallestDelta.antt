-- What the loop of `levels::smallest_delta` keeps, turn by turn.
use Prim.Native.Nat.{ℕ, suc, ◌-◌, ◌<◌, ◌≤◌}
use mathlib.Core.Bool.{Bool, true, false, ◌&&◌}
use mathlib.Core.List.{List, ◌∷◌}
use mathlib.Core.Path.{◌≡◌, refl, sym}
use lib.IntN.{ℤ, pos}
use Rattle.std.specs.Option.{unwrap_or}
use Rattle.std.specs.Prelude.{Option, Some, None}
use Rattle.height.specs.Height.{level_key}
use Rattle.height.specs.Order.{same}
use Rattle.height.specs.declared.Height.{Height}
use Rattle.height.specs.declared.ReferenceLevel.{ReferenceLevel}
use Rattle.protocol.specs.Rules.{deltas, smaller, smallest_from, smallest}
use Rattle.decision.proofs.Descent.{Rest, rest-start, rest-next, rest-done}

-- the smallest of these depths and, where one was found, of the least so far
abbrev pub least_of : Option ℤ → List ℤ → ℤ
least_of (Some d) xs = smallest_from d xs
least_of None xs = smallest xs

-- the least so far after one more depth
abbrev pub least_with : Option ℤ → ℤ → ℤ
least_with (Some d) e = smaller d e
least_with None e = e

pub least-cons : (m : Option ℤ) (x : ℤ) (xs : List ℤ) → least_of m (x ∷ xs) ≡ smallest_from (least_with m x) xs
least-cons (Some d) x xs = refl
least-cons None x xs = refl

module _ (N : ℕ → Bool) (row : ℕ → Height) (l : ReferenceLevel) (n : ℕ) where
  abbrev pub counts : ℕ → Bool
  counts w = N w && same (level_key (row w).level) (level_key l)

  -- with w of the n nodes left
  pub record Least (m : Option ℤ) (w : ℕ) : Type 0 where
    pub rest : Rest (smallest (deltas n N row l)) (λ k. least_of m (deltas k N row l)) n w

  pub start : {w : ℕ} → w ≡ n → Least None w
  start e = rw e (record { rest = rest-start _ n })

  module _ {m : Option ℤ} {w : ℕ} (q : Least m w) (more : 0 < w) where
    pub took : counts w ≡ true → {d : ℤ} → d ≡ least_with m (row w).delta → Least (Some d) (w - 1)
    unfolding deltas
    took e r =
        rw r (record {
          rest = rest-next q.rest (λ k. smallest_from (least_with m (row w).delta) (deltas k N row l)) more (λ k i.
              let counted : counts (suc k) ≡ true = rw i at e in
              rw (counted, i) (least-cons m (row (suc k)).delta (deltas k N row l)));
        })

    pub passed : counts w ≡ false → Least m (w - 1)
    unfolding deltas
    passed e =
        record {
          rest = rest-next q.rest (λ k. least_of m (deltas k N row l)) more (λ k i.
              let uncounted : counts (suc k) ≡ false = rw i at e in rw uncounted);
        }

  pub done : (m : Option ℤ) {w : ℕ} → Least m w → w ≤ 0 → unwrap_or m (pos 0) ≡ smallest (deltas n N row l)
  unfolding deltas
  done (Some d) q h = sym (rest-done q.rest h)
  done None q h = sym (rest-done q.rest h)
