-- A walk over pieces laid end to end, with a running place: the place after k steps is where piece k + 1 stands.
-- Assumes that each step passes the piece that stands at its place (`Passes`).
use Prim.Native.Nat.{ℕ, zero, suc, ◌+◌, ◌-◌, ◌*◌, ◌≤◌, ◌<◌}
use native.Mathlib.Nat.{add_assoc, add-zero, add-suc, suc-mul, sub-zero, zero-mul, le_trans, le_refl}
use native.Mathlib.Omega.{arith}
use mathlib.Core.Path.{◌≡◌, refl, sym, ap, ◌∙◌}
use mathlib.Core.List.{List, ◌++◌, append_assoc}
use lib.ListN.{length, drop, length-append}
use Rattle.tables.specs.Rows.{rows}
use Rattle.tables.proofs.RowsMore.{later, rows_more, rows_all, behind}
use Rattle.image.specs.Places.{walked}

module _ (l : List ℕ) (f : ℕ → List ℕ) (next : ℕ → ℕ → ℕ) where
  -- each of n steps passes the piece that stands at its place
  abbrev pub Passes : ℕ → Type 0
  Passes n = (i r : ℕ) (s : List ℕ) → i < n → drop r l ≡ f (suc i) ++ s → next (suc i) r ≡ r + length (f (suc i))

  -- READING WHAT WAS WRITTEN: the place after k steps is that of the rest
  pub walk-read : (n q : ℕ) (t : List ℕ) → drop q l ≡ rows n f ++ t → Passes n
      → (k : ℕ) → k ≤ n → drop (walked next k q) l ≡ later (n - k) k f ++ t
  unfolding walked later
  walk-read n q t e h zero k = e ∙ ap (λ (x : List ℕ). x ++ t) (rows_all n f ∙ ap (λ (m : ℕ). later m 0 f) (sym (sub-zero n)))
  walk-read n q t e h (suc k) b =
      let r : ℕ = walked next k q in
      let m : ℕ = n - suc k in
      let a : n - k ≡ suc m = omega arith in
      let g : drop r l ≡ f (suc k) ++ (later m (suc k) f ++ t) =
      walk-read n q t e h k (omega arith) ∙ ap (λ (x : ℕ). later x k f ++ t) a ∙ append_assoc (f (suc k)) (later m (suc k) f) t in
      ap (λ (x : ℕ). drop x l) (h k r (later m (suc k) f ++ t) b g) ∙ behind l (f (suc k)) (later m (suc k) f ++ t) r g

  -- the piece at the place after k steps
  pub walk_at : (n q : ℕ) (t : List ℕ) → drop q l ≡ rows n f ++ t → Passes n
      → (k : ℕ) → k < n → drop (walked next k q) l ≡ f (suc k) ++ (later (n - suc k) (suc k) f ++ t)
  unfolding later
  walk_at n q t e h k b =
      let a : n - k ≡ suc (n - suc k) = omega arith in
      walk-read n q t e h k (omega arith) ∙ ap (λ (x : ℕ). later x k f ++ t) a ∙ append_assoc (f (suc k)) (later (n - suc k) (suc k) f) t

  pub walk_end : (n q : ℕ) (t : List ℕ) → drop q l ≡ rows n f ++ t → Passes n
      → drop (walked next n q) l ≡ t
  unfolding later
  walk_end n q t e h =
      let a : n - n ≡ 0 = omega arith in
      walk-read n q t e h n (omega arith) ∙ ap (λ (x : ℕ). later x n f ++ t) a

  -- and that place is where the pieces before it end
  pub walk-length : (n q : ℕ) (t : List ℕ) → drop q l ≡ rows n f ++ t → Passes n
      → (k : ℕ) → k ≤ n → walked next k q ≡ q + length (rows k f)
  unfolding walked rows
  walk-length n q t e h zero b = sym (add-zero q)
  walk-length n q t e h (suc k) b =
      h k (walked next k q) (later (n - suc k) (suc k) f ++ t) b (walk_at n q t e h k b)
      ∙ ap (λ (x : ℕ). x + length (f (suc k))) (walk-length n q t e h k (omega arith))
      ∙ add_assoc q (length (rows k f)) (length (f (suc k)))
      ∙ ap (λ (x : ℕ). q + x) (sym (ap length (rows_more k f) ∙ length-append (rows k f) (f (suc k))))

  -- WRITING WHAT WAS READ: where each step passes exactly its piece, the list is the pieces and then the rest
  pub walk-write : (n q : ℕ)
      → ((i : ℕ) → i < n → drop (walked next i q) l ≡ f (suc i) ++ drop (next (suc i) (walked next i q)) l)
      → drop q l ≡ rows n f ++ drop (walked next n q) l
  unfolding walked rows
  walk-write zero q h = refl
  walk-write (suc n) q h =
      walk-write n q (λ i b. h i (omega arith))
      ∙ ap (λ (x : List ℕ). rows n f ++ x) (h n (omega arith))
      ∙ sym (append_assoc (rows n f) (f (suc n)) (drop (next (suc n) (walked next n q)) l))
      ∙ ap (λ (x : List ℕ). x ++ drop (next (suc n) (walked next n q)) l) (sym (rows_more n f))

-- a walk with steps of one width
pub walked-add : (next : ℕ → ℕ → ℕ) (w : ℕ) → ((i q : ℕ) → next i q ≡ q + w) → (k q : ℕ) → walked next k q ≡ q + k * w
unfolding walked
walked-add next w h zero q = omega (arith, zero-mul w)
walked-add next w h (suc k) q = h (suc k) (walked next k q) ∙ omega (arith, walked-add next w h k q, suc-mul k w)

-- a walk that never goes back
pub walked-mono : (next : ℕ → ℕ → ℕ) → ((i q : ℕ) → q ≤ next i q) → (k m q : ℕ) → walked next k q ≤ walked next (k + m) q
unfolding walked
walked-mono next h k zero q = rw add-zero (le_refl (walked next k q))
walked-mono next h k (suc m) q = rw add-suc (le_trans (walked-mono next h k m q) (h (suc (k + m)) (walked next (k + m) q)))
