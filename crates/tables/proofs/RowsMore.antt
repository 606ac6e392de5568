-- Rows of any lengths laid end to end: one more at the end, the ones after the first k, their length, each row, what stands behind a piece.
use Prim.Native.Nat.{ℕ, zero, suc, ◌+◌, ◌*◌, ◌<◌}
use native.Mathlib.Nat.{add-zero, zero-add, zero-mul, suc-mul}
use native.Mathlib.Omega.{arith}
use mathlib.Core.List.{List, [], ◌++◌, append_assoc, append-nil}
use mathlib.Core.Path.{◌≡◌, refl, sym, ap, ap₂, ◌∙◌}
use lib.ListN.{length, take, drop, length-append}
use lib.Seq.{take_at, drop_at, drop-drop}
use Rattle.tables.specs.Rows.{rows, row_at}

-- one row more
pub rows_more : (n : ℕ) (f : ℕ → List ℕ) → rows (suc n) f ≡ rows n f ++ f (suc n)
unfolding rows
rows_more zero f = append-nil (f 1)
rows_more (suc n) f =
    ap (λ (t : List ℕ). f 1 ++ t) (rows_more n (λ i. f (suc i)))
    ∙ sym (append_assoc (f 1) (rows n (λ i. f (suc i))) (f (suc (suc n))))

-- f (k + 1), and so on for m pieces
unfoldable pub later : ℕ → ℕ → (ℕ → List ℕ) → List ℕ
later zero k f = []
later (suc m) k f = f (suc k) ++ later m (suc k) f

pub rows-later : (k m : ℕ) (f : ℕ → List ℕ) → rows (k + m) f ≡ rows k f ++ later m k f
unfolding later
rows-later k zero f = ap (λ (x : ℕ). rows x f) (add-zero k) ∙ sym (append-nil (rows k f))
rows-later k (suc m) f =
    let e : k + suc m ≡ suc k + m = omega arith in
    ap (λ (x : ℕ). rows x f) e
    ∙ rows-later (suc k) m f
    ∙ ap (λ (t : List ℕ). t ++ later m (suc k) f) (rows_more k f)
    ∙ append_assoc (rows k f) (f (suc k)) (later m (suc k) f)

pub rows_all : (n : ℕ) (f : ℕ → List ℕ) → rows n f ≡ later n 0 f
unfolding rows
rows_all n f = ap (λ (x : ℕ). rows x f) (sym (zero-add n)) ∙ rows-later 0 n f

-- pieces of one length
pub length-rows : (n w : ℕ) (f : ℕ → List ℕ) → ((i : ℕ) → i < n → length (f (suc i)) ≡ w) → length (rows n f) ≡ n * w
unfolding rows
length-rows zero w f h = omega arith
length-rows (suc n) w f h =
    length-append (f 1) (rows n (λ i. f (suc i)))
    ∙ ap₂ (λ (a b : ℕ). a + b) (h 0 (omega arith)) (length-rows n w (λ i. f (suc i)) (λ i l. h (suc i) (omega arith)))
    ∙ omega (arith, suc-mul n w)

-- pieces that are the same
pub rows_same : (n : ℕ) (f g : ℕ → List ℕ) → ((i : ℕ) → i < n → f (suc i) ≡ g (suc i)) → rows n f ≡ rows n g
unfolding rows
rows_same zero f g h = refl
rows_same (suc n) f g h =
    ap₂ (λ (s t : List ℕ). s ++ t) (h 0 (omega arith)) (rows_same n (λ i. f (suc i)) (λ i. g (suc i)) (λ i l. h (suc i) (omega arith)))

-- what stands behind a piece
pub behind : (l p t : List ℕ) (q : ℕ) → drop q l ≡ p ++ t → drop (q + length p) l ≡ t
behind l p t q e = sym (drop-drop (length p) q l) ∙ ap (drop (length p)) e ∙ drop_at p t (length p) refl

-- the first row, and the rows behind it
pub row_first : (w : ℕ) (a t : List ℕ) → length a ≡ w → row_at w 0 (a ++ t) ≡ a
unfolding row_at
row_first w a t e = rw (zero-mul w) (take_at a t w e)

pub row_next : (w i : ℕ) (a t : List ℕ) → length a ≡ w → row_at w (suc i) (a ++ t) ≡ row_at w i t
unfolding row_at
row_next w i a t e =
    let q : suc i * w ≡ w + i * w = omega (arith, suc-mul i w) in
    ap (take w) (ap (λ (x : ℕ). drop x (a ++ t)) q ∙ sym (drop-drop (i * w) w (a ++ t)) ∙ ap (drop (i * w)) (drop_at a t w e))

-- piece i of pieces of one length
pub rows_at : (w k : ℕ) (f : ℕ → List ℕ) → ((i : ℕ) → i < k → length (f (suc i)) ≡ w) → (i : ℕ) → i < k → row_at w i (rows k f) ≡ f (suc i)
unfolding rows
rows_at w zero f h i l = absurd (omega arith)
rows_at w (suc k) f h zero l = row_first w (f 1) (rows k (λ i. f (suc i))) (h 0 (omega arith))
rows_at w (suc k) f h (suc i) l =
    row_next w i (f 1) (rows k (λ j. f (suc j))) (h 0 (omega arith))
    ∙ rows_at w k (λ j. f (suc j)) (λ j b. h (suc j) (omega arith)) i (omega arith)
