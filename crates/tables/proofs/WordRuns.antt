-- Words read one by one, and rows laid end to end: what determines a table.
use Prim.Native.Nat.{ℕ, zero, suc, ◌+◌, ◌*◌, ◌<◌, ◌≤◌}
use native.Mathlib.Omega.{arith}
use native.Mathlib.Nat.{add-zero}
use native.Mathlib.Numerals.{towards_suc}
use mathlib.Core.Path.{◌≡◌, refl, sym, ap, ◌∙◌}
use mathlib.Core.Bool.{true}
use mathlib.Core.List.{List, [], ◌∷◌, ◌++◌}
use lib.Dec.{eqb}
use borrow.Author.Tests.{eqb-true}
use lib.ListN.{get_or, length, take, drop, replicate, length-drop, take-append-drop}
use lib.Seq.{drop-cons, drop-drop, take-add, get_or-take, get_or-drop}
use Rattle.basics.proofs.Tests.{and_left, and_right}
use Rattle.height.specs.Words.{height_at, height_words}
use Rattle.height.proofs.WordsLaws.{word-signed, nat_abs-neg}
use Rattle.tables.specs.Cell.{all_zero}
use Rattle.tables.specs.Rows.{part, row_at, rows}
use Rattle.tables.proofs.RowsLaws.{row_fits, part_length}

-- k words from index i on
unfoldable pub run : ℕ → List ℕ → ℕ → List ℕ
run zero ws i = []
run (suc k) ws i = get_or ws i 0 ∷ run k ws (suc i)

pub part-run : (k i : ℕ) (ws : List ℕ) → i + k ≤ length ws → part i k ws ≡ run k ws i
unfolding run
part-run zero i ws h = refl
part-run (suc k) i ws h =
    ap (take (suc k)) (drop-cons ws i 0 (omega arith)) ∙ ap (λ (xs : List ℕ). get_or ws i 0 ∷ xs) (part-run k (suc i) ws (omega arith))

pub run-zero : (k i : ℕ) (ws : List ℕ) → ((j : ℕ) → j < k → get_or ws (i + j) 0 ≡ 0) → run k ws i ≡ replicate k 0
unfolding run
run-zero zero i ws h = refl
run-zero (suc k) i ws h =
    let first : get_or ws i 0 ≡ 0 = rw (add-zero i) at (h 0 (omega arith)) in
    rw (first, run-zero k (suc i) ws (λ j l. let e : suc i + j ≡ i + suc j = omega arith in rw e (h (suc j) (omega arith))))

pub part-add : (i a b : ℕ) (ws : List ℕ) → part i (a + b) ws ≡ part i a ws ++ part (i + a) b ws
part-add i a b ws = take-add a b (drop i ws) ∙ ap (λ (xs : List ℕ). take a (drop i ws) ++ take b xs) (drop-drop a i ws)

-- rows that agree one by one
pub rows_are : (w k : ℕ) (xs : List ℕ) (f : ℕ → List ℕ) → length xs ≡ k * w → ((i : ℕ) → i < k → row_at w i xs ≡ f (suc i)) → xs ≡ rows k f
unfolding rows row_at
rows_are w zero [] f h e = refl
rows_are w zero (x ∷ xs) f h e = absurd (omega arith)
rows_are w (suc k) xs f h e =
    let z : 0 * w ≡ 0 = omega arith in
    let first : take w xs ≡ f 1 = rw z at (e 0 (omega arith)) in
    let rest : drop w xs ≡ rows k (λ i. f (suc i)) =
    rows_are w k (drop w xs) (λ i. f (suc i)) (length-drop w xs ∙ omega arith)
    (λ i l.
    let q : w + i * w ≡ suc i * w = omega arith in
    ap (take w) (drop-drop (i * w) w xs) ∙ ap (λ (j : ℕ). take w (drop j xs)) q ∙ e (suc i) (omega arith)) in
    sym (take-append-drop w xs) ∙ ap (λ (ys : List ℕ). ys ++ drop w xs) first ∙ ap (λ (ys : List ℕ). f 1 ++ ys) rest

-- seven words are those of the height that they give
pub run-words : (ws : List ℕ) (i : ℕ) → get_or ws (i + 3) 0 < 4294967296 → run 7 ws i ≡ height_words (height_at ws i)
unfolding run height_words height_at
run-words ws i h = rw (word-signed (get_or ws (i + 3) 0) h) (simp (towards_suc, nat_abs-neg))

pub run-same : (k : ℕ) (ws us : List ℕ) (i j : ℕ) → ((m : ℕ) → m < k → get_or ws (i + m) 0 ≡ get_or us (j + m) 0) → run k ws i ≡ run k us j
unfolding run
run-same zero ws us i j h = refl
run-same (suc k) ws us i j h =
    let first : get_or ws i 0 ≡ get_or us j 0 = rw (add-zero i, add-zero j) at (h 0 (omega arith)) in
    let rest = run-same k ws us (suc i) (suc j)
    (λ m l. let a : suc i + m ≡ i + suc m = omega arith in let b : suc j + m ≡ j + suc m = omega arith in rw (a, b) (h (suc m) (omega arith))) in
    rw (first, rest)

-- a row of a row
pub row_in : (w n i j : ℕ) (xs : List ℕ) → length xs ≡ n * (n * w) → i < n → j < n → row_at w j (row_at (n * w) i xs) ≡ row_at w (i * n + j) xs
unfolding row_at
row_in w n i j xs size hi hj =
    let a : i * (n * w) + n * w ≤ n * (n * w) = row_fits (n * w) i n hi in
    let b : j * w + w ≤ n * w = row_fits w j n hj in
    let e : (i * n + j) * w ≡ i * (n * w) + j * w = omega arith in
    let l : length (part (i * (n * w)) (n * w) xs) ≡ n * w = part_length (i * (n * w)) (n * w) xs (omega (arith, size)) in
    part-run w (j * w) (part (i * (n * w)) (n * w) xs) (omega (arith, l))
    ∙ run-same w (part (i * (n * w)) (n * w) xs) xs (j * w) ((i * n + j) * w)
    (λ m q. let f : i * (n * w) + (j * w + m) ≡ (i * n + j) * w + m = omega (arith, e) in
    get_or-take (n * w) (drop (i * (n * w)) xs) (j * w + m) 0 (omega (arith, b)) ∙ get_or-drop (i * (n * w)) xs (j * w + m) 0 ∙ ap (λ (x : ℕ). get_or xs x 0) f)
    ∙ sym (part-run w ((i * n + j) * w) xs (omega (arith, e, size)))

-- where all words are zero, each is
pub zero-at : (ws : List ℕ) → all_zero ws ≡ true → (j : ℕ) → get_or ws j 0 ≡ 0
unfolding all_zero
zero-at [] e j = refl
zero-at (x ∷ xs) e zero = eqb-true x 0 (and_left (eqb x 0) (all_zero xs) e)
zero-at (x ∷ xs) e (suc j) = zero-at xs (and_right (eqb x 0) (all_zero xs) e) j
