-- Rows laid end to end: a row put into a table is read back, every other row is kept, and a lent part of a slice is a row.
use Prim.Native.Nat.{ℕ, zero, suc, ◌+◌, ◌-◌, ◌*◌, ◌≤◌, ◌<◌}
use mathlib.Core.Path.{◌≡◌, ap, sym, ◌∙◌}
use mathlib.Core.List.{List, ◌++◌}
use mathlib.Core.Logic.{◌⊎◌, inl, inr}
use native.Mathlib.Nat.{mul-le-mul_right, mul-le-mul_left, le_trans, suc-mul}
use native.Mathlib.Omega.{arith}
use native.Mathlib.Decide.{dec_lt}
use lib.ListN.{length, get_or, take, drop, length-append, length-take, length-drop, take-append-drop, get_or-append}
use lib.Seq.{length-take-le, take_all, take_at, drop_at, get_or-take, get_or-drop, get_or-append-add, ext_get_or}
use Rattle.height.specs.Words.{height_at}
use Rattle.height.specs.inner.Stored.{stored_at}
use Rattle.height.specs.declared.Height.{Height}
use Rattle.protocol.specs.Network.{Node}
use Rattle.tables.specs.Row.{height_in}
use Rattle.tables.specs.inner.Written.{put_height, put_part, put_row, put_node, put_channel}
use Rattle.tables.specs.Rows.{part, row_at}
use Rattle.tables.specs.Tables.{width, cell_width, node_of, pair_of, channel_of}

-- ---- parts

module _ (a k : ℕ) (xs : List ℕ) (fits : a + k ≤ length xs) where
  pub part_length : length (part a k xs) ≡ k
  part_length = simp (length-take, length-drop) (omega arith)

  pub put-part : put_part a k (part a k xs) xs ≡ xs
  put-part = rw (take-append-drop k (drop a xs)) (take-append-drop a xs)

  module _ (r : List ℕ) (same : length r ≡ k) where
    head : length (take a xs) ≡ a
    head = length-take-le a xs (omega arith)

    pub put-length : length (put_part a k r xs) ≡ length xs
    put-length = simp (length-append, length-drop, head) (omega arith)

    pub part-put : part a k (put_part a k r xs) ≡ r
    part-put = ap (take k) (drop_at (take a xs) _ a head) ∙ take_at r _ k same

    -- a word outside the part is kept
    pub put-before : (i : ℕ) → i < a → get_or (put_part a k r xs) i 0 ≡ get_or xs i 0
    put-before i h = get_or-append (take a xs) (r ++ drop k (drop a xs)) 0 i (omega (arith, head)) ∙ get_or-take a xs i 0 h

    pub put-past : (i : ℕ) → a + k ≤ i → get_or (put_part a k r xs) i 0 ≡ get_or xs i 0
    put-past i h =
        let e : i ≡ a + (k + (i - (a + k))) = omega arith in
        let e₁ : a + (k + (i - (a + k))) ≡ length (take a xs) + (length r + (i - (a + k))) = omega (arith, head) in
        ap (λ (j : ℕ). get_or (put_part a k r xs) j 0) (e ∙ e₁)
        ∙ get_or-append-add (take a xs) (r ++ drop k (drop a xs)) _ 0 ∙ get_or-append-add r (drop k (drop a xs)) _ 0
        ∙ get_or-drop k (drop a xs) _ 0 ∙ get_or-drop a xs _ 0 ∙ ap (λ (j : ℕ). get_or xs j 0) (sym e)

    -- a part beside the one replaced is kept
    pub part-other : (b j : ℕ) → b + j ≤ length xs → (b + j ≤ a) ⊎ (a + k ≤ b) → part b j (put_part a k r xs) ≡ part b j xs
    part-other b j f side = ext_get_or 0 _ _ (len ∙ sym (wide xs f)) (λ i h. at i (omega (arith, len)) side)
      where
        wide : (ys : List ℕ) → b + j ≤ length ys → length (part b j ys) ≡ j
        wide ys q = simp (length-take, length-drop) (omega arith)

        len : length (part b j (put_part a k r xs)) ≡ j
        len = wide (put_part a k r xs) (omega (arith, put-length))

        at : (i : ℕ) → i < j → (b + j ≤ a) ⊎ (a + k ≤ b)
            → get_or (part b j (put_part a k r xs)) i 0 ≡ get_or (part b j xs) i 0
        at i h s = get_or-take j _ i 0 h ∙ get_or-drop b _ i 0 ∙ word s ∙ sym (get_or-take j _ i 0 h ∙ get_or-drop b xs i 0)
          where
            word : (b + j ≤ a) ⊎ (a + k ≤ b) → get_or (put_part a k r xs) (b + i) 0 ≡ get_or xs (b + i) 0
            word (inl q) = put-before (b + i) (omega arith)
            word (inr q) = put-past (b + i) (omega arith)

-- ---- rows

pub product_le : (i w : ℕ) {a b : ℕ} → i ≤ a → w ≤ b → i * w ≤ a * b
product_le i w {a} hi hw = le_trans (mul-le-mul_right w hi) (mul-le-mul_left a hw)

-- row i of count rows ends inside the table
pub row_fits : (w i count : ℕ) → i < count → i * w + w ≤ count * w
row_fits w i count h =
    let q : suc i * w ≤ count * w = mul-le-mul_right w h in
    let e : suc i * w ≡ i * w + w = suc-mul i w in
    omega arith

module _ (w count : ℕ) (xs : List ℕ) (size : length xs ≡ count * w) (i : ℕ) (inside : i < count) where
  fits : i * w + w ≤ length xs
  fits = omega (arith, row_fits w i count inside)

  pub row-length : length (row_at w i xs) ≡ w
  unfolding row_at
  row-length = part_length (i * w) w xs fits

  -- word k of row i
  pub row_word : (k : ℕ) → k < w → get_or (row_at w i xs) k 0 ≡ get_or xs (i * w + k) 0
  unfolding row_at
  row_word k h = get_or-take w _ k 0 h ∙ get_or-drop (i * w) xs k 0

  pub put-row : put_row w i (row_at w i xs) xs ≡ xs
  unfolding row_at put_row
  put-row = put-part (i * w) w xs fits

  module _ (r : List ℕ) (same : length r ≡ w) where
    pub put-row-length : length (put_row w i r xs) ≡ length xs
    unfolding put_row
    put-row-length = put-length (i * w) w xs fits r same

    pub row_put : row_at w i (put_row w i r xs) ≡ r
    unfolding row_at put_row
    row_put = part-put (i * w) w xs fits r same

    pub row_other : (j : ℕ) → j < count → (j ≡ i → ⊥) → row_at w j (put_row w i r xs) ≡ row_at w j xs
    unfolding row_at put_row
    row_other j h d =
        part-other (i * w) w xs fits r same (j * w) w (omega (arith, row_fits w j count h)) (side (dec_lt j i))
      where
        side : Dec (j < i) → (j * w + w ≤ i * w) ⊎ (i * w + w ≤ j * w)
        side (yes l) = inl (row_fits w j i l)
        side (no l) = inr (row_fits w i j (omega arith))

-- ---- a lent part of a slice

-- `&xs[a..]`
pub rest-is : (a : ℕ) (xs : List ℕ) → take (length xs - a) (drop a xs) ≡ drop a xs
rest-is a xs = take_all (length xs - a) (drop a xs) (omega (arith, length-drop a xs))

-- one that is a row
module _ (w i : ℕ) {a e : ℕ} (xs : List ℕ) (starts : a ≡ i * w) (ends : e ≡ a + w) where
  wide : e - a ≡ w
  wide = omega arith

  -- `&xs[a..e]`
  pub part-row : take (e - a) (drop a xs) ≡ row_at w i xs
  unfolding row_at
  part-row = rw (wide, starts)

  -- xs after `&mut xs[a..e]` came back as f of what it was
  pub changed_row : (f : List ℕ → List ℕ) {r : List ℕ} → r ≡ f (take (e - a) (drop a xs))
      → take a xs ++ (r ++ drop (e - a) (drop a xs)) ≡ put_row w i (f (row_at w i xs)) xs
  unfolding put_row
  changed_row f h = rw (h, part-row, wide, starts)

-- where a row starts, by a width that is w
pub start-of-width : (i k : ℕ) {r m w : ℕ} → m ≡ w → (r ≡ i * m) × (r + m ≤ k * m) × (r ≤ 65536) → (r ≡ i * w) × (r + w ≤ k * w) × (r ≤ 65536)
start-of-width i k e h = rw (← e) h

-- ---- nodes and channels

pub pair_lt : (n u v : ℕ) → Node n u → Node n v → pair_of n u v < n * n
pair_lt n u v a b = omega (arith, row_fits n (u - 1) n (omega arith))

module _ (n u : ℕ) (a : Node n u) (ns : List ℕ) (size : length ns ≡ n * width n) where
  pub node-length : length (node_of n u ns) ≡ width n
  node-length = row-length (width n) n ns size (u - 1) (omega arith)

  module _ (row : List ℕ) (full : length row ≡ width n) where
    pub node-put-length : length (put_node n u row ns) ≡ n * width n
    node-put-length = put-row-length (width n) n ns size (u - 1) (omega arith) row full ∙ size

    pub node-put : node_of n u (put_node n u row ns) ≡ row
    node-put = row_put (width n) n ns size (u - 1) (omega arith) row full

    pub node-other : (w : ℕ) → Node n w → (w ≡ u → ⊥) → node_of n w (put_node n u row ns) ≡ node_of n w ns
    node-other w b d = row_other (width n) n ns size (u - 1) (omega arith) row full (w - 1) (omega arith) (λ e. d (omega arith))

-- two pairs of nodes with one cell are one pair
pub pair_same : (n u v w x : ℕ) → Node n u → Node n v → Node n w → Node n x → pair_of n w x ≡ pair_of n u v → (w ≡ u) × (x ≡ v)
pair_same n u v w x a b c d e = go (dec_lt w u) (dec_lt u w)
  where
    go : Dec (w < u) → Dec (u < w) → (w ≡ u) × (x ≡ v)
    go (yes l) q = absurd (omega (arith, row_fits n (w - 1) (u - 1) (omega arith)))
    go (no l) (yes m) = absurd (omega (arith, row_fits n (u - 1) (w - 1) (omega arith)))
    go (no l) (no m) = let q : w ≡ u = omega arith in let f : pair_of n u x ≡ pair_of n u v = rw q at e in (q, omega arith)

module _ (n u v : ℕ) (a : Node n u) (b : Node n v) (cs : List ℕ) (size : length cs ≡ n * n * cell_width) where
  pub channel-length : length (channel_of n u v cs) ≡ cell_width
  channel-length = row-length cell_width (n * n) cs size (pair_of n u v) (pair_lt n u v a b)

  module _ (cell : List ℕ) (full : length cell ≡ cell_width) where
    pub channel-put-length : length (put_channel n u v cell cs) ≡ n * n * cell_width
    channel-put-length = put-row-length cell_width (n * n) cs size (pair_of n u v) (pair_lt n u v a b) cell full ∙ size

    pub channel-put : channel_of n u v (put_channel n u v cell cs) ≡ cell
    channel-put = row_put cell_width (n * n) cs size (pair_of n u v) (pair_lt n u v a b) cell full

    pub channel-other : (w x : ℕ) → Node n w → Node n x → ((w ≡ u) × (x ≡ v) → ⊥)
        → channel_of n w x (put_channel n u v cell cs) ≡ channel_of n w x cs
    channel-other w x c d f =
        row_other cell_width (n * n) cs size (pair_of n u v) (pair_lt n u v a b) cell full (pair_of n w x) (pair_lt n w x c d)
        (λ e. f (pair_same n u v w x a b c d e))

-- ---- where a row holds the height of node v

pub height-from-start : (row : List ℕ) (v : ℕ) → 1 ≤ v → height_in row v ≡ height_at row (3 + (v - 1) * 7)
unfolding height_in
height-from-start row zero h = absurd (omega arith)
height-from-start row (suc k) h = let e : k ≡ suc k - 1 = omega arith in ap (λ (j : ℕ). height_at row (3 + j * 7)) e

pub put-height-from-start : (row : List ℕ) (v : ℕ) (x : Height) → 1 ≤ v → put_height row v x ≡ stored_at row (3 + (v - 1) * 7) x
unfolding put_height
put-height-from-start row zero x h = absurd (omega arith)
put-height-from-start row (suc k) x h = let e : k ≡ suc k - 1 = omega arith in ap (λ (j : ℕ). stored_at row (3 + j * 7) x) e
