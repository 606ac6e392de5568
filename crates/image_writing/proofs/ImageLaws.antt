-- Document 01's image of tables that fit: how far its parts reach, that bytes as many as the image's have room for them, and that
-- they make the image when they are written end to end (`image-written`). Assumes that the tables fit.
use Prim.Native.Nat.{ℕ, ◌+◌, ◌-◌, ◌*◌, ◌/◌, ◌%◌, ◌^◌, ◌≤◌, ◌<◌}
use native.Mathlib.Omega.{arith}
use mathlib.Core.List.{List, ◌++◌, append_assoc}
use mathlib.Core.Path.{◌≡◌, sym, ap, ◌∙◌}
use lib.ListN.{length, drop, replicate, length-append, length-replicate}
use Rattle.bits.specs.inner.Written.{written}
use Rattle.bits.proofs.Bytes.{written-written}
use Rattle.bits.proofs.Numbers.{Below, below-append}
use Rattle.image.specs.Image.{header_bits, padded, image}
use Rattle.image.specs.Widths.{node_width}
use Rattle.image.specs.inner.Parts.{Inside, Depth}
use Rattle.image.proofs.Bounds.{nodes-small}
use Rattle.image.proofs.ImageBits.{below-header, length-header, length-bytes}
use Rattle.tables.specs.Load.{load}
use Rattle.tables.specs.Tables.{Tables}
use Rattle.tables.specs.inner.Fit.{TablesFit}
use Rattle.image_writing.specs.inner.Words.{nodes_bits, cells_bits, words_bits, Counts}
use Rattle.image_writing.proofs.FrontLaws.{image-front}
use Rattle.image_writing.proofs.LengthLaws.{length-nodes, below-nodes, below-cells, cells-le, cells-most}
use Rattle.image_writing.proofs.WordsLaws.{image-words}

pub depth-16 : Depth 16
depth-16 = record { low = omega arith; high = omega arith }

-- where the channels start, and where they end
abbrev cells_start : ℕ → ℕ
cells_start n = 32 + n * node_width 16 n

abbrev cells_end : ℕ → Tables → ℕ
cells_end n t = cells_start n + length (cells_bits 16 n t.channels)

module _ (n : ℕ) (t : Tables) (fit : TablesFit n t) where
  pub counts : Counts n t.channels
  counts = record { few = λ u v a b. (fit.cells u v a b).few }

  nodes-end : length (nodes_bits 16 n t.nodes) ≡ n * node_width 16 n
  nodes-end = length-nodes 16 n t.nodes fit.size.nodes

  words-end : length (words_bits 1 32 16 n t) ≡ cells_end n t
  unfolding words_bits
  words-end =
      let ns : List ℕ = nodes_bits 16 n t.nodes in
      let cs : List ℕ = cells_bits 16 n t.channels in
      omega (arith, length-append (header_bits 1 32 n) (ns ++ cs), length-append ns cs, length-header 1 32 n (omega arith), nodes-end)

  pub end-le : cells_end n t ≤ 325664
  unfolding cells_bits
  end-le =
      let few = fit.size.few in
      let nodes = nodes-small 16 n (omega arith) few in
      omega (arith, nodes, cells-le 16 n t.channels depth-16 fit.size.channels counts n (omega arith), cells-most n n few few)

  pub length-image : length (image n (load n t)) ≡ (cells_end n t + 7) / 8
  length-image = ap length (image-words n t fit) ∙ length-bytes (words_bits 1 32 16 n t) ∙ ap (λ (k : ℕ). (k + 7) / 8) words-end

  below-words : Below 2 (words_bits 1 32 16 n t)
  unfolding words_bits
  below-words =
      below-append 2 (header_bits 1 32 n) (nodes_bits 16 n t.nodes ++ cells_bits 16 n t.channels) (below-header 1 32 n)
      (below-append 2 (nodes_bits 16 n t.nodes) (cells_bits 16 n t.channels) (below-nodes 16 n t.nodes) (below-cells 16 n t.channels))

  module _ (xs : List ℕ) (long : length (image n (load n t)) ≤ length xs) where
    end-in : cells_end n t ≤ 8 * length xs
    end-in = omega (arith, long, length-image)

    pub header-room : 4 ≤ length xs
    header-room = omega (arith, end-in)

    -- ---- bytes ys as many as xs have room for the other parts

    module _ (ys : List ℕ) (same : length ys ≡ length xs) where
      pub nodes-room : Inside ys 32 (n * node_width 16 n)
      nodes-room = record { small = omega (arith, end-le); inside = omega (arith, end-in, same) }

      pub cells-room : Inside ys (cells_start n) (length (cells_bits 16 n t.channels))
      cells-room = record { small = omega (arith, end-le); inside = omega (arith, end-in, same) }

      pub pad-room : (e : ℕ) → e ≡ cells_end n t → (e < 2 ^ 31) × (e ≤ 8 * length ys)
      pad-room e is = (omega (arith, end-le, is), omega (arith, end-in, same, is))

    -- ---- header, nodes, channels and pad, end to end

    words-written : written (written (written xs 0 (header_bits 1 32 n)) 32 (nodes_bits 16 n t.nodes)) (cells_start n) (cells_bits 16 n t.channels)
        ≡ written xs 0 (words_bits 1 32 16 n t)
    unfolding words_bits
    words-written =
        let hs : List ℕ = header_bits 1 32 n in
        let ns : List ℕ = nodes_bits 16 n t.nodes in
        let cs : List ℕ = cells_bits 16 n t.channels in
        ap (λ (l : List ℕ). written l (cells_start n) cs)
        (written-written xs 0 hs ns 32 (below-header 1 32 n) (omega (arith, length-header 1 32 n (omega arith))) (omega (arith, nodes-end, end-in)))
        ∙ written-written xs 0 (hs ++ ns) cs (cells_start n) (below-append 2 hs ns (below-header 1 32 n) (below-nodes 16 n t.nodes))
        (omega (arith, length-append hs ns, length-header 1 32 n (omega arith), nodes-end)) end-in
        ∙ ap (written xs 0) (append_assoc hs ns cs)

    pad-written : (e : ℕ) → e ≡ cells_end n t
        → written (written xs 0 (words_bits 1 32 16 n t)) e (replicate ((8 - e % 8) % 8) 0) ≡ written xs 0 (padded (words_bits 1 32 16 n t))
    unfolding padded
    pad-written e is =
        let k : ℕ = (8 - e % 8) % 8 in
        let l : List ℕ = words_bits 1 32 16 n t in
        written-written xs 0 l (replicate k 0) e below-words (omega (arith, is, words-end))
        (omega (arith, length-replicate {A = ℕ} k 0, is, long, length-image))
        ∙ ap (λ (m : ℕ). written xs 0 (l ++ replicate ((8 - m % 8) % 8) 0)) (is ∙ sym words-end)

    pub image-written : Below 256 xs → {a b c d : List ℕ} {e : ℕ}
        → a ≡ written xs 0 (header_bits 1 32 n) → b ≡ written a 32 (nodes_bits 16 n t.nodes)
        → c ≡ written b (cells_start n) (cells_bits 16 n t.channels) → e ≡ cells_end n t
        → d ≡ written c e (replicate ((8 - e % 8) % 8) 0)
        → d ≡ image n (load n t) ++ drop (length (image n (load n t))) xs
    image-written low {a} {b} {c} {d} {e} ea eb ec is ed =
        let words : c ≡ written xs 0 (words_bits 1 32 16 n t) =
        ec ∙ ap (λ (l : List ℕ). written l (cells_start n) (cells_bits 16 n t.channels))
        (eb ∙ ap (λ (l : List ℕ). written l 32 (nodes_bits 16 n t.nodes)) ea)
        ∙ words-written in
        ed ∙ ap (λ (l : List ℕ). written l e (replicate ((8 - e % 8) % 8) 0)) words ∙ pad-written e is
        ∙ image-front (words_bits 1 32 16 n t) xs low (omega (arith, long, length-image, words-end))
        ∙ ap (λ (l : List ℕ). l ++ drop (length l) xs) (sym (image-words n t fit))
