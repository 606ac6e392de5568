-- The lines as pieces poured one behind the other, and how long they can be.
use Prim.Native.Nat.{ℕ, ◌+◌, ◌≤◌}
use native.Mathlib.Omega.{arith}
use mathlib.Core.List.{List, [], ◌∷◌, ◌++◌}
use mathlib.Core.Path.{◌≡◌, refl}
use lib.ListN.{length, length-append}
use Rattle.text.specs.Text.{decimal}
use Rattle.text.proofs.TextLaws.{length-decimal-le}
use Rattle.dot.specs.Graph.{line_end, node_line, between, edge_line}
use Rattle.dot.specs.declared.Edge.{Edge}

-- two spaces
abbrev indent : List ℕ
indent = 32 ∷ 32 ∷ []

pub node-pieces : (k : ℕ) → indent ++ (decimal k ++ line_end) ≡ node_line k
unfolding node_line
node-pieces k = refl

pub edge-pieces : (mark : ℕ) (e : Edge) → indent ++ (decimal e.first ++ (between mark ++ (decimal e.second ++ line_end))) ≡ edge_line mark e
unfolding edge_line
edge-pieces mark e = refl

pub node-le : (k : ℕ) → length (node_line k) ≤ 14
unfolding node_line
node-le k = omega (arith, length-append (decimal k) line_end, length-decimal-le k)

pub edge-length : (mark : ℕ) (e : Edge) → length (edge_line mark e) ≡ length (decimal e.first) + length (decimal e.second) + 8
unfolding edge_line
edge-length mark e =
    omega (
      arith,
      length-append (decimal e.first) (between mark ++ (decimal e.second ++ line_end)),
      length-append (decimal e.second) line_end,
    )

pub edge-le : (mark : ℕ) (e : Edge) → length (edge_line mark e) ≤ 28
edge-le mark e = omega (arith, edge-length mark e, length-decimal-le e.first, length-decimal-le e.second)
