-- Node lines one by one: what is counted is what stands there, and lines 1 to n that stand there are counted, where no line of node n + 1 follows.
use Prim.Native.Nat.{ℕ, zero, suc, ◌+◌, ◌≤◌, ◌<◌}
use native.Mathlib.Nat.{add-zero}
use native.Mathlib.Omega.{arith}
use mathlib.Core.Bool.{true, false}
use mathlib.Core.List.{List, [], ◌∷◌, ◌++◌, append_assoc, append-nil}
use mathlib.Core.Path.{◌≡◌, refl, sym, ap, ◌∙◌}
use lib.ListN.{length, drop}
use lib.Seq.{drop-append_seam}
use Rattle.basics.proofs.Tests.{Choice, yes!, no!, choice, not-true-is-false}
use Rattle.text.specs.Text.{decimal, in_turn}
use Rattle.dot.specs.Graph.{foot, line_end, node_line, edge_line}
use Rattle.dot.specs.Sketch.{starts_with, numbered, nodes_at}
use Rattle.dot.specs.declared.Edge.{Edge}
use Rattle.dot.proofs.Edges.{from_second, from_first, line-apart, is-numbered}
use Rattle.dot.proofs.Numbers.{next_byte, next-back}
use Rattle.dot.proofs.Starts.{starts-append, starts-split}

-- ---- what is counted stands there

-- after k lines, and those counted
pub record Counted (k m : ℕ) (xs : List ℕ) : Type 0 where
  pub rest : List ℕ
  pub split : in_turn k node_line ++ xs ≡ in_turn (k + nodes_at m (suc k) xs) node_line ++ rest
  pub most : nodes_at m (suc k) xs ≤ m

one_more : (k : ℕ) (xs : List ℕ) → in_turn k node_line ++ (node_line (suc k) ++ xs) ≡ in_turn (suc k) node_line ++ xs
unfolding in_turn
one_more k xs = sym (append_assoc (in_turn k node_line) (node_line (suc k)) xs)

none_more : (k m : ℕ) (xs : List ℕ) → nodes_at m (suc k) xs ≡ 0 → Counted k m xs
none_more k m xs e = record {
  rest = xs;
  split = ap (λ (j : ℕ). in_turn j node_line ++ xs) (sym (add-zero k) ∙ ap (λ (j : ℕ). k + j) (sym e));
  most = omega (arith, e);
}

pub counted : (k m : ℕ) (xs : List ℕ) → Counted k m xs
unfolding nodes_at
counted k zero xs = none_more k zero xs refl
counted k (suc m) xs = go (counted (suc k) m behind) (choice (starts_with (node_line (suc k)) xs))
  where
    behind : List ℕ
    behind = drop (length (node_line (suc k))) xs

    go : Counted (suc k) m behind → Choice (starts_with (node_line (suc k)) xs) → Counted k (suc m) xs
    go c (no! h) = none_more k (suc m) xs (rw h refl)
    go c (yes! h) =
        let e : nodes_at (suc m) (suc k) xs ≡ suc (nodes_at m (suc (suc k)) behind) = rw h refl in
        let f : suc k + nodes_at m (suc (suc k)) behind ≡ k + nodes_at (suc m) (suc k) xs = omega (arith, e) in record {
          rest = c.rest;
          split =
              ap (λ (l : List ℕ). in_turn k node_line ++ l) (starts-split (node_line (suc k)) xs h)
              ∙ (one_more k behind ∙ (c.split ∙ ap (λ (j : ℕ). in_turn j node_line ++ c.rest) f));
          most = omega (arith, e, c.most);
        }

-- ---- what stands there is counted

-- the line of node k + 1, and so on, j lines
unfoldable pub lines_from : ℕ → ℕ → List ℕ
lines_from k zero = []
lines_from k (suc j) = node_line (suc k) ++ lines_from (suc k) j

pub lines-from : (k j : ℕ) → in_turn k node_line ++ lines_from k j ≡ in_turn (k + j) node_line
unfolding lines_from
lines-from k zero = append-nil (in_turn k node_line) ∙ ap (λ (i : ℕ). in_turn i node_line) (sym (add-zero k))
lines-from k (suc j) =
    let e : suc k + j ≡ k + suc j = omega arith in
    one_more k (lines_from (suc k) j) ∙ (lines-from (suc k) j ∙ ap (λ (i : ℕ). in_turn i node_line) e)

pub nodes-found : (k j m : ℕ) (ys : List ℕ) → j ≤ m → ((i : ℕ) → i ≤ k + j + 1 → starts_with (node_line i) ys ≡ false)
    → nodes_at m (suc k) (lines_from k j ++ ys) ≡ j
unfolding nodes_at lines_from
nodes-found k zero zero ys l stop = refl
nodes-found k zero (suc m) ys l stop = rw (stop (suc k) (omega arith)) refl
nodes-found k (suc j) zero ys l stop = absurd (omega arith)
nodes-found k (suc j) (suc m) ys l stop =
    let rest = lines_from (suc k) j ++ ys in
    let apart = append_assoc (node_line (suc k)) (lines_from (suc k) j) ys in
    let more = nodes-found (suc k) j m ys (omega arith) (λ i h. stop i (omega arith)) in
    ap (nodes_at (suc m) (suc k)) apart
    ∙ rw (starts-append (node_line (suc k)) rest) (ap suc (ap (nodes_at m (suc (suc k))) (drop-append_seam (node_line (suc k)) rest) ∙ more))

-- ---- the foot and edge lines are no node lines

pub foot-no-node : (k : ℕ) → starts_with (node_line k) foot ≡ false
unfolding starts_with node_line
foot-no-node k = refl

node-apart : (k : ℕ) (ys : List ℕ) → node_line k ++ ys ≡ 32 ∷ 32 ∷ (decimal k ++ (line_end ++ ys))
unfolding node_line
node-apart k ys = ap (λ (l : List ℕ). 32 ∷ 32 ∷ l) (append_assoc (decimal k) line_end ys)

-- behind its number a node line has ";" and an edge line a space
pub edge-no-node : (k mark : ℕ) (e : Edge) (ys : List ℕ) → k < 100 → numbered e ≡ true → starts_with (node_line k) (edge_line mark e ++ ys) ≡ false
edge-no-node k mark e ys small h =
    not-true-is-false (starts_with (node_line k) (edge_line mark e ++ ys)) (λ t.
    let xs = edge_line mark e ++ ys in
    let rest = drop (length (node_line k)) xs in
    let both : 32 ∷ 32 ∷ (decimal k ++ (line_end ++ rest)) ≡ 32 ∷ 32 ∷ from_first mark e ys =
    sym (node-apart k rest) ∙ (sym (starts-split (node_line k) xs t) ∙ line-apart mark e ys) in
    let here : next_byte (decimal k ++ (line_end ++ rest)) ≡ 59 = next-back k small 59 (10 ∷ rest) refl in
    let there : next_byte (from_first mark e ys) ≡ 32 = next-back e.first (is-numbered e h).first 32 (45 ∷ mark ∷ 32 ∷ from_second mark e ys) refl in
    let same : next_byte (decimal k ++ (line_end ++ rest)) ≡ next_byte (from_first mark e ys) = ap (λ (l : List ℕ). next_byte (drop 2 l)) both in
    omega (arith, here, there, same))
