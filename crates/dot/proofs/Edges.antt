-- Edge lines one by one: what is read at the front of an edge's line is the edge; from any bytes the lines found and what stands behind them.
use Prim.Native.Nat.{ℕ, zero, suc, ◌≤◌, ◌<◌}
use native.Mathlib.Omega.{arith}
use mathlib.Core.Bool.{true, false, cond}
use mathlib.Core.List.{List, [], ◌∷◌, ◌++◌, append_assoc, flat_map}
use mathlib.Core.Path.{◌≡◌, refl, sym, ap, ap₂, ◌∙◌}
use borrow.Author.Tests.{ltb-true}
use lib.Dec.{ltb}
use lib.ListN.{length, drop, length-drop}
use lib.Seq.{drop-append_seam}
use Rattle.basics.specs.Functions.{all}
use Rattle.basics.proofs.Tests.{and_left, and_right, and_both, Choice, yes!, no!, choice}
use Rattle.commands.specs.Commands.{number_of}
use Rattle.text.specs.Text.{decimal}
use Rattle.dot.specs.Graph.{edge, foot, line_end, between, edge_line, edge_lines}
use Rattle.dot.specs.Sketch.{starts_with, digits_at, number_at, edge_at, numbered, starts_with_edge, edges_at, edges_of}
use Rattle.dot.specs.declared.Edge.{Edge}
use Rattle.dot.proofs.Numbers.{ReadBack, number-back}
use Rattle.dot.proofs.Pieces.{edge-length}
use Rattle.dot.proofs.Starts.{starts-append, starts-split, starts-long}

pub record Numbered (e : Edge) : Type 0 where
  pub first : e.first < 100
  pub second : e.second < 100

pub is-numbered : (e : Edge) → numbered e ≡ true → Numbered e
unfolding numbered
is-numbered e h = record {
  first = ltb-true e.first 100 (and_left (ltb e.first 100) (ltb e.second 100) h);
  second = ltb-true e.second 100 (and_right (ltb e.first 100) (ltb e.second 100) h);
}

-- ---- one line

module _ (mark : ℕ) (e : Edge) (ys : List ℕ) where
  -- from the second number on, and from the first
  abbrev pub from_second : List ℕ
  from_second = decimal e.second ++ (line_end ++ ys)

  abbrev pub from_first : List ℕ
  from_first = decimal e.first ++ (between mark ++ from_second)

  pub line-apart : edge_line mark e ++ ys ≡ 32 ∷ 32 ∷ from_first
  unfolding edge_line
  line-apart =
      ap (λ (l : List ℕ). 32 ∷ 32 ∷ l)
      (append_assoc (decimal e.first) (between mark ++ (decimal e.second ++ line_end)) ys
      ∙ ap (λ (l : List ℕ). decimal e.first ++ (between mark ++ l)) (append_assoc (decimal e.second) line_end ys))

  pub edge-back : numbered e ≡ true → edge_at (edge_line mark e ++ ys) ≡ e
  unfolding edge_at
  edge-back h =
      let n = is-numbered e h in
      let a : ReadBack e.first from_first = number-back e.first n.first 32 (45 ∷ mark ∷ 32 ∷ from_second) refl in
      let b : ReadBack e.second from_second = number-back e.second n.second 59 (10 ∷ ys) refl in
      let behind : drop (digits_at from_first) from_first ≡ between mark ++ from_second =
      ap (λ (k : ℕ). drop k from_first) a.size ∙ drop-append_seam (decimal e.first) (between mark ++ from_second) in
      ap edge_at line-apart ∙ ap₂ edge a.number (ap (λ (l : List ℕ). number_at (drop 4 l)) behind ∙ b.number)

  edge-starts : numbered e ≡ true → starts_with_edge mark (edge_line mark e ++ ys) ≡ true
  unfolding starts_with_edge
  edge-starts h = rw (edge-back h) (and_both h (starts-append (edge_line mark e) ys))

-- the foot is no edge line
pub foot-no-edge : (mark : ℕ) → starts_with_edge mark foot ≡ false
unfolding starts_with_edge edge_at number_at digits_at numbered number_of
foot-no-edge mark = refl

-- ---- from any bytes

module _ (mark : ℕ) (xs : List ℕ) (h : starts_with_edge mark xs ≡ true) where
  found-numbered : numbered (edge_at xs) ≡ true
  unfolding starts_with_edge
  found-numbered = and_left (numbered (edge_at xs)) (starts_with (edge_line mark (edge_at xs)) xs) h

  found-starts : starts_with (edge_line mark (edge_at xs)) xs ≡ true
  unfolding starts_with_edge
  found-starts = and_right (numbered (edge_at xs)) (starts_with (edge_line mark (edge_at xs)) xs) h

  found-split : xs ≡ edge_line mark (edge_at xs) ++ drop (length (edge_line mark (edge_at xs))) xs
  found-split = starts-split (edge_line mark (edge_at xs)) xs found-starts

  pub found-long : length (edge_line mark (edge_at xs)) ≤ length xs
  found-long = starts-long (edge_line mark (edge_at xs)) xs found-starts

pub line-some : (mark : ℕ) (e : Edge) → 8 ≤ length (edge_line mark e)
line-some mark e = omega (arith, edge-length mark e)

-- as many lines as bytes are enough
edges-enough : (mark k j : ℕ) (xs : List ℕ) → length xs ≤ k → length xs ≤ j → edges_at mark k xs ≡ edges_at mark j xs
unfolding edges_at
edges-enough mark zero zero xs a b = refl
edges-enough mark zero (suc j) xs a b = go (choice (starts_with_edge mark xs))
  where
    go : Choice (starts_with_edge mark xs) → edges_at mark zero xs ≡ edges_at mark (suc j) xs
    go (yes! h) = absurd (omega (arith, found-long mark xs h, line-some mark (edge_at xs)))
    go (no! h) = rw h refl
edges-enough mark (suc k) zero xs a b = go (choice (starts_with_edge mark xs))
  where
    go : Choice (starts_with_edge mark xs) → edges_at mark (suc k) xs ≡ edges_at mark zero xs
    go (yes! h) = absurd (omega (arith, found-long mark xs h, line-some mark (edge_at xs)))
    go (no! h) = rw h refl
edges-enough mark (suc k) (suc j) xs a b = go (edges-enough mark k j) (choice (starts_with_edge mark xs))
  where
    behind : List ℕ
    behind = drop (length (edge_line mark (edge_at xs))) xs

    go : ((ys : List ℕ) → length ys ≤ k → length ys ≤ j → edges_at mark k ys ≡ edges_at mark j ys) → Choice (starts_with_edge mark xs)
        → edges_at mark (suc k) xs ≡ edges_at mark (suc j) xs
    go ih (yes! h) =
        let less = length-drop (length (edge_line mark (edge_at xs))) xs in
        let some = line-some mark (edge_at xs) in
        ap (λ (l : List Edge). cond (starts_with_edge mark xs) (edge_at xs ∷ l) []) (ih behind (omega (arith, less, some)) (omega (arith, less, some)))
    go ih (no! h) = rw h refl

-- one more than bytes
edges-one : (mark : ℕ) (xs : List ℕ) → edges_of mark xs ≡ edges_at mark (suc (length xs)) xs
unfolding edges_of
edges-one mark xs = edges-enough mark (length xs) (suc (length xs)) xs (omega arith) (omega arith)

pub edges-stop : (mark : ℕ) (xs : List ℕ) → starts_with_edge mark xs ≡ false → edges_of mark xs ≡ []
unfolding edges_at
edges-stop mark xs h = edges-one mark xs ∙ rw h refl

pub edges_step : (mark : ℕ) (xs : List ℕ) → starts_with_edge mark xs ≡ true
    → edges_of mark xs ≡ edge_at xs ∷ edges_of mark (drop (length (edge_line mark (edge_at xs))) xs)
unfolding edges_at edges_of
edges_step mark xs h =
    let behind = drop (length (edge_line mark (edge_at xs))) xs in
    let less = length-drop (length (edge_line mark (edge_at xs))) xs in
    let same = edges-enough mark (length xs) (length behind) behind (omega (arith, less)) (omega arith) in
    edges-one mark xs ∙ rw h (ap (λ (l : List Edge). edge_at xs ∷ l) same)

-- ---- lines that stand there are found, and nothing else is

pub lines_cons : (mark : ℕ) (e : Edge) (es : List Edge) (ys : List ℕ) → edge_lines mark (e ∷ es) ++ ys ≡ edge_line mark e ++ (edge_lines mark es ++ ys)
unfolding edge_lines flat_map
lines_cons mark e es ys = append_assoc (edge_line mark e) (edge_lines mark es) ys

pub edges-found : (mark : ℕ) (es : List Edge) (ys : List ℕ) → all numbered es ≡ true → starts_with_edge mark ys ≡ false
    → edges_of mark (edge_lines mark es ++ ys) ≡ es
unfolding edge_lines flat_map all
edges-found mark [] ys h stop = edges-stop mark ys stop
edges-found mark (e ∷ es) ys h stop =
    let first = and_left (numbered e) (all numbered es) h in
    let rest = edge_lines mark es ++ ys in
    let more = edges-found mark es ys (and_right (numbered e) (all numbered es) h) stop in
    let is = edge-back mark e rest first in
    let behind : drop (length (edge_line mark (edge_at (edge_line mark e ++ rest)))) (edge_line mark e ++ rest) ≡ rest =
    ap (λ (x : Edge). drop (length (edge_line mark x)) (edge_line mark e ++ rest)) is ∙ drop-append_seam (edge_line mark e) rest in
    ap (edges_of mark) (lines_cons mark e es ys)
    ∙ edges_step mark (edge_line mark e ++ rest) (edge-starts mark e rest first)
    ∙ ap₂ (λ (x : Edge) (l : List Edge). x ∷ l) is (ap (edges_of mark) behind ∙ more)

-- what stands behind the lines found
pub record Behind (mark : ℕ) (xs : List ℕ) : Type 0 where
  pub rest : List ℕ
  pub split : xs ≡ edge_lines mark (edges_of mark xs) ++ rest
  pub numbers : all numbered (edges_of mark xs) ≡ true

stopped : (mark : ℕ) (xs : List ℕ) → starts_with_edge mark xs ≡ false → Behind mark xs
unfolding edge_lines flat_map all
stopped mark xs h = let e = edges-stop mark xs h in record { rest = xs; split = rw e refl; numbers = rw e refl }

went_on : (mark : ℕ) (xs : List ℕ) → starts_with_edge mark xs ≡ true → Behind mark (drop (length (edge_line mark (edge_at xs))) xs) → Behind mark xs
unfolding edge_lines flat_map all
went_on mark xs h b =
    let e = edges_step mark xs h in
    let behind = drop (length (edge_line mark (edge_at xs))) xs in record {
      rest = b.rest;
      split =
          found-split mark xs h
          ∙ (ap (λ (l : List ℕ). edge_line mark (edge_at xs) ++ l) b.split
          ∙ (sym (lines_cons mark (edge_at xs) (edges_of mark behind) b.rest) ∙ ap (λ (es : List Edge). edge_lines mark es ++ b.rest) (sym e)));
      numbers = ap (all numbered) e ∙ and_both (found-numbered mark xs h) b.numbers;
    }

pub edges-behind : (mark : ℕ) (k : ℕ) (xs : List ℕ) → length xs ≤ k → Behind mark xs
edges-behind mark zero xs l = go (choice (starts_with_edge mark xs))
  where
    go : Choice (starts_with_edge mark xs) → Behind mark xs
    go (yes! h) = absurd (omega (arith, found-long mark xs h, line-some mark (edge_at xs)))
    go (no! h) = stopped mark xs h
edges-behind mark (suc k) xs l = go (edges-behind mark k) (choice (starts_with_edge mark xs))
  where
    go : ((ys : List ℕ) → length ys ≤ k → Behind mark ys) → Choice (starts_with_edge mark xs) → Behind mark xs
    go ih (yes! h) =
        let less = length-drop (length (edge_line mark (edge_at xs))) xs in
        let some = line-some mark (edge_at xs) in
        went_on mark xs h (ih (drop (length (edge_line mark (edge_at xs))) xs) (omega (arith, less, some)))
    go ih (no! h) = stopped mark xs h
