-- Edge lines taken one by one by a caller: while more than the foot is left there is a next edge, and what stands behind its line.
use Prim.Native.Nat.{ℕ, ◌+◌, ◌-◌, ◌≤◌, ◌<◌}
use native.Mathlib.Omega.{arith}
use mathlib.Core.List.{List, [], ◌∷◌, ◌++◌, flat_map}
use mathlib.Core.Path.{◌≡◌, refl, sym, ap, ◌∙◌}
use lib.ListN.{length, drop, length-append, length-drop}
use lib.Seq.{drop-drop, drop-append_seam}
use Rattle.basics.specs.Functions.{all}
use Rattle.basics.proofs.Tests.{and_left, and_right}
use Rattle.dot.specs.Graph.{foot, dash, edge_line, edge_lines}
use Rattle.dot.specs.Sketch.{edge_at, numbered}
use Rattle.dot.specs.declared.Edge.{Edge}
use Rattle.dot.specs.inner.Ahead.{Ahead}
use Rattle.dot.proofs.Edges.{edge-back, lines_cons, line-some}

pub record Next (xs : List ℕ) (at : ℕ) (es : List Edge) : Type 0 where
  pub edge : Edge
  pub rest : List Edge
  pub split : es ≡ edge ∷ rest
  pub read : edge_at (drop at xs) ≡ edge
  pub on : Ahead xs (at + length (edge_line dash edge)) rest

left-long : (xs : List ℕ) (at : ℕ) (es : List Edge) → Ahead xs at es → length xs - at ≡ length (edge_lines dash es ++ foot)
left-long xs at es a = sym (length-drop at xs) ∙ ap length a.rest

pub ahead-next : (xs : List ℕ) (at : ℕ) (es : List Edge) → Ahead xs at es → 2 < length xs - at → Next xs at es
unfolding edge_lines flat_map all
ahead-next xs at [] a h = absurd (omega (arith, left-long xs at [] a, h))
ahead-next xs at (e ∷ es) a h =
    let first = and_left (numbered e) (all numbered es) a.numbers in
    let rest = edge_lines dash es ++ foot in
    let here : drop at xs ≡ edge_line dash e ++ rest = a.rest ∙ lines_cons dash e es foot in
    let long = left-long xs at (e ∷ es) a ∙ (ap length (lines_cons dash e es foot) ∙ length-append (edge_line dash e) rest) in
    record {
      edge = e;
      rest = es;
      split = refl;
      read = ap edge_at here ∙ edge-back dash e rest first;
      on = record {
        inside = omega (arith, long, h);
        numbers = and_right (numbered e) (all numbered es) a.numbers;
        rest = sym (drop-drop (length (edge_line dash e)) at xs) ∙ (ap (drop (length (edge_line dash e))) here ∙ drop-append_seam (edge_line dash e) rest);
      };
    }

pub ahead-done : (xs : List ℕ) (at : ℕ) (es : List Edge) → Ahead xs at es → length xs - at ≤ 2 → es ≡ []
unfolding edge_lines flat_map
ahead-done xs at [] a h = refl
ahead-done xs at (e ∷ es) a h =
    let rest = edge_lines dash es ++ foot in
    let long = left-long xs at (e ∷ es) a ∙ (ap length (lines_cons dash e es foot) ∙ length-append (edge_line dash e) rest) in
    absurd (omega (arith, long, h, line-some dash e, length-append (edge_lines dash es) foot))
