-- The steps of `read`: 16, 1, 17, or the plot.
use Prim.Native.Nat.{ℕ, ◌≤◌}
use native.Mathlib.Omega.{arith}
use mathlib.Core.Bool.{Bool, true, false}
use mathlib.Core.List.{List, []}
use mathlib.Core.Path.{◌≡◌, refl, sym, ap, ◌∙◌}
use Rattle.calls.specs.History.{grown}
use Rattle.dot.specs.Sketch.{Sketch, sketch_of}
use Rattle.dot.proofs.Exactly.{nodes-none, nodes-some}
use Rattle.refusal.specs.Outcome.{Answered, outcome}
use Rattle.refusal.specs.Refusal.{why}
use Rattle.tables.specs.Load.{tables_of}
use Rattle.tables.specs.Tables.{Tables, sized}
use Rattle.drawing.specs.Links.{links_hold, ups_of}
use Rattle.drawing.specs.Read.{read_links, read_sized, read_sketch, read_on}
use Rattle.drawing.specs.inner.Seen.{edges_read}

pub few : (xs : List ℕ) (k : ℕ) → k ≡ (sketch_of xs).value.nodes → 1 ≤ k → k ≤ 16
few xs k is some = rw is (nodes-some xs (λ z. absurd (omega (arith, is, z)))).1.few

pub read_none : (xs : List ℕ) (t : Tables) → (sketch_of xs).value.nodes ≡ 0 → outcome (why 16 0 0) t ≡ read_on xs t
unfolding read_on read_sketch
read_none xs t z = sym (ap (λ (s : Answered Sketch). read_sketch s t) (nodes-none xs z))

module _ (xs : List ℕ) (t : Tables) (k : ℕ) (is : k ≡ (sketch_of xs).value.nodes) where
  module _ (some : 1 ≤ k) where
    read_some : read_on xs t ≡ read_sized k (edges_read xs) t
    unfolding read_on read_sketch
    read_some =
        ap (λ (s : Answered Sketch). read_sketch s t) (nodes-some xs (λ z. absurd (omega (arith, is, z)))).0
        ∙ ap (λ (n : ℕ). read_sized n (edges_read xs) t) (sym is)

    module _ (b : Bool) (s : b ≡ sized k t) where
      pub read-sizes : b ≡ false → outcome (why 1 0 0) t ≡ read_on xs t
      unfolding read_sized
      read-sizes h = sym (read_some ∙ rw (sym s ∙ h) refl)

      module _ (fit : b ≡ true) (c : Bool) (l : c ≡ links_hold k [] (edges_read xs)) where
        pub read-links : c ≡ false → outcome (why 17 0 0) t ≡ read_on xs t
        unfolding read_sized read_links
        read-links h = sym (read_some ∙ rw (sym s ∙ fit, sym l ∙ h) refl)

        pub read-plot : c ≡ true → (u : Tables) → u ≡ tables_of k (grown k (ups_of (edges_read xs))).network → outcome (why 0 0 0) u ≡ read_on xs t
        unfolding read_sized read_links
        read-plot h u e = ap (outcome (why 0 0 0)) e ∙ sym (read_some ∙ rw (sym s ∙ fit, sym l ∙ h) refl)
