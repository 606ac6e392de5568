-- An image tells its network: networks with the same image are equal, and so are their numbers of nodes.
-- Assumes 1 to 16 nodes, and networks that break no rule and hold nothing beyond node n.
use Prim.Native.Nat.{ℕ, ◌≤◌}
use mathlib.Core.Bool.{true}
use mathlib.Core.Path.{◌≡◌, sym, ap, ◌∙◌}
use mathlib.Core.List.{List}
use Rattle.bits.specs.Bits.{unpacked}
use Rattle.image.specs.Image.{image}
use Rattle.image.specs.Places.{tables_in}
use Rattle.image_reading.specs.Header.{fields_of}
use Rattle.lent.specs.Check.{check_on}
use Rattle.lent.proofs.CheckLaws.{sound-sized}
use Rattle.lent.proofs.SoundLoads.{sound-loads, load_inside}
use Rattle.lent.proofs.SoundTables.{Words, sound-fits as tables-fit}
use Rattle.protocol.specs.Holds.{sound}
use Rattle.protocol.specs.Network.{Network, restrict}
use Rattle.protocol.proofs.SoundStep.{sound-fits}
use Rattle.tables.specs.Load.{load, tables_of}
use Rattle.tables.specs.Tables.{Tables}
use Rattle.tables.proofs.Back.{storable, load-back}
use Rattle.image.specs.Widths.{header_length, depth_width}
use Rattle.image_snapshot.proofs.ImageLaws.{image-fields, image-tables}

-- a network of n nodes that breaks no rule
pub record Savable (n : ℕ) (p : Network) : Type 0 where
  pub low : 1 ≤ n
  pub few : n ≤ 16
  pub holds : sound n p ≡ true
  pub inside : restrict n p ≡ p

-- there are such: every set of tables that passes the check holds one
pub passing-savable : (n : ℕ) (t : Tables) → Words t → (check_on n t).number ≡ 0 → Savable n (load n t)
passing-savable n t words passes =
    let size = sound-sized n t passes in
    record {
      low = size.low;
      few = size.few;
      holds = sound-loads n t words passes;
      inside = load_inside n t (tables-fit n t words passes);
    }

pub same_count : (n m : ℕ) (p q : Network) → Savable n p → Savable m q → image n p ≡ image m q → n ≡ m
same_count n m p q a b e =
    sym (ap (λ f. f.n) (image-fields n a.low a.few p a.holds a.inside))
    ∙ (ap (λ (xs : List ℕ). (fields_of xs).n) e ∙ ap (λ f. f.n) (image-fields m b.low b.few q b.holds b.inside))

pub same-network : (n : ℕ) (p q : Network) → Savable n p → Savable n q → image n p ≡ image n q → p ≡ q
same-network n p q a b e =
    let tp = image-tables n a.low a.few p a.holds a.inside in
    let tq = image-tables n b.low b.few q b.holds b.inside in
    let tables : tables_of n p ≡ tables_of n q = sym tp ∙ (ap (λ (xs : List ℕ). tables_in header_length depth_width n (unpacked xs)) e ∙ tq) in
    sym (load-back n p (storable n p (sound-fits n p a.inside a.holds)))
    ∙ (ap (load n) tables ∙ load-back n q (storable n q (sound-fits n q b.inside b.holds)))
