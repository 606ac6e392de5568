-- What a restore says depends on its bytes and the sizes of the lent tables alone, not on what these hold.
use Prim.Native.Nat.{ℕ}
use mathlib.Core.Bool.{cond}
use mathlib.Core.List.{List}
use mathlib.Core.Path.{◌≡◌}
use lib.Dec.{eqb}
use Rattle.basics.proofs.Tests.{Choice, yes!, no!, choice}
use Rattle.bits.specs.Bits.{unpacked}
use Rattle.image_reading.specs.Examine.{examined}
use Rattle.image_reading.specs.Header.{header_of}
use Rattle.image_reading.specs.declared.Fields.{Fields}
use Rattle.refusal.specs.Outcome.{Answered, outcome}
use Rattle.refusal.specs.Refusal.{why}
use Rattle.tables.specs.Tables.{Tables, sized}
use Rattle.tables.specs.inner.Fit.{Sized}
use Rattle.image.specs.Widths.{header_length, depth_width}
use Rattle.image_snapshot.specs.Restore.{restore_examined, restore_of, restore_headed, restore_on}

-- tables of one size are of the same size for every number of nodes
pub same_size : (n m : ℕ) (t u : Tables) → Sized n t → Sized n u → sized m t ≡ sized m u
unfolding sized
same_size n m t u a b = rw (a.nodes, b.nodes, a.channels, b.channels)

module _ (n : ℕ) (t u : Tables) (a : Sized n t) (b : Sized n u) (l : List ℕ) where
  said_of : (m : ℕ) → (restore_of m l t).said ≡ (restore_of m l u).said
  unfolding restore_of restore_examined
  said_of m = rw (same_size n m t u a b) (go (choice (sized m u)))
    where
      go : Choice (sized m u)
          → (cond (sized m u) (restore_examined m l t (examined header_length depth_width m l)) (outcome (why 1 0 0) t)).said
          ≡ (cond (sized m u) (restore_examined m l u (examined header_length depth_width m l)) (outcome (why 1 0 0) u)).said
      go (no! e) = rw e
      go (yes! e) = rw e

  said-headed : (h : Answered Fields) → (restore_headed l t h).said ≡ (restore_headed l u h).said
  unfolding restore_headed
  said-headed h = go (choice (eqb h.why.number 0))
    where
      go : Choice (eqb h.why.number 0) → (restore_headed l t h).said ≡ (restore_headed l u h).said
      go (no! e) = rw e
      go (yes! e) = rw e (said_of h.value.n)

pub restore-said : (n : ℕ) (t u : Tables) → Sized n t → Sized n u → (xs : List ℕ) → (restore_on xs t).said ≡ (restore_on xs u).said
unfolding restore_on
restore-said n t u a b xs = said-headed n t u a b (unpacked xs) (header_of xs)
