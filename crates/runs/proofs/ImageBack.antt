-- What lists of calls ask of images: an accepted save puts one out, one of a sound network whose times make sense is read as it, and a refused restore changes nothing.
-- Assumes 1 to 16 nodes.
use Prim.Native.Nat.{ℕ, ◌≤◌}
use native.Mathlib.Omega.{arith}
use mathlib.Core.Bool.{true}
use mathlib.Core.List.{List, [], ◌∷◌, ◌++◌}
use mathlib.Core.Path.{◌≡◌, refl, ap, ◌∙◌}
use borrow.Author.Tests.{eqb-true}
use lib.Dec.{eqb, leb}
use lib.ListN.{length, take, drop}
use Rattle.basics.proofs.Tests.{Choice, yes!, no!, choice}
use Rattle.calls.specs.Run.{RunState}
use Rattle.calls.proofs.Runs.{Sane}
use Rattle.image.specs.Image.{image}
use Rattle.image_snapshot.specs.Restore.{restore_on}
use Rattle.image_snapshot.proofs.RefusedLaws.{restore-kept}
use Rattle.image_snapshot.proofs.RestoreSaved.{restore-image}
use Rattle.lent.proofs.CheckLaws.{is-sized}
use Rattle.protocol.specs.Holds.{sound}
use Rattle.protocol.specs.Network.{Network, restrict}
use Rattle.protocol.specs.Times.{timely}
use Rattle.protocol.proofs.SoundStep.{sound-fits}
use Rattle.refusal.specs.Outcome.{outcome, put_front}
use Rattle.refusal.specs.Refusal.{why}
use Rattle.tables.specs.Load.{tables_of}
use Rattle.tables.proofs.Back.{storable, load-back, tables-sized}
use Rattle.runs.specs.OnTables.{put_out, writing}
use Rattle.runs.specs.inner.ByMeaning.{save_meant, restore_meant}

-- b is the image of the network p of n nodes
abbrev pub ImageOf : ℕ → Network → List ℕ → Type 0
ImageOf n p b = b ≡ image n p

-- ---- an accepted save

take-front : (b rest : List ℕ) → take (length b) (b ++ rest) ≡ b
take-front [] rest = refl
take-front (x ∷ b) rest = ap (λ (l : List ℕ). x ∷ l) (take-front b rest)

-- 0 is said exactly where the bytes fit, and then they stand at the front
pub put-out : (b out : List ℕ) → (put_front b out).said.why.number ≡ 0 → put_out (put_front b out) ≡ b
unfolding put_front
put-out b out zero! = go (choice (leb (length b) (length out))) zero!
  where
    go : Choice (leb (length b) (length out)) → (put_front b out).said.why.number ≡ 0 → put_out (put_front b out) ≡ b
    go (yes! e) z = rw e (take-front b (drop (length b) out))
    go (no! e) z = let y : ◌≡◌ {A = ℕ} 14 0 = rw e at z in absurd (omega arith)

-- a save by the meaning, accepted
pub record SaveGood (n m : ℕ) (out : List ℕ) (p : Network) : Type 0 where
  pub size : m ≡ n
  pub is : save_meant n m out p ≡ put_front (image n p) out
  pub bytes : put_out (save_meant n m out p) ≡ image n p

pub save-good : (n m : ℕ) (out : List ℕ) (p : Network) → (save_meant n m out p).said.why.number ≡ 0 → SaveGood n m out p
unfolding save_meant
save-good n m out p zero! = go (choice (eqb m n)) zero!
  where
    go : Choice (eqb m n) → (save_meant n m out p).said.why.number ≡ 0 → SaveGood n m out p
    go (yes! e) z = record { size = eqb-true m n e; is = rw e; bytes = rw e (put-out (image n p) out (rw e at z)) }
    go (no! e) z = let y : ◌≡◌ {A = ℕ} 1 0 = rw e at z in absurd (omega arith)

-- ---- the laws

module _ (n : ℕ) (low : 1 ≤ n) (few : n ≤ 16) where
  -- what a restore of a network's image does to tables of n nodes
  pub restore-of : (p : Network) (b : List ℕ) → sound n p ≡ true → restrict n p ≡ p → timely n p ≡ true → ImageOf n p b → (q : Network)
      → restore_on b (tables_of n q) ≡ outcome (why 0 0 0) (tables_of n p)
  restore-of p b holds inside times is q =
      ap (λ (x : List ℕ). restore_on x (tables_of n q)) is
      ∙ restore-image n low few p holds inside times (tables_of n q) (is-sized n (tables_of n q) (tables-sized n q low few))

  pub writes : (m : ℕ) (out : List ℕ) (p : Network) → (writing (save_meant n m out p)).said ≡ 0 → ImageOf n p (writing (save_meant n m out p)).after
  writes m out p zero! = (save-good n m out p zero!).bytes

  pub reads : (p : Network) (b : List ℕ) → sound n p ≡ true → restrict n p ≡ p → timely n p ≡ true → ImageOf n p b → (q : Network)
      → restore_meant n b q ≡ record { said = 0; after = p }
  unfolding restore_meant
  reads p b holds inside times is q = rw (restore-of p b holds inside times is q, load-back n p (storable n p (sound-fits n p inside holds)))

  pub kept : (b : List ℕ) (q : Network) → sound n q ≡ true → restrict n q ≡ q → ((restore_meant n b q).said ≡ 0 → ⊥) → (restore_meant n b q).after ≡ q
  unfolding restore_meant
  kept b q holds inside d = rw (restore-kept b (tables_of n q) d) (load-back n q (storable n q (sound-fits n q inside holds)))

  -- a run by the meaning whose state is good, and whose saves are images of good states
  abbrev pub SaneRun : RunState Network → Type 0
  SaneRun w = Sane (λ m out p. writing (save_meant n m out p)) (restore_meant n) n (ImageOf n) writes reads kept w
