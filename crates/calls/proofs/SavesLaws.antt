-- The last save that wrote given bytes: the newest such save counts. What each call does to the saves and to the
-- history, whatever it is made on: accepted events enter, accepted saves are kept, an accepted restore puts the history back.
use Prim.Native.Nat.{ℕ}
use native.Mathlib.Omega.{arith}
use mathlib.Core.Bool.{cond}
use mathlib.Core.List.{List, [], ◌∷◌}
use mathlib.Core.Path.{◌≡◌, refl, sym, ap, ◌∙◌}
use lib.Dec.{eqb}
use borrow.Author.Tests.{eq-eqb, ne_eqb}
use Rattle.basics.specs.Bytes.{same_bytes}
use Rattle.basics.proofs.AllOf.{AllOf, more}
use Rattle.basics.proofs.BytesLaws.{same_bytes-equal, bytes_same}
use Rattle.basics.proofs.Tests.{not-true-is-false, Choice, yes!, no!, choice}
use Rattle.protocol.specs.Step.{Event, home}
use Rattle.refusal.specs.Outcome.{Outcome}
use Rattle.calls.specs.History.{entry}
use Rattle.calls.specs.Run.{Call, event, save, restore, Calls, Saved, RunState, start_of_run, Earlier, saved_at, last_save, history_at, act}

-- ---- the last save

module _ {A : Type 0} (b : List ℕ) (s : Saved A) (ss : List (Saved A)) where
  -- of two saves that wrote the same bytes, the newer one counts
  pub newest-save : s.bytes ≡ b → last_save b (s ∷ ss) ≡ saved_at s
  newest-save e = rw (bytes_same b s.bytes (sym e))

  -- a save that wrote other bytes is passed over
  pub older-save : (s.bytes ≡ b → ⊥) → last_save b (s ∷ ss) ≡ last_save b ss
  older-save d = rw (not-true-is-false (same_bytes b s.bytes) (λ e. d (sym (same_bytes-equal b s.bytes e))))

-- it wrote these bytes, and what holds of all saves holds of it
pub found : {A : Type 0} (P : Saved A → Type 0) (b : List ℕ) (ss : List (Saved A)) → AllOf P ss → (s : Saved A) → last_save b ss ≡ saved_at s
    → (s.bytes ≡ b) × P s
found P b [] k s e = let z : ◌≡◌ {A = ℕ} 0 1 = cc in absurd (omega arith)
found {A = A} P b (x ∷ ss) (more h k) s e = go (found P b ss k s) (choice (same_bytes b x.bytes))
  where
    go : (last_save b ss ≡ saved_at s → (s.bytes ≡ b) × P s) → Choice (same_bytes b x.bytes) → (s.bytes ≡ b) × P s
    go ih (yes! z) =
        let q : ◌≡◌ {A = Earlier A} (saved_at x) (saved_at s) = rw z at e in
        let t : x ≡ s = cc in
        rw (← t) (sym (same_bytes-equal b x.bytes z), h)
    go ih (no! z) = ih (rw z at e)

-- ---- what calls do to saves and history, whatever they are made on

module _ {A : Type 0} (calls : Calls A) (w : RunState A) where
  -- right after an accepted save it is the last one that wrote its bytes
  pub save-last : (m : ℕ) (out : List ℕ) → (calls.written m out w.now).said ≡ 0
      → last_save (calls.written m out w.now).after (act calls w (save m out)).saves
      ≡ saved_at (record { bytes = (calls.written m out w.now).after; at = w.now; history = w.history })
  save-last m out zero! =
      let o = calls.written m out w.now in
      rw (eq-eqb o.said 0 zero!, bytes_same o.after o.after refl)

  -- a refused one is not kept
  pub save-refused : (m : ℕ) (out : List ℕ) → ((calls.written m out w.now).said ≡ 0 → ⊥) → (act calls w (save m out)).saves ≡ w.saves
  save-refused m out d = rw (ne_eqb (calls.written m out w.now).said 0 d)

  -- bytes once saved are not forgotten
  pub not-forgotten : (c : Call) (b : List ℕ) (s : Saved A) → last_save b w.saves ≡ saved_at s
      → (r : Saved A) × (last_save b (act calls w c).saves ≡ saved_at r)
  not-forgotten (event m e) b s l = (s, l)
  not-forgotten (restore x) b s l = (s, l)
  not-forgotten (save m out) b s l = go (choice (eqb o.said 0)) (choice (same_bytes b o.after))
    where
      o : Outcome ℕ (List ℕ)
      o = calls.written m out w.now

      new : Saved A
      new = record { bytes = o.after; at = w.now; history = w.history }

      go : Choice (eqb o.said 0) → Choice (same_bytes b o.after) → (r : Saved A) × (last_save b (act calls w (save m out)).saves ≡ saved_at r)
      go (no! i) j = (s, rw i l)
      go (yes! i) (no! j) = (s, rw (i, j) l)
      go (yes! i) (yes! j) = (new, rw (i, j) refl)

  -- an accepted restore puts back the history of the last save that wrote its bytes; a refused one leaves it
  pub restore-history : (b : List ℕ) (s : Saved A) → last_save b w.saves ≡ saved_at s → (calls.resumed b w.now).said ≡ 0
      → (act calls w (restore b)).history ≡ s.history
  restore-history b s l zero! =
      ap (λ t. cond t (history_at (last_save b w.saves)) w.history) (eq-eqb (calls.resumed b w.now).said 0 zero!) ∙ ap history_at l

  pub refused-history : (b : List ℕ) → ((calls.resumed b w.now).said ≡ 0 → ⊥) → (act calls w (restore b)).history ≡ w.history
  refused-history b d = rw (ne_eqb (calls.resumed b w.now).said 0 d)

  -- an accepted event enters the history with what was said and its node's clock after it; a refused one does not, nor does a save
  pub event-enters : (m : ℕ) (e : Event) → (calls.stepped m e w.now).said.why.number ≡ 0
      → (act calls w (event m e)).history
      ≡ entry e (calls.stepped m e w.now).said (calls.clock m (calls.stepped m e w.now).after (home e)) ∷ w.history
  event-enters m e zero! = rw (eq-eqb (calls.stepped m e w.now).said.why.number 0 zero!)

  pub event-refused : (m : ℕ) (e : Event) → ((calls.stepped m e w.now).said.why.number ≡ 0 → ⊥) → (act calls w (event m e)).history ≡ w.history
  event-refused m e d = rw (ne_eqb (calls.stepped m e w.now).said.why.number 0 d)

  pub save-history : (m : ℕ) (out : List ℕ) → (act calls w (save m out)).history ≡ w.history
  save-history m out = refl

-- a run starts with nothing behind it
pub start_is : {A : Type 0} (a : A) → start_of_run a ≡ record { now = a; history = []; saves = [] }
start_is a = refl
