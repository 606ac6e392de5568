-- The clock's move: it moves exactly when the larger of clock and stamp is below the clock's end, and then to one more; the answer can be read back.
use Prim.Native.Nat.{ℕ, suc, max, ◌<◌, ◌≤◌}
use native.Mathlib.Omega.{arith}
use mathlib.Core.Bool.{Bool, true, false}
use mathlib.Core.Path.{◌≡◌, refl, sym, ap, ◌∙◌}
use lib.Dec.{eqb, ltb}
use borrow.Author.Tests.{lt-ltb, le-ltb, ltb-true, ltb-false}
use Rattle.std.specs.Prelude.{Result, Ok, Err}
use Rattle.basics.proofs.Tests.{clash}
use Rattle.refusal.proofs.RefusalLaws.{never-0, why-injective}
use Rattle.refusal.specs.Outcome.{Answered, accepted, refused_with}
use Rattle.refusal.specs.Refusal.{why}
use Rattle.refusal.specs.declared.Refusal.{Refusal}
use Rattle.height.specs.Clock.{last_time, said_moved, clock_after}
use Rattle.height.specs.declared.Time.{Time}

pub said-moved-injective : (m n : Result Time Refusal) → said_moved m ≡ said_moved n → m ≡ n
said-moved-injective (Ok s) (Ok t) e = ap (λ (a : Answered ℕ). Ok (record { 0 = a.value })) e
said-moved-injective (Ok s) (Err r) e = clash (ap (λ (a : Answered ℕ). eqb a.why.number 0) (sym e)) (never-0 r)
said-moved-injective (Err r) (Ok t) e = clash (ap (λ (a : Answered ℕ). eqb a.why.number 0) e) (never-0 r)
said-moved-injective (Err r) (Err q) e = ap Err (why-injective r q (ap (λ (a : Answered ℕ). a.why) e))

-- below the end the clock moves past both, at the end it does not
pub clock-moves : (clock stamp : ℕ) → max clock stamp < last_time → clock_after clock stamp ≡ accepted (suc (max clock stamp))
unfolding clock_after
clock-moves clock stamp h = rw (lt-ltb (max clock stamp) last_time h)

pub clock-ends : (clock stamp : ℕ) → last_time ≤ max clock stamp → clock_after clock stamp ≡ refused_with 0 (why 7 0 0)
unfolding clock_after
clock-ends clock stamp h = rw (le-ltb (max clock stamp) last_time h)

-- and the number tells which
pub clock-moved : (clock stamp : ℕ) → (clock_after clock stamp).why.number ≡ 0
    → (max clock stamp < last_time) × ((clock_after clock stamp).value ≡ suc (max clock stamp))
clock-moved clock stamp e = go (ltb (max clock stamp) last_time) refl
  where
    go : (b : Bool) → ltb (max clock stamp) last_time ≡ b → (max clock stamp < last_time) × ((clock_after clock stamp).value ≡ suc (max clock stamp))
    go true h =
        let l : max clock stamp < last_time = ltb-true _ _ h in
        (l, ap (λ (a : Answered ℕ). a.value) (clock-moves clock stamp l))
    go false h =
        let z : ◌≡◌ {A = ℕ} 7 0 = sym (ap (λ (a : Answered ℕ). a.why.number) (clock-ends clock stamp (ltb-false _ _ h))) ∙ e in
        absurd (omega arith)

-- a move to t, from its two facts
pub says-moved : (clock stamp t : ℕ) → t ≡ suc (max clock stamp) → t ≤ last_time → accepted t ≡ clock_after clock stamp
says-moved clock stamp t e h = ap (λ (n : ℕ). accepted n) e ∙ sym (clock-moves clock stamp (omega arith))
