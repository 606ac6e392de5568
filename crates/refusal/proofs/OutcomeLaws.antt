-- The cases of `put_front` and of `put_checked`.
use Prim.Native.Nat.{ℕ, ◌≤◌, ◌<◌}
use mathlib.Core.List.{List, ◌++◌}
use mathlib.Core.Path.{◌≡◌}
use borrow.Author.Tests.{le-leb, lt-leb, eq-eqb}
use lib.ListN.{length, drop}
use Rattle.refusal.specs.Outcome.{accepted, outcome, put_front, put_checked, refused_with}
use Rattle.refusal.specs.Refusal.{why, why_of}
use Rattle.refusal.specs.declared.Refusal.{Refusal}
use Rattle.refusal.specs.declared.Why.{Why}
use Rattle.refusal.proofs.RefusalLaws.{never-0}

module _ (b out : List ℕ) where
  pub put-no-room : length out < length b → outcome (refused_with 0 (why 14 0 0)) out ≡ put_front b out
  unfolding put_front
  put-no-room h = rw (lt-leb (length b) (length out) h)

  pub put-room : length b ≤ length out → outcome (accepted (length b)) (b ++ drop (length b) out) ≡ put_front b out
  unfolding put_front
  put-room h = rw (le-leb (length b) (length out) h)

  pub put-passed : (c : Why) → c.number ≡ 0 → put_front b out ≡ put_checked c b out
  unfolding put_checked
  put-passed c h = rw (eq-eqb c.number 0 h)

  pub put_refused : (c : Why) (r : Refusal) → why_of r ≡ c → outcome (refused_with 0 (why_of r)) out ≡ put_checked c b out
  unfolding put_checked
  put_refused c r e = rw (← e, never-0 r)
