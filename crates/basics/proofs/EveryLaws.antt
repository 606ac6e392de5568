-- `(1..n + 1).all(f)` answers `every n p` where f answers p.
use Prim.Native.Nat.{ℕ, ◌+◌, ◌-◌, ◌≤◌, ◌<◌}
use native.Mathlib.Omega.{arith}
use mathlib.Core.Bool.{Bool, true, false}
use mathlib.Core.List.{List}
use mathlib.Core.Path.{◌≡◌, refl, sym, ap, ◌∙◌}
use lib.ListN.{length, get_or}
use denote.Param.Members.{Mut}
use Rattle.std.specs.Bool.{MatchBool}
use Rattle.std.specs.Fn.{Called}
use Rattle.std.specs.Iterator.{YieldsThen}
use Rattle.std.specs.List.{FoldsTo, range_with_len, AllWithin, HoldsAt}
use Rattle.std.specs.Option.{MatchOption}
use Rattle.std.specs.declared.ops.Range.{Range}
use Rattle.std.specs.declared.option.Option.{Option}
use Rattle.std.proofs.iter.Yields.{nat_range_steps}
use Rattle.std.proofs.lemmas.Iterator.{cases_from_all, YieldsList-from_range}
use Rattle.std.proofs.lemmas.List.FromFn.{length-range_with_len, get_or-range_with_len}
use Rattle.basics.specs.Functions.{every}
use Rattle.basics.proofs.FunctionsLaws.{every-all, every-false}

module _ (n : ℕ) (p : ℕ → Bool) where
  abbrev numbers : List ℕ
  numbers = range_with_len 1 n

  nth : (k : ℕ) → k < n → get_or numbers k 0 ≡ 1 + k
  nth k h = get_or-range_with_len 1 n k 0 h

  by_cases : (r : Bool) → MatchBool r (AllWithin (λ x. p x ≡ true) numbers 0 (length numbers)) ((k : ℕ) × (k < length numbers) × HoldsAt (λ x. p x ≡ false) numbers k)
      → r ≡ every n p
  by_cases true h = sym (every-all n p (λ v low high.
      let e : 1 + (v - 1) ≡ v = omega arith in
      ap p (sym (nth (v - 1) (omega arith) ∙ e)) ∙ h (v - 1) 0 (omega arith) (omega (arith, length-range_with_len 1 n))))
  by_cases false h =
      let k : h.0 < n = omega (arith, h.1, length-range_with_len 1 n) in
      sym (every-false n p (1 + h.0) (omega arith) (omega arith) (ap p (sym (nth h.0 k)) ∙ h.2 0))

  pub every-from_all : {F : Type 0} {g : Mut F (ℕ × Unit {0}) Bool} {s : Range ℕ} (u : Range ℕ) (f : F) (r : Bool) → s ≡ record { start = 1; end = n + 1 }
      → (xs : List ℕ) × (o : Option ℕ) × (j : F) × YieldsThen nat_range_steps s xs o u × FoldsTo (λ q x q'. Called g q (x, tt) true q') f xs j
      × MatchOption o (r ≡ true) (λ x. (r ≡ false) × ((h : F) × Called g j (x, tt) false h))
      → ((x : ℕ) (q : F) → Called g f (x, tt) true q → (q ≡ f) × (p x ≡ true)) → ((x : ℕ) (q : F) → Called g f (x, tt) false q → p x ≡ false)
      → r ≡ every n p
  every-from_all u f r e ran passes fails =
      by_cases r (cases_from_all u f r (λ x. p x ≡ true) (λ x. p x ≡ false) ran (YieldsList-from_range 1 (n + 1) n e (omega arith)) passes fails)
