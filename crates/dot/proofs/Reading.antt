-- The steps of the functions that read numbers and edges at an offset: each answer is what the bytes from there on say.
use Prim.Native.Nat.{ℕ, ◌+◌, ◌-◌, ◌≤◌, ◌<◌}
use native.Mathlib.Omega.{arith}
use mathlib.Core.Bool.{Bool, true, false, cond}
use mathlib.Core.List.{List}
use mathlib.Core.Path.{◌≡◌, refl, sym, ap, ap₂, ◌∙◌}
use lib.ListN.{length, get_or, take, drop, drop_of_length-le, get_or-eq_default}
use lib.Seq.{get_or-drop, drop-drop}
use Rattle.basics.proofs.Tests.{clash, Choice, yes!, no!, choice}
use Rattle.commands.specs.Commands.{is_digit, number_of}
use Rattle.dot.specs.Graph.{edge}
use Rattle.dot.specs.Sketch.{digits_at, number_at, edge_at}

module _ (xs : List ℕ) (at : ℕ) where
  -- ---- how many digits

  digits-by : digits_at (drop at xs) ≡ cond (is_digit (get_or xs (at + 1) 0)) 2 1
  unfolding digits_at
  digits-by = ap (λ (y : ℕ). cond (is_digit y) 2 1) (get_or-drop at xs 1 0)

  module _ (t : Bool) (e : t ≡ is_digit (get_or xs (at + 1) 0)) where
    pub two_digits : t ≡ true → 2 ≡ digits_at (drop at xs)
    two_digits h = sym (digits-by ∙ rw (sym e ∙ h) refl)

    pub one-digit : t ≡ false → 1 ≡ digits_at (drop at xs)
    one-digit h = sym (digits-by ∙ rw (sym e ∙ h) refl)

  pub last-digit : length xs ≤ at + 1 → 1 ≡ digits_at (drop at xs)
  last-digit h = sym (digits-by ∙ ap (λ (y : ℕ). cond (is_digit y) 2 1) (get_or-eq_default xs 0 h))

  -- ---- the number

  module _ (k : ℕ) (ks : k ≡ digits_at (drop at xs)) where
    empty-number : length xs ≤ at → 100 ≡ number_at (drop at xs)
    unfolding number_at number_of digits_at
    empty-number h = rw (drop_of_length-le xs h) refl

    pub no_number : length xs < at + k → 100 ≡ number_at (drop at xs)
    no_number h = go (choice (is_digit (get_or xs (at + 1) 0)))
      where
        two : is_digit (get_or xs (at + 1) 0) ≡ true → length xs ≤ at + 1 → 100 ≡ number_at (drop at xs)
        two t l = clash t (ap is_digit (get_or-eq_default xs 0 l))

        go : Choice (is_digit (get_or xs (at + 1) 0)) → 100 ≡ number_at (drop at xs)
        go (yes! t) =
            let e : k ≡ 2 = ks ∙ sym (two_digits true (sym t) refl) in
            two t (omega (arith, e, h))
        go (no! t) =
            let e : k ≡ 1 = ks ∙ sym (one-digit false (sym t) refl) in
            empty-number (omega (arith, e, h))

    pub number_is : (end : ℕ) → end ≡ at + k → number_of (take (end - at) (drop at xs)) ≡ number_at (drop at xs)
    unfolding number_at
    number_is end e =
        let size : end - at ≡ digits_at (drop at xs) = omega (arith, e, ks) in
        ap (λ (j : ℕ). number_of (take j (drop at xs))) size

  -- ---- the edge

  pub edge-is : (a b k : ℕ) → a ≡ number_at (drop (at + 2) xs) → k ≡ digits_at (drop (at + 2) xs) → b ≡ number_at (drop (at + 6 + k) xs)
      → edge a b ≡ edge_at (drop at xs)
  unfolding edge_at
  edge-is a b k p q r =
      let ys = drop 2 (drop at xs) in
      let here : drop (at + 2) xs ≡ ys = sym (drop-drop 2 at xs) in
      let size : k ≡ digits_at ys = q ∙ ap digits_at here in
      let place : at + 6 + k ≡ at + 2 + k + 4 = omega arith in
      let there : drop (at + 6 + k) xs ≡ drop 4 (drop (digits_at ys) ys) =
      ap (λ (j : ℕ). drop j xs) place
      ∙ (sym (drop-drop 4 (at + 2 + k) xs)
      ∙ ap (drop 4) (sym (drop-drop k (at + 2) xs) ∙ (ap (drop k) here ∙ ap (λ (j : ℕ). drop j ys) size))) in
      ap₂ edge (p ∙ ap number_at here) (r ∙ ap number_at there)
