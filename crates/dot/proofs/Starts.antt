-- What it means that bytes start with others.
use Prim.Native.Nat.{ℕ, ◌≤◌}
use native.Mathlib.Omega.{arith}
use mathlib.Core.Bool.{Bool, true, ◌&&◌}
use mathlib.Core.List.{List, [], ◌∷◌, ◌++◌}
use mathlib.Core.Path.{◌≡◌, refl, sym, ap, ap₂, ◌∙◌}
use lib.Dec.{eqb}
use lib.ListN.{length, take, drop, length-append, take-append-drop}
use lib.Seq.{take-append_seam}
use Rattle.basics.specs.Bytes.{same_bytes}
use Rattle.basics.proofs.BytesLaws.{same_bytes-equal, bytes_same}
use Rattle.std.proofs.lemmas.Bool.Decides.{nat_tests}
use Rattle.std.specs.Cmp.Lexicographic.{pointwise}
use Rattle.std.specs.List as List
use Rattle.dot.specs.Sketch.{starts_with}

pub starts-append : (bs ys : List ℕ) → starts_with bs (bs ++ ys) ≡ true
unfolding starts_with
starts-append bs ys = bytes_same (take (length bs) (bs ++ ys)) bs (take-append_seam bs ys)

pub starts-split : (bs xs : List ℕ) → starts_with bs xs ≡ true → xs ≡ bs ++ drop (length bs) xs
unfolding starts_with
starts-split bs xs h =
    sym (take-append-drop (length bs) xs) ∙ ap (λ (l : List ℕ). l ++ drop (length bs) xs) (same_bytes-equal (take (length bs) xs) bs h)

pub starts-long : (bs xs : List ℕ) → starts_with bs xs ≡ true → length bs ≤ length xs
starts-long bs xs h = omega (arith, ap length (starts-split bs xs h), length-append bs (drop (length bs) xs))

eqb-turned : (a b : ℕ) → eqb a b ≡ eqb b a
eqb-turned a b = grind (arith, nat_tests)

-- std's test says the same: it goes over the two lists the other way round
turned : (xs ys : List ℕ) → pointwise eqb ys xs ≡ same_bytes xs ys
turned [] [] = refl
turned [] (y ∷ ys) = refl
turned (x ∷ xs) [] = refl
turned (x ∷ xs) (y ∷ ys) = ap₂ (λ (a b : Bool). a && b) (eqb-turned y x) (turned xs ys)

pub starts-as : (bs xs : List ℕ) → List.starts_with eqb xs bs ≡ starts_with bs xs
unfolding starts_with
starts-as bs xs = turned (take (length bs) xs) bs
