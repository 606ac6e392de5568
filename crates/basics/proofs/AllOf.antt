-- What holds of every element of a list: of the first, of the others, behind the first few, with one more at the end, and as what follows from it.
use Prim.Native.Nat.{ℕ, zero, suc}
use mathlib.Core.List.{List, [], ◌∷◌, ◌++◌, tail}
use lib.ListN.{drop}

pub data AllOf {A : Type 0} (P : A → Type 0) : List A → Type 0 where
  none : AllOf P []
  more : {x : A} {xs : List A} → P x → AllOf P xs → AllOf P (x ∷ xs)

pub all_head : {A : Type 0} (P : A → Type 0) (x : A) (xs : List A) → AllOf P (x ∷ xs) → P x
all_head P x xs (more h k) = h

pub all_tail : {A : Type 0} (P : A → Type 0) (xs : List A) → AllOf P xs → AllOf P (tail xs)
all_tail P xs none = none
all_tail P xs (more h k) = k

pub all_drop : {A : Type 0} (P : A → Type 0) (k : ℕ) (xs : List A) → AllOf P xs → AllOf P (drop k xs)
all_drop P zero xs a = a
all_drop P (suc k) [] a = a
all_drop P (suc k) (x ∷ xs) (more h a) = all_drop P k xs a

pub all_snoc : {A : Type 0} (P : A → Type 0) (xs : List A) (x : A) → AllOf P xs → P x → AllOf P (xs ++ (x ∷ []))
all_snoc P xs x none h = more h none
all_snoc P xs x (more {x = y} {xs = ys} g a) h = more g (all_snoc P ys x a h)

pub all_weaker : {A : Type 0} (P Q : A → Type 0) → ((x : A) → P x → Q x) → (xs : List A) → AllOf P xs → AllOf Q xs
all_weaker P Q f xs none = none
all_weaker P Q f xs (more {x = x} {xs = rest} h k) = more (f x h) (all_weaker P Q f rest k)
