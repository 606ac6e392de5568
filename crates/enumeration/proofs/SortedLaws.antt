-- Lists in which each element stands before, in a relation, all that follow; and members of lists made part by part.
use Prim.Native.Nat.{ℕ, zero, suc, ◌≤◌, ◌<◌}
use native.Mathlib.Nat.{eq-or-lt_of_le}
use native.Mathlib.Omega.{arith}
use mathlib.Core.List.Memᴰ
use mathlib.Core.List.{List, [], ◌∷◌, ◌++◌, Memᴰ}
use mathlib.Core.Logic.{⊎_elim}
use mathlib.Core.Path.{◌≡◌, refl, sym, ap₂, subst, ◌∙◌}
use Rattle.text.specs.Text.{in_turn}

-- ---- members of 1 to k, one behind the other

module _ {A : Type 0} where
  pub record Among (f : ℕ → List A) (k : ℕ) (x : A) : Type 0 where
    pub which : ℕ
    pub high : which ≤ k
    pub mem : Memᴰ x (f which)

  pub turn_one : (f : ℕ → List A) (k : ℕ) (x : A) → Memᴰ x (in_turn k f) → Among f k x
  unfolding in_turn
  turn_one f zero x m = absurd (Memᴰ.not-nil m)
  turn_one f (suc k) x m =
      ⊎_elim (λ i. let t = turn_one f k x i in record { which = t.which; high = omega (arith, t.high); mem = t.mem })
      (λ i. record { which = suc k; high = omega arith; mem = i })
      (Memᴰ.append_cases (in_turn k f) m)

  pub one-turn : (f : ℕ → List A) (k : ℕ) (x : A) (s : ℕ) → 1 ≤ s → s ≤ k → Memᴰ x (f s) → Memᴰ x (in_turn k f)
  unfolding in_turn
  one-turn f zero x s l h m = absurd (omega arith)
  one-turn f (suc k) x s l h m =
      ⊎_elim (λ e. Memᴰ.append_right (in_turn k f) (subst (λ (u : ℕ). Memᴰ x (f u)) e m))
      (λ i. Memᴰ.append_left (f (suc k)) (one-turn f k x s l (omega arith) m)) (eq-or-lt_of_le h)

  pub only_one : (x y : A) → Memᴰ x (y ∷ []) → x ≡ y
  only_one x y m = ⊎_elim (λ e. e) (λ i. absurd (Memᴰ.not-nil i)) (Memᴰ.cases_cons m)

-- ---- sorted lists

module _ {A : Type 0} (R : A → A → Type 0) where
  pub data Sorted : List A → Type 0 where
    empty : Sorted []
    leads : {x : A} {l : List A} → ((y : A) → Memᴰ y l → R x y) → Sorted l → Sorted (x ∷ l)

module _ {A : Type 0} {R : A → A → Type 0} where
  pub sorted-one : (x : A) → Sorted R (x ∷ [])
  sorted-one x = leads (λ y m. absurd (Memᴰ.not-nil m)) empty

  pub sorted-append : (l m : List A) → Sorted R l → Sorted R m → ((x y : A) → Memᴰ x l → Memᴰ y m → R x y) → Sorted R (l ++ m)
  sorted-append l m empty t h = t
  sorted-append l m (leads {x = x} {l = l'} f s) t h =
      leads (λ y i. ⊎_elim (λ j. f y j) (λ j. h x y (Memᴰ.head refl) j) (Memᴰ.append_cases l' i))
      (sorted-append l' m s t (λ z y i j. h z y (Memᴰ.tail i) j))

  pub sorted-turn : (f : ℕ → List A) (k : ℕ) → ((s : ℕ) → Sorted R (f s))
      → ((s t : ℕ) → s < t → (x y : A) → Memᴰ x (f s) → Memᴰ y (f t) → R x y) → Sorted R (in_turn k f)
  unfolding in_turn
  sorted-turn f zero own across = empty
  sorted-turn f (suc k) own across =
      sorted-append (in_turn k f) (f (suc k)) (sorted-turn f k own across) (own (suc k))
      (λ x y i j. let t = turn_one f k x i in across t.which (suc k) (omega (arith, t.high)) x y t.mem j)

  -- what stands first is before what stands later
  pub sorted-behind : (a : List A) (x : A) (m : List A) → Sorted R (a ++ (x ∷ m)) → (y : A) → Memᴰ y m → R x y
  sorted-behind [] x m (leads f s) y i = f y i
  sorted-behind (z ∷ a) x m (leads f s) y i = sorted-behind a x m s y i

-- ---- in an order in which nothing is before itself, nor two before each other, the members tell the list

module _ {A : Type 0} {R : A → A → Type 0} (one_way : (x y : A) → R x y → R y x → ⊥) where
  same_first : (x y : A) (l m : List A) → ((z : A) → Memᴰ z l → R x z) → ((z : A) → Memᴰ z m → R y z)
      → Memᴰ x (y ∷ m) → Memᴰ y (x ∷ l) → x ≡ y
  same_first x y l m f g i j =
      ⊎_elim (λ e. e) (λ s. ⊎_elim (λ e. sym e) (λ t. absurd (one_way x y (f y t) (g x s))) (Memᴰ.cases_cons j)) (Memᴰ.cases_cons i)

  -- behind a first element that is before all of l: a member of l that stands in x ∷ m stands in m
  behind-first : (x y z : A) (m : List A) → x ≡ y → R x z → Memᴰ z (y ∷ m) → Memᴰ z m
  behind-first x y z m e r i =
      ⊎_elim (λ q. let s : R x x = subst (R x) (q ∙ sym e) r in absurd (one_way x x s s)) (λ s. s) (Memᴰ.cases_cons i)

  pub members-tell : (l m : List A) → Sorted R l → Sorted R m → ((z : A) → Memᴰ z l → Memᴰ z m)
      → ((z : A) → Memᴰ z m → Memᴰ z l) → l ≡ m
  members-tell l m empty empty f g = refl
  members-tell l m empty (leads {x = y} {l = m'} k t) f g = absurd (Memᴰ.not-nil (g y (Memᴰ.head refl)))
  members-tell l m (leads {x = x} {l = l'} h s) empty f g = absurd (Memᴰ.not-nil (f x (Memᴰ.head refl)))
  members-tell l m (leads {x = x} {l = l'} h s) (leads {x = y} {l = m'} k t) f g =
      let e = same_first x y l' m' h k (f x (Memᴰ.head refl)) (g y (Memᴰ.head refl)) in
      ap₂ (λ (a : A) (b : List A). a ∷ b) e
      (members-tell l' m' s t (λ z i. behind-first x y z m' e (h z i) (f z (Memᴰ.tail i)))
      (λ z i. behind-first y x z l' (sym e) (k z i) (g z (Memᴰ.tail i))))
