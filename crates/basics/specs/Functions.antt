-- Functions of node numbers (a test of all nodes, a change at one node), and lists of calls one after the other.
use Rattle.std.specs.Prelude.{ℕ, zero, suc, Bool, true, cond, ◌&&◌, List, [], ◌∷◌, eqb}

-- the test holds at each of 1 to n
unfoldable pub every : ℕ → (ℕ → Bool) → Bool
every zero p = true
every (suc n) p = p (suc n) && every n p

-- at each pair of 1 to n
unfoldable pub every_pair : ℕ → (ℕ → ℕ → Bool) → Bool
every_pair n p = every n (λ u. every n (p u))

-- the test holds of each element
unfoldable pub all : {A : Type 0} → (A → Bool) → List A → Bool
all p [] = true
all p (x ∷ xs) = p x && all p xs

-- f, with x in the place of u
unfoldable pub update : {A : Type 0} → (ℕ → A) → ℕ → A → ℕ → A
update f u x a = cond (eqb a u) x (f a)

-- ---- a list of calls, the first first: what is left after all, and what each says, made on what those before it left

abbrev pub after_all : {S C : Type 0} → (S → C → S) → S → List C → S
after_all after s [] = s
after_all after s (c ∷ cs) = after_all after (after s c) cs

abbrev pub say_all : {S C A : Type 0} → (S → C → S) → (S → C → A) → S → List C → List A
say_all after says s [] = []
say_all after says s (c ∷ cs) = says s c ∷ say_all after says (after s c) cs
