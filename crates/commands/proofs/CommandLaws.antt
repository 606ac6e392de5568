-- Each return of `in_range`, `head`, `event`, `numbered` and `parse` is what in_range, head_of, named and command_of say.
use Prim.Native.Nat.{ℕ, suc, ◌+◌, ◌-◌, ◌≤◌, ◌<◌}
use native.Mathlib.Omega.{arith}
use mathlib.Core.Bool.{true, false, ◌&&◌, and-false}
use mathlib.Core.List.{List, [], ◌∷◌}
use mathlib.Core.Path.{◌≡◌, refl, ap, ap₂, ◌∙◌}
use borrow.Author.Tests.{ne_eqb, lt-ltb}
use lib.Dec.{eqb, leb, ltb}
use lib.ListN.{length, get_or, take, drop, drop_of_length-le}
use Rattle.std.proofs.lemmas.List.{take_rest}
use Rattle.commands.specs.Commands.{SaidCommand, none, said_event, said_malformed, number_of, in_range, to_space, named, command_of, head_of}

second_short : (l : List ℕ) → length l < 2 → get_or l 1 0 ≡ 0
second_short [] h = refl
second_short (a ∷ []) h = refl
second_short (a ∷ b ∷ l) h = absurd (omega arith)

-- ---- the head

pub range-is : (n : ℕ) → (leb 1 n && leb n 16) ≡ true → n ≡ in_range n
range-is n e = rw e

pub range_none : (n : ℕ) → (leb 1 n && leb n 16) ≡ false → 0 ≡ in_range n
range_none n e = rw e

pub head-short : (l : List ℕ) → length l < 2 → 0 ≡ head_of l
unfolding head_of
head-short l h = rw (second_short l h, and-false (eqb (get_or l 0 0) 78))

pub head-is : (l : List ℕ) → (eqb (get_or l 0 0) 78 && eqb (get_or l 1 0) 32) ≡ true → in_range (number_of (drop 2 l)) ≡ head_of l
unfolding head_of
head-is l e = rw e

pub head-none : (l : List ℕ) → (eqb (get_or l 0 0) 78 && eqb (get_or l 1 0) 32) ≡ false → 0 ≡ head_of l
unfolding head_of
head-none l e = rw e

-- ---- a letter and two numbers

module _ (kind u v : ℕ) where
  -- a number that is missing
  pub named-first : 100 ≡ u → said_malformed ≡ named kind u v
  unfolding named
  named-first e = rw (← e)

  pub named-second : 100 ≡ v → said_malformed ≡ named kind u v
  unfolding named
  named-second e = rw (← e, and-false (ltb u 100))

  module _ (fit : (u < 100) × (v < 100)) where
    pub named-up : kind ≡ 85 → said_event 85 u v ≡ named kind u v
    unfolding named
    named-up e = rw (lt-ltb u 100 fit.0, lt-ltb v 100 fit.1, e)

    pub named-down : kind ≡ 68 → said_event 68 u v ≡ named kind u v
    unfolding named
    named-down e = rw (lt-ltb u 100 fit.0, lt-ltb v 100 fit.1, e)

    pub named-receive : kind ≡ 77 → said_event 77 u v ≡ named kind u v
    unfolding named
    named-receive e = rw (lt-ltb u 100 fit.0, lt-ltb v 100 fit.1, e)

    pub named_none : (kind ≡ 85 → ⊥) → (kind ≡ 68 → ⊥) → (kind ≡ 77 → ⊥) → said_malformed ≡ named kind u v
    unfolding named
    named_none d e f = rw (lt-ltb u 100 fit.0, lt-ltb v 100 fit.1, ne_eqb kind 85 d, ne_eqb kind 68 e, ne_eqb kind 77 f)

-- ---- an event line

abbrev pub numbered_of : ℕ → List ℕ → SaidCommand
numbered_of kind l = named kind (number_of (take (to_space l) l)) (number_of (drop (suc (to_space l)) l))

-- k is the offset of the space, or the length where there is none: then the second number is missing
module _ (kind : ℕ) (l : List ℕ) (k : ℕ) (at : k ≡ to_space l) where
  pub numbered-end : k ≡ length l → said_malformed ≡ numbered_of kind l
  unfolding named number_of
  numbered-end e =
      let past : length l ≤ suc (to_space l) = omega arith in
      rw (drop_of_length-le l past, and-false (ltb (number_of (take (to_space l) l)) 100))

  first-at : (u : ℕ) → u ≡ number_of (take k l) → u ≡ number_of (take (to_space l) l)
  first-at u p = p ∙ ap (λ j. number_of (take j l)) at

  second-at : (v : ℕ) → v ≡ number_of (take (length l - (k + 1)) (drop (k + 1) l)) → v ≡ number_of (drop (suc (to_space l)) l)
  second-at v q =
      let next : k + 1 ≡ suc (to_space l) = omega arith in
      q ∙ ap number_of (take_rest l (k + 1)) ∙ ap (λ j. number_of (drop j l)) next

  pub first-missing : none ≡ number_of (take k l) → said_malformed ≡ numbered_of kind l
  first-missing p = named-first _ _ _ (first-at none p)

  pub second-missing : none ≡ number_of (take (length l - (k + 1)) (drop (k + 1) l)) → said_malformed ≡ numbered_of kind l
  second-missing q = named-second _ _ _ (second-at none q)

  pub numbered_is : (u v : ℕ) → u ≡ number_of (take k l) → v ≡ number_of (take (length l - (k + 1)) (drop (k + 1) l))
      → named kind u v ≡ numbered_of kind l
  numbered_is u v p q = ap₂ (named kind) (first-at u p) (second-at v q)

pub command-short : (l : List ℕ) → length l < 2 → said_malformed ≡ command_of l
unfolding command_of
command-short l h = rw (second_short l h)

pub command-is : (l : List ℕ) → get_or l 1 0 ≡ 32 → numbered_of (get_or l 0 0) (drop 2 l) ≡ command_of l
unfolding command_of
command-is l e = rw e

pub command-none : (l : List ℕ) → (get_or l 1 0 ≡ 32 → ⊥) → said_malformed ≡ command_of l
unfolding command_of
command-none l d = rw (ne_eqb (get_or l 1 0) 32 d)
