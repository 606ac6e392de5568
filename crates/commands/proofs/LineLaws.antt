-- What a caller that walks the lines with a cursor needs: the lines one by one, and the bounds of what a line names.
use Prim.Native.Nat.{ℕ, suc, ◌+◌, ◌-◌, ◌≤◌, ◌<◌}
use native.Mathlib.Omega.{arith}
use mathlib.Core.Bool.{Bool, true, false, cond, ◌&&◌}
use mathlib.Core.List.{List, [], ◌∷◌}
use mathlib.Core.Path.{◌≡◌, refl, ap, ap₂, ◌∙◌}
use borrow.Author.Tests.{leb-true}
use lib.Dec.{eqb, leb}
use lib.ListN.{length, get_or, take, drop, length-drop, drop_of_length-le}
use lib.Seq.{drop-drop}
use Rattle.std.proofs.lemmas.Bool.{and_parts}
use Rattle.commands.specs.Commands.{on_first, lines_of, number_of, in_range, head_of}
use Rattle.commands.specs.inner.Leaves.{to_newline}

-- ---- the lines

pub lines_none : lines_of [] ≡ []
unfolding lines_of
lines_none = refl

-- the first line, then those behind its newline; behind a last line without newline there are none
abbrev split_first : List ℕ → List (List ℕ)
split_first bs = take (to_newline bs) bs ∷ lines_of (drop (suc (to_newline bs)) bs)

split : (b : ℕ) (bs : List ℕ) → (1 ≤ length bs → lines_of bs ≡ split_first bs) → (t : Bool) → eqb b 10 ≡ t
    → lines_of (b ∷ bs) ≡ split_first (b ∷ bs)
unfolding lines_of to_newline
split b bs rest true e = rw e
split b [] rest false e = rw e
split b (c ∷ bs) rest false e = rw e (ap (on_first b) (rest (omega arith)))

pub lines_next : (bs : List ℕ) → 1 ≤ length bs → lines_of bs ≡ take (to_newline bs) bs ∷ lines_of (drop (suc (to_newline bs)) bs)
lines_next [] h = absurd (omega arith)
lines_next (b ∷ bs) h = split b bs (lines_next bs) (eqb b 10) refl

-- the same from a cursor on: none behind the end, else the line from `at` to what `line_end` answers, then those from r + 1 on
pub lines-at-end : (bs : List ℕ) (at : ℕ) → length bs ≤ at → lines_of (drop at bs) ≡ []
lines-at-end bs at h = ap lines_of (drop_of_length-le bs h) ∙ lines_none

pub lines_at : (bs : List ℕ) (at r : ℕ) → at < length bs → r ≡ at + to_newline (drop at bs)
    → lines_of (drop at bs) ≡ take (r - at) (drop at bs) ∷ lines_of (drop (r + 1) bs)
lines_at bs at r h e =
    let t = to_newline (drop at bs) in
    let long : 1 ≤ length (drop at bs) = omega (arith, length-drop at bs) in
    let size : t ≡ r - at = omega arith in
    let next : at + suc t ≡ r + 1 = omega arith in
    let behind : drop (suc t) (drop at bs) ≡ drop (r + 1) bs = drop-drop (suc t) at bs ∙ ap (λ k. drop k bs) next in
    lines_next (drop at bs) long ∙ ap₂ (λ k l. take k (drop at bs) ∷ lines_of l) size behind

-- ---- the first line

range-high : (n : ℕ) (t : Bool) → (leb 1 n && leb n 16) ≡ t → cond t n 0 ≤ 16
range-high n true e = leb-true n 16 (and_parts (leb 1 n) (leb n 16) e).1
range-high n false e = omega arith

pub head-range : (l : List ℕ) → head_of l ≤ 16
unfolding head_of
head-range l = go (eqb (get_or l 0 0) 78 && eqb (get_or l 1 0) 32)
  where
    n : ℕ
    n = number_of (drop 2 l)

    go : (t : Bool) → cond t (in_range n) 0 ≤ 16
    go true = range-high n (leb 1 n && leb n 16) refl
    go false = omega arith
