-- 17, exactly: links hold where every line names two different nodes of 1 to n, and no line before it names the same two.
use Prim.Native.Nat.{ℕ}
use native.Mathlib.Omega.{arith}
use mathlib.Core.Bool.{true, false, not, ◌&&◌, ◌||◌}
use mathlib.Core.List.{List, [], ◌∷◌, ◌++◌}
use mathlib.Core.Path.{◌≡◌, refl, sym, ap, ◌∙◌}
use borrow.Author.Tests.{not-true}
use lib.ListN.{length, length-append}
use Rattle.basics.proofs.Tests.{and_left, and_right, and_both}
use Rattle.dot.specs.declared.Edge.{Edge}
use Rattle.drawing.specs.Links.{is_link, named_by, links_hold}
use Rattle.drawing.proofs.Risen.{more-drawn}

-- ---- the statement

-- e is a link, and neither the lines xs nor those done before them name its two ends
pub record New (n : ℕ) (done xs : List Edge) (e : Edge) : Type 0 where
  pub is-link : is_link n e ≡ true
  pub not_named : (named_by xs e.first e.second || named_by done e.first e.second) ≡ false

-- of every line, with the lines before it
abbrev pub EachNew : ℕ → List Edge → List Edge → Type 0
EachNew n done es = (xs : List Edge) (e : Edge) (ys : List Edge) → es ≡ xs ++ (e ∷ ys) → New n done xs e

-- ---- the proof

no_line : (xs : List Edge) (e : Edge) (ys : List Edge) → [] ≡ xs ++ (e ∷ ys) → ⊥
no_line xs e ys p = omega (arith, ap length p, length-append xs (e ∷ ys))

none_before : (done : List Edge) (e : Edge) → named_by done e.first e.second ≡ false
    → (named_by [] e.first e.second || named_by done e.first e.second) ≡ false
unfolding named_by
none_before done e h = h

pub holds-each : (n : ℕ) (done es : List Edge) → links_hold n done es ≡ true → EachNew n done es
unfolding links_hold
holds-each n done [] h xs e ys p = absurd (no_line xs e ys p)
holds-each n done (f ∷ es) h [] e ys p =
    let q : f ≡ e = cc in
    let new = and_left (is_link n f && not (named_by done f.first f.second)) (links_hold n (f ∷ done) es) h in
    let link = and_left (is_link n f) (not (named_by done f.first f.second)) new in
    let fresh = and_right (is_link n f) (not (named_by done f.first f.second)) new in
    rw (← q) (record { is-link = link; not_named = none_before done f (not-true (named_by done f.first f.second) fresh) })
holds-each n done (f ∷ es) h (x ∷ xs) e ys p =
    let q : f ≡ x = cc in
    let r : es ≡ xs ++ (e ∷ ys) = cc in
    let rest = holds-each n (f ∷ done) es (and_right (is_link n f && not (named_by done f.first f.second)) (links_hold n (f ∷ done) es) h) xs e ys r in
    rw (← q) (record { is-link = rest.is-link; not_named = sym (more-drawn f xs done e.first e.second) ∙ rest.not_named })

un-named : (e : Edge) (done : List Edge) → (named_by [] e.first e.second || named_by done e.first e.second) ≡ false
    → not (named_by done e.first e.second) ≡ true
unfolding named_by
un-named e done h = ap not h

pub each_holds : (n : ℕ) (done es : List Edge) → EachNew n done es → links_hold n done es ≡ true
unfolding links_hold
each_holds n done [] h = refl
each_holds n done (f ∷ es) h =
    let one = h [] f es refl in
    let rest : EachNew n (f ∷ done) es = λ xs e ys p.
    let m = h (f ∷ xs) e ys (ap (λ (l : List Edge). f ∷ l) p) in
    record { is-link = m.is-link; not_named = more-drawn f xs done e.first e.second ∙ m.not_named } in
    and_both (and_both one.is-link (un-named f done one.not_named)) (each_holds n (f ∷ done) es rest)
