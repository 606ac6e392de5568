-- Writing over a part of a list: what is written is read, all else is as it was, two writes end to end are one.
use Prim.Native.Nat.{ℕ, ◌+◌, ◌-◌, ◌≤◌}
use native.Mathlib.Nat.{add_assoc}
use native.Mathlib.Omega.{arith}
use mathlib.Core.Path.{◌≡◌, sym, ap, ap₂, ◌∙◌}
use mathlib.Core.List.{List, ◌++◌, append_assoc}
use lib.ListN.{length, take, drop, length-append, length-take, length-drop, take-append-drop}
use lib.Seq.{take-append-le, drop-append-le, drop-append-add, take_at, drop_at, take-add, drop-drop, take-take}
use Rattle.bits.specs.inner.Written.{over}
use Rattle.bits.proofs.Numbers.{Below, below-append, below-take, below-drop}

-- ---- writing over a list
pub length_over : (l : List ℕ) (at : ℕ) (bs : List ℕ) → at + length bs ≤ length l → length (over l at bs) ≡ length l
unfolding over
length_over l at bs h = simp (length-append, length-take, length-drop) (omega arith)

-- a part of a list, taken either way
pub drop-take : (n m : ℕ) (l : List ℕ) → n ≤ length l → drop n (take (n + m) l) ≡ take m (drop n l)
drop-take n m l h =
    let e : length (take n l) ≡ n = simp length-take (omega arith) in
    rw (take-add n m l) (drop_at (take n l) (take m (drop n l)) n e)

-- up to the place, and past what is written, the list is as it was
pub over-take : (l : List ℕ) (at : ℕ) (bs : List ℕ) (n : ℕ) → n ≤ at → at ≤ length l → take n (over l at bs) ≡ take n l
unfolding over
over-take l at bs n h k =
    let e : n ≤ length (take at l) = simp length-take (omega arith) in
    take-append-le n (take at l) (bs ++ drop (at + length bs) l) e ∙ take-take n at l h

pub over-tail : (l : List ℕ) (at : ℕ) (bs : List ℕ) → at ≤ length l → drop at (over l at bs) ≡ bs ++ drop (at + length bs) l
unfolding over
over-tail l at bs k =
    let e : length (take at l) ≡ at = simp length-take (omega arith) in
    drop_at (take at l) (bs ++ drop (at + length bs) l) at e

pub over-drop : (l : List ℕ) (at : ℕ) (bs : List ℕ) (n : ℕ) → at ≤ length l → at + length bs ≤ n → drop n (over l at bs) ≡ drop n l
over-drop l at bs n k h =
    let d : ℕ = n - (at + length bs) in
    let e : n ≡ at + (length bs + d) = omega arith in
    let f : at + length bs + d ≡ n = omega arith in
    ap (λ (x : ℕ). drop x (over l at bs)) e
    ∙ sym (drop-drop (length bs + d) at (over l at bs))
    ∙ ap (drop (length bs + d)) (over-tail l at bs k)
    ∙ drop-append-add bs (drop (at + length bs) l) d
    ∙ drop-drop d (at + length bs) l
    ∙ ap (λ (x : ℕ). drop x l) f

-- every part that the written one does not touch is as it was
pub over-before : (l : List ℕ) (at : ℕ) (bs : List ℕ) (a w : ℕ) → a + w ≤ at → at + length bs ≤ length l → take w (drop a (over l at bs)) ≡ take w (drop a l)
over-before l at bs a w h k =
    let e : a ≤ length (over l at bs) = rw (length_over l at bs k) (omega arith) in
    sym (drop-take a w (over l at bs) e) ∙ ap (drop a) (over-take l at bs (a + w) h (omega arith)) ∙ drop-take a w l (omega arith)

pub over-after : (l : List ℕ) (at : ℕ) (bs : List ℕ) (a w : ℕ) → at + length bs ≤ a → at ≤ length l → take w (drop a (over l at bs)) ≡ take w (drop a l)
over-after l at bs a w h k = ap (take w) (over-drop l at bs a k h)

-- two writes end to end are one
pub over-over : (l : List ℕ) (at : ℕ) (bs cs : List ℕ) (n : ℕ) → n ≡ at + length bs → n + length cs ≤ length l → over (over l at bs) n cs ≡ over l at (bs ++ cs)
unfolding over
over-over l at bs cs n e h =
    let a : length (take at l) ≡ at = simp length-take (omega arith) in
    let b : length (take at l ++ bs) ≡ n = simp length-append (omega arith) in
    let g : n + length cs ≡ at + length (bs ++ cs) = omega (arith, length-append bs cs) in
    ap₂ (λ (x y : List ℕ). x ++ (cs ++ y))
    (ap (take n) (sym (append_assoc (take at l) bs (drop (at + length bs) l))) ∙ take_at (take at l ++ bs) (drop (at + length bs) l) n b)
    (over-drop l at bs (n + length cs) (omega arith) (omega arith) ∙ ap (λ (x : ℕ). drop x l) g)
    ∙ simp append_assoc

-- a part written where it stands changes nothing
pub over-own : (l : List ℕ) (at w : ℕ) → at + w ≤ length l → over l at (take w (drop at l)) ≡ l
unfolding over
over-own l at w h =
    let e : length (take w (drop at l)) ≡ w = simp (length-take, length-drop) (omega arith) in
    ap (λ (x : ℕ). take at l ++ (take w (drop at l) ++ drop (at + x) l)) e
    ∙ ap (λ (t : List ℕ). take at l ++ (take w (drop at l) ++ t)) (sym (drop-drop w at l))
    ∙ ap (λ (t : List ℕ). take at l ++ t) (take-append-drop w (drop at l))
    ∙ take-append-drop at l

-- a write inside a part, as a write of the part
pub over-within : (l : List ℕ) (at n off : ℕ) (bs : List ℕ) → at + n ≤ length l → off + length bs ≤ n
    → over l at (over (take n (drop at l)) off bs) ≡ over l (at + off) bs
unfolding over
over-within l at n off bs h k =
    let T : List ℕ = take n (drop at l) in
    let e_t : length T ≡ n = simp (length-take, length-drop) (omega arith) in
    let e_n : length (over T off bs) ≡ n = length_over T off bs (omega arith) ∙ e_t in
    let p : List ℕ = take off T in
    let q : List ℕ = drop (off + length bs) T in
    let r : List ℕ = drop (at + n) l in
    let s : take at l ++ ((p ++ (bs ++ q)) ++ r) ≡ (take at l ++ p) ++ (bs ++ (q ++ r)) = simp append_assoc in
    let f : take at l ++ p ≡ take (at + off) l = ap (λ (t : List ℕ). take at l ++ t) (take-take off n (drop at l) (omega arith)) ∙ sym (take-add at off l) in
    let g : q ++ r ≡ drop (at + off + length bs) l =
    sym (drop-append-le (off + length bs) T r (omega arith))
    ∙ ap (drop (off + length bs)) (ap (λ (t : List ℕ). T ++ t) (sym (drop-drop n at l)) ∙ take-append-drop n (drop at l))
    ∙ drop-drop (off + length bs) at l
    ∙ ap (λ (x : ℕ). drop x l) (sym (add_assoc at off (length bs))) in
    ap (λ (x : ℕ). take at l ++ (over T off bs ++ drop (at + x) l)) e_n
    ∙ s
    ∙ ap₂ (λ (x y : List ℕ). x ++ (bs ++ y)) f g

pub below-over : (l : List ℕ) (at : ℕ) (bs : List ℕ) → Below 2 l → Below 2 bs → Below 2 (over l at bs)
unfolding over
below-over l at bs hl hb =
    below-append 2 (take at l) (bs ++ drop (at + length bs) l) (below-take 2 at l (omega arith) hl)
    (below-append 2 bs (drop (at + length bs) l) hb (below-drop 2 (at + length bs) l hl))
