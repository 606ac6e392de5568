-- The list from fresh tables on, its refusals and its room.
use Prim.Native.Nat.{ℕ, ◌+◌, ◌*◌, ◌/◌, ◌≤◌, ◌<◌}
use native.Mathlib.Nat.{zero-add, mul-le-mul, mul_assoc}
use native.Mathlib.Omega.{arith}
use mathlib.Core.Bool.{Bool, true, false, not, cond, ◌&&◌}
use mathlib.Core.List.{List, ◌++◌}
use mathlib.Core.Path.{◌≡◌, refl, sym, ap, ◌∙◌}
use borrow.Author.Tests.{leb-true, not-true, not-false}
use lib.Dec.{eqb, leb}
use lib.ListN.{length, take, drop}
use lib.Seq.{length-take-le}
use Rattle.basics.proofs.Tests.{Choice, yes!, no!, choice, and_left, and_right}
use Rattle.enumeration.specs.Histories.{histories}
use Rattle.enumeration.specs.Texts.{list_text}
use Rattle.enumeration.proofs.Sizes.{whole-small, count-is}
use Rattle.protocol.specs.Network.{fresh}
use Rattle.std.proofs.Common.{Ok, Err}
use Rattle.refusal.specs.Outcome.{accepted, outcome, said_as}
use Rattle.refusal.specs.Refusal.{why, why_of}
use Rattle.refusal.specs.declared.Refusal.{Refusal}
use Rattle.refusal.specs.declared.Refusal.TheVariants.{Sizes, NoRoom, TooLarge}
use Rattle.refusal.proofs.OutcomeLaws.{put-room, put-passed, put_refused}
use Rattle.refusal.proofs.RefusalLaws.{never-0}
use Rattle.tables.specs.Load.{tables_of}
use Rattle.tables.specs.Tables.{Tables, tables, width, cell_width}
use Rattle.tables.specs.inner.Fit.{Sized}
use Rattle.text.specs.inner.Poured.{poured}
use Rattle.text.proofs.FrontLaws.{no_room, room}
use Rattle.histories.specs.ListOn.{extent, is_plot, is_short, check_limits, counted, list_on, list_length}
use Rattle.histories.specs.inner.Walk.{text_from, Exploring}
use Rattle.histories.proofs.ExploreLaws.{text-whole}
use Rattle.histories.proofs.PathLaws.{reached-none}

-- ---- from fresh tables on

pub whole-start : (n k : ℕ) (t : Tables) → 1 ≤ n → n ≤ 3 → k ≤ 5 → t ≡ tables_of n fresh → Exploring n k 0 0 t 0
whole-start n k t low few short e = record {
  low = low;
  few = few;
  short = omega (arith, short);
  path = omega arith;
  start = e ∙ ap (tables_of n) (reached-none n 0 0 refl);
  room = let i = ap length (text-whole n k) in omega (arith, i, whole-small n k few short);
}

pub whole-done : (n k : ℕ) (out : List ℕ) {o : List ℕ} {r : ℕ} → o ≡ poured out 0 (text_from n k 0 0) → r ≡ 0 + length (text_from n k 0 0)
    → (o ≡ poured out 0 (list_text n (histories n k fresh))) × (r ≡ length (list_text n (histories n k fresh)))
whole-done n k out p q =
    (p ∙ ap (poured out 0) (text-whole n k), q ∙ zero-add (length (text_from n k 0 0)) ∙ ap length (text-whole n k))

-- ---- room for three nodes is room for n

pub rows-three : (n : ℕ) → n ≤ 3 → n * width n ≤ 3 * width 3
rows-three n h = let row : width n ≤ width 3 = omega arith in mul-le-mul h row

pub cells-three : (n : ℕ) → n ≤ 3 → n * n * cell_width ≤ 3 * 3 * cell_width
cells-three n h =
    let row : n * 65 ≤ 195 = omega arith in
    let all : n * (n * 65) ≤ 585 = mul-le-mul h row in
    rw (mul_assoc n n 65) all

pub part-sized : (n : ℕ) (ns cs : List ℕ) → 1 ≤ n → n ≤ 3 → length ns ≡ 3 * width 3 → length cs ≡ 3 * 3 * cell_width
    → Sized n (tables (take (n * width n) ns) (take (n * n * cell_width) cs))
part-sized n ns cs low few a b = record {
  low = low;
  few = omega (arith, few);
  nodes = length-take-le (n * width n) ns (omega (arith, rows-three n few));
  channels = length-take-le (n * n * cell_width) cs (omega (arith, cells-three n few));
}

-- ---- the limits

-- what a test answered that was turned round
pub says-no : {r b : Bool} → r ≡ b → not r ≡ true → b ≡ false
says-no {r} e h = sym e ∙ not-true r h

pub says-yes : {r b : Bool} → r ≡ b → not r ≡ false → b ≡ true
says-yes {r} e h = sym e ∙ not-false r h

-- two tests that were joined
pub both_say : {r q a b : Bool} → r ≡ a → q ≡ b → (r && q) ≡ true → (a ≡ true) × (b ≡ true)
both_say {r} {q} d e h = (sym d ∙ and_left r q h, sym e ∙ and_right r q h)

pub plot-nodes : (n : ℕ) → is_plot n ≡ true → (1 ≤ n) × (n ≤ 16)
plot-nodes n e = (leb-true 1 n (and_left (leb 1 n) (leb n 16) e), leb-true n 16 (and_right (leb 1 n) (leb n 16) e))

pub short-size : (n k : ℕ) → is_short n k ≡ true → (n ≤ 3) × (k ≤ 5)
short-size n k e = (leb-true n 3 (and_left (leb n 3) (leb k 5) e), leb-true k 5 (and_right (leb n 3) (leb k 5) e))

module _ (n k : ℕ) where
  sizes-limit : is_plot n ≡ false → check_limits n k ≡ why 1 0 0
  unfolding check_limits
  sizes-limit e = rw e

  large-limit : is_plot n ≡ true → is_short n k ≡ false → check_limits n k ≡ why 19 0 0
  unfolding check_limits
  large-limit e i = rw (e, i)

  within : is_plot n ≡ true → is_short n k ≡ true → check_limits n k ≡ why 0 0 0
  unfolding check_limits
  within e i = rw (e, i)

  -- ---- what is answered

  module _ (out : List ℕ) where
    refused-by : (r : Refusal) → why_of r ≡ check_limits n k → outcome (said_as (extent 0 0) (Err r)) out ≡ list_on n k out
    unfolding list_on
    refused-by r e =
        let o = put_refused (list_text n (histories n k fresh)) out (check_limits n k) r e in
        let none : cond (eqb (why_of r).number 0) (length (histories n k fresh)) 0 ≡ 0 = rw (never-0 r) in
        ap (λ (c : ℕ). outcome (record { why = why_of r; value = extent 0 c }) out) (sym none) ∙ ap (counted (length (histories n k fresh))) o

    pub sizes-done : is_plot n ≡ false → outcome (said_as (extent 0 0) (Err Sizes)) out ≡ list_on n k out
    sizes-done e = refused-by Sizes (sym (sizes-limit e))

    pub large-done : is_plot n ≡ true → is_short n k ≡ false → outcome (said_as (extent 0 0) (Err TooLarge)) out ≡ list_on n k out
    large-done e i = refused-by TooLarge (sym (large-limit e i))

    module _ (e : is_plot n ≡ true) (i : is_short n k ≡ true) {size : ℕ}
        (long : size ≡ length (list_text n (histories n k fresh))) where
      text : List ℕ
      text = list_text n (histories n k fresh)

      pub no-room-done : length out < size → outcome (said_as (extent 0 0) (Err NoRoom)) out ≡ list_on n k out
      unfolding list_on text
      no-room-done h =
          ap (counted (length (histories n k fresh))) (no_room text out long h ∙ put-passed text out (check_limits n k) (ap (λ w. w.number) (within e i)))

      pub written-done : {count : ℕ} {o : List ℕ} → size ≤ length out → o ≡ poured out 0 (list_text n (histories n k fresh)) → count ≡ size / (4 + 6 * k)
          → outcome (said_as (extent 0 0) (Ok (extent size count))) o ≡ list_on n k out
      unfolding list_on text
      written-done {count} {o} h b c =
          let d = c ∙ ap (λ (x : ℕ). x / (4 + 6 * k)) long ∙ count-is n k (short-size n k i).0 in
          ap (λ (m : ℕ). outcome (accepted (extent size m)) o) d
          ∙ ap (counted (length (histories n k fresh))) (room text out long o h b ∙ put-passed text out (check_limits n k) (ap (λ w. w.number) (within e i)))

  -- ---- the length

  -- 0 where a limit refuses
  pub length_none : (is_plot n && is_short n k) ≡ false → 0 ≡ list_length n k
  unfolding list_length check_limits
  length_none e = go (choice (is_plot n))
    where
      go : Choice (is_plot n) → 0 ≡ list_length n k
      go (no! a) = rw a
      go (yes! a) = let b : is_short n k ≡ false = rw a at e in rw (a, b)

  pub length-is : is_plot n ≡ true → is_short n k ≡ true → length (list_text n (histories n k fresh)) ≡ list_length n k
  unfolding list_length
  length-is e i = rw (within e i)

  -- the text at the front
  pub front-done : (out : List ℕ) → is_plot n ≡ true → is_short n k ≡ true → list_length n k ≤ length out
      → outcome (accepted (extent (list_length n k) (length (histories n k fresh)))) (list_text n (histories n k fresh) ++ drop (list_length n k) out)
      ≡ list_on n k out
  unfolding list_on
  front-done out e i h =
      let text = list_text n (histories n k fresh) in
      let long = length-is e i in
      ap (λ (m : ℕ). outcome (accepted (extent m (length (histories n k fresh)))) (text ++ drop m out)) (sym long)
      ∙ ap (counted (length (histories n k fresh)))
      (put-room text out (rw (sym long) at h) ∙ put-passed text out (check_limits n k) (ap (λ w. w.number) (within e i)))
