-- Fields got end to end out of 64 bits looked at, until these are used up: what a turn of the loop does, over every list of widths.
use Prim.Native.Nat.{ℕ, zero, suc, ◌+◌, ◌-◌, ◌*◌, ◌/◌, ◌%◌, ◌^◌, ◌≤◌, ◌<◌}
use native.Mathlib.Omega.{arith}
use mathlib.Core.Path.{◌≡◌, refl, sym, ap, subst, ◌∙◌}
use mathlib.Core.List.{List, [], ◌∷◌, ◌++◌, append-nil}
use lib.ListN.{length, take, drop, get_or, set, length-set, drop_of_length-le}
use lib.Seq.{take_all}
use Rattle.bits.specs.Bits.{unpacked, field, total, gathered}
use Rattle.bits.specs.inner.Written.{RoomFor}
use Rattle.bits.proofs.Fields.{total-more, get-more}
use Rattle.bits.proofs.SixtyFour.{cut_at}

-- the first k values are got, the others are as they were; 64 bits are looked at from `start` on, and the next field is behind the first `used`
pub record Seen (ws vs xs : List ℕ) (at : ℕ) (us : List ℕ) (start seen used k : ℕ) : Type 0 where
  pub inside : k ≤ length ws
  pub few : used < 64
  pub place : start + used ≡ at + total (take k ws)
  pub looked : seen ≡ field xs start 64
  pub near : start / 8 + 9 ≤ length xs
  pub same : length us ≡ length vs
  pub got : us ≡ gathered (take k ws) (drop at (unpacked xs)) ++ drop k vs

-- k widths of at most 32 bits
pub total-narrow : (ws : List ℕ) (k : ℕ) → ((i : ℕ) → get_or ws i 0 ≤ 32) → total (take k ws) ≤ 32 * k
unfolding total
total-narrow [] k h = go k
  where
    go : (k : ℕ) → total (take k []) ≤ 32 * k
    go zero = omega arith
    go (suc k) = omega arith
total-narrow (w ∷ ws) zero h = omega arith
total-narrow (w ∷ ws) (suc k) h = omega (arith, h 0, total-narrow ws k (λ i. h (suc i)))

pub seen_start : (ws vs xs : List ℕ) (at x : ℕ) → x ≡ field xs at 64 → at / 8 + 9 ≤ length xs → Seen ws vs xs at vs at x 0 0
unfolding total gathered
seen_start ws vs xs at x e h =
    record { inside = omega arith; few = omega arith; place = omega arith; looked = e; near = h; same = refl; got = refl }

module _ {ws vs xs us : List ℕ} {at start seen used k w : ℕ} (inv : Seen ws vs xs at us start seen used k)
    (e : length ws ≡ length vs) (room : RoomFor xs at ws) (roomy : at / 8 + 4 * length ws + 9 ≤ length xs) (h : k < length ws)
    (ew : w ≡ get_or ws k 0) where
  pub seen-narrow : w ≤ 32
  seen-narrow = omega (arith, room.narrow k)

  -- where the next 64 bits are looked at
  pub seen-near : (start + used) / 8 + 9 ≤ length xs
  seen-near = omega (arith, inv.place, total-narrow ws k room.narrow)

  next : (y : ℕ) → y ≡ field xs (start + used) w
      → set us k y ≡ gathered (take (k + 1) ws) (drop at (unpacked xs)) ++ drop (k + 1) vs
  next y ey =
      ap (set us k) (ey ∙ ap (λ (p : ℕ). field xs p w) inv.place ∙ ap (field xs (at + total (take k ws))) ew)
      ∙ get-more xs at ws vs us k h e inv.got

  -- a field out of the bits looked at
  pub seen_more : (y : ℕ) → used + w < 64 → y ≡ seen / 2 ^ (64 - used - w) % 2 ^ w
      → Seen ws vs xs at (set us k y) start seen (used + w) (k + 1)
  seen_more y f ey = record {
    inside = omega arith;
    few = f;
    place = omega (arith, inv.place, total-more ws k h);
    looked = inv.looked;
    near = inv.near;
    same = length-set us k y ∙ inv.same;
    got = next y (ey ∙ ap (λ (x : ℕ). x / 2 ^ (64 - used - w) % 2 ^ w) inv.looked ∙ cut_at xs start used w (omega (arith, inv.near)) (omega arith));
  }

  -- the next 64 bits are looked at, and the field is their first
  pub seen-again : (x y : ℕ) → x ≡ field xs (start + used) 64 → y ≡ x / 2 ^ (64 - 0 - w) % 2 ^ w
      → Seen ws vs xs at (set us k y) (start + used) x w (k + 1)
  seen-again x y ex ey =
      let z : start + used + 0 ≡ start + used = omega arith in
      record {
        inside = omega arith;
        few = omega (arith, seen-narrow);
        place = omega (arith, inv.place, total-more ws k h);
        looked = ex;
        near = seen-near;
        same = length-set us k y ∙ inv.same;
        got = next y
            (ey ∙ ap (λ (b : ℕ). b / 2 ^ (64 - 0 - w) % 2 ^ w) ex
            ∙ cut_at xs (start + used) 0 w (omega (arith, seen-near)) (omega (arith, seen-narrow)) ∙ ap (λ (p : ℕ). field xs p w) z);
      }

-- the same with the numbers that the loop has
pub seen_as : {ws vs xs : List ℕ} {at k : ℕ} {us us' : List ℕ} {start start' seen seen' used used' : ℕ} → Seen ws vs xs at us start seen used k
    → us' ≡ us → start' ≡ start → seen' ≡ seen → used' ≡ used → Seen ws vs xs at us' start' seen' used' k
seen_as {ws = ws} {vs = vs} {xs = xs} {at = at} {k = k} {us = us} {start = start} {start' = start'} {seen = seen} {seen' = seen'} {used' = used'}
    inv eu es el ed =
    subst (λ (x : List ℕ). Seen ws vs xs at x start' seen' used' k) (sym eu)
    (subst (λ (x : ℕ). Seen ws vs xs at us x seen' used' k) (sym es)
    (subst (λ (x : ℕ). Seen ws vs xs at us start x used' k) (sym el)
    (subst (λ (x : ℕ). Seen ws vs xs at us start seen x k) (sym ed) inv)))

pub seen_all : {ws vs xs us : List ℕ} {at start seen used k : ℕ} → Seen ws vs xs at us start seen used k → length ws ≡ length vs → length ws ≤ k
    → us ≡ gathered ws (drop at (unpacked xs))
seen_all {ws = ws} {vs = vs} {xs = xs} {at = at} {k = k} inv e h =
    let v : length vs ≤ k = omega arith in
    inv.got
    ∙ ap (λ (t : List ℕ). gathered (take k ws) (drop at (unpacked xs)) ++ t) (drop_of_length-le vs v)
    ∙ append-nil (gathered (take k ws) (drop at (unpacked xs)))
    ∙ ap (λ (t : List ℕ). gathered t (drop at (unpacked xs))) (take_all k ws h)
