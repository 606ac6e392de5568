-- The reader tests bytes, the definitions speak of bits: the bounds agree, and so each return of `walk_channel`, `whole` and `ends_at`
-- is what the definition says.
use Prim.Native.Nat.{ℕ, ◌+◌, ◌-◌, ◌*◌, ◌/◌, ◌%◌, ◌≤◌, ◌<◌}
use native.Mathlib.Omega.{arith}
use mathlib.Core.Bool.{true, false}
use mathlib.Core.List.{List}
use mathlib.Core.Path.{◌≡◌, sym, ap, ◌∙◌}
use borrow.Author.Tests.{lt-ltb, le-ltb, eq-eqb, ne_eqb}
use lib.Dec.{ltb, eqb}
use lib.ListN.{length, drop, length-drop}
use lib.Seq.{take_all}
use Rattle.bits.specs.Bits.{number, field, unpacked}
use Rattle.bits.proofs.Bytes.{length-unpacked}
use Rattle.image.specs.Places.{field_in, channels_place}
use Rattle.image.specs.Widths.{message_width, node_width}
use Rattle.refusal.specs.declared.Refusal.TheVariants.{Fault, BadEnd}
use Rattle.image_reading.specs.Walk.{Walk, channel_step, channels_walk, walk, ends_at}
use Rattle.std.proofs.Common.{Ok, Err}

-- ---- a place of bits against the number of bytes
module _ (xs : List ℕ) (q : ℕ) where
  cut_off : length xs < (q + 7) / 8 → ltb (length (unpacked xs)) q ≡ true
  cut_off h = lt-ltb (length (unpacked xs)) q (omega (arith, length-unpacked xs))

  not-cut : (q + 7) / 8 ≤ length xs → ltb (length (unpacked xs)) q ≡ false
  not-cut h = le-ltb (length (unpacked xs)) q (omega (arith, length-unpacked xs))

  count_cut : length xs < (q + 11) / 8 → ltb (length (unpacked xs)) (q + 4) ≡ true
  count_cut h = lt-ltb (length (unpacked xs)) (q + 4) (omega (arith, length-unpacked xs))

  count-stands : (q + 11) / 8 ≤ length xs → ltb (length (unpacked xs)) (q + 4) ≡ false
  count-stands h = le-ltb (length (unpacked xs)) (q + 4) (omega (arith, length-unpacked xs))

-- ---- the returns of walk_channel; c is the count that was read
pub own-channel : (d : ℕ) (l : List ℕ) (u v q : ℕ) → u ≡ v → Ok q ≡ channel_step d l u v q
unfolding channel_step
own-channel d l u v q e = rw (eq-eqb u v e)

module _ (d : ℕ) (xs : List ℕ) (u v q : ℕ) (other : u ≡ v → ⊥) where
  pub no-count : length xs < (q + 11) / 8 → Err BadEnd ≡ channel_step d (unpacked xs) u v q
  unfolding channel_step
  no-count h = rw (ne_eqb u v other, count_cut xs q h)

  module _ (stands : (q + 11) / 8 ≤ length xs) (c : ℕ) (read : c ≡ field xs q 4) where
    same : field_in (unpacked xs) q 4 ≡ c
    unfolding field_in field
    same = sym read

    pub too_many : 8 < c → Err (Fault u v) ≡ channel_step d (unpacked xs) u v q
    unfolding channel_step
    too_many h = rw (ne_eqb u v other, count-stands xs q stands, same, lt-ltb 8 c h)

    pub messages-cut : c ≤ 8 → length xs < (q + 4 + c * message_width d + 7) / 8 → Err BadEnd ≡ channel_step d (unpacked xs) u v q
    unfolding channel_step
    messages-cut h k = rw (ne_eqb u v other, count-stands xs q stands, same, le-ltb 8 c h, cut_off xs (q + 4 + c * message_width d) k)

    pub goes_on : c ≤ 8 → (q + 4 + c * message_width d + 7) / 8 ≤ length xs → Ok (q + 4 + c * message_width d) ≡ channel_step d (unpacked xs) u v q
    unfolding channel_step
    goes_on h k = rw (ne_eqb u v other, count-stands xs q stands, same, le-ltb 8 c h, not-cut xs (q + 4 + c * message_width d) k)

-- ---- the returns of whole
module _ (h d n : ℕ) (xs : List ℕ) where
  pub nodes-cut : length xs < (h + n * node_width d n + 7) / 8 → Err BadEnd ≡ walk h d n (unpacked xs)
  unfolding walk channels_place
  nodes-cut k = rw (cut_off xs (h + n * node_width d n) k)

  pub nodes-stand : (w : Walk) → (h + n * node_width d n + 7) / 8 ≤ length xs
      → w ≡ channels_walk d n (unpacked xs) (h + n * node_width d n) → w ≡ walk h d n (unpacked xs)
  unfolding walk channels_place
  nodes-stand w k e = rw (not-cut xs (h + n * node_width d n) k) e

-- ---- the returns of ends_at
module _ (xs : List ℕ) (q : ℕ) where
  pub bytes_left : (q + 7) / 8 < length xs → false ≡ ends_at (unpacked xs) q
  unfolding ends_at
  bytes_left h =
      let more : ltb (length (unpacked xs)) (q + 8) ≡ false = le-ltb (length (unpacked xs)) (q + 8) (omega (arith, length-unpacked xs)) in
      rw more

  -- the bits that are read are all that are left
  pub pad-read : length xs ≤ (q + 7) / 8 → q ≤ 8 * length xs → (c : ℕ) → c ≡ field xs q ((8 - q % 8) % 8) → eqb c 0 ≡ ends_at (unpacked xs) q
  unfolding ends_at field
  pad-read h inside c read =
      let last : ltb (length (unpacked xs)) (q + 8) ≡ true = lt-ltb (length (unpacked xs)) (q + 8) (omega (arith, length-unpacked xs)) in
      let few : length (drop q (unpacked xs)) ≤ (8 - q % 8) % 8 = simp length-drop (omega (arith, length-unpacked xs)) in
      let all : c ≡ number (drop q (unpacked xs)) = read ∙ ap number (take_all ((8 - q % 8) % 8) (drop q (unpacked xs)) few) in
      rw (last, all)
