-- An accepted walk ends where the channels end, and shows that all of them stand inside the image with at most 8 messages each;
-- and an image of which this holds is accepted.
use Prim.Native.Nat.{ℕ, suc, ◌+◌, ◌-◌, ◌*◌, ◌≤◌, ◌<◌}
use native.Mathlib.Nat.{mul-le-mul, le_trans}
use native.Mathlib.Omega.{arith}
use mathlib.Core.Bool.{Bool, true, false, cond}
use mathlib.Core.List.{List}
use mathlib.Core.Path.{◌≡◌, refl, sym, subst, ◌∙◌}
use borrow.Author.Tests.{le-ltb, ltb-false, eqb-false}
use lib.Dec.{ltb, eqb}
use lib.ListN.{length}
use Rattle.image.specs.Places.{field_in, walked, channel_next, channels_next, channels_place, channels_from_place, channel_place}
use Rattle.image.specs.inner.Parts.{image_end}
use Rattle.image.specs.Widths.{message_width}
use Rattle.image.proofs.Bounds.{nodes-small}
use Rattle.image.proofs.PlaceLaws.{channel-on, channels-on, start-in, walked-le}
use Rattle.protocol.specs.Network.{Node, Two}
use Rattle.refusal.specs.declared.Refusal.TheVariants.{Fault, BadEnd}
use Rattle.image_reading.specs.inner.Cells.{Walkable}
use Rattle.image_reading.specs.Walk.{channel_step, channels_from_walk, channels_walk, walk}
use Rattle.std.proofs.Common.{Ok, Err}
use Rattle.image_reading.proofs.Steps.{Near, Went, went, steps-go, Stepped, channel-stepped}

-- ---- accepted walks
-- the channels from u, which start at q and end at r
pub record RowWent (d n : ℕ) (l : List ℕ) (u q r : ℕ) : Type 0 where
  pub place : r ≡ channels_next d n l u q
  pub near : Near (n * 1156) l q r
  pub few : (v : ℕ) → Node n v → (u ≡ v → ⊥) → field_in l (walked (channel_next d l u) (v - 1) q) 4 ≤ 8

module _ (d n : ℕ) (l : List ℕ) (small : d ≤ 32) where
  pub row-went : (u q r : ℕ) → channels_from_walk d n l u q ≡ Ok r → RowWent d n l u q r
  unfolding channels_from_walk channels_next
  row-went u q r e =
      let one : (v p s : ℕ) → channel_step d l u v p ≡ Ok s → Stepped d l u v p s = λ v p s t. channel-stepped d l u v p s small t in
      let w : Went (channel_step d l u) (channel_next d l u) 1156 l n q r =
      went (channel_step d l u) (channel_next d l u) 1156 l (λ v p s t. ((one v p s t).place, (one v p s t).near)) n q r e in
      record {
        place = w.place;
        near = w.near;
        few = λ v node other.
            let j : suc (v - 1) ≡ v = omega arith in
            (one (suc (v - 1)) (walked (channel_next d l u) (v - 1) q) (walked (channel_next d l u) (suc (v - 1)) q) (w.each (v - 1) (omega arith))).few
            (λ same. other (same ∙ j));
      }

  -- the bound that the loop over all nodes needs
  pub row_near : n ≤ 16 → (u q r : ℕ) → channels_from_walk d n l u q ≡ Ok r → r ≤ q + 18496
  row_near few u q r e = omega (arith, (row-went u q r e).near.near)

  -- all channels, which start at q and end at r
  channels-went : (q r : ℕ) → channels_walk d n l q ≡ Ok r → Went (channels_from_walk d n l) (channels_next d n l) (n * 1156) l n q r
  unfolding channels_walk
  channels-went q r e =
      went (channels_from_walk d n l) (channels_next d n l) (n * 1156) l (λ u p s t. ((row-went u p s t).place, (row-went u p s t).near)) n q r e

  channels-few : (q r : ℕ) → channels_walk d n l q ≡ Ok r → (u v : ℕ) → Two n u v
      → field_in l (walked (channel_next d l u) (v - 1) (walked (channels_next d n l) (u - 1) q)) 4 ≤ 8
  channels-few q r e u v two =
      let j : suc (u - 1) ≡ u = omega arith in
      let p : ℕ = walked (channels_next d n l) (u - 1) q in
      let row : RowWent d n l (suc (u - 1)) p (walked (channels_next d n l) (suc (u - 1)) q) =
      row-went (suc (u - 1)) p (walked (channels_next d n l) (suc (u - 1)) q) ((channels-went q r e).each (u - 1) (omega arith)) in
      subst (λ (x : ℕ). field_in l (walked (channel_next d l x) (v - 1) p) 4 ≤ 8) j (row.few v two.other (λ same. two.differ (sym j ∙ same)))

-- an accepted walk does not start behind the image
walk-starts : (h d n : ℕ) (l : List ℕ) (q : ℕ) → walk h d n l ≡ Ok q
    → (channels_place h d n ≤ length l) × (channels_walk d n l (channels_place h d n) ≡ Ok q)
unfolding walk
walk-starts h d n l q e = go (ltb (length l) (channels_place h d n)) refl e
  where
    go : (b : Bool) → ltb (length l) (channels_place h d n) ≡ b → cond b (Err BadEnd) (channels_walk d n l (channels_place h d n)) ≡ Ok q
        → (channels_place h d n ≤ length l) × (channels_walk d n l (channels_place h d n) ≡ Ok q)
    go true eb w = absurd (let z : ◌≡◌ {A = ℕ} 0 1 = cc in omega arith)
    go false eb w = (ltb-false (length l) (channels_place h d n) eb, w)

-- where the channels start, for what a header can say
start_small : (h d n : ℕ) → h < 4096 → d ≤ 32 → n ≤ 16 → channels_place h d n < 33792
unfolding channels_place
start_small h d n a b c = omega (arith, nodes-small d n b c)

pub walk-accepted : (h d n : ℕ) (l : List ℕ) (q : ℕ) → h < 4096 → d ≤ 32 → n ≤ 16 → walk h d n l ≡ Ok q
    → (q ≡ image_end h d n l) × Walkable h d n l
unfolding image_end channel_place channels_from_place
walk-accepted h d n l q short narrow few e =
    let p : ℕ = channels_place h d n in
    let (starts, all) = walk-starts h d n l q e in
    let w : Went (channels_from_walk d n l) (channels_next d n l) (n * 1156) l n p q = channels-went d n l narrow p q all in
    let row : n * 1156 ≤ 16 * 1156 = omega arith in
    let rows : n * (n * 1156) ≤ 16 * (16 * 1156) = mul-le-mul few row in
    let shown : Walkable h d n l =
    record {
      inside = subst (λ (x : ℕ). x ≤ length l) w.place (w.near.inside starts);
      small = subst (λ (x : ℕ). x < 1073741824) w.place (omega (arith, start_small h d n short narrow few, w.near.near));
      few = channels-few d n l narrow p q all;
    } in
    (w.place, shown)

-- ---- and back
-- a channel inside the image with at most 8 messages
channel-goes : (d : ℕ) (l : List ℕ) (u v q : ℕ) → channel_next d l u v q ≤ length l → ((u ≡ v → ⊥) → field_in l q 4 ≤ 8)
    → channel_step d l u v q ≡ Ok (channel_next d l u v q)
unfolding channel_step channel_next
channel-goes d l u v q inside few = go (eqb u v) refl inside
  where
    next : ℕ
    next = q + 4 + field_in l q 4 * message_width d

    go : (b : Bool) → eqb u v ≡ b → cond b q next ≤ length l
        → cond b (Ok q)
        (cond (ltb (length l) (q + 4)) (Err BadEnd) (cond (ltb 8 (field_in l q 4)) (Err (Fault u v)) (cond (ltb (length l) next) (Err BadEnd) (Ok next))))
        ≡ Ok (cond b q next)
    go true e i = refl
    go false e i =
        let room : ltb (length l) (q + 4) ≡ false = le-ltb (length l) (q + 4) (omega arith) in
        let count : ltb 8 (field_in l q 4) ≡ false = le-ltb 8 (field_in l q 4) (few (eqb-false u v e)) in
        let end : ltb (length l) next ≡ false = le-ltb (length l) next i in
        rw (room, count, end)

module _ (d n : ℕ) (l : List ℕ) where
  -- the channels from u
  row_goes : (u q : ℕ) → channels_next d n l u q ≤ length l
      → ((v : ℕ) → Node n v → (u ≡ v → ⊥) → field_in l (walked (channel_next d l u) (v - 1) q) 4 ≤ 8)
      → channels_from_walk d n l u q ≡ Ok (channels_next d n l u q)
  unfolding channels_from_walk channels_next walked
  row_goes u q inside few =
      steps-go (channel_step d l u) (channel_next d l u) n q
      (λ j h.
      let k : suc j - 1 ≡ j = omega arith in
      channel-goes d l u (suc j) (walked (channel_next d l u) j q)
      (le_trans (walked-le (channel_next d l u) (channel-on d l u) (suc j) n q h) inside)
      (λ other.
      subst (λ (x : ℕ). field_in l (walked (channel_next d l u) x q) 4 ≤ 8) k (few (suc j) (record { low = omega arith; high = h }) other)))

  -- all channels
  channels-go : (q : ℕ) → walked (channels_next d n l) n q ≤ length l
      → ((u v : ℕ) → Two n u v → field_in l (walked (channel_next d l u) (v - 1) (walked (channels_next d n l) (u - 1) q)) 4 ≤ 8)
      → channels_walk d n l q ≡ Ok (walked (channels_next d n l) n q)
  unfolding channels_walk walked
  channels-go q inside few =
      steps-go (channels_from_walk d n l) (channels_next d n l) n q
      (λ j h.
      let k : suc j - 1 ≡ j = omega arith in
      row_goes (suc j) (walked (channels_next d n l) j q)
      (le_trans (walked-le (channels_next d n l) (channels-on d n l) (suc j) n q h) inside)
      (λ v node other.
      subst (λ (x : ℕ). field_in l (walked (channel_next d l (suc j)) (v - 1) (walked (channels_next d n l) x q)) 4 ≤ 8) k
      (few (suc j) v (record { one = record { low = omega arith; high = h }; other = node; differ = other }))))

pub walk-goes : (h d n : ℕ) (l : List ℕ) → image_end h d n l ≤ length l
    → ((u v : ℕ) → Two n u v → field_in l (channel_place h d n l u v) 4 ≤ 8) → walk h d n l ≡ Ok (image_end h d n l)
unfolding walk image_end channel_place channels_from_place
walk-goes h d n l inside few =
    let p : ℕ = channels_place h d n in
    let starts : ltb (length l) p ≡ false = le-ltb (length l) p (le_trans (start-in h d n l) inside) in
    rw starts (channels-go d n l p inside few)
