-- What a reader finds in the image of a sound network: the header, the walk to the end, the pad, and the network's tables.
-- Assumes 1 to 16 nodes, and a network that breaks no rule and holds nothing beyond node n; that its contents pass, also that its times make sense.
use Prim.Native.Nat.{ℕ, suc, ◌+◌, ◌-◌, ◌≤◌, ◌<◌}
use native.Mathlib.Omega.{arith}
use mathlib.Core.Bool.{true}
use mathlib.Core.Path.{◌≡◌, refl, ap, ◌∙◌}
use borrow.Author.Tests.{eq-eqb, ne_eqb, le-leb, lt-ltb, le-ltb}
use lib.ListN.{length, drop, length-map}
use Rattle.bits.specs.Bits.{field, unpacked}
use Rattle.bits.proofs.Bytes.{length-unpacked}
use Rattle.image.specs.Image.{image_of, image}
use Rattle.image.specs.Places.{field_in, channel_from, channel_place, records_in, tables_in}
use Rattle.image.specs.inner.Parts.{image_end}
use Rattle.image.proofs.ChannelLaws.{length-messages-of}
use Rattle.image.proofs.ImageBits.{length-image, length_whole, number-zeros}
use Rattle.image.proofs.NetworkFits.{network-fit}
use Rattle.image.proofs.ReadBack.{Fit}
use Rattle.image.proofs.Whole.{version-read, header_read, count-read, spare-read, image-read, image-end, image-inside, image-no-more}
use Rattle.image_reading.specs.Examine.{after_walk, examined}
use Rattle.image_reading.specs.Header.{fields_of, header_holds, header_of}
use Rattle.image_reading.specs.Walk.{walk, ends_at}
use Rattle.std.specs.Prelude.{Ok}
use Rattle.image_reading.proofs.WalkLaws.{walk-goes}
use Rattle.lent.specs.Check.{contents_on}
use Rattle.lent.proofs.CheckLaws.{is-sized, check-pairs}
use Rattle.lent.proofs.SoundNetworks.{sound-check}
use Rattle.protocol.specs.Holds.{sound}
use Rattle.protocol.specs.Network.{Two, Network, restrict}
use Rattle.protocol.specs.Times.{timely}
use Rattle.protocol.proofs.SoundStep.{sound-fits}
use Rattle.protocol.proofs.Soundness.{Fits, diagonal}
use Rattle.refusal.specs.Outcome.{accepted}
use Rattle.refusal.specs.Refusal.{why}
use Rattle.tables.specs.Cell.{message_words}
use Rattle.tables.specs.Load.{tables_of}
use Rattle.tables.specs.Records.{records_of}
use Rattle.tables.proofs.Back.{storable, tables-sized}
use Rattle.image.specs.Widths.{header_length, depth_width}
use Rattle.tables.proofs.RecordsLaws.{Agree, agree-tables}

module _ (n : ℕ) (low : 1 ≤ n) (few : n ≤ 16) (p : Network) (holds : sound n p ≡ true) (inside : restrict n p ≡ p) where
  fits : Fits n p
  fits = sound-fits n p inside holds

  fit : Fit 16 n (records_of n p)
  fit = network-fit n few p fits

  long : 4 ≤ length (image n p)
  unfolding image
  long = omega (arith, length-image 1 header_length depth_width n (records_of n p), length_whole 1 header_length depth_width n (records_of n p) (omega arith))

  pub image-fields : fields_of (image n p) ≡ record { version = 1; length = 32; n = n }
  unfolding image field field_in
  image-fields =
      rw (
        version-read 1 header_length depth_width n (records_of n p) (omega arith),
        header_read 1 header_length depth_width n (records_of n p) (omega arith),
        count-read 1 header_length depth_width n (records_of n p) (omega arith),
      )

  header-holds : header_holds 1 32 (image n p) ≡ true
  unfolding header_holds image field field_in
  header-holds =
      rw (
        version-read 1 header_length depth_width n (records_of n p) (omega arith),
        header_read 1 header_length depth_width n (records_of n p) (omega arith),
        count-read 1 header_length depth_width n (records_of n p) (omega arith),
        spare-read 1 header_length depth_width n (records_of n p),
        le-leb 1 n low,
        le-leb n 16 few,
      )

  pub image-header : header_of (image n p) ≡ accepted (record { version = 1; length = 32; n = n })
  unfolding header_of
  image-header = rw (le-ltb (length (image n p)) 4 long, header-holds, image-fields)

  agree : Agree n (records_in header_length depth_width n (unpacked (image n p))) (records_of n p)
  unfolding image
  agree = image-read 1 header_length depth_width n (omega arith) (omega arith) (omega arith) (records_of n p) fit

  -- the tables that its records make are the network's
  pub image-tables : tables_in header_length depth_width n (unpacked (image n p)) ≡ tables_of n p
  unfolding tables_in tables_of
  image-tables = agree-tables n (records_in header_length depth_width n (unpacked (image n p))) (records_of n p) agree unused
    where
      unused : (i : ℕ) → i < n → (records_in header_length depth_width n (unpacked (image n p))).channel (suc i) (suc i) ≡ (records_of n p).channel (suc i) (suc i)
      unused i l = unfold records_in records_of in rw (eq-eqb (suc i) (suc i) refl, diagonal n p fits (suc i))

  few-at : (i j : ℕ) → i < n → j < n → (suc i ≡ suc j → ⊥)
      → field_in (unpacked (image n p)) (channel_place header_length depth_width n (unpacked (image n p)) (suc i) (suc j)) 4 ≤ 8
  unfolding records_in records_of channel_from
  few-at i j l m d =
      let q = channel_place header_length depth_width n (unpacked (image n p)) (suc i) (suc j) in
      let same = rw (ne_eqb (suc i) (suc j) d) at (ap length (agree.channels i j l m d)) in
      omega (
        arith,
        same,
        length-map (p.channel (suc i) (suc j)) message_words,
        fits.lengths (suc i) (suc j),
        length-messages-of 16 (field_in (unpacked (image n p)) q 4) (drop (q + 4) (unpacked (image n p))),
      )

  few-in : (u v : ℕ) → Two n u v → field_in (unpacked (image n p)) (channel_place header_length depth_width n (unpacked (image n p)) u v) 4 ≤ 8
  few-in u v t =
      let a : suc (u - 1) ≡ u = omega (arith, t.one.low) in
      let b : suc (v - 1) ≡ v = omega (arith, t.other.low) in
      rw (a, b) at
      (few-at (u - 1) (v - 1) (omega (arith, t.one.low, t.one.high)) (omega (arith, t.other.low, t.other.high))
      (λ e. t.differ (omega (arith, e, t.one.low, t.other.low))))

  end-in : image_end header_length depth_width n (unpacked (image n p)) ≤ length (unpacked (image n p))
  unfolding image
  end-in = rw (length-unpacked (image_of 1 header_length depth_width n (records_of n p)))
      (image-inside 1 header_length depth_width n (omega arith) (omega arith) (omega arith) (records_of n p) fit)

  pub image-walk : walk header_length depth_width n (unpacked (image n p)) ≡ Ok (image_end header_length depth_width n (unpacked (image n p)))
  image-walk = walk-goes header_length depth_width n (unpacked (image n p)) end-in few-in

  pub image-ends : ends_at (unpacked (image n p)) (image_end header_length depth_width n (unpacked (image n p))) ≡ true
  unfolding ends_at image
  image-ends =
      let l = unpacked (image_of 1 header_length depth_width n (records_of n p)) in
      let e = image_end header_length depth_width n l in
      let near = image-no-more 1 header_length depth_width n (omega arith) (omega arith) (omega arith) (records_of n p) fit in
      let rest = image-end 1 header_length depth_width n (omega arith) (omega arith) (omega arith) (records_of n p) fit in
      rw (lt-ltb (length l) (e + 8) (rw (length-unpacked (image_of 1 header_length depth_width n (records_of n p))) near), rest, number-zeros _)

  module _ (times : timely n p ≡ true) where
    -- nothing is at fault, and no pair is untimely
    image-contents : contents_on n (tables_in header_length depth_width n (unpacked (image n p))) ≡ why 0 0 0
    image-contents =
        rw image-tables
        (check-pairs n (tables_of n p) (is-sized n (tables_of n p) (tables-sized n p low few)) ∙ sound-check n p (storable n p fits) holds times low few)

    pub image-examined : examined header_length depth_width n (unpacked (image n p)) ≡ why 0 0 0
    unfolding examined after_walk
    image-examined = rw (image-walk, image-ends) image-contents
