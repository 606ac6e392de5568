-- The whole image as bytes: an image that was written is accepted and read, an accepted image is that of the records read from it.
-- Assumes that the records fit (Fit), a depth's width from 1 to 32, and a header of at least 21 bits.
use Prim.Native.Nat.{ℕ, zero, suc, ◌+◌, ◌-◌, ◌*◌, ◌/◌, ◌%◌, ◌≤◌, ◌<◌}
use native.Mathlib.Omega.{arith}
use mathlib.Core.Path.{◌≡◌, sym, ap, ap₂, ◌∙◌}
use mathlib.Core.List.{List, ◌++◌, append_assoc}
use lib.ListN.{length, take, drop, replicate, length-append, length-drop}
use lib.Pow.{pow_pos}
use Rattle.bits.specs.Bits.{bits, number, packed, unpacked}
use Rattle.bits.proofs.Bytes.{below-unpacked, length-unpacked, packed-unpacked}
use Rattle.bits.proofs.Numbers.{Below, below-nil, below-cons, below-append, below-zeros, below-drop}
use Rattle.tables.specs.Records.{Records}
use Rattle.tables.proofs.RecordsLaws.{Agree}
use Rattle.image.specs.Image.{header_bits, network_bits, padded, bytes_of, image_of}
use Rattle.image.specs.Places.{field_in, records_in}
use Rattle.image.specs.inner.Parts.{image_end}
use Rattle.image.proofs.FieldInLaws.{field-head, field-behind, field-tail, field-in-lt}
use Rattle.image.proofs.ImageBits.{number-zeros, zeros, padding, whole_bits, below-whole, unpacked-image, length-image, length_whole, behind-header}
use Rattle.image.proofs.ReadBack.{Fit, network-read, end_read, place_read}
use Rattle.image.proofs.WriteBack.{network-written}

-- ---- the header's fields in a written image

module _ (version h d n : ℕ) (r : Records) where
  made : List ℕ
  made = unpacked (image_of version h d n r)

  rest : List ℕ
  rest = network_bits d n r ++ replicate (padding (whole_bits version h d n r)) 0

  h₀ : drop 0 made ≡ bits 4 version ++ (bits 12 h ++ (bits 5 n ++ (bits (h - 21) 0 ++ rest)))
  unfolding header_bits made rest
  h₀ = unpacked-image version h d n r ∙ simp append_assoc

  h₁ : drop 4 made ≡ bits 12 h ++ (bits 5 n ++ (bits (h - 21) 0 ++ rest))
  h₁ = field-behind made _ 0 4 version h₀

  h₂ : drop 16 made ≡ bits 5 n ++ (bits (h - 21) 0 ++ rest)
  h₂ = field-behind made _ 4 12 h h₁

  h₃ : drop 21 made ≡ bits (h - 21) 0 ++ rest
  h₃ = field-behind made _ 16 5 n h₂

  pub version-read : version < 16 → field_in (unpacked (image_of version h d n r)) 0 4 ≡ version
  unfolding made
  version-read b = field-head made _ 0 4 version b h₀

  pub header_read : h < 4096 → field_in (unpacked (image_of version h d n r)) 4 12 ≡ h
  unfolding made
  header_read b = field-head made _ 4 12 h b h₁

  pub count-read : n < 32 → field_in (unpacked (image_of version h d n r)) 16 5 ≡ n
  unfolding made
  count-read b = field-head made _ 16 5 n b h₂

  pub spare-read : field_in (unpacked (image_of version h d n r)) 21 (h - 21) ≡ 0
  unfolding made
  spare-read = field-head made _ 21 (h - 21) 0 (pow_pos (h - 21)) h₃

-- ---- bytes that bits make are below 256

pub below-packed : (n : ℕ) (l : List ℕ) → Below 2 l → Below 256 (packed n l)
unfolding packed field_in
below-packed zero l b = below-nil 256 (omega arith)
below-packed (suc n) l b =
    below-cons 256 (number (take 8 l)) (packed n (drop 8 l)) (field-in-lt l 0 8 b) (below-packed n (drop 8 l) (below-drop 2 8 l b))

pub below-image : (version h d n : ℕ) (r : Records) → Below 256 (image_of version h d n r)
unfolding image_of bytes_of padded
below-image version h d n r =
    let l : List ℕ = whole_bits version h d n r in
    below-packed ((length l + 7) / 8) (l ++ replicate (padding l) 0)
    (below-append 2 l (replicate (padding l) 0) (below-whole version h d n r) (below-zeros 2 (padding l) (omega arith)))

-- what a reader tests of bytes before it takes them for a network of n nodes
pub record Accepted (version h d n : ℕ) (xs : List ℕ) : Type 0 where
  pub bytes : Below 256 xs
  pub is-version : field_in (unpacked xs) 0 4 ≡ version
  pub is-header : field_in (unpacked xs) 4 12 ≡ h
  pub is-count : field_in (unpacked xs) 16 5 ≡ n
  pub spare : field_in (unpacked xs) 21 (h - 21) ≡ 0
  pub inside : image_end h d n (unpacked xs) ≤ 8 * length xs
  pub no_more : 8 * length xs < image_end h d n (unpacked xs) + 8
  pub long : h ≤ 8 * length xs
  pub pad : number (drop (image_end h d n (unpacked xs)) (unpacked xs)) ≡ 0

module _ (version h d n : ℕ) (one : 1 ≤ d) (wide : d ≤ 32) (head : 21 ≤ h) where
  -- ---- an image that was written
  module _ (r : Records) (fit : Fit d n r) where
    -- THEOREM: it is read: the records are the same, and only zero bits to the byte's end are left
    pub image-read : Agree n (records_in h d n (unpacked (image_of version h d n r))) r
    image-read =
        network-read d one wide n r fit (unpacked (image_of version h d n r)) h (replicate (padding (whole_bits version h d n r)) 0)
        (behind-header version h d n r head)

    pub image-end : drop (image_end h d n (unpacked (image_of version h d n r))) (unpacked (image_of version h d n r))
        ≡ replicate (padding (whole_bits version h d n r)) 0
    image-end =
        end_read d one wide n r fit (unpacked (image_of version h d n r)) h (replicate (padding (whole_bits version h d n r)) 0)
        (behind-header version h d n r head)

    -- its end, and its size
    pub image-place : image_end h d n (unpacked (image_of version h d n r)) ≡ h + length (network_bits d n r)
    image-place =
        place_read d one wide n r fit (unpacked (image_of version h d n r)) h (replicate (padding (whole_bits version h d n r)) 0)
        (behind-header version h d n r head)

    pub image-inside : image_end h d n (unpacked (image_of version h d n r)) ≤ 8 * length (image_of version h d n r)
    image-inside = omega (arith, image-place, length-image version h d n r, length_whole version h d n r head)

    pub image-no-more : 8 * length (image_of version h d n r) < image_end h d n (unpacked (image_of version h d n r)) + 8
    image-no-more = omega (arith, image-place, length-image version h d n r, length_whole version h d n r head)

    -- THEOREM: it is accepted
    pub image-accepted : version < 16 → h < 4096 → n < 32 → Accepted version h d n (image_of version h d n r)
    image-accepted bv bh bn = record {
      bytes = below-image version h d n r;
      is-version = version-read version h d n r bv;
      is-header = header_read version h d n r bh;
      is-count = count-read version h d n r bn;
      spare = spare-read version h d n r;
      inside = image-inside;
      no_more = image-no-more;
      long = omega (arith, image-place, image-inside);
      pad = ap number image-end ∙ number-zeros (padding (whole_bits version h d n r));
    }

  -- ---- an image that was accepted

  header-written : (xs : List ℕ) → Accepted version h d n xs → unpacked xs ≡ header_bits version h n ++ drop h (unpacked xs)
  unfolding header_bits
  header-written xs a =
      let l : List ℕ = unpacked xs in
      let b : Below 2 l = below-unpacked xs in
      let m : length l ≡ 8 * length xs = length-unpacked xs in
      let g : 21 + (h - 21) ≡ h = omega arith in
      let c₁ : l ≡ bits 4 version ++ drop 4 l =
      field-tail l 0 4 b (omega (arith, a.long)) ∙ ap (λ (x : ℕ). bits 4 x ++ drop 4 l) a.is-version in
      let c₂ : drop 4 l ≡ bits 12 h ++ drop 16 l =
      field-tail l 4 12 b (omega (arith, a.long)) ∙ ap (λ (x : ℕ). bits 12 x ++ drop 16 l) a.is-header in
      let c₃ : drop 16 l ≡ bits 5 n ++ drop 21 l =
      field-tail l 16 5 b (omega (arith, a.long)) ∙ ap (λ (x : ℕ). bits 5 x ++ drop 21 l) a.is-count in
      let c₄ : drop 21 l ≡ bits (h - 21) 0 ++ drop h l =
      field-tail l 21 (h - 21) b (omega (arith, a.long)) ∙ ap₂ (λ (x k : ℕ). bits (h - 21) x ++ drop k l) a.spare g in
      let w : l ≡ bits 4 version ++ (bits 12 h ++ (bits 5 n ++ (bits (h - 21) 0 ++ drop h l))) =
      c₁ ∙ ap (λ (x : List ℕ). bits 4 version ++ x) (c₂ ∙ ap (λ (x : List ℕ). bits 12 h ++ x) (c₃ ∙ ap (λ (x : List ℕ). bits 5 n ++ x) c₄)) in
      let s : (bits 4 version ++ (bits 12 h ++ (bits 5 n ++ bits (h - 21) 0))) ++ drop h l
      ≡ bits 4 version ++ (bits 12 h ++ (bits 5 n ++ (bits (h - 21) 0 ++ drop h l))) = simp append_assoc in
      w ∙ sym s

  -- THEOREM: it is the image of the records that are read from it
  pub image-of-read : (xs : List ℕ) → Accepted version h d n xs → xs ≡ image_of version h d n (records_in h d n (unpacked xs))
  unfolding image_of bytes_of padded
  image-of-read xs a =
      let u : List ℕ = unpacked xs in
      let r : Records = records_in h d n u in
      let l : List ℕ = whole_bits version h d n r in
      let end : ℕ = image_end h d n u in
      let t : List ℕ = drop end u in
      let m : length u ≡ 8 * length xs = length-unpacked xs in
      let lt : length t ≡ length u - end = length-drop end u in
      let z : t ≡ replicate (length t) 0 = zeros t (below-drop 2 end u (below-unpacked xs)) a.pad in
      let c : u ≡ l ++ t =
      header-written xs a
      ∙ ap (λ (x : List ℕ). header_bits version h n ++ x) (network-written d one wide u (below-unpacked xs) h n (rw m a.inside))
      ∙ sym (append_assoc (header_bits version h n) (network_bits d n r) t) in
      let ll : length u ≡ length l + length t = ap length c ∙ length-append l t in
      let k : length t ≡ (8 - length l % 8) % 8 = omega (arith, a.inside, a.no_more) in
      let q : length xs ≡ (length l + 7) / 8 = omega (arith, a.inside, a.no_more) in
      sym (packed-unpacked xs a.bytes)
      ∙ ap₂ packed q (c ∙ ap (λ (x : List ℕ). l ++ x) (z ∙ ap (λ (x : ℕ). replicate x 0) k))
