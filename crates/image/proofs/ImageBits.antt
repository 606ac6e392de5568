-- The bits of an image: header, network, zero bits to the byte's end; its length in bytes; images of records that agree are the same.
-- Assumes a header of at least 21 bits.
use Prim.Native.Nat.{ℕ, zero, suc, ◌+◌, ◌-◌, ◌*◌, ◌/◌, ◌%◌, ◌^◌, ◌≤◌, ◌<◌}
use native.Mathlib.Nat.{zero-div, zero-mod}
use native.Mathlib.Omega.{arith}
use mathlib.Core.Path.{◌≡◌, refl, sym, ap, ap₂, ◌∙◌}
use mathlib.Core.List.{List, ◌∷◌, ◌++◌, append_assoc}
use borrow.Author.Tests.{eqb-false}
use lib.Dec.{eqb}
use lib.ListN.{length, drop, replicate, length-append, length-replicate}
use lib.Seq.{drop_at}
use Rattle.basics.proofs.Tests.{Choice, yes!, no!, choice}
use Rattle.bits.specs.Bits.{bits, number, unpacked}
use Rattle.bits.proofs.Bytes.{unpacked-packed, length-packed}
use Rattle.bits.proofs.Numbers.{Below, below-append, below-zeros, below-bits, length-bits, bits-number, number-bits}
use Rattle.tables.specs.Records.{Records}
use Rattle.tables.specs.Rows.{rows}
use Rattle.tables.proofs.RecordsLaws.{Agree}
use Rattle.tables.proofs.RowsMore.{rows_same}
use Rattle.image.specs.Image.{header_bits, node_bits, message_bits, channel_bits, channels_bits, network_bits, padded, bytes_of, image_of}
use Rattle.image.specs.Widths.{record_bits}
use Rattle.image.proofs.ChannelLaws.{channel-same, channel-other, below-channel}
use Rattle.image.proofs.RecordLaws.{below-record}
use Rattle.image.proofs.RowsMore.{below_rows}

-- ---- zero bits

pub bits-zero : (w : ℕ) → bits w 0 ≡ replicate w 0
unfolding bits
bits-zero zero = refl
bits-zero (suc w) = ap₂ (λ (x : ℕ) (t : List ℕ). x ∷ t) (ap (λ (x : ℕ). x % 2) (zero-div (2 ^ w)) ∙ zero-mod 2) (bits-zero w)

-- bits spell 0 where they are zeros, and there only
pub number-zeros : (w : ℕ) → number (replicate w 0) ≡ 0
number-zeros w = ap number (sym (bits-zero w)) ∙ number-bits w 0 ∙ zero-mod (2 ^ w)

pub zeros : (t : List ℕ) → Below 2 t → number t ≡ 0 → t ≡ replicate (length t) 0
zeros t b e = sym (bits-number t b) ∙ ap (bits (length t)) e ∙ bits-zero (length t)

-- ---- the parts hold bits

pub below-node : (d n : ℕ) (r : Records) (u : ℕ) → Below 2 (node_bits d n r u)
unfolding node_bits
below-node d n r u =
    let hs : List ℕ = rows n (λ v. record_bits d (r.height u v)) in
    below-append 2 (bits 32 (r.clock u)) (bits 16 (r.neighbors u) ++ (bits 16 (r.forming u) ++ hs)) (below-bits 32 (r.clock u))
    (below-append 2 (bits 16 (r.neighbors u)) (bits 16 (r.forming u) ++ hs) (below-bits 16 (r.neighbors u))
    (below-append 2 (bits 16 (r.forming u)) hs (below-bits 16 (r.forming u))
    (below_rows 2 n (λ v. record_bits d (r.height u v)) (omega arith) (λ v. below-record d (r.height u v)))))

pub below-channels : (d n : ℕ) (r : Records) (u : ℕ) → Below 2 (channels_bits d n r u)
unfolding channels_bits
below-channels d n r u = below_rows 2 n (channel_bits d r u) (omega arith) (λ v. below-channel d r u v)

pub below-network : (d n : ℕ) (r : Records) → Below 2 (network_bits d n r)
unfolding network_bits
below-network d n r =
    below-append 2 (rows n (node_bits d n r)) (rows n (channels_bits d n r))
    (below_rows 2 n (node_bits d n r) (omega arith) (below-node d n r))
    (below_rows 2 n (channels_bits d n r) (omega arith) (below-channels d n r))

pub below-header : (version h n : ℕ) → Below 2 (header_bits version h n)
unfolding header_bits
below-header version h n =
    below-append 2 (bits 4 version) (bits 12 h ++ (bits 5 n ++ bits (h - 21) 0)) (below-bits 4 version)
    (below-append 2 (bits 12 h) (bits 5 n ++ bits (h - 21) 0) (below-bits 12 h)
    (below-append 2 (bits 5 n) (bits (h - 21) 0) (below-bits 5 n) (below-bits (h - 21) 0)))

pub length-header : (version h n : ℕ) → 21 ≤ h → length (header_bits version h n) ≡ h
unfolding header_bits
length-header version h n head = simp (length-append, length-bits) (omega arith)

-- ---- the bytes that bits make, with zero bits to the byte's end

-- how many zero bits
abbrev pub padding : List ℕ → ℕ
padding l = (8 - length l % 8) % 8

-- they fill the last byte
pub length-padded : (l : List ℕ) → length (padded l) ≡ 8 * ((length l + 7) / 8)
unfolding padded
length-padded l = length-append l (replicate (padding l) 0) ∙ omega (arith, length-replicate {A = ℕ} (padding l) 0)

pub unpacked-bytes : (l : List ℕ) → Below 2 l → unpacked (bytes_of l) ≡ l ++ replicate (padding l) 0
unfolding bytes_of padded
unpacked-bytes l b =
    unpacked-packed ((length l + 7) / 8) (padded l) (length-padded l) (below-append 2 l (replicate (padding l) 0) b (below-zeros 2 (padding l) (omega arith)))

pub length-bytes : (l : List ℕ) → length (bytes_of l) ≡ (length l + 7) / 8
unfolding bytes_of
length-bytes l = length-packed ((length l + 7) / 8) (padded l)

-- ---- the image's

abbrev pub whole_bits : ℕ → ℕ → ℕ → ℕ → Records → List ℕ
whole_bits version h d n r = header_bits version h n ++ network_bits d n r

module _ (version h d n : ℕ) (r : Records) where
  pub below-whole : Below 2 (whole_bits version h d n r)
  below-whole = below-append 2 (header_bits version h n) (network_bits d n r) (below-header version h n) (below-network d n r)

  pub unpacked-image : unpacked (image_of version h d n r) ≡ whole_bits version h d n r ++ replicate (padding (whole_bits version h d n r)) 0
  unfolding image_of
  unpacked-image = unpacked-bytes (whole_bits version h d n r) below-whole

  pub length-image : length (image_of version h d n r) ≡ (length (whole_bits version h d n r) + 7) / 8
  unfolding image_of
  length-image = length-bytes (whole_bits version h d n r)

  pub length_whole : 21 ≤ h → length (whole_bits version h d n r) ≡ h + length (network_bits d n r)
  length_whole head =
      length-append (header_bits version h n) (network_bits d n r) ∙ ap (λ (x : ℕ). x + length (network_bits d n r)) (length-header version h n head)

  pub behind-header : 21 ≤ h
      → drop h (unpacked (image_of version h d n r)) ≡ network_bits d n r ++ replicate (padding (whole_bits version h d n r)) 0
  behind-header head =
      let z : List ℕ = replicate (padding (whole_bits version h d n r)) 0 in
      ap (drop h) (unpacked-image ∙ append_assoc (header_bits version h n) (network_bits d n r) z)
      ∙ drop_at (header_bits version h n) (network_bits d n r ++ z) h (length-header version h n head)

-- ---- records that agree

module _ (n : ℕ) (r s : Records) (same : Agree n r s) (d : ℕ) where
  same-node : (i : ℕ) → i < n → node_bits d n r (suc i) ≡ node_bits d n s (suc i)
  unfolding node_bits
  same-node i b =
      let e : rows n (λ v. record_bits d (r.height (suc i) v)) ≡ rows n (λ v. record_bits d (s.height (suc i) v)) =
      rows_same n (λ v. record_bits d (r.height (suc i) v)) (λ v. record_bits d (s.height (suc i) v))
      (λ j c. ap (record_bits d) (same.heights i j b c)) in
      rw (same.clocks i b, same.neighbors-same i b, same.forming-same i b, e)

  same-channel : (i j : ℕ) → i < n → j < n → channel_bits d r (suc i) (suc j) ≡ channel_bits d s (suc i) (suc j)
  same-channel i j b c = go (choice (eqb (suc i) (suc j)))
    where
      go : Choice (eqb (suc i) (suc j)) → channel_bits d r (suc i) (suc j) ≡ channel_bits d s (suc i) (suc j)
      go (yes! e) = channel-same d r (suc i) (suc j) e ∙ sym (channel-same d s (suc i) (suc j) e)
      go (no! e) =
          channel-other d r (suc i) (suc j) e
          ∙ ap (λ (ms : List (List ℕ)). bits 4 (length ms) ++ message_bits d ms) (same.channels i j b c (eqb-false (suc i) (suc j) e))
          ∙ sym (channel-other d s (suc i) (suc j) e)

  same-channels : (i : ℕ) → i < n → channels_bits d n r (suc i) ≡ channels_bits d n s (suc i)
  unfolding channels_bits
  same-channels i b = rows_same n (channel_bits d r (suc i)) (channel_bits d s (suc i)) (λ j c. same-channel i j b c)

  pub same-network : network_bits d n r ≡ network_bits d n s
  unfolding network_bits
  same-network =
      ap₂ (λ (x y : List ℕ). x ++ y)
      (rows_same n (node_bits d n r) (node_bits d n s) same-node) (rows_same n (channels_bits d n r) (channels_bits d n s) same-channels)

  -- THEOREM: the image tells no more than nodes 1 to n and their channels
  pub same-image : (version h : ℕ) → image_of version h d n r ≡ image_of version h d n s
  unfolding image_of
  same-image version h = ap (λ (x : List ℕ). bytes_of (header_bits version h n ++ x)) same-network
