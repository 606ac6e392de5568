-- Where each number of a saved network stands in its image, with document 01's sizes (document 02 [4]).
-- Assumes 1 to 16 nodes, and a network that breaks no rule and holds nothing beyond node n.
use Prim.Native.Nat.{ℕ, suc, ◌+◌, ◌-◌, ◌*◌, ◌<◌}
use native.Mathlib.Omega.{arith}
use mathlib.Core.Path.{◌≡◌, sym, ◌∙◌}
use mathlib.Core.List.{[], map}
use lib.ListN.{length, get_or, length-map}
use Rattle.bits.specs.Bits.{unpacked}
use Rattle.height.specs.Words.{height_size, height_words}
use Rattle.image.specs.Image.{image}
use Rattle.image.specs.Places.{field_in, node_place, channel_place}
use Rattle.image.specs.Widths.{field_place, header_length, depth_width, node_width}
use Rattle.image.proofs.FieldPlaces.{field_width, height-96, message-128}
use Rattle.image.proofs.NetworkFits.{network-fit}
use Rattle.image.proofs.PlacedFields.{word_of}
use Rattle.image.proofs.PlacedInImage.{height-there, message-there}
use Rattle.image.proofs.ReadBack.{Fit}
use Rattle.protocol.specs.Network.{Node, Two, Network}
use Rattle.protocol.proofs.SoundStep.{sound-fits}
use Rattle.tables.specs.Cell.{message_words}
use Rattle.tables.specs.Records.{records_of}
use Rattle.tables.specs.Tables.{message_size}
use Rattle.image_snapshot.proofs.SameImage.{Savable}

module _ (n : ℕ) (p : Network) (s : Savable n p) where
  fit : Fit 16 n (records_of n p)
  fit = network-fit n s.few p (sound-fits n p s.inside s.holds)

  -- THEOREM: number k of the height of v in u's record, which starts at 32 + (u − 1)(64 + 96 n); heights are 96 bits apart
  pub height-saved : (u v k : ℕ) → Node n u → Node n v → k < height_size
      → get_or (height_words (p.height u v)) k 0
      ≡ word_of 16 k (field_in (unpacked (image n p)) (32 + (u - 1) * (64 + 96 * n) + 64 + (v - 1) * 96 + field_place 16 k) (field_width 16 k))
  unfolding image records_of node_place node_width
  height-saved u v k a b c =
      let e : suc (u - 1) ≡ u = omega (arith, a.low) in
      let f : suc (v - 1) ≡ v = omega (arith, b.low) in
      rw (e, f, height-96) at
      (height-there 1 32 16 n (omega arith) (omega arith) (omega arith) (records_of n p) fit (u - 1) (v - 1) k
      (omega (arith, a.low, a.high)) (omega (arith, b.low, b.high)) c)

  -- THEOREM: number k of message m, counted from 0, on the channel from u to v; messages are 128 bits apart
  pub message-saved : (u v m k : ℕ) → Two n u v → m < length (p.channel u v) → k < message_size
      → get_or (get_or (map message_words (p.channel u v)) m []) k 0
      ≡ word_of 16 k
      (field_in (unpacked (image n p)) (channel_place header_length depth_width n (unpacked (image n p)) u v + 4 + m * 128 + field_place 16 k) (field_width 16 k))
  unfolding image records_of
  message-saved u v m k a l c =
      let e : u ≡ suc (u - 1) = omega (arith, a.one.low) in
      let f : v ≡ suc (v - 1) = omega (arith, a.other.low) in
      rw (← e, ← f, message-128) at
      (message-there 1 32 16 n (omega arith) (omega arith) (omega arith) (records_of n p) fit (u - 1) (v - 1) m k
      (omega (arith, a.one.low, a.one.high)) (omega (arith, a.other.low, a.other.high)) (λ s. a.differ (e ∙ s ∙ sym f))
      (rw (← e, ← f, length-map (p.channel u v) message_words) l) c)
