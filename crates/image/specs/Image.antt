-- The image of a network (document 01: plot image): header, nodes, channels, zero bits to the byte's end.
-- Over version, header length h and depth width d; document 01's is version 1.
use Rattle.std.specs.Prelude.{ℕ, ◌+◌, ◌-◌, ◌/◌, ◌%◌, cond, List, [], ◌∷◌, ◌++◌, eqb, length, replicate}
use Rattle.bits.specs.Bits.{bits, packed}
use Rattle.protocol.specs.Network.{Network}
use Rattle.tables.specs.Records.{Records, records_of}
use Rattle.tables.specs.Rows.{rows}
use Rattle.image.specs.Widths.{record_bits, header_length, depth_width}

-- version 4, header length 12, n 5, spare
unfoldable pub header_bits : ℕ → ℕ → ℕ → List ℕ
header_bits version h n = bits 4 version ++ (bits 12 h ++ (bits 5 n ++ bits (h - 21) 0))

-- node u: 32 bits of clock, 16 each of N and F; behind them its height for every node
unfoldable pub node_bits : ℕ → ℕ → Records → ℕ → List ℕ
node_bits d n r u =
    bits 32 (r.clock u)
    ++ (bits 16 (r.neighbors u) ++ (bits 16 (r.forming u) ++ rows n (λ v. record_bits d (r.height u v))))

-- messages, oldest first
unfoldable pub message_bits : ℕ → List (List ℕ) → List ℕ
message_bits d [] = []
message_bits d (m ∷ ms) = record_bits d m ++ message_bits d ms

-- channel u to v, v ≠ u: count 4, then its messages
unfoldable pub channel_bits : ℕ → Records → ℕ → ℕ → List ℕ
channel_bits d r u v = cond (eqb u v) [] (bits 4 (length (r.channel u v)) ++ message_bits d (r.channel u v))

-- the channels from u, v ascending
unfoldable pub channels_bits : ℕ → ℕ → Records → ℕ → List ℕ
channels_bits d n r u = rows n (channel_bits d r u)

unfoldable pub network_bits : ℕ → ℕ → Records → List ℕ
network_bits d n r = rows n (node_bits d n r) ++ rows n (channels_bits d n r)

-- zero bits to the byte's end
unfoldable pub padded : List ℕ → List ℕ
padded l = l ++ replicate ((8 - length l % 8) % 8) 0

unfoldable pub bytes_of : List ℕ → List ℕ
bytes_of l = packed ((length l + 7) / 8) (padded l)

unfoldable pub image_of : ℕ → ℕ → ℕ → ℕ → Records → List ℕ
image_of version h d n r = bytes_of (header_bits version h n ++ network_bits d n r)

-- document 01's
unfoldable pub image : ℕ → Network → List ℕ
image n p = image_of 1 header_length depth_width n (records_of n p)
