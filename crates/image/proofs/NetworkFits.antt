-- The records of a network within the ranges of document 01 fit their fields, with depths of 16 bits.
-- Assumes at most 16 nodes.
use Prim.Native.Nat.{ℕ, suc, ◌%◌, ◌^◌, ◌≤◌, ◌<◌}
use native.Mathlib.Nat.{mod-lt, lt_of_lt_of_le}
use native.Mathlib.Omega.{arith}
use mathlib.Core.Bool.{Bool}
use mathlib.Core.List.{List, [], ◌∷◌, map}
use mathlib.Core.Logic.{inl, inr}
use mathlib.Core.Path.{refl}
use borrow.Author.Tests.{ltb-false}
use lib.ListN.{take, get_or, set, length-map}
use lib.IntN.{ℤ, pos, negsuc, nat_abs}
use lib.Pow.{pow_mono}
use Rattle.basics.proofs.AllOf.{AllOf, none, more}
use Rattle.basics.proofs.Tests.{Choice, yes!, no!, choice, SameOrNot, equal?}
use Rattle.bits.proofs.Fields.{Fitting, fitting-append}
use Rattle.height.specs.Height.{zero_height}
use Rattle.height.specs.Words.{delta_word, height_words}
use Rattle.height.specs.declared.Height.{Height}
use Rattle.height.proofs.WordsLaws.{nat_abs-neg}
use Rattle.nodeset.specs.NodeSet.{set_of}
use Rattle.nodeset.proofs.Members.{set_of-lt}
use Rattle.protocol.specs.Network.{Node, Message, Network}
use Rattle.protocol.proofs.Ranges.{DeltaFits, HeightFits}
use Rattle.protocol.proofs.Soundness.{Fits, MessageFits}
use Rattle.tables.specs.Cell.{message_words}
use Rattle.tables.specs.Records.{records_of}
use Rattle.tables.proofs.RecordsLaws.{message-length}
use Rattle.image.specs.Widths.{widths_of}
use Rattle.image.proofs.ChannelLaws.{MessageFields}
use Rattle.image.proofs.ReadBack.{Fit}
use Rattle.image.proofs.RecordLaws.{Holds, FitsFields}

-- ---- heights and messages

delta-holds : (z : ℤ) → DeltaFits z → Holds 16 (delta_word z)
unfolding delta_word
delta-holds (pos a) f = inl (omega (arith, ltb-false 32767 a f.high))
delta-holds (negsuc a) f = let h : a ≤ 32767 = ltb-false 32767 a f.low in inr (omega arith, omega arith)

module _ (n : ℕ) (few : n ≤ 16) (k : ℕ) (node : k ≤ n) (h : Height) (f : HeightFits n k h) where
  size : nat_abs h.pair.nlts.0 < 4294967296
  size = rw (f.pair.nlts-is, nat_abs-neg f.pair.election) (omega (arith, f.pair.election-le))

  pub height-fields : FitsFields 16 (height_words h)
  unfolding height_words Fitting
  height-fields = record {
    count = omega arith;
    has = omega arith;
    others = (
      omega (arith, f.level.tau-le),
      (
        omega (arith, f.level.oid-le),
        (
          omega (arith, f.level.r-le),
          (mod-lt (delta_word h.delta) (omega arith), (size, (omega (arith, f.pair.lid-high), (omega (arith, f.id), tt)))),
        ),
      ),
    );
    depth = delta-holds h.delta f.delta;
  }

zero-fields : FitsFields 16 (height_words zero_height)
unfolding height_words Fitting delta_word
zero-fields = record {
  count = omega arith;
  has = omega arith;
  others = (omega arith, (omega arith, (omega arith, (omega arith, (omega arith, (omega arith, (omega arith, tt)))))));
  depth = inl (omega arith);
}

module _ (n : ℕ) (few : n ≤ 16) (u : ℕ) (node : u ≤ n) where
  pub message-fields : (m : Message) → MessageFits n u m → MessageFields 16 (message_words m)
  unfolding message_words height_words Fitting
  message-fields m f =
      let s = height-fields n few u node m.height f.height in
      let ws : List ℕ = height_words m.height in
      let stamp : Fitting (32 ∷ []) (m.timestamp ∷ []) = (omega (arith, f.timestamp-le), tt) in (
        message-length m,
        record {
          count = omega arith;
          has = omega arith;
          others = fitting-append (take 7 (widths_of 16)) (32 ∷ []) (set ws 3 (get_or ws 3 0 % 2 ^ 16)) (m.timestamp ∷ []) refl s.others stamp;
          depth = s.depth;
        },
      )

  pub messages-fields : (ms : List Message) → AllOf (MessageFits n u) ms → AllOf (MessageFields 16) (map message_words ms)
  messages-fields [] f = none
  messages-fields (m ∷ ms) (more f fs) = more (message-fields m f) (messages-fields ms fs)

-- ---- the records of a network

pub network-fit : (n : ℕ) → n ≤ 16 → (p : Network) → Fits n p → Fit 16 n (records_of n p)
unfolding records_of height_words
network-fit n few p fits = record {
  clocks = λ i l. omega (arith, (fits.nodes (suc i)).clock-le);
  neighbors-lt = λ i l. set-lt (p.neighbors (suc i));
  forming-lt = λ i l. set-lt (p.forming (suc i));
  heights = λ i j l m. (refl, view (suc i) (suc j) (record { low = omega arith; high = l }) m (equal? (suc j) (suc i)) (choice (p.neighbors (suc i) (suc j))));
  counts = λ i j l m. rw (length-map (p.channel (suc i) (suc j)) message_words) (omega (arith, fits.lengths (suc i) (suc j)));
  messages = λ i j l m. messages-fields n few (suc i) l (p.channel (suc i) (suc j)) (fits.messages (suc i) (suc j));
}
  where
    set-lt : (f : ℕ → Bool) → set_of n f < 2 ^ 16
    set-lt f = lt_of_lt_of_le (set_of-lt n f) (pow_mono few)

    view : (u v : ℕ) → Node n u → v ≤ n → SameOrNot v u → Choice (p.neighbors u v) → FitsFields 16 (height_words (p.height u v))
    view u v a b (inl e) c = rw e (height-fields n few u a.high (p.height u u) ((fits.nodes u).own a))
    view u v a b (inr d) (yes! e) = height-fields n few v b (p.height u v) ((fits.nodes u).views v e)
    view u v a b (inr d) (no! e) = rw ((fits.nodes u).blank v d e) zero-fields
