-- What is read is written: bits behind a header of h bits are those of the records that are read from them, and then what is left.
-- Assumes that l holds bits and is as long as its own counts say, and a depth's width from 1 to 32.
use Prim.Native.Nat.{ℕ, zero, suc, ◌+◌, ◌-◌, ◌*◌, ◌≤◌, ◌<◌}
use native.Mathlib.Nat.{add_assoc, suc-mul, zero-mul, mul_comm, mul-le-mul_right, le_trans}
use native.Mathlib.Omega.{arith}
use mathlib.Core.Path.{◌≡◌, refl, sym, ap, ap₂, ◌∙◌}
use mathlib.Core.Bool.{false}
use mathlib.Core.List.{List, ◌++◌, append_assoc}
use lib.Dec.{eqb}
use lib.ListN.{length, take, drop, length-drop, take-append-drop}
use lib.Seq.{drop-drop}
use Rattle.basics.proofs.Tests.{Choice, yes!, no!, choice}
use Rattle.bits.specs.Bits.{bits}
use Rattle.bits.proofs.Numbers.{Below, below-drop}
use Rattle.tables.specs.Records.{Records}
use Rattle.tables.specs.Rows.{rows}
use Rattle.image.specs.Image.{node_bits, message_bits, channel_bits, channels_bits, network_bits}
use Rattle.image.specs.Places.{channels_place, channels_from_place, channel_place, records_in}
use Rattle.image.specs.inner.Parts.{image_end}
use Rattle.image.specs.Places.{field_in, node_place, height_from, messages_of, channel_from, walked, channel_next, channels_next}
use Rattle.image.specs.Widths.{field_place, record_bits, record_of, height_width, message_width, node_width}
use Rattle.image.proofs.ChannelLaws.{length-messages-of, channel-same, channel-other, next-same, next-other}
use Rattle.image.proofs.FieldInLaws.{field-tail}
use Rattle.image.proofs.FieldPlaces.{height-place, message-place}
use Rattle.image.proofs.PlaceLaws.{node_in, start-in, channel-passed-in}
use Rattle.image.proofs.RecordLaws.{bits-of-record}
use Rattle.image.proofs.WalkLaws.{walk-write, walked-add}

module _ (d : ℕ) (one : 1 ≤ d) (wide : d ≤ 32) (l : List ℕ) (bl : Below 2 l) where
  -- ---- one record, and messages

  pub record-tail : (m w : ℕ) → 4 ≤ m → m ≤ 8 → field_place d m ≡ w → (q : ℕ) → q + w ≤ length l
      → drop q l ≡ record_bits d (record_of d m (drop q l)) ++ drop (q + w) l
  record-tail m w a b e q h =
      let room : field_place d m ≤ length (drop q l) = simp length-drop (omega arith) in
      let back : record_bits d (record_of d m (drop q l)) ≡ take w (drop q l) =
      bits-of-record d m one wide a b (drop q l) (below-drop 2 q l bl) room ∙ ap (λ (x : ℕ). take x (drop q l)) e in
      sym (take-append-drop w (drop q l)) ∙ sym (ap₂ (λ (x y : List ℕ). x ++ y) back (sym (drop-drop w q l)))

  pub messages-tail : (c q : ℕ) → q + c * message_width d ≤ length l
      → drop q l ≡ message_bits d (messages_of d c (drop q l)) ++ drop (q + c * message_width d) l
  unfolding message_bits messages_of
  messages-tail zero q h =
      let e : q ≡ q + 0 * message_width d = omega (arith, zero-mul (message_width d)) in
      ap (λ (x : ℕ). drop x l) e
  messages-tail (suc c) q h =
      let w : ℕ = message_width d in
      let m : List ℕ = record_bits d (record_of d 8 (drop q l)) in
      let z : suc c * w ≡ c * w + w = suc-mul c w in
      let e : q + w + c * w ≡ q + suc c * w = omega arith in
      record-tail 8 w (omega arith) (omega arith) (message-place d) q (omega arith)
      ∙ ap (λ (x : List ℕ). m ++ x) (messages-tail c (q + w) (omega arith))
      ∙ sym (append_assoc m (message_bits d (messages_of d c (drop (q + w) l))) (drop (q + w + c * w) l))
      ∙ ap₂ (λ (x : List ℕ) (y : ℕ). (m ++ message_bits d (messages_of d c x)) ++ drop y l) (sym (drop-drop w q l)) e

  -- ---- one channel, at its place q
  pub channel-tail : (r : Records) (u v q : ℕ) → (eqb u v ≡ false → r.channel u v ≡ channel_from d l q) → channel_next d l u v q ≤ length l
      → drop q l ≡ channel_bits d r u v ++ drop (channel_next d l u v q) l
  unfolding channel_from
  channel-tail r u v q e b = go (choice (eqb u v))
    where
      c : ℕ
      c = field_in l q 4

      ms : List (List ℕ)
      ms = messages_of d c (drop (q + 4) l)

      go : Choice (eqb u v) → drop q l ≡ channel_bits d r u v ++ drop (channel_next d l u v q) l
      go (yes! w) = sym (ap₂ (λ (x : List ℕ) (y : ℕ). x ++ drop y l) (channel-same d r u v w) (next-same d l u v q w))
      go (no! w) =
          let x : channel_next d l u v q ≡ q + 4 + c * message_width d = next-other d l u v q w in
          let y : channel_bits d r u v ≡ bits 4 c ++ message_bits d ms =
          channel-other d r u v w
          ∙ ap (λ (t : List (List ℕ)). bits 4 (length t) ++ message_bits d t) (e w)
          ∙ ap (λ (k : ℕ). bits 4 k ++ message_bits d ms) (length-messages-of d c (drop (q + 4) l)) in
          field-tail l q 4 bl (omega arith)
          ∙ ap (λ (t : List ℕ). bits 4 c ++ t) (messages-tail c (q + 4) (omega arith))
          ∙ sym (append_assoc (bits 4 c) (message_bits d ms) (drop (q + 4 + c * message_width d) l))
          ∙ sym (ap₂ (λ (t : List ℕ) (k : ℕ). t ++ drop k l) y x)

  -- ---- one node, at its place q
  module _ (n : ℕ) (r : Records) (u q : ℕ) (inside : q + node_width d n ≤ length l)
      (ec : r.clock u ≡ field_in l q 32) (en : r.neighbors u ≡ field_in l (q + 32) 16) (ef : r.forming u ≡ field_in l (q + 48) 16)
      (eh : (j : ℕ) → j < n → r.height u (suc j) ≡ height_from d l q (suc j)) where
    w : ℕ
    w = height_width d

    hs : List ℕ
    hs = rows n (λ v. record_bits d (r.height u v))

    heights-tail : drop (q + 64) l ≡ hs ++ drop (q + node_width d n) l
    unfolding w hs node_width height_from
    heights-tail =
        let next : ℕ → ℕ → ℕ = λ _ p. p + w in
        let a : (k : ℕ) → walked next k (q + 64) ≡ q + 64 + k * w = λ k. walked-add next w (λ _ _. refl) k (q + 64) in
        let m : n * w ≡ w * n = mul_comm n w in
        let f : walked next n (q + 64) ≡ q + (64 + w * n) = omega (arith, a n) in
        walk-write l (λ v. record_bits d (r.height u v)) next n (q + 64) (λ j c.
        let p : ℕ = walked next j (q + 64) in
        let y : suc j - 1 ≡ j = omega arith in
        let s : suc j * w ≤ n * w = mul-le-mul_right w c in
        let e : r.height u (suc j) ≡ record_of d 7 (drop p l) =
        eh j c ∙ ap (λ (x : ℕ). record_of d 7 (drop (q + 64 + x * w) l)) y ∙ ap (λ (x : ℕ). record_of d 7 (drop x l)) (sym (a j)) in
        record-tail 7 w (omega arith) (omega arith) (height-place d) p (omega (arith, a j, suc-mul j w))
        ∙ ap (λ (x : List ℕ). record_bits d x ++ drop (p + w) l) (sym e))
        ∙ ap (λ (x : ℕ). hs ++ drop x l) f

    pub node-tail : drop q l ≡ node_bits d n r u ++ drop (q + node_width d n) l
    unfolding node_bits hs
    node-tail =
        let b : 64 ≤ node_width d n = unfold node_width in omega arith in
        let t : List ℕ = drop (q + node_width d n) l in
        let g₁ : drop (q + 32 + 16) l ≡ drop (q + 48) l = ap (λ (x : ℕ). drop x l) (add_assoc q 32 16) in
        let g₂ : drop (q + 48 + 16) l ≡ drop (q + 64) l = ap (λ (x : ℕ). drop x l) (add_assoc q 48 16) in
        let c₁ : drop q l ≡ bits 32 (r.clock u) ++ drop (q + 32) l =
        field-tail l q 32 bl (omega arith) ∙ ap (λ (x : ℕ). bits 32 x ++ drop (q + 32) l) (sym ec) in
        let c₂ : drop (q + 32) l ≡ bits 16 (r.neighbors u) ++ drop (q + 48) l =
        field-tail l (q + 32) 16 bl (omega arith) ∙ ap₂ (λ (x : ℕ) (y : List ℕ). bits 16 x ++ y) (sym en) g₁ in
        let c₃ : drop (q + 48) l ≡ bits 16 (r.forming u) ++ drop (q + 64) l =
        field-tail l (q + 48) 16 bl (omega arith) ∙ ap₂ (λ (x : ℕ) (y : List ℕ). bits 16 x ++ y) (sym ef) g₂ in
        let whole : drop q l ≡ bits 32 (r.clock u) ++ (bits 16 (r.neighbors u) ++ (bits 16 (r.forming u) ++ (hs ++ t))) =
        c₁ ∙ ap (λ (x : List ℕ). bits 32 (r.clock u) ++ x)
        (c₂ ∙ ap (λ (x : List ℕ). bits 16 (r.neighbors u) ++ x) (c₃ ∙ ap (λ (x : List ℕ). bits 16 (r.forming u) ++ x) heights-tail)) in
        let assoc : (bits 32 (r.clock u) ++ (bits 16 (r.neighbors u) ++ (bits 16 (r.forming u) ++ hs))) ++ t
        ≡ bits 32 (r.clock u) ++ (bits 16 (r.neighbors u) ++ (bits 16 (r.forming u) ++ (hs ++ t))) = simp append_assoc in
        whole ∙ sym assoc

  -- ---- the whole network behind a header of h bits
  module _ (h n : ℕ) (inside : image_end h d n l ≤ length l) where
    found : Records
    found = records_in h d n l

    -- the channels from i + 1
    channels-tail : (i : ℕ) → i < n → drop (walked (channels_next d n l) i (channels_place h d n)) l
        ≡ channels_bits d n found (suc i) ++ drop (channels_next d n l (suc i) (walked (channels_next d n l) i (channels_place h d n))) l
    unfolding channels_bits channels_next found records_in channel_place channels_from_place
    channels-tail i b =
        let q : ℕ = walked (channels_next d n l) i (channels_place h d n) in
        let next : ℕ → ℕ → ℕ = channel_next d l (suc i) in
        let z : suc i - 1 ≡ i = omega arith in
        walk-write l (channel_bits d found (suc i)) next n q (λ j c.
        let y : suc j - 1 ≡ j = omega arith in
        let here : channel_place h d n l (suc i) (suc j) ≡ walked next j q =
        ap₂ (λ (a k : ℕ). walked next k (walked (channels_next d n l) a (channels_place h d n))) z y in
        channel-tail found (suc i) (suc j) (walked next j q) (λ w. rw w (ap (channel_from d l) here))
        (le_trans (rw here at (channel-passed-in h d n l i j b c)) inside))

    -- THEOREM: what was read is written
    pub network-written : drop h l ≡ network_bits d n (records_in h d n l) ++ drop (image_end h d n l) l
    unfolding network_bits image_end found records_in node_place channels_place
    network-written =
        let w : ℕ = node_width d n in
        let next : ℕ → ℕ → ℕ = λ _ p. p + w in
        let a : (k : ℕ) → walked next k h ≡ h + k * w = λ k. walked-add next w (λ _ _. refl) k h in
        let ns : List ℕ = rows n (node_bits d n found) in
        let cs : List ℕ = rows n (channels_bits d n found) in
        let end : List ℕ = drop (walked (channels_next d n l) n (h + n * w)) l in
        let ss : drop h l ≡ ns ++ drop (walked next n h) l =
        walk-write l (node_bits d n found) next n h (λ i b.
        let z : suc i - 1 ≡ i = omega arith in
        let q : ℕ = walked next i h in
        let e : node_place h d n (suc i) ≡ q = ap (λ (x : ℕ). h + x * w) z ∙ sym (a i) in
        node-tail n found (suc i) q (le_trans (rw e at (node_in h d n i b)) (le_trans (start-in h d n l) inside))
        (ap (λ (x : ℕ). field_in l x 32) e) (ap (λ (x : ℕ). field_in l (x + 32) 16) e) (ap (λ (x : ℕ). field_in l (x + 48) 16) e)
        (λ j c. ap (λ (x : ℕ). height_from d l x (suc j)) e)) in
        let rs : drop (h + n * w) l ≡ cs ++ end =
        walk-write l (channels_bits d n found) (channels_next d n l) n (h + n * w) (λ i b. channels-tail i b) in
        ss
        ∙ ap (λ (x : ℕ). ns ++ drop x l) (a n)
        ∙ ap (λ (x : List ℕ). ns ++ x) rs
        ∙ sym (append_assoc ns cs end)
