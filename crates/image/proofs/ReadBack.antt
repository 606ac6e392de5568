-- What is written is read: from the bits of a network's records, behind a header of h bits, the same records are read.
-- Assumes that the records of nodes 1 to n fit their fields (Fit), and a depth's width from 1 to 32.
use Prim.Native.Nat.{ℕ, suc, ◌+◌, ◌-◌, ◌*◌, ◌^◌, ◌≤◌, ◌<◌}
use native.Mathlib.Nat.{add_assoc, add-zero, mul_comm}
use native.Mathlib.Omega.{arith}
use mathlib.Core.Path.{◌≡◌, refl, sym, ap, ap₂, ◌∙◌}
use mathlib.Core.Bool.{false}
use mathlib.Core.List.{List, ◌++◌, append_assoc}
use borrow.Author.Tests.{ne_eqb}
use lib.Dec.{eqb}
use lib.ListN.{length, drop, length-append}
use Rattle.basics.proofs.AllOf.{AllOf}
use Rattle.basics.proofs.Tests.{Choice, yes!, no!, choice}
use Rattle.bits.specs.Bits.{bits}
use Rattle.bits.proofs.Numbers.{length-bits}
use Rattle.tables.specs.Records.{Records}
use Rattle.tables.specs.Rows.{rows}
use Rattle.tables.proofs.RecordsLaws.{Agree}
use Rattle.tables.proofs.RowsMore.{later, length-rows}
use Rattle.image.specs.Image.{node_bits, message_bits, channel_bits, channels_bits, network_bits}
use Rattle.image.specs.Places.{channels_place, channels_from_place, channel_place, records_in}
use Rattle.image.specs.inner.Parts.{image_end}
use Rattle.image.specs.Places.{field_in, node_place, height_from, messages_of, channel_from, walked, channel_next, channels_next}
use Rattle.image.specs.Widths.{record_bits, record_of, height_width, message_width, node_width}
use Rattle.image.proofs.ChannelLaws.{MessageFields, length-messages, messages-read, channel-same, channel-other, next-same, next-other}
use Rattle.image.proofs.FieldInLaws.{field-head, field-behind}
use Rattle.image.proofs.RecordLaws.{FitsFields, length-height, record-of-bits}
use Rattle.image.proofs.WalkLaws.{walk_at, walk_end, walk-length, walked-add}

-- the words of nodes 1 to n fit their fields
pub record Fit (d n : ℕ) (r : Records) : Type 0 where
  pub clocks : (i : ℕ) → i < n → r.clock (suc i) < 2 ^ 32
  pub neighbors-lt : (i : ℕ) → i < n → r.neighbors (suc i) < 2 ^ 16
  pub forming-lt : (i : ℕ) → i < n → r.forming (suc i) < 2 ^ 16
  pub heights : (i j : ℕ) → i < n → j < n → (length (r.height (suc i) (suc j)) ≡ 7) × FitsFields d (r.height (suc i) (suc j))
  pub counts : (i j : ℕ) → i < n → j < n → length (r.channel (suc i) (suc j)) < 16
  pub messages : (i j : ℕ) → i < n → j < n → AllOf (MessageFields d) (r.channel (suc i) (suc j))

module _ (d : ℕ) (one : 1 ≤ d) (wide : d ≤ 32) (n : ℕ) (r : Records) (fit : Fit d n r) where
  pub length-node : (i : ℕ) → i < n → length (node_bits d n r (suc i)) ≡ node_width d n
  unfolding node_bits node_width
  length-node i b =
      let f : ℕ → List ℕ = λ v. record_bits d (r.height (suc i) v) in
      let e : length (rows n f) ≡ n * height_width d =
      length-rows n (height_width d) f (λ j c. length-height d (r.height (suc i) (suc j)) (fit.heights i j b c).0) in
      simp (length-append, length-bits) (omega (arith, e, mul_comm n (height_width d)))

  -- ---- one node's bits at a place
  module _ (l t : List ℕ) (i q : ℕ) (b : i < n) (e : drop q l ≡ node_bits d n r (suc i) ++ t) where
    rest : List ℕ
    rest = rows n (λ v. record_bits d (r.height (suc i) v)) ++ t

    b₀ : drop q l ≡ bits 32 (r.clock (suc i)) ++ (bits 16 (r.neighbors (suc i)) ++ (bits 16 (r.forming (suc i)) ++ rest))
    unfolding node_bits rest
    b₀ = e ∙ simp append_assoc

    b₁ : drop (q + 32) l ≡ bits 16 (r.neighbors (suc i)) ++ (bits 16 (r.forming (suc i)) ++ rest)
    b₁ = field-behind l _ q 32 (r.clock (suc i)) b₀

    b₂ : drop (q + 48) l ≡ bits 16 (r.forming (suc i)) ++ rest
    b₂ = sym (ap (λ (x : ℕ). drop x l) (add_assoc q 32 16)) ∙ field-behind l _ (q + 32) 16 (r.neighbors (suc i)) b₁

    b₃ : drop (q + 64) l ≡ rows n (λ v. record_bits d (r.height (suc i) v)) ++ t
    unfolding rest
    b₃ = sym (ap (λ (x : ℕ). drop x l) (add_assoc q 48 16)) ∙ field-behind l _ (q + 48) 16 (r.forming (suc i)) b₂

    pub clock-read : field_in l q 32 ≡ r.clock (suc i)
    clock-read = field-head l _ q 32 (r.clock (suc i)) (fit.clocks i b) b₀

    pub neighbors-read : field_in l (q + 32) 16 ≡ r.neighbors (suc i)
    neighbors-read = field-head l _ (q + 32) 16 (r.neighbors (suc i)) (fit.neighbors-lt i b) b₁

    pub forming-read : field_in l (q + 48) 16 ≡ r.forming (suc i)
    forming-read = field-head l _ (q + 48) 16 (r.forming (suc i)) (fit.forming-lt i b) b₂

    pub height-read : (j : ℕ) → j < n → height_from d l q (suc j) ≡ r.height (suc i) (suc j)
    unfolding height_from
    height-read j c =
        let w : ℕ = height_width d in
        let f : ℕ → List ℕ = λ v. record_bits d (r.height (suc i) v) in
        let next : ℕ → ℕ → ℕ = λ _ p. p + w in
        let y : suc j - 1 ≡ j = omega arith in
        let a : drop (walked next j (q + 64)) l ≡ f (suc j) ++ (later (n - suc j) (suc j) f ++ t) =
        walk_at l f next n (q + 64) t b₃
        (λ k p s m _. ap (λ (x : ℕ). p + x) (sym (length-height d (r.height (suc i) (suc k)) (fit.heights i k b m).0))) j c in
        ap (λ (x : ℕ). record_of d 7 (drop (q + 64 + x * w) l)) y
        ∙ ap (λ (x : ℕ). record_of d 7 (drop x l)) (sym (walked-add next w (λ _ _. refl) j (q + 64)))
        ∙ ap (record_of d 7) a
        ∙ record-of-bits d 7 one wide (omega arith) (omega arith) (r.height (suc i) (suc j)) (later (n - suc j) (suc j) f ++ t)
        (fit.heights i j b c).0 (fit.heights i j b c).1

  module _ (l : List ℕ) where
    -- ---- one channel's bits at a place

    -- a channel's count and then its messages
    counted : (i j q : ℕ) (s : List ℕ) → eqb (suc i) (suc j) ≡ false → drop q l ≡ channel_bits d r (suc i) (suc j) ++ s
        → drop q l ≡ bits 4 (length (r.channel (suc i) (suc j))) ++ (message_bits d (r.channel (suc i) (suc j)) ++ s)
    counted i j q s w e =
        let ms : List (List ℕ) = r.channel (suc i) (suc j) in
        e ∙ ap (λ (x : List ℕ). x ++ s) (channel-other d r (suc i) (suc j) w) ∙ append_assoc (bits 4 (length ms)) (message_bits d ms) s

    pub channel-passed : (i j q : ℕ) (s : List ℕ) → i < n → j < n → drop q l ≡ channel_bits d r (suc i) (suc j) ++ s
        → channel_next d l (suc i) (suc j) q ≡ q + length (channel_bits d r (suc i) (suc j))
    channel-passed i j q s b c e = go (choice (eqb (suc i) (suc j)))
      where
        ms : List (List ℕ)
        ms = r.channel (suc i) (suc j)

        go : Choice (eqb (suc i) (suc j)) → channel_next d l (suc i) (suc j) q ≡ q + length (channel_bits d r (suc i) (suc j))
        go (yes! w) =
            next-same d l (suc i) (suc j) q w ∙ sym (add-zero q)
            ∙ ap (λ (x : List ℕ). q + length x) (sym (channel-same d r (suc i) (suc j) w))
        go (no! w) =
            let g : field_in l q 4 ≡ length ms = field-head l (message_bits d ms ++ s) q 4 (length ms) (fit.counts i j b c) (counted i j q s w e) in
            let z : length (channel_bits d r (suc i) (suc j)) ≡ 4 + length ms * message_width d =
            ap length (channel-other d r (suc i) (suc j) w)
            ∙ length-append (bits 4 (length ms)) (message_bits d ms)
            ∙ ap₂ (λ (x y : ℕ). x + y) (length-bits 4 (length ms)) (length-messages d ms (fit.messages i j b c)) in
            next-other d l (suc i) (suc j) q w
            ∙ ap (λ (x : ℕ). q + 4 + x * message_width d) g
            ∙ add_assoc q 4 (length ms * message_width d)
            ∙ ap (λ (x : ℕ). q + x) (sym z)

    pub channels-passed : (i q : ℕ) (s : List ℕ) → i < n → drop q l ≡ channels_bits d n r (suc i) ++ s
        → channels_next d n l (suc i) q ≡ q + length (channels_bits d n r (suc i))
    unfolding channels_next channels_bits
    channels-passed i q s b e =
        walk-length l (channel_bits d r (suc i)) (channel_next d l (suc i)) n q s e (λ j p t c g. channel-passed i j p t b c g) n (omega arith)

    pub channel-read : (i j q : ℕ) (s : List ℕ) → i < n → j < n → (suc i ≡ suc j → ⊥) → drop q l ≡ channel_bits d r (suc i) (suc j) ++ s
        → channel_from d l q ≡ r.channel (suc i) (suc j)
    unfolding channel_from
    channel-read i j q s b c ne e =
        let ms : List (List ℕ) = r.channel (suc i) (suc j) in
        let a : drop q l ≡ bits 4 (length ms) ++ (message_bits d ms ++ s) = counted i j q s (ne_eqb (suc i) (suc j) ne) e in
        ap₂ (messages_of d) (field-head l _ q 4 (length ms) (fit.counts i j b c) a) (field-behind l _ q 4 (length ms) a)
        ∙ messages-read d one wide ms s (fit.messages i j b c)

    -- ---- the whole network behind a header of h bits
    module _ (h : ℕ) (t : List ℕ) (e : drop h l ≡ network_bits d n r ++ t) where
      steps : ℕ → ℕ → ℕ
      steps i q = q + node_width d n

      e₀ : drop h l ≡ rows n (node_bits d n r) ++ (rows n (channels_bits d n r) ++ t)
      unfolding network_bits
      e₀ = e ∙ append_assoc (rows n (node_bits d n r)) (rows n (channels_bits d n r)) t

      passed : (i q : ℕ) (s : List ℕ) → i < n → drop q l ≡ node_bits d n r (suc i) ++ s → steps (suc i) q ≡ q + length (node_bits d n r (suc i))
      unfolding steps
      passed i q s b _ = ap (λ (x : ℕ). q + x) (sym (length-node i b))

      -- the bits at node i + 1's place
      pub node_at : (i : ℕ) → i < n → drop (node_place h d n (suc i)) l
          ≡ node_bits d n r (suc i) ++ (later (n - suc i) (suc i) (node_bits d n r) ++ (rows n (channels_bits d n r) ++ t))
      unfolding steps node_place
      node_at i b =
          let z : suc i - 1 ≡ i = omega arith in
          ap (λ (x : ℕ). drop (h + x * node_width d n) l) z
          ∙ ap (λ (x : ℕ). drop x l) (sym (walked-add steps (node_width d n) (λ _ _. refl) i h))
          ∙ walk_at l (node_bits d n r) steps n h (rows n (channels_bits d n r) ++ t) e₀ passed i b

      pub channels-start : drop (channels_place h d n) l ≡ rows n (channels_bits d n r) ++ t
      unfolding steps channels_place
      channels-start =
          ap (λ (x : ℕ). drop x l) (sym (walked-add steps (node_width d n) (λ _ _. refl) n h))
          ∙ walk_end l (node_bits d n r) steps n h (rows n (channels_bits d n r) ++ t) e₀ passed

      -- the bits where the channels from i + 1 start, and at one channel's place
      pub channels-at : (i : ℕ) → i < n
          → drop (channels_from_place h d n l (suc i)) l ≡ channels_bits d n r (suc i) ++ (later (n - suc i) (suc i) (channels_bits d n r) ++ t)
      unfolding channels_from_place
      channels-at i b =
          let z : suc i - 1 ≡ i = omega arith in
          ap (λ (x : ℕ). drop (walked (channels_next d n l) x (channels_place h d n)) l) z
          ∙ walk_at l (channels_bits d n r) (channels_next d n l) n (channels_place h d n) t channels-start (λ j q s c g. channels-passed j q s c g) i b

      pub channel-at : (i j : ℕ) → i < n → j < n → drop (channel_place h d n l (suc i) (suc j)) l
          ≡ channel_bits d r (suc i) (suc j)
          ++ (later (n - suc j) (suc j) (channel_bits d r (suc i)) ++ (later (n - suc i) (suc i) (channels_bits d n r) ++ t))
      unfolding channel_place channels_bits
      channel-at i j b c =
          let y : suc j - 1 ≡ j = omega arith in
          ap (λ (x : ℕ). drop (walked (channel_next d l (suc i)) x (channels_from_place h d n l (suc i))) l) y
          ∙ walk_at l (channel_bits d r (suc i)) (channel_next d l (suc i)) n (channels_from_place h d n l (suc i))
          (later (n - suc i) (suc i) (channels_bits d n r) ++ t) (channels-at i b) (λ k q s m g. channel-passed i k q s b m g) j c

      -- THEOREM: a network that was written is read
      pub network-read : Agree n (records_in h d n l) r
      unfolding records_in
      network-read = record {
        clocks = λ i b. clock-read l _ i (node_place h d n (suc i)) b (node_at i b);
        neighbors-same = λ i b. neighbors-read l _ i (node_place h d n (suc i)) b (node_at i b);
        forming-same = λ i b. forming-read l _ i (node_place h d n (suc i)) b (node_at i b);
        heights = λ i j b c. height-read l _ i (node_place h d n (suc i)) b (node_at i b) j c;
        channels = λ i j b c ne. rw (ne_eqb (suc i) (suc j) ne) (channel-read i j (channel_place h d n l (suc i) (suc j)) _ b c ne (channel-at i j b c));
      }

      -- and what stands behind it is left
      pub end_read : drop (image_end h d n l) l ≡ t
      unfolding image_end
      end_read =
          walk_end l (channels_bits d n r) (channels_next d n l) n (channels_place h d n) t channels-start (λ j q s c g. channels-passed j q s c g)

      pub place_read : image_end h d n l ≡ h + length (network_bits d n r)
      unfolding image_end channels_place network_bits
      place_read =
          let cs : ℕ = length (rows n (channels_bits d n r)) in
          let w : length (rows n (node_bits d n r)) ≡ n * node_width d n = length-rows n (node_width d n) (node_bits d n r) length-node in
          walk-length l (channels_bits d n r) (channels_next d n l) n (h + n * node_width d n) t channels-start
          (λ j q s c g. channels-passed j q s c g) n (omega arith)
          ∙ omega (arith, length-append (rows n (node_bits d n r)) (rows n (channels_bits d n r)))
