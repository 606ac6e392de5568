-- Where each number of a height and of a message stands in an image (document 02 [4]): in any bits that are read, and in an image that was written.
-- Over version, header length h and depth width d. Nodes are i + 1 and j + 1; messages m and fields k are counted from 0.
use Prim.Native.Nat.{ℕ, zero, suc, ◌+◌, ◌-◌, ◌*◌, ◌≤◌, ◌<◌}
use native.Mathlib.Nat.{suc-mul, zero-mul}
use native.Mathlib.Omega.{arith}
use mathlib.Core.Path.{◌≡◌, sym, ap, ◌∙◌}
use mathlib.Core.List.{List, []}
use borrow.Author.Tests.{ne_eqb}
use lib.ListN.{length, drop, get_or}
use lib.Seq.{drop-drop}
use Rattle.bits.specs.Bits.{unpacked}
use Rattle.height.specs.Words.{height_size}
use Rattle.tables.specs.Records.{Records}
use Rattle.tables.specs.Tables.{message_size}
use Rattle.image.specs.Image.{image_of}
use Rattle.image.specs.Places.{field_in, node_place, height_from, messages_of, channel_from, channel_place, records_in}
use Rattle.image.specs.Widths.{field_place, record_of, node_head, height_width, message_width}
use Rattle.image.proofs.ChannelLaws.{length-messages-of}
use Rattle.image.proofs.FieldPlaces.{field_width}
use Rattle.image.proofs.PlacedFields.{word_of, got-behind}
use Rattle.image.proofs.ReadBack.{Fit}
use Rattle.image.proofs.Whole.{image-read}

-- message m of those that bits begin with
message-of : (d c m : ℕ) (l : List ℕ) → m < c → get_or (messages_of d c l) m [] ≡ record_of d message_size (drop (m * message_width d) l)
unfolding messages_of
message-of d zero m l h = absurd (omega arith)
message-of d (suc c) zero l h = ap (λ (p : ℕ). record_of d message_size (drop p l)) (sym (zero-mul (message_width d)))
message-of d (suc c) (suc m) l h =
    let e : message_width d + m * message_width d ≡ suc m * message_width d = omega (arith, suc-mul m (message_width d)) in
    message-of d c m (drop (message_width d) l) (omega arith)
    ∙ ap (record_of d message_size) (drop-drop (m * message_width d) (message_width d) l ∙ ap (λ (p : ℕ). drop p l) e)

-- ---- any bits that are read

module _ (h d n : ℕ) (l : List ℕ) where
  pub height-found : (i j k : ℕ) → k < height_size
      → get_or ((records_in h d n l).height (suc i) (suc j)) k 0
      ≡ word_of d k (field_in l (node_place h d n (suc i) + node_head + j * height_width d + field_place d k) (field_width d k))
  unfolding records_in height_from
  height-found i j k c =
      let p : ℕ = node_place h d n (suc i) + node_head in
      let z : suc j - 1 ≡ j = omega arith in
      ap (λ (x : ℕ). get_or (record_of d height_size (drop (p + x * height_width d) l)) k 0) z
      ∙ got-behind d height_size k l (p + j * height_width d) (omega arith) c

  pub message-found : (i j m k : ℕ) → (suc i ≡ suc j → ⊥) → m < field_in l (channel_place h d n l (suc i) (suc j)) 4 → k < message_size
      → get_or (get_or ((records_in h d n l).channel (suc i) (suc j)) m []) k 0
      ≡ word_of d k (field_in l (channel_place h d n l (suc i) (suc j) + 4 + m * message_width d + field_place d k) (field_width d k))
  unfolding records_in channel_from
  message-found i j m k ne few c =
      let q : ℕ = channel_place h d n l (suc i) (suc j) in
      rw (ne_eqb (suc i) (suc j) ne)
      (ap (λ (ws : List ℕ). get_or ws k 0)
      (message-of d (field_in l q 4) m (drop (q + 4) l) few ∙ ap (record_of d message_size) (drop-drop (m * message_width d) (q + 4) l))
      ∙ got-behind d message_size k l (q + 4 + m * message_width d) (omega arith) c)

-- ---- an image that was written, of records that fit

module _ (version h d n : ℕ) (one : 1 ≤ d) (wide : d ≤ 32) (head : 21 ≤ h) (r : Records) (fit : Fit d n r) where
  abbrev made : List ℕ
  made = unpacked (image_of version h d n r)

  pub height-there : (i j k : ℕ) → i < n → j < n → k < height_size
      → get_or (r.height (suc i) (suc j)) k 0
      ≡ word_of d k (field_in made (node_place h d n (suc i) + node_head + j * height_width d + field_place d k) (field_width d k))
  height-there i j k a b c =
      sym (ap (λ (ws : List ℕ). get_or ws k 0) ((image-read version h d n one wide head r fit).heights i j a b)) ∙ height-found h d n made i j k c

  -- its count says how many messages a channel has
  counted : (i j : ℕ) → i < n → j < n → (suc i ≡ suc j → ⊥) → field_in made (channel_place h d n made (suc i) (suc j)) 4 ≡ length (r.channel (suc i) (suc j))
  unfolding records_in channel_from
  counted i j a b ne =
      let q : ℕ = channel_place h d n made (suc i) (suc j) in
      let same : channel_from d made q ≡ r.channel (suc i) (suc j) =
      rw (ne_eqb (suc i) (suc j) ne) at ((image-read version h d n one wide head r fit).channels i j a b ne) in
      sym (length-messages-of d (field_in made q 4) (drop (q + 4) made)) ∙ ap length same

  pub message-there : (i j m k : ℕ) → i < n → j < n → (suc i ≡ suc j → ⊥) → m < length (r.channel (suc i) (suc j)) → k < message_size
      → get_or (get_or (r.channel (suc i) (suc j)) m []) k 0
      ≡ word_of d k (field_in made (channel_place h d n made (suc i) (suc j) + 4 + m * message_width d + field_place d k) (field_width d k))
  message-there i j m k a b ne s c =
      let same = (image-read version h d n one wide head r fit).channels i j a b ne in
      sym (ap (λ (ms : List (List ℕ)). get_or (get_or ms m []) k 0) same)
      ∙ message-found h d n made i j m k ne (omega (arith, s, counted i j a b ne)) c
