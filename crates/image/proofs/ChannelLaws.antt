-- Messages end to end and the bits of one channel: their lengths, what is read of them, and the place behind them.
-- Assumes of messages that are read back that their words fit their fields (`MessageFields`).
use Prim.Native.Nat.{ℕ, zero, suc, ◌+◌, ◌*◌, ◌≤◌}
use native.Mathlib.Nat.{suc-mul, zero-mul}
use native.Mathlib.Omega.{arith}
use mathlib.Core.Path.{◌≡◌, refl, ap, ap₂, ◌∙◌}
use mathlib.Core.Bool.{true, false}
use mathlib.Core.List.{List, [], ◌∷◌, ◌++◌, append_assoc}
use lib.Dec.{eqb}
use lib.ListN.{length, drop, length-append}
use lib.Seq.{drop_at}
use Rattle.basics.proofs.AllOf.{AllOf, none, more}
use Rattle.basics.proofs.Tests.{Choice, yes!, no!, choice}
use Rattle.bits.specs.Bits.{bits}
use Rattle.bits.proofs.Numbers.{Below, below-nil, below-append, below-bits}
use Rattle.tables.specs.Records.{Records}
use Rattle.image.specs.Image.{message_bits, channel_bits}
use Rattle.image.specs.Places.{field_in, messages_of, channel_next}
use Rattle.image.specs.Widths.{record_bits, record_of, message_width}
use Rattle.image.proofs.RecordLaws.{FitsFields, length-message, below-record, record-of-bits}

-- ---- messages

-- eight words that fit their fields
abbrev pub MessageFields : ℕ → List ℕ → Type 0
MessageFields d m = (length m ≡ 8) × FitsFields d m

pub length-messages : (d : ℕ) (ms : List (List ℕ)) → AllOf (MessageFields d) ms → length (message_bits d ms) ≡ length ms * message_width d
unfolding message_bits
length-messages d [] none = omega (arith, zero-mul (message_width d))
length-messages d (m ∷ ms) (more h r) =
    length-append (record_bits d m) (message_bits d ms)
    ∙ omega (arith, length-message d m h.0, length-messages d ms r, suc-mul (length ms) (message_width d))

pub messages-read : (d : ℕ) → 1 ≤ d → d ≤ 32 → (ms : List (List ℕ)) (t : List ℕ) → AllOf (MessageFields d) ms
    → messages_of d (length ms) (message_bits d ms ++ t) ≡ ms
unfolding message_bits messages_of
messages-read d one wide [] t none = refl
messages-read d one wide (m ∷ ms) t (more h r) =
    let a : (record_bits d m ++ message_bits d ms) ++ t ≡ record_bits d m ++ (message_bits d ms ++ t) =
    append_assoc (record_bits d m) (message_bits d ms) t in
    ap₂ (λ (x : List ℕ) (y : List (List ℕ)). x ∷ y)
    (ap (record_of d 8) a ∙ record-of-bits d 8 one wide (omega arith) (omega arith) m (message_bits d ms ++ t) h.0 h.1)
    (ap (λ (x : List ℕ). messages_of d (length ms) (drop (message_width d) x)) a
    ∙ ap (messages_of d (length ms)) (drop_at (record_bits d m) (message_bits d ms ++ t) (message_width d) (length-message d m h.0))
    ∙ messages-read d one wide ms t r)

pub length-messages-of : (d c : ℕ) (t : List ℕ) → length (messages_of d c t) ≡ c
unfolding messages_of
length-messages-of d zero t = refl
length-messages-of d (suc c) t = ap suc (length-messages-of d c (drop (message_width d) t))

pub below-messages : (d : ℕ) (ms : List (List ℕ)) → Below 2 (message_bits d ms)
unfolding message_bits
below-messages d [] = below-nil 2 (omega arith)
below-messages d (m ∷ ms) = below-append 2 (record_bits d m) (message_bits d ms) (below-record d m) (below-messages d ms)

-- ---- one channel

pub channel-same : (d : ℕ) (r : Records) (u v : ℕ) → eqb u v ≡ true → channel_bits d r u v ≡ []
unfolding channel_bits
channel-same d r u v e = rw e

pub channel-other : (d : ℕ) (r : Records) (u v : ℕ) → eqb u v ≡ false
    → channel_bits d r u v ≡ bits 4 (length (r.channel u v)) ++ message_bits d (r.channel u v)
unfolding channel_bits
channel-other d r u v e = rw e

pub next-same : (d : ℕ) (l : List ℕ) (u v q : ℕ) → eqb u v ≡ true → channel_next d l u v q ≡ q
unfolding channel_next
next-same d l u v q e = rw e

pub next-other : (d : ℕ) (l : List ℕ) (u v q : ℕ) → eqb u v ≡ false → channel_next d l u v q ≡ q + 4 + field_in l q 4 * message_width d
unfolding channel_next
next-other d l u v q e = rw e

pub below-channel : (d : ℕ) (r : Records) (u v : ℕ) → Below 2 (channel_bits d r u v)
below-channel d r u v = go (choice (eqb u v))
  where
    ms : List (List ℕ)
    ms = r.channel u v

    go : Choice (eqb u v) → Below 2 (channel_bits d r u v)
    go (yes! e) = rw (channel-same d r u v e) (below-nil 2 (omega arith))
    go (no! e) =
        rw (channel-other d r u v e)
        (below-append 2 (bits 4 (length ms)) (message_bits d ms) (below-bits 4 (length ms)) (below-messages d ms))
