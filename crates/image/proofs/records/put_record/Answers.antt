-- `image::records::put_record` meets its contract: seven words are put at the widths of a height, and a message's stamp behind them.
use Prim.Native.Nat.{ℕ, ◌+◌}
use native.Mathlib.Omega.{arith}
use mathlib.Core.Path.{◌≡◌, sym, ap, ap₂, ◌∙◌}
use mathlib.Core.List.{List}
use lib.ListN.{length, take, get_or, length-take}
use Rattle.bits.specs.Bits.{spread, bits}
use Rattle.bits.specs.inner.Written.{written}
use Rattle.bits.proofs.Bytes.{length-written}
use Rattle.image.proofs.FieldPlaces.{height-end, height-place}
use Rattle.image.proofs.RecordLaws.{length-widths}
use Rattle.image.proofs.StampLaws.{height-room, stamp-room, stamp-wide, height-put, message-put}
use Rattle.image.proofs.records.put_record.Goals as goal

pub slice_bounds-put_fields-end-2 : goal.slice_bounds-put_fields-end-2
slice_bounds-put_fields-end-2 c =
    let e : length (take 7 c.args.words.now) ≡ 7 = simp length-take (omega arith) in
    sym e

pub put_fields-requires : goal.put_fields-requires
put_fields-requires c =
    let a = c.args in
    let e : length (take 7 a.words.now) ≡ 7 = simp length-take (omega arith) in
    rw c.fields-w.ensures (
      height-room a.buf.now a.at a.depth (length a.words.now) c.requires.1.0 c.requires.1.1 c.requires.0,
      length-widths a.depth 7 (omega arith) ∙ sym e,
      omega (arith, length-widths a.depth 7 (omega arith)),
    )

pub overflow_add-place : goal.overflow_add-place
overflow_add-place c =
    omega (arith, c.requires.0.small, c.place.ensures, height-place c.args.depth, height-end c.args.depth)

pub overflow_cast-w : goal.overflow_cast-w
overflow_cast-w c = rw c.fields-w.ensures (omega arith)

pub put-requires : goal.put-requires
put-requires c =
    let a = c.args in
    let r = stamp-room a.buf.now a.at a.depth (length a.words.now) c.if-words-eq-MESSAGE_SIZE.true c.requires.0 in
    let n = ap length c.put_fields.ensures ∙ length-written a.buf.now a.at (spread (take 7 c.fields-w.result) (take 7 a.words.now)) in
    let wide = stamp-wide a.depth c.fields-w.result c.fields-w.ensures in
    let h = c.place.ensures ∙ height-place a.depth in
    (omega (arith, wide), (omega (arith, r.0, h), omega (arith, wide, r.1, n, h)))

pub returns-then-words-eq-MESSAGE_SIZE : goal.returns-then-words-eq-MESSAGE_SIZE
returns-then-words-eq-MESSAGE_SIZE c =
    let a = c.args in
    let r = stamp-room a.buf.now a.at a.depth (length a.words.now) c.if-words-eq-MESSAGE_SIZE.true c.requires.0 in
    c.put.ensures
    ∙ ap (λ (w : ℕ). written c.put_fields.new.buf (a.at + c.place.result) (bits w (get_or a.words.now 7 0)))
    (stamp-wide a.depth c.fields-w.result c.fields-w.ensures)
    ∙ ap₂ (λ (l : List ℕ) (w : ℕ). written l (a.at + w) (bits 32 (get_or a.words.now 7 0)))
    (c.put_fields.ensures ∙ ap (λ (l : List ℕ). written a.buf.now a.at (spread (take 7 l) (take 7 a.words.now))) c.fields-w.ensures)
    (c.place.ensures ∙ height-place a.depth)
    ∙ message-put a.buf.now a.at a.depth a.words.now c.if-words-eq-MESSAGE_SIZE.true r.1

pub returns-else-words-eq-MESSAGE_SIZE : goal.returns-else-words-eq-MESSAGE_SIZE
returns-else-words-eq-MESSAGE_SIZE c =
    let a = c.args in
    c.put_fields.ensures ∙ ap (λ (l : List ℕ). written a.buf.now a.at (spread (take 7 l) (take 7 a.words.now))) c.fields-w.ensures
    ∙ height-put a.buf.now a.at a.depth a.words.now (omega (arith, c.if-words-eq-MESSAGE_SIZE.false))
