-- `image::records::get_record` meets its contract: seven words are got at the widths of a height, the depth is extended, and a message's
-- stamp is got behind them.
use Prim.Native.Nat.{ℕ, ◌+◌, ◌^◌, ◌<◌}
use native.Mathlib.Omega.{arith}
use mathlib.Core.Path.{◌≡◌, sym, ap, ap₂, ◌∙◌}
use mathlib.Core.List.{List, ◌++◌}
use lib.ListN.{length, take, drop, get_or, set, length-take}
use Rattle.bits.specs.Bits.{unpacked, field, gathered}
use Rattle.bits.proofs.Bytes.{below-unpacked}
use Rattle.bits.proofs.Numbers.{below-drop}
use Rattle.image.specs.Widths.{widths_of, extended_of}
use Rattle.image.proofs.FieldPlaces.{height-end, height-place}
use Rattle.image.proofs.RecordLaws.{length-widths, depth-width, gathered-lt}
use Rattle.image.proofs.StampLaws.{height-room, stamp-room, stamp-wide, seven-got, length-kept, depth-got, height-got, message-got, stamp-field}
use Rattle.image.proofs.records.get_record.Goals as goal

pub slice_bounds-get_fields-end-3 : goal.slice_bounds-get_fields-end-3
slice_bounds-get_fields-end-3 c =
    let e : length (take 7 c.args.words.now) ≡ 7 = simp length-take (omega arith) in
    sym e

pub get_fields-requires : goal.get_fields-requires
get_fields-requires c =
    let a = c.args in
    let e : length (take 7 a.words.now) ≡ 7 = simp length-take (omega arith) in
    let n = length-widths a.depth 7 (omega arith) in
    rw c.fields-w.ensures
    (height-room a.bytes.now a.at a.depth (length a.words.now) c.requires.1.0.0 c.requires.1.0.1 c.requires.0, n ∙ sym e, omega (arith, n))

pub extended-requires : goal.extended-requires
extended-requires c =
    let a = c.args in
    let bs = drop a.at (unpacked a.bytes.now) in
    let ws = take 7 (widths_of a.depth) in
    let d : get_or ws 3 0 ≡ a.depth = depth-width a.depth 7 (omega arith) in
    let r = height-room a.bytes.now a.at a.depth (length a.words.now) c.requires.1.0.0 c.requires.1.0.1 c.requires.0 in
    let g : c.get_fields.new.values ≡ gathered ws bs = c.get_fields.ensures ∙ ap (λ (l : List ℕ). gathered (take 7 l) bs) c.fields-w.ensures in
    let q : get_or (gathered ws bs) 3 0 < 2 ^ a.depth =
    rw d at (gathered-lt ws bs (below-drop 2 a.at (unpacked a.bytes.now) (below-unpacked a.bytes.now)) 3
    (omega (arith, length-widths a.depth 7 (omega arith)))) in
    let depth = ap (λ (l : List ℕ). get_or (l ++ drop 7 a.words.now) 3 0) g ∙ depth-got a.depth bs a.words.now in
    ((c.requires.1.1, omega (arith, r.narrow 3, d)), rw depth q)

pub overflow_add-place : goal.overflow_add-place
overflow_add-place c =
    omega (arith, c.requires.0.small, c.place.ensures, height-place c.args.depth, height-end c.args.depth)

pub overflow_cast-w : goal.overflow_cast-w
overflow_cast-w c = rw c.fields-w.ensures (omega arith)

pub get-requires : goal.get-requires
get-requires c =
    let a = c.args in
    let bs = drop a.at (unpacked a.bytes.now) in
    let g : c.get_fields.new.values ≡ gathered (take 7 (widths_of a.depth)) bs =
    c.get_fields.ensures ∙ ap (λ (l : List ℕ). gathered (take 7 l) bs) c.fields-w.ensures in
    let seven = ap length g ∙ seven-got a.depth bs in
    let n = length-kept c.get_fields.new.values a.words.now c.extended.result seven c.requires.1.0.0 in
    let r = stamp-room a.bytes.now a.at a.depth (length a.words.now) (sym n ∙ c.if-words-eq-MESSAGE_SIZE.true) c.requires.0 in
    let wide = stamp-wide a.depth c.fields-w.result c.fields-w.ensures in
    let h = c.place.ensures ∙ height-place a.depth in
    (omega (arith, wide), (omega (arith, r.0, h), omega (arith, wide, r.1, h)))

pub returns-then-words-eq-MESSAGE_SIZE : goal.returns-then-words-eq-MESSAGE_SIZE
returns-then-words-eq-MESSAGE_SIZE c =
    let a = c.args in
    let ws = a.words.now in
    let bs = drop a.at (unpacked a.bytes.now) in
    let got = c.get_fields.new.values in
    let g : got ≡ gathered (take 7 (widths_of a.depth)) bs = c.get_fields.ensures ∙ ap (λ (l : List ℕ). gathered (take 7 l) bs) c.fields-w.ensures in
    let n = length-kept got ws c.extended.result (ap length g ∙ seven-got a.depth bs) c.requires.1.0.0 in
    let x : c.extended.result ≡ extended_of a.depth (get_or (gathered (take 7 (widths_of a.depth)) bs) 3 0) =
    c.extended.ensures ∙ ap (extended_of a.depth) (ap (λ (l : List ℕ). get_or (l ++ drop 7 ws) 3 0) g ∙ depth-got a.depth bs ws) in
    ap₂ (λ (l : List ℕ) (y : ℕ). set (set (l ++ drop 7 ws) 3 y) 7 c.get.result) g x
    ∙ message-got a.depth bs ws c.get.result (sym n ∙ c.if-words-eq-MESSAGE_SIZE.true)
    (c.get.ensures
    ∙ ap₂ (λ (w k : ℕ). field a.bytes.now (a.at + w) k) (c.place.ensures ∙ height-place a.depth)
    (stamp-wide a.depth c.fields-w.result c.fields-w.ensures)
    ∙ stamp-field a.bytes.now a.at a.depth)

pub returns-else-words-eq-MESSAGE_SIZE : goal.returns-else-words-eq-MESSAGE_SIZE
returns-else-words-eq-MESSAGE_SIZE c =
    let a = c.args in
    let ws = a.words.now in
    let bs = drop a.at (unpacked a.bytes.now) in
    let got = c.get_fields.new.values in
    let g : got ≡ gathered (take 7 (widths_of a.depth)) bs = c.get_fields.ensures ∙ ap (λ (l : List ℕ). gathered (take 7 l) bs) c.fields-w.ensures in
    let n = length-kept got ws c.extended.result (ap length g ∙ seven-got a.depth bs) c.requires.1.0.0 in
    let x : c.extended.result ≡ extended_of a.depth (get_or (gathered (take 7 (widths_of a.depth)) bs) 3 0) =
    c.extended.ensures ∙ ap (extended_of a.depth) (ap (λ (l : List ℕ). get_or (l ++ drop 7 ws) 3 0) g ∙ depth-got a.depth bs ws) in
    ap₂ (λ (l : List ℕ) (y : ℕ). set (l ++ drop 7 ws) 3 y) g x ∙ height-got a.depth bs ws (omega (arith, n, c.if-words-eq-MESSAGE_SIZE.false))
