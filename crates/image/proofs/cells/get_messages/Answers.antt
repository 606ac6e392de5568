-- `image::cells::get_messages` meets its contract: all words are zeroed, then c records of eight words are got.
use Prim.Native.Nat.{ℕ}
use mathlib.Core.Path.{◌≡◌, ap, ◌∙◌}
use lib.ListN.{length, replicate, length-replicate}
use Rattle.bits.specs.Bits.{unpacked}
use Rattle.image.proofs.PartTurns.{messages, no-messages, messages-done}
use Rattle.image.proofs.cells.get_messages.Goals as goal

pub returns-then-c-eq0 : goal.returns-then-c-eq0
returns-then-c-eq0 c =
    no-messages c.args.depth c.args.c (unpacked c.args.bytes.now) c.args.at c.if-c-eq0.true
    (c.fill_zero.ensures ∙ ap (λ (n : ℕ). replicate {A = ℕ} n 0) c.requires.2)

pub get_records-requires : goal.get_records-requires
get_records-requires c =
    let zero = c.fill_zero in
    let e : length zero.new.words ≡ 64 = ap length zero.ensures ∙ length-replicate {A = ℕ} _ 0 ∙ c.requires.2 in
    rw c.message.ensures (messages (c.requires.0, c.requires.1, e, c.requires.3))

pub returns : goal.returns
returns c =
    messages-done c.args.depth c.args.c (unpacked c.args.bytes.now) c.args.at c.requires.1
    (c.fill_zero.ensures ∙ ap (λ (n : ℕ). replicate {A = ℕ} n 0) c.requires.2)
    (rw c.message.ensures at c.get_records.ensures)
