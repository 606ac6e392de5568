-- `time_cases::halves::joined`: both rooms are longer than the 12 bytes.
use Rattle.std.proofs.Common.{arith, sym, ◌∙◌, length-take-le}
use Rattle.time_cases.proofs.halves.joined.Goals as goal

pub copy_from_slice-requires : goal.copy_from_slice-requires
copy_from_slice-requires g c =
    length-take-le 12 c.save_late-after.new.out (omega arith) ∙ sym (length-take-le 12 c.save_early-before.new.out (omega arith))
