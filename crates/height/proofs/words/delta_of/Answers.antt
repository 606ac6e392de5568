-- `height::words::delta_of` meets its contract: below 2 ^ 31 the word itself, from there the word less 2 ^ 32.
use borrow.Author.Tests.{lt-ltb, le-ltb}
use native.Mathlib.Omega.{arith}
use Prim.Native.Nat.{◌-◌}
use mathlib.Core.Path.{◌≡◌, ◌∙◌}
use lib.IntN.{negsuc, ◌-ℤ◌}
use mir.Syntax.{w32}
use mir.Val.{SFits, to_z}
use mir.ValLaws.{to_z_pos}
use Rattle.height.specs.Words.{delta_of}
use Rattle.height.proofs.Signed.{from-minus-one, read_back}
use Rattle.height.proofs.words.delta_of.Goals as goal

-- what is computed where the word is at least 2 ^ 31
module _ (c : goal.Else-word-lt2147483648) where
  value : negsuc 0 -ℤ to_z w32 (4294967295 - c.args.word) ≡ negsuc (4294967295 - c.args.word)
  value = rw (to_z_pos w32 (4294967295 - c.args.word) (omega arith)) (from-minus-one _)

  value-fits : SFits w32 (negsuc (4294967295 - c.args.word))
  value-fits = record { sfits = omega arith }

pub returns-then-word-lt2147483648 : goal.returns-then-word-lt2147483648
unfolding delta_of
returns-then-word-lt2147483648 c = simp (lt-ltb _ _ c.if-word-lt2147483648.true)

pub overflow_sub-result : goal.overflow_sub-result
overflow_sub-result c = rw (value c) (value-fits c)

pub returns : goal.returns
unfolding delta_of
returns c = read_back w32 (value c) (value-fits c) ∙ simp (le-ltb _ _ c.if-word-lt2147483648.false)
