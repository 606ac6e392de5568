-- `height::words::nlts_word` meets its contract: 0 less a negated time is its size, a word.
use borrow.Author.Rules.{rules}
use native.Mathlib.Omega.{arith}
use mathlib.Core.Path.{◌≡◌, ap, sym, ◌∙◌}
use lib.IntN.{ℤ, pos, neg_ℤ, ◌-ℤ◌, nat_abs, +ℤ_idl, neg_ℤ-neg_ℤ}
use mir.Syntax.{w64}
use mir.Val.{SFits, to_z, of_z}
use mir.Facts.{to_z-of_z}
use Rattle.height.specs.inner.Stored.{Negated}
use Rattle.height.proofs.Signed.{read_back}
use Rattle.height.proofs.WordsLaws.{negated_size, negated-bound}
use Rattle.height.proofs.words.nlts_word.Goals as goal

value : (z : ℤ) → SFits w64 z → Negated z → pos 0 -ℤ to_z w64 (of_z w64 z) ≡ pos (nat_abs z)
value z f n = rw (to_z-of_z f) (+ℤ_idl (neg_ℤ z) ∙ ap neg_ℤ (sym (negated_size z n)) ∙ neg_ℤ-neg_ℤ _)

value-fits : (z : ℤ) → Negated z → SFits w64 (pos (nat_abs z))
value-fits z n = record { sfits = omega (arith, negated-bound z n) }

pub overflow_sub-result : goal.overflow_sub-result
overflow_sub-result c = rw (value c.args.nlts.0 (search rules) c.requires) (value-fits c.args.nlts.0 c.requires)

pub overflow_cast-result : goal.overflow_cast-result
overflow_cast-result c =
    rw (read_back w64 (value c.args.nlts.0 (search rules) c.requires) (value-fits c.args.nlts.0 c.requires))
    (tt, record { fits = omega (arith, negated-bound c.args.nlts.0 c.requires) })

pub returns : goal.returns
returns c = ap nat_abs (read_back w64 (value c.args.nlts.0 (search rules) c.requires) (value-fits c.args.nlts.0 c.requires))
