-- `image_reader::fields::inside` meets its contract: past 64 bits, or by whole bytes.
use native.Mathlib.Omega.{arith}
use Rattle.image_reader.proofs.FieldLaws.{past_words, bytes-hold}
use Rattle.image_reader.proofs.fields.inside.Goals as goal

pub returns-in-Some : goal.returns-in-Some
returns-in-Some c = rw (c.div_ceil.ensures, c.in-Some.ensures.1) (bytes-hold _ _ _ c.in-Some.ensures.0)

pub returns-in-None : goal.returns-in-None
returns-in-None c = past_words _ _ _ (omega (arith, c.in-None.ensures))
