-- `image_reader::fields::take_at` meets its contract: refused, or the field and the place behind it.
use Rattle.image_reader.proofs.FieldLaws.{take-fits, take-refused, take-taken}
use Rattle.image_reader.proofs.fields.take_at.Goals as goal

pub field_at-field-requires : goal.field_at-field-requires
field_at-field-requires c = let f = take-fits _ _ _ c.inside.ensures c.if-width-inside.false in (f.0, f.1.1)

pub overflow_add-at : goal.overflow_add-at
overflow_add-at c = record { fits = (take-fits _ _ _ c.inside.ensures c.if-width-inside.false).1.0 }

pub returns-then-width-inside : goal.returns-then-width-inside
returns-then-width-inside c = take-refused _ _ _ c.inside.ensures c.if-width-inside.true

pub returns : goal.returns
returns c = take-taken _ _ _ c.inside.ensures _ c.field_at-field.ensures c.if-width-inside.false
