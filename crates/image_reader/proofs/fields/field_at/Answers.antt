-- `image_reader::fields::field_at` meets its contract: the field is read from the rest of the slice.
use Rattle.image_reader.proofs.FieldLaws.{field-rest}
use Rattle.image_reader.proofs.fields.field_at.Goals as goal

pub returns : goal.returns
returns c = field-rest _ _ _ _ c.get.ensures
