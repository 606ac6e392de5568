-- The header taken apart: document 01, "The plot image" and refusals 10 and 11.
-- Under 4 bytes: 10. Another version than 1, another header length than 32, n of 0 or above 16, or a spare bit set: 11.
use Rattle.std.specs.Prelude.{ℕ, ◌-◌, Bool, cond, ◌&&◌, List, eqb, leb, ltb, length}
use Rattle.bits.specs.Bits.{field}
use Rattle.image.specs.Widths.{header_length}
use Rattle.refusal.specs.Outcome.{Answered, accepted, refused_with}
use Rattle.refusal.specs.Refusal.{why}
use Rattle.image_reading.specs.declared.Fields.{Fields}

abbrev pub no_fields : Fields
no_fields = record { version = 0; length = 0; n = 0 }

-- what the bytes of a good header say
abbrev pub fields_of : List ℕ → Fields
fields_of xs = record { version = field xs 0 4; length = field xs 4 12; n = field xs 16 5 }

unfoldable pub header_holds : ℕ → ℕ → List ℕ → Bool
header_holds version h xs =
    eqb (field xs 0 4) version && eqb (field xs 4 12) h && (leb 1 (field xs 16 5) && leb (field xs 16 5) 16)
    && eqb (field xs 21 (h - 21)) 0

abbrev pub bad_header : ℕ → Answered Fields
bad_header k = refused_with no_fields (why k 0 0)

unfoldable pub header_of : List ℕ → Answered Fields
header_of xs = cond (ltb (length xs) 4) (bad_header 10) (cond (header_holds 1 header_length xs) (accepted (fields_of xs)) (bad_header 11))
