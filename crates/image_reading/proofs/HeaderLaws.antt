-- What is said of a header is injective, and each return of `decode` says what the header's definition says.
-- a, b, n and e are the fields that were read: version, header length, number of nodes and spare bits.
use Prim.Native.Nat.{ℕ, ◌≤◌, ◌<◌}
use mathlib.Core.Bool.{true, false, cond, ◌&&◌}
use mathlib.Core.List.{List}
use mathlib.Core.Path.{◌≡◌, refl, sym, ap, ◌∙◌}
use borrow.Author.Tests.{lt-ltb, le-ltb}
use lib.Dec.{eqb, leb}
use lib.ListN.{length}
use Rattle.bits.specs.Bits.{field}
use Rattle.std.specs.Prelude.{Result, Ok, Err}
use Rattle.refusal.specs.Outcome.{Answered, accepted, said_as}
use Rattle.refusal.specs.declared.Refusal.{Refusal}
use Rattle.refusal.proofs.RefusalLaws.{reason_from, reason-back, never-0}
use Rattle.image_reading.specs.Header.{bad_header, no_fields, header_holds, header_of}
use Rattle.image_reading.specs.declared.Fields.{Fields}

-- ---- the header from what it says

header_from : Answered Fields → Result Fields Refusal
header_from s = cond (eqb s.why.number 0) (Ok s.value) (Err (reason_from s.why))

header-back : (h : Result Fields Refusal) → header_from (said_as no_fields h) ≡ h
unfolding header_from
header-back (Ok f) = refl
header-back (Err r) = rw (never-0 r, reason-back r)

pub header-injective : (g h : Result Fields Refusal) → said_as no_fields g ≡ said_as no_fields h → g ≡ h
header-injective g h e = sym (header-back g) ∙ (ap header_from e ∙ header-back h)

-- ---- the returns of decode

pub short : (xs : List ℕ) → length xs < 4 → bad_header 10 ≡ header_of xs
unfolding header_of
short xs h = rw (lt-ltb (length xs) 4 h)

module _ (xs : List ℕ) (a b n e : ℕ) (long : 4 ≤ length xs)
    (version : a ≡ field xs 0 4) (size : b ≡ field xs 4 12) (nodes : n ≡ field xs 16 5) (spare : e ≡ field xs 21 11) where
  pub good : (eqb a 1 && eqb b 32 && (leb 1 n && leb n 16) && eqb e 0) ≡ true → accepted (record { version = a; length = b; n = n }) ≡ header_of xs
  unfolding header_of header_holds
  good t = rw (le-ltb (length xs) 4 long, sym version, sym size, sym nodes, sym spare, t)

  pub wrong : (eqb a 1 && eqb b 32 && (leb 1 n && leb n 16) && eqb e 0) ≡ false → bad_header 11 ≡ header_of xs
  unfolding header_of header_holds
  wrong t = rw (le-ltb (length xs) 4 long, sym version, sym size, sym nodes, sym spare, t)
