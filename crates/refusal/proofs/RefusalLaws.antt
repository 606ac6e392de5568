-- The reason is told by its number and its pair; no reason has the number 0.
-- `reason_from` is the way back.
use Prim.Native.Nat.{ℕ}
use mathlib.Core.Bool.{false, cond}
use mathlib.Core.List.{List, [], ◌∷◌}
use mathlib.Core.Path.{◌≡◌, refl, sym, ap, ◌∙◌}
use lib.Dec.{eqb}
use denote.Enum.Declared.{tag_of}
use types.Run.{OneOf, miss}
use Rattle.refusal.specs.Refusal.{why, why_of}
use Rattle.refusal.specs.declared.Refusal.TheVariants.{ChannelFull, TooShort, BadHeader, BadEnd, NotPlace, NoRoom, Malformed, NotSketch, BadLink, Untimely, TooLarge}
use Rattle.refusal.specs.declared.Refusal.TheVariants.{Sizes, Fault, NodeNumber, AlreadyUp, AlreadyDown, NoMessage, ClockEnd, DeltaEnd}
use Rattle.refusal.specs.declared.Refusal.{Refusal}
use Rattle.refusal.specs.declared.Why.{Why}
use Rattle.refusal.specs.contracts.Refusal as reasons

unfoldable pub reason_from : Why → Refusal
reason_from w =
    cond (eqb w.number 1) Sizes (cond (eqb w.number 2) (Fault w.u w.v) (cond (eqb w.number 3) NodeNumber
    (cond (eqb w.number 4) AlreadyUp (cond (eqb w.number 5) AlreadyDown (cond (eqb w.number 6) NoMessage
    (cond (eqb w.number 7) ClockEnd (cond (eqb w.number 8) DeltaEnd (cond (eqb w.number 9) ChannelFull
    (cond (eqb w.number 10) TooShort (cond (eqb w.number 11) BadHeader (cond (eqb w.number 12) BadEnd
    (cond (eqb w.number 13) NotPlace (cond (eqb w.number 14) NoRoom (cond (eqb w.number 15) Malformed
    (cond (eqb w.number 16) NotSketch (cond (eqb w.number 17) BadLink (cond (eqb w.number 18) (Untimely w.u w.v) TooLarge)))))))))))))))))

pub reason-back : (r : Refusal) → reason_from (why_of r) ≡ r
unfolding reason_from
reason-back Sizes = refl
reason-back (Fault u v) = refl
reason-back NodeNumber = refl
reason-back AlreadyUp = refl
reason-back AlreadyDown = refl
reason-back NoMessage = refl
reason-back ClockEnd = refl
reason-back DeltaEnd = refl
reason-back ChannelFull = refl
reason-back TooShort = refl
reason-back BadHeader = refl
reason-back BadEnd = refl
reason-back NotPlace = refl
reason-back NoRoom = refl
reason-back Malformed = refl
reason-back NotSketch = refl
reason-back BadLink = refl
reason-back (Untimely u v) = refl
reason-back TooLarge = refl

pub why-injective : (r s : Refusal) → why_of r ≡ why_of s → r ≡ s
why-injective r s e = sym (reason-back r) ∙ (ap reason_from e ∙ reason-back s)

-- a reason is never said as 0
pub never-0 : (r : Refusal) → eqb (why_of r).number 0 ≡ false
never-0 Sizes = refl
never-0 (Fault u v) = refl
never-0 NodeNumber = refl
never-0 AlreadyUp = refl
never-0 AlreadyDown = refl
never-0 NoMessage = refl
never-0 ClockEnd = refl
never-0 DeltaEnd = refl
never-0 ChannelFull = refl
never-0 TooShort = refl
never-0 BadHeader = refl
never-0 BadEnd = refl
never-0 NotPlace = refl
never-0 NoRoom = refl
never-0 Malformed = refl
never-0 NotSketch = refl
never-0 BadLink = refl
never-0 (Untimely u v) = refl
never-0 TooLarge = refl

-- ---- reasons without a pair: all but 2 and 18

abbrev but_fault : List ℕ
but_fault = 0 ∷ 2 ∷ 3 ∷ 4 ∷ 5 ∷ 6 ∷ 7 ∷ 8 ∷ 9 ∷ 10 ∷ 11 ∷ 12 ∷ 13 ∷ 14 ∷ 15 ∷ 16 ∷ 17 ∷ 18 ∷ []

abbrev but_untimely : List ℕ
but_untimely = 0 ∷ 1 ∷ 2 ∷ 3 ∷ 4 ∷ 5 ∷ 6 ∷ 7 ∷ 8 ∷ 9 ∷ 10 ∷ 11 ∷ 12 ∷ 13 ∷ 14 ∷ 15 ∷ 16 ∷ 18 ∷ []

abbrev pub NotFault : Refusal → Type 0
NotFault r = OneOf but_fault (tag_of reasons.the_type r)

abbrev pub NotUntimely : Refusal → Type 0
NotUntimely r = OneOf but_untimely (tag_of reasons.the_type r)

pairless-said : (r : Refusal) → NotFault r → NotUntimely r → why (why_of r).number 0 0 ≡ why_of r
pairless-said Sizes k l = refl
pairless-said (Fault u v) k l = absurd (miss but_fault 1 tt k)
pairless-said NodeNumber k l = refl
pairless-said AlreadyUp k l = refl
pairless-said AlreadyDown k l = refl
pairless-said NoMessage k l = refl
pairless-said ClockEnd k l = refl
pairless-said DeltaEnd k l = refl
pairless-said ChannelFull k l = refl
pairless-said TooShort k l = refl
pairless-said BadHeader k l = refl
pairless-said BadEnd k l = refl
pairless-said NotPlace k l = refl
pairless-said NoRoom k l = refl
pairless-said Malformed k l = refl
pairless-said NotSketch k l = refl
pairless-said BadLink k l = refl
pairless-said (Untimely u v) k l = absurd (miss but_untimely 17 tt l)
pairless-said TooLarge k l = refl

module _ (r : Refusal) (number : ℕ) (e : number ≡ (why_of r).number) where
  pub with_pair : (s : Refusal) → r ≡ s → why number (why_of s).u (why_of s).v ≡ why_of r
  with_pair s q = rw (e, q)

  pub pairless : NotFault r → NotUntimely r → why number 0 0 ≡ why_of r
  pairless k l = rw e (pairless-said r k l)
