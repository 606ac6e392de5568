-- Texts poured one behind the other are one text; pieces poured in turn are all of them.
use Prim.Native.Nat.{ℕ, zero, suc, ◌+◌, ◌-◌, ◌*◌, ◌≤◌, ◌<◌}
use native.Mathlib.Nat.{add_assoc, add-zero, suc-mul}
use native.Mathlib.Omega.{arith}
use mathlib.Core.List.{List, ◌++◌}
use mathlib.Core.Path.{◌≡◌, refl, sym, ap, ap₂, ◌∙◌}
use lib.ListN.{length, length-append}
use Rattle.text.specs.Text.{in_turn}
use Rattle.text.specs.inner.Poured.{poured}
use Rattle.text.proofs.TextLaws.{poured-append}

-- what was poured from an offset on, and the offset behind it
pub record Poured (out : List ℕ) (at : ℕ) (text after : List ℕ) (behind : ℕ) : Type 0 where
  pub bytes : after ≡ poured out at text
  pub offset : behind ≡ at + length text

pub both : {out after : List ℕ} {at behind : ℕ} {text : List ℕ} → after ≡ poured out at text → behind ≡ at + length text
    → Poured out at text after behind
both b p = record { bytes = b; offset = p }

pub then : {out mid after : List ℕ} {at between behind : ℕ} {a b : List ℕ} → Poured out at a mid between → Poured mid between b after behind
    → Poured out at (a ++ b) after behind
then {out} {mid} {after} {at} {between} {behind} {a} {b} x y = record {
  bytes =
      y.bytes ∙ (ap (λ (q : ℕ). poured mid q b) x.offset ∙ (ap (λ (o : List ℕ). poured o (at + length a) b) x.bytes ∙ sym (poured-append out at a b)));
  offset = y.offset ∙ (ap (λ (q : ℕ). q + length b) x.offset ∙ (add_assoc at (length a) (length b) ∙ ap (λ (q : ℕ). at + q) (sym (length-append a b))));
}

-- the same text under another name
pub named-so : {out after : List ℕ} {at behind : ℕ} {text line : List ℕ} → Poured out at text after behind → text ≡ line
    → (after ≡ poured out at line) × (behind ≡ at + length line)
named-so {out} {after} {at} {behind} {text} {line} x e =
    (x.bytes ∙ ap (poured out at) e, x.offset ∙ ap (λ (t : List ℕ). at + length t) e)

-- a text of at most m bytes, under its own name
pub finish : {out after : List ℕ} {at behind : ℕ} {text line : List ℕ} → Poured out at text after behind → text ≡ line → (m : ℕ) → length line ≤ m
    → (after ≡ poured out at line) × (behind ≡ at + length line) × (behind ≤ at + m)
finish {out} {after} {at} {behind} {text} {line} x e m h =
    let p = named-so x e in
    (p.0, p.1, omega (arith, p.1))

-- ---- pieces in turn

-- the pieces before u have been poured
pub record Printed (n : ℕ) (f : ℕ → List ℕ) (out₀ : List ℕ) (at : ℕ) (out : List ℕ) (offset u : ℕ) : Type 0 where
  pub low : 1 ≤ u
  pub high : u ≤ suc n
  pub so_far : Poured out₀ at (in_turn (u - 1) f) out offset

module _ (n : ℕ) (f : ℕ → List ℕ) (out₀ : List ℕ) (at : ℕ) where
  pub printed-none : Printed n f out₀ at out₀ at 1
  unfolding poured in_turn
  printed-none = record { low = omega arith; high = omega arith; so_far = record { bytes = refl; offset = sym (add-zero at) } }

  in-turn-next : (u : ℕ) → 1 ≤ u → in_turn (u - 1) f ++ f u ≡ in_turn (u + 1 - 1) f
  unfolding in_turn
  in-turn-next u low =
      let a : suc (u - 1) ≡ u = omega (arith, low) in
      let b : suc (u - 1) ≡ u + 1 - 1 = omega (arith, low) in
      ap (λ (v : ℕ). in_turn (u - 1) f ++ f v) (sym a) ∙ ap (λ (v : ℕ). in_turn v f) b

  pub printed-next : (out mid : List ℕ) (offset behind u : ℕ) → Printed n f out₀ at out offset u → u ≤ n → Poured out offset (f u) mid behind
      → Printed n f out₀ at mid behind (u + 1)
  printed-next out mid offset behind u p h x =
      let all = named-so (then p.so_far x) (in-turn-next u p.low) in
      record { low = omega arith; high = omega arith; so_far = record { bytes = all.0; offset = all.1 } }

  pub printed-all : (out : List ℕ) (offset u : ℕ) → Printed n f out₀ at out offset u → n < u
      → (out ≡ poured out₀ at (in_turn n f)) × (offset ≡ at + length (in_turn n f))
  printed-all out offset u p h =
      let e : u - 1 ≡ n = omega (arith, p.high) in
      named-so p.so_far (ap (λ (v : ℕ). in_turn v f) e)

-- pieces of at most m bytes each
pub in-turn-le : (m n : ℕ) (f : ℕ → List ℕ) → ((k : ℕ) → length (f k) ≤ m) → length (in_turn n f) ≤ n * m
unfolding in_turn
in-turn-le m zero f h = omega arith
in-turn-le m (suc n) f h =
    omega (arith, length-append (in_turn n f) (f (suc n)), in-turn-le m n f h, h (suc n), suc-mul n m)

-- while pieces of at most m bytes are poured, the offset stays near
pub printed-near : {n : ℕ} {f : ℕ → List ℕ} {out₀ out : List ℕ} {at offset u : ℕ} → Printed n f out₀ at out offset u → (m : ℕ)
    → ((k : ℕ) → length (f k) ≤ m) → offset ≤ at + (u - 1) * m
printed-near {n} {f} {out₀} {out} {at} {offset} {u} p m h = omega (arith, p.so_far.offset, in-turn-le m (u - 1) f h)

-- pieces that are the same
pub in-turn-same : {A : Type 0} (n : ℕ) (f g : ℕ → List A) → ((i : ℕ) → i < n → f (suc i) ≡ g (suc i)) → in_turn n f ≡ in_turn n g
unfolding in_turn
in-turn-same zero f g h = refl
in-turn-same {A} (suc n) f g h =
    ap₂ (λ (s t : List A). s ++ t) (in-turn-same n f g (λ i l. h i (omega arith))) (h n (omega arith))
