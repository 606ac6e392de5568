-- Steps of a walk: where they stop they stay, and what accepted steps show; then what one channel's accepted step shows.
use Prim.Native.Nat.{ℕ, zero, suc, ◌+◌, ◌-◌, ◌*◌, ◌≤◌, ◌<◌}
use native.Mathlib.Nat.{add-zero, add-suc, le-suc_iff}
use native.Mathlib.Numerals.{add-one}
use native.Mathlib.Omega.{arith}
use mathlib.Core.Bool.{Bool, true, false, cond}
use mathlib.Core.List.{List}
use mathlib.Core.Logic.{◌⊎◌, inl, inr}
use mathlib.Core.Path.{◌≡◌, refl, sym, ap, subst, ◌∙◌}
use borrow.Author.Tests.{ltb-false, eqb-true}
use lib.Dec.{ltb, eqb}
use lib.ListN.{length}
use Rattle.image.specs.Places.{field_in, walked, channel_next}
use Rattle.image.specs.Widths.{message_width}
use Rattle.image.proofs.Bounds.{messages-small}
use Rattle.image.proofs.ChannelLaws.{next-same, next-other}
use Rattle.refusal.specs.declared.Refusal.TheVariants.{Fault, BadEnd}
use Rattle.refusal.specs.declared.Refusal.{Refusal}
use Rattle.image_reading.specs.Walk.{Walk, channel_step, onward, steps}
use Rattle.std.proofs.Common.{Ok, Err}

-- ---- stopped walks
steps-stay : (f : ℕ → ℕ → Walk) (k q : ℕ) (r : Refusal) → steps f k q ≡ Err r → (j : ℕ) → steps f (k + j) q ≡ Err r
unfolding steps onward
steps-stay f k q r e zero = ap (λ (x : ℕ). steps f x q) (add-zero k) ∙ e
steps-stay f k q r e (suc j) =
    ap (λ (x : ℕ). steps f x q) (add-suc k j) ∙ ap (λ (x : Walk). onward x (f (suc (k + j)))) (steps-stay f k q r e j)

-- one step more
steps-more : (f : ℕ → ℕ → Walk) (k q p : ℕ) → steps f k q ≡ Ok p → steps f (k + 1) q ≡ f (k + 1) p
unfolding steps onward
steps-more f k q p e =
    ap (λ (x : ℕ). steps f x q) (add-one k)
    ∙ ap (λ (x : Walk). onward x (f (suc k))) e
    ∙ ap (λ (x : ℕ). f x p) (sym (add-one k))

-- ---- a loop over n steps from q
-- at its head: k steps led to p, each at most m bits far
pub record Walking (f : ℕ → ℕ → Walk) (m n q k p : ℕ) : Type 0 where
  pub high : k ≤ n
  pub near : p ≤ q + k * m
  pub reached : steps f k q ≡ Ok p

module _ (f : ℕ → ℕ → Walk) (m n q : ℕ) where
  pub walk_start : Walking f m n q 0 q
  unfolding steps
  walk_start = record { high = omega arith; near = omega arith; reached = refl }

  module _ (k p : ℕ) (walking : Walking f m n q k p) (more : k < n) where
    pub walk-next : (r : ℕ) → Ok r ≡ f (k + 1) p → (f (k + 1) p ≡ Ok r → r ≤ p + m) → Walking f m n q (k + 1) r
    walk-next r e far =
        record { high = omega arith; near = omega (arith, far (sym e)); reached = steps-more f k q p walking.reached ∙ sym e }

    pub walk-stops : (r : Refusal) → Err r ≡ f (k + 1) p → Err r ≡ steps f n q
    walk-stops r e =
        let j : k + 1 + (n - (k + 1)) ≡ n = omega arith in
        sym (steps-stay f (k + 1) q r (steps-more f k q p walking.reached ∙ sym e) (n - (k + 1))) ∙ ap (λ (x : ℕ). steps f x q) j

  pub walk-done : (k p : ℕ) → Walking f m n q k p → n ≤ k → Ok p ≡ steps f n q
  walk-done k p walking h = let e : k ≡ n = omega arith in sym walking.reached ∙ ap (λ (x : ℕ). steps f x q) e

-- ---- accepted steps
onward-at : (w : Walk) (f : ℕ → Walk) (r : ℕ) → onward w f ≡ Ok r → (p : ℕ) × (w ≡ Ok p) × (f p ≡ Ok r)
unfolding onward
onward-at (Ok p) f r e = (p, refl, e)
onward-at (Err x) f r e = absurd (let z : ◌≡◌ {A = ℕ} 0 1 = cc in omega arith)

-- from q to r is at most m, and inside the image if q is
pub record Near (m : ℕ) (l : List ℕ) (q r : ℕ) : Type 0 where
  pub near : r ≤ q + m
  pub inside : q ≤ length l → r ≤ length l

-- k accepted steps from q to r: the places are those of `walked`, and each step goes from one to the next
pub record Went (f : ℕ → ℕ → Walk) (next : ℕ → ℕ → ℕ) (m : ℕ) (l : List ℕ) (k q r : ℕ) : Type 0 where
  pub place : r ≡ walked next k q
  pub near : Near (k * m) l q r
  pub each : (j : ℕ) → j < k → f (suc j) (walked next j q) ≡ Ok (walked next (suc j) q)

-- what holds for all j below k, and for k
one_more : (P : ℕ → Type 0) (k : ℕ) → ((j : ℕ) → j < k → P j) → P k → (j : ℕ) → (suc j ≤ k) ⊎ (suc j ≡ suc k) → P j
one_more P k each last j (inl h) = each j h
one_more P k each last j (inr h) = let e : k ≡ j = omega arith in subst P e last

module _ (f : ℕ → ℕ → Walk) (next : ℕ → ℕ → ℕ) (m : ℕ) (l : List ℕ) where
  pub went : ((k q r : ℕ) → f k q ≡ Ok r → (r ≡ next k q) × Near m l q r) → (k q r : ℕ) → steps f k q ≡ Ok r → Went f next m l k q r
  unfolding steps walked
  went one zero q r e =
      let z : q ≡ r = cc in
      record { place = sym z; near = record { near = omega arith; inside = λ h. omega arith }; each = λ j h. absurd (omega arith) }
  went one (suc k) q r e =
      let (p, a, b) = onward-at (steps f k q) (f (suc k)) r e in
      let s : Went f next m l k q p = went one k q p a in
      let t : (r ≡ next (suc k) p) × Near m l p r = one (suc k) p r b in
      let place : r ≡ next (suc k) (walked next k q) = t.0 ∙ ap (next (suc k)) s.place in
      record {
        place = place;
        near = record { near = omega (arith, s.near.near, t.1.near); inside = λ h. t.1.inside (s.near.inside h) };
        each = λ j h.
            one_more (λ (j : ℕ). f (suc j) (walked next j q) ≡ Ok (walked next (suc j) q)) k s.each
            (ap (f (suc k)) (sym s.place) ∙ b ∙ ap Ok place) j (le-suc_iff.0 h);
      }

-- and back: steps that all go on come to the place after them
module _ (f : ℕ → ℕ → Walk) (next : ℕ → ℕ → ℕ) where
  pub steps-go : (k q : ℕ) → ((j : ℕ) → j < k → f (suc j) (walked next j q) ≡ Ok (walked next (suc j) q)) → steps f k q ≡ Ok (walked next k q)
  unfolding steps walked onward
  steps-go zero q each = refl
  steps-go (suc k) q each =
      ap (λ (x : Walk). onward x (f (suc k))) (steps-go k q (λ j h. each j (omega arith))) ∙ each k (omega arith)

-- ---- one channel
-- what an accepted step shows
pub record Stepped (d : ℕ) (l : List ℕ) (u v q r : ℕ) : Type 0 where
  pub place : r ≡ channel_next d l u v q
  pub near : Near 1156 l q r
  pub few : (u ≡ v → ⊥) → field_in l q 4 ≤ 8

pub channel-stepped : (d : ℕ) (l : List ℕ) (u v q r : ℕ) → d ≤ 32 → channel_step d l u v q ≡ Ok r → Stepped d l u v q r
unfolding channel_step
channel-stepped d l u v q r small e =
    go (eqb u v) (ltb (length l) (q + 4)) (ltb 8 c) (ltb (length l) (q + 4 + c * message_width d)) refl refl refl e
  where
    c : ℕ
    c = field_in l q 4

    go : (a b f g : Bool) → eqb u v ≡ a → ltb 8 c ≡ f → ltb (length l) (q + 4 + c * message_width d) ≡ g
        → cond a (Ok q) (cond b (Err BadEnd) (cond f (Err (Fault u v)) (cond g (Err BadEnd) (Ok (q + 4 + c * message_width d))))) ≡ Ok r → Stepped d l u v q r
    go true b f g ea ef eg w =
        let z : q ≡ r = cc in
        record {
          place = sym z ∙ sym (next-same d l u v q ea);
          near = record { near = omega arith; inside = λ h. omega arith };
          few = λ other. absurd (other (eqb-true u v ea));
        }
    go false true f g ea ef eg w = absurd (let z : ◌≡◌ {A = ℕ} 0 1 = cc in omega arith)
    go false false true g ea ef eg w = absurd (let z : ◌≡◌ {A = ℕ} 0 1 = cc in omega arith)
    go false false false true ea ef eg w = absurd (let z : ◌≡◌ {A = ℕ} 0 1 = cc in omega arith)
    go false false false false ea ef eg w =
        let z : q + 4 + c * message_width d ≡ r = cc in
        let wide : c * message_width d ≤ 1152 = messages-small c d (ltb-false 8 c ef) small in
        record {
          place = sym z ∙ sym (next-other d l u v q ea);
          near = record { near = omega arith; inside = λ h. omega (arith, ltb-false (length l) (q + 4 + c * message_width d) eg) };
          few = λ other. ltb-false 8 c ef;
        }
