-- What a caller may rely on: each of the four ways that a call goes, and when; that the text is exactly as long as `list_length` says.
use Prim.Native.Nat.{ℕ, ◌≤◌, ◌<◌}
use mathlib.Core.Bool.{false, ◌&&◌}
use mathlib.Core.List.{List, ◌++◌}
use mathlib.Core.Path.{◌≡◌, refl, sym, subst}
use borrow.Author.Tests.{le-leb, leb-true, leb-false}
use lib.Dec.{leb}
use lib.ListN.{length, drop}
use Rattle.basics.proofs.Tests.{clash, Choice, yes!, no!, choice, and_both}
use Rattle.enumeration.specs.Histories.{histories}
use Rattle.enumeration.specs.Texts.{list_text}
use Rattle.protocol.specs.Network.{fresh}
use Rattle.refusal.specs.Outcome.{Answered, Outcome, accepted, outcome, refused_with}
use Rattle.refusal.specs.Refusal.{why}
use Rattle.histories.specs.declared.Extent.{Extent}
use Rattle.histories.specs.ListOn.{is_plot, is_short, list_on, list_length}
use Rattle.histories.proofs.ListLaws.{plot-nodes, short-size, sizes-done, large-done, no-room-done, front-done, length-is}

-- 1 outside 1 to 16, whatever the length; 19 above 3 nodes or 5 events; 14 where the whole text does not fit; else the text
pub data Way (n k : ℕ) (out : List ℕ) : Outcome (Answered Extent) (List ℕ) → Type 0 where
  sizes : (1 ≤ n → n ≤ 16 → ⊥) → Way n k out (outcome (refused_with (record { bytes = 0; histories = 0 }) (why 1 0 0)) out)
  large : 1 ≤ n → n ≤ 16 → (n ≤ 3 → k ≤ 5 → ⊥) → Way n k out (outcome (refused_with (record { bytes = 0; histories = 0 }) (why 19 0 0)) out)
  no_room : 1 ≤ n → n ≤ 3 → k ≤ 5 → length out < list_length n k → Way n k out (outcome (refused_with (record { bytes = 0; histories = 0 }) (why 14 0 0)) out)
  done : 1 ≤ n → n ≤ 3 → k ≤ 5 → list_length n k ≤ length out
      → Way n k out (outcome (accepted (record { bytes = list_length n k; histories = length (histories n k fresh) }))
      (list_text n (histories n k fresh) ++ drop (list_length n k) out))

neither : (a b x y : ℕ) → (leb a x && leb y b) ≡ false → a ≤ x → y ≤ b → ⊥
neither a b x y e h i = clash (and_both (le-leb a x h) (le-leb y b i)) e

module _ (n k : ℕ) (out : List ℕ) where
  pub way : Way n k out (list_on n k out)
  way = go (choice (is_plot n)) (choice (is_short n k)) (choice (leb (list_length n k) (length out)))
    where
      go : Choice (is_plot n) → Choice (is_short n k) → Choice (leb (list_length n k) (length out)) → Way n k out (list_on n k out)
      go (no! a) b c = subst (Way n k out) (sizes-done n k out a) (sizes (neither 1 16 n n a))
      go (yes! a) (no! b) c = subst (Way n k out) (large-done n k out a b) (large (plot-nodes n a).0 (plot-nodes n a).1 (neither n 5 3 k b))
      go (yes! a) (yes! b) (no! c) =
          let short = short-size n k b in
          let h = leb-false (list_length n k) (length out) c in
          subst (Way n k out) (no-room-done n k out a b (sym (length-is n k a b)) h) (no_room (plot-nodes n a).0 short.0 short.1 h)
      go (yes! a) (yes! b) (yes! c) =
          let short = short-size n k b in
          let h = leb-true (list_length n k) (length out) c in
          subst (Way n k out) (front-done n k out a b h) (done (plot-nodes n a).0 short.0 short.1 h)

  -- a refused call leaves the bytes as they were
  left : (o : Outcome (Answered Extent) (List ℕ)) → Way n k out o → (o.said.why.number ≡ 0 → ⊥) → o.after ≡ out
  left o (sizes a) d = refl
  left o (large a b c) d = refl
  left o (no_room a b c e) d = refl
  left o (done a b c e) d = absurd (d refl)

  pub refused-leaves : ((list_on n k out).said.why.number ≡ 0 → ⊥) → (list_on n k out).after ≡ out
  refused-leaves d = left (list_on n k out) way d
