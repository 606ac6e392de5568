-- Each accepted event keeps a network sound, by facts (`step_fits`).
-- Assumes that the network is so before the event (Soundness.antt); that it is grown from the fresh one is not needed.
use Prim.Native.Nat.{ℕ, suc, max, ◌<◌, ◌≤◌}
use mathlib.Core.Bool.{Bool, true, false, ◌||◌, or-true}
use mathlib.Core.List.{List, [], ◌∷◌}
use mathlib.Core.Logic.{◌⊎◌, inl, inr}
use mathlib.Core.Path.{◌≡◌, refl, sym, ap, subst, ◌∙◌}
use lib.ListN.{length}
use borrow.Author.Tests.{eq-eqb, ltb-true}
use Rattle.basics.specs.Functions.{every, update}
use Rattle.basics.proofs.AllOf.{all_head}
use Rattle.basics.proofs.FunctionsLaws.{every-at, update-at, update-off, cell_at, update_all}
use Rattle.basics.proofs.Tests.{clash, SameOrNot, equal?}
use Rattle.height.specs.Clock.{last_time}
use Rattle.height.specs.Height.{zero_height}
use Rattle.height.specs.declared.Height.{Height}
use Rattle.protocol.specs.Holds.{is_empty}
use Rattle.protocol.specs.Network.{Node, Message, Network, up_to}
use Rattle.protocol.specs.Refusal.{too_deep, has_room}
use Rattle.protocol.specs.Rules.{down_rule, receipt_rule}
use Rattle.protocol.specs.Step.{Event, up, down, receive, home, peer, height_after, sends, Local, carried, local_up}
use Rattle.protocol.specs.Step.{local_down, local_ignored, local_taken, local_receipt, local, cleared, commit, step}
use Rattle.protocol.specs.declared.Rule.TheVariants.{Ignored, ChannelUp}
use Rattle.protocol.specs.declared.Rule.{Rule}
use Rattle.protocol.proofs.Accepted.{Accepted, home-node, peer-node}
use Rattle.protocol.proofs.Channels.{cleared-is, cleared-nil}
use Rattle.protocol.proofs.Invariant.{SameBut, same-all, same-forming, same-updated}
use Rattle.protocol.proofs.Kept.{down-silent}
use Rattle.protocol.proofs.Ranges.{HeightFits}
use Rattle.protocol.proofs.RangesAfter.{fits-receipt, fits-down}
use Rattle.protocol.proofs.RuleCases.{verdict}
use Rattle.protocol.proofs.RuleLaws.{by_cases}
use Rattle.protocol.proofs.Soundness.{Ranged, MessageFits, Fits, commit-fits, sends-in, sends-down, either}

-- l at u is within the ranges if the tests for clock, depth and room pass
abbrev FitsIf : ℕ → Network → ℕ → Local → (ℕ → ℕ → List Message) → Type 0
FitsIf n p u l ch =
    l.clock ≤ last_time → too_deep l.rule (l.row u).delta ≡ false → every n (has_room l (ch u)) ≡ true → Fits n (commit p u l ch)

module _ (n : ℕ) (p : Network) (fits : Fits n p) (u v : ℕ) (su : Node n u) (sv : Node n v) (other : u ≡ v → ⊥) where
  old : Ranged n u (p.clock u) (p.neighbors u) (p.forming u) (p.height u)
  old = fits.nodes u

  -- u's sets and heights before the rule
  record Changed (N F : ℕ → Bool) (row : ℕ → Height) : Type 0 where
    same : SameBut p u v N F row
    view : N v ≡ true → HeightFits n v (row v)
    blank : N v ≡ false → row v ≡ zero_height
    apart : N v ≡ true → F v ≡ false

  module _ (N F : ℕ → Bool) (row : ℕ → Height) (k : Changed N F row) where
    views : (w : ℕ) → N w ≡ true → HeightFits n w (row w)
    views w i = go (equal? w v)
      where
        go : SameOrNot w v → HeightFits n w (row w)
        go (inl e) = rw e (k.view (rw e at i))
        go (inr d) = rw (k.same.same_h w d) (old.views w (rw (k.same.same_n w d) at i))

    blanks : (w : ℕ) → (w ≡ u → ⊥) → N w ≡ false → row w ≡ zero_height
    blanks w d i = go (equal? w v)
      where
        go : SameOrNot w v → row w ≡ zero_height
        go (inl e) = rw e (k.blank (rw e at i))
        go (inr f) = k.same.same_h w f ∙ old.blank w d (rw (k.same.same_n w f) at i)

    in_n : (w : ℕ) → N w ≡ true → Node n w
    in_n w i = go (equal? w v)
      where
        go : SameOrNot w v → Node n w
        go (inl e) = rw e sv
        go (inr d) = old.in_n w (rw (k.same.same_n w d) at i)

    in_f : (w : ℕ) → F w ≡ true → Node n w
    in_f w i = go (equal? w v)
      where
        go : SameOrNot w v → Node n w
        go (inl e) = rw e sv
        go (inr d) = old.in_f w (rw (k.same.same_f w d) at i)

    aparts : (w : ℕ) → N w ≡ true → F w ≡ false
    aparts w i = go (equal? w v)
      where
        go : SameOrNot w v → F w ≡ false
        go (inl e) = rw e (k.apart (rw e at i))
        go (inr d) = k.same.same_f w d ∙ old.apart w (rw (k.same.same_n w d) at i)

    self_n : N u ≡ false
    self_n = k.same.same_n u other ∙ old.self_n

    self_f : F u ≡ false
    self_f = k.same.same_f u other ∙ old.self_f

    -- what is left to show of a rule: nothing in the channel to v if that is down, and the height that it leaves
    carried-fits : (e : Event) (t : ℕ) (r : Rule)
        → ((N v || F v) ≡ false → (cleared p e u v ≡ []) × (sends v r v false ≡ false))
        → (t ≤ last_time → too_deep r (height_after n N row u v t r).delta ≡ false → HeightFits n u (height_after n N row u v t r))
        → FitsIf n p u (carried n N F row u v t r) (cleared p e)
    unfolding carried has_room
    carried-fits e t r quiet height intime shallow spacious =
        commit-fits n p u l ch fits ranged su (cleared-is p e) space (λ b h. still b h (equal? b v))
      where
        l : Local
        l = carried n N F row u v t r

        ch : ℕ → ℕ → List Message
        ch = cleared p e

        h : Height
        h = height_after n N row u v t r

        ranged : Ranged n u t N F (update row u h)
        ranged = record {
          clock-le = intime;
          own = λ _. rw (update-at row u h) (height intime (rw (update-at row u h) at shallow));
          views = update_all (λ a x. N a ≡ true → HeightFits n a x) row u h (λ i. clash i self_n) (λ a d i. views a i);
          blank = update_all (λ a x. (a ≡ u → ⊥) → N a ≡ false → x ≡ zero_height) row u h (λ d i. absurd (d refl)) (λ a d e i. blanks a d i);
          in_n = in_n;
          in_f = in_f;
          self_n = self_n;
          self_f = self_f;
          apart = aparts;
          outside = λ d. absurd (d su);
        }

        target : (b : ℕ) → (N b || F b) ≡ true ⊎ (b ≡ v) → Node n b
        target b (inl i) = either (N b) (F b) i (in_n b) (in_f b)
        target b (inr i) = rw i sv

        space : (b : ℕ) → l.sent b ≡ true → length (ch u b) < 8
        space b i =
            let s = target b (sends-in v r b (N b || F b) i) in
            ltb-true (length (ch u b)) 8 (rw i at (every-at n (has_room l (ch u)) spacious b s.low s.high))

        still : (b : ℕ) → (N b || F b) ≡ false → SameOrNot b v → (ch u b ≡ []) × (l.sent b ≡ false)
        still b i (inl q) = let z = quiet (rw q at i) in (rw q z.0, rw (i, q) z.1)
        still b i (inr d) =
            let old : up_to p u b ≡ false = rw (k.same.same_n b d, k.same.same_f b d) at i in
            (cleared-nil (p.channel u b) (ch u b) (cleared-is p e u b) (fits.idle u b old), rw i (sends-down v r b d))

  back : v ≡ u → ⊥
  back q = other (sym q)

  up_fits : up_to p u v ≡ false → FitsIf n p u (local_up n p u v) p.channel
  unfolding local_up
  up_fits free =
      carried-fits (p.neighbors u) F (p.height u) changed (up u v) (suc (p.clock u)) ChannelUp
      (λ i. clash isup i) (λ a b. old.own su)
    where
      F : ℕ → Bool
      F = update (p.forming u) v true

      isup : (p.neighbors u v || F v) ≡ true
      isup = rw (update-at (p.forming u) v true) (or-true (p.neighbors u v))

      changed : Changed (p.neighbors u) F (p.height u)
      changed = record {
        same = same-forming p u v;
        view = old.views v;
        blank = old.blank v back;
        apart = λ i. clash (rw i) free;
      }

  ignored-fits : (m : Message) → FitsIf n p u (local_ignored n p u v m.timestamp) (cleared p (receive v u))
  unfolding local_ignored
  ignored-fits m =
      carried-fits (p.neighbors u) (p.forming u) (p.height u) changed (receive v u) (suc (max (p.clock u) m.timestamp)) Ignored
      (λ i. (cleared-nil (p.channel u v) _ (cleared-is p (receive v u) u v) (fits.idle u v i), refl)) (λ a b. old.own su)
    where
      changed : Changed (p.neighbors u) (p.forming u) (p.height u)
      changed = record { same = same-all p u v; view = old.views v; blank = old.blank v back; apart = old.apart v }

  down_fits : FitsIf n p u (local_down n p u v) (cleared p (down u v))
  unfolding local_down
  down_fits =
      carried-fits N F row changed (down u v) (suc (p.clock u)) (down_rule n N row u)
      (λ i. (cell_at p.channel u v [] u v (rw (eq-eqb u u refl, eq-eqb v v refl)), down-silent n u v N row))
      (λ intime b. fits-down n N row u v (p.clock u) su own intime)
    where
      N : ℕ → Bool
      N = update (p.neighbors u) v false

      F : ℕ → Bool
      F = update (p.forming u) v false

      row : ℕ → Height
      row = update (p.height u) v zero_height

      changed : Changed N F row
      changed = record {
        same = same-updated p u v false zero_height;
        view = λ i. clash i (update-at (p.neighbors u) v false);
        blank = λ i. update-at (p.height u) v zero_height;
        apart = λ i. update-at (p.forming u) v false;
      }

      own : HeightFits n u (row u)
      own = rw (update-off (p.height u) v zero_height u other) (old.own su)

  taken-fits : (m : Message) → HeightFits n v m.height → FitsIf n p u (local_taken n p u v m) (cleared p (receive v u))
  unfolding local_taken
  taken-fits m hm =
      carried-fits N F row changed (receive v u) (suc c) (receipt_rule n N row u v) (λ i. clash (rw isup) i)
      (λ intime shallow.
      fits-receipt n N row u v c su own intime isup (views N F row changed) (receipt_rule n N row u v) (verdict n N row u v) shallow)
    where
      c : ℕ
      c = max (p.clock u) m.timestamp

      N : ℕ → Bool
      N = update (p.neighbors u) v true

      F : ℕ → Bool
      F = update (p.forming u) v false

      row : ℕ → Height
      row = update (p.height u) v m.height

      isup : N v ≡ true
      isup = update-at (p.neighbors u) v true

      changed : Changed N F row
      changed = record {
        same = same-updated p u v true m.height;
        view = λ i. rw (update-at (p.height u) v m.height) hm;
        blank = λ i. clash isup i;
        apart = λ i. update-at (p.forming u) v false;
      }

      own : HeightFits n u (row u)
      own = rw (update-off (p.height u) v m.height u other) (old.own su)

  receipt-fits : is_empty (p.channel v u) ≡ false → FitsIf n p u (local_receipt n p u v (p.channel v u)) (cleared p (receive v u))
  receipt-fits some! = go (p.channel v u) refl
    where
      G : Local → Type 0
      G l = FitsIf n p u l (cleared p (receive v u))

      go : (q : List Message) → p.channel v u ≡ q → G (local_receipt n p u v (p.channel v u))
      go [] e = clash (rw e) some!
      go (m ∷ ms) e =
          subst G (sym (ap (local_receipt n p u v) e))
          (by_cases G (up_to p u v) (local_taken n p u v m) (local_ignored n p u v m.timestamp)
          (λ i. taken-fits m (all_head (MessageFits n v) m ms (rw e at (fits.messages v u))).height) (λ i. ignored-fits m))

pub step_fits : (n : ℕ) (p : Network) (e : Event) → Fits n p → Accepted n p e → Fits n (step n p e)
unfolding step
step_fits n p e fits ok = go e ok (home-node n p e ok) (peer-node n p e ok) ok.intime ok.shallow ok.spacious
  where
    go : (e : Event) → Accepted n p e → Node n (home e) → Node n (peer e) → FitsIf n p (home e) (local n p e) (cleared p e)
    go (up u v) ok su sv = up_fits n p fits u v su sv ok.differ ok.fits
    go (down u v) ok su sv = down_fits n p fits u v su sv ok.differ
    go (receive v u) ok su sv = receipt-fits n p fits u v su sv ok.differ ok.fits
