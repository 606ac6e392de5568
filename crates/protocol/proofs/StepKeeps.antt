-- Each accepted event keeps the invariant (`step_keeps`), and the fresh network has it (`fresh-inv`).
use Prim.Native.Nat.{ℕ, suc, max, ◌≤◌}
use native.Mathlib.Omega.{arith}
use mathlib.Core.Bool.{Bool, true, false}
use mathlib.Core.List.{List, [], ◌∷◌}
use mathlib.Core.Path.{◌≡◌, refl, sym, ap, subst}
use borrow.Author.Tests.{eq-eqb}
use Rattle.basics.specs.Functions.{update}
use Rattle.basics.proofs.AllOf.{none, all_head}
use Rattle.basics.proofs.FunctionsLaws.{update-at, update-off, row_at, row-off, update_self}
use Rattle.basics.proofs.Tests.{clash}
use Rattle.height.specs.Height.{zero_height}
use Rattle.height.specs.declared.Height.{Height}
use Rattle.protocol.specs.Holds.{is_empty}
use Rattle.protocol.specs.Network.{Message, Network, up_to, fresh}
use Rattle.protocol.specs.Rules.{down_rule, receipt_rule}
use Rattle.protocol.specs.Step.{Event, up, down, receive, height_after, sends, Local, carried, local_up}
use Rattle.protocol.specs.Step.{local_down, local_ignored, local_taken, local_receipt, cleared, post, commit, step}
use Rattle.protocol.specs.declared.Rule.TheVariants.{Ignored, ChannelUp}
use Rattle.protocol.specs.declared.Rule.{Rule}
use Rattle.protocol.proofs.Accepted.{Accepted}
use Rattle.protocol.proofs.Invariant.{PostedBy, side_of, Inv, news, LinkAfter, same-all, same-forming, same-updated}
use Rattle.protocol.proofs.Kept.{informed-v, down-silent, Changed, mine, self_n, carried_keeps}
use Rattle.protocol.proofs.LinkLaws.{Half, Link, raised, raise, dropped, drop, drained, ignore, heard, hear}
use Rattle.protocol.proofs.RuleCases.{verdict, to_one, to_none, Kept, Answered, kept-still, answered, kept-down}
use Rattle.protocol.proofs.RuleLaws.{by_cases, not-sink-by-leader, later}
use Rattle.protocol.proofs.Timed.{Timed, left-timed, heard-timed}

-- ---- the events

module _ (n : ℕ) (p : Network) (inv : Inv n p) (timed : Timed p) (u v : ℕ) (other : u ≡ v → ⊥) where
  back : v ≡ u → ⊥
  back q = other (sym q)

  link : Link (side_of p u v) (side_of p v u)
  link = inv.links u v other

  up-keeps : up_to p u v ≡ false → Inv n (step n p (up u v))
  unfolding step local_up carried news drained raised post
  up-keeps free = carried_keeps (up u v) n p inv other (p.neighbors u) (update (p.forming u) v true) (p.height u) changed (suc c) ChannelUp kept at-v
    where
      c : ℕ
      c = p.clock u

      changed : Changed (up u v) n p inv other (p.neighbors u) (update (p.forming u) v true) (p.height u)
      changed = record {
        same = same-forming p u v;
        sender = (inv.nodes u).seen v;
      }

      kept : Kept n (p.neighbors u) (p.height u) u v (suc c) ChannelUp (p.height u u)
      kept =
          kept-still n (p.neighbors u) (p.height u) u v c ChannelUp (timed.heights u u) (inv.nodes u).mine (inv.nodes u).awake
          (to_one refl (λ w b. refl))

      m : Message
      m = record { height = p.height u u; timestamp = suc c }

      at-v : LinkAfter p u (local_up n p u v) p.channel v
      at-v =
          rw (update_self (p.height u) u, update-at (p.forming u) v true, eq-eqb v v refl)
          (raise (side_of p u v) (side_of p v u) m refl free link)

  down-keeps : Inv n (step n p (down u v))
  unfolding step local_down carried news drained dropped post
  down-keeps = carried_keeps e n p inv other N F row changed (suc c) r kept at-v
    where
      e : Event
      e = down u v

      c : ℕ
      c = p.clock u

      N : ℕ → Bool
      N = update (p.neighbors u) v false

      F : ℕ → Bool
      F = update (p.forming u) v false

      row : ℕ → Height
      row = update (p.height u) v zero_height

      r : Rule
      r = down_rule n N row u

      h : Height
      h = height_after n N row u v (suc c) r

      changed : Changed e n p inv other N F row
      changed = record {
        same = same-updated p u v false zero_height;
        sender = λ i. clash i (update-at (p.neighbors u) v false);
      }

      kept : Kept n N row u v (suc c) r h
      kept =
          kept-down n N row u v c (self_n e n p inv other N F row changed)
          (left-timed p timed u v)
          (mine e n p inv other N F row changed)

      at-v : LinkAfter p u (local_down n p u v) (cleared p e) v
      at-v =
          rw (
            update-at row u h,
            update-off row u h v back,
            update-at (p.neighbors u) v false,
            update-at (p.forming u) v false,
            down-silent n u v N row,
            row_at p.channel u (update (p.channel u) v []) v,
            update-at (p.channel u) v [],
            row-off p.channel u (update (p.channel u) v []) v u back,
          )
          (drop (side_of p u v) (side_of p v u) h (row v) link)

  module _ (m : Message) (ms : List Message) (queue : p.channel v u ≡ m ∷ ms) where
    -- the two channels between u and v, the first message taken
    taken-v : cleared p (receive v u) v u ≡ ms
    taken-v = simp (row_at, update-at) (rw queue)

    taken-u : cleared p (receive v u) u v ≡ p.channel u v
    taken-u = simp row-off

    ignored-keeps : up_to p u v ≡ false → Inv n (commit p u (local_ignored n p u v m.timestamp) (cleared p (receive v u)))
    unfolding local_ignored carried news drained post
    ignored-keeps free = carried_keeps (receive v u) n p inv other (p.neighbors u) (p.forming u) (p.height u) changed (suc c) Ignored kept at-v
      where
        c : ℕ
        c = max (p.clock u) m.timestamp

        changed : Changed (receive v u) n p inv other (p.neighbors u) (p.forming u) (p.height u)
        changed = record {
          same = same-all p u v;
          sender = (inv.nodes u).seen v;
        }

        kept : Kept n (p.neighbors u) (p.height u) u v (suc c) Ignored (p.height u u)
        kept =
            kept-still n (p.neighbors u) (p.height u) u v c Ignored (later (p.clock u) c (p.height u u) (omega arith) (timed.heights u u))
            (inv.nodes u).mine (inv.nodes u).awake (to_none refl (λ w b. refl))

        at-v : LinkAfter p u (local_ignored n p u v m.timestamp) (cleared p (receive v u)) v
        at-v = rw (update_self (p.height u) u, taken-u, taken-v) (ignore (side_of p u v) (side_of p v u) m ms queue free link)

    taken-keeps : 1 ≤ v → v ≤ n → up_to p u v ≡ true → Inv n (commit p u (local_taken n p u v m) (cleared p (receive v u)))
    unfolding local_taken carried news drained heard
    taken-keeps low high isup = carried_keeps e n p inv other N F row changed (suc c) r reply.kept at-v
      where
        e : Event
        e = receive v u

        c : ℕ
        c = max (p.clock u) m.timestamp

        N : ℕ → Bool
        N = update (p.neighbors u) v true

        F : ℕ → Bool
        F = update (p.forming u) v false

        row : ℕ → Height
        row = update (p.height u) v m.height

        r : Rule
        r = receipt_rule n N row u v

        h : Height
        h = height_after n N row u v (suc c) r

        first : PostedBy v m
        first = all_head (PostedBy v) m ms (rw queue at (inv.posted v u))

        row-v : row v ≡ m.height
        row-v = update-at (p.height u) v m.height

        row-u : row u ≡ p.height u u
        row-u = update-off (p.height u) v m.height u other

        changed : Changed e n p inv other N F row
        changed = record {
          same = same-updated p u v true m.height;
          sender = λ i. rw row-v first.sender;
        }

        reply : Answered n N row u v (suc c) r h
        reply =
            answered n N row u v c (self_n e n p inv other N F row changed)
            (heard-timed p timed u v m ms queue)
            (mine e n p inv other N F row changed) low high (update-at (p.neighbors u) v true) r (verdict n N row u v)

        at-v : LinkAfter p u (local_taken n p u v m) (cleared p e) v
        at-v =
            rw (
              update-at row u h,
              update-off row u h v back,
              update-at (p.neighbors u) v true,
              update-at (p.forming u) v false,
              row-v,
              taken-u,
              taken-v,
            )
            (hear (side_of p u v) (side_of p v u) m ms (record { height = h; timestamp = suc c }) (sends v r v true) queue isup
            (rw row-u at (informed-v v (row u) h r reply.kept.sending)) (rw row-v at reply.reaches) (λ z. rw row-v at (reply.back z)) link)

  receipt-keeps : 1 ≤ v → v ≤ n → is_empty (p.channel v u) ≡ false → Inv n (step n p (receive v u))
  unfolding step
  receipt-keeps low high some! = go (p.channel v u) refl
    where
      G : Local → Type 0
      G l = Inv n (commit p u l (cleared p (receive v u)))

      go : (q : List Message) → p.channel v u ≡ q → G (local_receipt n p u v (p.channel v u))
      go [] e = clash (rw e) some!
      go (m ∷ ms) e =
          subst G (sym (ap (local_receipt n p u v) e))
          (by_cases G (up_to p u v) (local_taken n p u v m) (local_ignored n p u v m.timestamp)
          (taken-keeps m ms e low high) (ignored-keeps m ms e))

-- ---- every event, and the fresh network

pub step_keeps : (n : ℕ) (p : Network) (e : Event) → Inv n p → Timed p → Accepted n p e → Inv n (step n p e)
step_keeps n p (up u v) inv timed ok = up-keeps n p inv timed u v ok.differ ok.fits
step_keeps n p (down u v) inv timed ok = down-keeps n p inv timed u v ok.differ
step_keeps n p (receive v u) inv timed ok = receipt-keeps n p inv timed u v ok.differ ok.low_v ok.high_v ok.fits

pub fresh-inv : (n : ℕ) → Inv n fresh
fresh-inv n = record {
  nodes = λ u. record {
    awake = not-sink-by-leader n (fresh.neighbors u) (fresh.height u) u (rw (eq-eqb u u refl));
    mine = rw (eq-eqb u u refl);
    seen = λ v i. clash i refl;
    self_n = refl;
    self_f = refl;
  };
  posted = λ u v. none;
  links = λ a b d. record { there = quiet a b; here = quiet b a };
}
  where
    quiet : (a b : ℕ) → Half (side_of fresh a b) (side_of fresh b a)
    quiet a b = record {
      last = λ e. clash e refl;
      idle = λ e. refl;
      apart = λ e. refl;
      known = λ e f g. clash e refl;
      asked = λ e f g h. clash e refl;
    }
