-- What one node knows decides its events: on any two sets of tables that pass the check and agree on u's row and on the cells from u, an
-- event at u that receives the same message, or none, answers the same and leaves that row and those cells the same. So a logger needs no
-- more than its own row, what it has still to send, and the message that it hears. Assumes that every word is one of 32 bits (`Words`).
use Prim.Native.Nat.{ℕ}
use mathlib.Core.Bool.{false}
use mathlib.Core.List.{List, map}
use mathlib.Core.Path.{◌≡◌, sym, ap, fun_ext, ◌∙◌}
use lib.Dec.{eqb}
use borrow.Author.Tests.{eqb-true, eq-eqb, eqb-false}
use Rattle.basics.proofs.Tests.{Choice, yes!, no!, choice}
use Rattle.lent.specs.Check.{check_on}
use Rattle.lent.proofs.SoundTables.{Words}
use Rattle.nodeset.specs.NodeSet.{member}
use Rattle.protocol.specs.Answer.{Said}
use Rattle.protocol.specs.Network.{Node, Message, is_node}
use Rattle.protocol.specs.Refusal.{answer, next}
use Rattle.protocol.specs.Step.{is_receipt, Event, home}
use Rattle.protocol.proofs.Accepted.{home-node, accepts-accepted}
use Rattle.protocol.proofs.Locality.{SameAt, heard, same_answer, same_next}
use Rattle.protocol.proofs.NodeLaws.{is-node}
use Rattle.tables.specs.Cell.{queue, message_words}
use Rattle.tables.specs.Load.{load}
use Rattle.tables.specs.Records.{cell_words}
use Rattle.tables.specs.Row.{clock_in, neighbors_in, forming_in, height_in}
use Rattle.tables.specs.Tables.{Tables, node_of, channel_of}
use Rattle.tables.proofs.Back.{node-of, cell-of}
use Rattle.tables.proofs.RecordsLaws.{network-row}
use Rattle.election.specs.StepOn.{step_at, step_checked, step_on}
use Rattle.election.proofs.CallerLaws.{refused-same, other-rows, other-cells, carried-out}

-- ---- the statement

-- u's row and the cells from u are the same in both
pub record SameOwn (n u : ℕ) (s t : Tables) : Type 0 where
  pub row : node_of n u s.nodes ≡ node_of n u t.nodes
  pub cells : (y : ℕ) → Node n y → channel_of n u y s.channels ≡ channel_of n u y t.channels

-- the message received, if one waits
abbrev pub heard_in : ℕ → Tables → Event → List Message
heard_in n t e = heard (load n t) e

abbrev pub Statement : Type 0
Statement =
    (n : ℕ) (e : Event) (s t : Tables) → Words s → Words t → (check_on n s).number ≡ 0 → (check_on n t).number ≡ 0
    → SameOwn n (home e) s t → heard_in n s e ≡ heard_in n t e
    → ((step_on n e s).said ≡ (step_on n e t).said) × SameOwn n (home e) (step_on n e s).after (step_on n e t).after

-- ---- the loaded networks agree

module _ (n u : ℕ) (s t : Tables) (own : SameOwn n u s t) where
  same_queue : (y : ℕ) → (load n s).channel u y ≡ (load n t).channel u y
  unfolding load
  same_queue y = go (choice (is_node n u)) (choice (is_node n y))
    where
      go : Choice (is_node n u) → Choice (is_node n y) → (load n s).channel u y ≡ (load n t).channel u y
      go (yes! a) (yes! b) = rw (a, b) (ap queue (own.cells y (is-node n y b)))
      go (yes! a) (no! b) = rw (a, b)
      go (no! a) b = rw a

  same_at : SameAt u (load n s) (load n t)
  unfolding load
  same_at = go (choice (is_node n u))
    where
      go : Choice (is_node n u) → SameAt u (load n s) (load n t)
      go (yes! a) = record {
        clock = rw a (ap clock_in own.row);
        neighbors = rw a (ap (λ (ws : List ℕ). member (neighbors_in ws)) own.row);
        forming = rw a (ap (λ (ws : List ℕ). member (forming_in ws)) own.row);
        height = rw a (ap height_in own.row);
        channel = fun_ext same_queue;
      }
      go (no! a) = record { clock = rw a; neighbors = rw a; forming = rw a; height = rw a; channel = fun_ext same_queue }

-- ---- the proof

module _ (n : ℕ) (e : Event) (t : Tables) where
  said-is : (check_on n t).number ≡ 0 → (step_on n e t).said ≡ answer n (load n t) e
  unfolding step_on step_checked step_at
  said-is z = rw (eq-eqb (check_on n t).number 0 z)

module _ (n : ℕ) (e : Event) (s t : Tables) (ws : Words s) (wt : Words t) (own : SameOwn n (home e) s t) (heard! : heard_in n s e ≡ heard_in n t e) where
  carried : (step_on n e s).said.why.number ≡ 0 → (step_on n e t).said.why.number ≡ 0 → SameOwn n (home e) (step_on n e s).after (step_on n e t).after
  carried y z =
      let c = carried-out n e s ws y in
      let d = carried-out n e t wt z in
      let a = home-node n (load n s) e (accepts-accepted n (load n s) e c.accepted) in
      let p = next n (load n s) e in
      let q = next n (load n t) e in
      let same! = same_next n (load n s) (load n t) e (same_at n (home e) s t own) heard! in
      record {
        row =
            ap (λ (x : Tables). node_of n (home e) x.nodes) c.after_is ∙ node-of n p (home e) a
            ∙ network-row n p q (home e) same!.clock same!.neighbors same!.forming same!.height
            ∙ sym (ap (λ (x : Tables). node_of n (home e) x.nodes) d.after_is ∙ node-of n q (home e) a);
        cells = λ w b.
            ap (λ (x : Tables). channel_of n (home e) w x.channels) c.after_is ∙ cell-of n p (home e) w a b
            ∙ ap (λ (f : ℕ → List Message). cell_words (map message_words (f w))) same!.channel
            ∙ sym (ap (λ (x : Tables). channel_of n (home e) w x.channels) d.after_is ∙ cell-of n q (home e) w a b);
      }

pub own_view : Statement
own_view n e s t ws wt ps pt own heard! = (said!, after! (choice (eqb (step_on n e t).said.why.number 0)))
  where
    said! : (step_on n e s).said ≡ (step_on n e t).said
    said! =
        said-is n e s ps ∙ same_answer n (load n s) (load n t) e (same_at n (home e) s t own) heard!
        ∙ sym (said-is n e t pt)

    numbers : (step_on n e s).said.why.number ≡ (step_on n e t).said.why.number
    numbers = ap (λ (x : Said). x.why.number) said!

    after! : Choice (eqb (step_on n e t).said.why.number 0) → SameOwn n (home e) (step_on n e s).after (step_on n e t).after
    after! (yes! i) =
        let z = eqb-true (step_on n e t).said.why.number 0 i in
        carried n e s t ws wt own heard! (numbers ∙ z) z
    after! (no! i) =
        let r = eqb-false (step_on n e t).said.why.number 0 i in
        rw (refused-same n e s ws (λ z. r (sym numbers ∙ z)), refused-same n e t wt r) own

-- ---- such tables are met: no event elsewhere touches u's row, nor, but for a receipt from u, the cells from u; what an accepted one leaves
-- passes the check (`accepted-passes`)

pub elsewhere : (n u : ℕ) (f : Event) (t : Tables) → Words t → Node n u → (u ≡ home f → ⊥) → ((y : ℕ) → is_receipt f u y ≡ false)
    → SameOwn n u (step_on n f t).after t
elsewhere n u f t words a d unheard = record {
  row = other-rows n f t words u a d;
  cells = λ y b. other-cells n f t words u y a b d (unheard y);
}
