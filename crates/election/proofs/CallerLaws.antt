-- For any tables of 32-bit words (`Words`, which a slice shows of itself): a refused call changes no word, and an event only
-- its node's row, the channels from it and the one received from.
use Prim.Native.Nat.{ℕ}
use mathlib.Core.Bool.{true, false, cond}
use mathlib.Core.List.{List, map, tail}
use mathlib.Core.Path.{◌≡◌, refl, sym, ap, ◌∙◌}
use lib.Dec.{eqb}
use borrow.Author.Tests.{eqb-true, eq-eqb}
use Rattle.basics.proofs.Tests.{clash, Choice, yes!, no!, choice}
use Rattle.lent.specs.Check.{check_on}
use Rattle.lent.proofs.SoundTables.{Words, sound-fits}
use Rattle.nodeset.specs.NodeSet.{set_of}
use Rattle.protocol.specs.Answer.{said_rule, said_refused}
use Rattle.protocol.specs.Network.{Node, Message, Network}
use Rattle.protocol.specs.Refusal.{returned, accepts, answer, next}
use Rattle.protocol.specs.Step.{is_receipt, Event, receive, home, local}
use Rattle.protocol.specs.declared.Rule.TheVariants.{ChannelUp, ElectSelf, StartNewRefLevel, NoChange, Ignored}
use Rattle.protocol.specs.declared.Rule.TheVariants.{ReflectRefLevel, PropagateLargestRefLevel, AdoptLpIfPriority, Reply}
use Rattle.protocol.specs.declared.Rule.{Rule}
use Rattle.protocol.proofs.Accepted.{home-node, peer-node, accepts-accepted}
use Rattle.protocol.proofs.Locality.{other-records, other-channels, received-channel}
use Rattle.refusal.specs.Outcome.{outcome}
use Rattle.tables.specs.Cell.{queue, message_words}
use Rattle.tables.specs.Load.{load, tables_of}
use Rattle.tables.specs.Records.{cell_words}
use Rattle.tables.specs.Tables.{Tables, node_of, channel_of}
use Rattle.tables.specs.inner.Fit.{TablesFit}
use Rattle.tables.proofs.Back.{node-of, cell-of}
use Rattle.tables.proofs.RecordsLaws.{network-row}
use Rattle.tables.proofs.TablesLaws.{load-channel, tables-back}
use Rattle.election.specs.StepOn.{step_at, step_checked, step_on}

rule-accepted : (r : Rule) (s : ℕ) → (said_rule r s).why.number ≡ 0
rule-accepted ChannelUp s = refl
rule-accepted ElectSelf s = refl
rule-accepted StartNewRefLevel s = refl
rule-accepted NoChange s = refl
rule-accepted Ignored s = refl
rule-accepted ReflectRefLevel s = refl
rule-accepted (PropagateLargestRefLevel l) s = refl
rule-accepted (AdoptLpIfPriority v) s = refl
rule-accepted Reply s = refl

module _ (n : ℕ) (e : Event) (t : Tables) (words : Words t) where
  passing : eqb (check_on n t).number 0 ≡ true → TablesFit n t
  passing i = sound-fits n t words (eqb-true (check_on n t).number 0 i)

  -- a law about the tables afterwards holds if it holds where nothing changed, and after the step of the loaded network
  either_way : (P : Tables → Type 0) → P t → (TablesFit n t → P (tables_of n (next n (load n t) e))) → P (step_on n e t).after
  unfolding step_on step_checked step_at
  either_way P same stepped = go (choice (eqb (check_on n t).number 0))
    where
      go : Choice (eqb (check_on n t).number 0)
          → P (cond (eqb (check_on n t).number 0) (outcome (answer n (load n t) e) (tables_of n (next n (load n t) e)))
          (outcome (said_refused (check_on n t)) t)).after
      go (yes! i) = rw i (stepped (passing i))
      go (no! i) = rw i same

  -- ---- a refused call leaves both tables as they were

  pub refused-same : ((step_on n e t).said.why.number ≡ 0 → ⊥) → (step_on n e t).after ≡ t
  unfolding step_on step_checked step_at answer next
  refused-same refused = go (choice (eqb (check_on n t).number 0)) (choice (accepts n (load n t) e)) refused
    where
      p : Network
      p = load n t

      go : Choice (eqb (check_on n t).number 0) → Choice (accepts n (load n t) e)
          → ((step_on n e t).said.why.number ≡ 0 → ⊥) → (step_on n e t).after ≡ t
      go (no! i) a r = rw i
      go (yes! i) (no! a) r = rw (i, a) (tables-back n t (passing i))
      go (yes! i) (yes! a) r = absurd (r (rw (i, a) (rule-accepted (local n p e).rule (set_of n (local n p e).sent))))

  -- ---- no other node's row changes

  pub other-rows : (w : ℕ) → Node n w → (w ≡ home e → ⊥) → node_of n w (step_on n e t).after.nodes ≡ node_of n w t.nodes
  other-rows w a other = either_way (λ (t' : Tables). node_of n w t'.nodes ≡ node_of n w t.nodes) refl λ fit.
      let s = other-records n (load n t) e w other in
      node-of n (next n (load n t) e) w a ∙ network-row n (next n (load n t) e) (load n t) w s.clock s.neighbors s.forming s.height
      ∙ sym (node-of n (load n t) w a)
      ∙ ap (λ (t' : Tables). node_of n w t'.nodes) (tables-back n t fit)

  -- ---- no channel changes but those from the event's node and, on a receipt, the one received from

  pub other-cells : (x y : ℕ) → Node n x → Node n y → (x ≡ home e → ⊥) → is_receipt e x y ≡ false
      → channel_of n x y (step_on n e t).after.channels ≡ channel_of n x y t.channels
  other-cells x y a b other unheard = either_way (λ (t' : Tables). channel_of n x y t'.channels ≡ channel_of n x y t.channels) refl λ fit.
      cell-of n (next n (load n t) e) x y a b ∙ ap (λ (ms : List Message). cell_words (map message_words ms)) (other-channels n (load n t) e x y other unheard)
      ∙ sym (cell-of n (load n t) x y a b) ∙ ap (λ (t' : Tables). channel_of n x y t'.channels) (tables-back n t fit)

  -- ---- an accepted call: the tables passed, and the loaded network accepts the event

  pub record Carried : Type 0 where
    pub passes : (check_on n t).number ≡ 0
    pub accepted : accepts n (load n t) e ≡ true
    pub after_is : (step_on n e t).after ≡ tables_of n (next n (load n t) e)

  pub carried-out : (step_on n e t).said.why.number ≡ 0 → Carried
  unfolding step_on step_checked step_at answer accepts
  carried-out zero! = go (choice (eqb (check_on n t).number 0)) (choice (eqb (returned n (load n t) e) 0))
    where
      go : Choice (eqb (check_on n t).number 0) → Choice (eqb (returned n (load n t) e) 0) → Carried
      go (yes! i) (yes! a) =
          record { passes = eqb-true (check_on n t).number 0 i; accepted = a; after_is = rw i }
      go (no! i) a = clash (eq-eqb (check_on n t).number 0 (rw i at zero!)) i
      go (yes! i) (no! a) = clash (eq-eqb (returned n (load n t) e) 0 (rw (i, a) at zero!)) a

-- of the channel received from, an accepted receipt takes the first message and no more
pub received-cell : (n u v : ℕ) (t : Tables) → Words t → (step_on n (receive v u) t).said.why.number ≡ 0
    → channel_of n v u (step_on n (receive v u) t).after.channels ≡ cell_words (map message_words (tail (queue (channel_of n v u t.channels))))
received-cell n u v t words zero! =
    let c = carried-out n (receive v u) t words zero! in
    let ok = accepts-accepted n (load n t) (receive v u) c.accepted in
    let a = home-node n (load n t) (receive v u) ok in
    let b = peer-node n (load n t) (receive v u) ok in
    ap (λ (t' : Tables). channel_of n v u t'.channels) c.after_is
    ∙ cell-of n (next n (load n t) (receive v u)) v u b a
    ∙ ap (λ (ms : List Message). cell_words (map message_words ms)) (received-channel n (load n t) u v (λ q. ok.differ (sym q)) c.accepted ∙ ap tail (load-channel n t v b u a))
