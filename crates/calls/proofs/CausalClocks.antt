-- Document 02, [5]: clocks are causal, over every list of events from the fresh network, refused ones among them. An accepted event is later, by the clock, than all
-- before it at its node, and a receipt, ignored or not, than the sending of its message; so whatever happens before an event has a smaller clock.
use Prim.Native.Nat.{ℕ, ◌+◌, ◌<◌}
use native.Mathlib.Omega.{arith}
use mathlib.Core.Bool.{true, false, not}
use mathlib.Core.List.{List, [], ◌∷◌, ◌++◌, map}
use mathlib.Core.Path.{◌≡◌, refl, sym, ap, ◌∙◌}
use lib.ListN.{length, length-map}
use Rattle.basics.specs.Functions.{all}
use Rattle.basics.proofs.AllOf.{AllOf, none, all_head, all_drop, all_snoc, all_weaker}
use Rattle.basics.proofs.Tests.{Choice, yes!, no!, choice}
use Rattle.protocol.specs.Network.{Message, Network}
use Rattle.protocol.specs.Step.{Event, is_down}
use Rattle.calls.specs.Causal.{sendings, unheard, Causal, HappensBefore, at_one_node, sent_to_received, in_a_row}
use Rattle.calls.specs.History.{Entry, History, is_sending, sent_since, received_since, State, grown}
use Rattle.calls.proofs.Good.{Good, good-grown}

-- ---- the statement

pub record CausalClocks (h : History) (p : Network) : Type 0 where
  -- every entry is later than those before it at its node, and a receipt than the one that sent its message
  pub causal : Causal h
  pub ordered : (x y : Entry) → HappensBefore h x y → x.clock < y.clock
  -- as many messages wait by `unheard` as document 01 counts
  pub counts : (u v : ℕ) → length (unheard h u v) + received_since h u v ≡ sent_since h u v
  -- the messages on a channel are those of `unheard`, in this order: their stamps are its clocks
  pub stamps : (u v : ℕ) → map (λ (m : Message). m.timestamp) (p.channel u v) ≡ map (λ (e : Entry). e.clock) (unheard h u v)

abbrev pub Statement : Type 0
Statement = (n : ℕ) (es : List Event) → CausalClocks (grown n es).history (grown n es).network

-- of any history: an entry of `sendings` stands in it, sends on the channel, and no newer entry takes the channel down
pub record SentSince (h : History) (u v : ℕ) (x : Entry) : Type 0 where
  pub newer : History
  pub older : History
  pub stands : h ≡ newer ++ (x ∷ older)
  pub sends : is_sending x u v ≡ true
  pub stays_up : all (λ (e : Entry). not (is_down e.event u v)) newer ≡ true

-- ---- the proof

-- no entry stands twice in a causal history, so an entry names its event
pub named-once : (h : History) → Causal h → (newer between older : History) (x : Entry) → h ≡ newer ++ (x ∷ (between ++ (x ∷ older))) → ⊥
named-once h causal newer between older x e = absurd (omega (arith, (causal newer (between ++ (x ∷ older)) x e).own between older x refl refl))

pub happens-before : (h : History) → Causal h → (x y : Entry) → HappensBefore h x y → x.clock < y.clock
happens-before h causal x y (at_one_node newer between older e s) = (causal newer (between ++ (x ∷ older)) y e).own between older x refl s
happens-before h causal x y (sent_to_received newer older others v u e is first) =
    let sent = (causal newer older y e).received v u is in
    let same : sent.sending ≡ x = cc in
    rw (← same) sent.smaller
happens-before h causal x y (in_a_row {y = z} a b) = omega (arith, happens-before h causal x z a, happens-before h causal z y b)

pub good-causal : (n : ℕ) (s : State) → Good n s → CausalClocks s.history s.network
good-causal n s g = record {
  causal = g.clocked.causal;
  ordered = happens-before s.history g.clocked.causal;
  counts = counts;
  stamps = g.clocked.stamps;
}
  where
    counts : (u v : ℕ) → length (unheard s.history u v) + received_since s.history u v ≡ sent_since s.history u v
    counts u v =
        let same : length (s.network.channel u v) ≡ length (unheard s.history u v) =
        sym (length-map (s.network.channel u v) (λ (m : Message). m.timestamp)) ∙ ap length (g.clocked.stamps u v)
        ∙ length-map (unheard s.history u v) (λ (e : Entry). e.clock) in
        omega (arith, g.told.counts u v)

pub grown-causal : Statement
grown-causal n es = good-causal n (grown n es) (good-grown n es)

-- ---- what `sendings` holds

module _ (u v : ℕ) where
  -- behind an entry that does not take the channel down
  since-older : (e : Entry) (h : History) → is_down e.event u v ≡ false → (x : Entry) → SentSince h u v x → SentSince (e ∷ h) u v x
  unfolding all
  since-older e h i x s = record {
    newer = e ∷ s.newer;
    older = s.older;
    stands = ap (λ (r : History). e ∷ r) s.stands;
    sends = s.sends;
    stays_up = rw i s.stays_up;
  }

  pub all-sent : (h : History) → AllOf (SentSince h u v) (sendings h u v)
  unfolding all
  all-sent [] = none
  all-sent (e ∷ h) = go (all-sent h) (choice (is_down e.event u v)) (choice (is_sending e u v))
    where
      old : is_down e.event u v ≡ false → AllOf (SentSince h u v) (sendings h u v) → AllOf (SentSince (e ∷ h) u v) (sendings h u v)
      old i = all_weaker (SentSince h u v) (SentSince (e ∷ h) u v) (since-older e h i) (sendings h u v)

      go : AllOf (SentSince h u v) (sendings h u v) → Choice (is_down e.event u v) → Choice (is_sending e u v)
          → AllOf (SentSince (e ∷ h) u v) (sendings (e ∷ h) u v)
      go ih (yes! i) j = rw i none
      go ih (no! i) (yes! j) =
          rw (i, j) (all_snoc (SentSince (e ∷ h) u v) (sendings h u v) e (old i ih)
          (record { newer = []; older = h; stands = refl; sends = j; stays_up = refl }))
      go ih (no! i) (no! j) = rw (i, j) (old i ih)

  -- the entry that sent the first message that waits
  pub sender-sent : (h : History) (x : Entry) (others : History) → unheard h u v ≡ x ∷ others → SentSince h u v x
  sender-sent h x others q =
      all_head (SentSince h u v) x others (rw q at (all_drop (SentSince h u v) (received_since h u v) (sendings h u v) (all-sent h)))
