-- Two nodes and the two channels between them (`Link`): what each kind of event at one of them does to their agreement.
-- Assumes of the event what its rule guarantees (RuleLaws.antt), as parameters.
use Prim.Native.Nat.{ℕ}
use native.Mathlib.Omega.{arith}
use mathlib.Core.Bool.{Bool, true, false, ◌||◌, or-true}
use mathlib.Core.List.{List, [], ◌∷◌, ◌++◌}
use mathlib.Core.Path.{◌≡◌, refl, sym, ◌∙◌}
use Rattle.basics.proofs.Tests.{clash}
use Rattle.height.specs.declared.Height.{Height}
use Rattle.protocol.specs.Network.{Message}
use Rattle.protocol.specs.Step.{post}
use Rattle.protocol.proofs.RuleLaws.{PairLe, PairLe-trans}

-- one node's side of a link: what it holds of the other, its own height, and the channel to the other
pub record Side : Type 0 where
  pub neighbors : Bool
  pub forming : Bool
  pub own : Height
  pub view : Height
  pub outgoing : List Message

abbrev pub is_up : Side → Bool
is_up s = s.neighbors || s.forming

-- the newest height on a channel; x where there is none
abbrev pub newest : Height → List Message → Height
newest x [] = x
newest x (m ∷ ms) = newest m.height ms

-- last: the newest message that waits holds the sender's own height; idle: no message waits on a channel that is down
-- known, asked: where no message waits, what s knows of t
pub record Half (s t : Side) : Type 0 where
  pub last : is_up s ≡ true → newest s.own s.outgoing ≡ s.own
  pub idle : is_up s ≡ false → s.outgoing ≡ []
  pub apart : s.neighbors ≡ true → s.forming ≡ false
  pub known : s.neighbors ≡ true → is_up t ≡ true → t.outgoing ≡ [] → (s.view ≡ t.own) × PairLe s.own t.own
  pub asked : s.forming ≡ true → is_up t ≡ true → t.outgoing ≡ [] → s.outgoing ≡ [] → PairLe s.own t.own × PairLe t.own s.own

pub record Link (s t : Side) : Type 0 where
  pub there : Half s t
  pub here : Half t s

pub flip : (s t : Side) → Link s t → Link t s
flip s t k = record { there = k.here; here = k.there }

newest-post : (x : Height) (ms : List Message) (m : Message) → newest x (ms ++ (m ∷ [])) ≡ m.height
newest-post x [] m = refl
newest-post x (k ∷ ms) m = newest-post k.height ms m

newest-tail : (x y : Height) (ms : List Message) → newest x ms ≡ y → newest y ms ≡ y
newest-tail x y [] e = refl
newest-tail x y (m ∷ ms) e = e

cons-not-nil : {X : Type 0} (ms : List Message) (m : Message) → m ∷ ms ≡ [] → X
cons-not-nil ms m e = let z : ◌≡◌ {A = ℕ} 0 1 = cc in absurd (omega arith)

post-not-nil : {X : Type 0} (ms : List Message) (m : Message) → ms ++ (m ∷ []) ≡ [] → X
post-not-nil [] m e = cons-not-nil [] m e
post-not-nil (k ∷ ms) m e = cons-not-nil (ms ++ (m ∷ [])) k e

-- whether a height h is sent, by b, and what is known where it is not
pub data Informed (old h : Height) (b up : Bool) : Type 0 where
  tells : b ≡ up → Informed old h b up
  silent : b ≡ false → h ≡ old → Informed old h b up

-- ---- an event at s's node that does not concern t

unfoldable pub spoken : Side → Height → List Message → Side
spoken s h ms = record { neighbors = s.neighbors; forming = s.forming; own = h; view = s.view; outgoing = ms }

-- the height has been sent: t has heard nothing yet
sent : (s t : Side) (m : Message) → PairLe m.height s.own → is_up s ≡ true → Link s t → Link (spoken s m.height (s.outgoing ++ (m ∷ []))) t
unfolding spoken
sent s t m falls up k = record {
  there = record {
    last = λ _. newest-post m.height s.outgoing m;
    idle = λ d. clash up d;
    apart = k.there.apart;
    known = λ l u e. let z = k.there.known l u e in (z.0, PairLe-trans m.height s.own t.own falls z.1);
    asked = λ f u e d. post-not-nil s.outgoing m d;
  };
  here = record {
    last = k.here.last;
    idle = k.here.idle;
    apart = k.here.apart;
    known = λ l u e. post-not-nil s.outgoing m e;
    asked = λ f u e d. post-not-nil s.outgoing m e;
  };
}

-- s is down: nothing is claimed of it
unsent : (s t : Side) (h : Height) → is_up s ≡ false → Link s t → Link (spoken s h s.outgoing) t
unfolding spoken
unsent s t h down k = record {
  there = record {
    last = λ u. clash u down;
    idle = k.there.idle;
    apart = k.there.apart;
    known = λ l u e. clash (rw l) down;
    asked = λ f u e d. clash (rw f (or-true s.neighbors)) down;
  };
  here = record {
    last = k.here.last;
    idle = k.here.idle;
    apart = k.here.apart;
    known = λ l u e. clash u down;
    asked = λ f u e d. clash u down;
  };
}

pub speak : (s t : Side) (m : Message) (b : Bool) → PairLe m.height s.own → Informed s.own m.height b (is_up s)
    → Link s t → Link (spoken s m.height (post b m s.outgoing)) t
unfolding spoken post
speak s t m true falls (tells e) k = sent s t m falls (sym e) k
speak s t m false falls (tells e) k = unsent s t m.height (sym e) k
speak s t m true falls (silent e d) k = clash refl e
speak s t m false falls (silent e d) k = rw d k

-- ---- up, down

unfoldable pub raised : Side → Message → Side
raised s m = record { neighbors = s.neighbors; forming = true; own = s.own; view = s.view; outgoing = post true m s.outgoing }

-- s comes up, and sends its height
pub raise : (s t : Side) (m : Message) → m.height ≡ s.own → is_up s ≡ false → Link s t → Link (raised s m) t
unfolding raised post
raise s t m e down k = record {
  there = record {
    last = λ u. newest-post s.own s.outgoing m ∙ e;
    idle = λ d. clash (or-true s.neighbors) d;
    apart = λ l. clash (rw l) down;
    known = λ l u d. clash (rw l) down;
    asked = λ f u d c. post-not-nil s.outgoing m c;
  };
  here = record {
    last = k.here.last;
    idle = k.here.idle;
    apart = k.here.apart;
    known = λ l u d. post-not-nil s.outgoing m d;
    asked = λ f u d c. post-not-nil s.outgoing m d;
  };
}

unfoldable pub dropped : Height → Height → Side
dropped h view = record { neighbors = false; forming = false; own = h; view = view; outgoing = [] }

-- s goes down
pub drop : (s t : Side) (h view : Height) → Link s t → Link (dropped h view) t
unfolding dropped
drop s t h view k = record {
  there = record {
    last = λ u. clash u refl;
    idle = λ d. refl;
    apart = λ l. refl;
    known = λ l u d. clash l refl;
    asked = λ f u d c. clash f refl;
  };
  here = record {
    last = k.here.last;
    idle = k.here.idle;
    apart = k.here.apart;
    known = λ l u d. clash u refl;
    asked = λ f u d c. clash u refl;
  };
}

-- ---- a receipt at s's node from t's

unfoldable pub drained : Side → List Message → Side
drained t ms = record { neighbors = t.neighbors; forming = t.forming; own = t.own; view = t.view; outgoing = ms }

-- s is down: the message is lost
pub ignore : (s t : Side) (m : Message) (ms : List Message) → t.outgoing ≡ m ∷ ms → is_up s ≡ false → Link s t → Link s (drained t ms)
unfolding drained
ignore s t m ms q down k = record {
  there = record {
    last = k.there.last;
    idle = k.there.idle;
    apart = k.there.apart;
    known = λ l u d. clash (rw l) down;
    asked = λ f u d c. clash (rw f (or-true s.neighbors)) down;
  };
  here = record {
    last = λ u. newest-tail m.height t.own ms (rw q at (k.here.last u));
    idle = λ d. cons-not-nil ms m (sym q ∙ k.here.idle d);
    apart = k.here.apart;
    known = λ l u d. clash u down;
    asked = λ f u d c. clash u down;
  };
}

unfoldable pub heard : Height → Height → List Message → Side
heard h view ms = record { neighbors = true; forming = false; own = h; view = view; outgoing = ms }

-- m has come from t and a is sent back if b
pub hear : (s t : Side) (m : Message) (ms : List Message) (a : Message) (b : Bool)
    → t.outgoing ≡ m ∷ ms → is_up s ≡ true → Informed s.own a.height b true
    → PairLe a.height m.height → (b ≡ false → PairLe m.height a.height)
    → Link s t → Link (heard a.height m.height (post b a s.outgoing)) (drained t ms)
unfolding heard drained post
hear s t m ms a b q up informed reaches back k = record {
  there = record {
    last = λ _. last-informed b informed;
    idle = λ d. clash refl d;
    apart = λ l. refl;
    known = λ l u d. (at-end u d, rw (at-end u d) at reaches);
    asked = λ f u d c. clash f refl;
  };
  here = record {
    last = λ u. newest-tail m.height t.own ms (rw q at (k.here.last u));
    idle = λ d. cons-not-nil ms m (sym q ∙ k.here.idle d);
    apart = k.here.apart;
    known = λ l u d. let z = unanswered b informed d in rw z.1 (k.here.known l up z.2);
    asked = λ f u d c. let e = at-end (rw f (or-true t.neighbors)) c in (rw e at (back (unanswered b informed d).0), rw e at reaches);
  };
}
  where
    at-end : is_up t ≡ true → ms ≡ [] → m.height ≡ t.own
    at-end u d = rw (q, d) at (k.here.last u)

    last-informed : (b : Bool) → Informed s.own a.height b true → newest a.height (post b a s.outgoing) ≡ a.height
    last-informed true t = newest-post a.height s.outgoing a
    last-informed false (tells e) = clash e refl
    last-informed false (silent e d) = rw d (k.there.last up)

    unanswered : (b : Bool) → Informed s.own a.height b true → post b a s.outgoing ≡ [] → (b ≡ false) × (a.height ≡ s.own) × (s.outgoing ≡ [])
    unanswered true t e = post-not-nil s.outgoing a e
    unanswered false (tells d) e = clash d refl
    unanswered false (silent x d) e = (refl, d, e)
