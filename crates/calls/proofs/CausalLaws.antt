-- Clocks and stamps by the history, event by event: an entry's clock is at most its node's, what waits on a channel is stamped with the clocks of the entries
-- that sent it, one by one, and every entry is later than those before it. Assumes that the network is sound, by facts (Soundness.antt).
use Prim.Native.Nat.{ℕ, zero, suc, ◌+◌, ◌≤◌, ◌<◌}
use native.Mathlib.Omega.{arith}
use mathlib.Core.Bool.{true, false, ◌&&◌, and-false}
use mathlib.Core.List.{List, [], ◌∷◌, ◌++◌, tail, map}
use mathlib.Core.Logic.{inl, inr}
use mathlib.Core.Path.{◌≡◌, refl, sym, ap, subst, ◌∙◌}
use lib.Dec.{eqb}
use lib.ListN.{length, drop, length-append}
use lib.Seq.{drop-append-le}
use borrow.Author.Tests.{eqb-true}
use Rattle.basics.proofs.FunctionsLaws.{update-at, update-off}
use Rattle.basics.proofs.Tests.{clash, and_left, Choice, yes!, no!, choice, SameOrNot, equal?, both_equal}
use Rattle.nodeset.specs.NodeSet.{digit}
use Rattle.protocol.specs.Holds.{is_empty}
use Rattle.protocol.specs.Network.{Message, Network, fresh}
use Rattle.protocol.specs.Refusal.{accepts, answer}
use Rattle.protocol.specs.Step.{is_down, is_receipt, Event, up, down, receive, home, peer, Local, local, cleared, post, commit, step}
use Rattle.protocol.proofs.Accepted.{Accepted}
use Rattle.protocol.proofs.Channels.{cleared-down, cleared-receipt, cleared-off}
use Rattle.protocol.proofs.ClockMoves.{moves-on, past-the-stamp}
use Rattle.protocol.proofs.Soundness.{Fits}
use Rattle.calls.specs.Causal.{sendings, unheard, SentBefore, Later, Causal}
use Rattle.calls.specs.History.{Entry, History, entry, is_sending, sent_since, received_since, Told}
use Rattle.calls.proofs.HistoryLaws.{sent_by, channel-after, down-sends}
use Rattle.calls.proofs.SentSet.{sent-member, answer-sent}

abbrev pub stamp : Message → ℕ
stamp m = m.timestamp

abbrev pub clock_of : Entry → ℕ
clock_of e = e.clock

pub record Clocked (h : History) (p : Network) : Type 0 where
  pub within : (newer older : History) (x : Entry) → h ≡ newer ++ (x ∷ older) → x.clock ≤ p.clock (home x.event)
  pub stamps : (u v : ℕ) → map stamp (p.channel u v) ≡ map clock_of (unheard h u v)
  pub causal : Causal h

-- nothing stands in an empty history
pub no-split : (newer older : History) (x : Entry) → (◌≡◌ {A = History} [] (newer ++ (x ∷ older))) → ⊥
no-split [] older x q = let z : ◌≡◌ {A = ℕ} 0 1 = cc in absurd (omega arith)
no-split (y ∷ newer) older x q = let z : ◌≡◌ {A = ℕ} 0 1 = cc in absurd (omega arith)

pub clocked-started : Clocked [] fresh
clocked-started = record {
  within = λ newer older x q. absurd (no-split newer older x q);
  stamps = λ u v. refl;
  causal = λ newer older e q. absurd (no-split newer older e q);
}

-- ---- one entry more

module _ (h : History) (x : Entry) where
  -- what holds of it and of every older one holds of all
  all-entries : (P : History → Entry → Type 0) → P h x → ((newer older : History) (e : Entry) → h ≡ newer ++ (e ∷ older) → P older e)
      → (newer older : History) (e : Entry) → x ∷ h ≡ newer ++ (e ∷ older) → P older e
  all-entries P new old [] older e q =
      let a : x ≡ e = cc in
      let b : h ≡ older = cc in
      rw (← a, ← b) new
  all-entries P new old (y ∷ newer) older e q = let b : h ≡ newer ++ (e ∷ older) = cc in old newer older e b

-- ---- sendings, counted

-- as document 01 counts them
pub sendings-count : (h : History) (u v : ℕ) → length (sendings h u v) ≡ sent_since h u v
sendings-count [] u v = refl
sendings-count (e ∷ h) u v = go (sendings-count h u v) (choice (is_down e.event u v)) (choice (is_sending e u v))
  where
    go : length (sendings h u v) ≡ sent_since h u v → Choice (is_down e.event u v) → Choice (is_sending e u v)
        → length (sendings (e ∷ h) u v) ≡ sent_since (e ∷ h) u v
    go ih (yes! i) j = rw i
    go ih (no! i) (yes! j) = rw (i, j) (omega (arith, ih, length-append (sendings h u v) (e ∷ [])))
    go ih (no! i) (no! j) = rw (i, j) (omega (arith, ih))

-- ---- lists

drop-tail : (k : ℕ) (es : History) → drop (suc k) es ≡ tail (drop k es)
drop-tail zero [] = refl
drop-tail zero (e ∷ es) = refl
drop-tail (suc k) [] = refl
drop-tail (suc k) (e ∷ es) = drop-tail k es

tails : (ms : List Message) (es : History) → map stamp ms ≡ map clock_of es → map stamp (tail ms) ≡ map clock_of (tail es)
tails [] [] q = refl
tails [] (e ∷ es) q = let z : ◌≡◌ {A = ℕ} 0 1 = cc in absurd (omega arith)
tails (m ∷ ms) [] q = let z : ◌≡◌ {A = ℕ} 0 1 = cc in absurd (omega arith)
tails (m ∷ ms) (e ∷ es) q = cc

joins : (ms : List Message) (es : History) (m : Message) (e : Entry) → map stamp ms ≡ map clock_of es → m.timestamp ≡ e.clock
    → map stamp (ms ++ (m ∷ [])) ≡ map clock_of (es ++ (e ∷ []))
joins [] [] m e q r = rw r
joins [] (x ∷ es) m e q r = let z : ◌≡◌ {A = ℕ} 0 1 = cc in absurd (omega arith)
joins (y ∷ ms) [] m e q r = let z : ◌≡◌ {A = ℕ} 0 1 = cc in absurd (omega arith)
joins (y ∷ ms) (x ∷ es) m e q r =
    let a : y.timestamp ≡ x.clock = cc in
    let b : map stamp ms ≡ map clock_of es = cc in
    rw (a, joins ms es m e b r)

-- ---- the event

module _ (n : ℕ) (p : Network) (h : History) (e : Event) (fits : Fits n p) (zero! : accepts n p e ≡ true) (ok : Accepted n p e)
    (told : Told h p) (clocked : Clocked h p) where
  abbrev l : Local
  l = local n p e

  abbrev x : Entry
  x = entry e (answer n p e) ((step n p e).clock (home e))

  moved : (step n p e).clock (home e) ≡ l.clock
  unfolding step commit
  moved = update-at p.clock (home e) l.clock

  unmoved : (u : ℕ) → (u ≡ home e → ⊥) → (step n p e).clock u ≡ p.clock u
  unfolding step commit
  unmoved u d = update-off p.clock (home e) l.clock u d

  -- ---- clocks

  grows : (u : ℕ) → p.clock u ≤ (step n p e).clock u
  grows u = go (equal? u (home e))
    where
      go : SameOrNot u (home e) → p.clock u ≤ (step n p e).clock u
      go (inl q) = rw q (omega (arith, moved, moves-on n p e))
      go (inr d) = omega (arith, unmoved u d)

  within : (newer older : History) (y : Entry) → x ∷ h ≡ newer ++ (y ∷ older) → y.clock ≤ (step n p e).clock (home y.event)
  within = all-entries h x (λ older y. y.clock ≤ (step n p e).clock (home y.event)) (omega arith)
      (λ newer older y q. omega (arith, clocked.within newer older y q, grows (home y.event)))

  -- ---- the entry is later

  own : (newer older : History) (y : Entry) → h ≡ newer ++ (y ∷ older) → home y.event ≡ home e → y.clock < (step n p e).clock (home e)
  own newer older y q s =
      let w : y.clock ≤ p.clock (home e) = rw s at (clocked.within newer older y q) in
      omega (arith, moved, moves-on n p e)

  received : (v u : ℕ) → e ≡ receive v u → SentBefore h v u ((step n p e).clock (home e))
  received v u is = go (p.channel v u) (unheard h v u) refl refl
    where
      some! : is_empty (p.channel v u) ≡ false
      some! = waits (rw is at ok)
        where
          waits : Accepted n p (receive v u) → is_empty (p.channel v u) ≡ false
          waits a = a.fits

      go : (ms : List Message) (es : History) → p.channel v u ≡ ms → unheard h v u ≡ es → SentBefore h v u ((step n p e).clock (home e))
      go [] es q r = clash (ap is_empty q) some!
      go (m ∷ ms) [] q r =
          let s : map stamp (m ∷ ms) ≡ [] = sym (ap (map stamp) q) ∙ clocked.stamps v u ∙ ap (map clock_of) r in
          let z : ◌≡◌ {A = ℕ} 0 1 = cc in
          absurd (omega arith)
      go (m ∷ ms) (y ∷ es) q r =
          let s : map stamp (m ∷ ms) ≡ map clock_of (y ∷ es) = sym (ap (map stamp) q) ∙ clocked.stamps v u ∙ ap (map clock_of) r in
          let t : m.timestamp ≡ y.clock = cc in
          let past : m.timestamp < l.clock = subst (λ (f : Event). m.timestamp < (local n p f).clock) (sym is) (past-the-stamp n p v u m ms q) in
          record { sending = y; others = es; first = r; smaller = omega (arith, moved) }

  later : Later h x
  later = record { own = own; received = received }

  -- ---- the stamps

  abbrev message : Message
  message = sent_by (home e) l

  -- a receipt at v from u does not happen at u
  elsewhere : (u v : ℕ) → is_receipt e u v ≡ true → u ≡ home e → ⊥
  elsewhere u v = at-peer e ok.differ
    where
      at-peer : (f : Event) → (home f ≡ peer f → ⊥) → is_receipt f u v ≡ true → u ≡ home f → ⊥
      at-peer (up a b) d i q = clash i refl
      at-peer (down a b) d i q = clash i refl
      at-peer (receive b a) d i q = d (sym q ∙ (both_equal u b v a i).0)

  stamps : (u v : ℕ) → map stamp ((step n p e).channel u v) ≡ map clock_of (unheard (x ∷ h) u v)
  unfolding step post
  stamps u v = go (choice (is_down e u v)) (choice (is_receipt e u v)) (choice (is_sending x u v))
    where
      sending : is_sending x u v ≡ (eqb u (home e) && l.sent v)
      sending = rw (answer-sent n p e zero!, sent-member n p e fits ok v)

      after : (step n p e).channel u v ≡ post (is_sending x u v) message (cleared p e u v)
      after = channel-after p (home e) l (cleared p e) u v ∙ ap (λ b. post b message (cleared p e u v)) (sym sending)

      -- as many were received as were sent, or fewer
      enough : received_since h u v ≤ length (sendings h u v)
      enough = omega (arith, told.counts u v, sendings-count h u v)

      one : digit true + received_since h u v ≡ suc (received_since h u v)
      one = omega arith

      none : digit false + received_since h u v ≡ received_since h u v
      none = omega arith

      go : Choice (is_down e u v) → Choice (is_receipt e u v) → Choice (is_sending x u v)
          → map stamp ((step n p e).channel u v) ≡ map clock_of (unheard (x ∷ h) u v)
      go (yes! i) j k =
          let silent : is_sending x u v ≡ false = sending ∙ rw (down-sends n p e u v i, and-false) in
          rw (after, silent, cleared-down p e u v i, i)
      go (no! i) (yes! j) (yes! k) = absurd (elsewhere u v j (eqb-true u (home e) (and_left (eqb u (home e)) _ k)))
      go (no! i) (yes! j) (no! k) =
          let shorter : unheard (x ∷ h) u v ≡ tail (unheard h u v) = rw (i, j, k, one) (drop-tail (received_since h u v) (sendings h u v)) in
          let left : (step n p e).channel u v ≡ tail (p.channel u v) = after ∙ rw (k, cleared-receipt p e u v j) in
          ap (map stamp) left ∙ (tails (p.channel u v) (unheard h u v) (clocked.stamps u v) ∙ sym (ap (map clock_of) shorter))
      go (no! i) (no! j) (yes! k) =
          let longer : unheard (x ∷ h) u v ≡ unheard h u v ++ (x ∷ []) =
          rw (i, j, k, none) (drop-append-le (received_since h u v) (sendings h u v) (x ∷ []) enough) in
          let left : (step n p e).channel u v ≡ p.channel u v ++ (message ∷ []) = after ∙ rw (k, cleared-off p e u v i j) in
          ap (map stamp) left
          ∙ (joins (p.channel u v) (unheard h u v) message x (clocked.stamps u v) (sym moved) ∙ sym (ap (map clock_of) longer))
      go (no! i) (no! j) (no! k) =
          let same : unheard (x ∷ h) u v ≡ unheard h u v = rw (i, j, k, none) in
          let left : (step n p e).channel u v ≡ p.channel u v = after ∙ rw (k, cleared-off p e u v i j) in
          ap (map stamp) left ∙ (clocked.stamps u v ∙ sym (ap (map clock_of) same))

  pub event-clocked : Clocked (entry e (answer n p e) ((step n p e).clock (home e)) ∷ h) (step n p e)
  event-clocked = record {
    within = within;
    stamps = stamps;
    causal = all-entries h x Later later clocked.causal;
  }
