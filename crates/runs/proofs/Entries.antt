-- Which calls a history comes from: without restores every entry is that of an accepted event of the list, and stays. What the calls are made on is any type.
use Prim.Native.Nat.{ℕ}
use mathlib.Core.Bool.{true}
use mathlib.Core.List.{List, [], ◌∷◌, ◌++◌, append_assoc}
use mathlib.Core.Logic.{◌⊎◌, inl, inr}
use mathlib.Core.Path.{◌≡◌, refl, sym, ap, ◌∙◌}
use borrow.Author.Tests.{eqb-true}
use lib.Dec.{eqb}
use Rattle.basics.specs.Functions.{all}
use Rattle.basics.proofs.Tests.{clash, Choice, yes!, no!, choice}
use Rattle.calls.specs.History.{Entry, History, entry}
use Rattle.calls.specs.Run.{Call, event, save, restore, is_plain, Calls, RunState, act, perform}
use Rattle.calls.proofs.CausalLaws.{no-split}
use Rattle.protocol.specs.Step.{Event, home}

-- x stands in h
pub record In (x : Entry) (h : History) : Type 0 where
  pub newer : History
  pub older : History
  pub stands : h ≡ newer ++ (x ∷ older)

pub in-none : (x : Entry) → In x [] → ⊥
in-none x i = no-split i.newer i.older x i.stands

in-cons : (x y : Entry) (h : History) → In x (y ∷ h) → (x ≡ y) ⊎ In x h
in-cons x y h i = go i.newer i.stands
  where
    go : (newer : History) → y ∷ h ≡ newer ++ (x ∷ i.older) → (x ≡ y) ⊎ In x h
    go [] q = inl cc
    go (z ∷ newer) q = let r : h ≡ newer ++ (x ∷ i.older) = cc in inr (record { newer = newer; older = i.older; stands = r })

module _ {A : Type 0} (calls : Calls A) where
  -- what an accepted event enters the history with, made on w
  abbrev pub entry_of : RunState A → ℕ → Event → Entry
  entry_of w m e =
      entry e (calls.stepped m e w.now).said (calls.clock m (calls.stepped m e w.now).after (home e))

  abbrev pub AcceptedOn : RunState A → ℕ → Event → Type 0
  AcceptedOn w m e = (calls.stepped m e w.now).said.why.number ≡ 0

  -- x is the entry of an accepted event of the list
  pub record Entered (w : RunState A) (cs : List Call) (x : Entry) : Type 0 where
    pub before : List Call
    pub rest : List Call
    pub size : ℕ
    pub made : Event
    pub list : cs ≡ before ++ (event size made ∷ rest)
    pub accepted : AcceptedOn (perform calls w before) size made
    pub is : x ≡ entry_of (perform calls w before) size made

  -- without restores nothing leaves the history
  pub stays : (w : RunState A) (cs : List Call) → all is_plain cs ≡ true → (newer : History) × ((perform calls w cs).history ≡ newer ++ w.history)
  unfolding all
  stays w [] plain = ([], refl)
  stays w (save m out ∷ cs) plain = stays (act calls w (save m out)) cs plain
  stays w (restore b ∷ cs) plain = clash plain refl
  stays w (event m e ∷ cs) plain = go (choice (eqb (calls.stepped m e w.now).said.why.number 0)) (stays (act calls w (event m e)) cs plain)
    where
      go : Choice (eqb (calls.stepped m e w.now).said.why.number 0)
          → (newer : History) × ((perform calls (act calls w (event m e)) cs).history ≡ newer ++ (act calls w (event m e)).history)
          → (newer : History) × ((perform calls (act calls w (event m e)) cs).history ≡ newer ++ w.history)
      go (yes! i) s =
          (s.0 ++ (entry_of w m e ∷ []), s.1 ∙ rw i (sym (append_assoc s.0 (entry_of w m e ∷ []) w.history)))
      go (no! i) s = (s.0, s.1 ∙ rw i)

  behind : (w : RunState A) (c : Call) (cs : List Call) (x : Entry) → Entered (act calls w c) cs x → Entered w (c ∷ cs) x
  behind w c cs x s = record {
    before = c ∷ s.before;
    rest = s.rest;
    size = s.size;
    made = s.made;
    list = ap (λ (r : List Call). c ∷ r) s.list;
    accepted = s.accepted;
    is = s.is;
  }

  pub from-calls : (w : RunState A) (cs : List Call) → all is_plain cs ≡ true → (x : Entry) → In x (perform calls w cs).history
      → In x w.history ⊎ Entered w cs x
  unfolding all
  from-calls w [] plain x i = inl i
  from-calls w (restore b ∷ cs) plain x i = clash plain refl
  from-calls w (save m out ∷ cs) plain x i = go (from-calls (act calls w (save m out)) cs plain x i)
    where
      go : In x w.history ⊎ Entered (act calls w (save m out)) cs x → In x w.history ⊎ Entered w (save m out ∷ cs) x
      go (inl j) = inl j
      go (inr s) = inr (behind w (save m out) cs x s)
  from-calls w (event m e ∷ cs) plain x i = go (from-calls (act calls w (event m e)) cs plain x i)
    where
      new : Choice (eqb (calls.stepped m e w.now).said.why.number 0) → In x (act calls w (event m e)).history
          → In x w.history ⊎ Entered w (event m e ∷ cs) x
      new (no! k) j = inl (rw k at j)
      new (yes! k) j = go (in-cons x (entry_of w m e) w.history (rw k at j))
        where
          go : (x ≡ entry_of w m e) ⊎ In x w.history → In x w.history ⊎ Entered w (event m e ∷ cs) x
          go (inr s) = inl s
          go (inl q) =
              inr (record { before = []; rest = cs; size = m; made = e; list = refl; accepted = eqb-true (calls.stepped m e w.now).said.why.number 0 k; is = q })

      go : In x (act calls w (event m e)).history ⊎ Entered (act calls w (event m e)) cs x → In x w.history ⊎ Entered w (event m e ∷ cs) x
      go (inl j) = new (choice (eqb (calls.stepped m e w.now).said.why.number 0)) j
      go (inr s) = inr (behind w (event m e) cs x s)
