-- The save that a run remembers as the last one that wrote given bytes is exactly that: an accepted save of the list, with what it was made on
-- and the history then, and no accepted save after it wrote the same bytes. What the calls are made on is any type.
use Prim.Native.Nat.{ℕ}
use native.Mathlib.Omega.{arith}
use mathlib.Core.List.{List, [], ◌∷◌, ◌++◌}
use mathlib.Core.Logic.{◌⊎◌, inl, inr}
use mathlib.Core.Path.{◌≡◌, refl, sym, ap, ◌∙◌}
use lib.Dec.{eqb}
use borrow.Author.Tests.{eqb-true, eqb-false}
use Rattle.basics.specs.Bytes.{same_bytes}
use Rattle.basics.proofs.BytesLaws.{same_bytes-equal, bytes_same}
use Rattle.basics.proofs.Tests.{clash, Choice, yes!, no!, choice}
use Rattle.refusal.specs.Outcome.{Outcome}
use Rattle.calls.specs.Run.{Call, event, save, restore, Calls, Saved, RunState, Earlier, saved_at, last_save, act, perform}

module _ {A : Type 0} (calls : Calls A) (b : List ℕ) where
  -- the call is no accepted save that wrote b
  abbrev pub NotWriting : RunState A → Call → Type 0
  NotWriting w c = (m : ℕ) (out : List ℕ) → c ≡ save m out → (calls.written m out w.now).said ≡ 0 → (calls.written m out w.now).after ≡ b → ⊥

  -- no accepted save of the list wrote b
  abbrev pub NoneWrote : RunState A → List Call → Type 0
  NoneWrote w cs = (mid more : List Call) (m : ℕ) (out : List ℕ) → cs ≡ mid ++ (save m out ∷ more)
      → (calls.written m out (perform calls w mid).now).said ≡ 0 → (calls.written m out (perform calls w mid).now).after ≡ b → ⊥

  -- ---- which save is the last one that wrote b changes only by a save that wrote it again

  pub last-stays : (w : RunState A) (c : Call) → NotWriting w c → last_save b (act calls w c).saves ≡ last_save b w.saves
  last-stays w (event m e) d = refl
  last-stays w (restore x) d = refl
  last-stays w (save m out) d = go (choice (eqb o.said 0)) (choice (same_bytes b o.after))
    where
      o : Outcome ℕ (List ℕ)
      o = calls.written m out w.now

      go : Choice (eqb o.said 0) → Choice (same_bytes b o.after) → last_save b (act calls w (save m out)).saves ≡ last_save b w.saves
      go (no! i) j = rw i
      go (yes! i) (no! j) = rw (i, j)
      go (yes! i) (yes! j) = absurd (d m out refl (eqb-true o.said 0 i) (sym (same_bytes-equal b o.after j)))

  pub stays-last : (w : RunState A) (cs : List Call) → NoneWrote w cs → last_save b (perform calls w cs).saves ≡ last_save b w.saves
  stays-last w [] d = refl
  stays-last w (c ∷ cs) d =
      stays-last (act calls w c) cs (λ mid more m out e. d (c ∷ mid) more m out (ap (λ (l : List Call). c ∷ l) e))
      ∙ last-stays w c (λ m out e. d [] cs m out (ap (λ (x : Call). x ∷ cs) e))

  -- ---- the last save that wrote b is a save of the list

  -- s was made by a save of the list, behind the calls `before`; no save after it wrote b
  pub record Wrote (w : RunState A) (s : Saved A) (cs : List Call) : Type 0 where
    pub before : List Call
    pub rest : List Call
    pub m : ℕ
    pub out : List ℕ
    pub list : cs ≡ before ++ (save m out ∷ rest)
    pub accepted : (calls.written m out (perform calls w before).now).said ≡ 0
    pub bytes : (calls.written m out (perform calls w before).now).after ≡ b
    pub is : s ≡ record { bytes = b; at = (perform calls w before).now; history = (perform calls w before).history }
    pub no-later : NoneWrote (act calls (perform calls w before) (save m out)) rest

  -- it was there before, and none of the list wrote b; or it is of the list
  abbrev Known : RunState A → Saved A → List Call → Type 0
  Known w s cs = ((last_save b w.saves ≡ saved_at s) × NoneWrote w cs) ⊎ Wrote w s cs

  none-nil : (w : RunState A) → NoneWrote w []
  none-nil w [] more m out e = let z : ◌≡◌ {A = ℕ} 0 1 = cc in absurd (omega arith)
  none-nil w (x ∷ mid) more m out e = let z : ◌≡◌ {A = ℕ} 0 1 = cc in absurd (omega arith)

  none-cons : (w : RunState A) (c : Call) (cs : List Call) → NotWriting w c → NoneWrote (act calls w c) cs → NoneWrote w (c ∷ cs)
  none-cons w c cs first none [] more m out e = let q : c ≡ save m out = cc in first m out q
  none-cons w c cs first none (x ∷ mid) more m out e =
      let q : c ≡ x = cc in
      let r : cs ≡ mid ++ (save m out ∷ more) = cc in
      rw (← q) (none mid more m out r)

  -- one call in front of a list that wrote b no more
  in-front : (w : RunState A) (s : Saved A) (c : Call) (cs : List Call) → last_save b (act calls w c).saves ≡ saved_at s
      → NoneWrote (act calls w c) cs → Known w s (c ∷ cs)
  in-front w s (event m e) cs l none =
      inl (l, none-cons w (event m e) cs (λ k to q. let z : ◌≡◌ {A = ℕ} 0 1 = cc in absurd (omega arith)) none)
  in-front w s (restore x) cs l none =
      inl (l, none-cons w (restore x) cs (λ k to q. let z : ◌≡◌ {A = ℕ} 0 1 = cc in absurd (omega arith)) none)
  in-front w s (save m out) cs l none = go (choice (eqb o.said 0)) (choice (same_bytes b o.after))
    where
      o : Outcome ℕ (List ℕ)
      o = calls.written m out w.now

      new : Saved A
      new = record { bytes = o.after; at = w.now; history = w.history }

      not-writing : (o.said ≡ 0 → o.after ≡ b → ⊥) → NotWriting w (save m out)
      not-writing d k to q z y =
          let e : m ≡ k = cc in
          let f : out ≡ to = cc in
          d (rw (e, f) z) (rw (e, f) y)

      go : Choice (eqb o.said 0) → Choice (same_bytes b o.after) → Known w s (save m out ∷ cs)
      go (no! i) j = inl (rw i at l, none-cons w (save m out) cs (not-writing (λ z y. eqb-false o.said 0 i z)) none)
      go (yes! i) (no! j) =
          inl (rw (i, j) at l, none-cons w (save m out) cs (not-writing (λ z y. clash (bytes_same b o.after (sym y)) j)) none)
      go (yes! i) (yes! j) =
          let f : ◌≡◌ {A = Earlier A} (saved_at new) (saved_at s) = rw (i, j) at l in
          let g : new ≡ s = cc in
          let h : b ≡ o.after = same_bytes-equal b o.after j in
          inr (record {
            before = [];
            rest = cs;
            m = m;
            out = out;
            list = refl;
            accepted = eqb-true o.said 0 i;
            bytes = sym h;
            is = sym g ∙ ap (λ (x : List ℕ). record { bytes = x; at = w.now; history = w.history }) (sym h);
            no-later = none;
          })

  pub remembered : (w : RunState A) (s : Saved A) (cs : List Call) → last_save b (perform calls w cs).saves ≡ saved_at s
      → ((last_save b w.saves ≡ saved_at s) × NoneWrote w cs) ⊎ Wrote w s cs
  remembered w s [] e = inl (e, none-nil w)
  remembered w s (c ∷ cs) e = go (remembered (act calls w c) s cs e)
    where
      go : Known (act calls w c) s cs → Known w s (c ∷ cs)
      go (inl k) = in-front w s c cs k.0 k.1
      go (inr t) = inr (record {
        before = c ∷ t.before;
        rest = t.rest;
        m = t.m;
        out = t.out;
        list = ap (λ (l : List Call). c ∷ l) t.list;
        accepted = t.accepted;
        bytes = t.bytes;
        is = t.is;
        no-later = t.no-later;
      })
