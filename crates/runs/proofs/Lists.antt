-- Lists of calls one behind the other: what they leave, and that they are fair exactly when both parts are. Without restores they always are.
-- What the calls are made on is any type.
use mathlib.Core.Bool.{true}
use mathlib.Core.List.{List, [], ◌∷◌, ◌++◌}
use mathlib.Core.Path.{◌≡◌, refl}
use Rattle.basics.specs.Functions.{all}
use Rattle.basics.proofs.Tests.{clash}
use Rattle.calls.specs.Run.{Call, event, save, restore, is_plain, Calls, RunState, act, perform, Fair, fair_event, fair_save, AllFair, fair_nil, fair_cons}

module _ {A : Type 0} (calls : Calls A) where
  pub perform-append : (w : RunState A) (cs ds : List Call) → perform calls w (cs ++ ds) ≡ perform calls (perform calls w cs) ds
  perform-append w [] ds = refl
  perform-append w (c ∷ cs) ds = perform-append (act calls w c) cs ds

  pub fair-first : (w : RunState A) (cs ds : List Call) → AllFair calls w (cs ++ ds) → AllFair calls w cs
  fair-first w [] ds fs = fair_nil
  fair-first w (c ∷ cs) ds (fair_cons f fs) = fair_cons f (fair-first (act calls w c) cs ds fs)

  pub fair-rest : (w : RunState A) (cs ds : List Call) → AllFair calls w (cs ++ ds) → AllFair calls (perform calls w cs) ds
  fair-rest w [] ds fs = fs
  fair-rest w (c ∷ cs) ds (fair_cons f fs) = fair-rest (act calls w c) cs ds fs

  pub fair-append : (w : RunState A) (cs ds : List Call) → AllFair calls w cs → AllFair calls (perform calls w cs) ds → AllFair calls w (cs ++ ds)
  fair-append w [] ds fs gs = gs
  fair-append w (c ∷ cs) ds (fair_cons f fs) gs = fair_cons f (fair-append (act calls w c) cs ds fs gs)

  -- the first call of a list, and the others
  pub fair-head : (w : RunState A) (c : Call) (cs : List Call) → AllFair calls w (c ∷ cs) → Fair calls w c
  fair-head w c cs (fair_cons f fs) = f

  pub fair-tail : (w : RunState A) (c : Call) (cs : List Call) → AllFair calls w (c ∷ cs) → AllFair calls (act calls w c) cs
  fair-tail w c cs (fair_cons f fs) = fs

  pub plain-fair : (w : RunState A) (cs : List Call) → all is_plain cs ≡ true → AllFair calls w cs
  unfolding all
  plain-fair w [] h = fair_nil
  plain-fair w (event m e ∷ cs) h = fair_cons (fair_event m e) (plain-fair (act calls w (event m e)) cs h)
  plain-fair w (save m out ∷ cs) h = fair_cons (fair_save m out) (plain-fair (act calls w (save m out)) cs h)
  plain-fair w (restore b ∷ cs) h = clash h refl
