-- A text poured from the front of lent bytes is `put_front`, where there is room for it; else nothing is to be written.
use Prim.Native.Nat.{ℕ, ◌≤◌, ◌<◌}
use mathlib.Core.List.{List}
use mathlib.Core.Path.{◌≡◌}
use lib.ListN.{length}
use Rattle.refusal.specs.Outcome.{accepted, outcome, put_front, refused_with}
use Rattle.refusal.specs.Refusal.{why}
use Rattle.refusal.proofs.OutcomeLaws.{put-no-room, put-room}
use Rattle.text.specs.inner.Poured.{poured}
use Rattle.text.proofs.TextLaws.{poured-all}

module _ (text out : List ℕ) {size : ℕ} (long : size ≡ length text) where
  pub no_room : length out < size → outcome (refused_with 0 (why 14 0 0)) out ≡ put_front text out
  no_room h = put-no-room text out (rw long at h)

  pub room : (after : List ℕ) → size ≤ length out → after ≡ poured out 0 text → outcome (accepted size) after ≡ put_front text out
  room after h b = rw (long, b, poured-all out text (rw long at h)) (put-room text out (rw long at h))
