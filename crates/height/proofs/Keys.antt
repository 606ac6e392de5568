-- A height is known by its key, which has seven numbers.
use mathlib.Core.Path.{◌≡◌, refl}
use lib.ListN.{length}
use Rattle.height.specs.Height.{level_key, pair_key, height_key}
use Rattle.height.specs.declared.Height.{Height}

pub key-length : (h : Height) → length (height_key h) ≡ 7
unfolding height_key level_key pair_key
key-length h = refl

pub key-injective : (a b : Height) → height_key a ≡ height_key b → a ≡ b
unfolding height_key level_key pair_key
key-injective a b k =
    let tau : a.level.tau.0 ≡ b.level.tau.0 = cc in
    let oid : a.level.oid ≡ b.level.oid = cc in
    let r : a.level.r ≡ b.level.r = cc in
    let delta : a.delta ≡ b.delta = cc in
    let nlts : a.pair.nlts.0 ≡ b.pair.nlts.0 = cc in
    let lid : a.pair.lid ≡ b.pair.lid = cc in
    let id : a.id ≡ b.id = cc in
    λ i. record {
      level = record { tau = record { 0 = tau i }; oid = oid i; r = r i };
      delta = delta i;
      pair = record { nlts = record { 0 = nlts i }; lid = lid i };
      id = id i;
    }
