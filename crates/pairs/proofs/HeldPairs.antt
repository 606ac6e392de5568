-- What a pair that passes the test shows, one fact for each rule of "What a station holds".
use Prim.Native.Nat.{ℕ, ◌+◌, ◌*◌, ◌≤◌}
use mathlib.Core.Bool.{Bool, true, ◌&&◌, ◌||◌}
use mathlib.Core.List.{List}
use mathlib.Core.Path.{◌≡◌}
use lib.Dec.{eqb, leb}
use lib.ListN.{drop}
use borrow.Author.Tests.{leb-true}
use Rattle.basics.specs.Functions.{all}
use Rattle.basics.proofs.Tests.{and_left, and_right}
use Rattle.nodeset.specs.NodeSet.{member, within}
use Rattle.protocol.specs.Holds.{height_holds, message_holds, sets_hold}
use Rattle.protocol.specs.Network.{capacity}
use Rattle.tables.specs.Cell.{count, queue, all_zero}
use Rattle.tables.specs.Row.{neighbors_in, forming_in, height_in}
use Rattle.pairs.specs.Pair.{own_sound, channel_sound}

pub record OwnHolds (n u : ℕ) (row cell : List ℕ) : Type 0 where
  pub neighbors : within n (neighbors_in row) ≡ true
  pub forming : within n (forming_in row) ≡ true
  pub sets : sets_hold n u (member (neighbors_in row)) (member (forming_in row)) ≡ true
  pub height : height_holds n u (height_in row u) ≡ true
  pub unused : all_zero cell ≡ true

pub record ChannelHolds (n u v : ℕ) (row cell : List ℕ) : Type 0 where
  pub few : count cell ≤ 8
  pub up : (member (neighbors_in row) v || member (forming_in row) v || eqb (count cell) 0) ≡ true
  pub messages : all (message_holds n u) (queue cell) ≡ true
  pub rest : all_zero (drop (1 + count cell * 8) cell) ≡ true

pub own-holds : (n u : ℕ) (row cell : List ℕ) → own_sound n u row cell ≡ true → OwnHolds n u row cell
unfolding own_sound
own-holds n u row cell e =
    let N : Bool = within n (neighbors_in row) in
    let F : Bool = within n (forming_in row) in
    let sets : Bool = sets_hold n u (member (neighbors_in row)) (member (forming_in row)) in
    let height : Bool = height_holds n u (height_in row u) in
    let four = and_left (N && F && sets && height) (all_zero cell) e in
    let three = and_left (N && F && sets) height four in
    let two = and_left (N && F) sets three in
    record {
      neighbors = and_left N F two;
      forming = and_right N F two;
      sets = and_right (N && F) sets three;
      height = and_right (N && F && sets) height four;
      unused = and_right (N && F && sets && height) (all_zero cell) e;
    }

pub channel-holds : (n u v : ℕ) (row cell : List ℕ) → channel_sound n u v row cell ≡ true → ChannelHolds n u v row cell
unfolding channel_sound
channel-holds n u v row cell e =
    let few : Bool = leb (count cell) capacity in
    let up : Bool = member (neighbors_in row) v || member (forming_in row) v || eqb (count cell) 0 in
    let messages : Bool = all (message_holds n u) (queue cell) in
    let zeros : Bool = all_zero (drop (1 + count cell * 8) cell) in
    let three = and_left (few && up && messages) zeros e in
    let two = and_left (few && up) messages three in
    record {
      few = leb-true (count cell) capacity (and_left few up two);
      up = and_right few up two;
      messages = and_right (few && up) messages three;
      rest = and_right (few && up && messages) zeros e;
    }
