-- The walk that finds the lowest members: the heads are those taken and those among what is left, and what is left is whole groups.
-- Assumes words of links both ways (`LinkWords`).
use Prim.Native.Nat.{ℕ, ◌^◌, ◌<◌, ◌≤◌}
use native.Mathlib.Omega.{arith}
use mathlib.Core.Bool.{Bool, true, false, not, ◌&&◌, ◌||◌, and-false, or-false}
use mathlib.Core.List.{List}
use mathlib.Core.Path.{◌≡◌, refl, sym, ap, ap₂, subst, ◌∙◌}
use lib.Dec.{eqb}
use lib.Pow.{pow_pos}
use borrow.Author.Tests.{eqb-true, eq-eqb}
use Rattle.basics.proofs.Tests.{clash, and_left}
use Rattle.nodeset.specs.NodeSet.{member, set_of, same_node, lowest}
use Rattle.nodeset.specs.inner.Operations.{size_of, in_either, in_but_not}
use Rattle.protocol.specs.Network.{Node}
use Rattle.calls.specs.Component.{Joined, alone}
use Rattle.groups.specs.Groups.{linked, group_by, group_of}
use Rattle.groups.specs.inner.Words.{in_words, head_at, heads_in, LinkWords}
use Rattle.nodeset.proofs.Members.{is_same, same-is, not_same, member-set_of, set_of-lt, set_of-more, set_of-within, set_is, none_above, none-in-zero}
use Rattle.nodeset.proofs.Walk.{LowestNode, lowest-in}
use Rattle.calls.proofs.CountLaws.{size_of-lt}
use Rattle.tables.proofs.TablesLaws.{member-node}
use Rattle.groups.proofs.ClosureLaws.{joined-sound, joined-complete}
use Rattle.groups.proofs.LinkLaws.{group-ext}
use Rattle.groups.proofs.Partition.{parted}
use Rattle.groups.proofs.Whole.{Whole, whole-all, whole-less, whole-head}

pub record Heading (n : ℕ) (xs : List ℕ) (left out : ℕ) : Type 0 where
  pub whole : Whole n (in_words xs) left
  pub within : out < 2 ^ n
  pub so_far : (w : ℕ) → Node n w → head_at n xs w ≡ (member out w || (member left w && head_at n xs w))

-- one node more, its group gone
step : (h o l s m : Bool) → h ≡ (o || (l && h)) → (s ≡ true → h ≡ true) → (h ≡ true → l ≡ true → m ≡ true → s ≡ true)
    → h ≡ ((o || s) || ((l && not m) && h))
step false true l s m a b c = clash refl (sym a)
step false false l true m a b c = clash (b refl) refl
step false false l false m a b c = sym (and-false (l && not m))
step true true l s m a b c = refl
step true false false s m a b c = clash refl a
step true false true true m a b c = refl
step true false true false true a b c = clash (c refl refl refl) refl
step true false true false false a b c = refl

module _ (n : ℕ) (xs : List ℕ) (k : LinkWords n xs) where
  linked-words : (w v : ℕ) → Node n w → Node n v → linked (in_words xs) w v ≡ in_words xs w v
  unfolding linked
  linked-words w v a b = ap (λ (x : Bool). in_words xs w v && x) (sym (k.both w v a.low a.high b.low b.high)) ∙ go (in_words xs w v)
    where
      go : (x : Bool) → (x && x) ≡ x
      go true = refl
      go false = refl

  by-words : (u : ℕ) → group_by n (in_words xs) u ≡ group_of n (in_words xs) u
  unfolding group_of
  by-words u = sym (group-ext n (linked (in_words xs)) (in_words xs) linked-words u)

  head-is : (w : ℕ) → head_at n xs w ≡ eqb (lowest (group_of n (in_words xs) w)) w
  unfolding head_at
  head-is w = ap (λ (s : ℕ). eqb (lowest s) w) (by-words w)

  head-same : (u w : ℕ) → group_of n (in_words xs) u ≡ group_of n (in_words xs) w → lowest (group_of n (in_words xs) u) ≡ lowest (group_of n (in_words xs) w)
  head-same u w e = ap lowest e

  pub heading-start : (left : ℕ) → left ≡ set_of n (λ j. true) → Heading n xs left 0
  heading-start left e = record {
    whole = subst (Whole n (in_words xs)) (sym e) (whole-all n (in_words xs));
    within = pow_pos n;
    so_far = λ w a.
        let m : member left w ≡ true = ap (λ (s : ℕ). member s w) e ∙ member-set_of n (λ j. true) w a.low a.high in
        sym (ap₂ (λ (x y : Bool). x || (y && head_at n xs w)) (none-in-zero w) m);
  }

  pub heading-done : (left out : ℕ) → Heading n xs left out → left ≡ 0 → out ≡ heads_in n xs
  unfolding heads_in
  heading-done left out h e =
      set_is n out (head_at n xs) h.within (λ w l u. sym (h.so_far w (record { low = l; high = u })
      ∙ ap (λ (x : Bool). member out w || (x && head_at n xs w)) (ap (λ (s : ℕ). member s w) e ∙ none-in-zero w) ∙ or-false (member out w)))

  pub heading-node : (left out w : ℕ) → Heading n xs left out → 0 < left → w ≡ lowest left → Node n w
  heading-node left out w h some low =
      let l = subst (LowestNode n left) (sym low) (lowest-in n left some h.whole.within k.few) in
      record { low = l.from_one; high = l.at_most }

  module _ (left out w g : ℕ) (h : Heading n xs left out) (some : 0 < left) (low : w ≡ lowest left) (all : g ≡ group_by n (in_words xs) w) where
    lowest-left : LowestNode n left w
    lowest-left = subst (LowestNode n left) (sym low) (lowest-in n left some h.whole.within k.few)

    node : Node n w
    node = heading-node left out w h some low

    group-is : g ≡ group_of n (in_words xs) w
    group-is = all ∙ by-words w

    w-head : lowest (group_of n (in_words xs) w) ≡ w
    w-head = subst (λ x. lowest (group_of n (in_words xs) x) ≡ x) (sym low) (whole-head n (in_words xs) left k.few h.whole some)

    members-of : (j : ℕ) → member g j ≡ true → Joined n (in_words xs) w j
    members-of j e = joined-sound n (in_words xs) w j (ap (λ (s : ℕ). member s j) (sym group-is) ∙ e)

    self_in : member g w ≡ true
    self_in = ap (λ (s : ℕ). member s w) group-is ∙ joined-complete n (in_words xs) w node w alone

    taken-head : (j : ℕ) → same_node w j ≡ true → head_at n xs j ≡ true
    taken-head j e =
        let q = same-is w j e in
        head-is j ∙ eq-eqb (lowest (group_of n (in_words xs) j)) j (ap (λ (z : ℕ). lowest (group_of n (in_words xs) z)) q ∙ w-head ∙ sym q)

    only-head : (j : ℕ) → head_at n xs j ≡ true → member g j ≡ true → same_node w j ≡ true
    only-head j e m =
        let own : lowest (group_of n (in_words xs) j) ≡ j = eqb-true (lowest (group_of n (in_words xs) j)) j (sym (head-is j) ∙ e) in
        let same! = (parted n (in_words xs) k.few).same w j node (members-of j m) in
        is_same w j (sym own ∙ sym (head-same w j same!) ∙ w-head)

    but-past : (j : ℕ) → n < j → in_but_not (member left) (member g) j ≡ false
    unfolding in_but_not
    but-past j l = ap (λ (x : Bool). x && not (member g j)) (none_above n left j h.whole.within l)

    with-past : (j : ℕ) → n < j → in_either (member out) (same_node w) j ≡ false
    unfolding in_either
    with-past j l = ap₂ ◌||◌ (none_above n out j h.within l) (not_same w j (λ e. let x = node.high in omega arith))

    rest-is : set_of 16 (in_but_not (member left) (member g)) ≡ set_of n (in_but_not (member left) (member (group_of n (in_words xs) w)))
    rest-is =
        set_of-more n 16 (in_but_not (member left) (member g)) k.few but-past
        ∙ ap (λ (s : ℕ). set_of n (in_but_not (member left) (member s))) group-is

    rest_at : (j : ℕ) → 1 ≤ j → j ≤ 16 → member (set_of 16 (in_but_not (member left) (member g))) j ≡ (member left j && not (member g j))
    unfolding in_but_not
    rest_at j l u = member-set_of 16 (in_but_not (member left) (member g)) j l u

    out_at : (j : ℕ) → 1 ≤ j → j ≤ 16 → member (set_of 16 (in_either (member out) (same_node w))) j ≡ (member out j || same_node w j)
    unfolding in_either
    out_at j l u = member-set_of 16 (in_either (member out) (same_node w)) j l u

    pub heading-next : Heading n xs (set_of 16 (in_but_not (member left) (member g))) (set_of 16 (in_either (member out) (same_node w)))
    heading-next = record {
      whole = subst (Whole n (in_words xs)) (sym rest-is) (whole-less n (in_words xs) left w h.whole node);
      within = set_of-within n 16 (in_either (member out) (same_node w)) with-past;
      so_far = λ j a.
          let few : n ≤ 16 = k.few in
          let top : j ≤ n = a.high in
          let r = rest_at j a.low (omega arith) in
          let o = out_at j a.low (omega arith) in
          step (head_at n xs j) (member out j) (member left j) (same_node w j) (member g j) (h.so_far j a) (taken-head j) (λ e l m. only-head j e m)
          ∙ sym (ap₂ (λ (x y : Bool). x || (y && head_at n xs j)) o r);
    }

    pub heading-less : size_of 16 (member (set_of 16 (in_but_not (member left) (member g)))) < size_of 16 (member left)
    heading-less =
        let few : n ≤ 16 = k.few in
        let top : w ≤ n = node.high in
        let b : Node 16 w = record { low = node.low; high = omega arith } in
        size_of-lt 16 (member (set_of 16 (in_but_not (member left) (member g)))) (member left) (λ x m.
        let c = member-node 16 (set_of 16 (in_but_not (member left) (member g))) (set_of-lt 16 (in_but_not (member left) (member g))) x m in
        and_left (member left x) (not (member g x)) (sym (rest_at x c.low c.high) ∙ m)) w b
        (rest_at w b.low b.high ∙ ap (λ (x : Bool). member left w && not x) self_in ∙ and-false (member left w))
        lowest-left.is_member
