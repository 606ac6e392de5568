-- Links in words: the words are filled node by node, a round over them is a round over the links, and so is a group.
use Prim.Native.Nat.{ℕ, zero, suc, ◌+◌, ◌-◌, ◌^◌, ◌<◌, ◌≤◌}
use native.Mathlib.Omega.{arith}
use mathlib.Core.Bool.{Bool, true, false, not, ◌&&◌, ◌||◌, and-false, or-false}
use mathlib.Core.List.{List}
use mathlib.Core.Logic.{inl, inr}
use mathlib.Core.Path.{◌≡◌, refl, sym, ap, ap₂, subst, ◌∙◌}
use lib.Dec.{eqb}
use lib.ListN.{get_or, set, length, length-set}
use lib.Seq.{get_or-set_same, get_or-set_other}
use Rattle.nodeset.specs.NodeSet.{member, set_of, same_node, apart, lowest}
use Rattle.protocol.specs.Network.{Node}
use Rattle.basics.proofs.Tests.{SameOrNot, equal?}
use Rattle.groups.specs.Groups.{linked, reached, one_round, rounds, group_by, group_of, is_head, heads_of}
use Rattle.groups.specs.inner.Words.{in_words, head_at, heads_in, LinkWords, SetWords}
use Rattle.nodeset.proofs.Members.{member-set_of, set_of-ext, set_of-lt, set_of-member, set_of-none, set_of-more, none-in-zero, at-apart, not_same}
use Rattle.groups.proofs.LoopLaws.{apart_words}

-- ---- filled from node 1 on

-- with node w next
pub record Filled (n : ℕ) (f : ℕ → ℕ → Bool) (w : ℕ) (xs : List ℕ) : Type 0 where
  pub size : length xs ≡ 16
  pub so_far : (k : ℕ) → 1 ≤ k → k < w → get_or xs (k - 1) 0 ≡ set_of n (f k)

module _ (n : ℕ) (f : ℕ → ℕ → Bool) where
  pub fill_start : (xs : List ℕ) → length xs ≡ 16 → Filled n f 1 xs
  fill_start xs e = record { size = e; so_far = λ k l h. absurd (omega arith) }

  pub fill-next : (w : ℕ) (xs : List ℕ) (x : ℕ) → Filled n f w xs → 1 ≤ w → w ≤ 16 → x ≡ set_of n (f w)
      → Filled n f (w + 1) (set xs (w - 1) x)
  fill-next w xs x done low few e = record {
    size = length-set xs (w - 1) x ∙ done.size;
    so_far = λ k l q. go k l q (equal? k w);
  }
    where
      go : (k : ℕ) → 1 ≤ k → k < w + 1 → SameOrNot k w → get_or (set xs (w - 1) x) (k - 1) 0 ≡ set_of n (f k)
      go k l q (inl d) =
          ap (λ (j : ℕ). get_or (set xs (w - 1) x) (j - 1) 0) d ∙ get_or-set_same xs (w - 1) x 0 (omega (arith, done.size))
          ∙ e ∙ ap (λ (j : ℕ). set_of n (f j)) (sym d)
      go k l q (inr d) =
          get_or-set_other xs (w - 1) (k - 1) x 0 (λ s. d (omega arith)) ∙ done.so_far k l (omega arith)

  pub fill_done : (w : ℕ) (xs : List ℕ) → Filled n f w xs → n < w → SetWords n f xs
  fill_done w xs done h = record { size = done.size; at = λ k l q. done.so_far k l (omega arith) }

  pub in-words : (xs : List ℕ) → SetWords n f xs → (w v : ℕ) → Node n w → Node n v → in_words xs w v ≡ f w v
  unfolding in_words
  in-words xs words w v a b =
      ap (λ (x : ℕ). member x v) (words.at w a.low a.high) ∙ member-set_of n (f w) v b.low b.high

-- v is in the set of w, and w in that of v
pub link-test : (xs : List ℕ) (w v out back : ℕ) (a b : Bool) → out ≡ get_or xs (w - 1) 0 → back ≡ get_or xs (v - 1) 0
    → a ≡ member out v → b ≡ member back w → (a && b) ≡ linked (in_words xs) w v
unfolding linked in_words
link-test xs w v out back a b e f p q =
    ap₂ ◌&&◌ (p ∙ ap (λ (s : ℕ). member s v) e) (q ∙ ap (λ (s : ℕ). member s w) f)

-- nobody is up from w
pub links-none : (n : ℕ) (xs : List ℕ) (w out : ℕ) → out ≡ get_or xs (w - 1) 0 → out ≡ 0 → 0 ≡ set_of n (linked (in_words xs) w)
unfolding linked in_words
links-none n xs w out e z =
    sym (set_of-none n _ (λ k l h. ap (λ (x : ℕ). member x k && in_words xs k w) (sym e ∙ z) ∙ ap (λ (b : Bool). b && in_words xs k w) (none-in-zero k)))

-- ---- a round over words

pub word_test : (n : ℕ) (xs : List ℕ) (s w near : ℕ) (a d : Bool) → LinkWords n xs → Node n w → near ≡ get_or xs (w - 1) 0
    → a ≡ member s w → d ≡ apart 16 (member s) (member near) → (a || not d) ≡ reached n (in_words xs) s w
unfolding reached in_words
word_test n xs s w near a d k b e p q =
    let x = get_or xs (w - 1) 0 in
    let whole : set_of n (member x) ≡ x = set_of-member n x (k.within w b.low b.high) in
    let same! : d ≡ apart n (member s) (member x) =
    q ∙ ap (λ (y : ℕ). apart 16 (member s) (member y)) (e ∙ sym whole) ∙ apart_words n s (member x) k.few in
    ap₂ (λ (x y : Bool). x || not y) p same!

-- ---- the same links, the same group

apart-ext : (n : ℕ) (f g h : ℕ → Bool) → ((k : ℕ) → 1 ≤ k → k ≤ n → g k ≡ h k) → apart n f g ≡ apart n f h
unfolding apart
apart-ext zero f g h e = refl
apart-ext (suc n) f g h e =
    ap₂ (λ (x y : Bool). not (f (suc n) && x) && y) (e (suc n) (omega arith) (omega arith)) (apart-ext n f g h (λ k l u. e k l (omega arith)))

-- a node without links is alone
module _ (n : ℕ) (xs : List ℕ) (words : LinkWords n xs) (u : ℕ) (a : Node n u) (none : get_or xs (u - 1) 0 ≡ 0) where
  unlinked : (w : ℕ) → Node n w → in_words xs w u ≡ false
  unfolding in_words
  unlinked w b =
      words.both w u b.low b.high a.low a.high ∙ ap (λ (x : ℕ). member x w) none ∙ none-in-zero w

  alone-round : one_round n (in_words xs) (set_of n (same_node u)) ≡ set_of n (same_node u)
  unfolding one_round reached
  alone-round = set_of-ext n _ _ (λ w l h.
      ap₂ (λ (x y : Bool). x || not y) (member-set_of n (same_node u) w l h) (at-apart n _ _ (λ v p q. apart-here w (record { low = l; high = h }) v p q))
      ∙ or-false (same_node u w))
    where
      apart-here : (w : ℕ) → Node n w → (v : ℕ) → 1 ≤ v → v ≤ n → (member (set_of n (same_node u)) v && in_words xs w v) ≡ false
      apart-here w b v p q = ap (λ (x : Bool). x && in_words xs w v) (member-set_of n (same_node u) v p q) ∙ go (equal? v u)
        where
          go : SameOrNot v u → (same_node u v && in_words xs w v) ≡ false
          go (inl e) = ap (λ (x : Bool). same_node u v && x) (ap (in_words xs w) e ∙ unlinked w b) ∙ and-false (same_node u v)
          go (inr d) = ap (λ (x : Bool). x && in_words xs w v) (not_same u v d)

  alone-rounds : (k : ℕ) → rounds k n (in_words xs) (set_of n (same_node u)) ≡ set_of n (same_node u)
  unfolding rounds
  alone-rounds zero = refl
  alone-rounds (suc k) = ap (rounds k n (in_words xs)) alone-round ∙ alone-rounds k

  pub alone-group : (s : ℕ) → n ≤ 16 → s ≡ set_of 16 (same_node u) → s ≡ group_by n (in_words xs) u
  unfolding group_by
  alone-group s few e =
      let top : u ≤ n = a.high in
      e ∙ set_of-more n 16 (same_node u) few (λ k l. not_same u k (λ q. omega arith)) ∙ sym (alone-rounds n)

module _ (n : ℕ) (f g : ℕ → ℕ → Bool) (same : (w v : ℕ) → Node n w → Node n v → f w v ≡ g w v) where
  round-ext : (s : ℕ) → one_round n f s ≡ one_round n g s
  unfolding one_round reached
  round-ext s =
      set_of-ext n _ _ (λ w l h. ap (λ (b : Bool). member s w || not b)
      (apart-ext n (member s) (f w) (g w) (λ v p q. same w v (record { low = l; high = h }) (record { low = p; high = q }))))

  rounds-ext : (k s : ℕ) → rounds k n f s ≡ rounds k n g s
  unfolding rounds
  rounds-ext zero s = refl
  rounds-ext (suc k) s = rounds-ext k (one_round n f s) ∙ ap (rounds k n g) (round-ext s)

  pub group-ext : (u : ℕ) → group_by n f u ≡ group_by n g u
  unfolding group_by
  group-ext u = rounds-ext n (set_of n (same_node u))

-- ---- words of who is up, and of the links among them

pub links-of : (n : ℕ) (ups : ℕ → ℕ → Bool) (out near : List ℕ) → SetWords n ups out → SetWords n (linked (in_words out)) near
    → SetWords n (linked ups) near
unfolding linked
links-of n ups out near read made = record {
  size = made.size;
  at = λ w l h.
      made.at w l h ∙ set_of-ext n _ _ (λ v p q. same w v (record { low = l; high = h }) (record { low = p; high = q }));
}
  where
    same : (w v : ℕ) → Node n w → Node n v → linked (in_words out) w v ≡ linked ups w v
    same w v a b = ap₂ ◌&&◌ (in-words n ups out read w v a b) (in-words n ups out read v w b a)

module _ (n : ℕ) (ups : ℕ → ℕ → Bool) (near : List ℕ) (made : SetWords n (linked ups) near) where
  links-same : (w v : ℕ) → Node n w → Node n v → in_words near w v ≡ linked ups w v
  links-same w v a b = in-words n (linked ups) near made w v a b

  turned : (w v : ℕ) → linked ups w v ≡ linked ups v w
  unfolding linked
  turned w v = go (ups w v) (ups v w)
    where
      go : (a b : Bool) → (a && b) ≡ (b && a)
      go true true = refl
      go true false = refl
      go false true = refl
      go false false = refl

  pub link-words : n ≤ 16 → LinkWords n near
  link-words few = record {
    few = few;
    size = made.size;
    within = λ w l h. subst (λ x. x < 2 ^ n) (sym (made.at w l h)) (set_of-lt n (linked ups w));
    both = λ w v l h p q.
        links-same w v (record { low = l; high = h }) (record { low = p; high = q }) ∙ turned w v
        ∙ sym (links-same v w (record { low = p; high = q }) (record { low = l; high = h }));
  }

  pub group-words : (u : ℕ) → group_by n (in_words near) u ≡ group_of n ups u
  unfolding group_of
  group-words u = group-ext n (in_words near) (linked ups) links-same u

  heads-same : (w : ℕ) → head_at n near w ≡ is_head n ups w
  unfolding head_at is_head
  heads-same w = ap (λ (s : ℕ). eqb (lowest s) w) (group-words w)

  pub heads-words : heads_in n near ≡ heads_of n ups
  unfolding heads_in heads_of
  heads-words = set_of-ext n (head_at n near) (is_head n ups) (λ w l h. heads-same w)
