-- The whole listing: its four parts poured one behind the other, and by the first line.
use Prim.Native.Nat.{ℕ, suc, ◌+◌, ◌*◌, ◌≤◌, ◌<◌}
use native.Mathlib.Nat.{zero-add}
use native.Mathlib.Omega.{arith}
use mathlib.Core.Bool.{true, false, cond, ◌||◌}
use mathlib.Core.List.{List, [], ◌∷◌, ◌++◌}
use mathlib.Core.Path.{◌≡◌, refl, sym, ap, ap₂, ◌∙◌}
use borrow.Author.Tests.{ne_eqb, le-leb, lt-leb, ltb-true, ltb-false}
use lib.Dec.{leb, ltb}
use lib.ListN.{length, take, drop}
use lib.Seq.{length-take-le}
use Rattle.basics.proofs.Tests.{clash, Choice, yes!, no!, choice}
use Rattle.commands.specs.Commands.{lines_of, head_of}
use Rattle.commands.specs.inner.Leaves.{to_newline}
use Rattle.commands.proofs.LineLaws.{lines_next}
use Rattle.protocol.specs.Network.{fresh}
use Rattle.tables.specs.Load.{tables_of}
use Rattle.tables.specs.Tables.{Tables, tables}
use Rattle.tables.specs.inner.Fit.{Sized}
use Rattle.tables.proofs.Sizes.{rows-small, cells-small}
use Rattle.text.specs.inner.Poured.{poured}
use Rattle.bench_run.specs.Listing.{event_head, station_head, bad_plot, event_lines, after_lines, station_lines, plot_listing, headed, listing}
use Rattle.bench_run.specs.inner.OnTables.{event_lines_on, after_lines_on, station_line_on, station_lines_on}
use Rattle.bench_run.proofs.Listings.{events-same, stations-after}
use Rattle.text.proofs.PourLaws.{Poured, then}

-- ---- the tables

-- the station lines look at the rows only
rows-only : (n : ℕ) (ns cs : List ℕ) → station_lines_on n (tables ns []) ≡ station_lines_on n (tables ns cs)
unfolding station_lines_on station_line_on
rows-only n ns cs = refl

-- ---- the parts

module _ (n : ℕ) (low : 1 ≤ n) (few : n ≤ 16) (ls : List (List ℕ)) {t : Tables} (start : t ≡ tables_of n fresh) where
  pub plot-done : {out₀ o₁ o₂ o₃ o₄ : List ℕ} {p₁ p₂ p₃ p₄ : ℕ} → Poured out₀ 0 event_head o₁ p₁ → Poured o₁ p₁ (event_lines_on n t 1 ls) o₂ p₂
      → Poured o₂ p₂ station_head o₃ p₃ → (ns cs : List ℕ) → tables ns cs ≡ after_lines_on n t ls → Poured o₃ p₃ (station_lines_on n (tables ns [])) o₄ p₄
      → (o₄ ≡ poured out₀ 0 (plot_listing n ls)) × (p₄ ≡ length (plot_listing n ls))
  unfolding plot_listing
  plot-done {out₀} a b c ns cs after d =
      let all = then a (then b (then c d)) in
      let events : event_lines_on n t 1 ls ≡ event_lines n fresh 1 ls = ap (λ (u : Tables). event_lines_on n u 1 ls) start ∙ events-same n low few ls in
      let stations : station_lines_on n (tables ns []) ≡ station_lines n (after_lines n fresh ls) =
      rows-only n ns cs ∙ ap (station_lines_on n) (after ∙ ap (λ (u : Tables). after_lines_on n u ls) start) ∙ stations-after n low few ls in
      let text = ap₂ (λ (x y : List ℕ). event_head ++ (x ++ (station_head ++ y))) events stations in
      (all.bytes ∙ ap (poured out₀ 0) text, all.offset ∙ (zero-add _ ∙ ap length text))

-- ---- by the first line

module _ (input : List ℕ) where
  pub listing-empty : length input < 1 → listing input ≡ bad_plot
  unfolding listing headed lines_of
  listing-empty h = go input h
    where
      go : (xs : List ℕ) → length xs < 1 → cond (leb (length xs) 65536) (headed (lines_of xs)) bad_plot ≡ bad_plot
      go [] h = refl
      go (x ∷ xs) h = absurd (omega arith)

  pub listing-long : 65536 < length input → listing input ≡ bad_plot
  unfolding listing
  listing-long h = rw (lt-leb (length input) 65536 h)

  -- no byte, or too many
  pub listing-misfit : (ltb (length input) 1 || ltb 65536 (length input)) ≡ true → listing input ≡ bad_plot
  listing-misfit e = go (choice (ltb (length input) 1)) (choice (ltb 65536 (length input)))
    where
      go : Choice (ltb (length input) 1) → Choice (ltb 65536 (length input)) → listing input ≡ bad_plot
      go (yes! a) b = listing-empty (ltb-true (length input) 1 a)
      go (no! a) (yes! b) = listing-long (ltb-true 65536 (length input) b)
      go (no! a) (no! b) = clash (rw (a, b) at e) refl

  pub fits : (ltb (length input) 1 || ltb 65536 (length input)) ≡ false → (1 ≤ length input) × (length input ≤ 65536)
  fits e = go (choice (ltb (length input) 1)) (choice (ltb 65536 (length input)))
    where
      go : Choice (ltb (length input) 1) → Choice (ltb 65536 (length input)) → (1 ≤ length input) × (length input ≤ 65536)
      go (yes! a) b = clash refl (rw a at e)
      go (no! a) (yes! b) = clash refl (rw (a, b) at e)
      go (no! a) (no! b) = (ltb-false (length input) 1 a, ltb-false 65536 (length input) b)

  -- the listing, under another name
  pub is-listing : (text out : List ℕ) → listing input ≡ text → {after : List ℕ} {behind : ℕ} → after ≡ poured out 0 text → behind ≡ length text
      → (after ≡ poured out 0 (listing input)) × (behind ≡ length (listing input))
  is-listing text out e a b = (a ∙ ap (poured out 0) (sym e), b ∙ ap length (sym e))

  module _ (some : 1 ≤ length input) (short : length input ≤ 65536) (end : ℕ) (ends : end ≡ 0 + to_newline (drop 0 input)) where
    first : lines_of input ≡ take end input ∷ lines_of (drop (end + 1) input)
    first =
        let e : to_newline input ≡ end = omega (arith, ends) in
        let f : suc (to_newline input) ≡ end + 1 = omega (arith, e) in
        lines_next input some ∙ ap₂ (λ (k j : ℕ). take k input ∷ lines_of (drop j input)) e f

    pub listing-bad : head_of (take end input) ≡ 0 → listing input ≡ bad_plot
    unfolding listing headed
    listing-bad h = rw (le-leb (length input) 65536 short, first, h)

    pub listing-plot : (head_of (take end input) ≡ 0 → ⊥) → listing input ≡ plot_listing (head_of (take end input)) (lines_of (drop (end + 1) input))
    unfolding listing headed
    listing-plot d = rw (le-leb (length input) 65536 short, first, ne_eqb (head_of (take end input)) 0 d)

-- ---- sizes

-- parts of the room for sixteen nodes are tables of n
pub part-sized : (n : ℕ) (ns cs : List ℕ) → 1 ≤ n → n ≤ 16 → length ns ≡ 1840 → length cs ≡ 16640
    → Sized n (tables (take (n * (3 + 7 * n)) ns) (take (n * n * 65) cs))
part-sized n ns cs low few a b = record {
  low = low;
  few = few;
  nodes = length-take-le (n * (3 + 7 * n)) ns (omega (arith, rows-small n few));
  channels = length-take-le (n * n * 65) cs (omega (arith, cells-small n few));
}
