-- The event lines one by one: what has been printed, and what the lines left will print and leave, are the whole.
-- Assumes an input of at most 65,536 bytes.
use Prim.Native.Nat.{ℕ, suc, ◌+◌, ◌-◌, ◌*◌, ◌^◌, ◌≤◌, ◌<◌}
use native.Mathlib.Nat.{add-zero}
use native.Mathlib.Numerals.{add-one}
use native.Mathlib.Omega.{arith}
use mathlib.Core.List.{List, [], ◌∷◌, ◌++◌, append_assoc, append-nil}
use mathlib.Core.Path.{◌≡◌, refl, sym, ap, ap₂, ◌∙◌}
use lib.ListN.{length, take, drop}
use Rattle.commands.specs.Commands.{lines_of, command_of}
use Rattle.commands.specs.inner.Leaves.{to_newline}
use Rattle.commands.proofs.LineLaws.{lines_at, lines-at-end}
use Rattle.tables.specs.Tables.{Tables}
use Rattle.text.specs.inner.Poured.{poured}
use Rattle.text.proofs.TextLaws.{length-poured}
use Rattle.bench_run.specs.inner.OnTables.{command_line_on, after_command_on, event_lines_on, after_lines_on}
use Rattle.text.proofs.PourLaws.{Poured, then}

module _ (n : ℕ) (t₀ : Tables) (input : List ℕ) (from : ℕ) (out₀ : List ℕ) (at : ℕ) where
  -- line k starts at `start`; t are the tables now
  pub record Running (t : Tables) (out : List ℕ) (start k offset : ℕ) : Type 0 where
    pub text : List ℕ
    pub so_far : Poured out₀ at text out offset
    pub whole : event_lines_on n t₀ 1 (lines_of (drop from input)) ≡ text ++ event_lines_on n t k (lines_of (drop start input))
    pub tables-are : after_lines_on n t₀ (lines_of (drop from input)) ≡ after_lines_on n t (lines_of (drop start input))
    pub low : 1 ≤ k
    pub behind : k ≤ start + 1
    pub few : k ≤ length input + 1
    pub near : offset ≤ at + (k - 1) * 35

  pub run-start : Running t₀ out₀ from 1 at
  unfolding poured
  run-start = record {
    text = [];
    so_far = record { bytes = refl; offset = sym (add-zero at) };
    whole = refl;
    tables-are = refl;
    low = omega arith;
    behind = omega arith;
    few = omega arith;
    near = omega arith;
  }

  pub run-next : (t : Tables) (out : List ℕ) (start k offset : ℕ) → Running t out start k offset → start < length input
      → (end : ℕ) → end ≡ start + to_newline (drop start input) → start ≤ end
      → (l : List ℕ) → l ≡ take (end - start) (drop start input)
      → (u : Tables) (mid : List ℕ) (after : ℕ)
      → Poured out offset (command_line_on n t k (command_of l)) mid after → after ≤ offset + 35 → u ≡ after_command_on n t (command_of l)
      → Running u mid (end + 1) (k + 1) after
  unfolding event_lines_on
  run-next t out start k offset r h end ends later l line u mid after x near tabs =
      let ls : lines_of (drop start input) ≡ l ∷ lines_of (drop (end + 1) input) =
      lines_at input start end h ends ∙ ap (λ (y : List ℕ). y ∷ lines_of (drop (end + 1) input)) (sym line) in
      let c = command_of l in
      let rest = lines_of (drop (end + 1) input) in
      record {
        text = r.text ++ command_line_on n t k c;
        so_far = then r.so_far x;
        whole =
            r.whole ∙ ap (λ (y : List (List ℕ)). r.text ++ event_lines_on n t k y) ls
            ∙ sym (append_assoc r.text (command_line_on n t k c) (event_lines_on n (after_command_on n t c) (suc k) rest))
            ∙ ap₂ (λ (a : Tables) (j : ℕ). (r.text ++ command_line_on n t k c) ++ event_lines_on n a j rest) (sym tabs) (sym (add-one k));
        tables-are = r.tables-are ∙ ap (after_lines_on n t) ls ∙ ap (λ (a : Tables). after_lines_on n a rest) (sym tabs);
        low = omega arith;
        behind = omega (arith, r.behind);
        few = omega (arith, r.behind);
        near = omega (arith, r.near, r.low);
      }

  pub run-done : (t : Tables) (out : List ℕ) (start k offset : ℕ) → Running t out start k offset → length input ≤ start → length input ≤ 65536 → at ≤ 64
      → (out ≡ poured out₀ at (event_lines_on n t₀ 1 (lines_of (drop from input))))
      × (offset ≡ at + length (event_lines_on n t₀ 1 (lines_of (drop from input)))) × (offset < 2 ^ 28)
      × (t ≡ after_lines_on n t₀ (lines_of (drop from input)))
  unfolding event_lines_on
  run-done t out start k offset r h small low =
      let none = lines-at-end input start h in
      let text : r.text ≡ event_lines_on n t₀ 1 (lines_of (drop from input)) =
      sym (r.whole ∙ ap (λ (y : List (List ℕ)). r.text ++ event_lines_on n t k y) none ∙ append-nil r.text) in (
        r.so_far.bytes ∙ ap (poured out₀ at) text,
        r.so_far.offset ∙ ap (λ (y : List ℕ). at + length y) text,
        omega (arith, r.near, r.few),
        sym (r.tables-are ∙ ap (after_lines_on n t) none),
      )

  pub run_length : (t : Tables) (out : List ℕ) (start k offset : ℕ) → Running t out start k offset → length out ≡ length out₀
  run_length t out start k offset r = ap length r.so_far.bytes ∙ length-poured out₀ at r.text
