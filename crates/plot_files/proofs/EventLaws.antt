-- The event lines one by one: what the lines left make of the tables now is what all of them make of the tables at the start.
use Prim.Native.Nat.{ℕ, ◌+◌, ◌-◌, ◌≤◌, ◌<◌}
use mathlib.Core.List.{List}
use mathlib.Core.Path.{◌≡◌, refl, sym, ap, ◌∙◌}
use lib.ListN.{length, take, drop}
use Rattle.bench_run.specs.inner.OnTables.{after_command_on, after_lines_on}
use Rattle.commands.specs.Commands.{lines_of, command_of}
use Rattle.commands.specs.inner.Leaves.{to_newline}
use Rattle.commands.proofs.LineLaws.{lines_at, lines-at-end}
use Rattle.tables.specs.Tables.{Tables}

module _ (n : ℕ) (t₀ : Tables) (input : List ℕ) (from : ℕ) where
  -- the lines left start at `start`; t are the tables now
  pub record Left (t : Tables) (start : ℕ) : Type 0 where
    pub same : after_lines_on n t₀ (lines_of (drop from input)) ≡ after_lines_on n t (lines_of (drop start input))

  pub left-all : Left t₀ from
  left-all = record { same = refl }

  pub left-next : (t u : Tables) (start end : ℕ) → Left t start → start < length input → end ≡ start + to_newline (drop start input)
      → u ≡ after_command_on n t (command_of (take (end - start) (drop start input))) → Left u (end + 1)
  left-next t u start end r h ends tabs =
      let rest = lines_of (drop (end + 1) input) in
      record {
        same = r.same ∙ ap (after_lines_on n t) (lines_at input start end h ends) ∙ ap (λ (a : Tables). after_lines_on n a rest) (sym tabs);
      }

  pub left-none : (t : Tables) (start : ℕ) → Left t start → length input ≤ start → t ≡ after_lines_on n t₀ (lines_of (drop from input))
  left-none t start r h = sym (r.same ∙ ap (after_lines_on n t) (lines-at-end input start h))
