-- A station's line: its row's own height and clock are what the line names.
-- Assumes at most 16 nodes.
use Prim.Native.Nat.{ℕ, ◌≤◌}
use mathlib.Core.List.{List, []}
use mathlib.Core.Path.{◌≡◌}
use lib.ListN.{length}
use Rattle.height.specs.declared.Height.{Height}
use Rattle.tables.specs.Row.{clock_in, height_in}
use Rattle.tables.specs.Tables.{tables, node_of}
use Rattle.bench_run.specs.Listing.{station_line}
use Rattle.bench_run.specs.inner.OnTables.{station_line_on}
use Rattle.bench_run.proofs.PieceLaws.{station-le}

pub station-line : (n u : ℕ) (ns : List ℕ) {row : List ℕ} {own : Height} {clock : ℕ} → row ≡ node_of n u ns → own ≡ height_in row u → clock ≡ clock_in row
    → station_line u own.pair.lid clock ≡ station_line_on n (tables ns []) u
unfolding station_line_on
station-line n u ns r h c = rw (h, c, r)

pub line-le : (n : ℕ) (ns : List ℕ) (u : ℕ) → length (station_line_on n (tables ns []) u) ≤ 33
unfolding station_line_on
line-le n ns u = station-le u (height_in (node_of n u ns) u).pair.lid (clock_in (node_of n u ns))
