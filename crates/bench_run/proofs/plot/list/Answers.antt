-- `bench_run::plot::list` meets its contract: "bad plot", or the listing of the plot that the first line names.
use native.Mathlib.Omega.{arith}
use mathlib.Core.Path.{sym, ap, ◌∙◌}
use lib.Seq.{length-take-le}
use Rattle.commands.specs.Commands.{lines_of}
use Rattle.bench_run.specs.Listing.{bad_plot, plot_listing}
use lib.ListN.{drop}
use Prim.Native.Nat.{ℕ, ◌+◌}
use Rattle.bench_run.proofs.PlotLaws.{listing-misfit, fits, is-listing, listing-bad, listing-plot}
use Rattle.bench_run.proofs.plot.list.Goals as goal

pub returns-then-input : goal.returns-then-input
returns-then-input c =
    let x = c.put_bad_plot.ensures in
    let input = c.args.input.now in
    is-listing input bad_plot _ (listing-misfit input c.if-input.true) x.0 x.1

pub slice_bounds-head-end : goal.slice_bounds-head-end
slice_bounds-head-end c = sym (length-take-le _ _ c.line_end-end.ensures.2)

pub returns-in_default : goal.returns-in_default
returns-in_default c =
    let x = c.put_bad_plot-in_default.ensures in
    let input = c.args.input.now in
    let f = fits input c.if-input.false in
    let zero = sym c.in_default.ensures.says in
    is-listing input bad_plot _ (listing-bad input f.0 f.1 _ c.line_end-end.ensures.0 zero)
    x.0 x.1

pub plot-requires : goal.plot-requires
plot-requires c =
    let input = c.args.input.now in
    let f = fits input c.if-input.false in
    (c.in-Some.ensures.some.0, c.in-Some.ensures.some.1, f.1)

pub returns : goal.returns
returns c =
    let x = c.plot.ensures in
    let input = c.args.input.now in
    let end = c.line_end-end in
    let f = fits input c.if-input.false in
    let h = c.in-Some.ensures.says in
    let e = listing-plot input f.0 f.1 end.result end.ensures.0 (λ z. absurd (omega (arith, c.in-Some.ensures.some.0, h, z))) in
    is-listing input _ _ (e ∙ ap (λ (n : ℕ). plot_listing n (lines_of (drop (end.result + 1) input))) (sym h)) x.0 x.1
