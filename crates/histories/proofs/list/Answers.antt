-- `histories::list` meets its contract: the list's length is known before anything is written.
use native.Mathlib.Omega.{arith}
use mathlib.Core.Path.{sym, ◌∙◌}
use Rattle.enumeration.proofs.Sizes.{whole-small}
use Rattle.histories.proofs.ListLaws.{plot-nodes, short-size, sizes-done, large-done, no-room-done, written-done}
use Rattle.histories.proofs.list.Goals as goal

pub returns-then-not-is_plot : goal.returns-then-not-is_plot
returns-then-not-is_plot c =
    sizes-done c.args.n c.args.length c.args.out.now (sym c.is_plot.ensures ∙ c.if-not-is_plot.true)

pub returns-then-not-is_short : goal.returns-then-not-is_short
returns-then-not-is_short c =
    large-done c.args.n c.args.length c.args.out.now (sym c.is_plot.ensures ∙ c.if-not-is_plot.false)
    (sym c.is_short.ensures ∙ c.if-not-is_short.true)

pub size-size-requires : goal.size-size-requires
size-size-requires c =
    let short = short-size c.args.n c.args.length (sym c.is_short.ensures ∙ c.if-not-is_short.false) in
    ((plot-nodes c.args.n (sym c.is_plot.ensures ∙ c.if-not-is_plot.false)).0, short.0, short.1)

pub returns-then-out-size : goal.returns-then-out-size
returns-then-out-size c =
    let plot = sym c.is_plot.ensures ∙ c.if-not-is_plot.false in
    let short = sym c.is_short.ensures ∙ c.if-not-is_short.false in
    no-room-done c.args.n c.args.length c.args.out.now plot short c.size-size.ensures c.if-out-size.true

pub plot-requires : goal.plot-requires
plot-requires c =
    let short = short-size c.args.n c.args.length (sym c.is_short.ensures ∙ c.if-not-is_short.false) in
    ((plot-nodes c.args.n (sym c.is_plot.ensures ∙ c.if-not-is_plot.false)).0, short.0, short.1)

pub count-requires : goal.count-requires
count-requires c =
    let short = short-size c.args.n c.args.length (sym c.is_short.ensures ∙ c.if-not-is_short.false) in
    (omega (arith, c.size-size.ensures, whole-small c.args.n c.args.length short.0 short.1), short.1)

pub returns : goal.returns
returns c =
    let plot = sym c.is_plot.ensures ∙ c.if-not-is_plot.false in
    let short = sym c.is_short.ensures ∙ c.if-not-is_short.false in
    written-done c.args.n c.args.length c.args.out.now plot short c.size-size.ensures c.if-out-size.false
    c.plot.ensures.0 c.count.ensures
