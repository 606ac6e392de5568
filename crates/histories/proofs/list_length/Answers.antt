-- `histories::list_length` meets its contract: 0 where the limits refuse, else the length of the text.
use mathlib.Core.Path.{◌∙◌, ap₂, sym}
use mathlib.Core.Bool.{Bool, ◌&&◌}
use Rattle.histories.proofs.ListLaws.{both_say, plot-nodes, short-size, length_none, length-is}
use Rattle.histories.proofs.list_length.Goals as goal

pub size-requires : goal.size-requires
size-requires c =
    let both = both_say c.is_plot.ensures c.is_short.ensures c.if-is_plot-is_short.true in
    let short = short-size c.args.n c.args.length both.1 in
    ((plot-nodes c.args.n both.0).0, short.0, short.1)

pub returns-then-is_plot-is_short : goal.returns-then-is_plot-is_short
returns-then-is_plot-is_short c =
    let both = both_say c.is_plot.ensures c.is_short.ensures c.if-is_plot-is_short.true in
    c.size.ensures ∙ length-is c.args.n c.args.length both.0 both.1

pub returns : goal.returns
returns c =
    length_none c.args.n c.args.length (sym (ap₂ (λ (a b : Bool). a && b) c.is_plot.ensures c.is_short.ensures) ∙ c.if-is_plot-is_short.false)
