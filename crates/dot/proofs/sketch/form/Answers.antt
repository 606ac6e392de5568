-- `dot::sketch::form` meets its contract: no head, no node line, no foot, or the text that was found.
use Prim.Native.Nat.{◌≤◌}
use native.Mathlib.Omega.{arith}
use mathlib.Core.Path.{refl, sym, ◌∙◌}
use lib.ListN.{drop}
use Rattle.dot.specs.Graph.{graph_head}
use Rattle.dot.proofs.Forms.{no-head, no-nodes, no-foot, is-form}
use Rattle.dot.proofs.Starts.{starts-long}
use Rattle.dot.proofs.sketch.form.Goals as goal

pub returns-then-not-starts_with : goal.returns-then-not-starts_with
returns-then-not-starts_with c =
    record { none = no-head c.args.text.now (sym c.starts_with.ensures ∙ c.if-not-starts_with.true); some = tt }

pub nodes_from-found-requires : goal.nodes_from-found-requires
nodes_from-found-requires c = starts-long graph_head (drop 0 c.args.text.now)
    (sym c.starts_with.ensures ∙ c.if-not-starts_with.false)

pub returns-then-found-eq0 : goal.returns-then-found-eq0
returns-then-found-eq0 c =
    let f = c.nodes_from-found.ensures in
    record { none = no-nodes c.args.text.now _ _ _ f.0 f.1 refl c.if-found-eq0.true; some = tt }

pub returns-then-not-ends_at : goal.returns-then-not-ends_at
returns-then-not-ends_at c =
    let f = c.nodes_from-found.ensures in
    record {
      none = no-foot c.args.text.now _ _ _ f.0 f.1 c.edges_end-end.ensures.0 (sym c.ends_at.ensures ∙ c.if-not-ends_at.true);
      some = tt;
    }

pub returns : goal.returns
returns c =
    let f = c.nodes_from-found.ensures in
    let low : 1 ≤ c.nodes_from-found.result.nodes = omega (arith, c.if-found-eq0.false) in
    let r = is-form c.args.text.now _ _ _ f.0 f.1
    c.edges_end-end.ensures.0 (sym c.starts_with.ensures ∙ c.if-not-starts_with.false) low
    (sym c.ends_at.ensures ∙ c.if-not-ends_at.false) f.2 in
    record { none = tt; some = (r.0, low, r.1) }
