-- `height::words::store_height` meets its contract: seven words in bounds, one field each.
use borrow.Author.Rules.{rules}
use native.Mathlib.Numerals.{towards_suc}
use mir.Syntax.{w32}
use mir.Val.{SFits}
use mir.Facts.{to_z-of_z}
use Rattle.height.specs.Words.{height_words}
use Rattle.height.specs.inner.Stored.{stored_at}
use Rattle.height.proofs.words.store_height.Goals as goal

pub returns : goal.returns
unfolding stored_at height_words
returns c =
    let h = c.args.h in
    let fd : SFits w32 h.delta = search rules in
    simp (towards_suc, c.delta_word.ensures, c.nlts_word.ensures, to_z-of_z fd)
