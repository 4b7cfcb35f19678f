-- `ordination_gram::columns::mark_set` meets its contract: the row is cleared first.
use Rattle.lists.proofs.Base.{sym, ap, ◌∙◌, map, ℕ, arith, length, replicate}
use Rattle.ordination_hashes.specs.inner.Columns.{column_of}
use Rattle.ordination_gram.specs.inner.Bits.{packed, present}
use Rattle.ordination_gram.proofs.columns.mark_set.Goals as goal

pub mark_hashes-requires : goal.mark_hashes-requires
mark_hashes-requires c =
    let fill = c.fill.ensures in
    (omega (arith, c.requires.0, fill.len), fill.after (λ _ e. e) ∙ ap (λ (k : ℕ). replicate k 0) (sym fill.len), c.requires.1)

pub returns : goal.returns
returns c =
    let done = c.mark_hashes.ensures in
    let k = c.args.columns.now in
    (done.0, done.1 ∙ ap (λ (w : ℕ). packed w (present (length k.means.now) (map (column_of k.hashes.now) c.args.set.now))) c.fill.ensures.len)
