-- `ordination_pcoa::ordinate_in` meets its contract. By whether the eigenpairs were found.
use Rattle.lists.proofs.Base.{◌∙◌}
use Rattle.lists.specs.Writes.{cleared}
use Rattle.ordination_pcoa.proofs.FoundCoordinates.{refused-by, answered-by}
use Rattle.ordination_pcoa.proofs.ordinate_in.Goals as goal
use Rattle.ordination_pcoa.proofs.ordinate_in.Goals.{in-Ok, in-Err}

pub top_pairs-requires : goal.top_pairs-requires
top_pairs-requires c =
    let b = c.requires.b_len in
    let o = c.requires.out_len in
    record { a_len = (b.0, o.1, o.2, o.3, o.4); n_le_most_samples = (b.1, b.2, b.3) }

pub trace-total-requires : goal.trace-total-requires
trace-total-requires c = c.requires.b_len.0

pub finish-requires : goal.finish-requires
finish-requires c = let h = c.requires in (h.out_len.0, c.top_pairs.auto.out ∙ h.out_len.1, h.b_len.3)

pub returns : goal.returns
unfolding cleared
returns c =
    let a = c.args in
    let done = c.top_pairs in
    elim c.match-top_pairs.branch [
      | in-Ok w ↦ rw (w.result-is, w.out-is) (answered-by a.n a.k a.b.now a.out.now c.requires.out_len.0 a.pairs.now done.result
          w.in-Ok.is done.ensures (done.auto.out ∙ c.requires.out_len.1) w.trace-total.ensures w.finish.ensures)
      | in-Err w ↦ rw (w.result-is, w.out-is) (refused-by a.n a.k a.b.now a.out.now c.requires.out_len.0 a.pairs.now done.result
          w.in-Err.e w.in-Err.is done.ensures (w.fill.ensures.after (λ _ e. e)))
    ]
