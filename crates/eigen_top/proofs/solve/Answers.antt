-- `eigen_top::solve` meets its contract. The first part goes out and comes back, and the work is cleared.
use Rattle.lists.proofs.Base.{ap, ◌∙◌, ℕ, ◌+◌, ◌*◌, replicate, length-take-le, length_front}
use Rattle.float.specs.Floats.{zero⁺}
use Rattle.lists.specs.Writes.{cleared}
use Rattle.eigen_top.proofs.Calls.{given-leaves}
use Rattle.eigen_top.proofs.solve.Goals as goal

pub top_pairs-r-requires : goal.top_pairs-r-requires
top_pairs-r-requires c =
    let a = c.args in record {
      a_len = (
        c.requires.a_len.0,
        length-take-le _ _ c.requires.n_in_bounds.0,
        length-take-le _ _ c.requires.n_in_bounds.1,
        length-take-le _ _ c.requires.n_in_bounds.2,
        length-take-le _ _ c.requires.n_in_bounds.3,
      );
      n_le_most_samples = (c.requires.a_len.1, c.requires.a_len.2, c.requires.a_len.3);
    }

pub returns : goal.returns
unfolding cleared
returns c =
    let a = c.args in
    let done = c.top_pairs-r in
    let w-long = length_front a.w.now done.new.w (a.n + a.n * a.n) done.auto.w in
    let m-long = length_front a.m.now done.new.m (a.n * a.n) done.auto.m in
    let v-long = length_front a.v.now done.new.v (a.n * a.n) done.auto.v in
    given-leaves _ _ _ _ _ _ _ done.result done.ensures (done.auto.out ∙ length-take-le _ _ c.requires.n_in_bounds.0)
    (c.fill.ensures.after (λ _ e. e) ∙ ap (λ (j : ℕ). replicate j zero⁺) w-long) (c.fill-2.ensures.after (λ _ e. e) ∙ ap (λ (j : ℕ). replicate j zero⁺) m-long)
    (c.fill-3.ensures.after (λ _ e. e) ∙ ap (λ (j : ℕ). replicate j zero⁺) v-long)
