-- `ordination_pcoa::ordinate_front` meets its contract. The first parts are lent to `ordinate`, and come back to the longer slices.
use Rattle.lists.proofs.Base.{ap, ◌∙◌, ℕ, ◌+◌, ◌*◌, take, replicate, length-take-le, rules}
use Rattle.float.specs.Floats.{zero⁺}
use Rattle.lists.specs.Writes.{cleared}
use Rattle.ordination_pcoa.proofs.Calls.{given-leaves, late-ordinate}
use Rattle.ordination_pcoa.proofs.ordinate_front.Goals as goal

pub returns : goal.returns
unfolding cleared
returns c =
    let a = c.args in
    given-leaves a.k a.n _ (late-ordinate a.k a.n (take (a.n * a.n) a.b.now)) a.out.now a.b.now a.work.w.now a.work.m.now a.work.v.now c.ordinate-r.result c.ordinate-r.ensures
    (c.ordinate-r.auto.out ∙ length-take-le (a.k + a.k + a.n * a.k) a.out.now c.requires.k_in_bounds.0)
    (c.fill.ensures.after (λ _ e. e))
    (c.fill-2.ensures.after (λ _ e. e) ∙ ap (λ (j : ℕ). replicate j zero⁺) (search rules))
    (c.fill-3.ensures.after (λ _ e. e) ∙ ap (λ (j : ℕ). replicate j zero⁺) (search rules))
    (c.fill-4.ensures.after (λ _ e. e) ∙ ap (λ (j : ℕ). replicate j zero⁺) (search rules))
