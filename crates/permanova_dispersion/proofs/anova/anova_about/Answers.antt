-- `permanova_dispersion::anova::anova_about` meets its contract. The parts are the groups, so the means are theirs.
use Rattle.lists.proofs.Base.{◌≡◌, sym, ap, ap₂, ◌∙◌, List, ℕ, arith, length, take, Float, length-take-le, rules}
use Rattle.float.specs.Floats.{zero⁻}
use Rattle.lists.specs.{Ranges.table, Sums.sum_from}
use Rattle.permanova_sums.specs.PairSums.{at as at_place}
use Rattle.permanova_location.specs.Location.{f_ratio}
use Rattle.permanova_dispersion.specs.Anova.{group_mean, share, residual, anova_f}
use Rattle.grouping.specs.inner.Parts.{part}
use Rattle.grouping.proofs.SortedParts.{part-below}
use Rattle.permanova_dispersion.proofs.AnovaOnParts.{means-are, between_is}
use Rattle.permanova_dispersion.proofs.anova.anova_about.Goals as goal

pub fill-requires-clause-callable : goal.fill-requires-clause-callable
fill-requires-clause-callable c = λ k p h e few _ _ _ _ _ _ _.
    (λ x less. omega (arith, c.requires.z_len.0, part-below _ _ _ _ _ _ c.requires.z_len.3.parts h e x less), few)

pub slice_bounds-residual-end-2 : goal.slice_bounds-residual-end-2
slice_bounds-residual-end-2 c = sym (length-take-le c.args.g c.fill.new.out (omega (arith, c.fill.auto.out)))

pub residual-r-requires : goal.residual-r-requires
residual-r-requires c =
    let means = c.fill.new.out in
    let long : length (take c.args.g means) ≡ c.args.g = length-take-le c.args.g means (omega (arith, c.fill.auto.out)) in
    let pre = c.requires.z_len in
    (omega (arith, pre.0, pre.1), λ x h. omega (arith, long, pre.2 x h))

pub returns : goal.returns
unfolding anova_f
returns c =
    let means : List Float = c.fill.new.out in
    let a = c.args in
    let grouped = c.requires.z_len.3 in
    let are = c.fill.ensures (group_mean a.z.now) (λ k r h e. search rules) in
    c.f_ratio.ensures ∙ ap₂ (λ (b r : Float). f_ratio b r a.m a.g) (c.between-b.ensures
    ∙ ap (λ (x : Float). sum_from zero⁻ (table a.g (λ k. share (part a.groups.now.starts a.groups.now.members k) (at_place means k) x))) c.requires.grand_value
    ∙ between_is _ _ _ _ _ grouped a.z.now a.means.now means are)
    (c.residual-r.ensures ∙ ap (λ (k : ℕ). residual a.z.now (take a.g means) a.lab.now k) c.requires.z_len.0 ∙ ap (λ (l : List Float). residual a.z.now l a.lab.now a.m) (means-are _ _ _ _ _ grouped a.z.now a.means.now means are))
