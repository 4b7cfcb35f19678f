-- `permanova_statistics::observation::list_groups` meets its contract. The parts are the members of the groups.
use Rattle.lists.proofs.Base.{ap, ◌∙◌, List, ℕ, arith, rules, length, Float}
use Rattle.lists.specs.Writes.{over}
use Rattle.grouping.proofs.SortedParts.{on-members, part-below}
use Rattle.lot.specs.Kept.{sizes}
use Rattle.permanova_dispersion.specs.Anova.{mean_of, mean_z}
use Rattle.permanova_statistics.proofs.observation.list_groups.Goals as goal

pub fill-requires-2-clause-callable : goal.fill-requires-2-clause-callable
fill-requires-2-clause-callable c = λ k p h e few _ _ _ _ _ _ _.
    (λ x less. omega (arith, c.requires.z_long, part-below _ _ _ _ _ _ c.requires.parts h e x less), few)

pub returns : goal.returns
unfolding sizes mean_z
returns c gs grouped = (
  c.fill.ensures length (λ k r h e. search rules) ∙ ap (λ (l : List ℕ). over l c.args.counts.now) (on-members _ _ _ _ _ grouped (λ k. length)),
  c.fill-2.ensures (mean_of c.args.z.now) (λ k r h e. search rules)
      ∙ ap (λ (l : List Float). over l c.args.means.now) (on-members _ _ _ _ _ grouped (λ k. mean_of c.args.z.now)),
)
