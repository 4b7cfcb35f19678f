-- `permanova_sampling::hits::draw` meets its contract. The strata become parts of a list, and the shuffles within them are counted.
use Rattle.lists.proofs.Base.{◌≡◌, ◌∙◌, ℕ, subst, arith, rules, length, length-take-le}
use Rattle.grouping.specs.inner.Parts.{Grouped}
use Rattle.lot_design.specs.inner.Designs.{groups_of, strata_of}
use Rattle.permanova_sampling.specs.inner.Drawn.{shape_of, drawn}
use Rattle.permanova_sampling.proofs.ShuffleHits.{hits-within}
use Rattle.permanova_sampling.proofs.hits.draw.Goals as goal

pub returns : goal.returns
unfolding drawn
returns c =
    let a = c.args in
    let long : length a.d.stratum ≡ 256 = search rules in
    let fits : length (strata_of a.d) ≡ a.d.kept = length-take-le _ _ (let few = c.requires.0.sound.few in omega arith) in
    let parts = subst (λ (m : ℕ). Grouped (strata_of a.d) m a.d.strata c.sort.new.self.starts c.sort.new.self.members) fits c.sort.ensures in
    c.count_hits.ensures ∙ hits-within a.over.pair_terms.now a.over.weights.now a.over.z.now (shape_of a.d) a.seen a.over.total a.draws.many (strata_of a.d)
    a.d.kept a.d.strata _ _ (groups_of a.d) a.draws.seed parts
