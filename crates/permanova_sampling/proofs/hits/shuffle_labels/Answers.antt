-- `permanova_sampling::hits::shuffle_labels` meets its contract. A shuffle gives each sample a group, and the groups get their members.
use Rattle.lists.proofs.Base.{◌∙◌, ℕ, sym, subst, arith}
use Rattle.grouping.specs.inner.Parts.{Parts, Grouped}
use Rattle.shuffle.proofs.Shuffles.{labels-are}
use Rattle.permanova_sampling.proofs.ShuffleHits.{labelled-again}
use Rattle.permanova_sampling.proofs.hits.shuffle_labels.Goals as goal

pub shuffle_again-requires : goal.shuffle_again-requires
shuffle_again-requires c =
    let a = c.args in
    let parts = subst (λ (m : ℕ). Parts m a.sizes.strata a.strata.now.starts a.strata.now.members) (sym c.requires.1) c.requires.0.strata in
    (parts, c.requires.0.labelled.labels ∙ sym c.requires.1)

pub sort-requires : goal.sort-requires
sort-requires c = let l = c.requires.0.labelled in (omega (arith, c.shuffle_again.auto.lab), omega (arith, l.enough, l.few))

pub returns : goal.returns
returns c =
    let dealt = labels-are c.shuffle_again.ensures in
    let long = c.shuffle_again.auto.lab ∙ c.requires.1 in
    record {
      shuffled = dealt;
      assigned = record {
        labelled = labelled-again c.requires.0 c.args.seed c.args.i dealt;
        members = subst (λ (m : ℕ). Grouped c.shuffle_again.new.lab m c.args.sizes.groups c.sort.new.self.starts c.sort.new.self.members) long c.sort.ensures;
      };
    }
