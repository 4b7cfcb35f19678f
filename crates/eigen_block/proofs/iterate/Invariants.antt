-- `eigen_block::iterate` meets its contract. After t rounds, what is left to do from here gives what was to be done at the start.
use Rattle.lists.proofs.Base.{◌≡◌, ◌-◌, length}
use Rattle.eigen_vectors.specs.Products.{times_block}
use Rattle.eigen_block.specs.Rounds.{iterate}
use Rattle.eigen_block.proofs.iterate.Given as goal

abbrev pub invariant-loop-t : goal.invariant-loop-t
invariant-loop-t l = (l.aq ≡ times_block l.a.n l.a.entries.now l.b l.q)
    × (iterate (3000 - l._t) l.a.n l.a.entries.now l.b (length l.initial.before) l.shift l.before l.q ≡ iterate 3000 l.a.n l.a.entries.now l.b (length l.initial.before) l.shift l.initial.before l.initial.q)
