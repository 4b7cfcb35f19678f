-- `eigen_block::iterate` meets its contract. After t rounds, what is left to do from here gives what was to be done at the start.
use Rattle.lists.proofs.Base.{◌≡◌, refl, sym, ap, ◌∙◌, List, ℕ, arith, length, Float}
use Rattle.eigen_block.specs.Rounds.{ritz}
use Rattle.eigen_block.proofs.RoundFuel.{rounds-none, rounds-end, rounds-on}
use Rattle.eigen_block.proofs.iterate.Goals as goal

-- as many Ritz values as at the start
as_many : (n : ℕ) {k k₀ : ℕ} (q aq : List Float) {l : List Float} → k ≡ k₀ → l ≡ ritz n k q aq → l ≡ ritz n k₀ q aq
as_many n q aq e f = f ∙ ap (λ (k : ℕ). ritz n k q aq) e

pub loop-t-init : goal.loop-t-init
loop-t-init c = (c.requires.3, refl)

pub returns-then-round : goal.returns-then-round
returns-then-round c =
    let a = c.args in
    let made = c.round.ensures in (
      rounds-end _ _ a.b (length (a.before.now)) a.shift c.loop-t._t c.loop-t.before c.loop-t.q
          (omega (arith, c.loop-t-test.true)) made.0
          (as_many _ _ _ c.loop-t.auto.before made.2) (sym made.3 ∙ c.if-round.true) ∙ c.loop-t.invariant.1,
      made.1,
    )

pub loop-t-preserved : goal.loop-t-preserved
loop-t-preserved c =
    let a = c.args in
    let made = c.round.ensures in (
      made.1,
      rounds-on _ _ a.b (length (a.before.now)) a.shift c.loop-t._t c.loop-t.before c.loop-t.q
          (omega (arith, c.loop-t-test.true)) made.0
          (as_many _ _ _ c.loop-t.auto.before made.2) (sym made.3 ∙ c.if-round.false) ∙ c.loop-t.invariant.1,
    )

pub returns : goal.returns
returns c =
    let a = c.args in
    (rounds-none _ _ a.b (length (a.before.now)) a.shift c.loop-t._t c.loop-t.before c.loop-t.q (omega arith) ∙ c.loop-t.invariant.1, c.loop-t.invariant.0)
