-- `dapc_cholesky::factor` meets its contract. After i turns the first i rows stand there, and their pivots are tested.
use Rattle.lists.proofs.Base.{sym, ap, subst, ◌∙◌, Bool, not, cond, ◌+◌, ◌*◌, arith, length, length-replicate}
use Rattle.float.specs.Floats.{zero⁺}
use Rattle.lists.proofs.{Loops.in_turn-none, Truths.or-true, Truths.or-false, Filters.range-any-none}
use Rattle.outcome.specs.Outcome.{Told, refused, passed}
use Rattle.dapc_cholesky.proofs.Pivots.{Factoring, factoring-next, factoring-all}
use Rattle.dapc_cholesky.proofs.factor.Goals as goal
use Rattle.dapc_cholesky.proofs.factor.Goals.{then-not-s, else-not-s}

-- what is returned, by the test of all pivots
abbrev pivot_told : Bool → Told
pivot_told fails = cond fails (refused 10) passed

pub loop-i-init : goal.loop-i-init
loop-i-init c = record { most = omega arith; long = ap length c.requires.1 ∙ length-replicate (c.args.p * c.args.p) zero⁺; held = c.requires.1 ∙ in_turn-none _ _; told = sym (range-any-none _ 0 0 (omega arith)) }

pub factor_row-s-requires : goal.factor_row-s-requires
factor_row-s-requires c = (c.requires.0, c.loop-i.invariant.long, c.loop-i-test.true)

pub loop-i-preserved : goal.loop-i-preserved
loop-i-preserved c =
    let row = c.factor_row-s in
    let turn = c.loop-i in
    let a = c.args in
    let next : Bool → Type 0 = λ t. Factoring a.p a.a.now row.new.l t (turn.i + 1) in
    let long = row.auto.l ∙ turn.invariant.long in
    elim c.if-not-s.branch [
      | then-not-s w ↦ subst next (or-true turn.fails ∙ sym w.fails-is)
          (factoring-next _ _ turn.l turn.invariant c.loop-i-test.true long row.ensures.0 row.ensures.1 (ap not w.if-not-s.true))
      | else-not-s w ↦ subst next (or-false turn.fails ∙ sym w.fails-is)
          (factoring-next _ _ turn.l turn.invariant c.loop-i-test.true long row.ensures.0 row.ensures.1 (ap not w.if-not-s.false))
    ]

pub returns-then-fails : goal.returns-then-fails
returns-then-fails c =
    let all = factoring-all _ _ c.loop-i.invariant c.loop-i-test.false in
    (all.0, ap pivot_told (sym c.if-fails.true ∙ all.1))

pub returns : goal.returns
returns c =
    let all = factoring-all _ _ c.loop-i.invariant c.loop-i-test.false in
    (all.0, ap pivot_told (sym c.if-fails.false ∙ all.1))
