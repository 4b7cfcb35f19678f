-- `ordination_coordinates::checks::check` meets its contract. The groups of lines go one after another, and the first that refuses wins.
use Rattle.lists.proofs.Base.{◌≡◌, sym, ap, ◌∙◌, List, [], ◌++◌, arith, lt-ltb, le-ltb}
use Rattle.outcome.specs.{Numbers.told, Refusals.Line, Refusals.first}
use Rattle.outcome.proofs.Table.{first_holds, first_passes, told-passed, check-refused, check-next, passed-on}
use Rattle.lot.specs.Lines.{matrix_lines}
use Rattle.ordination_coordinates.specs.Lines.{few_lines, pcoa_lines}
use Rattle.ordination_coordinates.proofs.Lines.{sizes_of, sizes-told, sized-fits}
use Rattle.ordination_coordinates.proofs.checks.check.Goals as goal
use Rattle.ordination_coordinates.proofs.checks.check.Goals.{After-check_sizes}

-- the groups of lines
abbrev sizes : After-check_sizes → List Line
sizes c = let a = c.args in sizes_of a.components a.n a.d.now a.l.out a.l.b a.l.w a.l.m a.l.v

abbrev rest : After-check_sizes → List Line
rest c = matrix_lines c.args.n c.args.d.now ++ few_lines c.args.n

sized : (c : After-check_sizes) → told c.check_sizes.result ≡ first (sizes c)
sized c =
    let a = c.args in
    sizes-told a.components a.n a.d.now a.l.out a.l.b a.l.w a.l.m a.l.v c.requires
    c.misfits-misfit.ensures c.bad_components.ensures c.check_sizes.ensures

pub returns-in_err-check_sizes : goal.returns-in_err-check_sizes
unfolding pcoa_lines
returns-in_err-check_sizes c =
    let q = (goal.at.returns-in_err-check_sizes c).After-check_sizes in
    ap told (passed-on _ c.from_residual.ensures.1 ∙ sym c.in_err-check_sizes.was) ∙ check-refused (sizes q) (rest q) (sized q) c.in_err-check_sizes.was

pub check_matrix-requires : goal.check_matrix-requires
check_matrix-requires c =
    let a = c.args in
    let q = (goal.at.check_matrix-requires c).After-check_sizes in
    (sized-fits a.components a.n a.d.now a.l.out a.l.b a.l.w a.l.m a.l.v c.requires (sym (told-passed (sized q) c.in_ok-check_sizes.was))).distances

pub returns-in_err-check_matrix : goal.returns-in_err-check_matrix
unfolding pcoa_lines
returns-in_err-check_matrix c =
    let q = (goal.at.returns-in_err-check_matrix c).After-check_sizes in
    ap told (passed-on _ c.from_residual-in_err-check_matrix.ensures.1 ∙ sym c.in_err-check_matrix.was)
    ∙ check-next (sizes q) (rest q) (sized q) c.in_ok-check_sizes.was
    (check-refused (matrix_lines c.args.n c.args.d.now) (few_lines c.args.n) c.check_matrix.ensures c.in_err-check_matrix.was)

pub returns-then-n-lt3 : goal.returns-then-n-lt3
unfolding pcoa_lines
returns-then-n-lt3 c =
    let q = (goal.at.returns-then-n-lt3 c).After-check_sizes in
    check-next (sizes q) (rest q) (sized q) c.in_ok-check_sizes.was
    (check-next (matrix_lines c.args.n c.args.d.now) (few_lines c.args.n) c.check_matrix.ensures c.in_ok-check_matrix.was
    (sym (first_holds 6 [] (lt-ltb c.args.n 3 (omega (arith, c.if-n-lt3.true))))))

pub returns : goal.returns
unfolding pcoa_lines first
returns c =
    let q = (goal.at.returns c).After-check_sizes in
    check-next (sizes q) (rest q) (sized q) c.in_ok-check_sizes.was
    (check-next (matrix_lines c.args.n c.args.d.now) (few_lines c.args.n) c.check_matrix.ensures c.in_ok-check_matrix.was
    (sym (first_passes 6 [] (le-ltb c.args.n 3 (omega (arith, c.if-n-lt3.false))))))
