-- `ordination_gram::columns::fill_gram` meets its contract: what the loops leave is the matrix, and the words are cleared at the end.
use Rattle.lists.proofs.Base.{sym, ap, ap₂, ◌∙◌, List, map, ℕ, ◌*◌, ◌≤◌, arith, length, replicate, Float}
use native.Mathlib.Nat.{mul-le-mul_left}
use Rattle.limits.specs.Limits.{selected_words}
use Rattle.lists.specs.{Sums.sum⁻, Writes.over, Writes.cleared}
use Rattle.ordination_hashes.specs.inner.Columns.{column_of}
use Rattle.ordination_gram.specs.inner.Columns.{square, column_gram}
use Rattle.ordination_gram.proofs.FilledMatrix.{matrix-is}
use Rattle.ordination_gram.proofs.columns.fill_gram.Goals as goal
use Rattle.ordination_gram.proofs.columns.fill_gram.Goals.{After-div_ceil-w}

-- w words hold m bits, for as many as can be selected
room : (c : After-div_ceil-w) → let w = c.div_ceil-w.result in let m = length c.args.means.now in
    (c.args.n * w ≤ length c.args.words.now) × (m ≤ w * 64) × (w ≤ selected_words)
room c =
    let few : c.div_ceil-w.result ≤ selected_words = omega (arith, c.div_ceil-w.ensures, c.requires.offsets.1) in
    (omega (arith, c.requires.n_in_bounds.1, mul-le-mul_left c.args.n few), omega (arith, c.div_ceil-w.ensures), few)

pub mark_sets-requires : goal.mark_sets-requires
mark_sets-requires c =
    let r = room (goal.at.mark_sets-requires c).After-div_ceil-w in
    let same = ap length c.new-columns.ensures.1 in
    (c.requires.offsets.0, r.0, c.requires.n_in_bounds.2, omega (arith, same, r.1), omega (arith, same, c.requires.offsets.1))

pub fill-requires : goal.fill-requires
fill-requires c =
    let r = room (goal.at.fill-requires c).After-div_ceil-w in
    (c.requires.n_in_bounds.0, omega (arith, r.0, c.mark_sets.auto.words), r.2, omega (arith, c.requires.n_in_bounds.2, c.mark_sets.auto.sums))

pub returns : goal.returns
unfolding cleared
returns c =
    let a = c.args in
    let k = c.new-columns.result in
    let made = c.new-columns.ensures in
    let r = room (goal.at.returns c).After-div_ceil-w in
    let enough : length k.means.now ≤ c.div_ceil-w.result * 64 = omega (arith, ap length made.1, r.1) in
    let sets = c.mark_sets in
    let squares = c.square_sum-t.ensures ∙ ap (λ (y : List Float). sum⁻ (map square y)) (sym made.1) in
    let matrix = matrix-is a.n c.div_ceil-w.result (map (column_of k.hashes.now) a.hashes.now) a.offsets.now k.means.now enough
    a.words.now sets.ensures.0 a.sums.now sets.ensures.1 squares in
    let same = ap₂ (λ (x : List ℕ) (y : List Float). over (column_gram a.n (map (column_of x) a.hashes.now) a.offsets.now y) a.out.now) made.0 made.1 in
    (c.fill.ensures ∙ ap (λ (g : List Float). over g a.out.now) matrix ∙ same, c.fill-2.ensures.after (λ _ e. e) ∙ ap (λ (k : ℕ). replicate k 0) sets.auto.words)
