-- `ordination_hash_pca::ordinate_sets` meets its contract. A refusal leaves everything as it was; the coordinates of the matrix, or zeros, are left where the lines pass.
use Rattle.lists.proofs.Base.{sym, ap, ◌∙◌, arith, ℕ}
use Rattle.std.specs.Prelude.{Result, Ok, Err}
use Rattle.outcome.specs.declared.Refusal.{Refusal}
use Rattle.outcome.proofs.Table.{passed-on}
use Rattle.ordination_hash_pca.specs.Call.{called}
use Rattle.ordination_hash_pca.proofs.CallHalves.{sets-refused, sets-accepted, sets-settled, said-refused, said-passed}
use Rattle.ordination_hash_pca.proofs.ordinate_sets.Goals as goal

pub matrix-requires : goal.matrix-requires
matrix-requires c = λ e. let l = c.requires.lent e in (l.room.b-fits, l.sets)

pub returns-in_err-features : goal.returns-in_err-features
returns-in_err-features c =
    let a = c.args in
    let r = c.matrix.new in
    ap (λ (x : Result ℕ Refusal). called x a.out.now r.b a.w.now a.m.now a.v.now r.words) (passed-on _ c.from_residual.ensures.1 ∙ sym c.in_err-features.was)
    ∙ sets-refused a.k a.n a.hashes.now a.offsets.now a.short a.beyond a.out.now a.b.now a.w.now a.m.now a.v.now
    a.words.now c.matrix.result c.matrix.ensures _ c.in_err-features.was

pub ordinate_front-requires : goal.ordinate_front-requires
ordinate_front-requires c =
    let a = c.args in
    let s = sets-accepted a.k a.n a.hashes.now a.offsets.now a.short a.beyond a.out.now a.b.now a.w.now a.m.now a.v.now a.words.now
    c.matrix.result c.matrix.ensures c.in_ok-features.features c.in_ok-features.was in
    let l = c.requires.lent s.enough in
    let r = l.room in record {
      n_le_most_samples = (s.few, c.requires.k_le_n.0, c.requires.k_le_n.1 s.limited);
      k_in_bounds = (r.out-fits, omega (arith, r.b-fits, c.matrix.auto.b), r.w_fits, r.m-fits, r.v-fits);
    }

pub returns-in_err-ordinate_front : goal.returns-in_err-ordinate_front
returns-in_err-ordinate_front c =
    let a = c.args in
    let r = c.ordinate_front.new in
    let same = passed-on _ c.from_residual-in_err-ordinate_front.ensures.1 in
    ap (λ (x : Result ℕ Refusal). called x r.out r.b r.work.0 r.work.1.0 r.work.1.1.0 c.matrix.new.words) same
    ∙ sets-settled a.k a.n a.hashes.now a.offsets.now a.short a.beyond a.out.now a.b.now a.w.now a.m.now a.v.now a.words.now
    c.matrix.result c.matrix.ensures c.in_ok-features.features c.in_ok-features.was (Err _) c.matrix.auto.b c.ordinate_front.ensures
    (said-refused c.in_ok-features.features _ c.in_err-ordinate_front.was)

pub returns : goal.returns
returns c =
    let a = c.args in
    sets-settled a.k a.n a.hashes.now a.offsets.now a.short a.beyond a.out.now a.b.now a.w.now a.m.now a.v.now a.words.now
    c.matrix.result c.matrix.ensures c.in_ok-features.features c.in_ok-features.was (Ok c.in_ok-features.features) c.matrix.auto.b c.ordinate_front.ensures
    (said-passed c.in_ok-features.features c.in_ok-ordinate_front.was)
