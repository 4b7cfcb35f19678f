-- `eigen_vectors::dot_four` meets its contract. The invariant: with the products from entry k on, each of the four sums is the whole.
use Rattle.lists.proofs.Base.{arith}
use Rattle.eigen_vectors.proofs.Entries.{summing-none, summing-next, summing-all}
use Rattle.eigen_vectors.proofs.dot_four.Goals as goal

pub loop-k-init : goal.loop-k-init
loop-k-init c =
    let x = c.args.x.now in
    let p = c.requires in
    (summing-none (c.args.a.now) x p.0, summing-none (c.args.b.now) x p.1, summing-none (c.args.c.now) x p.2, summing-none (c.args.d.now) x p.3)

pub loop-k-preserved : goal.loop-k-preserved
loop-k-preserved c =
    let p = c.requires in
    let x = c.args.x.now in
    let sums = c.loop-k.invariant in (
      summing-next (c.args.a.now) x (omega (arith, p.0)) sums.0,
      summing-next (c.args.b.now) x (omega (arith, p.1)) sums.1,
      summing-next (c.args.c.now) x (omega (arith, p.2)) sums.2,
      summing-next (c.args.d.now) x (omega (arith, p.3)) sums.3,
    )

pub returns : goal.returns
returns c =
    let p = c.requires in
    let x = c.args.x.now in
    let sums = c.loop-k.invariant in
    rw (
      summing-all (c.args.a.now) x (omega (arith, p.0)) sums.0,
      summing-all (c.args.b.now) x (omega (arith, p.1)) sums.1,
      summing-all (c.args.c.now) x (omega (arith, p.2)) sums.2,
      summing-all (c.args.d.now) x (omega (arith, p.3)) sums.3,
    )
