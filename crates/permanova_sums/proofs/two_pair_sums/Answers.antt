-- `permanova_sums::two_pair_sums` meets its contract. What is left of both lists is of one length; each list's first members, then its rest, are its pair sum.
use Rattle.lists.proofs.Base.{arith}
use Rattle.permanova_sums.proofs.LaterMembers.{below_rest, length_rest, first_rest}
use Rattle.permanova_sums.proofs.two_pair_sums.Goals as goal

pub add_pairs-requires : goal.add_pairs-requires
add_pairs-requires c =
    let i = c.saturating_sub-i.result in
    let j = c.saturating_sub-j.result in
    let m = c.args.m in
    let p = c.args.p.now in
    let q = c.args.q.now in
    let pre = c.requires in
    (pre.0, below_rest m p i pre.1, below_rest m q j pre.2, omega (arith, length_rest p i, length_rest q j, c.saturating_sub-i.ensures, c.saturating_sub-j.ensures))

pub returns : goal.returns
returns c =
    let args = c.args in
    let t = args.t.now in (
      first_rest t args.m args.p.now c.saturating_sub-i.result (omega (arith, c.saturating_sub-i.ensures)) c.first_pairs-s.ensures c.add_pairs.ensures.0,
      first_rest t args.m args.q.now c.saturating_sub-j.result (omega (arith, c.saturating_sub-j.ensures)) c.first_pairs-u.ensures c.add_pairs.ensures.1,
    )
