-- `exhaustive_ways::count_ways` meets its contract: m is M of the samples from k on, and at most 20,000.
use Rattle.lists.proofs.Base.{refl, sym, ◌-◌, mul-le-mul, arith, get_or}
use Rattle.exhaustive_ways.proofs.WayCounts.{count_none, count_turn, count-size, count-stops, count-ends, label-count, tally-pos}
use Rattle.exhaustive_ways.proofs.count_ways.Goals as goal

pub loop-k-init : goal.loop-k-init
loop-k-init c = (omega arith, sym (count_none _ c.args.strata.now c.args.groups.now refl))

pub overflow_mul-m : goal.overflow_mul-m
overflow_mul-m c =
    let a = c.args in
    let few = count-size a.strata.now a.groups.now (omega arith) (c.loop-k.k - 1) _ c.size_of.ensures in
    omega (arith, mul-le-mul c.loop-k.invariant.0 few, c.requires.few)

pub nonzero_div-m : goal.nonzero_div-m
nonzero_div-m c =
    let a = c.args in
    let l = c.loop-k in
    omega (arith, c.label_of.ensures, label-count a.strata.now a.groups.now (omega arith) (l.k - 1) (get_or a.strata.now (l.k - 1) 0) (get_or a.groups.now (l.k - 1) 0), tally-pos a.strata.now a.groups.now (l.k - 1) (omega arith) (omega arith))

pub returns-then-m-gt-MOST_WAYS : goal.returns-then-m-gt-MOST_WAYS
returns-then-m-gt-MOST_WAYS c =
    let a = c.args in
    let l = c.loop-k in
    let more = count_turn a.strata.now a.groups.now (omega arith) {k = l.k} (omega arith) (omega arith) l.invariant.1 c.size_of.ensures c.label_of.ensures in
    count-stops a.strata.now a.groups.now (omega arith) (l.k - 1) more c.if-m-gt-MOST_WAYS.true

pub loop-k-preserved : goal.loop-k-preserved
loop-k-preserved c =
    let a = c.args in
    let l = c.loop-k in
    let more = count_turn a.strata.now a.groups.now (omega arith) {k = l.k} (omega arith) (omega arith) l.invariant.1 c.size_of.ensures c.label_of.ensures in
    (omega arith, more)

pub returns : goal.returns
returns c =
    let a = c.args in
    let l = c.loop-k in count-ends a.strata.now a.groups.now (omega arith) l.k c.loop-k-test.false l.invariant.1 l.invariant.0
