-- `exhaustive_ways::label_of` meets its contract: the pairs of stratum and label that pass are counted.
use Rattle.std.proofs.Common.{rules}
use borrow.Author.Tests.{tests}
use Rattle.std.proofs.lemmas.List.Sums.{length-filter}
use Rattle.std.proofs.lemmas.Iterator.{YieldsList-from_slice, YieldsList-from_zip}
use Rattle.std.proofs.lemmas.Iterator.Consumers.{YieldsList-from_filter, count_from_yields_List}
use Rattle.std.specs.List.{zip}
use Rattle.lists.proofs.Base.{◌∙◌, Bool, ◌&&◌, eqb, ℕ}
use Rattle.exhaustive_ways.proofs.WayCounts.{tally_from}
use Rattle.exhaustive_ways.proofs.label_of.Goals as goal

pub returns : goal.returns
returns c =
    let a = c.args in
    let test : ℕ × ℕ → Bool = λ w. eqb w.0 a.s && eqb w.1 a.j in
    let chain = YieldsList-from_zip (YieldsList-from_slice a.strata.now cc) (YieldsList-from_slice a.groups.now cc) in
    tally_from a.strata.now a.groups.now a.s a.j
    (count_from_yields_List c.filter.result c.count.result c.count.ensures.ran (YieldsList-from_filter _ test chain c.filter.ensures.closure (λ x b q k. search (rules, tests)))
    ∙ length-filter test (zip a.strata.now a.groups.now))
