-- `lot_design::strata::informs` meets its contract. A sample of the stratum of k in another group is looked for.
use Rattle.std.proofs.Common.{rules, ◌∙◌, ℕ, ◌&&◌, not, eqb, get_or}
use borrow.Author.Tests.{tests}
use Rattle.std.proofs.lemmas.Iterator.{YieldsList-from_slice, YieldsList-from_zip}
use Rattle.lists.proofs.Chains.{any_ran, any-zip}
use Rattle.lot.proofs.Informing.{informs-other}
use Rattle.lot_design.proofs.strata.informs.Goals as goal

pub returns : goal.returns
returns c =
    let ss = c.args.ss.now in
    let gs = c.args.gs.now in
    let k = c.args.k in
    any_ran (λ (p : ℕ × ℕ). eqb p.0 (get_or ss k 0) && not (eqb p.1 (get_or gs k 0))) c.any.new.self _ c.any.result c.any.ensures.ran
    (YieldsList-from_zip (YieldsList-from_slice {s = c.zip.result.a} ss (cc)) (YieldsList-from_slice {s = c.zip.result.b} gs (cc))) (λ x b q k. search (rules, tests))
    ∙ any-zip _ ss gs 0 0 c.requires.0 ∙ informs-other _ _ _ _ c.requires.1
