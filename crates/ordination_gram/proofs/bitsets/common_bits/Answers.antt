-- `ordination_gram::bitsets::common_bits` meets its contract: the bits that two words share, summed.
use Rattle.lists.proofs.Base.{◌∙◌, sym, arith}
use Rattle.std.proofs.Common.{rules, zip}
use Rattle.std.proofs.lemmas.Iterator.{YieldsList-from_slice, YieldsList-from_zip, YieldsList-from_map}
use Rattle.std.proofs.lemmas.Iterator.Consumers.{sum_by_from_yields_List}
use Rattle.ordination_gram.proofs.SharedColumns.{shared_bits, common-sum, common-most}
use Rattle.ordination_gram.proofs.bitsets.common_bits.Goals as goal

pub returns : goal.returns
returns c =
    let x = c.args.x.now in
    let y = c.args.y.now in
    let total = sum_by_from_yields_List shared_bits (zip x y) _ _ c.sum.ensures.ran
    (YieldsList-from_map _ shared_bits (YieldsList-from_zip (YieldsList-from_slice x cc) (YieldsList-from_slice y cc)) c.map.ensures.closure (λ p r q k. search rules))
    ∙ sym (common-sum x y) in
    (total, omega (arith, total, common-most x y (λ i. (c.type_inv.x i).fits) (λ i. (c.type_inv.y i).fits)))
