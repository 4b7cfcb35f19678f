-- `permanova_statistics::summary::summarise` meets its contract. The warnings fit a byte, and the parts are the lot's.
use Rattle.permanova_statistics.proofs.SummaryParts.{warnings-fit, summary-is}
use Rattle.permanova_statistics.proofs.summary.summarise.Goals as goal

pub overflow_add-result : goal.overflow_add-result
overflow_add-result c =
    record {
      fits = warnings-fit c.args.d.left_out c.uninformed-none.result c.few_inform-few.result c.some_small-small.result
          c.args.o.negative c.warning-bits.ensures c.requires.1;
    }

pub returns : goal.returns
returns c lot e eo ec =
    summary-is lot c.args.more e eo ec c.fraction-fraction.ensures c.uninformed-none.ensures c.few_inform-few.ensures c.some_small-small.ensures
    c.warning-bits.ensures
