-- `judge_frames::reader::spelled` meets its contract. What is spelled with the digits that are left is the same at every turn, and after k digits the number is
-- below 16 to the k.
use Rattle.lists.proofs.Base.{◌+◌, sym, ◌∙◌, arith}
use Rattle.judge_frames.proofs.HexFields.{spelled-digit, spelled-other, spelled-end, pow_step, pow-fits}
use Rattle.judge_frames.proofs.reader.spelled.Goals as goal

pub overflow_mul-v : goal.overflow_mul-v
overflow_mul-v c = omega (arith, pow-fits (c.loop-c.c-index + 1) (omega arith), pow_step c.loop-c.c-index c.loop-c.v 0 c.loop-c.invariant.0 (omega arith))

pub returns-in_err-v-clause-value : goal.returns-in_err-v-clause-value
returns-in_err-v-clause-value c =
    let e = spelled-other c.loop-c.v c.args.digits.now c.loop-c.c-index (omega arith) c.in_err-v.ensures.value in
    c.from_residual.ensures ∙ sym e ∙ c.loop-c.invariant.1

pub overflow_add-v : goal.overflow_add-v
overflow_add-v c =
    omega (arith, pow-fits (c.loop-c.c-index + 1) (omega arith), pow_step c.loop-c.c-index c.loop-c.v c.in_ok-v.field-0 c.loop-c.invariant.0 c.in_ok-v.ensures.fits)

pub loop-c-preserved : goal.loop-c-preserved
loop-c-preserved c = (
  pow_step _ _ _ c.loop-c.invariant.0 c.in_ok-v.ensures.fits,
  sym (spelled-digit _ _ c.loop-c.c-index _ (omega arith) c.in_ok-v.ensures.value) ∙ c.loop-c.invariant.1,
)

pub returns-clause-value : goal.returns-clause-value
returns-clause-value c = sym (spelled-end _ _ c.loop-c.c-index (omega arith)) ∙ c.loop-c.invariant.1
