-- `judge_frames::reader::digits_at` meets its contract: the tests tell whether the digits are within the line.
use Rattle.lists.proofs.Base.{ℕ, ◌+◌, ◌-◌, ◌≡◌, sym, ap, ◌∙◌, take, drop, arith}
use Rattle.judge_frames.specs.Hex.{spelled}
use Rattle.judge_frames.proofs.HexFields.{field-there, field-long, field_past}
use Rattle.judge_frames.proofs.reader.digits_at.Goals as goal
use Rattle.judge_frames.proofs.reader.digits_at.Goals.{then-count-gt16-via-then-count-gt16, then-count-gt16-via-else-count-gt16+then-line-count, then-count-gt16-via-else-count-gt16+else-line-count+then-line-count-2}

pub returns-then-count-gt16-clause-value : goal.returns-then-count-gt16-clause-value
returns-then-count-gt16-clause-value c = elim c.then-count-gt16.branch [
  | then-count-gt16-via-then-count-gt16 w ↦ sym (field-long _ _ _ w.if-count-gt16.true)
  | then-count-gt16-via-else-count-gt16+then-line-count w ↦ sym (field_past _ _ _ (omega arith) (omega arith))
  | then-count-gt16-via-else-count-gt16+else-line-count+then-line-count-2 w ↦ sym (field_past _ _ _ (omega arith) (omega arith))
]

pub returns-clause-value : goal.returns-clause-value
returns-clause-value c =
    let same : c.args.at + c.args.count - c.args.at ≡ c.args.count = omega arith in
    c.spelled.ensures.value ∙ ap (λ (k : ℕ). spelled 0 (take k (drop c.args.at c.args.line.now))) same ∙ sym (field-there _ _ _ c.if-count-gt16.false (omega arith))
