-- What is printed of an answer.
use Rattle.lists.proofs.Base.{ℕ, ◌≤◌, ◌≡◌, sym, ap, ◌∙◌, List, arith, length}
use Rattle.limits.specs.Limits.{most_printed}
use Rattle.outcome.specs.declared.Refusal.{Refusal}
use Rattle.outcome.specs.Numbers.{number}
use Rattle.outcome.specs.Outcome.{Outcome, answered, refused}
use Rattle.exhaustive_hits.specs.declared.judgement.Judgement.{Judgement}
use Rattle.std.specs.Prelude.{Result, Ok, Err}
use Rattle.exhaustive_hits.specs.Call.{answer_of}
use Rattle.judge_printing.specs.inner.Written.{Wrote}
use Rattle.judge_printing.specs.{Hex.hex, Page.page, Page.onto, Printed.tested_line, Printed.assigned_line, Printed.verdict_lines, Printed.refusal_line, Printed.printed}
use Rattle.judge_printing.proofs.Writing.{wrote-onto}

pub printed-judged : (old : List ℕ) {new : List ℕ} {next : ℕ} {a : Result Judgement Refusal} {v : Judgement} → a ≡ Ok v → most_printed ≤ length old → Wrote old 0 most_printed (verdict_lines v) new next →
    page next new ≡ onto (printed (answer_of a)) old
unfolding printed
printed-judged old e h w = wrote-onto h w ∙ ap (λ (a : Result Judgement Refusal). onto (printed (answer_of a)) old) (sym e)

pub printed-refused : (old : List ℕ) {new : List ℕ} {next : ℕ} {a : Result Judgement Refusal} {r : Refusal} → a ≡ Err r → 5 ≤ length old → Wrote old 0 5 (refusal_line (number r)) new next →
    page next new ≡ onto (printed (answer_of a)) old
unfolding printed
printed-refused old e h w = wrote-onto h w ∙ ap (λ (a : Result Judgement Refusal). onto (printed (answer_of a)) old) (sym e)

-- what is printed has room
pub printed-fits : (o : Outcome Judgement) → length (printed o) ≤ most_printed
unfolding printed verdict_lines tested_line assigned_line refusal_line hex
printed-fits (answered v) = omega arith
printed-fits (refused r) = omega arith
