-- Section 7's example, from text to text.
use Rattle.lists.proofs.Base.{◌≡◌, refl, ap, ◌∙◌, List, [], ◌∷◌, ◌++◌, ℕ}
use lib.Ieee.{of_bits, to_bits}
use Rattle.outcome.specs.Outcome.{Outcome, answered, and_then}
use Rattle.lot.specs.Lot.{Lot}
use Rattle.judge_frames.specs.Frames.{read_lot}
use Rattle.judge_printing.specs.{Hex.hex, Printed.tested_line, Printed.assigned_line, Printed.verdict_lines, Printed.refusal_line, Printed.printed}
use Rattle.exhaustive_hits.specs.WayHits.{is_given}
use Rattle.judge.specs.{Judged.judgement, Judge.judge_text}
use Rattle.cases.specs.{Text.bytes, Example.input, Example.upper, Example.output, Example.Example}
use Rattle.cases.proofs.{ExampleReading.lot, ExampleReading.the-input, ExampleReading.in-upper-case, ExampleReading.after-the-end, ExampleVerdict.verdict, ExampleVerdict.judged}

the-output : printed (answered verdict) ≡ output
unfolding bytes output printed verdict_lines tested_line assigned_line is_given hex verdict of_bits to_bits
the-output = refl

-- of any text that describes the lot
printed-for : (text : List ℕ) → read_lot text ≡ answered lot → judge_text text ≡ output
unfolding judge_text and_then
printed-for text e = ap (λ (o : Outcome Lot). printed (and_then o judgement)) e ∙ ap printed judged ∙ the-output

refused-first : judge_text (input ++ (10 ∷ [])) ≡ bytes "bf0c\n"
unfolding bytes judge_text and_then printed refusal_line hex
refused-first = ap (λ (o : Outcome Lot). printed (and_then o judgement)) after-the-end

pub example : Example
example = record { judged = printed-for input the-input; in_upper_case = printed-for upper in-upper-case; after_the_end = refused-first }
