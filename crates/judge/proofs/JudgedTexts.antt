-- From what `read_lot`, `judge_lot` and `print` leave to the meaning of the whole.
use Rattle.lists.proofs.Base.{ℕ, ◌+◌, ◌≤◌, ◌≡◌, sym, ap, ◌∙◌, List, arith, length, take, drop, length-append, Float}
use Rattle.limits.specs.Limits.{most_text, most_printed}
use Rattle.lists.specs.Writes.{over}
use Rattle.outcome.specs.declared.Refusal.{Refusal}
use Rattle.outcome.specs.{Numbers.number, Outcome.Outcome, Outcome.refused, Outcome.and_then}
use Rattle.lot.specs.Lot.{Lot}
use Rattle.exhaustive_hits.specs.declared.judgement.Judgement.{Judgement}
use Rattle.judge_frames.specs.{Frames.read_lot, Fits.Fits, Call.read_call, Call.called, Call.fronts}
use Rattle.judge_frames.specs.declared.Header.{Header}
use Rattle.std.specs.Prelude.{Result, Ok, Err}
use Rattle.judge_frames.proofs.{Fits.read_fits, ReadFronts.read-fronts, ReadFronts.read-refused, LongestText.front-tells}
use Rattle.judge_printing.specs.{Page.Page, Page.page, Page.onto, Printed.printed}
use Rattle.judge_printing.proofs.Printing.{printed-fits}
use Rattle.judge.specs.{Judged.judgement, Judge.judge_text}

module _ (text : List ℕ) (a : Result Header Refusal) {l s : List ℕ} {d : List Float} (e : called a l s d ≡ read_call text) where
  this-read : (b : Result Header Refusal) → a ≡ b → called b l s d ≡ read_call text
  this-read b i = ap (λ (a : Result Header Refusal). called a l s d) (sym i) ∙ e

  -- a lot was read
  pub fits-front : {h : Header} → a ≡ Ok h → Fits (fronts h l s d)
  fits-front {h} i = read_fits text (fronts h l s d) (read-fronts text (this-read (Ok h) i))

  pub of-lot : {h : Header} {o : Outcome Judgement} → a ≡ Ok h → o ≡ judgement (fronts h l s d) → o ≡ and_then (read_lot text) judgement
  unfolding and_then
  of-lot {h} i j = j ∙ ap (λ (o : Outcome Lot). and_then o judgement) (sym (read-fronts text (this-read (Ok h) i)))

  -- the text was refused
  pub of-refusal : {x : Refusal} → a ≡ Err x → ◌≡◌ {A = Outcome Judgement} (refused (number x)) (and_then (read_lot text) judgement)
  unfolding and_then
  of-refusal {x} i = ap (λ (o : Outcome Lot). and_then o judgement) (sym (read-refused text x (this-read (Err x) i)))

-- that is printed
pub judged-text : (text out : List ℕ) {o : Outcome Judgement} {new : List ℕ} {size : ℕ} → o ≡ and_then (read_lot text) judgement →
    page size new ≡ onto (printed o) out → page size new ≡ onto (judge_text text) out
unfolding judge_text
judged-text text out e p = p ∙ ap (λ (o : Outcome Judgement). onto (printed o) out) e

-- what is printed stands in the output
pub size_fits : (text out : List ℕ) {new : List ℕ} {size : ℕ} → page size new ≡ onto text out → size ≤ length new
unfolding onto over
size_fits text out {new} {size} e =
    let s : size ≡ length text = ap (λ (p : Page). p.size) e in
    let b : length new ≡ length (over text out) = ap (λ (p : Page). length p.bytes) e in
    omega (arith, s, b, length-append text (drop (length text) out))

-- the first 11,835 bytes of a text tell what is printed
pub front-enough : (text : List ℕ) → judge_text (take (most_text + 1) text) ≡ judge_text text
unfolding judge_text
front-enough text = ap (λ (o : Outcome Lot). printed (and_then o judgement)) (front-tells text)

-- what is printed has room
pub judge-fits : (text : List ℕ) → length (judge_text text) ≤ most_printed
unfolding judge_text
judge-fits text = printed-fits _
