-- A whole call of `gram_matrix`: its answer, and what all that is lent holds afterwards. Definitions only.
use Rattle.std.specs.Prelude.{ℕ, ◌*◌, Bool, false, List, length, Float, Result}
use Rattle.float.specs.Floats.{zero⁺}
use Rattle.outcome.specs.Refusals.{first}
use Rattle.outcome.specs.declared.Refusal.{Refusal}
use Rattle.outcome.specs.Numbers as outcomes
use Rattle.outcome.specs.Outcome.{Outcome, answered, judged}
use Rattle.outcome.specs.Slices.{output, work}
use Rattle.ordination_hashes.specs.Selected.{selected}
use Rattle.ordination_gram.specs.Gram.{gram}
use Rattle.ordination_sets.specs.Lines.{too_short, gram_lines}

-- the answer for any arguments: the number of selected hashes, or a refusal
unfoldable pub features : ℕ → List ℕ → List ℕ → Bool → Bool → Outcome ℕ
features n hashes offsets short beyond = judged (first (gram_lines n hashes offsets short beyond)) (answered (length (selected n hashes)))

-- the answer as it is returned
abbrev pub outcome_of : Result ℕ Refusal → Outcome ℕ
outcome_of r = outcomes.outcome_of r

-- ---- the whole call: the answer, the output and the work slice afterwards
pub data Called : Type 0 where
  leaves : Outcome ℕ → List Float → List ℕ → Called

-- of `gram_matrix`
unfoldable pub gram_call : ℕ → List ℕ → List ℕ → List Float → List ℕ → Called
gram_call n hashes offsets out words =
    let o = features n hashes offsets (too_short n (length out) (length words)) false in
    leaves o (output zero⁺ (λ m. gram n hashes offsets) (n * n) o out) (work 0 o words)

-- how a contract says it: what is returned, and what the slices hold
abbrev pub called : Result ℕ Refusal → List Float → List ℕ → Called
called r out words = leaves (outcome_of r) out words
