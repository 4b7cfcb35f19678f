-- Section 4: a whole call of `hash_pca`, its answer and what all that is lent holds afterwards (document 01, the table and below it). Definitions only.
use Rattle.std.specs.Prelude.{ℕ, min, Bool, Result, List, length, Float}
use Rattle.float.specs.Floats.{zero⁺}
use Rattle.outcome.specs.Refusals.{first}
use Rattle.outcome.specs.Outcome.{Outcome, answered, judged, and_then}
use Rattle.outcome.specs.Slices.{work}
use Rattle.outcome.specs.declared.Refusal.{Refusal}
use Rattle.ordination_hashes.specs.Selected.{selected}
use Rattle.ordination_sets.specs.Lines.{gram_lines}
use Rattle.ordination_gram.specs.Call.{outcome_of}
use Rattle.ordination_coordinates.specs.Lengths.{lacking}
use Rattle.ordination_coordinates.specs.Lines.{bad_components}
use Rattle.ordination_coordinates.specs.Finish.{Coordinates}
use Rattle.ordination_coordinates.specs.Pcoa.{hash_pca}
use Rattle.ordination_pcoa.specs.Given.{written}

-- the answer, the number of selected hashes or a refusal, and the slices afterwards
pub record Called : Type 0 where
  pub answer : Outcome ℕ
  pub out : List Float
  pub b : List Float
  pub w : List Float
  pub m : List Float
  pub v : List Float
  pub words : List ℕ

abbrev pub called : Result ℕ Refusal → List Float → List Float → List Float → List Float → List Float → List ℕ → Called
called r out b w m v words = record { answer = outcome_of r; out = out; b = b; w = w; m = m; v = v; words = words }

-- what a call leaves, by what is found from so many selected hashes
unfoldable pub leaves : ℕ → ℕ → ℕ → Outcome Coordinates → List Float → List Float → List Float → List Float → List Float → List ℕ → Called
leaves k n features o out b w m v words =
    record {
      answer = and_then o (λ c. answered features);
      out = written k n o out;
      b = work zero⁺ o b;
      w = work zero⁺ o w;
      m = work zero⁺ o m;
      v = work zero⁺ o v;
      words = work 0 o words;
    }

-- lines 1, 2, 6, 13 and 7 of the table, and then the coordinates
unfoldable pub judged_call : ℕ → ℕ → List ℕ → List ℕ → Bool → Bool → List Float → List Float → List Float → List Float → List Float → List ℕ → Called
judged_call k n hashes offsets short beyond out b w m v words =
    let told = first (gram_lines n hashes offsets short beyond) in
    leaves k n (length (selected n hashes)) (judged told (hash_pca k n hashes offsets)) out b w m v words

-- the meaning of a call of `hash_pca`; components above n mean n
unfoldable pub hash_pca_call : ℕ → ℕ → List ℕ → List ℕ → List Float → List Float → List Float → List Float → List Float → List ℕ → Called
hash_pca_call components n hashes offsets out b w m v words =
    let k = min components n in
    let short = lacking k n (length out) (length b) (length w) (length m) (length v) (length words) in
    judged_call k n hashes offsets short (bad_components components) out b w m v words
