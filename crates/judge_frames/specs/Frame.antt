-- Section 7: the frame of a line. Definitions only.
use Rattle.std.specs.Prelude.{ℕ, cond, List, eqb, length, Option, Some, None, option_and_then}
use Rattle.judge_frames.specs.Hex.{field_at}
use Rattle.judge_frames.specs.declared.reader.Frame.{Frame}
use Rattle.judge_frames.specs.declared.reader.Frame.TheVariants.{Header as OfHeader, Sample as OfSample, Pair as OfPair, End}

infixl 10 ◌>>=◌
abbrev pub ◌>>=◌ : {A B : Type 0} → Option A → (A → Option B) → Option B
o >>= f = option_and_then f o

-- ---- the numbers that follow a line's kind, if none is malformed

-- n, strata given
unfoldable pub opening : List ℕ → Option Frame
opening line = do
  n ← field_at line 2 2
  flag ← field_at line 4 2
  Some (OfHeader (record { n = n; flag = flag }))

-- index, label, stratum
unfoldable pub sample : List ℕ → Option Frame
sample line = do
  index ← field_at line 2 2
  label ← field_at line 4 4
  stratum ← field_at line 8 4
  Some (OfSample (record { index = index; label = label; stratum = stratum }))

-- i, j, f64 bits
unfoldable pub pair : List ℕ → Option Frame
pair line = do
  i ← field_at line 2 2
  j ← field_at line 4 2
  bits ← field_at line 6 16
  Some (OfPair (record { i = i; j = j; bits = bits }))

-- ---- a line

-- so many digits, and nothing more
abbrev pub of_length : ℕ → List ℕ → Option Frame → Option Frame
of_length k line f = cond (eqb (length line) k) f None

-- `a1`, `a2` and `a3` with their numbers; `af`
unfoldable pub of_kind : List ℕ → ℕ → Option Frame
of_kind line kind =
    cond (eqb kind 0xa1) (of_length 6 line (opening line))
    (cond (eqb kind 0xa2) (of_length 12 line (sample line))
    (cond (eqb kind 0xa3) (of_length 22 line (pair line))
    (cond (eqb kind 0xaf) (of_length 2 line (Some End)) None)))

-- none of a malformed line
unfoldable pub frame : List ℕ → Option Frame
frame line = field_at line 0 2 >>= of_kind line
