-- Section 7: the frames of a text's lines, from a place on, and the end. Definitions and statements only.
use Rattle.std.specs.Prelude.{Bool, true, false, ◌&&◌, List, [], ◌∷◌, eqb, length, Option, Some, None}
use Rattle.judge_frames.specs.declared.reader.Frame.{Frame}
use Rattle.judge_frames.specs.declared.reader.Frame.TheVariants.{Header as OfHeader, Sample as OfSample, Pair as OfPair, End}

-- the first of some lines' frames, none where there is no line, and the others
unfoldable pub head : List (Option Frame) → Option Frame
head [] = None
head (f ∷ fs) = f

unfoldable pub tail : List (Option Frame) → List (Option Frame)
tail [] = []
tail (f ∷ fs) = fs

abbrev pub closes : Option Frame → Bool
closes (Some (OfHeader h)) = false
closes (Some (OfSample s)) = false
closes (Some (OfPair p)) = false
closes (Some End) = true
closes None = false

-- `af`, and nothing after it
unfoldable pub is_end : List (Option Frame) → Bool
is_end [] = false
is_end (f ∷ fs) = closes f && eqb (length fs) 0
