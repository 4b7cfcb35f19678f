-- The frames of a text from one of its places on. Definitions and statements only.
use Rattle.std.specs.Prelude.{ℕ, ◌≡◌, List, map, drop, Option}
use Rattle.judge_frames.specs.declared.reader.Frame.{Frame}
use Rattle.judge_frames.specs.Frame.{frame}
use Rattle.judge_frames.specs.TextLines.{text_lines}
use Rattle.judge_frames.specs.Places.{head, tail}

-- the frames of the lines from place at on
unfoldable pub frames_from : List ℕ → ℕ → List (Option Frame)
frames_from text at = map frame (text_lines (drop at text))

-- f is the first of the frames from place at on, and the others go on from place next
pub record IsLine (text : List ℕ) (at : ℕ) (f : Option Frame) (next : ℕ) : Type 0 where
  pub its-frame : f ≡ head (frames_from text at)
  pub the_rest : frames_from text next ≡ tail (frames_from text at)
